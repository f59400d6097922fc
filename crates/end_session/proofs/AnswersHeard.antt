-- A server that hears the answer to a Soft-Sync request stands for one act more.
use Rattle.std.proofs.Common.{◌≡◌, ℕ, zero, suc, ◌+◌, Bool, true, false, cond, not, ◌&&◌, ◌||◌, List, [], ◌∷◌, ◌++◌, length, append-nil, Some, None, refl, sym, ap, subst, ◌∙◌, arith}
use Rattle.mt_base.specs.declared.kinds.Kind.{Kind}
use Rattle.mt_base.specs.declared.kinds.Kind.TheVariants.{Reliable, Lossy}
use Rattle.mt_base.specs.declared.kinds.Role.{Role}
use Rattle.mt_base.specs.declared.kinds.Role.TheVariants.{Server, Client}
use Rattle.mt_base.specs.Trace.{Trace, ◌▷◌}
use Rattle.dvc_pdus.specs.Value.{SyncResponse}
use Rattle.soft_sync.specs.declared.kinds.Kinds.{Kinds}
use Rattle.soft_sync.specs.Exchanges.{Answer, Exchange, Request, behind, behind_from, exchanges, giving, has, is_given, is_named, names, naming, no_kinds, set_kind, with_answer}
use Rattle.soft_sync.specs.Words.{Words}
use Rattle.mt_endpoint.specs.Acts.{Act, Hears, Spoken}
use Rattle.mt_endpoint.specs.Faults.{BadSyncAnswer, Unexpected, answers_fault, is_answer_to, main_fault, when}
use Rattle.mt_endpoint.specs.Moving.{all_told, answer_made, answer_read, kinds_of, made, made_by, read, read_by, unanswered_in}
use Rattle.mt_endpoint.specs.Writing.{adds}
use Rattle.end_session.specs.AnswerDue.{MayName, naming_if}
use Rattle.end_session.specs.Standing.{Gone, Knows, Stands}
use Rattle.end_session.specs.Store.{Store}
use Rattle.end_session.proofs.AnswersMade.{answering, at_least, given_next, named_by, named_if, none_behind, oldest, some_same, with_both}
use Rattle.end_session.proofs.Heard.{ahead, behind as behind_capabilities, heard_lawful, tells}
use Rattle.end_session.proofs.Putting.{quiet}
use Rattle.end_session.proofs.Still.{or_false}
use Rattle.end_session.proofs.Worded.{IsWord, knows_word}

-- ---- the kinds that an answer names

-- the kinds of both
abbrev pub both : Kinds → Kinds → Kinds
both a b = record { reliable = a.reliable || b.reliable; lossy = a.lossy || b.lossy }

or_true : (b c : Bool) → true || c ≡ b || true
or_true true c = refl
or_true false c = refl

pub one_more : (kind : Kind) (a b : Kinds) → both (set_kind kind true a) b ≡ both a (set_kind kind true b)
one_more Reliable a b = ap (λ x. record { reliable = x; lossy = a.lossy || b.lossy }) (or_true a.reliable b.reliable)
one_more Lossy a b = ap (λ x. record { reliable = a.reliable || b.reliable; lossy = x }) (or_true a.lossy b.lossy)

pub none_more : (a : Kinds) → both a no_kinds ≡ a
none_more a = ap (λ x. record { reliable = x; lossy = a.lossy || false }) (or_false a.reliable) ∙ ap (λ x. record { reliable = a.reliable; lossy = x }) (or_false a.lossy)

-- one kind, and then the others
pub answer_first : (kind : Kind) (named : Kinds) (kinds : List Kind) → is_answer_to named (kind ∷ kinds) ≡ has kind named && is_answer_to (set_kind kind false named) kinds
answer_first Reliable named kinds = refl
answer_first Lossy named kinds = refl

and_first : (a b : Bool) → a && b ≡ true → a ≡ true
and_first true b h = refl
and_first false b h = absurd (let no : false ≡ true = h in cc)

and_second : (a b : Bool) → a && b ≡ true → b ≡ true
and_second true b h = h
and_second false b h = absurd (let no : false ≡ true = h in cc)

named_reliable : (named : Kinds) (kinds : List Kind) → is_answer_to named kinds ≡ true → (kinds_of kinds).reliable ≡ true → named.reliable ≡ true
named_reliable named [] h e = absurd (let no : false ≡ true = e in cc)
named_reliable named (Reliable ∷ kinds) h e = and_first named.reliable (is_answer_to (record named { reliable = false }) kinds) h
named_reliable named (Lossy ∷ kinds) h e = named_reliable (record named { lossy = false }) kinds (and_second named.lossy (is_answer_to (record named { lossy = false }) kinds) h) e

named_lossy : (named : Kinds) (kinds : List Kind) → is_answer_to named kinds ≡ true → (kinds_of kinds).lossy ≡ true → named.lossy ≡ true
named_lossy named [] h e = absurd (let no : false ≡ true = e in cc)
named_lossy named (Reliable ∷ kinds) h e = named_lossy (record named { reliable = false }) kinds (and_second named.reliable (is_answer_to (record named { reliable = false }) kinds) h) e
named_lossy named (Lossy ∷ kinds) h e = and_first named.lossy (is_answer_to (record named { lossy = false }) kinds) h

-- ---- what an answer changes

pub names_same : (number m : ℕ) (kind : Kind) (f : Answer → Answer) (xs : List Exchange) → names number kind (with_answer m f xs) ≡ names number kind xs
names_same number m kind f [] = refl
names_same zero zero kind f (x ∷ xs) = refl
names_same zero (suc m) kind f (x ∷ xs) = refl
names_same (suc number) zero kind f (x ∷ xs) = refl
names_same (suc number) (suc m) kind f (x ∷ xs) = names_same number m kind f xs

pub given_none : (number m : ℕ) (kind : Kind) (xs : List Exchange) → is_named number kind (with_answer m giving xs) ≡ is_named number kind xs
given_none number m kind [] = refl
given_none zero zero kind (x ∷ xs) = refl
given_none zero (suc m) kind (x ∷ xs) = refl
given_none (suc number) zero kind (x ∷ xs) = refl
given_none (suc number) (suc m) kind (x ∷ xs) = given_none number m kind xs

other_same : (number m : ℕ) (xs : List Exchange) → is_named number Lossy (with_answer m (naming Reliable) xs) ≡ is_named number Lossy xs
other_same number m [] = refl
other_same zero zero (x ∷ xs) = refl
other_same zero (suc m) (x ∷ xs) = refl
other_same (suc number) zero (x ∷ xs) = refl
other_same (suc number) (suc m) (x ∷ xs) = other_same number m xs

pub other_named : (b : Bool) (number : ℕ) (xs : List Exchange) → is_named number Lossy (naming_if b Reliable number xs) ≡ is_named number Lossy xs
other_named true number xs = other_same number number xs
other_named false number xs = refl

pub names_if : (b : Bool) (kind made : Kind) (number : ℕ) (xs : List Exchange) → names number kind (naming_if b made number xs) ≡ names number kind xs
names_if true kind made number xs = names_same number number kind (naming made) xs
names_if false kind made number xs = refl

pub given_still : (number m : ℕ) (kind : Kind) (xs : List Exchange) → is_given number (with_answer m (naming kind) xs) ≡ is_given number xs
given_still number m kind [] = refl
given_still zero zero kind (x ∷ xs) = refl
given_still zero (suc m) kind (x ∷ xs) = refl
given_still (suc number) zero kind (x ∷ xs) = refl
given_still (suc number) (suc m) kind (x ∷ xs) = given_still number m kind xs

with_alike : (number : ℕ) (f g : Answer → Answer) (xs : List Exchange) → ((x : Answer) → f x ≡ g x) → with_answer number f xs ≡ with_answer number g xs
with_alike number f g [] alike = refl
with_alike zero f g (x ∷ xs) alike = ap (λ a. record x { answer = a } ∷ xs) (alike x.answer)
with_alike (suc number) f g (x ∷ xs) alike = ap (λ l. x ∷ l) (with_alike number f g xs alike)

in_either_order : (a b : Bool) (x : Answer) → named_if b Lossy (named_if a Reliable (giving x)) ≡ answering a b x
in_either_order true true x = refl
in_either_order true false x = refl
in_either_order false true x = refl
in_either_order false false x = refl

taken_by : (a b : Bool) (number : ℕ) (xs : List Exchange) → naming_if b Lossy number (naming_if a Reliable number (with_answer number giving xs)) ≡ with_answer number (answering a b) xs
taken_by a b number xs =
    named_by b Lossy number (naming_if a Reliable number (with_answer number giving xs))
    ∙ ap (with_answer number (named_if b Lossy)) (named_by a Reliable number (with_answer number giving xs) ∙ with_both number (named_if a Reliable) giving xs)
    ∙ with_both number (named_if b Lossy) (λ x. named_if a Reliable (giving x)) xs
    ∙ with_alike number (λ x. named_if b Lossy (named_if a Reliable (giving x))) (answering a b) xs (in_either_order a b)

-- an answer that was not given names nothing
none_in : (kind : Kind) → has kind no_kinds ≡ false
none_in Reliable = refl
none_in Lossy = refl

none_named : (base number : ℕ) (kind : Kind) (rs : List Request) (zs : List Kinds) → behind_from base (exchanges rs zs) ≡ Some (base + number) → is_named number kind (exchanges rs zs) ≡ false
none_named base number kind [] zs h = refl
none_named base zero kind (r ∷ rs) [] h = none_in kind
none_named base (suc number) kind (r ∷ rs) [] h = absurd (omega (arith, some_same base (base + suc number) h))
none_named base zero kind (r ∷ rs) (z ∷ zs) h = absurd (omega (arith, (at_least (base + 1) (base + zero) (exchanges rs zs) h).0))
none_named base (suc number) kind (r ∷ rs) (z ∷ zs) h = none_named (base + 1) number kind rs zs (h ∙ ap Some (omega arith))

some_behind : (base : ℕ) (xs : List Exchange) (r : Request) (rest : List Request) → unanswered_in xs ≡ r ∷ rest → (number : ℕ) × (behind_from base xs ≡ Some number)
some_behind base [] r rest h = absurd (let no : [] ≡ r ∷ rest = h in cc)
some_behind base (x ∷ xs) r rest h = by_test x.answer.is_given h (λ e. some_behind (base + 1) xs r rest e) where
  by_test : (b : Bool) → cond b (unanswered_in xs) (x.request ∷ unanswered_in xs) ≡ r ∷ rest → (unanswered_in xs ≡ r ∷ rest → (number : ℕ) × (behind_from (base + 1) xs ≡ Some number))
      → (number : ℕ) × (cond b (behind_from (base + 1) xs) (Some base) ≡ Some number)
  by_test true e deeper = deeper e
  by_test false e deeper = (base, refl)

-- ---- what there is against an answer

pub none_awaited : (xs : List Exchange) (kinds : List Kind) → behind xs ≡ None → answers_fault (unanswered_in xs) kinds ≡ Some BadSyncAnswer
none_awaited xs kinds h = ap (λ rs. answers_fault rs kinds) (none_behind 0 xs h)

pub fault_by : (xs : List Exchange) (number : ℕ) (a b c : Bool) (kinds : List Kind) → behind xs ≡ Some number → a ≡ names number Reliable xs → b ≡ names number Lossy xs
    → c ≡ is_answer_to (record { reliable = a; lossy = b }) kinds → answers_fault (unanswered_in xs) kinds ≡ when (not c) BadSyncAnswer
fault_by xs number a b c kinds at a_is b_is c_is =
    let o = oldest number xs at in
    let named : o.request.named ≡ record { reliable = a; lossy = b } =
    ap (λ x. record { reliable = x; lossy = (o.request.named).lossy }) (sym (a_is ∙ o.names_are Reliable)) ∙ ap (λ x. record { reliable = a; lossy = x }) (sym (b_is ∙ o.names_are Lossy)) in
    ap (λ rs. answers_fault rs kinds) o.is_oldest ∙ ap (λ n. when (not (is_answer_to n kinds)) BadSyncAnswer) named ∙ ap (λ x. when (not x) BadSyncAnswer) (sym c_is)

-- an answer that nothing is against
pub record IsFine (xs : List Exchange) (kinds : List Kind) : Type 0 where
  pub number : ℕ
  pub is_behind : behind xs ≡ Some number
  pub request : Request
  pub names_are : (kind : Kind) → names number kind xs ≡ has kind request.named
  pub is_answer : is_answer_to request.named kinds ≡ true

fine_by : (xs : List Exchange) (kinds : List Kind) (rs : List Request) → unanswered_in xs ≡ rs → answers_fault rs kinds ≡ None → IsFine xs kinds
fine_by xs kinds [] e h = absurd (let no : Some BadSyncAnswer ≡ None = h in cc)
fine_by xs kinds (r ∷ rest) e h =
    let at = some_behind 0 xs r rest e in
    let o = oldest at.0 xs at.1 in
    let same : o.request ≡ r = let both_are : o.request ∷ o.rest ≡ r ∷ rest = sym o.is_oldest ∙ e in cc in record {
      number = at.0;
      is_behind = at.1;
      request = o.request;
      names_are = o.names_are;
      is_answer = ap (λ (q : Request). is_answer_to q.named kinds) same ∙ no_fault (is_answer_to r.named kinds) h;
    }
  where
    no_fault : (b : Bool) → when (not b) BadSyncAnswer ≡ None → b ≡ true
    no_fault true k = refl
    no_fault false k = absurd (let no : Some BadSyncAnswer ≡ None = k in cc)

pub is_fine : (xs : List Exchange) (kinds : List Kind) → answers_fault (unanswered_in xs) kinds ≡ None → IsFine xs kinds
is_fine xs kinds h = fine_by xs kinds (unanswered_in xs) refl h

pub may_name : (s : Store) (t : Trace Act) (kinds : List Kind) → Knows Server s t → (f : IsFine (s.paths).made kinds) → MayName f.number (kinds_of kinds) (s.paths).made
may_name s t kinds k f = record {
  reliable = λ e. f.names_are Reliable ∙ named_reliable f.request.named kinds f.is_answer e;
  lossy = λ e. f.names_are Lossy ∙ named_lossy f.request.named kinds f.is_answer e;
  none_named = λ kind.
      ap (is_named f.number kind) (k.words_are).made_are
      ∙ none_named 0 f.number kind (all_told made_by t) (all_told answer_read t) (ap behind (sym (k.words_are).made_are) ∙ f.is_behind ∙ ap Some (omega arith));
}

-- ---- what there is against the PDU

pub too_early : (s : Store) (t : Trace Act) (gone : Gone) (kinds : List Kind) → Stands s t gone → s.is_ready ≡ false → main_fault s.role t (Spoken (SyncResponse kinds)) ≡ Some Unexpected
too_early s t gone kinds st h = ahead s.role t (SyncResponse kinds) (sym (st.knows).ready_is ∙ h) refl

pub at_client : (s : Store) (t : Trace Act) (gone : Gone) (kinds : List Kind) → Stands s t gone → s.is_ready ≡ true → s.role ≡ Client → main_fault s.role t (Spoken (SyncResponse kinds)) ≡ Some Unexpected
at_client s t gone kinds st h is =
    ap (λ r. main_fault r t (Spoken (SyncResponse kinds))) is ∙ behind_capabilities Client t (SyncResponse kinds) (sym (st.knows).ready_is ∙ h) refl

pub at_server : (s : Store) (t : Trace Act) (gone : Gone) (kinds : List Kind) → Stands s t gone → s.is_ready ≡ true → s.role ≡ Server
    → main_fault s.role t (Spoken (SyncResponse kinds)) ≡ answers_fault (unanswered_in (s.paths).made) kinds
at_server s t gone kinds st h is =
    ap (λ r. main_fault r t (Spoken (SyncResponse kinds))) is ∙ behind_capabilities Server t (SyncResponse kinds) (sym (st.knows).ready_is ∙ h) refl
    ∙ ap (λ xs. answers_fault (unanswered_in xs) kinds) (sym ((st.knows).words_are).made_are)

-- without a fault it is at a server behind capabilities
pub record IsAwaited (s : Store) (kinds : List Kind) : Type 0 where
  pub is_server : s.role ≡ Server
  pub fine : IsFine (s.paths).made kinds

pub is_awaited : (s : Store) (t : Trace Act) (gone : Gone) (kinds : List Kind) → Stands s t gone → main_fault s.role t (Spoken (SyncResponse kinds)) ≡ None → IsAwaited s kinds
is_awaited s t gone kinds st none = by_ready s.is_ready refl s.role refl where
  by_ready : (b : Bool) → s.is_ready ≡ b → (r : Role) → s.role ≡ r → IsAwaited s kinds
  by_ready false e r is = absurd (let no : Some Unexpected ≡ None = sym (too_early s t gone kinds st e) ∙ none in cc)
  by_ready true e Client is = absurd (let no : Some Unexpected ≡ None = sym (at_client s t gone kinds st e is) ∙ none in cc)
  by_ready true e Server is = record { is_server = is; fine = is_fine (s.paths).made kinds (sym (at_server s t gone kinds st e is) ∙ none) }

-- ---- one act more

is_word : (t : Trace Act) (kinds : List Kind) → IsWord Server t (Hears (Spoken (SyncResponse kinds)))
is_word t kinds = record {
  reliable = tells Server Reliable t (SyncResponse kinds);
  lossy = tells Server Lossy t (SyncResponse kinds);
  no_version = refl;
  no_capabilities = refl;
  none_issued = refl;
  no_channels = refl;
  reliable_held = refl;
  lossy_held = refl;
}

heard_at : (role : Role) (s : Store) (t : Trace Act) (gone : Gone) (kinds : List Kind) (w : Words) → role ≡ Server → s.role ≡ role → Stands s t gone → main_fault role t (Spoken (SyncResponse kinds)) ≡ None → (f : IsFine (s.paths).made kinds)
    → w ≡ record s.paths { made = naming_if (kinds_of kinds).lossy Lossy f.number (naming_if (kinds_of kinds).reliable Reliable f.number (with_answer f.number giving (s.paths).made)) }
    → Stands (record s { paths = w }) (t ▷ Hears (Spoken (SyncResponse kinds))) gone
heard_at Client s t gone kinds w e is st none f w_is = absurd (let never : Client ≡ Server = e in cc)
heard_at Server s t gone kinds w e is st none f w_is =
    let k : Knows Server s t = subst (λ r. Knows r s t) is st.knows in
    let act = Hears (Spoken (SyncResponse kinds)) in
    let named = kinds_of kinds in
    let told = (k.words_are).channels_are in
    let rs = all_told made_by t in
    let zs = all_told answer_read t in
    let made_now = naming_if named.lossy Lossy f.number (naming_if named.reliable Reliable f.number (with_answer f.number giving (s.paths).made)) in
    let behind_here : behind_from 0 (exchanges rs zs) ≡ Some (0 + f.number) = ap behind (sym (k.words_are).made_are) ∙ f.is_behind ∙ ap Some (omega arith) in
    let made_is : made_now ≡ made (t ▷ act) =
    taken_by named.reliable named.lossy f.number (s.paths).made ∙ ap (with_answer f.number (answering named.reliable named.lossy)) (k.words_are).made_are
    ∙ given_next 0 f.number rs zs named behind_here ∙ ap (λ x. exchanges x (zs ++ named ∷ [])) (sym (append-nil rs)) in
    let read_same : read t ≡ read (t ▷ act) =
    sym (ap (λ x. exchanges x (all_told answer_made (t ▷ act))) (append-nil (all_told read_by t)) ∙ ap (exchanges (all_told read_by t)) (append-nil (all_told answer_made t))) in
    subst (λ w. Stands (record s { paths = w }) (t ▷ act) gone) (sym w_is)
    (record {
      knows =
          subst (λ r. Knows r (record s { paths = record s.paths { made = made_now } }) (t ▷ act)) (sym is)
          (knows_word Server s t act (s.paths).channels made_now (s.paths).read s.owed s.outgoing k (is_word t kinds) (heard_lawful Server s t (Spoken (SyncResponse kinds)) k none)
          (record { ids_are = told.ids_are; open_are = told.open_are }) made_is ((k.words_are).read_are ∙ read_same) (k.owed_is ∙ ap (λ x. length (unanswered_in x)) read_same));
      waits = quiet s.role s.outgoing t gone act (subst (λ r. adds r t act ≡ []) (sym is) refl) st.waits;
    })

pub heard : (s : Store) (t : Trace Act) (gone : Gone) (kinds : List Kind) (w : Words) → Stands s t gone → main_fault s.role t (Spoken (SyncResponse kinds)) ≡ None
    → ((number : ℕ) → behind (s.paths).made ≡ Some number
    → w ≡ record s.paths { made = naming_if (kinds_of kinds).lossy Lossy number (naming_if (kinds_of kinds).reliable Reliable number (with_answer number giving (s.paths).made)) })
    → Stands (record s { paths = w }) (t ▷ Hears (Spoken (SyncResponse kinds))) gone
heard s t gone kinds w st none w_is =
    let a = is_awaited s t gone kinds st none in
    let f = a.fine in
    heard_at Server s t gone kinds w refl a.is_server st (ap (λ r. main_fault r t (Spoken (SyncResponse kinds))) (sym a.is_server) ∙ none) f (w_is f.number f.is_behind)

-- ---- what the calls found

pub begun : (xs : List Exchange) (n : ℕ) (named : Kinds) → (number : ℕ) × (behind xs ≡ Some number) × MayName number named xs → behind xs ≡ Some n → MayName n named xs
begun xs n named r h = subst (λ m. MayName m named xs) (some_same r.0 n (sym r.1 ∙ h)) r.2

pub may_reliable : (xs ys : List Exchange) (n : ℕ) (named : Kinds) → MayName n named xs → ys ≡ with_answer n giving xs → named.reliable ≡ true → names n Reliable ys && not (is_named n Reliable ys) ≡ true
may_reliable xs ys n named m is e =
    ap (λ l. names n Reliable l && not (is_named n Reliable l)) is
    ∙ ap (λ b. b && not (is_named n Reliable (with_answer n giving xs))) (names_same n n Reliable giving xs ∙ m.reliable e) ∙ ap not (given_none n n Reliable xs ∙ m.none_named Reliable)

pub may_lossy : (xs ys zs : List Exchange) (n : ℕ) (named : Kinds) → MayName n named xs → ys ≡ with_answer n giving xs → zs ≡ naming_if named.reliable Reliable n ys → named.lossy ≡ true → names n Lossy zs && not (is_named n Lossy zs) ≡ true
may_lossy xs ys zs n named m is then e =
    let names_are : names n Lossy zs ≡ true = ap (names n Lossy) then ∙ names_if named.reliable Lossy Reliable n ys ∙ ap (names n Lossy) is ∙ names_same n n Lossy giving xs ∙ m.lossy e in
    let none : is_named n Lossy zs ≡ false = ap (is_named n Lossy) then ∙ other_named named.reliable n ys ∙ ap (is_named n Lossy) is ∙ given_none n n Lossy xs ∙ m.none_named Lossy in
    ap (λ b. b && not (is_named n Lossy zs)) names_are ∙ ap not none
