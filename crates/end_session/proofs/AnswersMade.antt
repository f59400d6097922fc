-- A client that answers a Soft-Sync request stands for one act more.
use Rattle.std.proofs.Common.{◌≡◌, ℕ, zero, suc, ◌+◌, ◌-◌, ◌<◌, ◌≤◌, Bool, true, false, cond, not, ◌&&◌, ◌||◌, List, [], ◌∷◌, ◌++◌, length, append-nil, Option, Some, None, refl, sym, ap, subst, ◌∙◌, arith}
use Rattle.mt_base.specs.declared.kinds.Kind.{Kind}
use Rattle.mt_base.specs.declared.kinds.Kind.TheVariants.{Reliable, Lossy}
use Rattle.mt_base.specs.declared.kinds.Role.{Role}
use Rattle.mt_base.specs.declared.kinds.Role.TheVariants.{Server, Client}
use Rattle.mt_base.specs.Trace.{Trace, ◌▷◌}
use Rattle.mt_base.specs.Writing.{joined}
use Rattle.dvc_pdus.specs.Value.{SyncResponse, spelled}
use Rattle.soft_sync.specs.declared.kinds.Kinds.{Kinds}
use Rattle.soft_sync.specs.Exchanges.{Answer, Exchange, Request, answered, behind, behind_from, channels_at, exchanges, giving, has, names, naming, unanswered, with_answer}
use Rattle.soft_sync.specs.Words.{Words}
use Rattle.tunnel_pdus.specs.Value.{Channel, frame_fields}
use Rattle.mt_endpoint.specs.Acts.{Act, Answers, Spoken}
use Rattle.mt_endpoint.specs.Alone.{IsAnswer}
use Rattle.mt_endpoint.specs.Moving.{all_told, answer_made, answer_read, answer_to, made, made_by, may_answer, read, read_by, unanswered_in}
use Rattle.mt_endpoint.specs.Tunnels.{is_live, is_settled}
use Rattle.mt_endpoint.specs.Writing.{types_of}
use Rattle.end_session.specs.AnswerDue.{due, naming_if, oldest_due}
use Rattle.end_session.specs.Known.{is_live_in, is_settled_in}
use Rattle.end_session.specs.Outgoing.{Outgoing, says}
use Rattle.end_session.specs.Standing.{Gone, Knows, Stands}
use Rattle.end_session.specs.Store.{Store}
use Rattle.end_session.proofs.KnownOf.{live_is, settled_is}
use Rattle.end_session.proofs.Putting.{spoke}
use Rattle.end_session.proofs.Still.{TellsNothing}
use Rattle.end_session.proofs.Worded.{IsWord, knows_word}

-- ---- the oldest request without an answer

pub some_same : (a b : ℕ) → Some a ≡ Some b → a ≡ b
some_same a b h = cc

pub at_least : (base k : ℕ) (xs : List Exchange) → behind_from base xs ≡ Some k → (base ≤ k) × (k < base + length xs)
at_least base k [] h = absurd (let no : None ≡ Some k = h in cc)
at_least base k (x ∷ xs) h = by_test x.answer.is_given h (λ e. at_least (base + 1) k xs e) where
  by_test : (b : Bool) → cond b (behind_from (base + 1) xs) (Some base) ≡ Some k → (behind_from (base + 1) xs ≡ Some k → (base + 1 ≤ k) × (k < base + 1 + length xs)) → (base ≤ k) × (k < base + length (x ∷ xs))
  by_test true e deeper = let p = deeper e in (omega (arith, p.0), omega (arith, p.1))
  by_test false e deeper = let same = some_same base k e in (omega (arith, same), omega (arith, same))

pub none_behind : (base : ℕ) (xs : List Exchange) → behind_from base xs ≡ None → unanswered_in xs ≡ []
none_behind base [] h = refl
none_behind base (x ∷ xs) h = by_test x.answer.is_given h (λ e. none_behind (base + 1) xs e) where
  by_test : (b : Bool) → cond b (behind_from (base + 1) xs) (Some base) ≡ None → (behind_from (base + 1) xs ≡ None → unanswered_in xs ≡ []) → cond b (unanswered_in xs) (x.request ∷ unanswered_in xs) ≡ []
  by_test true e deeper = deeper e
  by_test false e deeper = absurd (let no : Some base ≡ None = e in cc)

-- the request of this number is the oldest
pub record Oldest (number : ℕ) (xs : List Exchange) : Type 0 where
  pub request : Request
  pub rest : List Request
  pub is_oldest : unanswered_in xs ≡ request ∷ rest
  pub names_are : (kind : Kind) → names number kind xs ≡ has kind request.named
  pub channels_are : channels_at number xs ≡ request.channels

oldest_from : (base number : ℕ) (xs : List Exchange) → behind_from base xs ≡ Some (base + number) → Oldest number xs
oldest_from base number [] h = absurd (let no : None ≡ Some (base + number) = h in cc)
oldest_from base zero (x ∷ xs) h = by_test x.answer.is_given refl h where
  by_test : (b : Bool) → x.answer.is_given ≡ b → cond b (behind_from (base + 1) xs) (Some base) ≡ Some (base + zero) → Oldest zero (x ∷ xs)
  by_test true e k = absurd (omega (arith, (at_least (base + 1) (base + zero) xs k).0))
  by_test false e k = record {
    request = x.request;
    rest = unanswered_in xs;
    is_oldest = ap (λ b. cond b (unanswered_in xs) (x.request ∷ unanswered_in xs)) e;
    names_are = λ kind. refl;
    channels_are = refl;
  }
oldest_from base (suc number) (x ∷ xs) h = by_test x.answer.is_given refl h (λ e. oldest_from (base + 1) number xs e) where
  by_test : (b : Bool) → x.answer.is_given ≡ b → cond b (behind_from (base + 1) xs) (Some base) ≡ Some (base + suc number) → (behind_from (base + 1) xs ≡ Some ((base + 1) + number) → Oldest number xs) → Oldest (suc number) (x ∷ xs)
  by_test true e k deeper =
      let o = deeper (k ∙ ap Some (omega arith)) in record {
        request = o.request;
        rest = o.rest;
        is_oldest = ap (λ b. cond b (unanswered_in xs) (x.request ∷ unanswered_in xs)) e ∙ o.is_oldest;
        names_are = o.names_are;
        channels_are = o.channels_are;
      }
  by_test false e k deeper = absurd (omega (arith, some_same base (base + suc number) k))

pub oldest : (number : ℕ) (xs : List Exchange) → behind xs ≡ Some number → Oldest number xs
oldest number xs h = oldest_from 0 number xs (h ∙ ap Some (omega arith))

-- ---- its answer

abbrev pub named_if : Bool → Kind → Answer → Answer
named_if b kind answer = cond b (naming kind answer) answer

abbrev pub answering : Bool → Bool → Answer → Answer
answering a b answer = giving (named_if b Lossy (named_if a Reliable answer))

pub with_both : (number : ℕ) (f g : Answer → Answer) (xs : List Exchange) → with_answer number f (with_answer number g xs) ≡ with_answer number (λ a. f (g a)) xs
with_both number f g [] = refl
with_both zero f g (x ∷ xs) = refl
with_both (suc number) f g (x ∷ xs) = ap (λ l. x ∷ l) (with_both number f g xs)

with_same : (number : ℕ) (xs : List Exchange) → with_answer number (λ a. a) xs ≡ xs
with_same number [] = refl
with_same zero (x ∷ xs) = refl
with_same (suc number) (x ∷ xs) = ap (λ l. x ∷ l) (with_same number xs)

pub named_by : (b : Bool) (kind : Kind) (number : ℕ) (xs : List Exchange) → naming_if b kind number xs ≡ with_answer number (named_if b kind) xs
named_by true kind number xs = refl
named_by false kind number xs = sym (with_same number xs)

answered_by : (a b : Bool) (number : ℕ) (xs : List Exchange) → with_answer number giving (naming_if b Lossy number (naming_if a Reliable number xs)) ≡ with_answer number (answering a b) xs
answered_by a b number xs =
    ap (with_answer number giving) (named_by b Lossy number (naming_if a Reliable number xs) ∙ ap (with_answer number (named_if b Lossy)) (named_by a Reliable number xs) ∙ with_both number (named_if b Lossy) (named_if a Reliable) xs)
    ∙ with_both number giving (λ x. named_if b Lossy (named_if a Reliable x)) xs

-- the count of requests stays
pub counts_same : (number : ℕ) (f : Answer → Answer) (xs : List Exchange) → length (with_answer number f xs) ≡ length xs
counts_same number f [] = refl
counts_same zero f (x ∷ xs) = refl
counts_same (suc number) f (x ∷ xs) = ap suc (counts_same number f xs)

first_given : (r : Request) (a b : Bool) → record (unanswered r) { answer = answering a b (unanswered r).answer } ≡ answered r (record { reliable = a; lossy = b })
first_given r true true = refl
first_given r true false = refl
first_given r false true = refl
first_given r false false = refl

-- it is given to the first request behind those that have one
pub given_next : (base number : ℕ) (rs : List Request) (zs : List Kinds) (named : Kinds) → behind_from base (exchanges rs zs) ≡ Some (base + number)
    → with_answer number (answering named.reliable named.lossy) (exchanges rs zs) ≡ exchanges rs (zs ++ named ∷ [])
given_next base number [] zs named h = absurd (let no : None ≡ Some (base + number) = h in cc)
given_next base zero (r ∷ rs) [] named h = ap (λ x. x ∷ exchanges rs []) (first_given r named.reliable named.lossy)
given_next base (suc number) (r ∷ rs) [] named h = absurd (omega (arith, some_same base (base + suc number) h))
given_next base zero (r ∷ rs) (z ∷ zs) named h = absurd (omega (arith, (at_least (base + 1) (base + zero) (exchanges rs zs) h).0))
given_next base (suc number) (r ∷ rs) (z ∷ zs) named h = ap (λ xs. answered r z ∷ xs) (given_next (base + 1) number rs zs named (h ∙ ap Some (omega arith)))

pub rest_after : (rs : List Request) (zs : List Kinds) (r : Request) (rest : List Request) (named : Kinds) → unanswered_in (exchanges rs zs) ≡ r ∷ rest → unanswered_in (exchanges rs (zs ++ named ∷ [])) ≡ rest
rest_after [] zs r rest named h = absurd (let no : [] ≡ r ∷ rest = h in cc)
rest_after (x ∷ rs) [] r rest named h = let same : unanswered_in (exchanges rs []) ≡ rest = cc in same
rest_after (x ∷ rs) (z ∷ zs) r rest named h = rest_after rs zs r rest named h

-- ---- which answer is due

abbrev pub due_if : Bool → Bool → Bool → Bool → Bool → Bool → Option Kinds
due_if a b settled settled_too live live_too = cond ((not a || settled) && (not b || settled_too)) (Some (record { reliable = a && live; lossy = b && live_too })) None

-- by what is kept
pub due_by : (s : Store) (t : Trace Act) (number : ℕ) (a b : Bool) → Knows Client s t → behind (s.paths).read ≡ Some number → a ≡ names number Reliable (s.paths).read → b ≡ names number Lossy (s.paths).read
    → due t ≡ due_if a b (is_settled_in Client s.reliable) (is_settled_in Client s.lossy) (is_live_in Client s.reliable) (is_live_in Client s.lossy)
due_by s t number a b k behind_is a_is b_is =
    let o = oldest number (s.paths).read behind_is in
    let n = o.request.named in
    let unanswered_is : unanswered_in (read t) ≡ o.request ∷ o.rest = ap unanswered_in (sym (k.words_are).read_are) ∙ o.is_oldest in
    let first : n.reliable ≡ a = sym (a_is ∙ o.names_are Reliable) in
    let second : n.lossy ≡ b = sym (b_is ∙ o.names_are Lossy) in
    let settled : is_settled Client Reliable t ≡ is_settled_in Client s.reliable = sym (ap (is_settled_in Client) k.reliable_is ∙ settled_is Client Reliable t) in
    let settled_too : is_settled Client Lossy t ≡ is_settled_in Client s.lossy = sym (ap (is_settled_in Client) k.lossy_is ∙ settled_is Client Lossy t) in
    let live : is_live Client Reliable t ≡ is_live_in Client s.reliable = sym (ap (is_live_in Client) k.reliable_is ∙ live_is Client Reliable t) in
    let live_too : is_live Client Lossy t ≡ is_live_in Client s.lossy = sym (ap (is_live_in Client) k.lossy_is ∙ live_is Client Lossy t) in
    ap (oldest_due t) unanswered_is
    ∙ ap (λ x. due_if x n.lossy (is_settled Client Reliable t) (is_settled Client Lossy t) (is_live Client Reliable t) (is_live Client Lossy t)) first
    ∙ ap (λ x. due_if a x (is_settled Client Reliable t) (is_settled Client Lossy t) (is_live Client Reliable t) (is_live Client Lossy t)) second
    ∙ ap (λ x. due_if a b x (is_settled Client Lossy t) (is_live Client Reliable t) (is_live Client Lossy t)) settled
    ∙ ap (λ x. due_if a b (is_settled_in Client s.reliable) x (is_live Client Reliable t) (is_live Client Lossy t)) settled_too
    ∙ ap (λ x. due_if a b (is_settled_in Client s.reliable) (is_settled_in Client s.lossy) x (is_live Client Lossy t)) live
    ∙ ap (λ x. due_if a b (is_settled_in Client s.reliable) (is_settled_in Client s.lossy) (is_live_in Client s.reliable) x) live_too

pub none_due : (s : Store) (t : Trace Act) → Knows Client s t → behind (s.paths).read ≡ None → due t ≡ None
none_due s t k none = ap (oldest_due t) (ap unanswered_in (sym (k.words_are).read_are) ∙ none_behind 0 (s.paths).read none)

pub unknown_first : (a b settled settled_too live live_too : Bool) → (not a || settled) ≡ false → due_if a b settled settled_too live live_too ≡ None
unknown_first a b settled settled_too live live_too h = ap (λ x. cond (x && (not b || settled_too)) (Some (record { reliable = a && live; lossy = b && live_too })) None) h

pub unknown_second : (a b settled settled_too live live_too : Bool) → (not a || settled) ≡ true → (not b || settled_too) ≡ false → due_if a b settled settled_too live live_too ≡ None
unknown_second a b settled settled_too live live_too h k =
    ap (λ x. cond (x && (not b || settled_too)) (Some (record { reliable = a && live; lossy = b && live_too })) None) h
    ∙ ap (λ x. cond x (Some (record { reliable = a && live; lossy = b && live_too })) None) k

pub both_known : (a b settled settled_too live live_too : Bool) → (not a || settled) ≡ true → (not b || settled_too) ≡ true → due_if a b settled settled_too live live_too ≡ Some (record { reliable = a && live; lossy = b && live_too })
both_known a b settled settled_too live live_too h k =
    ap (λ x. cond (x && (not b || settled_too)) (Some (record { reliable = a && live; lossy = b && live_too })) None) h
    ∙ ap (λ x. cond x (Some (record { reliable = a && live; lossy = b && live_too })) None) k

-- an answer is due to the oldest request
pub record IsDueNow (t : Trace Act) (named : Kinds) : Type 0 where
  pub request : Request
  pub rest : List Request
  pub is_oldest : unanswered_in (read t) ≡ request ∷ rest
  pub may : may_answer Client t request.named ≡ true
  pub is_answer : named ≡ answer_to Client t request.named

pub due_now : (t : Trace Act) (rs : List Request) (named : Kinds) → unanswered_in (read t) ≡ rs → oldest_due t rs ≡ Some named → IsDueNow t named
due_now t [] named e h = absurd (let no : None ≡ Some named = h in cc)
due_now t (request ∷ rest) named e h = by_test (may_answer Client t request.named) refl h where
  by_test : (b : Bool) → may_answer Client t request.named ≡ b → cond b (Some (answer_to Client t request.named)) None ≡ Some named → IsDueNow t named
  by_test true may k = record { request = request; rest = rest; is_oldest = e; may = may; is_answer = let same : named ≡ answer_to Client t request.named = cc in same }
  by_test false may k = absurd (let no : None ≡ Some named = k in cc)

-- ---- one act more

tells : (kind : Kind) (t : Trace Act) (named : Kinds) → TellsNothing Client kind t (Answers named)
tells kind t named = record { no_request = refl; no_link = refl; no_verdict = refl; no_answer = refl; no_refusal = refl; no_silence = refl }

is_word : (t : Trace Act) (named : Kinds) → IsWord Client t (Answers named)
is_word t named = record {
  reliable = tells _ t named;
  lossy = tells _ t named;
  no_version = refl;
  no_capabilities = refl;
  none_issued = refl;
  no_channels = refl;
  reliable_held = refl;
  lossy_held = refl;
}

answered_at : (role : Role) (s : Store) (t : Trace Act) (gone : Gone) (number : ℕ) (named : Kinds) → role ≡ Client → s.role ≡ role → Stands s t gone → due t ≡ Some named → behind (s.paths).read ≡ Some number
    → Stands
    (record s {
      paths = record s.paths { read = with_answer number giving (naming_if named.lossy Lossy number (naming_if named.reliable Reliable number (s.paths).read)) };
      owed = s.owed - 1;
      outgoing = says (Spoken (SyncResponse (types_of named))) s.outgoing;
    })
    (t ▷ Answers named) gone
answered_at Server s t gone number named e is st due_is behind_is = absurd (let never : Server ≡ Client = e in cc)
answered_at Client s t gone number named e is st due_is behind_is =
    let k : Knows Client s t = subst (λ r. Knows r s t) is st.knows in
    let act = Answers named in
    let d = due_now t (unanswered_in (read t)) named refl due_is in
    let told = (k.words_are).channels_are in
    let o = says (Spoken (SyncResponse (types_of named))) s.outgoing in
    let rs = all_told read_by t in
    let zs = all_told answer_made t in
    let read_now = with_answer number giving (naming_if named.lossy Lossy number (naming_if named.reliable Reliable number (s.paths).read)) in
    let behind_here : behind_from 0 (exchanges rs zs) ≡ Some (0 + number) = ap (behind_from 0) (sym (k.words_are).read_are) ∙ behind_is ∙ ap Some (omega arith) in
    let requests_same : exchanges rs (zs ++ named ∷ []) ≡ read (t ▷ act) = ap (λ x. exchanges x (zs ++ named ∷ [])) (sym (append-nil rs)) in
    let read_is : read_now ≡ read (t ▷ act) =
    ap (λ xs. with_answer number giving (naming_if named.lossy Lossy number (naming_if named.reliable Reliable number xs))) (k.words_are).read_are
    ∙ answered_by named.reliable named.lossy number (exchanges rs zs) ∙ given_next 0 number rs zs named behind_here ∙ requests_same in
    let rest_is : unanswered_in (read (t ▷ act)) ≡ d.rest = ap unanswered_in (sym requests_same) ∙ rest_after rs zs d.request d.rest named d.is_oldest in
    let owed_is : s.owed - 1 ≡ length (unanswered_in (read (t ▷ act))) = omega (arith, k.owed_is, ap (λ (l : List Request). length l) d.is_oldest, ap (λ (l : List Request). length l) rest_is) in
    let made_same : made t ≡ made (t ▷ act) =
    sym (ap (λ x. exchanges x (all_told answer_read (t ▷ act))) (append-nil (all_told made_by t)) ∙ ap (exchanges (all_told made_by t)) (append-nil (all_told answer_read t))) in
    let answer : IsAnswer Client t named = record { is_client = refl; request = d.request; rest = d.rest; is_oldest = d.is_oldest; may = d.may; is_answer = d.is_answer } in record {
      knows =
          subst (λ r. Knows r (record s { paths = record s.paths { read = read_now }; owed = s.owed - 1; outgoing = o }) (t ▷ act)) (sym is)
          (knows_word Client s t act (s.paths).channels (s.paths).made read_now (s.owed - 1) o k (is_word t named) (sym (ap not k.begun), answer, k.lawful)
          (record { ids_are = told.ids_are; open_are = told.open_are }) ((k.words_are).made_are ∙ made_same) read_is owed_is);
      waits = spoke s.role s.outgoing t gone act (Spoken (SyncResponse (types_of named))) refl st.waits;
    }

-- ---- what the call found, and what it left

pub of_client : (s : Store) (t : Trace Act) (gone : Gone) → s.role ≡ Client → Stands s t gone → Knows Client s t
of_client s t gone is st = subst (λ r. Knows r s t) is st.knows

pub some_owed : (s : Store) (t : Trace Act) (gone : Gone) (named : Kinds) → s.role ≡ Client → Stands s t gone → due t ≡ Some named → 1 ≤ s.owed
some_owed s t gone named is st due_is =
    let k = of_client s t gone is st in
    let d = due_now t (unanswered_in (read t)) named refl due_is in
    omega (arith, k.owed_is, ap (λ (l : List Request). length l) d.is_oldest)

pub answered_here : (s : Store) (t : Trace Act) (gone : Gone) (number : ℕ) (named : Kinds) (bytes : List ℕ) (w : Words) (owed : ℕ) (o : Outgoing) → s.role ≡ Client → Stands s t gone → due t ≡ Some named → behind (s.paths).read ≡ Some number
    → w ≡ record s.paths { read = with_answer number giving (naming_if named.lossy Lossy number (naming_if named.reliable Reliable number (s.paths).read)) } → owed ≡ s.owed - 1
    → bytes ≡ spelled (SyncResponse (types_of named)) → o ≡ record s.outgoing { main = (s.outgoing).main ++ joined (frame_fields (Channel bytes)) }
    → Stands (record s { paths = w; owed = owed; outgoing = o }) (t ▷ Answers named) gone
answered_here s t gone number named bytes w owed o is st due_is behind_is w_is owed_is bytes_are o_is =
    let base = answered_at Client s t gone number named refl is st due_is behind_is in
    let says_is = o_is ∙ ap (λ b. record s.outgoing { main = (s.outgoing).main ++ joined (frame_fields (Channel b)) }) bytes_are in
    subst (λ x. Stands (record s { paths = w; owed = owed; outgoing = x }) (t ▷ Answers named) gone) (sym says_is)
    (subst (λ x. Stands (record s { paths = w; owed = x; outgoing = says (Spoken (SyncResponse (types_of named))) s.outgoing }) (t ▷ Answers named) gone) (sym owed_is)
    (subst (λ x. Stands (record s { paths = x; owed = s.owed - 1; outgoing = says (Spoken (SyncResponse (types_of named))) s.outgoing }) (t ▷ Answers named) gone) (sym w_is) base))

-- an answer has 14 bytes at most
pub answer_short : (named : Kinds) → length (spelled (SyncResponse (types_of named))) ≤ 14
answer_short named = by_test named.reliable named.lossy where
  by_test : (a b : Bool) → length (spelled (SyncResponse (types_of (record { reliable = a; lossy = b })))) ≤ 14
  by_test true true = omega arith
  by_test true false = omega arith
  by_test false true = omega arith
  by_test false false = omega arith
