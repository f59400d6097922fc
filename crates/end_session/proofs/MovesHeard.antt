-- A client that hears a Soft-Sync request stands for one act more.
use Rattle.std.proofs.Common.{◌≡◌, ℕ, zero, suc, ◌+◌, ◌-◌, ◌<◌, ◌≤◌, Bool, true, false, cond, ◌||◌, eqb, nat_eq, nat_le, List, [], ◌∷◌, ◌++◌, length, take, Option, Some, None, IsSome, is_some, refl, sym, ap, subst, ◌∙◌, append-nil, append_assoc, length-append, arith, inl}
use Rattle.std.specs.List.{list_any}
use Rattle.std.specs.Map.{lookup}
use Rattle.std.specs.Option.{option_or}
use Rattle.std.proofs.lemmas.Bool.{eqb-true, le-leb, leb-false, lt-leb, ltb-true}
use Rattle.mt_base.specs.declared.kinds.Kind.{Kind}
use Rattle.mt_base.specs.declared.kinds.Kind.TheVariants.{Reliable, Lossy}
use Rattle.mt_base.specs.declared.kinds.Role.{Role}
use Rattle.mt_base.specs.declared.kinds.Role.TheVariants.{Server, Client}
use Rattle.mt_base.specs.Trace.{Trace, Start, ◌▷◌}
use Rattle.dvc_pdus.specs.Value.{ChannelList, Pdu, SyncRequest}
use Rattle.dvc_channels.specs.Acts.{Act as Change, Answered, Made, ids}
use Rattle.dvc_channels.specs.Acts as change
use Rattle.dvc_channels.specs.Table as channels
use Rattle.dvc_channels.specs.declared.answers.ChannelState.{ChannelState}
use Rattle.soft_sync.specs.declared.kinds.Kinds.{Kinds}
use Rattle.soft_sync.specs.declared.kinds.Path.{Path}
use Rattle.soft_sync.specs.declared.kinds.Path.TheVariants.{Main, Tunnel}
use Rattle.soft_sync.specs.Exchanges.{Exchange, Request, exchanges, listed, unanswered, with_channel}
use Rattle.soft_sync.specs.Words.{HasPlace, Words, path_of, told_of}
use Rattle.soft_sync.specs.Words as words
use Rattle.soft_sync.proofs.InOrder.{asked}
use Rattle.mt_endpoint.specs.Acts.{Act, Hears, Opens, Releases, Spoken}
use Rattle.mt_endpoint.specs.Alone.{EndOfActs, IsAct}
use Rattle.mt_endpoint.specs.Channels.{has_place, is_known, is_known_in, table, with_said}
use Rattle.mt_endpoint.specs.Faults.{SyncUnknown, Unexpected, Why, ids_fault, main_fault, request_fault}
use Rattle.mt_endpoint.specs.Moving.{all_told, answer_made, channels_listed, kinds_named, read, read_by, request_read, unanswered_in}
use Rattle.mt_endpoint.specs.Orders.{EachNew, ids_in, is_among}
use Rattle.mt_endpoint.specs.Said.{Brings, Capable, Created, Creates, Ends, Moved, Moves, Said, said}
use Rattle.mt_endpoint.specs.Writing.{adds}
use Rattle.mt_endpoint.proofs.Creating.{EachAmong, heard_fine, rooted}
use Rattle.mt_endpoint.proofs.Distinct.{no_more, other_way, seen_after}
use Rattle.mt_endpoint.proofs.Freed.{inward_client}
use Rattle.mt_endpoint.proofs.Late.{fitting}
use Rattle.mt_endpoint.proofs.Paths.{few_answers}
use Rattle.mt_endpoint.proofs.Telling.{either}
use Rattle.mt_endpoint.proofs.Words.{listed-plain}
use Rattle.end_session.specs.Listing.{AreNew}
use Rattle.end_session.specs.Standing.{Gone, Knows, Stands}
use Rattle.end_session.specs.Store.{Store}
use Rattle.end_session.proofs.DataHeard.{inward_is}
use Rattle.end_session.proofs.Heard.{ahead, behind, heard_lawful, tells}
use Rattle.end_session.proofs.Naming.{none_first, none_later}
use Rattle.end_session.proofs.Putting.{quiet}
use Rattle.end_session.proofs.Still.{made_same, or_false}
use Rattle.end_session.proofs.ToldOf.{some_at, some_is}
use Rattle.end_session.proofs.Worded.{IsWord, knows_word}

-- ---- channels in order: one part, and then the other

any_after : (p : ℕ → Bool) (xs seen : List ℕ) → list_any p (seen_after xs seen) ≡ list_any p xs || list_any p seen
any_after p [] seen = refl
any_after p (x ∷ xs) seen = any_after p xs (x ∷ seen) ∙ swap (list_any p xs) (p x) (list_any p seen) where
  swap : (a b c : Bool) → a || (b || c) ≡ (b || a) || c
  swap true true c = refl
  swap true false c = refl
  swap false true c = refl
  swap false false c = refl

-- of the ids that were seen in this order
pub any_seen : (p : ℕ → Bool) (xs : List ℕ) → list_any p (seen_after xs []) ≡ list_any p xs
any_seen p xs = any_after p xs [] ∙ or_false (list_any p xs)

pub fault-append : (role : Role) (t : Trace Act) (seen : List ℕ) (xs ys : List (ℕ × Kind)) → ids_fault role t seen (xs ++ ys) ≡ option_or (ids_fault role t seen xs) (ids_fault role t (seen_after (ids_in xs) seen) ys)
fault-append role t seen [] ys = refl
fault-append role t seen ((id, kind) ∷ xs) ys = by_tests (list_any (nat_eq id) seen || is_some (listed id (read t))) (is_known role id t) (fault-append role t (id ∷ seen) xs ys) where
  by_tests : (a b : Bool) → ids_fault role t (id ∷ seen) (xs ++ ys) ≡ option_or (ids_fault role t (id ∷ seen) xs) (ids_fault role t (seen_after (ids_in xs) (id ∷ seen)) ys)
      → cond a (Some Unexpected) (cond b (ids_fault role t (id ∷ seen) (xs ++ ys)) (Some (SyncUnknown id)))
      ≡ option_or (cond a (Some Unexpected) (cond b (ids_fault role t (id ∷ seen) xs) (Some (SyncUnknown id)))) (ids_fault role t (seen_after (ids_in xs) (id ∷ seen)) ys)
  by_tests true b e = refl
  by_tests false true e = e
  by_tests false false e = refl

other_id : (a b : ℕ) → (b ≡ a → ⊥) → eqb a b ≡ false
other_id a b h = by_test (eqb a b) refl where
  by_test : (c : Bool) → eqb a b ≡ c → c ≡ false
  by_test true e = absurd (h (sym (eqb-true a b e)))
  by_test false e = refl

-- one is passed that is another
pub passed : (id left : ℕ) (x : ℕ × Kind) (xs all : List (ℕ × Kind)) → all ≡ x ∷ xs → (left ≡ 0 → ⊥) → (x.0 ≡ id → ⊥)
    → list_any (nat_eq id) (ids_in (take (left - 1) xs)) ≡ list_any (nat_eq id) (ids_in (take left all))
passed id zero x xs all is some other = absurd (some refl)
passed id (suc n) (y, kind) xs all is some other =
    let one : suc n - 1 ≡ n = omega arith in
    ap (λ m. list_any (nat_eq id) (ids_in (take m xs))) one
    ∙ sym (ap (λ l. list_any (nat_eq id) (ids_in (take (suc n) l))) is ∙ ap (λ b. b || list_any (nat_eq id) (ids_in (take n xs))) (other_id id y other))

-- one channel more behind those that are not at fault
pub one_more : (t : Trace Act) (xs : List (ℕ × Kind)) (id : ℕ) (kind : Kind) (ys : List (ℕ × Kind)) (o : Option Why) → ids_fault Client t [] xs ≡ None → ids_fault Client t (seen_after (ids_in xs) []) ((id, kind) ∷ []) ≡ o
    → ids_fault Client t [] (xs ++ (id, kind) ∷ ys) ≡ option_or o (ids_fault Client t (seen_after (ids_in (xs ++ (id, kind) ∷ [])) []) ys)
one_more t xs id kind ys o none one =
    ap (ids_fault Client t []) (sym (append_assoc xs ((id, kind) ∷ []) ys)) ∙ fault-append Client t [] (xs ++ (id, kind) ∷ []) ys
    ∙ ap (λ f. option_or f (ids_fault Client t (seen_after (ids_in (xs ++ (id, kind) ∷ [])) []) ys))
    (fault-append Client t [] xs ((id, kind) ∷ []) ∙ ap (λ f. option_or f (ids_fault Client t (seen_after (ids_in xs) []) ((id, kind) ∷ []))) none ∙ one)

take_front : (xs ys : List (ℕ × Kind)) → take (length xs) (xs ++ ys) ≡ xs
take_front [] ys = refl
take_front (x ∷ xs) ys = ap (λ l. x ∷ l) (take_front xs ys)

-- whether it was seen, by the first of all
pub seen_here : (all xs ys : List (ℕ × Kind)) (count id : ℕ) (b : Bool) → all ≡ xs ++ ys → count ≡ length xs → b ≡ list_any (nat_eq id) (ids_in (take count all))
    → list_any (nat_eq id) (seen_after (ids_in xs) []) ≡ b
seen_here all xs ys count id b split many is =
    any_seen (nat_eq id) (ids_in xs)
    ∙ sym (is ∙ ap (λ n. list_any (nat_eq id) (ids_in (take n all))) many ∙ ap (λ l. list_any (nat_eq id) (ids_in (take (length xs) l))) split ∙ ap (λ l. list_any (nat_eq id) (ids_in l)) (take_front xs ys))

pub or_some : {A : Type 0} (o r : Option A) → IsSome o → option_or o r ≡ o
or_some None r h = absurd (let no : false ≡ true = h in cc)
or_some (Some x) r h = refl

-- a channel that is not at fault
pub record IsFine (t : Trace Act) (seen : List ℕ) (id : ℕ) (channels : List (ℕ × Kind)) : Type 0 where
  pub unseen : list_any (nat_eq id) seen ≡ false
  pub unlisted : listed id (read t) ≡ None
  pub known : is_known Client id t ≡ true
  pub later : ids_fault Client t (id ∷ seen) channels ≡ None

pub fine_first : (t : Trace Act) (seen : List ℕ) (id : ℕ) (kind : Kind) (channels : List (ℕ × Kind)) → ids_fault Client t seen ((id, kind) ∷ channels) ≡ None → IsFine t seen id channels
fine_first t seen id kind channels h = by_tests (list_any (nat_eq id) seen) refl (listed id (read t)) refl (is_known Client id t) refl h where
  by_tests : (a : Bool) → list_any (nat_eq id) seen ≡ a → (o : Option Kind) → listed id (read t) ≡ o → (b : Bool) → is_known Client id t ≡ b
      → cond (a || is_some o) (Some Unexpected) (cond b (ids_fault Client t (id ∷ seen) channels) (Some (SyncUnknown id))) ≡ None → IsFine t seen id channels
  by_tests true e o f b k none = absurd (let no : Some Unexpected ≡ None = none in cc)
  by_tests false e (Some under) f b k none = absurd (let no : Some Unexpected ≡ None = none in cc)
  by_tests false e None f false k none = absurd (let no : Some (SyncUnknown id) ≡ None = none in cc)
  by_tests false e None f true k none = record { unseen = e; unlisted = f; known = k; later = none }

-- ---- there are no more of them than a client has channels

not_among : (id : ℕ) (seen : List ℕ) → list_any (nat_eq id) seen ≡ false → is_among id seen ≡ false
not_among id [] h = refl
not_among id (x ∷ seen) h = let n = either (eqb id x) (list_any (nat_eq id) seen) h in ap (λ b. b || is_among id seen) (other_way id x n.0) ∙ not_among id seen n.1

each_fine : (t : Trace Act) (seen : List ℕ) (channels : List (ℕ × Kind)) → EndOfActs Client t → ids_fault Client t seen channels ≡ None → EachNew seen (ids_in channels) × EachAmong (ids (table Client t)) (ids_in channels)
each_fine t seen [] e h = (tt, tt)
each_fine t seen ((id, kind) ∷ channels) e h =
    let f = fine_first t seen id kind channels h in
    let rest = each_fine t (id ∷ seen) channels e f.later in
    ((not_among id seen f.unseen, rest.0), ((rooted Client t e).listed id f.known, rest.1))

most_said : (pdu : Pdu) (s : Said) (c : Trace Change) → length (ids c) ≤ 256 → length (ids (with_said Client pdu s c)) ≤ 256
most_said pdu (Capable version) c h = h
most_said pdu (Creates id name) c h = by_place (has_place c) refl where
  by_place : (b : Bool) → has_place c ≡ b → length (ids (cond b (c ▷ Made id name ▷ Answered id 0) c)) ≤ 256
  by_place true e = omega (arith, ltb-true (length (ids c)) 256 e, length-append (ids c) (id ∷ []))
  by_place false e = h
most_said pdu (Created id status) c h = h
most_said pdu (Brings id) c h = h
most_said pdu (Ends id) c h = h
most_said pdu (Moves lists) c h = h
most_said pdu (Moved kinds) c h = h

most_act : (t : Trace Act) (act : Act) → IsAct Client t act → length (ids (table Client t)) ≤ 256 → length (ids (table Client (t ▷ act))) ≤ 256
most_act t (Opens id name) a h = absurd (let no : Client ≡ Server = a.0.0 in cc)
most_act t (Hears (Spoken pdu)) a h = most_said pdu (said pdu) (table Client t) h
most_act t (Releases kind at bytes pdu) a h = most_said pdu (said pdu) (table Client t) h
most_act t act a h = h

most_channels : (t : Trace Act) → EndOfActs Client t → length (ids (table Client t)) ≤ 256
most_channels Start e = omega arith
most_channels (t ▷ act) e = most_act t act e.1 (most_channels t e.2)

as_many : (channels : List (ℕ × Kind)) → length (ids_in channels) ≡ length channels
as_many [] = refl
as_many ((id, kind) ∷ channels) = ap suc (as_many channels)

pub few_listed : (t : Trace Act) (channels : List (ℕ × Kind)) → EndOfActs Client t → ids_fault Client t [] channels ≡ None → length channels ≤ 256
few_listed t channels e none =
    let f = each_fine t [] channels e none in
    omega (arith, no_more [] (ids_in channels) (ids (table Client t)) f.0 f.1, as_many channels, most_channels t e)

-- ---- what there is against one of them

-- a request lists a channel exactly where its path is a tunnel
pub moved_is : (s : Store) (t : Trace Act) (gone : Gone) (id : ℕ) → s.role ≡ Client → Stands s t gone → path_of (listed id (read t)) ≡ words.inward id s.paths
moved_is s t gone id is st =
    let e : EndOfActs Client t = subst (λ r. EndOfActs r t) is (st.knows).lawful in
    ap path_of (listed-plain id (all_told read_by t) (all_told answer_made t)) ∙ sym (inward_client t id e) ∙ sym (inward_is s t gone id st)

unmoved : (o : Option Kind) → path_of o ≡ Main → is_some o ≡ false
unmoved None h = refl
unmoved (Some kind) h = absurd (let no : Tunnel kind ≡ Main = h in cc)

moved : (o : Option Kind) (kind : Kind) → path_of o ≡ Tunnel kind → is_some o ≡ true
moved None kind h = absurd (let no : Main ≡ Tunnel kind = h in cc)
moved (Some under) kind h = refl

one_fault : (t : Trace Act) (seen : List ℕ) (id : ℕ) (kind : Kind) (a b c : Bool) → list_any (nat_eq id) seen ≡ a → is_some (listed id (read t)) ≡ b → is_known Client id t ≡ c
    → ids_fault Client t seen ((id, kind) ∷ []) ≡ cond (a || b) (Some Unexpected) (cond c None (Some (SyncUnknown id)))
one_fault t seen id kind a b c e f k =
    ap (λ x. cond (x || is_some (listed id (read t))) (Some Unexpected) (cond (is_known Client id t) None (Some (SyncUnknown id)))) e
    ∙ ap (λ x. cond (a || x) (Some Unexpected) (cond (is_known Client id t) None (Some (SyncUnknown id)))) f ∙ ap (λ x. cond (a || b) (Some Unexpected) (cond x None (Some (SyncUnknown id)))) k

pub repeated : (t : Trace Act) (seen : List ℕ) (id : ℕ) (kind : Kind) → list_any (nat_eq id) seen ≡ true → ids_fault Client t seen ((id, kind) ∷ []) ≡ Some Unexpected
repeated t seen id kind e = one_fault t seen id kind true (is_some (listed id (read t))) (is_known Client id t) e refl refl

or_true : (a : Bool) → a || true ≡ true
or_true true = refl
or_true false = refl

pub listed_before : (s : Store) (t : Trace Act) (gone : Gone) (seen : List ℕ) (id : ℕ) (kind under : Kind) (path : Path) → s.role ≡ Client → path ≡ words.inward id s.paths → path ≡ Tunnel under → Stands s t gone
    → ids_fault Client t seen ((id, kind) ∷ []) ≡ Some Unexpected
listed_before s t gone seen id kind under path is path_is tunnel st =
    let before = moved (listed id (read t)) under (moved_is s t gone id is st ∙ sym path_is ∙ tunnel) in
    one_fault t seen id kind (list_any (nat_eq id) seen) true (is_known Client id t) refl before refl
    ∙ ap (λ b. cond b (Some Unexpected) (cond (is_known Client id t) None (Some (SyncUnknown id)))) (or_true (list_any (nat_eq id) seen))

pub by_state : (s : Store) (t : Trace Act) (gone : Gone) (seen : List ℕ) (id : ℕ) (kind : Kind) (path : Path) (r : ChannelState) (is_repeated : Bool) → s.role ≡ Client → list_any (nat_eq id) seen ≡ is_repeated → is_repeated ≡ false
    → path ≡ words.inward id s.paths → path ≡ Main → ((u : Trace Change) → channels.Stands s.channels u → r ≡ change.state u id) → Stands s t gone
    → ids_fault Client t seen ((id, kind) ∷ []) ≡ cond (is_known_in r) None (Some (SyncUnknown id))
by_state s t gone seen id kind path r is_repeated is e first path_is main state_is st =
    let unlisted = unmoved (listed id (read t)) (moved_is s t gone id is st ∙ sym path_is ∙ main) in
    let known : is_known Client id t ≡ is_known_in r = ap (λ r. is_known r id t) (sym is) ∙ ap is_known_in (sym (state_is (table s.role t) (st.knows).channels_stand)) in
    one_fault t seen id kind false false (is_known_in r) (e ∙ first) unlisted known

-- ---- what there is against the PDU

pub too_early : (s : Store) (t : Trace Act) (gone : Gone) (flags tunnels : ℕ) (lists : List ChannelList) → s.is_ready ≡ false → Stands s t gone → main_fault s.role t (Spoken (SyncRequest flags tunnels lists)) ≡ Some Unexpected
too_early s t gone flags tunnels lists h st = ahead s.role t (SyncRequest flags tunnels lists) (sym (st.knows).ready_is ∙ h) refl

pub at_server : (s : Store) (t : Trace Act) (gone : Gone) (flags tunnels : ℕ) (lists : List ChannelList) → s.is_ready ≡ true → s.role ≡ Server → Stands s t gone → main_fault s.role t (Spoken (SyncRequest flags tunnels lists)) ≡ Some Unexpected
at_server s t gone flags tunnels lists h is st =
    ap (λ r. main_fault r t (Spoken (SyncRequest flags tunnels lists))) is ∙ behind Server t (SyncRequest flags tunnels lists) (sym (st.knows).ready_is ∙ h) refl

at_client : (s : Store) (t : Trace Act) (gone : Gone) (flags tunnels : ℕ) (lists : List ChannelList) → s.is_ready ≡ true → s.role ≡ Client → Stands s t gone
    → main_fault s.role t (Spoken (SyncRequest flags tunnels lists)) ≡ cond (nat_le 256 (length (all_told read_by t))) (Some Unexpected) (ids_fault Client t [] (channels_listed lists))
at_client s t gone flags tunnels lists h is st =
    ap (λ r. main_fault r t (Spoken (SyncRequest flags tunnels lists))) is ∙ behind Client t (SyncRequest flags tunnels lists) (sym (st.knows).ready_is ∙ h) refl

pub as_many_read : (rs : List Request) (zs : List Kinds) → length (exchanges rs zs) ≡ length rs
as_many_read [] zs = refl
as_many_read (r ∷ rs) [] = ap suc (as_many_read rs [])
as_many_read (r ∷ rs) (z ∷ zs) = ap suc (as_many_read rs zs)

read_count : (s : Store) (t : Trace Act) (gone : Gone) → Stands s t gone → length (s.paths).read ≡ length (all_told read_by t)
read_count s t gone st = ap (λ (x : List Exchange). length x) ((st.knows).words_are).read_are ∙ as_many_read (all_told read_by t) (all_told answer_made t)

pub too_many : (s : Store) (t : Trace Act) (gone : Gone) (flags tunnels n : ℕ) (lists : List ChannelList) → s.is_ready ≡ true → s.role ≡ Client → n ≡ length (s.paths).read → 256 ≤ n → Stands s t gone
    → main_fault s.role t (Spoken (SyncRequest flags tunnels lists)) ≡ Some Unexpected
too_many s t gone flags tunnels n lists h is count many st =
    at_client s t gone flags tunnels lists h is st
    ∙ ap (λ b. cond b (Some Unexpected) (ids_fault Client t [] (channels_listed lists))) (le-leb 256 (length (all_told read_by t)) (omega (arith, count, many, read_count s t gone st)))

pub by_ids : (s : Store) (t : Trace Act) (gone : Gone) (flags tunnels n : ℕ) (lists : List ChannelList) → s.is_ready ≡ true → s.role ≡ Client → n ≡ length (s.paths).read → n < 256 → Stands s t gone
    → main_fault s.role t (Spoken (SyncRequest flags tunnels lists)) ≡ ids_fault Client t [] (channels_listed lists)
by_ids s t gone flags tunnels n lists h is count few st =
    at_client s t gone flags tunnels lists h is st
    ∙ ap (λ b. cond b (Some Unexpected) (ids_fault Client t [] (channels_listed lists))) (lt-leb 256 (length (all_told read_by t)) (omega (arith, count, few, read_count s t gone st)))

-- without a fault it is at a client that read fewer than 256
pub record MayHear (s : Store) (t : Trace Act) (lists : List ChannelList) : Type 0 where
  pub is_client : s.role ≡ Client
  pub few : length (all_told read_by t) < 256
  pub fine : ids_fault Client t [] (channels_listed lists) ≡ None

pub may_hear : (s : Store) (t : Trace Act) (flags tunnels : ℕ) (lists : List ChannelList) → main_fault s.role t (Spoken (SyncRequest flags tunnels lists)) ≡ None → MayHear s t lists
may_hear s t flags tunnels lists none =
    by_role s.role refl (heard_fine s.role t (SyncRequest flags tunnels lists) (Moves lists) (tt, none) refl refl)
  where
    by_count : (b : Bool) → nat_le 256 (length (all_told read_by t)) ≡ b → cond b (Some Unexpected) (ids_fault Client t [] (channels_listed lists)) ≡ None → s.role ≡ Client → MayHear s t lists
    by_count true e h is = absurd (let no : Some Unexpected ≡ None = h in cc)
    by_count false e h is = record { is_client = is; few = omega (arith, leb-false 256 (length (all_told read_by t)) e); fine = h }

    by_role : (r : Role) → s.role ≡ r → request_fault r t lists ≡ None → MayHear s t lists
    by_role Server is h = absurd (let no : Some Unexpected ≡ None = h in cc)
    by_role Client is h = by_count (nat_le 256 (length (all_told read_by t))) refl h is

-- ---- what the request changes

not_looked : (id : ℕ) (channels : List (ℕ × Kind)) → list_any (nat_eq id) (ids_in channels) ≡ false → lookup (nat_eq id) channels ≡ None
not_looked id [] h = refl
not_looked id ((x, kind) ∷ channels) h = let n = either (eqb id x) (list_any (nat_eq id) (ids_in channels)) h in ap (λ b. cond b (Some kind) (lookup (nat_eq id) channels)) n.0 ∙ not_looked id channels n.1

pub are_new : (s : Store) (t : Trace Act) (gone : Gone) (channels : List (ℕ × Kind)) → s.role ≡ Client → Stands s t gone → ids_fault Client t [] channels ≡ None → AreNew channels s.paths
are_new s t gone channels is st none id kind before later split =
    let k : Knows Client s t = subst (λ r. Knows r s t) is st.knows in
    let at = sym (fault-append Client t [] before ((id, kind) ∷ later)) ∙ ap (ids_fault Client t []) (sym split) ∙ none in
    let f = fine_first t (seen_after (ids_in before) []) id kind later (none_later (ids_fault Client t [] before) (ids_fault Client t (seen_after (ids_in before) []) ((id, kind) ∷ later)) at) in
    let told = (k.words_are).channels_are in (
      ap (listed id) (k.words_are).read_are ∙ f.unlisted,
      not_looked id before (sym (any_seen (nat_eq id) (ids_in before)) ∙ f.unseen),
      some_at id (s.paths).channels (ap (is_among id) told.ids_are ∙ (rooted Client t k.lawful).listed id f.known),
    )

-- a channel more that the last request lists
pub with_last : (id : ℕ) (kind : Kind) (named : Kinds) (channels : List (ℕ × Kind)) (xs : List Exchange)
    → with_channel id kind (xs ++ unanswered (record { named = named; channels = channels }) ∷ []) ≡ xs ++ unanswered (record { named = named; channels = channels ++ (id, kind) ∷ [] }) ∷ []
with_last id kind named channels [] = refl
with_last id kind named channels (x ∷ []) = refl
with_last id kind named channels (x ∷ y ∷ xs) = ap (λ l. x ∷ l) (with_last id kind named channels (y ∷ xs))

-- it doesn't list a channel yet
pub unlisted_last : (id : ℕ) (named : Kinds) (channels : List (ℕ × Kind)) (xs : List Exchange) → listed id xs ≡ None → lookup (nat_eq id) channels ≡ None
    → listed id (xs ++ unanswered (record { named = named; channels = channels }) ∷ []) ≡ None
unlisted_last id named channels [] h k = ap (λ o. option_or o None) k
unlisted_last id named channels (x ∷ xs) h k =
    ap (λ o. option_or o (listed id (xs ++ unanswered (record { named = named; channels = channels }) ∷ []))) (none_first (lookup (nat_eq id) x.request.channels) (listed id xs) h)
    ∙ unlisted_last id named channels xs (none_later (lookup (nat_eq id) x.request.channels) (listed id xs) h) k

-- the words while a request lists these channels so far
abbrev pub under_way : Words → List ChannelList → List (ℕ × Kind) → Words
under_way w lists channels = record w { read = w.read ++ unanswered (record { named = kinds_named lists; channels = channels }) ∷ [] }

pub is_begun : (w v : Words) (lists : List ChannelList) (channels : List (ℕ × Kind)) → v ≡ under_way w lists channels → 0 < length v.read
is_begun w v lists channels is =
    let many = ap (λ (v : Words). length v.read) is ∙ length-append w.read (unanswered (record { named = kinds_named lists; channels = channels }) ∷ []) in
    omega (arith, many)

-- the next one is listed for the first time
pub is_once : (w v : Words) (lists : List ChannelList) (channels later all : List (ℕ × Kind)) (id : ℕ) (kind : Kind) → v ≡ under_way w lists channels → AreNew all w → all ≡ channels ++ (id, kind) ∷ later
    → listed id v.read ≡ None
is_once w v lists channels later all id kind is new split =
    let n = new id kind channels later split in
    ap (λ (v : Words). listed id v.read) is ∙ unlisted_last id (kinds_named lists) channels w.read n.0 n.1

-- it was told of
pub is_placed : (w v : Words) (lists : List ChannelList) (channels later all : List (ℕ × Kind)) (id : ℕ) (kind : Kind) → v ≡ under_way w lists channels → AreNew all w → all ≡ channels ++ (id, kind) ∷ later
    → HasPlace id v.channels
is_placed w v lists channels later all id kind is new split =
    let n = new id kind channels later split in
    subst (λ (v : Words). HasPlace id v.channels) (sym is) (inl (some_is (lookup (nat_eq id) w.channels) n.2))

pub one_listed : (w v u : Words) (lists : List ChannelList) (channels later all : List (ℕ × Kind)) (id : ℕ) (kind : Kind) → v ≡ under_way w lists channels → AreNew all w → all ≡ channels ++ (id, kind) ∷ later
    → u ≡ record v { channels = told_of id v.channels; read = with_channel id kind v.read } → u ≡ under_way w lists (channels ++ (id, kind) ∷ [])
one_listed w v u lists channels later all id kind is new split u_is =
    let n = new id kind channels later split in
    let before = w.read ++ unanswered (record { named = kinds_named lists; channels = channels }) ∷ [] in
    u_is ∙ ap (λ (v : Words). record v { channels = told_of id v.channels; read = with_channel id kind v.read }) is
    ∙ ap (λ (b : Bool). record w { channels = cond b w.channels (w.channels ++ (id, false) ∷ []); read = with_channel id kind before }) n.2
    ∙ ap (λ (xs : List Exchange). record w { read = xs }) (with_last id kind (kinds_named lists) channels w.read)

-- all of them are listed
pub all_listed : (w v : Words) (lists : List ChannelList) (channels later : List (ℕ × Kind)) → v ≡ under_way w lists channels → channels_listed lists ≡ channels ++ later → later ≡ []
    → v ≡ record w { read = w.read ++ unanswered (request_read lists) ∷ [] }
all_listed w v lists channels later is split none =
    is ∙ ap (λ (l : List (ℕ × Kind)). under_way w lists l) (sym (split ∙ ap (λ (l : List (ℕ × Kind)). channels ++ l) none ∙ append-nil channels))

-- ---- one act more

is_word : (t : Trace Act) (flags tunnels : ℕ) (lists : List ChannelList) → IsWord Client t (Hears (Spoken (SyncRequest flags tunnels lists)))
is_word t flags tunnels lists = record {
  reliable = tells Client Reliable t (SyncRequest flags tunnels lists);
  lossy = tells Client Lossy t (SyncRequest flags tunnels lists);
  no_version = refl;
  no_capabilities = refl;
  none_issued = refl;
  no_channels = refl;
  reliable_held = refl;
  lossy_held = refl;
}

one_owed : (r : Request) (xs : List Exchange) → length (unanswered_in (xs ++ unanswered r ∷ [])) ≡ length (unanswered_in xs) + 1
one_owed r [] = refl
one_owed r (x ∷ xs) = by_test x.answer.is_given (one_owed r xs) where
  by_test : (b : Bool) → length (unanswered_in (xs ++ unanswered r ∷ [])) ≡ length (unanswered_in xs) + 1
      → length (cond b (unanswered_in (xs ++ unanswered r ∷ [])) (x.request ∷ unanswered_in (xs ++ unanswered r ∷ []))) ≡ length (cond b (unanswered_in xs) (x.request ∷ unanswered_in xs)) + 1
  by_test true e = e
  by_test false e = omega (arith, e)

heard_at : (role : Role) (s : Store) (t : Trace Act) (gone : Gone) (flags tunnels : ℕ) (lists : List ChannelList) (w : Words) → role ≡ Client → s.role ≡ role → Stands s t gone
    → main_fault role t (Spoken (SyncRequest flags tunnels lists)) ≡ None → w ≡ record s.paths { read = (s.paths).read ++ unanswered (request_read lists) ∷ [] }
    → Stands (record s { paths = w; owed = s.owed + 1 }) (t ▷ Hears (Spoken (SyncRequest flags tunnels lists))) gone
heard_at Server s t gone flags tunnels lists w e is st none w_is = absurd (let never : Server ≡ Client = e in cc)
heard_at Client s t gone flags tunnels lists w e is st none w_is =
    let k : Knows Client s t = subst (λ r. Knows r s t) is st.knows in
    let pdu = SyncRequest flags tunnels lists in
    let act = Hears (Spoken pdu) in
    let request = request_read lists in
    let told = (k.words_are).channels_are in
    let read_now = (s.paths).read ++ unanswered request ∷ [] in
    let more : read t ++ unanswered request ∷ [] ≡ read (t ▷ act) =
    sym (asked (all_told read_by t) (all_told answer_made t) request (few_answers t (fitting Client t k.lawful)))
    ∙ ap (exchanges (all_told read_by t ++ request ∷ [])) (sym (append-nil (all_told answer_made t))) in
    let read_is : read_now ≡ read (t ▷ act) = ap (λ xs. xs ++ unanswered request ∷ []) (k.words_are).read_are ∙ more in
    let owed_is : s.owed + 1 ≡ length (unanswered_in (read (t ▷ act))) = ap (λ n. n + 1) k.owed_is ∙ sym (one_owed request (read t)) ∙ ap (λ x. length (unanswered_in x)) more in
    subst (λ w. Stands (record s { paths = w; owed = s.owed + 1 }) (t ▷ act) gone) (sym w_is)
    (record {
      knows =
          subst (λ r. Knows r (record s { paths = record s.paths { read = read_now }; owed = s.owed + 1 }) (t ▷ act)) (sym is)
          (knows_word Client s t act (s.paths).channels (s.paths).made read_now (s.owed + 1) s.outgoing k (is_word t flags tunnels lists) (heard_lawful Client s t (Spoken pdu) k none)
          (record { ids_are = told.ids_are; open_are = told.open_are }) ((k.words_are).made_are ∙ sym (made_same t act refl refl)) read_is owed_is);
      waits = quiet s.role s.outgoing t gone act (subst (λ r. adds r t act ≡ []) (sym is) refl) st.waits;
    })

pub heard : (s : Store) (t : Trace Act) (gone : Gone) (flags tunnels : ℕ) (lists : List ChannelList) (w : Words) → Stands s t gone → main_fault s.role t (Spoken (SyncRequest flags tunnels lists)) ≡ None
    → w ≡ record s.paths { read = (s.paths).read ++ unanswered (request_read lists) ∷ [] }
    → Stands (record s { paths = w; owed = s.owed + 1 }) (t ▷ Hears (Spoken (SyncRequest flags tunnels lists))) gone
heard s t gone flags tunnels lists w st none w_is =
    let m = may_hear s t flags tunnels lists none in
    heard_at Client s t gone flags tunnels lists w refl m.is_client st (ap (λ r. main_fault r t (Spoken (SyncRequest flags tunnels lists))) (sym m.is_client) ∙ none) w_is

-- ---- how many answers are owed

owed_few : (rs : List Request) (zs : List Kinds) → length (unanswered_in (exchanges rs zs)) ≤ length rs
owed_few [] zs = omega arith
owed_few (r ∷ rs) [] = omega (arith, owed_few rs [])
owed_few (r ∷ rs) (z ∷ zs) = omega (arith, owed_few rs zs)

pub few_owed : (s : Store) (t : Trace Act) (gone : Gone) (lists : List ChannelList) → Stands s t gone → MayHear s t lists → s.owed < 256
few_owed s t gone lists st m = omega (arith, (st.knows).owed_is, owed_few (all_told read_by t) (all_told answer_made t), m.few)

pub few_read : (s : Store) (t : Trace Act) (gone : Gone) (lists : List ChannelList) → Stands s t gone → MayHear s t lists → length (s.paths).read < 256
few_read s t gone lists st m = omega (arith, read_count s t gone st, m.few)

pub few_channels : (s : Store) (t : Trace Act) (gone : Gone) (lists : List ChannelList) → Stands s t gone → MayHear s t lists → length (channels_listed lists) ≤ 256
few_channels s t gone lists st m = few_listed t (channels_listed lists) (subst (λ r. EndOfActs r t) m.is_client (st.knows).lawful) m.fine
