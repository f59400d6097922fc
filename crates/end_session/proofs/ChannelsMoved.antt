-- A server that moves channels stands for one act more.
use Rattle.std.proofs.Common.{◌≡◌, ℕ, ◌+◌, ◌^◌, ◌<◌, ◌≤◌, Bool, true, false, cond, not, ◌||◌, nat_eq, nat_lt, List, [], ◌∷◌, ◌++◌, map, length, length-append, append-nil, Option, Some, None, is_some, Result, Ok, Err, IfErr, OnOk, All, get_or, refl, sym, ap, subst, ◌∙◌, arith, eqb, eqb-true}
use Rattle.std.specs.List.{AllByRecursion, IsDistinct, find, list_any}
use Rattle.std.specs.Option.{option_or, unwrap_or}
use Rattle.std.specs.Map.{lookup}
use Rattle.std.proofs.lemmas.List.{get_or_default}
use Rattle.std.proofs.lemmas.Map.Keys.{IsDistinct-head, IsDistinct-tail}
use Rattle.mt_base.specs.declared.kinds.Kind.{Kind}
use Rattle.mt_base.specs.declared.kinds.Kind.TheVariants.{Reliable, Lossy}
use Rattle.mt_base.specs.declared.kinds.Role.{Role}
use Rattle.mt_base.specs.declared.kinds.Role.TheVariants.{Server, Client}
use Rattle.mt_base.specs.Writing.{joined}
use Rattle.mt_base.specs.Trace.{Trace, Start, ◌▷◌}
use Rattle.dvc_pdus.specs.Value.{IsPdu, SyncResponse, spelled, sync_request}
use Rattle.dvc_channels.specs.Acts.{ids}
use Rattle.soft_sync.specs.declared.kinds.SyncRefusal.{SyncRefusal}
use Rattle.soft_sync.specs.declared.kinds.SyncRefusal.TheVariants as sync
use Rattle.soft_sync.specs.Exchanges.{Request, exchanges, listed, unanswered}
use Rattle.soft_sync.specs.Words.{Words, first_closed, first_repeated, is_empty, is_open_channel, request_of, why_not}
use Rattle.soft_sync.specs.declared.kinds.Kinds.{Kinds}
use Rattle.soft_sync.proofs.Asking.{allowed, is_listed, lacks_channel, verdict, why_is}
use Rattle.soft_sync.proofs.Finding.{distinct_then}
use Rattle.soft_sync.proofs.InOrder.{asked}
use Rattle.tunnel_pdus.specs.Value.{Channel, frame_fields}
use Rattle.mt_endpoint.specs.Acts.{Act, Hears, Spoken, Syncs}
use Rattle.mt_endpoint.specs.Alone.{EndOfActs, IsAct}
use Rattle.mt_endpoint.specs.Channels.{is_open, table}
use Rattle.mt_endpoint.specs.Faults.{BadSyncAnswer, answers_fault}
use Rattle.mt_endpoint.specs.Moving.{all_told, answer_made, answer_read, made, made_by, read, read_by, unanswered_in}
use Rattle.mt_endpoint.specs.Orders.{is_among}
use Rattle.mt_endpoint.specs.Said.{Moved}
use Rattle.mt_endpoint.specs.Tunnels.{is_live}
use Rattle.mt_endpoint.specs.World.{HasTunnel, IsMove, MayMove}
use Rattle.mt_endpoint.proofs.Creating.{heard_fine, rooted, channels_are}
use Rattle.mt_endpoint.proofs.Distinct.{most_channels, new_all, no_more, other_way, out_all, requested_among}
use Rattle.mt_endpoint.proofs.Known.{known_open}
use Rattle.end_calls.specs.declared.fault.Fault.{Fault}
use Rattle.end_calls.specs.declared.refusal.MoveRefusal.{MoveRefusal}
use Rattle.end_calls.specs.declared.refusal.MoveRefusal.TheVariants as move
use Rattle.end_calls.specs.Refusing.{because, frame_size, main_limit, passes, when, why_not_moved, words}
use Rattle.end_calls.proofs.Each.{each_of_all}
use Rattle.end_calls.proofs.Writes.{sync_fits}
use Rattle.end_session.specs.BeforeRoom.{before_moved}
use Rattle.end_session.specs.Outgoing.{Outgoing, says}
use Rattle.end_session.specs.Standing.{AreWords, Gone, Knows, Stands}
use Rattle.end_session.specs.Store.{Store}
use Rattle.end_session.proofs.ChannelsOpened.{frame_size_is, of_server}
use Rattle.end_session.proofs.Naming.{none_later}
use Rattle.end_session.proofs.Putting.{spoke}
use Rattle.end_session.proofs.Still.{TellsNothing}
use Rattle.end_session.proofs.Worded.{IsWord, knows_word}

-- ---- the words that are kept are refused as those of the acts

-- the same search by tests that agree
found_same : (p q : ℕ → Bool) → ((id : ℕ) → p id ≡ q id) → (ids : List ℕ) → find p ids ≡ find q ids
found_same p q same [] = refl
found_same p q same (id ∷ ids) = ap (λ b. cond b (Some id) (find p ids)) (same id) ∙ ap (λ o. cond (q id) (Some id) o) (found_same p q same ids)

-- what is looked up among ids that are told of by a test, and by it is false of all others
looked : (f : ℕ → Bool) (id : ℕ) (all : List ℕ) → (is_among id all ≡ false → f id ≡ false) → unwrap_or (lookup (nat_eq id) (map (λ x. (x, f x)) all)) false ≡ f id
looked f id [] out = sym (out refl)
looked f id (x ∷ all) out = by_test (eqb id x) refl (λ h. looked f id all h) where
  by_test : (b : Bool) → eqb id x ≡ b → ((is_among id all ≡ false → f id ≡ false) → unwrap_or (lookup (nat_eq id) (map (λ x. (x, f x)) all)) false ≡ f id)
      → unwrap_or (cond b (Some (f x)) (lookup (nat_eq id) (map (λ x. (x, f x)) all))) false ≡ f id
  by_test true e deeper = ap f (sym (eqb-true id x e))
  by_test false e deeper = deeper (λ h. out (ap (λ b. b || is_among id all) (other_way id x e) ∙ h))

-- an open channel was created
closed_outside : (t : Trace Act) (id : ℕ) → EndOfActs Server t → is_among id (ids (table Server t)) ≡ false → is_open Server id t ≡ false
closed_outside t id e out = by_test (is_open Server id t) refl where
  by_test : (b : Bool) → is_open Server id t ≡ b → b ≡ false
  by_test true h = sym ((rooted Server t e).listed id (known_open Server id t h)) ∙ out
  by_test false h = refl

told_same : (t : Trace Act) (w : Words) (id : ℕ) → EndOfActs Server t → AreWords Server t w → is_open_channel id w ≡ is_open_channel id (words t)
told_same t w id e a = (a.channels_are).open_are id ∙ sym (looked (λ x. is_open Server x t) id (ids (table Server t)) (closed_outside t id e))

opened_same : (t : Trace Act) (w : Words) (reliable lossy : List ℕ) → AreWords Server t w → first_closed reliable lossy w.opened ≡ first_closed reliable lossy (words t).opened
opened_same t w reliable lossy a =
    ap (λ b. cond (is_empty reliable || b) (cond (is_empty lossy || (w.opened).lossy) None (Some Lossy)) (Some Reliable)) a.reliable_is
    ∙ ap (λ b. cond (is_empty reliable || is_live Server Reliable t) (cond (is_empty lossy || b) None (Some Lossy)) (Some Reliable)) a.lossy_is

pub refused_same : (t : Trace Act) (w : Words) (reliable lossy : List ℕ) → EndOfActs Server t → AreWords Server t w → why_not reliable lossy w ≡ why_not reliable lossy (words t)
refused_same t w reliable lossy e a =
    let u = words t in
    let all = reliable ++ lossy in
    let again = find (is_listed u) all in
    let closed = first_closed reliable lossy u.opened in
    why_is reliable lossy w (nat_lt u.version 3) (is_empty all) (find (lacks_channel u) all) (first_repeated [] all) again closed
    (ap (λ n. nat_lt n 3) a.version_is) refl (found_same (lacks_channel w) (lacks_channel u) (λ id. ap not (told_same t w id e a)) all) refl
    (found_same (is_listed w) (is_listed u) (λ id. ap (λ xs. is_some (listed id xs)) a.made_are) all) (opened_same t w reliable lossy a)
    ∙ ap (λ n. verdict n (nat_lt u.version 3) (is_empty all) (find (lacks_channel u) all) (first_repeated [] all) again closed) a.version_is

-- ---- channels that may move

none_any : (id : ℕ) (all : List ℕ) → AllByRecursion (λ y. nat_eq id y ≡ false) all → list_any (nat_eq id) all ≡ false
none_any id [] h = refl
none_any id (x ∷ all) h = ap (λ b. b || list_any (nat_eq id) all) h.0 ∙ none_any id all h.1

not_found : (b : Bool) (id : ℕ) (later : Option ℕ) → cond b (Some id) later ≡ None → (b ≡ false) × (later ≡ None)
not_found true id later h = absurd (let no : Some id ≡ None = h in cc)
not_found false id later h = (refl, h)

not_not : (b : Bool) → not b ≡ false → b ≡ true
not_not true h = refl
not_not false h = absurd (let no : true ≡ false = h in cc)

pub none_some : {A : Type 0} (o : Option A) → is_some o ≡ false → o ≡ None
none_some None h = refl
none_some (Some x) h = absurd (let no : true ≡ false = h in cc)

may_move : (t : Trace Act) (w : Words) (all : List ℕ) → AreWords Server t w → find (lacks_channel w) all ≡ None → find (is_listed w) all ≡ None → IsDistinct nat_eq all → MayMove t all
may_move t w [] a known new distinct = tt
may_move t w (id ∷ all) a known new distinct =
    let k = not_found (lacks_channel w id) id (find (lacks_channel w) all) known in
    let n = not_found (is_listed w id) id (find (is_listed w) all) new in
    (sym ((a.channels_are).open_are id) ∙ not_not (is_open_channel id w) k.0, ap (listed id) (sym a.made_are) ∙ none_some (listed id w.made) n.0, none_any id all (IsDistinct-head nat_eq id all distinct), may_move t w all a k.1 n.1 (IsDistinct-tail nat_eq id all distinct))

none_distinct : IsDistinct nat_eq []
unfolding IsDistinct
none_distinct = tt

some_ids : (all : List ℕ) → is_empty all ≡ false → 0 < length all
some_ids [] h = absurd (let no : true ≡ false = h in cc)
some_ids (id ∷ all) h = omega arith

none_closed : (version : ℕ) (old empty : Bool) (unknown repeated again : Option ℕ) (closed : Option Kind) → verdict version old empty unknown repeated again closed ≡ None → closed ≡ None
none_closed version true empty unknown repeated again closed h = absurd (let no : Some (sync.OldVersion version) ≡ None = h in cc)
none_closed version false true unknown repeated again closed h = absurd (let no : Some sync.Empty ≡ None = h in cc)
none_closed version false false (Some id) repeated again closed h = absurd (let no : Some (sync.UnknownChannel id) ≡ None = h in cc)
none_closed version false false None (Some id) again closed h = absurd (let no : Some (sync.Repeated id) ≡ None = h in cc)
none_closed version false false None None (Some id) closed h = absurd (let no : Some (sync.AlreadyListed id) ≡ None = h in cc)
none_closed version false false None None None None h = refl
none_closed version false false None None None (Some kind) h = absurd (let no : Some (sync.TunnelNotOpen kind) ≡ None = h in cc)

-- a kind with ids has a live tunnel
reliable_live : (t : Trace Act) (reliable lossy : List ℕ) (opened : Kinds) → opened.reliable ≡ is_live Server Reliable t → first_closed reliable lossy opened ≡ None → HasTunnel t Reliable reliable
reliable_live t [] lossy opened is h = tt
reliable_live t (id ∷ reliable) lossy opened is h = sym is ∙ by_test opened.reliable h where
  by_test : (b : Bool) → cond b (cond (is_empty lossy || opened.lossy) None (Some Lossy)) (Some Reliable) ≡ None → b ≡ true
  by_test true k = refl
  by_test false k = absurd (let no : Some Reliable ≡ None = k in cc)

lossy_live : (t : Trace Act) (reliable lossy : List ℕ) (opened : Kinds) → opened.lossy ≡ is_live Server Lossy t → first_closed reliable lossy opened ≡ None → HasTunnel t Lossy lossy
lossy_live t reliable [] opened is h = tt
lossy_live t reliable (id ∷ lossy) opened is h = sym is ∙ by_test (is_empty reliable || opened.reliable) opened.lossy h where
  by_test : (a b : Bool) → cond a (cond b None (Some Lossy)) (Some Reliable) ≡ None → b ≡ true
  by_test true true k = refl
  by_test true false k = absurd (let no : Some Lossy ≡ None = k in cc)
  by_test false b k = absurd (let no : Some Reliable ≡ None = k in cc)

pub may : (t : Trace Act) (w : Words) (reliable lossy : List ℕ) → AreWords Server t w → why_not reliable lossy w ≡ None → IsMove t reliable lossy
may t w reliable lossy a h =
    let all = reliable ++ lossy in
    let fine = allowed reliable lossy w h in
    let open_ones = none_closed w.version (nat_lt w.version 3) (is_empty all) (find (lacks_channel w) all) (first_repeated [] all) (find (is_listed w) all) (first_closed reliable lossy w.opened) h in record {
      some = some_ids all fine.some;
      may_move = may_move t w all a fine.known fine.new (distinct_then [] all none_distinct fine.unrepeated);
      reliable_is_open = reliable_live t reliable lossy w.opened a.reliable_is open_ones;
      lossy_is_open = lossy_live t reliable lossy w.opened a.lossy_is open_ones;
    }

-- there are no more than channels
pub few_ids : (t : Trace Act) (reliable lossy : List ℕ) → EndOfActs Server t → IsMove t reliable lossy → length (reliable ++ lossy) ≤ 256
few_ids t reliable lossy e m =
    let all = reliable ++ lossy in
    let new = new_all t [] all (out_all t [] all (λ id k. refl) m.may_move) m.may_move in
    omega (arith, no_more [] all _ new (requested_among t all e m.may_move), ap length (channels_are Server t e), most_channels t e)

-- ---- a server has no more answers than requests

behind_some : (rs : List Request) (zs : List Kinds) (r : Request) (rest : List Request) → unanswered_in (exchanges rs zs) ≡ r ∷ rest → length zs < length rs
behind_some [] zs r rest h = absurd (let no : [] ≡ r ∷ rest = h in cc)
behind_some (x ∷ rs) [] r rest h = omega arith
behind_some (x ∷ rs) (z ∷ zs) r rest h = omega (arith, behind_some rs zs r rest h)

few_act : (t : Trace Act) (act : Act) → IsAct Server t act → length (all_told answer_read t) ≤ length (all_told made_by t) → length (all_told answer_read (t ▷ act)) ≤ length (all_told made_by (t ▷ act))
few_act t (Hears (Spoken (SyncResponse types))) a h =
    let less = waits (unanswered_in (made t)) refl (heard_fine Server t (SyncResponse types) (Moved types) a refl refl) in
    omega (arith, less, length-append (all_told answer_read t) (answer_read (Hears (Spoken (SyncResponse types)))), length-append (all_told made_by t) [])
  where
    waits : (rs : List Request) → unanswered_in (made t) ≡ rs → answers_fault rs types ≡ None → length (all_told answer_read t) < length (all_told made_by t)
    waits [] e k = absurd (let no : Some BadSyncAnswer ≡ None = k in cc)
    waits (r ∷ rs) e k = behind_some (all_told made_by t) (all_told answer_read t) r rs e
few_act t act a h = omega (arith, h, length-append (all_told answer_read t) [], length-append (all_told made_by t) (made_by act))

pub few_read : (t : Trace Act) → EndOfActs Server t → length (all_told answer_read t) ≤ length (all_told made_by t)
few_read Start e = omega arith
few_read (t ▷ act) e = few_act t act e.1 (few_read t e.2)

-- ---- one act more

tells : (kind : Kind) (t : Trace Act) (reliable lossy : List ℕ) → TellsNothing Server kind t (Syncs reliable lossy)
tells kind t reliable lossy = record { no_request = refl; no_link = refl; no_verdict = refl; no_answer = refl; no_refusal = refl; no_silence = refl }

is_word : (t : Trace Act) (reliable lossy : List ℕ) → IsWord Server t (Syncs reliable lossy)
is_word t reliable lossy = record {
  reliable = tells _ t reliable lossy;
  lossy = tells _ t reliable lossy;
  no_version = refl;
  no_capabilities = refl;
  none_issued = refl;
  no_channels = refl;
  reliable_held = refl;
  lossy_held = refl;
}

moved_by : (role : Role) (s : Store) (t : Trace Act) (gone : Gone) (reliable lossy : List ℕ) → role ≡ Server → s.role ≡ role → Stands s t gone → IsMove t reliable lossy
    → Stands (record s { paths = record s.paths { made = (s.paths).made ++ unanswered (request_of reliable lossy) ∷ [] }; outgoing = says (Spoken (sync_request reliable lossy)) s.outgoing }) (t ▷ Syncs reliable lossy) gone
moved_by Client s t gone reliable lossy e is st m = absurd (let never : Client ≡ Server = e in cc)
moved_by Server s t gone reliable lossy e is st m =
    let k : Knows Server s t = subst (λ r. Knows r s t) is st.knows in
    let act = Syncs reliable lossy in
    let told = (k.words_are).channels_are in
    let o = says (Spoken (sync_request reliable lossy)) s.outgoing in
    let request = request_of reliable lossy in
    let made_now = (s.paths).made ++ unanswered request ∷ [] in
    let made_is : made_now ≡ made (t ▷ act) =
    ap (λ xs. xs ++ unanswered request ∷ []) (k.words_are).made_are ∙ sym (asked (all_told made_by t) (all_told answer_read t) request (few_read t k.lawful))
    ∙ ap (exchanges (all_told made_by t ++ request ∷ [])) (sym (append-nil (all_told answer_read t))) in
    let read_same : read t ≡ read (t ▷ act) =
    sym (ap (λ x. exchanges x (all_told answer_made (t ▷ act))) (append-nil (all_told read_by t)) ∙ ap (exchanges (all_told read_by t)) (append-nil (all_told answer_made t))) in record {
      knows =
          subst (λ r. Knows r (record s { paths = record s.paths { made = made_now }; outgoing = o }) (t ▷ act)) (sym is)
          (knows_word Server s t act (s.paths).channels made_now (s.paths).read s.owed o k (is_word t reliable lossy) (sym (ap not k.begun), ((refl, m), tt), k.lawful)
          (record { ids_are = told.ids_are; open_are = told.open_are }) made_is ((k.words_are).read_are ∙ read_same) (k.owed_is ∙ ap (λ x. length (unanswered_in x)) read_same));
      waits = spoke s.role s.outgoing t gone act (Spoken (sync_request reliable lossy)) refl st.waits;
    }

-- ---- what the call found, and what it left

no_sync : (o : Option SyncRefusal) → because move.Sync o ≡ None → o ≡ None
no_sync None h = refl
no_sync (Some why) h = absurd (let no : Some (move.Sync why) ≡ None = h in cc)

-- what is known of a whole server: the words that it keeps decide
pub before_is : (s : Store) (t : Trace Act) (gone : Gone) (reliable lossy : List ℕ) → s.role ≡ Server → Stands s t gone → s.broken ≡ None → before_moved s.broken t reliable lossy ≡ because move.Sync (why_not reliable lossy s.paths)
before_is s t gone reliable lossy is st whole =
    let k = of_server s t gone is st in
    ap (λ b. option_or (because move.Broken b) (because move.Sync (why_not reliable lossy (words t)))) whole ∙ ap (because move.Sync) (sym (refused_same t s.paths reliable lossy k.lawful k.words_are))

-- there was no cause, in what was looked at before the queue
pub none_refuses : (s : Store) (t : Trace Act) (gone : Gone) (reliable lossy : List ℕ) (r : Option MoveRefusal) → s.role ≡ Server → Stands s t gone → r ≡ before_moved s.broken t reliable lossy → r ≡ None
    → why_not reliable lossy s.paths ≡ None
none_refuses s t gone reliable lossy r is st before none =
    let k = of_server s t gone is st in
    refused_same t s.paths reliable lossy k.lawful k.words_are ∙ no_sync (why_not reliable lossy (words t)) (none_later (because move.Broken s.broken) (because move.Sync (why_not reliable lossy (words t))) (sym before ∙ none))

small_all : (xs : List ℕ) → ((i : ℕ) → get_or xs i 0 < 2 ^ 32) → All (λ id. id < 2 ^ 32) xs
small_all xs h k d less = subst (λ n. n < 2 ^ 32) (get_or_default xs k 0 d less) (h k)

pub request_fits : (s : Store) (t : Trace Act) (gone : Gone) (reliable lossy : List ℕ) → s.role ≡ Server → Stands s t gone → why_not reliable lossy s.paths ≡ None
    → ((i : ℕ) → get_or reliable i 0 < 2 ^ 32) → ((i : ℕ) → get_or lossy i 0 < 2 ^ 32) → IsPdu Server (sync_request reliable lossy)
request_fits s t gone reliable lossy is st none small small_too =
    let k = of_server s t gone is st in
    sync_fits reliable lossy (few_ids t reliable lossy k.lawful (may t s.paths reliable lossy k.words_are none))
    (each_of_all (λ id. id < 2 ^ 32) reliable (small_all reliable small)) (each_of_all (λ id. id < 2 ^ 32) lossy (small_all lossy small_too))

then_ok : {P : Type 0} (r : Result (Unit {0}) SyncRefusal) (cause : Option SyncRefusal) → cause ≡ None → IfErr r (λ why. cause ≡ Some why) → OnOk r P → P
then_ok (Ok x) cause none h p = p
then_ok (Err why) cause none h p = absurd (let no : None ≡ Some why = sym none ∙ h in cc)

pub moved : (s : Store) (t : Trace Act) (gone : Gone) (reliable lossy bytes : List ℕ) (r : Result (Unit {0}) SyncRefusal) (w : Words) (o : Outgoing) → s.role ≡ Server → Stands s t gone → why_not reliable lossy s.paths ≡ None
    → IfErr r (λ why. why_not reliable lossy s.paths ≡ Some why) → OnOk r (w ≡ record s.paths { made = (s.paths).made ++ unanswered (request_of reliable lossy) ∷ [] })
    → bytes ≡ spelled (sync_request reliable lossy) → o ≡ record s.outgoing { main = (s.outgoing).main ++ joined (frame_fields (Channel bytes)) }
    → Stands (record s { paths = w; outgoing = o }) (t ▷ Syncs reliable lossy) gone
moved s t gone reliable lossy bytes r w o is st none refused made_is bytes_are o_is =
    let k = of_server s t gone is st in
    let base = moved_by Server s t gone reliable lossy refl is st (may t s.paths reliable lossy k.words_are none) in
    let says_is = o_is ∙ ap (λ b. record s.outgoing { main = (s.outgoing).main ++ joined (frame_fields (Channel b)) }) bytes_are in
    subst (λ x. Stands (record s { paths = w; outgoing = x }) (t ▷ Syncs reliable lossy) gone) (sym says_is)
    (subst (λ x. Stands (record s { paths = x; outgoing = says (Spoken (sync_request reliable lossy)) s.outgoing }) (t ▷ Syncs reliable lossy) gone)
    (sym (then_ok r (why_not reliable lossy s.paths) none refused made_is)) base)

-- ---- why it is refused

pub refused_before : (broken : Option Fault) (t : Trace Act) (queued : ℕ) (reliable lossy : List ℕ) (r : Option MoveRefusal) (why : MoveRefusal) → r ≡ before_moved broken t reliable lossy → r ≡ Some why
    → why_not_moved broken t queued reliable lossy ≡ Some why
refused_before broken t queued reliable lossy r why is some =
    ap (λ o. option_or o (when (passes queued (frame_size (Spoken (sync_request reliable lossy))) (main_limit t)) (move.QueueFull queued (main_limit t)))) (sym is ∙ some)

pub why_by_room : (broken : Option Fault) (t : Trace Act) (queued : ℕ) (reliable lossy bytes : List ℕ) (r : Option MoveRefusal) → r ≡ before_moved broken t reliable lossy → r ≡ None
    → bytes ≡ spelled (sync_request reliable lossy)
    → why_not_moved broken t queued reliable lossy ≡ when (passes queued (length bytes + 3) (main_limit t)) (move.QueueFull queued (main_limit t))
why_by_room broken t queued reliable lossy bytes r is none are =
    let size : frame_size (Spoken (sync_request reliable lossy)) ≡ length bytes + 3 = ap (λ b. length (joined (frame_fields (Channel b)))) (sym are) ∙ frame_size_is bytes in
    ap (λ o. option_or o (when (passes queued (frame_size (Spoken (sync_request reliable lossy))) (main_limit t)) (move.QueueFull queued (main_limit t)))) (sym is ∙ none)
    ∙ ap (λ n. when (passes queued n (main_limit t)) (move.QueueFull queued (main_limit t))) size
