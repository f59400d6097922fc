-- What an end has read of the main stream, and what it knows by it.
use Rattle.std.proofs.Common.{◌≡◌, ℕ, ◌<◌, Bool, true, false, ◌||◌, cond, eqb, nat_eq, List, [], ◌∷◌, ◌++◌, map, length, Option, Some, None, refl, sym, ap, subst, ◌∙◌, append-nil}
use Rattle.std.proofs.lemmas.Bool.{lt-ltb}
use Rattle.std.specs.Option.{option_or}
use Rattle.mt_base.specs.declared.kinds.Kind.{Kind}
use Rattle.mt_base.specs.declared.kinds.Role.{Role}
use Rattle.mt_base.specs.declared.kinds.Role.TheVariants.{Server, Client}
use Rattle.mt_base.specs.Trace.{Trace, Start, ◌▷◌}
use Rattle.dvc_pdus.specs.Value.{Pdu, Caps, SyncRequest, SyncResponse}
use Rattle.dvc_channels.specs.Acts.{Act as Change, Made, Answered, Came, Took, Ended}
use Rattle.dvc_channels.specs.Acts as channels
use Rattle.mt_endpoint.specs.Acts.{Act, Opens, Asks, Hears, Releases, Heard, TunnelAsked, Spoken}
use Rattle.mt_endpoint.specs.Said.{Said, Creates, said}
use Rattle.mt_endpoint.specs.Channels.{came, table, has_place, with_said, is_ready, tells_capabilities, is_known}
use Rattle.mt_endpoint.specs.Tunnels.{asked, request_in, Request}
use Rattle.mt_base.specs.Ends.{same_kind}
use Rattle.mt_endpoint.specs.Holding.{channel_in}
use Rattle.std.specs.Map.{lookup}
use Rattle.soft_sync.specs.declared.kinds.Kinds.{Kinds}
use Rattle.soft_sync.specs.Exchanges.{exchanges, listed}
use Rattle.soft_sync.specs.Exchanges as sync
use Rattle.mt_endpoint.specs.Moving.{all_told, read_by, answer_read, kinds_of}
use Rattle.mt_endpoint.specs.Faults.{is_capable}
use Rattle.mt_endpoint.proofs.Known.{among-append}
use Rattle.mt_endpoint.proofs.Answering.{map-append}
use Rattle.mt_endpoint.proofs.Listing.{Told, told_more, ids_of, other_way}
use Rattle.mt_endpoint.specs.World.{hears, heard_in}
use Rattle.mt_endpoint.specs.Alone.{IsAct, EndOfActs, IsDue}
use Rattle.mt_endpoint.specs.Orders.{EachMay, is_among, asks, capable, told_by, creation, answers_of, ids_in, channels_of, SaidMay, MayCreate}
use Rattle.mt_endpoint.proofs.Asking.{asks-append}
use Rattle.mt_endpoint.proofs.Telling.{capable-append, either}
use Rattle.mt_endpoint.proofs.Creating.{told-append, rooted}
use Rattle.mt_endpoint.proofs.Each.{each_at}

-- ---- fronts of lists of which each element stands where it may

pub each_front : {A : Type 0} (may : List A → A → Type 0) (before xs ys : List A) → EachMay may before (xs ++ ys) → EachMay may before xs
each_front may before [] ys h = tt
each_front may before (x ∷ xs) ys h = (h.0, each_front may (before ++ x ∷ []) xs ys h.1)

-- ---- a tunnel that was not asked for

asked_new : (kind : Kind) (t : Trace Act) (act : Act) → IsAct Client t act → asks kind (heard_in act) ≡ false → request_in kind act ≡ None
asked_new kind t (Asks made id cookie) a h = absurd (let no : Client ≡ Server = a.0.0 in cc)
asked_new kind t (Hears (TunnelAsked id made cookie)) a h = by_test (same_kind kind made) (either (same_kind kind made) false h).0 where
  by_test : (b : Bool) → b ≡ false → cond {A = Option Request} b (Some (record { id = id; cookie = cookie })) None ≡ None
  by_test true e = absurd (let no : true ≡ false = e in cc)
  by_test false e = refl
asked_new kind t act a h = refl

pub heard_asked : (kind : Kind) (t : Trace Act) → EndOfActs Client t → asks kind (hears t) ≡ false → asked kind t ≡ None
heard_asked kind Start e h = refl
heard_asked kind (t ▷ act) e h =
    let n = either (asks kind (hears t)) (asks kind (heard_in act)) (sym (asks-append kind (hears t) (heard_in act)) ∙ h) in
    ap (λ o. option_or o (request_in kind act)) (heard_asked kind t e.2 n.0) ∙ asked_new kind t act e.1 n.1

-- ---- capabilities

heard_tells : (pdu : Pdu) → tells_capabilities (pdu ∷ []) ≡ is_capable (said pdu) || false
heard_tells (Caps version charges) = refl
heard_tells pdu = refl

due_tells : (role : Role) (kind : Kind) (t : Trace Act) (at : ℕ) (bytes : List ℕ) (pdu : Pdu) → IsDue role kind t at bytes pdu → tells_capabilities (pdu ∷ []) ≡ false
due_tells role kind t at bytes (Caps version charges) d = absurd (let no : None ≡ Some d.id = d.channel_is in cc)
due_tells role kind t at bytes pdu d = refl

ready_new : (role : Role) (t : Trace Act) (act : Act) → IsAct role t act → tells_capabilities (came act) ≡ capable (heard_in act)
ready_new role t (Hears (Spoken pdu)) a = heard_tells pdu
ready_new role t (Releases kind at bytes pdu) a = due_tells role kind t at bytes pdu a
ready_new role t act a = refl

pub ready_is : (role : Role) (t : Trace Act) → EndOfActs role t → is_ready t ≡ capable (hears t)
ready_is role Start e = refl
ready_is role (t ▷ act) e =
    ap (λ b. b || tells_capabilities (came act)) (ready_is role t e.2) ∙ ap (λ b. capable (hears t) || b) (ready_new role t act e.1) ∙ sym (capable-append (hears t) (heard_in act))

-- ---- a client has the channels that were created

has_place_if : (c : Trace Change) (ids : List ℕ) → channels.ids c ≡ ids → length ids < 256 → has_place c ≡ true
has_place_if c ids e h = lt-ltb (length (channels.ids c)) 256 (subst (λ l. length l < 256) (sym e) h)

placed : (b : Bool) (c : Trace Change) (id : ℕ) (name : List ℕ) → b ≡ true → channels.ids (cond b (c ▷ Made id name ▷ Answered id 0) c) ≡ channels.ids c ++ id ∷ []
placed true c id name h = refl
placed false c id name h = absurd (let no : false ≡ true = h in cc)

ids_heard : (pdu : Pdu) (s : Said) (c : Trace Change) (before : List Heard) → SaidMay Server before s → channels.ids c ≡ told_by creation before → channels.ids (with_said Client pdu s c) ≡ channels.ids c ++ (creation s ++ [])
ids_heard pdu (Creates id name) c before m e = placed (has_place c) c id name (has_place_if c (told_by creation before) e m.2)
ids_heard pdu s c before m e = sym (append-nil (channels.ids c))

ids_due : (role : Role) (kind : Kind) (t : Trace Act) (at : ℕ) (bytes : List ℕ) (pdu : Pdu) (s : Said) (c : Trace Change) → IsDue role kind t at bytes pdu → said pdu ≡ s → channels.ids (with_said Client pdu s c) ≡ channels.ids c
ids_due role kind t at bytes pdu (Creates id name) c d e = absurd (let no : None ≡ Some d.id = sym (ap channel_in e) ∙ d.channel_is in cc)
ids_due role kind t at bytes pdu s c d e = refl

ids_new : (t : Trace Act) (act : Act) → IsAct Client t act → EachMay (MayCreate Server) [] (hears t ++ heard_in act) → channels.ids (table Client t) ≡ told_by creation (hears t)
    → channels.ids (table Client (t ▷ act)) ≡ channels.ids (table Client t) ++ told_by creation (heard_in act)
ids_new t (Opens id name) a m e = absurd (let no : Client ≡ Server = a.0.0 in cc)
ids_new t (Hears (Spoken pdu)) a m e = ids_heard pdu (said pdu) (table Client t) (hears t) (each_at (MayCreate Server) [] (hears t) (Spoken pdu) [] m) e
ids_new t (Releases kind at bytes pdu) a m e = ids_due Client kind t at bytes pdu (said pdu) (table Client t) a refl ∙ sym (append-nil (channels.ids (table Client t)))
ids_new t act a m e = sym (append-nil (channels.ids (table Client t)))

pub client_ids : (t : Trace Act) → EndOfActs Client t → EachMay (MayCreate Server) [] (hears t) → channels.ids (table Client t) ≡ told_by creation (hears t)
client_ids Start e m = refl
client_ids (t ▷ act) e m =
    let old = client_ids t e.2 (each_front (MayCreate Server) [] (hears t) (heard_in act) m) in
    ids_new t act e.1 m old ∙ ap (λ l. l ++ told_by creation (heard_in act)) old ∙ sym (told-append creation (hears t) (heard_in act))

pub client_known : (t : Trace Act) (id : ℕ) → EndOfActs Client t → EachMay (MayCreate Server) [] (hears t) → is_among id (channels_of Server (hears t)) ≡ true → is_known Client id t ≡ true
client_known t id e m h = (rooted Client t e).known id (ap (is_among id) (client_ids t e m) ∙ h)

pub client_new : (t : Trace Act) (id : ℕ) → EndOfActs Client t → EachMay (MayCreate Server) [] (hears t) → is_among id (channels_of Server (hears t)) ≡ false → is_known Client id t ≡ false
client_new t id e m h = by_test (is_known Client id t) refl where
  by_test : (b : Bool) → is_known Client id t ≡ b → b ≡ false
  by_test true k = absurd (let no : true ≡ false = sym ((rooted Client t e).listed id k) ∙ ap (is_among id) (client_ids t e m) ∙ h in cc)
  by_test false k = refl

-- ---- requests that were read

reads_new : (act : Act) → Told (heard_in act) (read_by act)
reads_new (Hears (Spoken (SyncRequest flags tunnels lists))) = record { ids_are = refl; as_many = refl; requests_are = refl }
reads_new (Hears (Spoken pdu)) = record { ids_are = refl; as_many = refl; requests_are = refl }
reads_new act = record { ids_are = refl; as_many = refl; requests_are = refl }

pub reads_are : (t : Trace Act) → Told (hears t) (all_told read_by t)
reads_are Start = record { ids_are = refl; as_many = refl; requests_are = refl }
reads_are (t ▷ act) = told_more (hears t) (heard_in act) (all_told read_by t) (read_by act) (reads_are t) (reads_new act)

unlooked : (id : ℕ) (listed : List (ℕ × Kind)) → is_among id (ids_in listed) ≡ false → lookup (nat_eq id) listed ≡ None
unlooked id [] h = refl
unlooked id ((x, kind) ∷ listed) h =
    let n = either (eqb x id) (is_among id (ids_in listed)) h in ap (λ b. cond b (Some kind) (lookup (nat_eq id) listed)) (other_way x id n.0) ∙ unlooked id listed n.1

pub unheard : (id : ℕ) (rs : List sync.Request) (zs : List Kinds) → is_among id (ids_of rs) ≡ false → listed id (exchanges rs zs) ≡ None
unheard id [] zs h = refl
unheard id (r ∷ rs) zs h = by_answers zs (either (is_among id (ids_in r.channels)) (is_among id (ids_of rs)) (sym (among-append id (ids_in r.channels) (ids_of rs)) ∙ h)) (λ ys k. unheard id rs ys k) where
  by_answers : (zs : List Kinds) → (is_among id (ids_in r.channels) ≡ false) × (is_among id (ids_of rs) ≡ false) → ((ys : List Kinds) → is_among id (ids_of rs) ≡ false → listed id (exchanges rs ys) ≡ None) → listed id (exchanges (r ∷ rs) zs) ≡ None
  by_answers [] n deeper = ap (λ o. option_or o (listed id (exchanges rs []))) (unlooked id r.channels n.0) ∙ deeper [] n.1
  by_answers (z ∷ zs) n deeper = ap (λ o. option_or o (listed id (exchanges rs zs))) (unlooked id r.channels n.0) ∙ deeper zs n.1

pub answers_new : (act : Act) → map kinds_of (told_by answers_of (heard_in act)) ≡ answer_read act
answers_new (Hears (Spoken (SyncResponse types))) = refl
answers_new (Hears (Spoken pdu)) = refl
answers_new act = refl

pub answers_heard : (t : Trace Act) → map kinds_of (told_by answers_of (hears t)) ≡ all_told answer_read t
answers_heard Start = refl
answers_heard (t ▷ act) =
    ap (map kinds_of) (told-append answers_of (hears t) (heard_in act)) ∙ map-append kinds_of (told_by answers_of (hears t)) (told_by answers_of (heard_in act))
    ∙ ap (λ l. l ++ map kinds_of (told_by answers_of (heard_in act))) (answers_heard t) ∙ ap (λ l. all_told answer_read t ++ l) (answers_new act)
