-- No frame of the other end is a fault, data and closes apart.
use Rattle.std.proofs.Common.{◌≡◌, ℕ, ◌<◌, ◌≤◌, Bool, true, false, not, ◌||◌, cond, eqb, nat_eq, nat_le, List, [], ◌∷◌, length, Option, Some, None, is_some, refl, sym, ap, subst, ◌∙◌, append_assoc, arith, leb-true}
use Rattle.mt_base.specs.declared.kinds.Kind.{Kind}
use Rattle.mt_base.specs.declared.kinds.Role.{Role}
use Rattle.mt_base.specs.declared.kinds.Role.TheVariants.{Server, Client}
use Rattle.mt_base.specs.Ends.{other}
use Rattle.mt_base.specs.Trace.{Trace}
use Rattle.dvc_pdus.specs.Value.{Pdu, ChannelList}
use Rattle.mt_endpoint.specs.Acts.{Act, Heard, TunnelAsked, TunnelAnswered, Spoken}
use Rattle.mt_endpoint.specs.Said.{Said, Capable, Creates, Created, Brings, Ends, Moves, Moved, said}
use Rattle.mt_endpoint.specs.Tunnels.{asked}
use Rattle.mt_endpoint.specs.Writing.{spoken}
use Rattle.std.specs.List.{list_any}
use Rattle.dvc_channels.specs.declared.answers.ChannelRefusal.TheVariants as refusal
use Rattle.soft_sync.specs.Exchanges.{listed}
use Rattle.mt_endpoint.specs.Channels.{is_known, is_ready}
use Rattle.mt_endpoint.specs.Moving.{all_told, read_by, answer_made, read, channels_listed}
use Rattle.mt_endpoint.specs.Faults.{Why, Unexpected, SyncUnknown, Channel, when, main_fault, said_fault, request_fault, ids_fault, is_capable}
use Rattle.mt_base.specs.Prefix.{IsPrefixOf}
use Rattle.mt_endpoint.specs.World.{hears}
use Rattle.mt_endpoint.specs.Orders.{EachMay, MayAsk, MayTell, MayCreate, SaidMay, capable, is_among, channels_of, told_by, listings, ids_in, AllAmong, EachNew, MovesMay, MayList}
use Rattle.mt_endpoint.specs.Meeting.{Meet, Comes, is_for_channel, is_control}
use Rattle.mt_endpoint.proofs.Each.{each_at}
use Rattle.mt_endpoint.proofs.Asking.{asked_once}
use Rattle.mt_endpoint.proofs.Telling.{told_first, either}
use Rattle.mt_endpoint.proofs.Creating.{created_first}
use Rattle.mt_endpoint.proofs.Hearing.{each_front, heard_asked, ready_is, client_known, client_new, reads_are, unheard}
use Rattle.mt_endpoint.proofs.Listing.{listed_once, other_way}
use Rattle.mt_endpoint.proofs.Responding.{response_fine, created_fine}

-- what holds of each frame that the other end wrote holds of the next that comes
pub next_may : (may : List Heard → Heard → Type 0) (role : Role) (here there : Trace Act) (heard : Heard) → EachMay may [] (spoken (other role) there) → Comes role here there heard → may (hears here) heard
next_may may role here there heard each h =
    each_at may [] (hears here) heard h.0 (subst (EachMay may []) (h.1 ∙ append_assoc (hears here) (heard ∷ []) h.0) each)

pub front_may : (may : List Heard → Heard → Type 0) (role : Role) (here there : Trace Act) → EachMay may [] (spoken (other role) there) → IsPrefixOf (hears here) (spoken (other role) there) → EachMay may [] (hears here)
front_may may role here there each h = each_front may [] (hears here) h.0 (subst (EachMay may []) h.1 each)

asked_none : {A : Type 0} (o : Option A) → o ≡ None → when (is_some o) Unexpected ≡ None
asked_none None h = refl
asked_none (Some x) h = absurd (let no : Some x ≡ None = h in cc)

-- frames about tunnels
pub tunnel_asked_fine : (role : Role) (here there : Trace Act) (id : ℕ) (kind : Kind) (cookie : List ℕ) → Meet role here there → Comes role here there (TunnelAsked id kind cookie) → main_fault role here (TunnelAsked id kind cookie) ≡ None
tunnel_asked_fine Server here there id kind cookie m h =
    absurd (let no : Client ≡ Server = (next_may (MayAsk Client) Server here there (TunnelAsked id kind cookie) (asked_once Client there m.there_acts) h).0 in cc)
tunnel_asked_fine Client here there id kind cookie m h =
    asked_none (asked kind here) (heard_asked kind here m.here_acts (next_may (MayAsk Server) Client here there (TunnelAsked id kind cookie) (asked_once Server there m.there_acts) h).1)

pub tunnel_answered_fine : (role : Role) (here there : Trace Act) (id hr : ℕ) → Meet role here there → Comes role here there (TunnelAnswered id hr) → main_fault role here (TunnelAnswered id hr) ≡ None
tunnel_answered_fine Server here there id hr m h = refl
tunnel_answered_fine Client here there id hr m h =
    absurd (let no : Server ≡ Client = next_may (MayAsk Server) Client here there (TunnelAnswered id hr) (asked_once Server there m.there_acts) h in cc)

-- capabilities come first, and once
pub ready_case : (ready c : Bool) (f : Option Why) → ready ≡ not c → (c ≡ false → f ≡ None) → cond ready (cond c (Some Unexpected) f) (when (not c) Unexpected) ≡ None
ready_case true true f h k = absurd (let no : true ≡ false = h in cc)
ready_case true false f h k = k refl
ready_case false true f h k = refl
ready_case false false f h k = absurd (let no : false ≡ true = h in cc)

pub told_ready : (role : Role) (here there : Trace Act) (pdu : Pdu) → Meet role here there → Comes role here there (Spoken pdu) → capable (hears here) ≡ not (is_capable (said pdu))
told_ready role here there pdu m h = next_may MayTell role here there (Spoken pdu) (told_first (other role) there m.there_acts) h

-- ---- a request

abbrev pub Clear : Trace Act → List ℕ → List ℕ → Type 0
Clear t all seen = (x : ℕ) → is_among x all ≡ false → (list_any (nat_eq x) seen ≡ false) × (listed x (read t) ≡ None)

pass_ids : (b : Bool) (o : Option Kind) (k : Bool) (f g h : Option Why) → b ≡ false → o ≡ None → k ≡ true → g ≡ None → cond (b || is_some o) f (cond k g h) ≡ None
pass_ids true o k f g h p q r e = absurd (let no : true ≡ false = p in cc)
pass_ids false (Some x) k f g h p q r e = absurd (let no : Some x ≡ None = q in cc)
pass_ids false None true f g h p q r e = e
pass_ids false None false f g h p q r e = absurd (let no : false ≡ true = r in cc)

clear_more : (t : Trace Act) (all seen : List ℕ) (id : ℕ) → Clear t all seen → Clear t (id ∷ all) (id ∷ seen)
clear_more t all seen id c x h =
    let n = either (eqb id x) (is_among x all) h in
    let k = c x n.1 in
    (ap (λ b. b || list_any (nat_eq x) seen) (other_way id x n.0) ∙ k.0, k.1)

ids_fine : (t : Trace Act) (made all seen : List ℕ) (requested : List (ℕ × Kind)) → ((id : ℕ) → is_among id made ≡ true → is_known Client id t ≡ true) → AllAmong made requested → Clear t all seen → EachNew all (ids_in requested)
    → ids_fault Client t seen requested ≡ None
ids_fine t made all seen [] k a c n = refl
ids_fine t made all seen ((id, kind) ∷ requested) k a c n =
    let clear = c id n.0 in
    pass_ids (list_any (nat_eq id) seen) (listed id (read t)) (is_known Client id t) (Some Unexpected) (ids_fault Client t (id ∷ seen) requested) (Some (SyncUnknown id)) clear.0 clear.1 (k id a.0)
    (ids_fine t made (id ∷ all) (id ∷ seen) requested k a.1 (clear_more t all seen id c) n.1)

not_many : (n : ℕ) (f : Option Why) → n < 256 → f ≡ None → cond (nat_le 256 n) (Some Unexpected) f ≡ None
not_many n f less e = by_test (nat_le 256 n) refl where
  by_test : (b : Bool) → nat_le 256 n ≡ b → cond b (Some Unexpected) f ≡ None
  by_test true h = absurd (let most : 256 ≤ n = leb-true 256 n h in omega (arith, most, less))
  by_test false h = e

request_fine : (here there : Trace Act) (pdu : Pdu) (lists : List ChannelList) → Meet Client here there → Comes Client here there (Spoken pdu) → said pdu ≡ Moves lists → request_fault Client here lists ≡ None
request_fine here there pdu lists m h e =
    let created = created_first Server there m.there_acts in
    let before = front_may (MayCreate Server) Client here there created m.to_here in
    let channels_may : SaidMay Server (hears here) (Moves lists) = subst (SaidMay Server (hears here)) e (next_may (MayCreate Server) Client here there (Spoken pdu) created h) in
    let lists_may : MovesMay (hears here) (Moves lists) = subst (MovesMay (hears here)) e (next_may MayList Client here there (Spoken pdu) (listed_once Server there m.there_acts) h) in
    let told = reads_are here in
    not_many (length (all_told read_by here)) (ids_fault Client here [] (channels_listed lists)) (subst (λ n. n < 256) told.as_many lists_may.0)
    (ids_fine here (channels_of Server (hears here)) (told_by listings (hears here)) [] (channels_listed lists) (λ id k. client_known here id m.here_acts before k) channels_may.1
    (λ x k. (refl, unheard x (all_told read_by here) (all_told answer_made here) (sym (ap (is_among x) told.ids_are) ∙ k))) lists_may.1)

-- ---- what a client reads

client_said : (here there : Trace Act) (pdu : Pdu) (s : Said) → Meet Client here there → Comes Client here there (Spoken pdu) → said pdu ≡ s → is_for_channel s ≡ false → said_fault Client here pdu s ≡ None
client_said here there pdu (Capable version) m h e c = refl
client_said here there pdu (Creates id name) m h e c =
    let created = created_first Server there m.there_acts in
    let may : SaidMay Server (hears here) (Creates id name) = subst (SaidMay Server (hears here)) e (next_may (MayCreate Server) Client here there (Spoken pdu) created h) in
    ap (λ b. when b (Channel (refusal.KnownChannel id))) (client_new here id m.here_acts (front_may (MayCreate Server) Client here there created m.to_here) may.1)
client_said here there pdu (Created id status) m h e c =
    let may : SaidMay Server (hears here) (Created id status) = subst (SaidMay Server (hears here)) e (next_may (MayCreate Server) Client here there (Spoken pdu) (created_first Server there m.there_acts) h) in
    absurd (let no : Server ≡ Client = may.0 in cc)
client_said here there pdu (Brings id) m h e c = absurd (let no : true ≡ false = c in cc)
client_said here there pdu (Ends id) m h e c = absurd (let no : true ≡ false = c in cc)
client_said here there pdu (Moves lists) m h e c = request_fine here there pdu lists m h e
client_said here there pdu (Moved kinds) m h e c =
    let may : SaidMay Server (hears here) (Moved kinds) = subst (SaidMay Server (hears here)) e (next_may (MayCreate Server) Client here there (Spoken pdu) (created_first Server there m.there_acts) h) in
    absurd (let no : Server ≡ Client = may in cc)

not_twice : (b : Bool) → not b ≡ true → b ≡ false
not_twice true h = absurd (let no : false ≡ true = h in cc)
not_twice false h = refl

pub client_fine : (here there : Trace Act) (heard : Heard) → Meet Client here there → Comes Client here there heard → is_control heard ≡ true → main_fault Client here heard ≡ None
client_fine here there (TunnelAsked id kind cookie) m h c = tunnel_asked_fine Client here there id kind cookie m h
client_fine here there (TunnelAnswered id hr) m h c = tunnel_answered_fine Client here there id hr m h
client_fine here there (Spoken pdu) m h c =
    ready_case (is_ready here) (is_capable (said pdu)) (said_fault Client here pdu (said pdu)) (ready_is Client here m.here_acts ∙ told_ready Client here there pdu m h)
    (λ e. client_said here there pdu (said pdu) m h refl (not_twice (is_for_channel (said pdu)) c))

-- ---- what a server reads

server_said : (here there : Trace Act) (pdu : Pdu) (s : Said) → Meet Server here there → Comes Server here there (Spoken pdu) → said pdu ≡ s → is_for_channel s ≡ false → said_fault Server here pdu s ≡ None
server_said here there pdu (Capable version) m h e c = refl
server_said here there pdu (Creates id name) m h e c =
    let may : SaidMay Client (hears here) (Creates id name) = subst (SaidMay Client (hears here)) e (next_may (MayCreate Client) Server here there (Spoken pdu) (created_first Client there m.there_acts) h) in
    absurd (let no : Client ≡ Server = may.0 in cc)
server_said here there pdu (Created id status) m h e c = created_fine here there pdu id status m h e
server_said here there pdu (Brings id) m h e c = absurd (let no : true ≡ false = c in cc)
server_said here there pdu (Ends id) m h e c = absurd (let no : true ≡ false = c in cc)
server_said here there pdu (Moves lists) m h e c =
    let may : SaidMay Client (hears here) (Moves lists) = subst (SaidMay Client (hears here)) e (next_may (MayCreate Client) Server here there (Spoken pdu) (created_first Client there m.there_acts) h) in
    absurd (let no : Client ≡ Server = may.0 in cc)
server_said here there pdu (Moved kinds) m h e c = response_fine here there pdu kinds m h e

pub server_fine : (here there : Trace Act) (heard : Heard) → Meet Server here there → Comes Server here there heard → is_control heard ≡ true → main_fault Server here heard ≡ None
server_fine here there (TunnelAsked id kind cookie) m h c = tunnel_asked_fine Server here there id kind cookie m h
server_fine here there (TunnelAnswered id hr) m h c = tunnel_answered_fine Server here there id hr m h
server_fine here there (Spoken pdu) m h c =
    ready_case (is_ready here) (is_capable (said pdu)) (said_fault Server here pdu (said pdu)) (ready_is Server here m.here_acts ∙ told_ready Server here there pdu m h)
    (λ e. server_said here there pdu (said pdu) m h refl (not_twice (is_for_channel (said pdu)) c))
