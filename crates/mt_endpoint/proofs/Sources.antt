-- What an act writes on the main stream, and why.
use Rattle.std.proofs.Common.{◌≡◌, ℕ, Bool, true, false, cond, nat_le, List, [], ◌∷◌, ◌++◌, length, map, take, drop, Option, Some, None, refl, sym, ap, ◌∙◌, append_assoc, append-nil}
use Rattle.mt_base.specs.declared.kinds.Kind.{Kind}
use Rattle.mt_base.specs.declared.kinds.Kind.TheVariants.{Reliable, Lossy}
use Rattle.mt_base.specs.declared.kinds.Role.{Role}
use Rattle.mt_base.specs.declared.kinds.Role.TheVariants.{Server, Client}
use Rattle.mt_base.specs.Trace.{Trace, Start, ◌▷◌}
use Rattle.dvc_pdus.specs.Value.{Pdu, Caps, CreateRequest, CreateResponse, DataFirst, Data, Close, SyncResponse, sync_request}
use Rattle.dvc_channels.specs.Fragments.{room, first_room, in_pieces, fragments_of}
use Rattle.soft_sync.specs.declared.kinds.Kinds.{Kinds}
use Rattle.soft_sync.specs.declared.kinds.Path.{Path}
use Rattle.soft_sync.specs.declared.kinds.Path.TheVariants.{Main, Tunnel}
use Rattle.mt_endpoint.specs.Acts.{Act, Began, Opens, Sends, Takes, Asks, Attaches, Repeats, Refuses, Syncs, Closes, Silences, Hears, Draws, Judges, Misses, Answers, Releases, Discards, Heard, TunnelAsked, TunnelAnswered, Spoken, Drawn, CreateAsked, CreateAnswered, Nothing, Carried}
use Rattle.mt_endpoint.specs.Said.{Said, Capable, Creates, Created, Brings, Ends, Moves, Moved, said}
use Rattle.mt_endpoint.specs.Channels.{table, has_place, is_closed}
use Rattle.mt_endpoint.specs.Tunnels.{Request, asked, answer}
use Rattle.mt_endpoint.specs.Moving.{outward}
use Rattle.mt_endpoint.specs.Holding.{channel_in}
use Rattle.mt_endpoint.specs.Writing.{Into, on_path, closing, create_request, told_of, told_first, unless, DENIED, is_full_for, types_of, create_code, reply, adds, on_main, spoken}
use Rattle.mt_endpoint.specs.Alone.{IsAct, EndOfActs, IsDue}
use Rattle.mt_endpoint.specs.Orders.{EachMay}
use Rattle.mt_base.specs.Prefix.{IsPrefixOf}
use Rattle.mt_endpoint.proofs.Each.{each-append}

-- why an act writes a frame, data apart
pub data Source (role : Role) (t : Trace Act) : Act → Heard → Type 0 where
  begun : role ≡ Server → Source role t Began (Spoken (Caps 3 (Some (0 ∷ 0 ∷ 0 ∷ 0 ∷ []))))
  opens : (id : ℕ) (name : List ℕ) → Source role t (Opens id name) (Spoken (CreateRequest id 0 name))
  asks_for : (kind : Kind) (id : ℕ) (cookie : List ℕ) → Source role t (Asks kind id cookie) (TunnelAsked id kind cookie)
  tells : (act : Act) (id hr : ℕ) → role ≡ Client → Source role t act (TunnelAnswered id hr)
  syncs : (reliable lossy : List ℕ) → Source role t (Syncs reliable lossy) (Spoken (sync_request reliable lossy))
  closes : (id : ℕ) → Source role t (Closes id) (Spoken (Close id))
  answers : (named : Kinds) → Source role t (Answers named) (Spoken (SyncResponse (types_of named)))
  -- the reply to what is read
  heard_capable : (pdu : Pdu) (version : ℕ) → said pdu ≡ Capable version → role ≡ Client → Source role t (Hears (Spoken pdu)) (Spoken (Caps 3 None))
  heard_creates : (pdu : Pdu) (id : ℕ) (name : List ℕ) → said pdu ≡ Creates id name → role ≡ Client
      → Source role t (Hears (Spoken pdu)) (Spoken (CreateResponse id (cond (has_place (table Client t)) 0 DENIED)))
  heard_ends : (pdu : Pdu) (id : ℕ) → said pdu ≡ Ends id → is_closed role id t ≡ false → Source role t (Hears (Spoken pdu)) (Spoken (Close id))
  released_ends : (kind : Kind) (at : ℕ) (bytes : List ℕ) (pdu : Pdu) (id : ℕ) → said pdu ≡ Ends id → is_closed role id t ≡ false
      → Source role t (Releases kind at bytes pdu) (Spoken (Close id))

-- frames with data of a channel
abbrev pub AllBring : ℕ → List Heard → Type 0
AllBring id [] = Unit {0}
AllBring id (TunnelAsked made kind cookie ∷ xs) = ⊥
AllBring id (TunnelAnswered made hr ∷ xs) = ⊥
AllBring id (Spoken pdu ∷ xs) = (said pdu ≡ Brings id) × AllBring id xs

pub data Adds (role : Role) (t : Trace Act) : Act → List Heard → Type 0 where
  nothing : (act : Act) → Adds role t act []
  frame : (act : Act) (x : Heard) → Source role t act x → Adds role t act (x ∷ [])
  sends : (id : ℕ) (message : List ℕ) (xs : List Heard) → AllBring id xs → Adds role t (Sends id message) xs

-- ---- data

abbrev pub EachBrings : ℕ → List Pdu → Type 0
EachBrings id [] = Unit {0}
EachBrings id (pdu ∷ pdus) = (said pdu ≡ Brings id) × EachBrings id pdus

later_bring : (id : ℕ) (parts : List (List ℕ)) → EachBrings id (map (Data id) parts)
later_bring id [] = tt
later_bring id (part ∷ parts) = (refl, later_bring id parts)

pub fragments_bring : (id : ℕ) (message : List ℕ) → EachBrings id (fragments_of id message)
fragments_bring id message = by_test (nat_le (length message) (room id)) where
  by_test : (b : Bool) → EachBrings id (cond b (Data id message ∷ []) (DataFirst id (length message) (take (first_room id (length message)) message) ∷ map (Data id) (in_pieces (room id) (drop (first_room id (length message)) message))))
  by_test true = (refl, tt)
  by_test false = (refl, later_bring id (in_pieces (room id) (drop (first_room id (length message)) message)))

on_main_bring : (path : Path) (id : ℕ) (pdus : List Pdu) → EachBrings id pdus → AllBring id (on_main (map (on_path path) pdus))
on_main_bring path id [] h = tt
on_main_bring Main id (pdu ∷ pdus) h = (h.0, on_main_bring Main id pdus h.1)
on_main_bring (Tunnel kind) id (pdu ∷ pdus) h = on_main_bring (Tunnel kind) id pdus h.1

-- ---- replies

closing_adds : (role : Role) (t : Trace Act) (act : Act) (path : Path) (id : ℕ) → Source role t act (Spoken (Close id)) → Adds role t act (on_main (closing path id ∷ []))
closing_adds role t act Main id s = frame act (Spoken (Close id)) s
closing_adds role t act (Tunnel Reliable) id s = nothing act
closing_adds role t act (Tunnel Lossy) id s = frame act (Spoken (Close id)) s

ends_adds : (role : Role) (t : Trace Act) (act : Act) (path : Path) (id : ℕ) (c : Bool) → is_closed role id t ≡ c → (is_closed role id t ≡ false → Source role t act (Spoken (Close id)))
    → Adds role t act (on_main (unless c (closing path id ∷ []) ++ []))
ends_adds role t act path id true e s = nothing act
ends_adds role t act Main id false e s = frame act (Spoken (Close id)) (s e)
ends_adds role t act (Tunnel Reliable) id false e s = nothing act
ends_adds role t act (Tunnel Lossy) id false e s = frame act (Spoken (Close id)) (s e)

heard_adds : (role : Role) (t : Trace Act) (pdu : Pdu) (s : Said) → said pdu ≡ s → Adds role t (Hears (Spoken pdu)) (on_main (reply role t s ++ []))
heard_adds Server t pdu (Capable version) e = nothing (Hears (Spoken pdu))
heard_adds Client t pdu (Capable version) e = frame (Hears (Spoken pdu)) _ (heard_capable pdu version e refl)
heard_adds Server t pdu (Creates id name) e = nothing (Hears (Spoken pdu))
heard_adds Client t pdu (Creates id name) e = frame (Hears (Spoken pdu)) _ (heard_creates pdu id name e refl)
heard_adds role t pdu (Created id status) e = nothing (Hears (Spoken pdu))
heard_adds role t pdu (Brings id) e = nothing (Hears (Spoken pdu))
heard_adds role t pdu (Ends id) e = ends_adds role t (Hears (Spoken pdu)) (outward id t) id (is_closed role id t) refl (λ c. heard_ends pdu id e c)
heard_adds role t pdu (Moves lists) e = nothing (Hears (Spoken pdu))
heard_adds role t pdu (Moved kinds) e = nothing (Hears (Spoken pdu))

released_adds : (role : Role) (t : Trace Act) (kind : Kind) (at : ℕ) (bytes : List ℕ) (pdu : Pdu) (s : Said) → said pdu ≡ s → IsDue role kind t at bytes pdu → Adds role t (Releases kind at bytes pdu) (on_main (reply role t s ++ []))
released_adds Server t kind at bytes pdu (Capable version) e d = nothing (Releases kind at bytes pdu)
released_adds Client t kind at bytes pdu (Capable version) e d = absurd (let no : None ≡ Some d.id = sym (ap channel_in e) ∙ d.channel_is in cc)
released_adds Server t kind at bytes pdu (Creates id name) e d = nothing (Releases kind at bytes pdu)
released_adds Client t kind at bytes pdu (Creates id name) e d = absurd (let no : None ≡ Some d.id = sym (ap channel_in e) ∙ d.channel_is in cc)
released_adds role t kind at bytes pdu (Created id status) e d = nothing (Releases kind at bytes pdu)
released_adds role t kind at bytes pdu (Brings id) e d = nothing (Releases kind at bytes pdu)
released_adds role t kind at bytes pdu (Ends id) e d = ends_adds role t (Releases kind at bytes pdu) (outward id t) id (is_closed role id t) refl (λ c. released_ends kind at bytes pdu id e c)
released_adds role t kind at bytes pdu (Moves lists) e d = nothing (Releases kind at bytes pdu)
released_adds role t kind at bytes pdu (Moved kinds) e d = nothing (Releases kind at bytes pdu)

-- ---- tunnels

create_adds : (role : Role) (t : Trace Act) (act : Act) (by : Role) (kind : Kind) (request : Option Request) → Adds role t act (on_main (create_request by kind request))
create_adds role t act Server kind request = nothing act
create_adds role t act Client kind None = nothing act
create_adds role t act Client kind (Some request) = nothing act

repeat_adds : (role : Role) (t : Trace Act) (act : Act) (b : Bool) (by : Role) (request : Option Request) → Adds role t act (on_main (unless b (create_request by Lossy request)))
repeat_adds role t act true by request = nothing act
repeat_adds role t act false by request = create_adds role t act by Lossy request

told_adds : (role : Role) (t : Trace Act) (act : Act) (request : Option Request) (hr : ℕ) → role ≡ Client → Adds role t act (on_main (told_of request hr))
told_adds role t act None hr e = nothing act
told_adds role t act (Some request) hr e = frame act (TunnelAnswered request.id hr) (tells act request.id hr e)

first_adds : (role : Role) (t : Trace Act) (act : Act) (kind : Kind) (before : Option ℕ) (hr : ℕ) → Adds role t act (on_main (told_first role kind t before hr))
first_adds Server t act kind before hr = nothing act
first_adds Client t act kind None hr = told_adds Client t act (asked kind t) hr refl
first_adds Client t act kind (Some before) hr = nothing act

judged_adds : (role : Role) (t : Trace Act) (act : Act) (kind : Kind) (b : Bool) (drawn : Drawn) → Adds role t act (on_main (unless b (Into kind drawn ∷ [])))
judged_adds role t act kind true drawn = nothing act
judged_adds role t act kind false drawn = nothing act

-- ---- all acts

pub adds_what : (role : Role) (t : Trace Act) (act : Act) → IsAct role t act → Adds role t act (on_main (adds role t act))
adds_what Server t Began a = frame Began _ (begun refl)
adds_what Client t Began a = nothing Began
adds_what role t (Opens id name) a = frame (Opens id name) _ (opens id name)
adds_what role t (Sends id message) a = sends id message _ (on_main_bring (outward id t) id (fragments_of id message) (fragments_bring id message))
adds_what role t (Takes id message) a = nothing (Takes id message)
adds_what role t (Asks kind id cookie) a = frame (Asks kind id cookie) _ (asks_for kind id cookie)
adds_what role t (Attaches kind) a = create_adds role t (Attaches kind) role kind (asked kind t)
adds_what role t (Repeats is_full) a = repeat_adds role t (Repeats is_full) is_full role (asked Lossy t)
adds_what role t (Refuses kind hr) a = told_adds role t (Refuses kind hr) (asked kind t) hr a.0.0
adds_what role t (Syncs reliable lossy) a = frame (Syncs reliable lossy) _ (syncs reliable lossy)
adds_what role t (Closes id) a = closing_adds role t (Closes id) (outward id t) id (closes id)
adds_what role t (Silences kind expiries) a = nothing (Silences kind expiries)
adds_what role t (Hears (TunnelAsked id kind cookie)) a = nothing (Hears (TunnelAsked id kind cookie))
adds_what role t (Hears (TunnelAnswered id hr)) a = nothing (Hears (TunnelAnswered id hr))
adds_what role t (Hears (Spoken pdu)) a = heard_adds role t pdu (said pdu) refl
adds_what role t (Draws kind at (CreateAsked id cookie)) a = nothing (Draws kind at (CreateAsked id cookie))
adds_what role t (Draws kind at (CreateAnswered hr)) a = first_adds role t (Draws kind at (CreateAnswered hr)) kind (answer kind t) hr
adds_what role t (Draws kind at Nothing) a = nothing (Draws kind at Nothing)
adds_what role t (Draws kind at (Carried bytes pdu)) a = nothing (Draws kind at (Carried bytes pdu))
adds_what role t (Judges kind at id cookie verdict is_full) a = judged_adds role t (Judges kind at id cookie verdict is_full) kind (is_full_for kind is_full) (CreateAnswered (create_code verdict))
adds_what role t Misses a = nothing Misses
adds_what role t (Answers named) a = frame (Answers named) _ (answers named)
adds_what role t (Releases kind at bytes pdu) a = released_adds role t kind at bytes pdu (said pdu) refl a
adds_what role t (Discards at bytes pdu) a = nothing (Discards at bytes pdu)

-- ---- what holds of each frame by its source holds of all that an end writes

abbrev pub FrameMay : Role → (List Heard → Heard → Type 0) → Type 0
FrameMay role may = (t : Trace Act) (act : Act) (x : Heard) → EndOfActs role (t ▷ act) → Source role t act x → may (spoken role t) x

abbrev pub DataMay : Role → (List Heard → Heard → Type 0) → Type 0
DataMay role may =
    (t : Trace Act) (id : ℕ) (message : List ℕ) (pdu : Pdu) (before : List Heard) → EndOfActs role (t ▷ Sends id message) → said pdu ≡ Brings id
    → IsPrefixOf (spoken role t) before → may before (Spoken pdu)

data_each : (role : Role) (may : List Heard → Heard → Type 0) → DataMay role may → (t : Trace Act) (id : ℕ) (message : List ℕ) → EndOfActs role (t ▷ Sends id message)
    → (xs before : List Heard) → IsPrefixOf (spoken role t) before → AllBring id xs → EachMay may before xs
data_each role may d t id message e [] before p h = tt
data_each role may d t id message e (TunnelAsked made kind cookie ∷ xs) before p h = absurd h
data_each role may d t id message e (TunnelAnswered made hr ∷ xs) before p h = absurd h
data_each role may d t id message e (Spoken pdu ∷ xs) before p h = (
  d t id message pdu before e h.0 p,
  data_each role may d t id message e xs (before ++ Spoken pdu ∷ []) (p.0 ++ Spoken pdu ∷ [], ap (λ l. l ++ Spoken pdu ∷ []) p.1 ∙ append_assoc (spoken role t) p.0 (Spoken pdu ∷ [])) h.1,
)

adds_each : (role : Role) (may : List Heard → Heard → Type 0) → FrameMay role may → DataMay role may → (t : Trace Act) (act : Act) (xs : List Heard) → EndOfActs role (t ▷ act) → Adds role t act xs
    → EachMay may (spoken role t) xs
adds_each role may f d t act _ e (nothing _) = tt
adds_each role may f d t act _ e (frame _ x s) = (f t act x e s, tt)
adds_each role may f d t act xs e (sends id message _ h) = data_each role may d t id message e xs (spoken role t) ([], sym (append-nil (spoken role t))) h

pub each_written : (role : Role) (may : List Heard → Heard → Type 0) → FrameMay role may → DataMay role may → (t : Trace Act) → EndOfActs role t → EachMay may [] (spoken role t)
each_written role may f d Start e = tt
each_written role may f d (t ▷ act) e =
    each-append may [] (spoken role t) (on_main (adds role t act)) (each_written role may f d t e.2) (adds_each role may f d t act _ e (adds_what role t act e.1))
