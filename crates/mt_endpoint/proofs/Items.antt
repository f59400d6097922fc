-- What each act writes, seen by kinds of items: a message, a Soft-Sync word, or neither.
use Rattle.std.proofs.Common.{◌≡◌, ℕ, Bool, true, false, cond, List, [], ◌∷◌, ◌++◌, map, Option, None, Some, refl, ap}
use Rattle.mt_base.specs.declared.kinds.Role.{Role}
use Rattle.mt_base.specs.declared.kinds.Role.TheVariants.{Server, Client}
use Rattle.mt_base.specs.declared.kinds.Kind.{Kind}
use Rattle.mt_base.specs.declared.kinds.Kind.TheVariants.{Reliable, Lossy}
use Rattle.mt_base.specs.Trace.{Trace}
use Rattle.dvc_pdus.specs.Value.{Pdu, Caps, CreateRequest, CreateResponse, Close, spelled}
use Rattle.soft_sync.specs.declared.kinds.Kinds.{Kinds}
use Rattle.soft_sync.specs.declared.kinds.Path.{Path}
use Rattle.soft_sync.specs.declared.kinds.Path.TheVariants.{Main, Tunnel}
use Rattle.mt_endpoint.specs.Acts.{Act, Began, Opens, Sends, Takes, Asks, Attaches, Repeats, Refuses, Syncs, Closes, Silences, Hears, Draws, Judges, Misses, Answers, Releases, Discards, Heard, TunnelAsked, TunnelAnswered, Spoken, Drawn, CreateAsked, CreateAnswered, Nothing, Carried}
use Rattle.mt_endpoint.specs.Said.{Said, Capable, Creates, Created, Brings, Ends, Moves, Moved, said}
use Rattle.mt_endpoint.specs.Channels.{message_to, is_closed}
use Rattle.mt_endpoint.specs.Tunnels.{Request, asked, answer}
use Rattle.mt_base.specs.Ends.{same_kind}
use Rattle.mt_endpoint.specs.Moving.{made_by, answer_made, outward}
use Rattle.mt_endpoint.specs.Holding.{is_through}
use Rattle.mt_endpoint.specs.Writing.{Written, OnMain, Into, on_path, closing, create_request, told_of, told_first, is_full_for, create_code, unless, reply, into, adds}
use Rattle.mt_endpoint.proofs.ChannelPdus.{spoken_pdus, carried_pdus, at}

-- it speaks of no channel's data, and is no word
abbrev pub IsTable : Said → Type 0
IsTable (Capable version) = Unit {0}
IsTable (Creates id name) = Unit {0}
IsTable (Created id status) = Unit {0}
IsTable (Brings id) = ⊥
IsTable (Ends id) = ⊥
IsTable (Moves lists) = ⊥
IsTable (Moved kinds) = ⊥

-- the path of a close
abbrev pub close_path : Path → Path
close_path Main = Main
close_path (Tunnel Reliable) = Tunnel Reliable
close_path (Tunnel Lossy) = Main

-- an item that is neither data nor a word
pub data Item (s : Trace Act) : Written → Type 0 where
  frame : (heard : Heard) → spoken_pdus (heard ∷ []) ≡ [] → Item s (OnMain heard)
  create : (kind : Kind) (drawn : Drawn) → carried_pdus (drawn ∷ []) ≡ [] → Item s (Into kind drawn)
  of_table : (pdu : Pdu) → IsTable (said pdu) → Item s (OnMain (Spoken pdu))
  close : (id : ℕ) → Item s (closing (outward id s) id)

abbrev pub Items : Trace Act → List Written → Type 0
Items s [] = Unit {0}
Items s (w ∷ written) = Item s w × Items s written

pub data View (role : Role) (s : Trace Act) : Act → Type 0 where
  sends : (id : ℕ) (message : List ℕ) → View role s (Sends id message)
  syncs : (reliable lossy : List ℕ) → View role s (Syncs reliable lossy)
  answers : (named : Kinds) → View role s (Answers named)
  plain : (act : Act) → Items s (adds role s act) → made_by act ≡ [] → answer_made act ≡ [] → ((id : ℕ) → message_to id act ≡ []) → View role s act

items_create : (role : Role) (s : Trace Act) (kind : Kind) (request : Option Request) → Items s (create_request role kind request)
items_create Server s kind request = tt
items_create Client s kind None = tt
items_create Client s kind (Some request) = (create kind (CreateAsked request.id request.cookie) refl, tt)

items_told : (s : Trace Act) (request : Option Request) (hr : ℕ) → Items s (told_of request hr)
items_told s None hr = tt
items_told s (Some request) hr = (frame (TunnelAnswered request.id hr) refl, tt)

items_first : (role : Role) (s : Trace Act) (kind : Kind) (before : Option ℕ) (hr : ℕ) → Items s (told_first role kind s before hr)
items_first Server s kind before hr = tt
items_first Client s kind None hr = items_told s (asked kind s) hr
items_first Client s kind (Some before) hr = tt

items_unless : (s : Trace Act) (b : Bool) (written : List Written) → Items s written → Items s (unless b written)
items_unless s true written h = tt
items_unless s false written h = h

items_reply : (role : Role) (s : Trace Act) (what : Said) → Items s (reply role s what ++ [])
items_reply Server s (Capable version) = tt
items_reply Client s (Capable version) = (of_table (Caps 3 None) tt, tt)
items_reply Server s (Creates id name) = tt
items_reply Client s (Creates id name) = (of_table (CreateResponse id _) tt, tt)
items_reply role s (Created id status) = tt
items_reply role s (Brings id) = tt
items_reply role s (Ends id) = by_test (is_closed role id s) where
  by_test : (b : Bool) → Items s (unless b (closing (outward id s) id ∷ []) ++ [])
  by_test true = tt
  by_test false = (close id, tt)
items_reply role s (Moves lists) = tt
items_reply role s (Moved kinds) = tt

pub view : (role : Role) (s : Trace Act) (act : Act) → View role s act
view Server s Began = plain Began (of_table (Caps 3 (Some (0 ∷ 0 ∷ 0 ∷ 0 ∷ []))) tt, tt) refl refl (λ id. refl)
view Client s Began = plain Began tt refl refl (λ id. refl)
view role s (Opens id name) = plain (Opens id name) (of_table (CreateRequest id 0 name) tt, tt) refl refl (λ id. refl)
view role s (Sends id message) = sends id message
view role s (Takes id message) = plain (Takes id message) tt refl refl (λ id. refl)
view role s (Asks kind id cookie) = plain (Asks kind id cookie) (frame (TunnelAsked id kind cookie) refl, tt) refl refl (λ id. refl)
view role s (Attaches kind) = plain (Attaches kind) (items_create role s kind (asked kind s)) refl refl (λ id. refl)
view role s (Repeats is_full) = plain (Repeats is_full) (items_unless s is_full (create_request role Lossy (asked Lossy s)) (items_create role s Lossy (asked Lossy s))) refl refl (λ id. refl)
view role s (Refuses kind hr) = plain (Refuses kind hr) (items_told s (asked kind s) hr) refl refl (λ id. refl)
view role s (Syncs reliable lossy) = syncs reliable lossy
view role s (Closes id) = plain (Closes id) (close id, tt) refl refl (λ id. refl)
view role s (Silences kind expiries) = plain (Silences kind expiries) tt refl refl (λ id. refl)
view role s (Hears (TunnelAsked id kind cookie)) = plain (Hears (TunnelAsked id kind cookie)) tt refl refl (λ id. refl)
view role s (Hears (TunnelAnswered id hr)) = plain (Hears (TunnelAnswered id hr)) tt refl refl (λ id. refl)
view role s (Hears (Spoken pdu)) = plain (Hears (Spoken pdu)) (items_reply role s (said pdu)) refl refl (λ id. refl)
view role s (Draws kind at (CreateAsked id cookie)) = plain (Draws kind at (CreateAsked id cookie)) tt refl refl (λ id. refl)
view role s (Draws kind at (CreateAnswered hr)) = plain (Draws kind at (CreateAnswered hr)) (items_first role s kind (answer kind s) hr) refl refl (λ id. refl)
view role s (Draws kind at Nothing) = plain (Draws kind at Nothing) tt refl refl (λ id. refl)
view role s (Draws kind at (Carried bytes pdu)) = plain (Draws kind at (Carried bytes pdu)) tt refl refl (λ id. refl)
view role s (Judges kind at id cookie verdict is_full) =
    plain (Judges kind at id cookie verdict is_full) (items_unless s (is_full_for kind is_full) (Into kind (CreateAnswered (create_code verdict)) ∷ []) (create kind (CreateAnswered (create_code verdict)) refl, tt)) refl refl (λ id. refl)
view role s Misses = plain Misses tt refl refl (λ id. refl)
view role s (Answers named) = answers named
view role s (Releases kind at bytes pdu) = plain (Releases kind at bytes pdu) (items_reply role s (said pdu)) refl refl (λ id. refl)
view role s (Discards at bytes pdu) = plain (Discards at bytes pdu) tt refl refl (λ id. refl)

-- ---- what becomes of items on a path

abbrev pub is_at : Path → Path → Bool
is_at Main Main = true
is_at Main (Tunnel kind) = false
is_at (Tunnel kind) path = is_through kind path

pub frame_at : (path : Path) (silent : Bool) (heard : Heard) → spoken_pdus (heard ∷ []) ≡ [] → at path silent (OnMain heard ∷ []) ≡ []
frame_at Main silent heard h = h
frame_at (Tunnel kind) silent heard h = refl

pub create_at : (path : Path) (silent : Bool) (kind : Kind) (drawn : Drawn) → carried_pdus (drawn ∷ []) ≡ [] → at path silent (Into kind drawn ∷ []) ≡ []
create_at Main silent kind drawn h = refl
create_at (Tunnel made) silent kind drawn h = by_test (same_kind made kind) silent where
  by_test : (b silent : Bool) → carried_pdus (cond b (unless silent (drawn ∷ []) ++ []) []) ≡ []
  by_test true true = refl
  by_test true false = h
  by_test false silent = refl

pub closing-path : (path : Path) (id : ℕ) → closing path id ≡ on_path (close_path path) (Close id)
closing-path Main id = refl
closing-path (Tunnel Reliable) id = refl
closing-path (Tunnel Lossy) id = refl

-- one PDU on a path is there or nowhere
pub data Stands (path : Path) (silent : Bool) (made : Path) (pdus : List Pdu) : Type 0 where
  there : is_at path made ≡ true → at path silent (map (on_path made) pdus) ≡ pdus → Stands path silent made pdus
  nowhere : at path silent (map (on_path made) pdus) ≡ [] → Stands path silent made pdus

all_spoken : (pdus : List Pdu) → at Main false (map (on_path Main) pdus) ≡ pdus
all_spoken [] = refl
all_spoken (pdu ∷ pdus) = ap (λ l. pdu ∷ l) (all_spoken pdus)

none_spoken : (kind : Kind) (silent : Bool) (pdus : List Pdu) → at Main silent (map (on_path (Tunnel kind)) pdus) ≡ []
none_spoken kind silent [] = refl
none_spoken kind silent (pdu ∷ pdus) = none_spoken kind silent pdus

none_carried : (kind : Kind) (silent : Bool) (pdus : List Pdu) → at (Tunnel kind) silent (map (on_path Main) pdus) ≡ []
none_carried kind silent [] = refl
none_carried kind silent (pdu ∷ pdus) = none_carried kind silent pdus

pub all_carried : (kind made : Kind) (pdus : List Pdu) → same_kind kind made ≡ true → at (Tunnel kind) false (map (on_path (Tunnel made)) pdus) ≡ pdus
all_carried Reliable Reliable [] h = refl
all_carried Reliable Reliable (pdu ∷ pdus) h = ap (λ l. pdu ∷ l) (all_carried Reliable Reliable pdus h)
all_carried Lossy Lossy [] h = refl
all_carried Lossy Lossy (pdu ∷ pdus) h = ap (λ l. pdu ∷ l) (all_carried Lossy Lossy pdus h)
all_carried Reliable Lossy pdus h = absurd (let no : false ≡ true = h in cc)
all_carried Lossy Reliable pdus h = absurd (let no : false ≡ true = h in cc)

none_silent : (kind made : Kind) (pdus : List Pdu) → at (Tunnel kind) true (map (on_path (Tunnel made)) pdus) ≡ []
none_silent kind made [] = refl
none_silent kind made (pdu ∷ pdus) = by_test (same_kind kind made) (none_silent kind made pdus) where
  by_test : (b : Bool) → at (Tunnel kind) true (map (on_path (Tunnel made)) pdus) ≡ []
      → carried_pdus (cond b (unless true (Carried (spelled pdu) pdu ∷ []) ++ into kind true (map (on_path (Tunnel made)) pdus)) (into kind true (map (on_path (Tunnel made)) pdus))) ≡ []
  by_test true h = h
  by_test false h = h

none_other : (silent : Bool) (pdus : List Pdu) → (at (Tunnel Reliable) silent (map (on_path (Tunnel Lossy)) pdus) ≡ []) × (at (Tunnel Lossy) silent (map (on_path (Tunnel Reliable)) pdus) ≡ [])
none_other silent [] = (refl, refl)
none_other silent (pdu ∷ pdus) = none_other silent pdus

pub stands : (path : Path) (silent : Bool) (made : Path) (pdus : List Pdu) → Stands path silent made pdus
stands Main silent Main pdus = there refl (all_spoken pdus)
stands Main silent (Tunnel kind) pdus = nowhere (none_spoken kind silent pdus)
stands (Tunnel kind) silent Main pdus = nowhere (none_carried kind silent pdus)
stands (Tunnel Reliable) false (Tunnel Reliable) pdus = there refl (all_carried Reliable Reliable pdus refl)
stands (Tunnel Lossy) false (Tunnel Lossy) pdus = there refl (all_carried Lossy Lossy pdus refl)
stands (Tunnel Reliable) silent (Tunnel Lossy) pdus = nowhere (none_other silent pdus).0
stands (Tunnel Lossy) silent (Tunnel Reliable) pdus = nowhere (none_other silent pdus).1
stands (Tunnel kind) true (Tunnel made) pdus = nowhere (none_silent kind made pdus)
