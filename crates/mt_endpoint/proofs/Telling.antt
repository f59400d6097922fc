-- An end tells its capabilities once, before any other channel PDU.
use Rattle.std.proofs.Common.{◌≡◌, ℕ, Bool, true, false, not, ◌||◌, ◌&&◌, cond, List, [], ◌∷◌, ◌++◌, Option, Some, None, refl, sym, ap, subst, ◌∙◌}
use Rattle.mt_base.specs.declared.kinds.Kind.{Kind}
use Rattle.mt_base.specs.declared.kinds.Kind.TheVariants.{Reliable, Lossy}
use Rattle.mt_base.specs.declared.kinds.Role.{Role}
use Rattle.mt_base.specs.declared.kinds.Role.TheVariants.{Server, Client}
use Rattle.mt_base.specs.Trace.{Trace, Start, ◌▷◌}
use Rattle.dvc_pdus.specs.Value.{Pdu, Caps, CreateRequest, CreateResponse, DataFirst, Data, CompressedFirst, Compressed, Close, SyncRequest, SyncResponse}
use Rattle.dvc_channels.specs.declared.answers.ChannelState.{ChannelState}
use Rattle.dvc_channels.specs.declared.answers.ChannelState.TheVariants as state
use Rattle.soft_sync.specs.Exchanges.{exchanges}
use Rattle.soft_sync.specs.declared.kinds.Kinds.{Kinds}
use Rattle.soft_sync.specs.declared.kinds.Path.{Path}
use Rattle.soft_sync.specs.declared.kinds.Path.TheVariants.{Main, Tunnel}
use Rattle.mt_endpoint.specs.Acts.{Act, Began, Opens, Sends, Closes, Hears, Draws, Releases, Discards, Heard, TunnelAsked, TunnelAnswered, Spoken, Drawn, CreateAsked, CreateAnswered, Nothing, Carried}
use Rattle.mt_endpoint.specs.Said.{Brings, said, lone}
use Rattle.mt_endpoint.specs.Channels.{came, tells_capabilities, is_closed, channel, is_open, is_open_in, is_known, is_known_in, is_ready}
use Rattle.mt_endpoint.specs.Moving.{all_told, read_by, answer_made, unanswered_in, outward, inward}
use Rattle.mt_endpoint.specs.Holding.{Held, held, held_drawn, is_held, may_hold, is_for_open, channel_of, only, without_first, fits, is_through}
use Rattle.mt_base.specs.Ends.{same_kind}
use Rattle.mt_endpoint.specs.Writing.{adds, closing, unless, reply, on_main, spoken}
use Rattle.mt_endpoint.specs.Faults.{Why, when, Unexpected, is_capable, said_fault}
use Rattle.mt_endpoint.specs.World.{is_begun, begins}
use Rattle.mt_endpoint.specs.Alone.{IsAct, EndOfActs, IsDue, IsAnswer}
use Rattle.mt_endpoint.specs.Orders.{EachMay, capable, MayTell}
use Rattle.mt_base.specs.Prefix.{IsPrefixOf}
use Rattle.mt_endpoint.proofs.Asking.{or_both}
use Rattle.mt_endpoint.proofs.Sources.{Source, begun, opens, asks_for, tells, syncs, closes, answers, heard_capable, heard_creates, heard_ends, released_ends, AllBring, Adds, nothing, frame, sends, adds_what, each_written}

pub capable-append : (xs ys : List Heard) → capable (xs ++ ys) ≡ capable xs || capable ys
capable-append [] ys = refl
capable-append (TunnelAsked id made cookie ∷ xs) ys = capable-append xs ys
capable-append (TunnelAnswered id hr ∷ xs) ys = capable-append xs ys
capable-append (Spoken pdu ∷ xs) ys = or_both (is_capable (said pdu)) (capable (xs ++ ys)) (capable xs) (capable ys) (capable-append xs ys)

pub either : (a b : Bool) → a || b ≡ false → (a ≡ false) × (b ≡ false)
either true b h = absurd (let no : true ≡ false = h in cc)
either false b h = (refl, h)

-- ---- a client before it has read capabilities has nothing to write

-- it has no channel, holds nothing, and read no request
pub record Idle (t : Trace Act) : Type 0 where
  pub unknown : (id : ℕ) → is_known Client id t ≡ false
  pub none_held : (kind : Kind) → held Client kind t ≡ []
  pub none_read : all_told read_by t ≡ []

not_open : (s : ChannelState) → is_known_in s ≡ false → is_open_in s ≡ false
not_open state.Unknown h = refl
not_open state.Asked h = refl
not_open state.Open h = absurd (let no : true ≡ false = h in cc)
not_open state.Refused h = refl
not_open state.Closed h = absurd (let no : true ≡ false = h in cc)

pub idle_open : (t : Trace Act) (id : ℕ) → Idle t → is_open Client id t ≡ true → ⊥
idle_open t id i h = let no : true ≡ false = sym h ∙ not_open (channel Client id t) (i.unknown id) in cc

-- the first PDU tells capabilities
not_first : (b c : Bool) (f : Option Why) → cond b f (when (not c) Unexpected) ≡ None → b ≡ false → c ≡ true
not_first true c f h e = absurd (let no : true ≡ false = e in cc)
not_first false true f h e = refl
not_first false false f h e = absurd (let no : Some Unexpected ≡ None = h in cc)

no_capable : (t : Trace Act) (pdu : Pdu) → IsAct Client t (Hears (Spoken pdu)) → is_ready t ≡ false → is_capable (said pdu) ≡ true
no_capable t pdu a r = not_first (is_ready t) (is_capable (said pdu)) (cond (is_capable (said pdu)) (Some Unexpected) (said_fault Client t pdu (said pdu))) a.1 r

always : (b : Bool) → b || true ≡ false → ⊥
always true h = let no : true ≡ false = h in cc
always false h = let no : true ≡ false = h in cc

-- so whatever is read makes it ready
heard_ready : (t : Trace Act) (pdu : Pdu) → IsAct Client t (Hears (Spoken pdu)) → is_ready t ≡ false → is_ready (t ▷ Hears (Spoken pdu)) ≡ false → ⊥
heard_ready t (Caps version charges) a r h = always (is_ready t) h
heard_ready t (CreateRequest id priority name) a r h = let no : false ≡ true = no_capable t (CreateRequest id priority name) a r in cc
heard_ready t (CreateResponse id status) a r h = let no : false ≡ true = no_capable t (CreateResponse id status) a r in cc
heard_ready t (DataFirst id total bytes) a r h = let no : false ≡ true = no_capable t (DataFirst id total bytes) a r in cc
heard_ready t (Data id bytes) a r h = let no : false ≡ true = no_capable t (Data id bytes) a r in cc
heard_ready t (CompressedFirst id total bytes) a r h = let no : false ≡ true = no_capable t (CompressedFirst id total bytes) a r in cc
heard_ready t (Compressed id bytes) a r h = let no : false ≡ true = no_capable t (Compressed id bytes) a r in cc
heard_ready t (Close id) a r h = let no : false ≡ true = no_capable t (Close id) a r in cc
heard_ready t (SyncRequest flags tunnels lists) a r h = let no : false ≡ true = no_capable t (SyncRequest flags tunnels lists) a r in cc
heard_ready t (SyncResponse types) a r h = let no : false ≡ true = no_capable t (SyncResponse types) a r in cc

-- nothing that is pulled is held
for_none : (t : Trace Act) (id : Option ℕ) → Idle t → is_for_open Client t id ≡ false
for_none t None i = refl
for_none t (Some id) i = not_open (channel Client id t) (i.unknown id)

may_none : (t : Trace Act) (ids bytes : List ℕ) (queue : List Held) → Idle t → may_hold Client t ids bytes queue ≡ false
may_none t [] bytes queue i = refl
may_none t (id ∷ ids) bytes queue i = ap (λ b. b && (is_through Lossy (inward id t) || fits bytes queue)) (not_open (channel Client id t) (i.unknown id))

none_holds : (kind : Kind) (t : Trace Act) (bytes : List ℕ) (pdu : Pdu) (queue : List Held) → Idle t → is_held Client kind t bytes pdu queue ≡ false
none_holds Reliable t bytes pdu queue i = for_none t (channel_of pdu) i
none_holds Lossy t bytes pdu queue i = may_none t (lone pdu) bytes queue i

drawn_none : (kind : Kind) (t : Trace Act) (at : ℕ) (drawn : Drawn) → Idle t → held_drawn Client kind t at drawn (held Client kind t) ≡ []
drawn_none kind t at (CreateAsked id cookie) i = i.none_held kind
drawn_none kind t at (CreateAnswered hr) i = i.none_held kind
drawn_none kind t at Nothing i = i.none_held kind
drawn_none kind t at (Carried bytes pdu) i =
    let P : Bool → Type 0 = λ b. cond b (held Client kind t ++ record { at = at; bytes = bytes; pdu = pdu } ∷ []) (held Client kind t) ≡ [] in
    subst P (sym (none_holds kind t bytes pdu (held Client kind t) i)) (i.none_held kind)

drawn_at : (b : Bool) (xs ys : List Held) → xs ≡ [] → ys ≡ [] → cond b xs ys ≡ []
drawn_at true xs ys h k = h
drawn_at false xs ys h k = k

pub idle_release : (role : Role) (kind : Kind) (t : Trace Act) (at : ℕ) (bytes : List ℕ) (pdu : Pdu) → held role kind t ≡ [] → IsDue role kind t at bytes pdu → ⊥
idle_release role kind t at bytes pdu h d =
    let no : [] ≡ record { at = at; bytes = bytes; pdu = pdu } ∷ d.rest = ap (only d.id) (sym h) ∙ d.is_oldest in cc

idle_same : (t : Trace Act) (act : Act) → ((id : ℕ) → is_known Client id (t ▷ act) ≡ is_known Client id t) → ((kind : Kind) → held Client kind (t ▷ act) ≡ held Client kind t) → all_told read_by (t ▷ act) ≡ all_told read_by t ++ [] → Idle t
    → Idle (t ▷ act)
idle_same t act k h r i = record {
  unknown = λ id. k id ∙ i.unknown id;
  none_held = λ kind. h kind ∙ i.none_held kind;
  none_read = r ∙ ap (λ l. l ++ []) i.none_read;
}

idle_draws : (t : Trace Act) (kind : Kind) (at : ℕ) (drawn : Drawn) → Idle t → Idle (t ▷ Draws kind at drawn)
idle_draws t kind at drawn i = record {
  unknown = λ id. i.unknown id;
  none_held = λ of. drawn_at (same_kind of kind) (held_drawn Client of t at drawn (held Client of t)) (held Client of t) (drawn_none of t at drawn i) (i.none_held of);
  none_read = ap (λ l. l ++ []) i.none_read;
}

idle_discards : (t : Trace Act) (at : ℕ) (bytes : List ℕ) (pdu : Pdu) → Idle t → Idle (t ▷ Discards at bytes pdu)
idle_discards t at bytes pdu i = record {
  unknown = λ id. i.unknown id;
  none_held = λ of. drawn_at (same_kind of Lossy) (without_first (channel_of pdu) (held Client of t)) (held Client of t) (ap (without_first (channel_of pdu)) (i.none_held of) ∙ first_of_none (channel_of pdu)) (i.none_held of);
  none_read = ap (λ l. l ++ []) i.none_read;
} where
  first_of_none : (id : Option ℕ) → without_first id [] ≡ []
  first_of_none None = refl
  first_of_none (Some id) = refl

idle_act : (t : Trace Act) (act : Act) → IsAct Client t act → is_ready t ≡ false → is_ready (t ▷ act) ≡ false → Idle t → Idle (t ▷ act)
idle_act t (Opens id name) a r h i = absurd (let no : Client ≡ Server = a.0.0 in cc)
idle_act t (Closes id) a r h i = absurd (idle_open t id i a.0.0)
idle_act t (Hears (Spoken pdu)) a r h i = absurd (heard_ready t pdu a r h)
idle_act t (Draws kind at drawn) a r h i = idle_draws t kind at drawn i
idle_act t (Releases kind at bytes pdu) a r h i = absurd (idle_release Client kind t at bytes pdu (i.none_held kind) a)
idle_act t (Discards at bytes pdu) a r h i = idle_discards t at bytes pdu i
idle_act t act a r h i = idle_same t act (λ id. refl) (λ kind. refl) refl i

pub idle : (t : Trace Act) → EndOfActs Client t → is_ready t ≡ false → Idle t
idle Start e h = record { unknown = λ id. refl; none_held = λ kind. refl; none_read = refl }
idle (t ▷ act) e h =
    let early : is_ready t ≡ false = (either (is_ready t) (tells_capabilities (came act)) h).0 in idle_act t act e.1 early h (idle t e.2 early)

pub ready_if : (t : Trace Act) → EndOfActs Client t → (Idle t → ⊥) → is_ready t ≡ true
ready_if t e busy = by_test (is_ready t) refl where
  by_test : (b : Bool) → is_ready t ≡ b → b ≡ true
  by_test true h = refl
  by_test false h = absurd (busy (idle t e h))

pub idle_answer : (t : Trace Act) (named : Kinds) → IsAnswer Client t named → Idle t → ⊥
idle_answer t named a i =
    let no : [] ≡ a.request ∷ a.rest = sym (ap (λ l. unanswered_in (exchanges l (all_told answer_made t))) i.none_read) ∙ a.is_oldest in cc

pub ready_heard : (t : Trace Act) (pdu : Pdu) → IsAct Client t (Hears (Spoken pdu)) → is_capable (said pdu) ≡ false → is_ready t ≡ true
ready_heard t pdu a c = by_test (is_ready t) refl where
  by_test : (b : Bool) → is_ready t ≡ b → b ≡ true
  by_test true h = refl
  by_test false h = absurd (let no : false ≡ true = sym c ∙ no_capable t pdu a h in cc)

twice : (b c : Bool) (f g : Option Why) → cond b (cond c (Some Unexpected) f) g ≡ None → c ≡ true → b ≡ false
twice false c f g h e = refl
twice true true f g h e = absurd (let no : Some Unexpected ≡ None = h in cc)
twice true false f g h e = absurd (let no : false ≡ true = e in cc)

-- ---- a client tells its capabilities as it reads the server's

closing_capable : (b : Bool) (path : Path) (id : ℕ) → capable (on_main (unless b (closing path id ∷ []) ++ [])) ≡ false
closing_capable true path id = refl
closing_capable false Main id = refl
closing_capable false (Tunnel Reliable) id = refl
closing_capable false (Tunnel Lossy) id = refl

replied : (t : Trace Act) (pdu : Pdu) → capable (on_main (reply Client t (said pdu) ++ [])) ≡ tells_capabilities (pdu ∷ [])
replied t (Close id) = closing_capable (is_closed Client id t) (outward id t) id
replied t pdu = refl

data_capable : (id : ℕ) (xs : List Heard) → AllBring id xs → capable xs ≡ false
data_capable id [] h = refl
data_capable id (TunnelAsked made it cookie ∷ xs) h = absurd h
data_capable id (TunnelAnswered made hr ∷ xs) h = absurd h
data_capable id (Spoken pdu ∷ xs) h = ap (λ s. is_capable s || capable xs) h.0 ∙ data_capable id xs h.1

frame_capable : (t : Trace Act) (act : Act) (x : Heard) → Source Client t act x → came act ≡ [] → capable (x ∷ []) ≡ false
frame_capable t _ _ (begun e) h = absurd (let no : Client ≡ Server = e in cc)
frame_capable t _ _ (opens id name) h = refl
frame_capable t _ _ (asks_for made id cookie) h = refl
frame_capable t _ _ (tells act id hr e) h = refl
frame_capable t _ _ (syncs reliable lossy) h = refl
frame_capable t _ _ (closes id) h = refl
frame_capable t _ _ (answers named) h = refl
frame_capable t _ _ (heard_capable pdu version e r) h = absurd (let no : pdu ∷ [] ≡ [] = h in cc)
frame_capable t _ _ (heard_creates pdu id name e r) h = refl
frame_capable t _ _ (heard_ends pdu id e c) h = refl
frame_capable t _ _ (released_ends made at bytes pdu id e c) h = refl

added_capable : (t : Trace Act) (act : Act) (xs : List Heard) → Adds Client t act xs → came act ≡ [] → capable xs ≡ false
added_capable t act _ (nothing _) h = refl
added_capable t act _ (frame _ x s) h = frame_capable t act x s h
added_capable t _ xs (sends id message _ all) h = data_capable id xs all

told_new : (t : Trace Act) (act : Act) → IsAct Client t act → capable (on_main (adds Client t act)) ≡ tells_capabilities (came act)
told_new t (Hears (Spoken pdu)) a = replied t pdu
told_new t (Releases kind at bytes pdu) a = replied t pdu
told_new t act a = added_capable t act _ (adds_what Client t act a) refl

pub told_client : (t : Trace Act) → EndOfActs Client t → capable (spoken Client t) ≡ is_ready t
told_client Start e = refl
told_client (t ▷ act) e =
    capable-append (spoken Client t) (on_main (adds Client t act)) ∙ ap (λ b. b || capable (on_main (adds Client t act))) (told_client t e.2) ∙ ap (λ b. is_ready t || b) (told_new t act e.1)

pub capable_more : (xs before : List Heard) → IsPrefixOf xs before → capable xs ≡ true → capable before ≡ true
capable_more xs before p h = ap capable p.1 ∙ capable-append xs p.0 ∙ ap (λ b. b || capable p.0) h

client_may : (t : Trace Act) (act : Act) (x : Heard) → EndOfActs Client (t ▷ act) → Source Client t act x → MayTell (spoken Client t) x
client_may t _ _ e (begun r) = absurd (let no : Client ≡ Server = r in cc)
client_may t _ _ e (opens id name) = absurd (let no : Client ≡ Server = e.1.0.0 in cc)
client_may t _ _ e (asks_for kind id cookie) = tt
client_may t _ _ e (tells act id hr r) = tt
client_may t _ _ e (syncs reliable lossy) = absurd (let no : Client ≡ Server = e.1.0.0 in cc)
client_may t _ _ e (closes id) = told_client t e.2 ∙ ready_if t e.2 (λ i. idle_open t id i e.1.0.0)
client_may t _ _ e (answers named) = told_client t e.2 ∙ ready_if t e.2 (idle_answer t named e.1)
client_may t _ _ e (heard_capable pdu version s r) =
    told_client t e.2 ∙ twice (is_ready t) (is_capable (said pdu)) (said_fault Client t pdu (said pdu)) (when (not (is_capable (said pdu))) Unexpected) e.1.1 (ap is_capable s)
client_may t _ _ e (heard_creates pdu id name s r) = told_client t e.2 ∙ ready_heard t pdu e.1 (ap is_capable s)
client_may t _ _ e (heard_ends pdu id s c) = told_client t e.2 ∙ ready_heard t pdu e.1 (ap is_capable s)
client_may t _ _ e (released_ends kind at bytes pdu id s c) = told_client t e.2 ∙ ready_if t e.2 (λ i. idle_release Client kind t at bytes pdu (i.none_held kind) e.1)

client_data : (t : Trace Act) (id : ℕ) (message : List ℕ) (pdu : Pdu) (before : List Heard) → EndOfActs Client (t ▷ Sends id message) → said pdu ≡ Brings id → IsPrefixOf (spoken Client t) before → MayTell before (Spoken pdu)
client_data t id message pdu before e s p =
    capable_more (spoken Client t) before p (told_client t e.2 ∙ ready_if t e.2 (λ i. idle_open t id i e.1.0.0.is_open_channel)) ∙ sym (ap (λ x. not (is_capable x)) s)

-- ---- a server tells them as it begins

began_is : (act : Act) → begins act ≡ true → act ≡ Began
began_is Began h = refl
began_is act h = absurd (let no : false ≡ true = h in cc)

told_begun : (t : Trace Act) (act : Act) → EndOfActs Server (t ▷ act) → capable (spoken Server (t ▷ act)) ≡ true
told_begun Start act e = ap (λ a. capable (spoken Server (Start ▷ a))) (began_is act e.0)
told_begun (t ▷ before) act e =
    capable-append (spoken Server (t ▷ before)) (on_main (adds Server (t ▷ before) act)) ∙ ap (λ b. b || capable (on_main (adds Server (t ▷ before) act))) (told_begun t before e.2)

told_server : (t : Trace Act) → EndOfActs Server t → false ≡ not (is_begun t) → capable (spoken Server t) ≡ true
told_server Start e h = absurd (let no : false ≡ true = h in cc)
told_server (t ▷ act) e h = told_begun t act e

untold : (t : Trace Act) → true ≡ not (is_begun t) → capable (spoken Server t) ≡ false
untold Start h = refl
untold (t ▷ act) h = absurd (let no : true ≡ false = h in cc)

server_may : (t : Trace Act) (act : Act) (x : Heard) → EndOfActs Server (t ▷ act) → Source Server t act x → MayTell (spoken Server t) x
server_may t _ _ e (begun r) = untold t e.0
server_may t _ _ e (opens id name) = told_server t e.2 e.0
server_may t _ _ e (asks_for kind id cookie) = tt
server_may t _ _ e (tells act id hr r) = tt
server_may t _ _ e (syncs reliable lossy) = told_server t e.2 e.0
server_may t _ _ e (closes id) = told_server t e.2 e.0
server_may t _ _ e (answers named) = told_server t e.2 e.0
server_may t _ _ e (heard_capable pdu version s r) = absurd (let no : Server ≡ Client = r in cc)
server_may t _ _ e (heard_creates pdu id name s r) = absurd (let no : Server ≡ Client = r in cc)
server_may t _ _ e (heard_ends pdu id s c) = told_server t e.2 e.0
server_may t _ _ e (released_ends kind at bytes pdu id s c) = told_server t e.2 e.0

server_data : (t : Trace Act) (id : ℕ) (message : List ℕ) (pdu : Pdu) (before : List Heard) → EndOfActs Server (t ▷ Sends id message) → said pdu ≡ Brings id → IsPrefixOf (spoken Server t) before → MayTell before (Spoken pdu)
server_data t id message pdu before e s p = capable_more (spoken Server t) before p (told_server t e.2 e.0) ∙ sym (ap (λ x. not (is_capable x)) s)

pub told_first : (role : Role) (t : Trace Act) → EndOfActs role t → EachMay MayTell [] (spoken role t)
told_first Server t e = each_written Server MayTell server_may server_data t e
told_first Client t e = each_written Client MayTell client_may client_data t e
