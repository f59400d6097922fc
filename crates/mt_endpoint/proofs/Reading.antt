-- What each act reads: a PDU of the main stream or of a tunnel, or none; and the words that were read.
use Rattle.std.proofs.Common.{◌≡◌, ℕ, Bool, true, false, cond, List, [], ◌∷◌, ◌++◌, None, Some, refl, sym, ap, ◌∙◌}
use Rattle.std.specs.Option.{option_or}
use Rattle.mt_base.specs.declared.kinds.Role.{Role}
use Rattle.mt_base.specs.declared.kinds.Role.TheVariants.{Server, Client}
use Rattle.mt_base.specs.declared.kinds.Kind.{Kind}
use Rattle.mt_base.specs.Ends.{other}
use Rattle.mt_base.specs.Trace.{Trace, Start, ◌▷◌}
use Rattle.dvc_pdus.specs.Value.{Pdu, Caps, CreateRequest, CreateResponse, DataFirst, Data, CompressedFirst, Compressed, Close, SyncRequest, SyncResponse}
use Rattle.soft_sync.specs.Exchanges.{exchanges, listed, moved}
use Rattle.soft_sync.specs.Words.{path_of}
use Rattle.mt_endpoint.specs.Acts.{Act, Began, Opens, Sends, Takes, Asks, Attaches, Repeats, Refuses, Syncs, Closes, Silences, Hears, Draws, Judges, Misses, Answers, Releases, Discards, TunnelAsked, TunnelAnswered, Spoken, Drawn, CreateAsked, CreateAnswered, Nothing, Carried}
use Rattle.mt_endpoint.specs.Channels.{table}
use Rattle.mt_base.specs.Ends.{same_kind}
use Rattle.mt_endpoint.specs.Moving.{all_told, made_by, read_by, answer_made, answer_read, made, read, inward}
use Rattle.mt_endpoint.specs.Holding.{Held, held_after}
use Rattle.mt_endpoint.specs.Faults.{Unexpected, said_fault}
use Rattle.mt_endpoint.specs.Said.{said}
use Rattle.mt_endpoint.specs.World.{heard_in, drawn_in, hears, draws}
use Rattle.mt_endpoint.proofs.ChannelPdus.{spoken_pdus, spoken_pdus-append, carried_pdus, carried_pdus-append}
use Rattle.mt_endpoint.proofs.Words.{requests_of, answers_of, requests_in, answers_in, requests-append, answers-append, word, or_none, listed-plain}
use Rattle.mt_endpoint.proofs.Fitting.{Fits, Fitting, said_fine}
use Rattle.mt_endpoint.proofs.Paths.{no_requests}

-- the channel PDUs that an end read on the main stream, and those that it pulled from a tunnel
abbrev pub heard : Trace Act → List Pdu
heard t = spoken_pdus (hears t)

abbrev pub drawn : Kind → Trace Act → List Pdu
drawn kind t = carried_pdus (draws kind t)

abbrev pub heard_new : Act → List Pdu
heard_new act = spoken_pdus (heard_in act)

abbrev pub drawn_new : Kind → Act → List Pdu
drawn_new kind act = carried_pdus (drawn_in kind act)

pub heard-step : (t : Trace Act) (act : Act) → heard (t ▷ act) ≡ heard t ++ heard_new act
heard-step t act = spoken_pdus-append (hears t) (heard_in act)

pub drawn-step : (kind : Kind) (t : Trace Act) (act : Act) → drawn kind (t ▷ act) ≡ drawn kind t ++ drawn_new kind act
drawn-step kind t act = carried_pdus-append (draws kind t) (drawn_in kind act)

-- ---- each act

pub data Seen (role : Role) (t : Trace Act) : Act → Type 0 where
  hears_it : (pdu : Pdu) → Seen role t (Hears (Spoken pdu))
  draws_it : (kind : Kind) (at : ℕ) (bytes : List ℕ) (pdu : Pdu) → Seen role t (Draws kind at (Carried bytes pdu))
  releases : (kind : Kind) (at : ℕ) (bytes : List ℕ) (pdu : Pdu) → Seen role t (Releases kind at bytes pdu)
  discards : (at : ℕ) (bytes : List ℕ) (pdu : Pdu) → Seen role t (Discards at bytes pdu)
  closes : (id : ℕ) → Seen role t (Closes id)
  opens : (id : ℕ) (name : List ℕ) → Seen role t (Opens id name)
  takes : (id : ℕ) (message : List ℕ) → Seen role t (Takes id message)
  still : (act : Act) → heard_new act ≡ [] → ((kind : Kind) → drawn_new kind act ≡ []) → ((kind : Kind) (queue : List Held) → held_after role kind t act queue ≡ queue)
      → table role (t ▷ act) ≡ table role t → read_by act ≡ [] → answer_read act ≡ [] → Seen role t act

unless_same : (b : Bool) (drawn : Drawn) → carried_pdus (drawn ∷ []) ≡ [] → carried_pdus (cond b (drawn ∷ []) []) ≡ []
unless_same true drawn h = h
unless_same false drawn h = refl

either_way : (b : Bool) (queue : List Held) → cond b queue queue ≡ queue
either_way true queue = refl
either_way false queue = refl

pub seen : (role : Role) (t : Trace Act) (act : Act) → Seen role t act
seen role t Began = still Began refl (λ k. refl) (λ k q. refl) refl refl refl
seen role t (Opens id name) = opens id name
seen role t (Sends id message) = still (Sends id message) refl (λ k. refl) (λ k q. refl) refl refl refl
seen role t (Takes id message) = takes id message
seen role t (Asks kind id cookie) = still (Asks kind id cookie) refl (λ k. refl) (λ k q. refl) refl refl refl
seen role t (Attaches kind) = still (Attaches kind) refl (λ k. refl) (λ k q. refl) refl refl refl
seen role t (Repeats is_full) = still (Repeats is_full) refl (λ k. refl) (λ k q. refl) refl refl refl
seen role t (Refuses kind hr) = still (Refuses kind hr) refl (λ k. refl) (λ k q. refl) refl refl refl
seen role t (Syncs reliable lossy) = still (Syncs reliable lossy) refl (λ k. refl) (λ k q. refl) refl refl refl
seen role t (Closes id) = closes id
seen role t (Silences kind expiries) = still (Silences kind expiries) refl (λ k. refl) (λ k q. refl) refl refl refl
seen role t (Hears (TunnelAsked id kind cookie)) = still (Hears (TunnelAsked id kind cookie)) refl (λ k. refl) (λ k q. refl) refl refl refl
seen role t (Hears (TunnelAnswered id hr)) = still (Hears (TunnelAnswered id hr)) refl (λ k. refl) (λ k q. refl) refl refl refl
seen role t (Hears (Spoken pdu)) = hears_it pdu
seen role t (Draws kind at (CreateAsked id cookie)) =
    still (Draws kind at (CreateAsked id cookie)) refl (λ k. unless_same (same_kind k kind) (CreateAsked id cookie) refl) (λ k q. either_way (same_kind k kind) q) refl refl refl
seen role t (Draws kind at (CreateAnswered hr)) =
    still (Draws kind at (CreateAnswered hr)) refl (λ k. unless_same (same_kind k kind) (CreateAnswered hr) refl) (λ k q. either_way (same_kind k kind) q) refl refl refl
seen role t (Draws kind at Nothing) =
    still (Draws kind at Nothing) refl (λ k. unless_same (same_kind k kind) Nothing refl) (λ k q. either_way (same_kind k kind) q) refl refl refl
seen role t (Draws kind at (Carried bytes pdu)) = draws_it kind at bytes pdu
seen role t (Judges kind at id cookie verdict is_full) =
    still (Judges kind at id cookie verdict is_full) refl (λ k. unless_same (same_kind k kind) (CreateAsked id cookie) refl) (λ k q. refl) refl refl refl
seen role t Misses = still Misses refl (λ k. refl) (λ k q. refl) refl refl refl
seen role t (Answers named) = still (Answers named) refl (λ k. refl) (λ k q. refl) refl refl refl
seen role t (Releases kind at bytes pdu) = releases kind at bytes pdu
seen role t (Discards at bytes pdu) = discards at bytes pdu

-- ---- the words that an end read are those on the main stream

request_heard : (pdu : Pdu) → (requests_of pdu ++ [] ≡ read_by (Hears (Spoken pdu))) × (answers_of pdu ++ [] ≡ answer_read (Hears (Spoken pdu)))
request_heard (Caps version charges) = (refl, refl)
request_heard (CreateRequest id priority name) = (refl, refl)
request_heard (CreateResponse id status) = (refl, refl)
request_heard (DataFirst id total bytes) = (refl, refl)
request_heard (Data id bytes) = (refl, refl)
request_heard (CompressedFirst id total bytes) = (refl, refl)
request_heard (Compressed id bytes) = (refl, refl)
request_heard (Close id) = (refl, refl)
request_heard (SyncRequest flags tunnels lists) = (refl, refl)
request_heard (SyncResponse types) = (refl, refl)

new_words : (role : Role) (t : Trace Act) (act : Act) → Seen role t act → (requests_in (heard_new act) ≡ read_by act) × (answers_in (heard_new act) ≡ answer_read act)
new_words role t _ (hears_it pdu) = request_heard pdu
new_words role t _ (draws_it kind at bytes pdu) = (refl, refl)
new_words role t _ (releases kind at bytes pdu) = (refl, refl)
new_words role t _ (discards at bytes pdu) = (refl, refl)
new_words role t _ (closes id) = (refl, refl)
new_words role t _ (opens id name) = (refl, refl)
new_words role t _ (takes id message) = (refl, refl)
new_words role t _ (still act none none_drawn same_held same_table no_request no_answer) = (ap requests_in none ∙ sym no_request, ap answers_in none ∙ sym no_answer)

pub heard_words : (role : Role) (t : Trace Act) → (requests_in (heard t) ≡ all_told read_by t) × (answers_in (heard t) ≡ all_told answer_read t)
heard_words role Start = (refl, refl)
heard_words role (t ▷ act) =
    let w = heard_words role t in
    let n = new_words role t act (seen role t act) in (
      ap requests_in (heard-step t act) ∙ requests-append (heard t) (heard_new act) ∙ ap (λ l. l ++ requests_in (heard_new act)) w.0 ∙ ap (λ l. all_told read_by t ++ l) n.0,
      ap answers_in (heard-step t act) ∙ answers-append (heard t) (heard_new act) ∙ ap (λ l. l ++ answers_in (heard_new act)) w.1 ∙ ap (λ l. all_told answer_read t ++ l) n.1,
    )

no_read : (t : Trace Act) (pdu : Pdu) → said_fault Server t pdu (said pdu) ≡ None → read_by (Hears (Spoken pdu)) ≡ []
no_read t (Caps version charges) h = refl
no_read t (CreateRequest id priority name) h = refl
no_read t (CreateResponse id status) h = refl
no_read t (DataFirst id total bytes) h = refl
no_read t (Data id bytes) h = refl
no_read t (CompressedFirst id total bytes) h = refl
no_read t (Compressed id bytes) h = refl
no_read t (Close id) h = refl
no_read t (SyncRequest flags tunnels lists) h = absurd (let no : Some Unexpected ≡ None = h in cc)
no_read t (SyncResponse types) h = refl

-- a server reads no request
no_reading : (t : Trace Act) (act : Act) → Seen Server t act → Fits Server t act → read_by act ≡ []
no_reading t _ (hears_it pdu) f = no_read t pdu (said_fine Server t pdu f.1)
no_reading t _ (draws_it kind at bytes pdu) f = refl
no_reading t _ (releases kind at bytes pdu) f = refl
no_reading t _ (discards at bytes pdu) f = refl
no_reading t _ (closes id) f = refl
no_reading t _ (opens id name) f = refl
no_reading t _ (takes id message) f = refl
no_reading t _ (still act none none_drawn same_held same_table no_request no_answer) f = no_request

pub none_read : (t : Trace Act) → Fitting Server t → all_told read_by t ≡ []
none_read Start f = refl
none_read (t ▷ act) f = ap (λ l. l ++ read_by act) (none_read t f.1) ∙ no_reading t act (seen Server t act) f.0

-- a channel's inward word is on the main stream that was read
pub inward_heard : (role : Role) (t : Trace Act) (id : ℕ) → Fitting role t → inward id t ≡ path_of (word (other role) (all_told made_by t) id (heard t))
inward_heard Server t id f =
    ap (λ l. path_of (option_or (listed id (exchanges l (all_told answer_made t))) (moved id (made t)))) (none_read t f)
    ∙ ap (λ l. path_of (moved id (exchanges (all_told made_by t) l))) (sym (heard_words Server t).1)
inward_heard Client t id f =
    ap (λ l. path_of (option_or (listed id (read t)) (moved id (exchanges l (all_told answer_read t))))) (no_requests t f)
    ∙ ap path_of (or_none (listed id (read t)) ∙ listed-plain id (all_told read_by t) (all_told answer_made t) ∙ ap (λ l. listed id (exchanges l [])) (sym (heard_words Client t).0))
