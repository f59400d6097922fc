-- A server that creates a channel, asks for a tunnel, or moves channels: each writes one frame.
use Rattle.std.proofs.Common.{◌≡◌, ℕ, ◌+◌, ◌<◌, ◌≤◌, List, [], ◌∷◌, length, append-nil, Option, None, Result, Ok, Err, IfOk, OnOk, refl, sym, ap, subst, arith}
use Rattle.std.specs.List.{flat_map}
use Rattle.mt_base.specs.declared.kinds.Kind.{Kind}
use Rattle.mt_base.specs.declared.kinds.Kind.TheVariants.{Reliable, Lossy}
use Rattle.mt_base.specs.declared.kinds.Role.{Role}
use Rattle.mt_base.specs.Trace.{Trace, ◌▷◌}
use Rattle.carrier.specs.declared.state.LinkState.{LinkState}
use Rattle.carrier.specs.Entries as link
use Rattle.dvc_pdus.specs.Value.{CreateRequest, sync_request}
use Rattle.mt_endpoint.specs.Acts.{Act, Asks, Heard, Opens, Spoken, Syncs, TunnelAsked}
use Rattle.mt_endpoint.specs.Writing.{adds, framed, on_main, OnMain}
use Rattle.end_calls.specs.declared.limits.TheConstants.{MAIN_QUEUE}
use Rattle.end_calls.specs.Calls.{Entry, Own, Postings, acts}
use Rattle.end_calls.specs.Law.{IsAllowed, IsGiven}
use Rattle.end_calls.specs.Refusing.{frame_size, main_limit, next_id, why_not_asked, why_not_moved, why_not_opened}
use Rattle.end_calls.specs.Stops.{answers_owed}
use Rattle.end_calls.specs.Streams.{Past}
use Rattle.end_session.specs.Standing.{Stands}
use Rattle.end_session.specs.Store.{Store}
use Rattle.end_reader.specs.declared.reader.Reader.{Reader}
use Rattle.endpoint.specs.Standing.{IsEnd, refusals_owed}
use Rattle.endpoint.proofs.Apart.{stands_apart}
use Rattle.endpoint.proofs.Causes.{asked_room, asked_whole, moved_room, moved_whole, opened_room, opened_whole}
use Rattle.endpoint.proofs.Due.{Settles}
use Rattle.endpoint.proofs.Links.{IsApart}
use Rattle.endpoint.proofs.Rooms.{refusals_few}
use Rattle.endpoint.proofs.Steps.{IsPlain, lone}

some_bytes : (heard : Heard) → 0 < length (framed heard)
some_bytes heard = omega arith

-- the limit of control PDUs leaves what is owed
pub within_limit : (role : Role) (t : Trace Act) (queued : ℕ) (heard : Heard) → queued + frame_size heard ≤ main_limit t → queued + length (flat_map framed (heard ∷ [])) + (answers_owed t + refusals_owed role t) ≤ MAIN_QUEUE
within_limit role t queued heard h = omega (arith, h, some_bytes heard, ap length (append-nil (framed heard)), refusals_few role t)

-- an act that writes one frame
pub stands_spoken : {C P : Type 0} (carrier_stands : C → Trace link.Entry → Type 0) (carrier_left : C → List ℕ) (carrier_condition : C → LinkState) (post_stands : P → Trace link.Entry → Type 0) (post_left : P → List (List ℕ)) (post_condition : P → LinkState) (r : Reader) (postings : Postings) (reliable : Option C) (lossy : Option P) (role : Role) (t : Trace Entry) (act : Act) (heard : Heard) (s : Store)
    → (e : IsEnd carrier_stands carrier_left carrier_condition post_stands post_left post_condition r postings reliable lossy role t) → (r.session).broken ≡ None → IsPlain role (acts role t) act → ((p : Past) → p.broken ≡ None → IsAllowed p act)
    → IsApart Reliable role (acts role t) act → IsApart Lossy role (acts role t) act → adds role (acts role t) act ≡ OnMain heard ∷ [] → Stands s (acts role t ▷ act) (e.tells).gone → s.role ≡ (r.session).role → s.broken ≡ (r.session).broken
    → length ((r.session).outgoing).main + frame_size heard ≤ main_limit (acts role t)
    → IsEnd carrier_stands carrier_left carrier_condition post_stands post_left post_condition (record r { session = s }) postings reliable lossy role (t ▷ Own act)
stands_spoken carrier_stands carrier_left carrier_condition post_stands post_left post_condition r postings reliable lossy role t act heard s e whole plain allowed no_reliable no_lossy writes st role_is broken_is room =
    let queued = length ((r.session).outgoing).main in
    stands_apart carrier_stands carrier_left carrier_condition post_stands post_left post_condition r postings reliable lossy role t act s e plain (lone r postings role t act e.tells whole plain allowed) no_reliable no_lossy st role_is broken_is
    (subst (λ written. queued + length (flat_map framed (on_main written)) + (answers_owed (acts role t) + refusals_owed role (acts role t)) ≤ MAIN_QUEUE) (sym writes) (within_limit role (acts role t) queued heard room))

-- ---- a channel is created

opens_settles : (kind : Kind) (t : Trace Act) (id : ℕ) (name : List ℕ) → Settles kind t (Opens id name)
opens_settles kind t id name = record { no_silence = refl; no_answer = refl; no_refusal = refl }

opens_plain : (role : Role) (t : Trace Act) (id : ℕ) (name : List ℕ) → IsPlain role t (Opens id name)
opens_plain role t id name = record {
  own = tt;
  given = tt;
  fits = λ a. a.0;
  faultless = tt;
  none_freed = refl;
  none_read = refl;
  none_made = refl;
  reliable = opens_settles Reliable t id name;
  lossy = opens_settles Lossy t id name;
  no_heavier = λ kind queue. omega arith;
}

opens_apart : (kind : Kind) (role : Role) (t : Trace Act) (id : ℕ) (name : List ℕ) → IsApart kind role t (Opens id name)
opens_apart kind role t id name = record { none_written = refl; no_link = refl; no_silence = refl; none_drawn = refl }

pub opened : {C P E : Type 0} (carrier_stands : C → Trace link.Entry → Type 0) (carrier_left : C → List ℕ) (carrier_condition : C → LinkState) (post_stands : P → Trace link.Entry → Type 0) (post_left : P → List (List ℕ)) (post_condition : P → LinkState) (r : Reader) (postings : Postings) (reliable : Option C) (lossy : Option P) (role : Role) (t : Trace Entry) (name : List ℕ) (result : Result ℕ E) (s : Store)
    → (e : IsEnd carrier_stands carrier_left carrier_condition post_stands post_left post_condition r postings reliable lossy role t)
    → IfOk result (λ id. (id ≡ next_id (acts role t)) × Stands s (acts role t ▷ Opens id name) (e.tells).gone)
    → OnOk result (why_not_opened (r.session).broken (acts role t) (length ((r.session).outgoing).main) name ≡ None) → s.role ≡ (r.session).role → s.broken ≡ (r.session).broken
    → IfOk result (λ id. (id ≡ next_id (acts role t)) × IsEnd carrier_stands carrier_left carrier_condition post_stands post_left post_condition (record r { session = s }) postings reliable lossy role (t ▷ Own (Opens id name)))
opened carrier_stands carrier_left carrier_condition post_stands post_left post_condition r postings reliable lossy role t name (Err why) s e st none role_is broken_is = tt
opened carrier_stands carrier_left carrier_condition post_stands post_left post_condition r postings reliable lossy role t name (Ok id) s e st none role_is broken_is =
    let u = acts role t in
    let queued = length ((r.session).outgoing).main in
    let room = opened_room (r.session).broken u queued name none in (
      st.0,
      stands_spoken carrier_stands carrier_left carrier_condition post_stands post_left post_condition r postings reliable lossy role t (Opens id name) (Spoken (CreateRequest id 0 name)) s e
          (opened_whole (r.session).broken u queued name none) (opens_plain role u id name) (λ p whole. whole) (opens_apart Reliable role u id name) (opens_apart Lossy role u id name) refl st.1 role_is broken_is
          (subst (λ id. queued + frame_size (Spoken (CreateRequest id 0 name)) ≤ main_limit u) (sym st.0) room),
    )

-- ---- a tunnel is asked for

asks_settles : (made : Kind) (t : Trace Act) (kind : Kind) (id : ℕ) (cookie : List ℕ) → Settles made t (Asks kind id cookie)
asks_settles made t kind id cookie = record { no_silence = refl; no_answer = refl; no_refusal = refl }

asks_plain : (role : Role) (t : Trace Act) (kind : Kind) (id : ℕ) (cookie : List ℕ) → IsGiven (Asks kind id cookie) → IsPlain role t (Asks kind id cookie)
asks_plain role t kind id cookie given = record {
  own = tt;
  given = given;
  fits = λ a. a.0;
  faultless = tt;
  none_freed = refl;
  none_read = refl;
  none_made = refl;
  reliable = asks_settles Reliable t kind id cookie;
  lossy = asks_settles Lossy t kind id cookie;
  no_heavier = λ kind queue. omega arith;
}

asks_apart : (made : Kind) (role : Role) (t : Trace Act) (kind : Kind) (id : ℕ) (cookie : List ℕ) → IsApart made role t (Asks kind id cookie)
asks_apart made role t kind id cookie = record { none_written = refl; no_link = refl; no_silence = refl; none_drawn = refl }

pub asked : {C P E : Type 0} (carrier_stands : C → Trace link.Entry → Type 0) (carrier_left : C → List ℕ) (carrier_condition : C → LinkState) (post_stands : P → Trace link.Entry → Type 0) (post_left : P → List (List ℕ)) (post_condition : P → LinkState) (r : Reader) (postings : Postings) (reliable : Option C) (lossy : Option P) (role : Role) (t : Trace Entry) (kind : Kind) (id : ℕ) (cookie : List ℕ) (result : Result (Unit {0}) E) (s : Store)
    → (e : IsEnd carrier_stands carrier_left carrier_condition post_stands post_left post_condition r postings reliable lossy role t) → IsGiven (Asks kind id cookie)
    → OnOk result (Stands s (acts role t ▷ Asks kind id cookie) (e.tells).gone)
    → OnOk result (why_not_asked (r.session).broken (acts role t) (length ((r.session).outgoing).main) kind id cookie ≡ None) → s.role ≡ (r.session).role → s.broken ≡ (r.session).broken
    → OnOk result (IsEnd carrier_stands carrier_left carrier_condition post_stands post_left post_condition (record r { session = s }) postings reliable lossy role (t ▷ Own (Asks kind id cookie)))
asked carrier_stands carrier_left carrier_condition post_stands post_left post_condition r postings reliable lossy role t kind id cookie (Err why) s e given st none role_is broken_is = tt
asked carrier_stands carrier_left carrier_condition post_stands post_left post_condition r postings reliable lossy role t kind id cookie (Ok done) s e given st none role_is broken_is =
    let u = acts role t in
    let queued = length ((r.session).outgoing).main in
    stands_spoken carrier_stands carrier_left carrier_condition post_stands post_left post_condition r postings reliable lossy role t (Asks kind id cookie) (TunnelAsked id kind cookie) s e
    (asked_whole (r.session).broken u queued kind id cookie none) (asks_plain role u kind id cookie given) (λ p whole. whole) (asks_apart Reliable role u kind id cookie) (asks_apart Lossy role u kind id cookie) refl st role_is broken_is
    (asked_room (r.session).broken u queued kind id cookie none)

-- ---- channels are moved

syncs_settles : (kind : Kind) (t : Trace Act) (reliable lossy : List ℕ) → Settles kind t (Syncs reliable lossy)
syncs_settles kind t reliable lossy = record { no_silence = refl; no_answer = refl; no_refusal = refl }

syncs_plain : (role : Role) (t : Trace Act) (reliable lossy : List ℕ) → IsPlain role t (Syncs reliable lossy)
syncs_plain role t reliable lossy = record {
  own = tt;
  given = tt;
  fits = λ a. a.0;
  faultless = tt;
  none_freed = refl;
  none_read = refl;
  none_made = refl;
  reliable = syncs_settles Reliable t reliable lossy;
  lossy = syncs_settles Lossy t reliable lossy;
  no_heavier = λ kind queue. omega arith;
}

syncs_apart : (kind : Kind) (role : Role) (t : Trace Act) (reliable lossy : List ℕ) → IsApart kind role t (Syncs reliable lossy)
syncs_apart kind role t reliable lossy = record { none_written = refl; no_link = refl; no_silence = refl; none_drawn = refl }

pub moved : {C P E : Type 0} (carrier_stands : C → Trace link.Entry → Type 0) (carrier_left : C → List ℕ) (carrier_condition : C → LinkState) (post_stands : P → Trace link.Entry → Type 0) (post_left : P → List (List ℕ)) (post_condition : P → LinkState) (r : Reader) (postings : Postings) (carrier : Option C) (post : Option P) (role : Role) (t : Trace Entry) (reliable lossy : List ℕ) (result : Result (Unit {0}) E) (s : Store)
    → (e : IsEnd carrier_stands carrier_left carrier_condition post_stands post_left post_condition r postings carrier post role t) → OnOk result (Stands s (acts role t ▷ Syncs reliable lossy) (e.tells).gone)
    → OnOk result (why_not_moved (r.session).broken (acts role t) (length ((r.session).outgoing).main) reliable lossy ≡ None) → s.role ≡ (r.session).role → s.broken ≡ (r.session).broken
    → OnOk result (IsEnd carrier_stands carrier_left carrier_condition post_stands post_left post_condition (record r { session = s }) postings carrier post role (t ▷ Own (Syncs reliable lossy)))
moved carrier_stands carrier_left carrier_condition post_stands post_left post_condition r postings carrier post role t reliable lossy (Err why) s e st none role_is broken_is = tt
moved carrier_stands carrier_left carrier_condition post_stands post_left post_condition r postings carrier post role t reliable lossy (Ok done) s e st none role_is broken_is =
    let u = acts role t in
    let queued = length ((r.session).outgoing).main in
    stands_spoken carrier_stands carrier_left carrier_condition post_stands post_left post_condition r postings carrier post role t (Syncs reliable lossy) (Spoken (sync_request reliable lossy)) s e
    (moved_whole (r.session).broken u queued reliable lossy none) (syncs_plain role u reliable lossy) (λ p whole. whole) (syncs_apart Reliable role u reliable lossy) (syncs_apart Lossy role u reliable lossy) refl st role_is broken_is
    (moved_room (r.session).broken u queued reliable lossy none)
