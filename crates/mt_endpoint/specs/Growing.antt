-- What an act makes due, as acts of its own: answers to Soft-Sync requests, and the release of what was
-- held. Answers stand before releases, and channels are released in the order of the request.
use Rattle.std.specs.Prelude.{ℕ, List, [], ◌∷◌, Option, Some, None, if◌then◌else◌}
use Rattle.mt_base.specs.declared.kinds.Kind.{Kind}
use Rattle.mt_base.specs.declared.kinds.Kind.TheVariants.{Reliable, Lossy}
use Rattle.mt_base.specs.declared.kinds.Role.{Role}
use Rattle.mt_base.specs.declared.kinds.Role.TheVariants.{Server, Client}
use Rattle.mt_base.specs.Trace.{Trace, ◌▷◌}
use Rattle.dvc_pdus.specs.Value.{SyncRequest, SyncResponse}
use Rattle.soft_sync.specs.declared.kinds.Kinds.{Kinds}
use Rattle.soft_sync.specs.Exchanges.{Request, has}
use Rattle.mt_endpoint.specs.Acts.{Act, Hears, Draws, Answers, Releases, Discards, Spoken, Carried}
use Rattle.mt_endpoint.specs.Channels.{is_closed}
use Rattle.mt_endpoint.specs.Moving.{made, read, unanswered_in, may_answer, answer_to, channels_listed, kinds_of, inward}
use Rattle.mt_endpoint.specs.Holding.{Held, held, only, channel_of, is_through}
use Rattle.mt_endpoint.specs.Faults.{Why, release_fault}

-- acts so far, and the place and cause of a fault that ended them
pub record Grown : Type 0 where
  pub acts : Trace Act
  pub fault : Option (ℕ × Why)

abbrev pub fine : Trace Act → Grown
fine t = record { acts = t; fault = None }

-- these requests are answered, one after the other, up to one that has to wait
abbrev pub answer_all : Role → List Request → Trace Act → Trace Act
answer_all role [] t = t
answer_all role (request ∷ requests) t =
    if may_answer role t request.named then answer_all role requests (t ▷ Answers (answer_to role t request.named)) else t

-- the client answers the requests that it read; the server reads none
abbrev pub answered : Role → Trace Act → Trace Act
answered Server t = t
answered Client t = answer_all Client (unanswered_in (read t)) t

-- the PDUs held for a channel are released, one after the other, up to a close or a fault; what comes
-- through the lossy tunnel is dropped where its channel does not take it
abbrev pub released : Role → Kind → ℕ → List Held → Trace Act → Grown
released role kind id [] t = fine t
released role kind id (h ∷ queue) t =
    if is_closed role id t then fine t
    else elim (release_fault role t h.pdu) as (λ w. Grown) [
      | None ↦ released role kind id queue (t ▷ Releases kind h.at h.bytes h.pdu)
      | Some why ↦ elim kind as (λ w. Grown) [
        | Reliable ↦ record { acts = t; fault = Some (h.at, why) }
        | Lossy ↦ released role Lossy id queue (t ▷ Discards h.at h.bytes h.pdu)
      ]
    ]

abbrev pub release_all : Role → List (ℕ × Kind) → Trace Act → Grown
release_all role [] t = fine t
release_all role ((id, kind) ∷ channels) t =
    let g = released role kind id (only id (held role kind t)) t in
    elim g.fault as (λ w. Grown) [ Some fault ↦ g | None ↦ release_all role channels g.acts ]

-- the channels of the oldest request without an answer that it lists under these kinds
abbrev pub among : Kinds → List (ℕ × Kind) → List (ℕ × Kind)
among kinds [] = []
among kinds ((id, kind) ∷ channels) = if has kind kinds then (id, kind) ∷ among kinds channels else among kinds channels

abbrev pub oldest_among : Kinds → List Request → List (ℕ × Kind)
oldest_among kinds [] = []
oldest_among kinds (request ∷ requests) = among kinds request.channels

-- a PDU that is pulled behind its word is released at once
abbrev pub if_through : Kind → Trace Act → Option ℕ → List (ℕ × Kind)
if_through kind t None = []
if_through kind t (Some id) = if is_through kind (inward id t) then (id, kind) ∷ [] else []

-- the channels whose PDUs are released by an act, each with its tunnel
abbrev pub freed : Trace Act → Act → List (ℕ × Kind)
freed t (Hears (Spoken (SyncRequest flags tunnels lists))) = channels_listed lists
freed t (Hears (Spoken (SyncResponse types))) = oldest_among (kinds_of types) (unanswered_in (made t))
freed t (Draws kind at (Carried bytes pdu)) = if_through kind t (channel_of pdu)
freed t act = []

-- an act, the answers that it makes due, and then what it releases
abbrev pub grown : Role → Trace Act → Act → Grown
grown role t act = release_all role (freed t act) (answered role (t ▷ act))
