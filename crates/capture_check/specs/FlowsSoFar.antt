-- What was sent and delivered on channels so far.
use Rattle.std.specs.Prelude.{◌≡◌, ℕ, List}
use Rattle.mt_base.specs.declared.kinds.Role.{Role}
use Rattle.mt_base.specs.declared.kinds.Role.TheVariants.{Server, Client}
use Rattle.capture_check.specs.declared.entry.Entry.{Entry}
use Rattle.capture_check.specs.declared.deliveries.Deliveries.{Deliveries}
use Rattle.capture_check.specs.Messages.{sent_by, went_lossy, Matched}
use Rattle.capture_check.specs.Flows.{FlowView, flow_of}

-- the flow is that of a side on a channel
pub record IsFlow (side : Role) (id : ℕ) (entries : List Entry) (flow : FlowView) : Type 0 where
  pub sent_is : flow.sent ≡ sent_by side id entries
  pub matched_is : Matched side id entries flow.matched
  pub lossy_is : flow.lossy ≡ went_lossy side id entries

-- the flows are those of a side
abbrev pub AreFlows : Role → List Entry → List (ℕ × FlowView) → Type 0
AreFlows side entries flows = (id : ℕ) → IsFlow side id entries (flow_of flows id)

-- the flows of the messages that either side sent
abbrev pub flows_of : Deliveries → Role → List (ℕ × FlowView)
flows_of deliveries Server = deliveries.server
flows_of deliveries Client = deliveries.client

abbrev pub AreDeliveries : List Entry → Deliveries → Type 0
AreDeliveries entries deliveries = (side : Role) → AreFlows side entries (flows_of deliveries side)
