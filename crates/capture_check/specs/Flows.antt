-- What a side sent on its channels, as values.
use Rattle.std.specs.Prelude.{ℕ, nat_eq, Bool, false, List, [], ◌∷◌, ◌++◌, unwrap_or}
use Rattle.std.specs.Map.{lookup}

-- What a side sent on a channel, how much of it was matched, and whether the side moved the channel
-- to the lossy tunnel.
pub record FlowView : Type 0 where
  pub sent : List (List ℕ)
  pub matched : ℕ
  pub lossy : Bool

abbrev pub no_flow : FlowView
no_flow = record { sent = []; matched = 0; lossy = false }

abbrev pub with_message : List ℕ → FlowView → FlowView
with_message message flow = record flow { sent = flow.sent ++ message ∷ [] }

-- the flow of a channel, where each stands under its id
abbrev pub flow_of : List (ℕ × FlowView) → ℕ → FlowView
flow_of flows id = unwrap_or (lookup (nat_eq id) flows) no_flow
