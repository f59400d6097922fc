-- The link that is polled.
use Rattle.std.specs.Prelude.{ℕ, Bool, false, Option, option_map}
use Rattle.mt_base.specs.declared.kinds.Kind.{Kind}
use Rattle.mt_base.specs.declared.kinds.Kind.TheVariants.{Reliable, Lossy}
use Rattle.carrier.specs.declared.state.LinkState.{LinkState}
use Rattle.endpoint.specs.Kept.{Kept}
use Rattle.endpoint.specs.Posted.{is_full_in}

-- what the link of this kind is, where there is one
abbrev pub state_in : {C P : Type 0} → (C → LinkState) → (P → LinkState) → Kind → Kept C P → Option LinkState
state_in carrier_condition post_condition Reliable kept = option_map carrier_condition kept.reliable
state_in carrier_condition post_condition Lossy kept = option_map post_condition kept.lossy

-- whether a lossy link is full for one more part; of a reliable one it isn't asked
abbrev pub is_full_at : {C P : Type 0} → (P → ℕ) → Kind → Kept C P → Bool
is_full_at load Reliable kept = false
is_full_at load Lossy kept = is_full_in load kept.lossy
