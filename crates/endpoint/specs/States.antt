-- Whether an end goes on, and what its links are.
use Rattle.std.specs.Prelude.{Option, Some, None}
use Rattle.end_calls.specs.declared.fault.Fault.{Fault}
use Rattle.endpoint.specs.declared.state.EndState.{EndState}
use Rattle.endpoint.specs.declared.state.EndState.TheVariants as state

abbrev pub end_state : Option Fault → EndState
end_state None = state.Fine
end_state (Some fault) = state.Broken fault
