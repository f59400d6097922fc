-- What an end answers behind a step of its own.
use Rattle.std.specs.Prelude.{Option, Some, None}
use Rattle.mt_base.specs.declared.kinds.Role.{Role}
use Rattle.mt_base.specs.Trace.{Trace}
use Rattle.mt_endpoint.specs.Acts.{Act}
use Rattle.mt_endpoint.specs.Growing.{answered}
use Rattle.end_calls.specs.declared.fault.Fault.{Fault}

-- the acts with the answers that are due; a broken end answers nothing
abbrev pub answered_by : Role → Option Fault → Trace Act → Trace Act
answered_by role None t = answered role t
answered_by role (Some fault) t = t
