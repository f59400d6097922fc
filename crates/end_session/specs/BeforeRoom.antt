-- Why calls of an end are refused before the room of a queue is looked at.
use Rattle.std.specs.Prelude.{ℕ, List, Option}
use Rattle.mt_base.specs.Trace.{Trace}
use Rattle.soft_sync.specs.Words.{why_not}
use Rattle.mt_endpoint.specs.Acts.{Act}
use Rattle.end_calls.specs.declared.fault.Fault.{Fault}
use Rattle.end_calls.specs.declared.refusal.MoveRefusal.{MoveRefusal}
use Rattle.end_calls.specs.declared.refusal.MoveRefusal.TheVariants as move
use Rattle.end_calls.specs.Refusing.{◌or_else◌, because, words}

-- channels are not moved
abbrev pub before_moved : Option Fault → Trace Act → List ℕ → List ℕ → Option MoveRefusal
before_moved broken t reliable lossy =
    because move.Broken broken or_else because move.Sync (why_not reliable lossy (words t))
