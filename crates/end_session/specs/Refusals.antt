-- Why a tunnel isn't asked for, apart from the room of the queue.
use Rattle.std.specs.Prelude.{ℕ, Option, is_some}
use Rattle.mt_base.specs.declared.kinds.Kind.{Kind}
use Rattle.mt_base.specs.Trace.{Trace}
use Rattle.mt_endpoint.specs.Acts.{Act}
use Rattle.mt_endpoint.specs.Tunnels.{asked, issued}
use Rattle.end_calls.specs.declared.fault.Fault.{Fault}
use Rattle.end_calls.specs.declared.refusal.AskRefusal.{AskRefusal}
use Rattle.end_calls.specs.declared.refusal.AskRefusal.TheVariants as ask
use Rattle.end_calls.specs.Refusing.{◌or_else◌, because, when, why_not_issued}

abbrev pub before_asking : Option Fault → Trace Act → Kind → ℕ → Option AskRefusal
before_asking broken t kind id =
    because ask.Broken broken or_else when (is_some (asked kind t)) ask.AlreadyAsked
    or_else because ask.Issue (why_not_issued id (issued t))
