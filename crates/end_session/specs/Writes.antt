-- One thing that an act writes, among what waits.
use Rattle.std.specs.Prelude.{Bool, if◌then◌else◌}
use Rattle.mt_endpoint.specs.Writing.{Written, OnMain, Into}
use Rattle.end_session.specs.Outgoing.{Outgoing, says, carries}

-- a frame of the main stream, or a PDU for a tunnel that is silent or isn't
abbrev pub writes : Bool → Written → Outgoing → Outgoing
writes is_silent (OnMain heard) o = says heard o
writes is_silent (Into kind drawn) o = if is_silent then o else carries kind drawn o
