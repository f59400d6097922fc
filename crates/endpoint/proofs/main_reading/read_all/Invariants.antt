use Rattle.std.proofs.Common.{◌-◌, ◌≤◌, ℕ, List, length}
use Rattle.mt_base.specs.declared.kinds.Role.{Role}
use Rattle.mt_base.specs.Trace.{Trace}
use Rattle.carrier.specs.Entries.{Entry as Called}
use Rattle.end_calls.specs.Streams.{Past}
use Rattle.endpoint.specs.Laws.{KeepsLaw}
use Rattle.endpoint.specs.MainRead.{KeepsRoom}
use Rattle.endpoint.specs.OnWay.{OnWay, SomeWay}
use Rattle.endpoint.proofs.Ahead.{Going}
use Rattle.endpoint.proofs.main_reading.read_all.Given as goal

-- so many of the bytes were read without a fault
abbrev pub invariant-loop-taken : goal.invariant-loop-taken
invariant-loop-taken g l = record {
  within : l.taken ≤ length l.bytes;
  lawful : SomeWay g.C.Carrier.stands g.C.Carrier.left g.C.Carrier.condition g.C.Carrier.load l.reader l.reliable;
  room : KeepsRoom l.initial.reader.session l.reader.session;
  law : KeepsLaw g.C.Carrier.law l.initial.reliable l.reliable;
  going : (unread sent : List ℕ) (role : Role) (p : Past) (t : Trace Called) (queued : ℕ) → OnWay g.C.Carrier.stands g.C.Carrier.left g.C.Carrier.condition g.C.Carrier.load unread sent role p t queued l.initial.reader l.initial.reliable
      → Going g.C.Carrier.stands g.C.Carrier.left g.C.Carrier.condition g.C.Carrier.load unread sent role p t queued l.bytes l.taken l.reader l.reliable;
}

abbrev pub decreases-loop-taken : goal.decreases-loop-taken
decreases-loop-taken g l = length l.bytes - l.taken
