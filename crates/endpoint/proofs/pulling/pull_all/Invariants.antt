use Rattle.std.proofs.Common.{◌+◌, ℕ, cond, List, length, Some}
use Rattle.mt_base.specs.declared.kinds.Role.{Role}
use Rattle.mt_base.specs.Trace.{Trace}
use Rattle.carrier.specs.Entries.{Entry as Called}
use Rattle.end_calls.specs.Streams.{Past}
use Rattle.endpoint.specs.Laws.{SameLaw}
use Rattle.endpoint.specs.MainRead.{KeepsRoom}
use Rattle.endpoint.specs.OnWay.{OnWay, SomeWay}
use Rattle.endpoint.proofs.PullsOn.{Pulling}
use Rattle.endpoint.proofs.pulling.pull_all.Given as goal

-- so much was pulled and read
abbrev pub invariant-loop-is_whole : goal.invariant-loop-is_whole
invariant-loop-is_whole g l = record {
  lawful : SomeWay g.C.Carrier.stands g.C.Carrier.left g.C.Carrier.condition g.C.Carrier.load l.reader (Some l.link);
  room : KeepsRoom l.initial.reader.session l.reader.session;
  law : SameLaw g.C.Carrier.law l.initial.link l.link;
  pulling : (unread sent : List ℕ) (role : Role) (p : Past) (t : Trace Called) (queued : ℕ) → OnWay g.C.Carrier.stands g.C.Carrier.left g.C.Carrier.condition g.C.Carrier.load unread sent role p t queued l.initial.reader (Some l.initial.link)
      → Pulling g.C.Carrier.stands g.C.Carrier.left g.C.Carrier.condition g.C.Carrier.load unread sent role p t queued l.is_whole l.reader l.link;
}

abbrev pub decreases-loop-is_whole : goal.decreases-loop-is_whole
decreases-loop-is_whole g l = length (g.C.Carrier.left l.link) + cond l.is_whole 1 0
