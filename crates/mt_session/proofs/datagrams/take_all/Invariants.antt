use Rattle.std.proofs.Common.{◌≡◌, ◌==◌}
use Rattle.std.specs.Bool.{if◌then◌else◌}
use Rattle.mt_base.specs.Trace.{Trace}
use Rattle.mt_session.specs.Steps.{Step}
use Rattle.mt_session.specs.Turns.{Taking, Sending, stage, came_count, left_count}
use Rattle.mt_session.specs.Live.{Seen, First, Live}
use Rattle.mt_session.specs.Leading.{LeadsTo, SameTurn}
use Rattle.mt_session.specs.Counting.{Grew}
use Rattle.mt_session.proofs.datagrams.take_all.Given as goal

-- so many datagrams have come
abbrev pub invariant-loop-count : goal.invariant-loop-count
invariant-loop-count g l = record {
  stays : g.W.Wire.stays l.initial.wire l.wire;
  faults : g.W.Wire.faults l.wire ≡ g.W.Wire.faults l.initial.wire;
  grew : Grew l.initial.tally l.tally;
  steps : (first : First) (seen : Seen) (s : Trace Step) →
      Live (g.E.End.stands l.fn.end) (record seen { wire = g.W.Wire.told l.fn.wire; tally = l.fn.tally; now = l.now }) first s → stage s ≡ Taking → came_count s ≡ 0 → left_count s ≡ 0 →
      LeadsTo (g.E.End.stands l.end) (record seen { wire = g.W.Wire.told l.wire; tally = l.tally; now = l.now }) first (λ later. (came_count later ≡ l.count) × (stage later ≡ (if l.count == 64 then Sending else Taking)) × (left_count later ≡ 0) × SameTurn s later);
}
