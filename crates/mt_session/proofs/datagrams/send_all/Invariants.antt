use Rattle.std.proofs.Common.{◌≡◌, ◌==◌}
use Rattle.std.specs.Bool.{if◌then◌else◌}
use Rattle.mt_base.specs.Trace.{Trace}
use Rattle.mt_session.specs.Steps.{Step}
use Rattle.mt_session.specs.Turns.{Sending, Filling, stage, left_count}
use Rattle.mt_session.specs.Live.{Seen, First, Live}
use Rattle.mt_session.specs.Leading.{LeadsTo, SameTurn}
use Rattle.mt_session.proofs.datagrams.send_all.Given as goal

-- so many datagrams have left
abbrev pub invariant-loop-count : goal.invariant-loop-count
invariant-loop-count g l = record {
  stays : g.W.Wire.stays l.initial.wire l.wire;
  faults : g.W.Wire.faults l.wire ≡ g.W.Wire.faults l.initial.wire;
  steps : (first : First) (seen : Seen) (s : Trace Step) →
      Live (g.E.End.stands l.fn.end) (record seen { wire = g.W.Wire.told l.fn.wire; now = l.now }) first s → stage s ≡ Sending → left_count s ≡ 0 →
      LeadsTo (g.E.End.stands l.end) (record seen { wire = g.W.Wire.told l.wire; now = l.now }) first (λ later. (left_count later ≡ l.count) × (stage later ≡ (if l.count == 64 then Filling else Sending)) × SameTurn s later);
}
