use Rattle.std.proofs.Common.{take, subst}
use Rattle.capture_check.specs.Rules.{Framing}
use Rattle.capture_check.specs.FramesSoFar.{AreStreams}
use Rattle.capture_check.proofs.Stepping.{one_further}
use Rattle.capture_check.proofs.Passing.{begins, goes_on, ends_at, passed_all}
use Rattle.capture_check.proofs.frames.first_unframed.Goals as goal

pub loop-entry-init : goal.loop-entry-init
loop-entry-init c = record { passed = begins Framing c.args.entries.now; streams = c.in_ok-streams.ensures }

pub returns-then-not-branch : goal.returns-then-not-branch
returns-then-not-branch c =
    let t = take c.loop-entry.entry-index c.args.entries.now in
    ends_at Framing c.args.entries.now c.loop-entry.entry-index c.loop-entry.line c.entry-item.result c.loop-entry.invariant.passed c.loop-entry-test.true c.entry-item.is
    (c.in_ok-note.ensures.broken t c.loop-entry.invariant.streams c.if-not-branch.true)

pub loop-entry-preserved : goal.loop-entry-preserved
loop-entry-preserved c =
    let t = take c.loop-entry.entry-index c.args.entries.now in
    let further = one_further c.args.entries.now c.loop-entry.entry-index c.entry-item.result c.loop-entry-test.true c.entry-item.is in
    let kept = c.in_ok-note.ensures.kept t c.loop-entry.invariant.streams c.if-not-branch.false in
    record {
      passed = goes_on Framing c.args.entries.now c.loop-entry.entry-index c.loop-entry.line c.entry-item.result c.loop-entry.invariant.passed c.loop-entry-test.true c.entry-item.is kept.0;
      streams = subst (λ l. AreStreams l c.note.new.self) further kept.1;
    }

pub returns : goal.returns
returns c = passed_all Framing c.args.entries.now c.loop-entry.entry-index c.loop-entry.line c.loop-entry.invariant.passed c.loop-entry-test.false
