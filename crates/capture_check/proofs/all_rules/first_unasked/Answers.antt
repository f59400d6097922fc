use Rattle.std.proofs.Common.{take, subst}
use Rattle.capture_check.specs.Rules.{Asking}
use Rattle.capture_check.specs.LayoutsSoFar.{AreAgreed}
use Rattle.capture_check.specs.RequestsSoFar.{AreRequests}
use Rattle.capture_check.proofs.Stepping.{one_further}
use Rattle.capture_check.proofs.Passing.{begins, goes_on, ends_at, passed_all}
use Rattle.capture_check.proofs.all_rules.first_unasked.Goals as goal

pub loop-entry-init : goal.loop-entry-init
loop-entry-init c = record { passed = begins Asking c.args.entries.now; agreed = c.new-agreed.ensures; requests = c.in_ok-requests.ensures }

pub returns-then-not-branch : goal.returns-then-not-branch
returns-then-not-branch c =
    let t = take c.loop-entry.entry-index c.args.entries.now in
    ends_at Asking c.args.entries.now c.loop-entry.entry-index c.loop-entry.line c.entry-item.result c.loop-entry.invariant.passed c.loop-entry-test.true c.entry-item.is
    (c.in_ok-note.ensures.broken t c.loop-entry.invariant.agreed c.loop-entry.invariant.requests c.if-not-branch.true)

pub loop-entry-preserved : goal.loop-entry-preserved
loop-entry-preserved c =
    let t = take c.loop-entry.entry-index c.args.entries.now in
    let further = one_further c.args.entries.now c.loop-entry.entry-index c.entry-item.result c.loop-entry-test.true c.entry-item.is in
    let kept = c.in_ok-note.ensures.kept t c.loop-entry.invariant.agreed c.loop-entry.invariant.requests c.if-not-branch.false in
    record {
      passed = goes_on Asking c.args.entries.now c.loop-entry.entry-index c.loop-entry.line c.entry-item.result c.loop-entry.invariant.passed c.loop-entry-test.true c.entry-item.is kept.0;
      agreed = subst (AreAgreed c.note-in-loop-entry.new.self) further (c.note-in-loop-entry.ensures t c.loop-entry.invariant.agreed);
      requests = subst (λ l. AreRequests l c.note.new.self) further kept.1;
    }

pub returns : goal.returns
returns c = passed_all Asking c.args.entries.now c.loop-entry.entry-index c.loop-entry.line c.loop-entry.invariant.passed c.loop-entry-test.false
