use Rattle.std.proofs.Common.{◌≡◌, false, take, subst}
use Rattle.capture_check.specs.Rules.{Layouts}
use Rattle.capture_check.specs.LayoutsSoFar.{AreAgreed}
use Rattle.capture_check.proofs.Stepping.{one_further}
use Rattle.capture_check.proofs.Passing.{begins, goes_on, ends_at, passed_all}
use Rattle.capture_check.proofs.datagrams.first_unreadable.Goals as goal

pub loop-entry-init : goal.loop-entry-init
loop-entry-init c = record { passed = begins Layouts c.args.entries.now; agreed = c.new-agreed.ensures }

pub returns-then-not-can_read : goal.returns-then-not-can_read
returns-then-not-can_read c =
    let t = take c.loop-entry.entry-index c.args.entries.now in
    ends_at Layouts c.args.entries.now c.loop-entry.entry-index c.loop-entry.line c.entry-item.result c.loop-entry.invariant.passed c.loop-entry-test.true c.entry-item.is
    (λ asks. let read = (c.can_read.ensures t c.loop-entry.invariant.agreed).1 asks in
    let not_read : c.can_read.result ≡ false = c.if-not-can_read.true in cc)

pub loop-entry-preserved : goal.loop-entry-preserved
loop-entry-preserved c =
    let t = take c.loop-entry.entry-index c.args.entries.now in
    let further = one_further c.args.entries.now c.loop-entry.entry-index c.entry-item.result c.loop-entry-test.true c.entry-item.is in
    record {
      passed =
          goes_on Layouts c.args.entries.now c.loop-entry.entry-index c.loop-entry.line c.entry-item.result c.loop-entry.invariant.passed c.loop-entry-test.true c.entry-item.is
          ((c.can_read.ensures t c.loop-entry.invariant.agreed).0 c.if-not-can_read.false);
      agreed = subst (AreAgreed c.note.new.self) further (c.note.ensures t c.loop-entry.invariant.agreed);
    }

pub returns : goal.returns
returns c = passed_all Layouts c.args.entries.now c.loop-entry.entry-index c.loop-entry.line c.loop-entry.invariant.passed c.loop-entry-test.false
