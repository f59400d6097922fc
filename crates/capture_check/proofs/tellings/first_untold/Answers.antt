use Rattle.std.proofs.Common.{◌∷◌, ◌++◌, ap, sym, ◌∙◌, take, subst, ◌≡◌, false}
use Rattle.capture_check.specs.Rules.{Tellings}
use Rattle.capture_check.specs.LayoutsSoFar.{AreAgreed}
use Rattle.capture_check.specs.TellingsSoFar.{AreArrivals}
use Rattle.capture_check.proofs.Stepping.{one_further, at_place}
use Rattle.capture_check.proofs.Passing.{begins, goes_on, ends_at, passed_all}
use Rattle.capture_check.proofs.Telling.{nothing_arrived}
use Rattle.capture_check.proofs.tellings.first_untold.Goals as goal

pub loop-entry-init : goal.loop-entry-init
loop-entry-init c =
    record {
      passed = begins Tellings c.args.entries.now;
      agreed = c.new-agreed.ensures;
      arrivals = subst (λ v. AreArrivals (take 0 c.args.entries.now) v) (sym c.in_ok-arrivals.ensures) nothing_arrived;
    }

pub returns-then-not-tells_what_came : goal.returns-then-not-tells_what_came
returns-then-not-tells_what_came c =
    let t = take c.loop-entry.entry-index c.args.entries.now in
    ends_at Tellings c.args.entries.now c.loop-entry.entry-index c.loop-entry.line c.entry-item.result c.loop-entry.invariant.passed c.loop-entry-test.true c.entry-item.is
    (λ asks. let told = (c.tells_what_came.ensures t c.loop-entry.invariant.agreed c.loop-entry.invariant.arrivals).1 asks in
    let not_told : c.tells_what_came.result ≡ false = c.if-not-tells_what_came.true in cc)

pub loop-entry-preserved : goal.loop-entry-preserved
loop-entry-preserved c =
    let t = take c.loop-entry.entry-index c.args.entries.now in
    let further = one_further c.args.entries.now c.loop-entry.entry-index c.entry-item.result c.loop-entry-test.true c.entry-item.is in
    let p = at_place c.args.entries.now c.loop-entry.entry-index c.entry-item.result c.loop-entry-test.true in
    let counts = c.requires t c.entry-item.result p.0 (p.1 ∙ ap (λ e. t ++ e ∷ p.0) (sym c.entry-item.is)) in
    record {
      passed =
          goes_on Tellings c.args.entries.now c.loop-entry.entry-index c.loop-entry.line c.entry-item.result c.loop-entry.invariant.passed c.loop-entry-test.true c.entry-item.is
          ((c.tells_what_came.ensures t c.loop-entry.invariant.agreed c.loop-entry.invariant.arrivals).0 c.if-not-tells_what_came.false);
      agreed = subst (AreAgreed c.note-in-loop-entry.new.self) further (c.note-in-loop-entry.ensures t c.loop-entry.invariant.agreed);
      arrivals = subst (λ l. AreArrivals l c.note.new.self) further (c.in_ok-note.ensures t c.loop-entry.invariant.agreed counts c.loop-entry.invariant.arrivals);
    }

pub returns : goal.returns
returns c = passed_all Tellings c.args.entries.now c.loop-entry.entry-index c.loop-entry.line c.loop-entry.invariant.passed c.loop-entry-test.false
