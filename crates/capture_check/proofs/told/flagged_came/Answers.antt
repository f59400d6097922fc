use Rattle.std.proofs.Common.{◌≡◌, ◌-◌, ◌%◌, arith}
use Rattle.std.proofs.lemmas.Nat.{and_mask}
use Rattle.capture_check.proofs.Flagged.{room, step_back, flagged_at, all_told}
use Rattle.capture_check.proofs.told.flagged_came.Goals as goal
use Rattle.capture_check.proofs.told.flagged_came.Goals.{else-element-eq0-via-then-element-eq0+else-not-has_run, else-element-eq0-via-else-element-eq0}

pub overflow_sub-first : goal.overflow_sub-first
overflow_sub-first c =
    let e = c.in-Some.element.now in
    let r = room c.args.elements.now c.args.last c.args.came.now c.loop-element.rest.now c.in-Some.before.now c.loop-element.first e c.in-Some.ensures.cases.0 c.requires c.loop-element.invariant in
    omega (arith, and_mask e 6, c.from-count.ensures, r)

pub returns-then-not-has_run-clause-broken : goal.returns-then-not-has_run-clause-broken
returns-then-not-has_run-clause-broken c fails =
    let e = c.in-Some.element.now in
    let r = room c.args.elements.now c.args.last c.args.came.now c.loop-element.rest.now c.in-Some.before.now c.loop-element.first e c.in-Some.ensures.cases.0 c.requires c.loop-element.invariant in
    let count : c.from-count.result ≡ e % 64 = omega (arith, and_mask e 6, c.from-count.ensures) in
    let missing = c.has_run.ensures.broken c.if-not-has_run.true in (
      _,
      flagged_at c.args.elements.now c.args.last c.args.came.now c.loop-element.rest.now c.in-Some.before.now c.loop-element.first e c.in-Some.ensures.cases.0 c.requires c.loop-element.invariant
          (c.loop-element.first - c.from-count.result) missing.0 (omega (arith, c.ranges.last)) (omega (arith, r, count)) (omega (arith, c.if-element-eq0.true)) (omega (arith, missing.1, count)),
      missing.2,
    )

pub loop-element-preserved : goal.loop-element-preserved
loop-element-preserved c =
    let e = c.in-Some.element.now in
    let r = room c.args.elements.now c.args.last c.args.came.now c.loop-element.rest.now c.in-Some.before.now c.loop-element.first e c.in-Some.ensures.cases.0 c.requires c.loop-element.invariant in
    let count : c.from-count.result ≡ e % 64 = omega (arith, and_mask e 6, c.from-count.ensures) in
    step_back c.args.elements.now c.args.last c.args.came.now c.loop-element.rest.now c.in-Some.before.now c.loop-element.first e c.in-Some.ensures.cases.0 c.requires c.loop-element.invariant
    (c.loop-element.first - c.from-count.result) (omega (arith, r, count))
    (λ received k less. elim c.else-element-eq0.branch [
      | else-element-eq0-via-then-element-eq0+else-not-has_run w ↦ w.has_run.ensures.kept w.if-not-has_run.false k (omega (arith, less, count))
      | else-element-eq0-via-else-element-eq0 w ↦ absurd (omega (arith, received, w.if-element-eq0.false))
    ])

pub returns-clause-kept : goal.returns-clause-kept
returns-clause-kept c fine = all_told c.args.elements.now c.args.last c.args.came.now c.loop-element.rest.now c.loop-element.first (omega (arith, c.ranges.last)) c.requires c.in_default.ensures.cases c.loop-element.invariant
