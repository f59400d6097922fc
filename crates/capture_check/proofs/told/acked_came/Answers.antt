use Rattle.std.proofs.Common.{◌≡◌, ◌+◌, ◌-◌, [], inl, arith, ap}
use Rattle.capture_check.specs.Arrivals.{has}
use Rattle.capture_check.proofs.Flagged.{acked_kept, acked_at, delayed_zero, some_delayed}
use Rattle.capture_check.proofs.told.acked_came.Goals as goal
use Rattle.capture_check.proofs.told.acked_came.Goals.{else-number-eq0-via-then-number-eq0+else-is_empty, else-number-eq0-via-else-number-eq0}

pub returns-then-is_empty-clause-broken : goal.returns-then-is_empty-clause-broken
returns-then-is_empty-clause-broken c fails =
    let none : c.args.came.now ≡ [] = c.is_empty.ensures.0 c.if-is_empty.true in (
      65535,
      delayed_zero c.args.number c.args.delayed (omega (arith, c.if-number-eq0.true, c.from-number.ensures)) (some_delayed c.args.delayed fails),
      ap (λ l. has l 65535) none,
      λ number_zero n_zero empty. absurd (omega (arith, n_zero)),
    )

pub returns-clause-kept : goal.returns-clause-kept
returns-clause-kept c fine n a =
    inl (acked_kept c.args.came.now c.args.number c.args.delayed (65536 + c.from-number.result - c.args.delayed) (omega (arith, c.from-number.ensures, c.ranges.number)) (omega (arith, c.requires))
    (omega (arith, c.from-number.ensures, c.requires)) (c.has_run.ensures.kept fine) n a)

pub returns-clause-broken : goal.returns-clause-broken
returns-clause-broken c fails =
    let missing = c.has_run.ensures.broken fails in (
      _,
      acked_at c.args.number c.args.delayed (65536 + c.from-number.result - c.args.delayed) missing.0 (omega (arith, c.from-number.ensures, c.ranges.number)) (omega (arith, c.requires))
          (omega (arith, c.from-number.ensures, c.requires)) missing.1,
      missing.2,
      λ number_zero n_zero empty. elim c.else-number-eq0.branch [
        | else-number-eq0-via-then-number-eq0+else-is_empty w ↦ (
            let yes = w.is_empty.ensures.1 empty in let not_so = w.if-is_empty.false in absurd (cc)
            )
        | else-number-eq0-via-else-number-eq0 w ↦ absurd (omega (arith, number_zero, w.if-number-eq0.false, c.from-number.ensures))
      ],
    )
