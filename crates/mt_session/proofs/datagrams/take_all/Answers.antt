use Rattle.std.proofs.Common.{rules, ◌≡◌, ℕ, ◌+◌, ◌<◌, ◌==◌, Ok, sym, ap, ◌∙◌, subst}
use Rattle.std.specs.Bool.{if◌then◌else◌}
use Rattle.mt_session.specs.Turns.{Stage, Taking, Sending}
use Rattle.mt_session.specs.Leading.{Takes}
use Rattle.mt_session.proofs.Stepping.{same_on}
use Rattle.mt_session.proofs.Tallies.{below_64, next_64, grew_on}
use Rattle.mt_session.proofs.datagrams.take_all.Goals as goal

at_taking : (n : ℕ) (x : Stage) → n < 64 → x ≡ (if n == 64 then Sending else Taking) → x ≡ Taking
at_taking n x h e = e ∙ ap (λ b. if b then Sending else Taking) (below_64 n h)

next_taking : (n k : ℕ) (x : Stage) → k ≡ n → x ≡ (if k == 63 then Sending else Taking) → x ≡ (if n + 1 == 64 then Sending else Taking)
next_taking n k x e f = f ∙ ap (λ i. if i == 63 then Sending else Taking) e ∙ ap (λ b. if b then Sending else Taking) (next_64 n)

first_one : (n k : ℕ) → k ≡ n → (n == 0) ≡ (k == 0)
first_one n k e = ap (λ i. i == 0) (sym e)

at_end : (n : ℕ) (x : Stage) → n ≡ 64 → x ≡ (if n == 64 then Sending else Taking) → x ≡ Sending
at_end n x h e = e ∙ ap (λ i. if i == 64 then Sending else Taking) h

pub returns-in-Ok-false-clause-stays : goal.returns-in-Ok-false-clause-stays
returns-in-Ok-false-clause-stays g c = g.met.W.Wire.stays_on _ _ _ c.loop-count.invariant.stays c.take_one.ensures.stays

pub returns-in-Err-clause-stays : goal.returns-in-Err-clause-stays
returns-in-Err-clause-stays g c = g.met.W.Wire.stays_on _ _ _ c.loop-count.invariant.stays c.take_one.ensures.stays

pub returns-in-Ok-false-clause-grew : goal.returns-in-Ok-false-clause-grew
returns-in-Ok-false-clause-grew g c = grew_on _ _ _ c.loop-count.invariant.grew c.take_one.ensures.grew

pub returns-in-Err-clause-grew : goal.returns-in-Err-clause-grew
returns-in-Err-clause-grew g c = grew_on _ _ _ c.loop-count.invariant.grew c.take_one.ensures.grew

pub returns-in-Ok-false-clause-steps : goal.returns-in-Ok-false-clause-steps
returns-in-Ok-false-clause-steps g c = λ first seen s h at none zero.
    let b = c.loop-count.invariant.steps first seen s h at none zero in
    let n = c.in-Ok-false.ensures.steps first seen b.0 b.1 (at_taking _ _ (search rules) b.2.1) (first_one _ _ b.2.0) in
    let p = subst (λ v. Takes (Ok v) b.0 n.0) c.in-Ok-false.field-0-test n.2 in
    (n.0, n.1, ((p.0, p.1 ∙ b.2.2), same_on b.2.3 p.2))

pub returns-in-Err-clause-steps : goal.returns-in-Err-clause-steps
returns-in-Err-clause-steps g c = λ first seen s h at none zero.
    let b = c.loop-count.invariant.steps first seen s h at none zero in
    let n = c.in-Err.ensures.steps first seen b.0 b.1 (at_taking _ _ (search rules) b.2.1) (first_one _ _ b.2.0) in
    (n.0, n.1, (tt, same_on b.2.3 n.2))

pub loop-count-preserved : goal.loop-count-preserved
loop-count-preserved g c = record {
  stays = g.met.W.Wire.stays_on _ _ _ c.loop-count.invariant.stays c.take_one.ensures.stays;
  faults = c.in-Ok-true.ensures.counts ∙ c.loop-count.invariant.faults;
  grew = grew_on _ _ _ c.loop-count.invariant.grew c.take_one.ensures.grew;
  steps = λ first seen s h at none zero.
      let b = c.loop-count.invariant.steps first seen s h at none zero in
      let n = c.in-Ok-true.ensures.steps first seen b.0 b.1 (at_taking _ _ (search rules) b.2.1) (first_one _ _ b.2.0) in
      let p = subst (λ v. Takes (Ok v) b.0 n.0) c.in-Ok-true.field-0-test n.2 in
      (n.0, n.1, (p.0 ∙ ap (λ i. i + 1) b.2.0, next_taking _ _ _ b.2.0 p.1, p.2 ∙ b.2.2, same_on b.2.3 p.3));
}

pub returns-clause-steps : goal.returns-clause-steps
returns-clause-steps g c = λ first seen s h at none zero.
    let b = c.loop-count.invariant.steps first seen s h at none zero in
    (b.0, b.1, ((at_end _ _ (search rules) b.2.1, b.2.2), b.2.3))
