use Rattle.std.proofs.Common.{rules, ◌≡◌, ℕ, ◌+◌, ◌<◌, ◌==◌, Ok, ap, ◌∙◌, subst}
use Rattle.std.specs.Bool.{if◌then◌else◌}
use Rattle.mt_session.specs.Turns.{Stage, Sending, Filling}
use Rattle.mt_session.specs.Leading.{Sends}
use Rattle.mt_session.proofs.Stepping.{same_on}
use Rattle.mt_session.proofs.Tallies.{below_64, next_64}
use Rattle.mt_session.proofs.datagrams.send_all.Goals as goal

at_sending : (n : ℕ) (x : Stage) → n < 64 → x ≡ (if n == 64 then Filling else Sending) → x ≡ Sending
at_sending n x h e = e ∙ ap (λ b. if b then Filling else Sending) (below_64 n h)

next_sending : (n k : ℕ) (x : Stage) → k ≡ n → x ≡ (if k == 63 then Filling else Sending) → x ≡ (if n + 1 == 64 then Filling else Sending)
next_sending n k x e f = f ∙ ap (λ i. if i == 63 then Filling else Sending) e ∙ ap (λ b. if b then Filling else Sending) (next_64 n)

at_end : (n : ℕ) (x : Stage) → n ≡ 64 → x ≡ (if n == 64 then Filling else Sending) → x ≡ Filling
at_end n x h e = e ∙ ap (λ i. if i == 64 then Filling else Sending) h

pub returns-in-Ok-false-clause-stays : goal.returns-in-Ok-false-clause-stays
returns-in-Ok-false-clause-stays g c = g.met.W.Wire.stays_on _ _ _ c.loop-count.invariant.stays c.send_one.ensures.stays

pub returns-in-Err-clause-stays : goal.returns-in-Err-clause-stays
returns-in-Err-clause-stays g c = g.met.W.Wire.stays_on _ _ _ c.loop-count.invariant.stays c.send_one.ensures.stays

pub returns-in-Ok-false-clause-steps : goal.returns-in-Ok-false-clause-steps
returns-in-Ok-false-clause-steps g c = λ first seen s h at zero.
    let b = c.loop-count.invariant.steps first seen s h at zero in
    let n = c.in-Ok-false.ensures.steps first seen b.0 b.1 (at_sending _ _ (search rules) b.2.1) in
    let p = subst (λ v. Sends (Ok v) b.0 n.0) c.in-Ok-false.field-0-test n.2 in
    (n.0, n.1, (p.0, same_on b.2.2 p.1))

pub returns-in-Err-clause-steps : goal.returns-in-Err-clause-steps
returns-in-Err-clause-steps g c = λ first seen s h at zero.
    let b = c.loop-count.invariant.steps first seen s h at zero in
    let n = c.in-Err.ensures.steps first seen b.0 b.1 (at_sending _ _ (search rules) b.2.1) in
    (n.0, n.1, (tt, same_on b.2.2 n.2))

pub loop-count-preserved : goal.loop-count-preserved
loop-count-preserved g c = record {
  stays = g.met.W.Wire.stays_on _ _ _ c.loop-count.invariant.stays c.send_one.ensures.stays;
  faults = c.in-Ok-true.ensures.counts ∙ c.loop-count.invariant.faults;
  steps = λ first seen s h at zero.
      let b = c.loop-count.invariant.steps first seen s h at zero in
      let n = c.in-Ok-true.ensures.steps first seen b.0 b.1 (at_sending _ _ (search rules) b.2.1) in
      let p = subst (λ v. Sends (Ok v) b.0 n.0) c.in-Ok-true.field-0-test n.2 in
      (n.0, n.1, (p.0 ∙ ap (λ i. i + 1) b.2.0, next_sending _ _ _ b.2.0 p.1, same_on b.2.2 p.2));
}

pub returns-clause-steps : goal.returns-clause-steps
returns-clause-steps g c = λ first seen s h at zero.
    let b = c.loop-count.invariant.steps first seen s h at zero in
    (b.0, b.1, (at_end _ _ (search rules) b.2.1, b.2.2))
