use Rattle.std.proofs.Common.{length, sym, ap, ◌∙◌, subst, refl, arith}
use Rattle.mt_windows.specs.Arrived.{part_at}
use Rattle.mt_windows.specs.ArrivedView.{Keeps, left_of}
use Rattle.mt_windows.proofs.Order.{keeps_past, not_drained}
use Rattle.mt_windows.proofs.Marked.{first_length}
use Rattle.mt_windows.proofs.receive.ReceiveWindow.pass_drained.Goals as goal

pub loop-self-init : goal.loop-self-init
loop-self-init g c = record { holds = λ first parts n h. h; left = refl; slots = refl }

pub loop-self-smaller : goal.loop-self-smaller
loop-self-smaller g c =
    let e = first_length c.loop-self.self.lengths c.loop-self.self.used (sym c.loop-self-test.ensures.drained) in
    omega (arith, ap (λ w. length w.lengths) c.pass_front.ensures, e.0)

pub loop-self-preserved : goal.loop-self-preserved
loop-self-preserved g c =
    let i = c.loop-self.invariant in
    let step = c.pass_front.ensures in
    record {
      holds = λ first parts n h.
          subst (λ w. Keeps w first parts n) (sym step) (keeps_past c.loop-self.self first parts n (sym c.loop-self-test.ensures.drained) (i.holds first parts n h));
      left = ap left_of step ∙ i.left;
      slots = ap (λ w. w.slots) step ∙ i.slots;
    }

pub returns-clause-holds : goal.returns-clause-holds
returns-clause-holds g c first parts n h gap =
    let i = c.loop-self.invariant in
    record { keeps = i.holds first parts n h; gap = ap (λ xs. part_at xs 0) i.slots ∙ gap; next = not_drained _ _ (sym c.loop-self-test.ensures.drained) }

pub returns-clause-left : goal.returns-clause-left
returns-clause-left g c = c.loop-self.invariant.left
