use Rattle.std.proofs.Common.{◌++◌, [], length, unwrap_or, sym, ap, ◌∙◌, append_assoc, append-nil, arith}
use Rattle.std.proofs.lemmas.List.{length_push}
use Rattle.mt_windows.specs.Arrived.{part_at}
use Rattle.mt_windows.specs.ArrivedView.{left_of}
use Rattle.mt_windows.proofs.Order.{gather_step, missing}
use Rattle.mt_windows.proofs.receive.ReceiveWindow.gather.Goals as goal

pub loop-self-init : goal.loop-self-init
loop-self-init g c = record { keeps = λ first parts n h. h; left = ([], sym (append-nil (left_of c.args.self.now))) }

pub loop-self-smaller : goal.loop-self-smaller
loop-self-smaller g c =
    omega (arith, ap (λ w. length w.lengths) c.gather_front.ensures.step, length_push c.loop-self.self.lengths (length (unwrap_or (part_at c.loop-self.self.slots 0) [])), c.gather_front.ensures.few)

pub loop-self-preserved : goal.loop-self-preserved
loop-self-preserved g c =
    let i = c.loop-self.invariant in
    let step = gather_step c.loop-self.self c.gather_front.new.self c.gather_front.ensures.step (sym c.loop-self-test.ensures) in
    record {
      keeps = λ first parts n h. step.0 first parts n (i.keeps first parts n h);
      left = (
        i.left.0 ++ unwrap_or (part_at c.loop-self.self.slots 0) [],
        step.1 ∙ ap (λ xs. xs ++ unwrap_or (part_at c.loop-self.self.slots 0) []) i.left.1 ∙ append_assoc (left_of c.args.self.now) i.left.0 (unwrap_or (part_at c.loop-self.self.slots 0) []),
      );
    }

pub returns-clause-keeps : goal.returns-clause-keeps
returns-clause-keeps g c = c.loop-self.invariant.keeps

pub returns-clause-gap : goal.returns-clause-gap
returns-clause-gap g c = missing _ (sym c.loop-self-test.ensures)

pub returns-clause-left : goal.returns-clause-left
returns-clause-left g c = c.loop-self.invariant.left
