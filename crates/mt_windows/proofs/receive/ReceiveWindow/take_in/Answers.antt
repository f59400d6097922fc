use Rattle.std.proofs.Common.{◌++◌, [], sym, ap, ◌∙◌, append_assoc, append-nil, arith}
use Rattle.mt_windows.specs.ArrivedView.{left_of}
use Rattle.mt_windows.proofs.Order.{receives_kept, keeps_appended}
use Rattle.mt_windows.proofs.receive.ReceiveWindow.take_in.Goals as goal

pub returns-then-ahead-gt0-clause-holds : goal.returns-then-ahead-gt0-clause-holds
returns-then-ahead-gt0-clause-holds g c first parts n h =
    receives_kept c.args.self.now c.keep.new.self first parts n c.args.part c.args.ahead c.args.bytes.now c.keep.ensures.step c.if-ahead-gt0.true
    (omega (arith, c.keep.ensures.places, c.requires.ahead)) c.requires.place h

pub returns-then-ahead-gt0-clause-left : goal.returns-then-ahead-gt0-clause-left
returns-then-ahead-gt0-clause-left g c = ([], ap left_of c.keep.ensures.step ∙ sym (append-nil (left_of c.args.self.now)))

pub returns-clause-holds : goal.returns-clause-holds
returns-clause-holds g c first parts n h =
    c.pass_drained.ensures.holds first _ n (c.gather.ensures.keeps first _ n (keeps_appended c.args.self.now c.append.new.self first parts n c.args.part c.args.bytes.now c.append.ensures.step (omega (arith, c.append.ensures.places)) (omega (arith, c.requires.place, c.if-ahead-gt0.false)) h.keeps)) c.gather.ensures.gap

pub returns-clause-left : goal.returns-clause-left
returns-clause-left g c = (
  c.args.bytes.now ++ c.gather.ensures.left.0,
  c.pass_drained.ensures.left ∙ c.gather.ensures.left.1 ∙ ap (λ w. left_of w ++ c.gather.ensures.left.0) c.append.ensures.step ∙ append_assoc (left_of c.args.self.now) c.args.bytes.now c.gather.ensures.left.0,
)
