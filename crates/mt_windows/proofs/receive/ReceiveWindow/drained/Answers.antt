use Rattle.std.proofs.Common.{◌+◌, ap, ◌∙◌}
use Rattle.mt_windows.proofs.Order.{receives_next}
use Rattle.mt_windows.proofs.receive.ReceiveWindow.drained.Goals as goal

pub returns-clause-drained : goal.returns-clause-drained
returns-clause-drained g c first parts n h = ap (λ w. w.first + w.passed) c.self.view_is ∙ receives_next c.args.self.now first parts n h
