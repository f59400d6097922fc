use Rattle.std.proofs.Common.{◌≡◌, Some, None, ap, ◌∙◌, ◌^◌}
use Rattle.mt_base.specs.Nearness.{nearest}
use Rattle.carrier.specs.Layout.{bounded}
use Rattle.carrier.specs.Receiving.{part_read}
use Rattle.link_machine.specs.ReceiverView.{both, layout_in}
use Rattle.link_machine.proofs.Receiving.{kept_window}
use Rattle.link_machine.proofs.receiver.Receiver.numbers.Goals as goal

pub returns-in_err-transmission-clause-read : goal.returns-in_err-transmission-clause-read
returns-in_err-transmission-clause-read g c wait own got n floor owed h =
    let layout = layout_in g.L.WireLayout.wire c.args.self.now wait own in
    let window = kept_window _ c.args.self.now got n floor owed c.self.view_is h in
    let p : Some c.in_ok-part.part ≡ part_read layout got n c.args.part =
    c.in_ok-part.ensures.read ∙ ap (λ m. bounded (2 ^ 62) (nearest layout.modulus m c.args.part)) (c.drained.ensures.drained c.args.self.now.config.peer got.parts n window) in
    c.from_residual-in_err-transmission.ensures ∙ ap (λ x. both x None) p ∙ ap (both (part_read layout got n c.args.part)) (c.in_err-transmission.ensures.read wait own got n floor owed h)

pub returns-clause-read : goal.returns-clause-read
returns-clause-read g c wait own got n floor owed h =
    let layout = layout_in g.L.WireLayout.wire c.args.self.now wait own in
    let window = kept_window _ c.args.self.now got n floor owed c.self.view_is h in
    let p : Some c.in_ok-part.part ≡ part_read layout got n c.args.part =
    c.in_ok-part.ensures.read ∙ ap (λ m. bounded (2 ^ 62) (nearest layout.modulus m c.args.part)) (c.drained.ensures.drained c.args.self.now.config.peer got.parts n window) in
    ap (λ x. both x (Some c.in_ok-transmission.transmission)) p ∙ ap (both (part_read layout got n c.args.part)) (c.in_ok-transmission.ensures.read wait own got n floor owed h)
