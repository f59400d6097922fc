use Rattle.std.proofs.Common.{◌<◌, ◌∙◌, drop, ap, sym, subst, arith}
use Rattle.std.proofs.lemmas.List.Elements.{All-from_get_or, All-take}
use Rattle.mt_base.specs.Trace.{◌▷◌}
use Rattle.mt_windows.specs.Sending.Act.{Cut}
use Rattle.link_machine.specs.SenderView.{Speaks, layout_out, timer_begun}
use Rattle.link_machine.proofs.Steps.{take_front}
use Rattle.mt_windows.specs.declared.limits.TheConstants.{PART}
use Rattle.link_machine.proofs.Rests.{behind_chunk}
use Rattle.link_machine.proofs.machine.Machine.cut_into.Goals as goal

pub returns-clause-bytes : goal.returns-clause-bytes
returns-clause-bytes g c acts told timer speaks =
    let says = subst (λ m. Speaks m.sender acts told timer) (sym c.self.view_is) speaks in
    let e = c.cut.ensures.bytes acts told timer says in
    (e.0, take_front c.cut.result c.cut.new.out _ (omega (arith, c.cut.ensures.fits, c.cut.ensures.whole)) ∙ e.1)

pub returns-clause-stands : goal.returns-clause-stands
returns-clause-stands g c delay peer acts told timer speaks =
    let says = subst (λ m. Speaks m.sender acts told timer) (sym c.self.view_is) speaks in
    subst (λ m. Speaks c.cut.new.self (acts ▷ Cut) told (timer_begun (layout_out g.L.WireLayout.wire m.sender delay peer) acts timer m.moment)) c.self.view_is
    (c.cut.ensures.stands delay peer acts told timer says)

pub returns-clause-good : goal.returns-clause-good
returns-clause-good g c =
    All-take (λ b. b < 256) c.cut.result _ (All-from_get_or (λ b. b < 256) _ 0 (λ i within. omega (arith, c.type_inv.out i)))

pub returns-clause-rest : goal.returns-clause-rest
returns-clause-rest g c =
    behind_chunk c.args.out.now c.cut.new.out PART c.cut.result c.cut.ensures.fits c.cut.ensures.whole
    c.requires.long (c.cut.ensures.rest ∙ ap (drop c.cut.result) c.in-Some.ensures.cases.same)
