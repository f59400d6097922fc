use Rattle.std.proofs.Common.{◌≤◌, ◌<◌, ◌+◌, ◌-◌, ◌∙◌, drop, length, sym, ap, subst, arith}
use Rattle.std.proofs.lemmas.List.Elements.{All-from_get_or, All-take}
use Rattle.mt_base.specs.Trace.{◌▷◌}
use Rattle.mt_windows.specs.Sending.Act.{Resent}
use Rattle.mt_windows.specs.Sending.{cuts, piece}
use Rattle.mt_windows.specs.SendingView.{limits}
use Rattle.mt_windows.specs.declared.limits.TheConstants.{WINDOW}
use Rattle.link_machine.specs.SenderView.{Speaks}
use Rattle.link_machine.specs.MachineView.{Machine}
use Rattle.link_machine.proofs.Steps.{take_front}
use Rattle.mt_windows.specs.declared.limits.TheConstants.{PART}
use Rattle.link_machine.proofs.Rests.{behind_chunk}
use Rattle.link_machine.proofs.machine.Machine.resend_into.Goals as goal

pub returns-clause-bytes : goal.returns-clause-bytes
returns-clause-bytes g c acts told timer speaks =
    let says = subst (λ m. Speaks m.sender acts told timer) (sym c.self.view_is) speaks in
    let e = c.resend.ensures.bytes acts told timer says in
    let own = λ (m : Machine). piece limits acts (c.args.part - m.sender.config.own) in (
      e.0 ∙ ap (λ m. length (own m)) c.self.view_is,
      take_front c.resend.result c.resend.new.out _ (omega (arith, c.resend.ensures.fits, c.resend.ensures.whole)) ∙ (e.1 ∙ ap own c.self.view_is),
    )

pub returns-clause-near : goal.returns-clause-near
returns-clause-near g c acts told timer speaks =
    let says = subst (λ m. Speaks m.sender acts told timer) (sym c.self.view_is) speaks in
    subst (λ m. m.sender.config.own + cuts acts ≤ c.args.part + WINDOW) c.self.view_is (c.resend.ensures.near acts told timer says)

pub returns-clause-stands : goal.returns-clause-stands
returns-clause-stands g c acts told timer speaks =
    let says = subst (λ m. Speaks m.sender acts told timer) (sym c.self.view_is) speaks in
    subst (λ m. Speaks c.resend.new.self (acts ▷ Resent (c.args.part - m.sender.config.own)) told timer) c.self.view_is
    (c.resend.ensures.stands acts told timer says)

pub returns-clause-good : goal.returns-clause-good
returns-clause-good g c =
    All-take (λ b. b < 256) c.resend.result _ (All-from_get_or (λ b. b < 256) _ 0 (λ i within. omega (arith, c.type_inv.out i)))

pub returns-clause-rest : goal.returns-clause-rest
returns-clause-rest g c =
    behind_chunk c.args.out.now c.resend.new.out PART c.resend.result c.resend.ensures.fits c.resend.ensures.whole
    c.requires.long (c.resend.ensures.rest ∙ ap (drop c.resend.result) c.in-Some.ensures.cases.same)
