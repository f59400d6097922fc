use Rattle.std.proofs.Common.{◌-◌, sym, ap, subst}
use Rattle.mt_base.specs.Trace.{◌▷◌}
use Rattle.mt_windows.specs.Sending.Act.{Resent}
use Rattle.mt_windows.specs.SendingView.{Sends}
use Rattle.link_machine.specs.SenderView.{Sender, Speaks}
use Rattle.link_machine.proofs.sender.Sender.resend.Goals as goal

pub returns-clause-stands : goal.returns-clause-stands
returns-clause-stands g c acts told timer h =
    let now = subst (λ s. Speaks s acts told timer) (sym c.self.view_is) h in
    let own = ap (λ (s : Sender). s.config.own) c.self.view_is in
    record {
      sends = subst (λ n. Sends c.resend.new.self c.self.inside.config.own (acts ▷ Resent (c.args.part - n))) own (c.resend.ensures.holds _ acts now.sends);
      window_is = now.window_is;
      timer_is = now.timer_is;
    }
