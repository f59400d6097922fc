use Rattle.std.proofs.Common.{◌≡◌, ℕ, List, sym, subst}
use Rattle.std.proofs.lemmas.Result.{on_ok_weaker}
use Rattle.mt_base.specs.Trace.{Trace, ◌▷◌}
use Rattle.mt_windows.specs.Sending.{Act}
use Rattle.mt_windows.specs.Sending.Act.{Gave}
use Rattle.mt_windows.specs.SendingView.{Outbox, Sends}
use Rattle.carrier.specs.Sending.{Timer}
use Rattle.link_machine.specs.SenderView.{Sender, Speaks}
use Rattle.link_machine.proofs.sender.Sender.give.Goals as goal

given_speaks : (s now : Sender) (w : Outbox) (bytes : List ℕ) → s ≡ now → ((first : ℕ) (t : Trace Act) → Sends s.outbox first t → Sends w first (t ▷ Gave bytes))
    → (acts : Trace Act) (told : ℕ) (timer : Timer) → Speaks now acts told timer → Speaks (record s { outbox = w }) (acts ▷ Gave bytes) told timer
given_speaks s now w bytes is given acts told timer h =
    let k = subst (λ r. Speaks r acts told timer) (sym is) h in
    record { sends = given s.config.own acts k.sends; window_is = k.window_is; timer_is = k.timer_is }

pub returns-clause-stands : goal.returns-clause-stands
returns-clause-stands g c =
    on_ok_weaker c.give.result (given_speaks _ c.args.self.now c.give.new.self c.args.bytes.now c.self.view_is) c.give.ensures.given
