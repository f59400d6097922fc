use Rattle.std.proofs.Common.{[], ◌∷◌, ◌++◌, sym, subst, ap, ◌∙◌}
use Rattle.capture_check.specs.declared.entry.Entry.TheVariants.{Sent, Got}
use Rattle.capture_check.specs.Messages.{WasSent}
use Rattle.capture_check.specs.FlowsSoFar.{AreDeliveries}
use Rattle.capture_check.proofs.Delivering.{quiet}
use Rattle.capture_check.proofs.deliveries.Deliveries.note.Goals as goal

pub returns-in_ok-send-in-Sent-clause-kept : goal.returns-in_ok-send-in-Sent-clause-kept
returns-in_ok-send-in-Sent-clause-kept c before are held =
    let is = c.in-Sent.is ∙ ap (Sent c.in-Sent.side c.in-Sent.id) (sym c.bytes.ensures) in
    subst (λ e. WasSent before e × AreDeliveries (before ++ e ∷ []) c.send.new.self) (sym is) (tt, c.in_ok-send-in-Sent.ensures before are)

pub returns-in_ok-word-in-Word-clause-kept : goal.returns-in_ok-word-in-Word-clause-kept
returns-in_ok-word-in-Word-clause-kept c before are held =
    subst (λ e. WasSent before e × AreDeliveries (before ++ e ∷ []) c.word.new.self) (sym c.in-Word.is) (tt, c.in_ok-word-in-Word.ensures before are)

pub returns-in-Got-clause-kept : goal.returns-in-Got-clause-kept
returns-in-Got-clause-kept c before are held =
    let is = c.in-Got.is ∙ ap (Got c.in-Got.side c.in-Got.id) (sym c.bytes-in-Got.ensures) in
    subst (λ e. WasSent before e × AreDeliveries (before ++ e ∷ []) c.deliver.new.self) (sym is) (c.deliver.ensures.kept before are held)

pub returns-in-Got-clause-broken : goal.returns-in-Got-clause-broken
returns-in-Got-clause-broken c before are fails =
    let is = c.in-Got.is ∙ ap (Got c.in-Got.side c.in-Got.id) (sym c.bytes-in-Got.ensures) in
    subst (λ e. ¬ WasSent before e) (sym is) (c.deliver.ensures.broken before are fails)

pub returns-in_default : goal.returns-in_default
returns-in_default c =
    record {
      kept = λ before are held. quiet before c.args.self.now are c.args.entry.now c.in_default.not-Sent c.in_default.not-Got c.in_default.not-Word;
      broken = λ before are fails. absurd (cc);
    }
