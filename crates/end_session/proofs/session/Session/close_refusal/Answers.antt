use Rattle.std.proofs.Common.{sym, ap, ◌∙◌}
use Rattle.end_calls.specs.declared.refusal.CloseRefusal.TheVariants as close
use Rattle.end_calls.specs.Refusing.{because, why_not_in}
use Rattle.end_session.specs.Store.{Store}
use Rattle.end_session.proofs.ChannelsClosed.{by_silence, by_state}
use Rattle.end_session.proofs.session.Session.close_refusal.Goals as goal

pub returns-in-Some-state_refusal : goal.returns-in-Some-state_refusal
returns-in-Some-state_refusal c t gone st =
    by_state c.args.self.now.broken c.args.self.now.role t c.args.id c.in-Some-state_refusal.why (sym (ap (λ (s : Store). s.broken) c.self.view_is) ∙ c.in_default.is)
    (ap (why_not_in close.UnknownChannel close.NotOpen close.ChannelClosed) (sym (c.channel.ensures t gone st)) ∙ sym c.state_refusal.ensures ∙ c.in-Some-state_refusal.is)

pub returns-in-Some-close_silence : goal.returns-in-Some-close_silence
returns-in-Some-close_silence c t gone st =
    ap (because close.TunnelSilent) (sym c.in-Some-close_silence.is)
    ∙ by_silence c.args.self.now.broken c.args.self.now.role t c.args.id c.close_silence.result (sym (ap (λ (s : Store). s.broken) c.self.view_is) ∙ c.in_default.is)
    (ap (why_not_in close.UnknownChannel close.NotOpen close.ChannelClosed) (sym (c.channel.ensures t gone st)) ∙ sym c.state_refusal.ensures ∙ c.in_default-state_refusal.is) (c.close_silence.ensures t gone st)

pub returns : goal.returns
returns c t gone st =
    ap (because close.TunnelSilent) (sym c.in_default-close_silence.is)
    ∙ by_silence c.args.self.now.broken c.args.self.now.role t c.args.id c.close_silence.result (sym (ap (λ (s : Store). s.broken) c.self.view_is) ∙ c.in_default.is)
    (ap (why_not_in close.UnknownChannel close.NotOpen close.ChannelClosed) (sym (c.channel.ensures t gone st)) ∙ sym c.state_refusal.ensures ∙ c.in_default-state_refusal.is) (c.close_silence.ensures t gone st)
