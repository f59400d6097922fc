use Rattle.std.proofs.Common.{◌∙◌, sym, ap, subst}
use Rattle.mt_base.specs.Trace.{Trace, ◌▷◌}
use Rattle.dvc_pdus.specs.Value.{Close}
use Rattle.mt_endpoint.specs.Acts.{Act, Hears, Spoken}
use Rattle.mt_endpoint.specs.Channels.{table}
use Rattle.end_session.specs.Causes.{why_in}
use Rattle.end_session.specs.Standing.{Gone, Stands}
use Rattle.end_session.specs.contracts.session.Session.{the_view}
use Rattle.end_session.proofs.DataHeard.{IsClosedBy, close_place, closed_again, closed_now, takes}
use Rattle.end_session.proofs.Heard.{fine}
use Rattle.end_session.proofs.session.Session.hear_close.Goals as goal

pub end_channel-requires : goal.end_channel-requires
end_channel-requires c =
    let s = the_view c.self.inside in
    let w = c.self.invariant in
    let none = fine s c.args.self.now w.0.0 (Spoken (Close c.args.id)) c.close_cause.result c.self.view_is (c.close_cause.ensures.found w.0.0 w.0.1 (subst (λ s. Stands s w.0.0 w.0.1) c.self.view_is w.0.2)) c.in_default.is in
    record { takes = (table s.role w.0.0, (w.0.2).knows.channels_stand, takes s.role w.0.0 c.args.id none); place = close_place s w.0.0 w.0.1 c.args.id none w.0.2 }

-- the end that it leaves, which stands for one act more: it was closed here before
again : (c : goal.Then-is_closed) (t : Trace Act) (gone : Gone) → Stands (the_view c.self.inside) t gone
    → Stands (record (the_view c.self.inside) { channels = c.end_channel.new.channels; paths = c.end_channel.new.paths; held_reliable = c.end_channel.new.reliable; held_lossy = c.end_channel.new.lossy }) (t ▷ Hears (Spoken (Close c.args.id))) gone
again c t gone st =
    let s = the_view c.self.inside in
    let by : IsClosedBy s c.args.id c.end_channel.new.channels c.end_channel.new.paths c.end_channel.new.reliable c.end_channel.new.lossy = record {
      ended = c.end_channel.ensures.ended;
      told_is = c.end_channel.ensures.paths;
      reliable_is = c.end_channel.ensures.reliable;
      lossy_is = c.end_channel.ensures.lossy;
    } in
    closed_again s t gone c.args.id c.end_channel.new.channels c.end_channel.new.paths c.end_channel.new.reliable c.end_channel.new.lossy c.state.result c.is_closed-is_closed.result (fine s c.args.self.now t (Spoken (Close c.args.id)) c.close_cause.result c.self.view_is (c.close_cause.ensures.found t gone (subst (λ s. Stands s t gone) c.self.view_is st)) c.in_default.is) by c.state.ensures c.is_closed-is_closed.ensures c.if-is_closed.true st

pub invariant_of-self : goal.invariant_of-self
invariant_of-self c =
    let w = c.self.invariant in
    ((w.0.0 ▷ Hears (Spoken (Close c.args.id)), w.0.1, again c w.0.0 w.0.1 w.0.2), w.1)

pub returns-then-is_closed-clause-heard : goal.returns-then-is_closed-clause-heard
returns-then-is_closed-clause-heard c t gone st =
    (c.close_cause.ensures.found t gone st ∙ ap why_in c.in_default.is, again c t gone (subst (λ s. Stands s t gone) (sym c.self.view_is) st))

-- it wasn't, and is answered
now : (c : goal.After-close) (t : Trace Act) (gone : Gone) → Stands (the_view c.self.inside) t gone
    → Stands (record (the_view c.self.inside) { channels = c.end_channel.new.channels; paths = c.end_channel.new.paths; held_reliable = c.end_channel.new.reliable; held_lossy = c.end_channel.new.lossy; outgoing = c.close.new.self }) (t ▷ Hears (Spoken (Close c.args.id))) gone
now c t gone st =
    let s = the_view c.self.inside in
    let by : IsClosedBy s c.args.id c.end_channel.new.channels c.end_channel.new.paths c.end_channel.new.reliable c.end_channel.new.lossy = record {
      ended = c.end_channel.ensures.ended;
      told_is = c.end_channel.ensures.paths;
      reliable_is = c.end_channel.ensures.reliable;
      lossy_is = c.end_channel.ensures.lossy;
    } in
    closed_now s t gone c.args.id c.end_channel.new.channels c.end_channel.new.paths c.end_channel.new.reliable c.end_channel.new.lossy c.close.new.self c.state.result c.is_closed-is_closed.result c.outward-path.result c.is_silent.result
    (fine s c.args.self.now t (Spoken (Close c.args.id)) c.close_cause.result c.self.view_is (c.close_cause.ensures.found t gone (subst (λ s. Stands s t gone) c.self.view_is st)) c.in_default.is) by c.state.ensures c.is_closed-is_closed.ensures c.if-is_closed.false c.outward-path.ensures c.is_silent.ensures c.close.ensures st

pub invariant_of-self-2 : goal.invariant_of-self-2
invariant_of-self-2 c =
    let w = c.self.invariant in
    ((w.0.0 ▷ Hears (Spoken (Close c.args.id)), w.0.1, now c w.0.0 w.0.1 w.0.2), w.1)

pub returns-clause-heard : goal.returns-clause-heard
returns-clause-heard c t gone st =
    (c.close_cause.ensures.found t gone st ∙ ap why_in c.in_default.is, now c t gone (subst (λ s. Stands s t gone) (sym c.self.view_is) st))
