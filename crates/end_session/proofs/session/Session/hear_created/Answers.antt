use Rattle.std.proofs.Common.{◌∙◌, sym, ap, subst}
use Rattle.mt_base.specs.Trace.{Trace, ◌▷◌}
use Rattle.dvc_pdus.specs.Value.{CreateResponse}
use Rattle.mt_endpoint.specs.Acts.{Act, Hears, Spoken}
use Rattle.mt_endpoint.specs.Channels.{table}
use Rattle.end_session.specs.Causes.{why_in}
use Rattle.end_session.specs.Standing.{Gone, Stands}
use Rattle.end_session.specs.contracts.session.Session.{the_view}
use Rattle.end_session.proofs.ChannelsHeard.{answered, asked, asked_place, never_refused, ok_then}
use Rattle.end_session.proofs.Heard.{fine}
use Rattle.end_session.proofs.session.Session.hear_created.Goals as goal

pub unreachable-requires : goal.unreachable-requires
unreachable-requires c =
    let s = the_view c.self.inside in
    let w = c.self.invariant in
    let u = table s.role w.0.0 in
    never_refused u c.args.id c.answer.result c.in_default-answer.field-0 (asked s w.0.0 c.args.id c.args.status (fine s c.args.self.now w.0.0 (Spoken (CreateResponse c.args.id c.args.status)) c.created_cause.result c.self.view_is (c.created_cause.ensures.found w.0.0 w.0.1 c.args.status (subst (λ s. Stands s w.0.0 w.0.1) c.self.view_is w.0.2)) c.in_default.is)) (c.answer.ensures.refused u ((w.0.2).knows).channels_stand) c.in_default-answer.is

pub set_channel-requires : goal.set_channel-requires
set_channel-requires c =
    let s = the_view c.self.inside in
    let w = c.self.invariant in
    asked_place s w.0.0 w.0.1 c.args.id c.args.status (fine s c.args.self.now w.0.0 (Spoken (CreateResponse c.args.id c.args.status)) c.created_cause.result c.self.view_is (c.created_cause.ensures.found w.0.0 w.0.1 c.args.status (subst (λ s. Stands s w.0.0 w.0.1) c.self.view_is w.0.2)) c.in_default.is) w.0.2

-- the end that it leaves, which stands for one act more
stands : (c : goal.After-set_channel) (t : Trace Act) (gone : Gone) → Stands (the_view c.self.inside) t gone
    → Stands (record (the_view c.self.inside) { channels = c.answer.new.self; paths = c.set_channel.new.self }) (t ▷ Hears (Spoken (CreateResponse c.args.id c.args.status))) gone
stands c t gone st =
    let s = the_view c.self.inside in
    let none = fine s c.args.self.now t (Spoken (CreateResponse c.args.id c.args.status)) c.created_cause.result c.self.view_is (c.created_cause.ensures.found t gone c.args.status (subst (λ s. Stands s t gone) c.self.view_is st)) c.in_default.is in
    answered s t gone c.args.id c.args.status c.answer.new.self c.set_channel.new.self none (asked s t c.args.id c.args.status none)
    (ok_then c.answer.result c.in-Ok.field-0 c.in-Ok.is (c.answer.ensures.answered (table s.role t) (st.knows).channels_stand)) c.set_channel.ensures st

pub invariant_of-self : goal.invariant_of-self
invariant_of-self c =
    let w = c.self.invariant in
    ((w.0.0 ▷ Hears (Spoken (CreateResponse c.args.id c.args.status)), w.0.1, stands c w.0.0 w.0.1 w.0.2), w.1)

pub returns-clause-heard : goal.returns-clause-heard
returns-clause-heard c t gone st =
    (c.created_cause.ensures.found t gone c.args.status st ∙ ap why_in c.in_default.is, stands c t gone (subst (λ s. Stands s t gone) (sym c.self.view_is) st))
