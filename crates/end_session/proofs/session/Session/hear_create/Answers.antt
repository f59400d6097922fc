use Rattle.std.proofs.Common.{ℕ, ◌∙◌, sym, ap, subst, arith}
use Rattle.mt_base.specs.Trace.{Trace, ◌▷◌}
use Rattle.dvc_channels.specs.Acts.{Made}
use Rattle.dvc_pdus.specs.Value.{CreateRequest}
use Rattle.mt_endpoint.specs.Acts.{Act, Hears, Spoken}
use Rattle.mt_endpoint.specs.Channels.{table}
use Rattle.end_session.specs.Causes.{why_in}
use Rattle.end_session.specs.Standing.{Gone, Stands}
use Rattle.end_session.specs.contracts.session.Session.{the_view}
use Rattle.end_session.proofs.ChannelsHeard.{created, denied, is_client, made_asked, never_refused, ok_then}
use Rattle.end_session.proofs.ChannelsOpened.{on_ok}
use Rattle.end_session.proofs.Heard.{fine}
use Rattle.end_session.proofs.session.Session.hear_create.Goals as goal

-- the end that it leaves, which stands for one act more: it has 256 channels
denied_stands : (c : goal.After-say) (t : Trace Act) (gone : Gone) (priority : ℕ) → Stands (the_view c.self.inside) t gone
    → Stands (record (the_view c.self.inside) { outgoing = c.say.new.self }) (t ▷ Hears (Spoken (CreateRequest c.args.id priority c.args.name.now))) gone
denied_stands c t gone priority st =
    let s = the_view c.self.inside in
    let none = fine s c.args.self.now t (Spoken (CreateRequest c.args.id priority c.args.name.now)) c.create_cause.result c.self.view_is
    (c.create_cause.ensures t gone priority c.args.name.now (subst (λ s. Stands s t gone) c.self.view_is st)) c.in_default.is in
    denied s t gone c.args.id priority c.args.name.now c.bytes.result.now c.say.new.self (is_client s.role t c.args.id priority c.args.name.now none) none
    (omega (arith, c.if-made-ge-CHANNELS.true, c.made.ensures (table s.role t) (st.knows).channels_stand)) (c.bytes.ensures.bytes ∙ c.of-denial.ensures) c.say.ensures st

pub invariant_of-self : goal.invariant_of-self
invariant_of-self c =
    let w = c.self.invariant in
    ((w.0.0 ▷ Hears (Spoken (CreateRequest c.args.id 0 c.args.name.now)), w.0.1, denied_stands c w.0.0 w.0.1 0 w.0.2), w.1)

pub returns-then-made-ge-CHANNELS-clause-heard : goal.returns-then-made-ge-CHANNELS-clause-heard
returns-then-made-ge-CHANNELS-clause-heard c t gone priority st =
    (c.create_cause.ensures t gone priority c.args.name.now st ∙ ap why_in c.in_default.is, denied_stands c t gone priority (subst (λ s. Stands s t gone) (sym c.self.view_is) st))

-- it was made just now, and is answered at once
pub unreachable-requires : goal.unreachable-requires
unreachable-requires c =
    let w = c.self.invariant in
    let u = table (the_view c.self.inside).role w.0.0 in
    let made = on_ok c.create.result (sym c.is_err.ensures.value ∙ c.if-is_err.false) (c.create.ensures.made u ((w.0.2).knows).channels_stand) in
    never_refused (u ▷ Made c.args.id c.args.name.now) c.args.id c.answer.result c.in_default-answer.field-0 (made_asked u c.args.id c.args.name.now)
    (c.answer.ensures.refused (u ▷ Made c.args.id c.args.name.now) made) c.in_default-answer.is

-- the end that it leaves where it has a channel more
stands : (c : goal.After-say-2) (t : Trace Act) (gone : Gone) (priority : ℕ) → Stands (the_view c.self.inside) t gone
    → Stands (record (the_view c.self.inside) { channels = c.answer.new.self; paths = c.set_channel.new.self; outgoing = c.say-2.new.self }) (t ▷ Hears (Spoken (CreateRequest c.args.id priority c.args.name.now))) gone
stands c t gone priority st =
    let s = the_view c.self.inside in
    let u = table s.role t in
    let k = (st.knows).channels_stand in
    let ok = sym c.is_err.ensures.value ∙ c.if-is_err.false in
    let none = fine s c.args.self.now t (Spoken (CreateRequest c.args.id priority c.args.name.now)) c.create_cause.result c.self.view_is
    (c.create_cause.ensures t gone priority c.args.name.now (subst (λ s. Stands s t gone) c.self.view_is st)) c.in_default.is in
    let allowed = on_ok c.create.result ok (c.create.ensures.allowed u k) in
    let made = on_ok c.create.result ok (c.create.ensures.made u k) in
    created s t gone c.args.id priority c.args.name.now c.bytes-2.result.now c.answer.new.self c.set_channel.new.self c.say-2.new.self (is_client s.role t c.args.id priority c.args.name.now none) none
    allowed.0 allowed.1 (ok_then c.answer.result c.in-Ok.field-0 c.in-Ok.is (c.answer.ensures.answered (u ▷ Made c.args.id c.args.name.now) made)) c.set_channel.ensures
    (c.bytes-2.ensures.bytes ∙ c.of-answer.ensures) c.say-2.ensures st

pub invariant_of-self-2 : goal.invariant_of-self-2
invariant_of-self-2 c =
    let w = c.self.invariant in
    ((w.0.0 ▷ Hears (Spoken (CreateRequest c.args.id 0 c.args.name.now)), w.0.1, stands c w.0.0 w.0.1 0 w.0.2), w.1)

pub returns-clause-heard : goal.returns-clause-heard
returns-clause-heard c t gone priority st =
    (c.create_cause.ensures t gone priority c.args.name.now st ∙ ap why_in c.in_default.is, stands c t gone priority (subst (λ s. Stands s t gone) (sym c.self.view_is) st))
