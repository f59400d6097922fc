use Rattle.std.proofs.Common.{ℕ, List, Option, None, true, ◌∙◌, sym, ap, subst}
use Rattle.mt_base.specs.Trace.{Trace, ◌▷◌}
use Rattle.dvc_pdus.specs.Value.{Caps}
use Rattle.mt_endpoint.specs.Acts.{Act, Hears, Spoken}
use Rattle.end_session.specs.Standing.{Gone, Stands}
use Rattle.end_session.specs.Store.{Store}
use Rattle.end_session.specs.contracts.session.Session.{the_view}
use Rattle.end_session.proofs.ChannelsHeard.{capable_client, capable_fine, capable_server}
use Rattle.end_session.proofs.session.Session.hear_capabilities.Goals as goal

-- the end that it leaves, which stands for one act more
server_stands : (c : goal.After-set_version) (t : Trace Act) (gone : Gone) (charges : Option (List ℕ)) → Stands (the_view c.self.inside) t gone
    → Stands (record (the_view c.self.inside) { paths = c.set_version.new.self; is_ready = true }) (t ▷ Hears (Spoken (Caps c.args.version charges))) gone
server_stands c t gone charges st = capable_server (the_view c.self.inside) t gone c.args.version charges c.set_version.new.self c.in-Server.is c.if-self.false c.set_version.ensures st

client_stands : (c : goal.After-say) (t : Trace Act) (gone : Gone) (charges : Option (List ℕ)) → Stands (the_view c.self.inside) t gone
    → Stands (record (the_view c.self.inside) { paths = c.set_version-in-Client.new.self; is_ready = true; outgoing = c.say.new.self }) (t ▷ Hears (Spoken (Caps c.args.version charges))) gone
client_stands c t gone charges st =
    capable_client (the_view c.self.inside) t gone c.args.version charges c.set_version-in-Client.new.self c.say.new.self c.bytes.result.now c.in-Client.is c.if-self.false c.set_version-in-Client.ensures
    (c.bytes.ensures.bytes ∙ c.of-answer.ensures) c.say.ensures st

pub invariant_of-self : goal.invariant_of-self
invariant_of-self c =
    let w = c.self.invariant in
    ((w.0.0 ▷ Hears (Spoken (Caps c.args.version None)), w.0.1, server_stands c w.0.0 w.0.1 None w.0.2), w.1)

pub invariant_of-self-in-Client : goal.invariant_of-self-in-Client
invariant_of-self-in-Client c =
    let w = c.self.invariant in
    ((w.0.0 ▷ Hears (Spoken (Caps c.args.version None)), w.0.1, client_stands c w.0.0 w.0.1 None w.0.2), w.1)

pub returns-in-Server-clause-heard : goal.returns-in-Server-clause-heard
returns-in-Server-clause-heard c t gone charges st =
    (capable_fine c.args.self.now t gone c.args.version charges (sym (ap (λ (s : Store). s.is_ready) c.self.view_is) ∙ c.if-self.false) st, server_stands c t gone charges (subst (λ s. Stands s t gone) (sym c.self.view_is) st))

pub returns-in-Client-clause-heard : goal.returns-in-Client-clause-heard
returns-in-Client-clause-heard c t gone charges st =
    (capable_fine c.args.self.now t gone c.args.version charges (sym (ap (λ (s : Store). s.is_ready) c.self.view_is) ∙ c.if-self.false) st, client_stands c t gone charges (subst (λ s. Stands s t gone) (sym c.self.view_is) st))
