use Rattle.std.proofs.Common.{sym, ◌∙◌, subst}
use Rattle.link_core.specs.CoreView.{Stands}
use Rattle.udp_open.specs.LinkTrace.{with_entries, tellings}
use Rattle.udp_open.specs.LinkView.{Link}
use Rattle.udp_open.proofs.LinkLemmas.{owes_two, owes_none}
use Rattle.udp_open.proofs.link.UdpLink.owe_tellings.Goals as goal

pub returns-in-Client-clause-stands : goal.returns-in-Client-clause-stands
returns-in-Client-clause-stands c t h =
    let i = c.self.inside in
    let now = subst (λ (l : Link). Stands l.core t) (sym c.self.view_is) h in
    subst (λ (l : Link). Stands c.owe.new.self (with_entries t (tellings (l.opening).settings.role))) c.self.view_is
    (owes_two (i.opening).settings.role c.owe.new.self t (sym c.role.ensures ∙ c.in-Client.is) (c.owe.ensures.trace t now))

pub returns-in-Server-clause-stands : goal.returns-in-Server-clause-stands
returns-in-Server-clause-stands c t h =
    let i = c.self.inside in
    subst (λ (l : Link). Stands l.core (with_entries t (tellings (l.opening).settings.role))) c.self.view_is
    (owes_none (i.opening).settings.role i.core t (sym c.role.ensures ∙ c.in-Server.is) (subst (λ (l : Link). Stands l.core t) (sym c.self.view_is) h))
