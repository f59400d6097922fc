use Rattle.std.proofs.Common.{sym, subst}
use Rattle.mt_base.specs.Trace.{Start, ◌▷◌}
use Rattle.carrier.specs.Entries.{Gave, given}
use Rattle.carrier.specs.Law.{IsBytes}
use Rattle.link_core.specs.CoreView.{Stands}
use Rattle.udp_open.specs.LinkTrace.{with_entries, tellings}
use Rattle.udp_open.specs.LinkView.{Link, gives}
use Rattle.udp_open.proofs.Early.{waiting_is}
use Rattle.udp_open.proofs.link.UdpLink.begin.Goals as goal

pub returns-clause-stands : goal.returns-clause-stands
returns-clause-stands c t h good =
    let was = subst (λ (l : Link). Stands l.core (gives t)) (sym c.self.view_is) h in
    let waits = waiting_is c.self.inside.core t was in
    let begun = c.start_with_queue.ensures.stands (subst IsBytes (sym waits) good) in
    let first = subst (λ bytes. Stands c.start_with_queue.new.self (Start ▷ Gave bytes)) waits begun in
    subst (λ (l : Link). Stands c.owe_tellings.new.self.core (with_entries (Start ▷ Gave (given t)) (tellings (l.opening).settings.role))) c.self.view_is
    (c.owe_tellings.ensures.stands _ first)
