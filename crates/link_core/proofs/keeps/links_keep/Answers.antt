use Rattle.std.proofs.Common.{◌+◌, ◌<◌, ◌≤◌, subst, arith}
use Rattle.mt_windows.specs.Sending.{lowest_or_next, queued, reach}
use Rattle.carrier.specs.Sending.{acts}
use Rattle.link_core.specs.CoreView.{link_layout}
use Rattle.link_core.proofs.Links.{expiries_is, has_room, windows_is}
use Rattle.link_core.proofs.keeps.links_keep.Goals as goal

pub returns-clause-asks : goal.returns-clause-asks
returns-clause-asks c own peer version = has_room own peer version

pub returns-clause-shows : goal.returns-clause-shows
returns-clause-shows c own peer version t law =
    c.faithful_links.ensures.shows (link_layout own peer version) t (has_room own peer version) law

pub returns-clause-next : goal.returns-clause-next
returns-clause-next c own peer version t law =
    c.faithful_links.ensures.next (link_layout own peer version) t (has_room own peer version) law

pub returns-clause-numbers : goal.returns-clause-numbers
returns-clause-numbers c own peer version t law =
    c.faithful_links.ensures.numbers (link_layout own peer version) t (has_room own peer version) law

pub returns-clause-pieces : goal.returns-clause-pieces
returns-clause-pieces c own peer version t law =
    c.faithful_links.ensures.pieces (link_layout own peer version) t (has_room own peer version) law

pub returns-clause-told : goal.returns-clause-told
returns-clause-told c own peer version t law =
    c.faithful_links.ensures.told (link_layout own peer version) t (has_room own peer version) law

pub returns-clause-queue : goal.returns-clause-queue
returns-clause-queue c own peer version t law =
    let layout = link_layout own peer version in
    subst (λ w. queued w (acts layout t) ≤ w.queue) (windows_is own peer version)
    (c.faithful_links.ensures.queue layout t (has_room own peer version) law)

pub returns-clause-reach : goal.returns-clause-reach
returns-clause-reach c own peer version t law =
    let layout = link_layout own peer version in
    subst (λ w. reach w (acts layout t) ≤ w.span) (windows_is own peer version)
    (c.faithful_links.ensures.reach layout t (has_room own peer version) law)

pub returns-clause-pulled : goal.returns-clause-pulled
returns-clause-pulled c own peer version t law = c.faithful_links.ensures.pulled (link_layout own peer version) t law

pub returns-clause-window : goal.returns-clause-window
returns-clause-window c own peer version t p law less =
    let layout = link_layout own peer version in
    subst (λ w. p < lowest_or_next w (acts layout t) + w.window) (windows_is own peer version)
    (c.faithful_links.ensures.window layout t (has_room own peer version) law p less)

pub returns-clause-expiries : goal.returns-clause-expiries
returns-clause-expiries c own peer version t =
    let layout = link_layout own peer version in
    omega (arith, expiries_is own peer version, c.links_close.ensures.expiries layout t)

pub returns-clause-silent : goal.returns-clause-silent
returns-clause-silent c own peer version t now is =
    c.links_close.ensures.silent (link_layout own peer version) t now is
