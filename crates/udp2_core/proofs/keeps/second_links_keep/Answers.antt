use Rattle.udp2_core.specs.SecondLayout.{second_layout}
use Rattle.udp2_core.proofs.SecondLinks.{has_room}
use Rattle.udp2_core.proofs.keeps.second_links_keep.Goals as goal

pub returns-clause-asks : goal.returns-clause-asks
returns-clause-asks c = has_room

pub returns-clause-shows : goal.returns-clause-shows
returns-clause-shows c t law = c.faithful_links.ensures.shows second_layout t has_room law

pub returns-clause-next : goal.returns-clause-next
returns-clause-next c t law = c.faithful_links.ensures.next second_layout t has_room law

pub returns-clause-numbers : goal.returns-clause-numbers
returns-clause-numbers c t law = c.faithful_links.ensures.numbers second_layout t has_room law

pub returns-clause-pieces : goal.returns-clause-pieces
returns-clause-pieces c t law = c.faithful_links.ensures.pieces second_layout t has_room law

pub returns-clause-told : goal.returns-clause-told
returns-clause-told c t law = c.faithful_links.ensures.told second_layout t has_room law

pub returns-clause-queue : goal.returns-clause-queue
returns-clause-queue c t law = c.faithful_links.ensures.queue second_layout t has_room law

pub returns-clause-reach : goal.returns-clause-reach
returns-clause-reach c t law = c.faithful_links.ensures.reach second_layout t has_room law

pub returns-clause-pulled : goal.returns-clause-pulled
returns-clause-pulled c t law = c.faithful_links.ensures.pulled second_layout t law

pub returns-clause-window : goal.returns-clause-window
returns-clause-window c t p law less = c.faithful_links.ensures.window second_layout t has_room law p less

pub returns-clause-expiries : goal.returns-clause-expiries
returns-clause-expiries c t = c.links_close.ensures.expiries second_layout t

pub returns-clause-silent : goal.returns-clause-silent
returns-clause-silent c t now is = c.links_close.ensures.silent second_layout t now is
