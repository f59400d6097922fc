use Rattle.std.proofs.Common.{◌∙◌, ap, sym}
use Rattle.soft_sync.specs.Exchanges.{is_given}
use Rattle.soft_sync.specs.Table.{exchanges_in}
use Rattle.soft_sync.proofs.Given.{given}
use Rattle.soft_sync.proofs.paths.Paths.answer_begin.Goals as goal

pub returns-clause-answered : goal.returns-clause-answered
returns-clause-answered c =
    let made = c.self.inside.made in
    ap (is_given c.in_ok-number.number) c.give.ensures.exchanges
    ∙ given (exchanges_in made.rows.items made.listings.entries) c.in_ok-number.number (sym c.behind.ensures ∙ c.in_ok-number.was)
