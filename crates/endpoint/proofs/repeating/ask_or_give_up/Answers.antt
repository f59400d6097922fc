use Rattle.endpoint.proofs.Repeated.{gives_up}
use Rattle.endpoint.proofs.repeating.ask_or_give_up.Goals as goal

pub returns-then-is_last-clause-posted : goal.returns-then-is_last-clause-posted
returns-then-is_last-clause-posted g c role p gone i ready = gives_up _ role p gone c.fall_silent.new.session c.args.link.now c.args.postings.now c.args.is_full c.is_last.result c.if-is_last.true c.is_last.ensures (c.fall_silent.ensures role p gone i)
