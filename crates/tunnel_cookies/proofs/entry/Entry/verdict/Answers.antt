use Rattle.std.proofs.Common.{rules}
use Rattle.tunnel_cookies.specs.Entries
use Rattle.tunnel_cookies.proofs.entry.Entry.verdict.Goals as goal

pub returns-then-ne : goal.returns-then-ne
returns-then-ne c = Entries.wrong_cookie c.args.self.now (search rules)

pub returns-then-ne-2 : goal.returns-then-ne-2
returns-then-ne-2 c = Entries.wrong_kind c.args.self.now (search rules) (search rules)

pub returns-in-None : goal.returns-in-None
returns-in-None c = Entries.opened c.args.self.now (search rules) (search rules) (search rules)

pub returns-in-Some : goal.returns-in-Some
returns-in-Some c = Entries.again c.args.self.now (search rules) (search rules) (search rules)

pub returns-in-Some-2 : goal.returns-in-Some-2
returns-in-Some-2 c = Entries.spent c.args.self.now _ (search rules) (search rules) (search rules) (search rules)
