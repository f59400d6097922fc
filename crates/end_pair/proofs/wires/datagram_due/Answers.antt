use Rattle.std.proofs.Common.{arith, rules}
use Rattle.end_pair.proofs.InTime.{few_given, few_numbered}
use Rattle.end_pair.proofs.wires.datagram_due.Goals as goal

pub returns-in_default-clause-refused : goal.returns-in_default-clause-refused
returns-in_default-clause-refused c = (c.given-given.ensures, omega (arith, c.given-given.ensures, few_given c.args.side c.args.number c.args.traffic.now (search rules)))

pub returns-in-None-clause-refused : goal.returns-in-None-clause-refused
returns-in-None-clause-refused c = (c.given-given.ensures, omega (arith, c.given-given.ensures, few_numbered c.args.side c.args.number c.args.traffic.now (search rules)))
