use Rattle.std.proofs.Common.{sym, ◌∙◌}
use Rattle.mt_base.specs.declared.kinds.Kind.TheVariants.{Reliable}
use Rattle.end_calls.specs.Calls.{past}
use Rattle.end_pair.proofs.Attached.{goes_on}
use Rattle.end_pair.proofs.attaching.give_reliable.Goals as goal

pub returns-clause-attached : goal.returns-clause-attached
returns-clause-attached g c role t e is = c.attach_reliable.ensures.attached role t e (goes_on role Reliable (past role t) (sym (c.waits_for_link.ensures.acts role t e) ∙ c.if-not-waits_for_link.false))
