use Rattle.std.proofs.Common.{◌∷◌, ◌++◌, [], is_some, ap, subst}
use Rattle.std.specs.Prelude.{if◌then◌else◌}
use Rattle.carrier.specs.Law.{answer_dummy}
use Rattle.carrier.specs.Receiving.{seen_with}
use Rattle.link_machine.specs.ReceiverView.{Hears}
use Rattle.link_machine.proofs.Receiving.{dummy_stands}
use Rattle.link_machine.proofs.receiver.Receiver.pass.Goals as goal

pub returns-in_default-clause-answer : goal.returns-in_default-clause-answer
returns-in_default-clause-answer g c wait own got n floor owed h = ap answer_dummy (c.in_default.ensures.read wait own got n floor owed h)

pub returns-in_default-clause-stands : goal.returns-in_default-clause-stands
returns-in_default-clause-stands g c wait own got n floor owed h =
    subst (λ q. Hears c.args.self.now (record { parts = got.parts; seen = seen_with got.seen q }) n floor (if is_some q then owed ++ c.args.at ∷ [] else owed))
    (c.in_default.ensures.read wait own got n floor owed h) h

pub returns-clause-answer : goal.returns-clause-answer
returns-clause-answer g c wait own got n floor owed h = ap answer_dummy (c.in-Some.ensures.read wait own got n floor owed h)

pub returns-clause-stands : goal.returns-clause-stands
returns-clause-stands g c wait own got n floor owed h =
    dummy_stands g.L.WireLayout.wire wait c.args.self.now.config.delay own c.args.self.now.config.peer c.note.new.self got n c.args.transmission c.in-Some.transmission floor c.args.at owed
    (c.in-Some.ensures.read wait own got n floor owed h)
    (c.note.ensures.stands got n floor owed h)
