use Rattle.std.proofs.Common.{◌∙◌}
use Rattle.mt_windows.specs.declared.receive.Accept.TheVariants.{Beyond}
use Rattle.link_machine.proofs.Receiving.{kept_window, part_answered, part_counted, part_ignored, part_stands, part_unanswered, used_is, with_window}
use Rattle.link_machine.proofs.receiver.Receiver.accept.Goals as goal

pub returns-in_default-clause-answer : goal.returns-in_default-clause-answer
returns-in_default-clause-answer g c wait own got n floor owed h =
    part_unanswered g.L.WireLayout.wire wait c.args.self.now.config.delay own c.args.self.now.config.peer got n c.args.part c.args.transmission c.args.bytes.now
    (c.in_default.ensures.read wait own got n floor owed h)

pub returns-in_default-clause-stands : goal.returns-in_default-clause-stands
returns-in_default-clause-stands g c wait own got n floor owed h =
    part_ignored g.L.WireLayout.wire wait c.args.self.now.config.delay own c.args.self.now.config.peer got n c.args.part c.args.transmission c.args.bytes.now c.args.self.now floor
    c.args.at owed (c.in_default.ensures.read wait own got n floor owed h) h

pub returns-in-Beyond-clause-answer : goal.returns-in-Beyond-clause-answer
returns-in-Beyond-clause-answer g c wait own got n floor owed h =
    let window = kept_window _ c.args.self.now got n floor owed c.self.view_is h in
    part_answered g.L.WireLayout.wire wait c.args.self.now.config.delay own c.args.self.now.config.peer got n c.args.part c.args.transmission c.args.bytes.now c.in-Some.numbers
    (Beyond c.in-Beyond.limit) (c.in-Some.ensures.read wait own got n floor owed h)
    (c.in-Beyond.ensures.verdict c.args.self.now.config.peer got.parts n window)

pub returns-in-Beyond-clause-stands : goal.returns-in-Beyond-clause-stands
returns-in-Beyond-clause-stands g c wait own got n floor owed h =
    let window = kept_window _ c.args.self.now got n floor owed c.self.view_is h in
    part_stands g.L.WireLayout.wire wait c.args.self.now.config.delay own c.args.self.now.config.peer got n c.args.part c.args.transmission c.args.bytes.now _ c.in-Some.numbers floor
    c.args.at owed (Beyond c.in-Beyond.limit) (c.in-Some.ensures.read wait own got n floor owed h)
    (c.in-Beyond.ensures.verdict c.args.self.now.config.peer got.parts n window)
    (with_window _ c.args.self.now c.accept.new.self got got.parts n n floor owed c.self.view_is h
    (c.in-Beyond.ensures.holds c.args.self.now.config.peer got.parts n window))

pub returns-in-New-clause-answer : goal.returns-in-New-clause-answer
returns-in-New-clause-answer g c wait own got n floor owed h =
    let window = kept_window _ c.args.self.now got n floor owed c.self.view_is h in
    used_is c.accept.result c.in-New.is
    ∙ part_answered g.L.WireLayout.wire wait c.args.self.now.config.delay own c.args.self.now.config.peer got n c.args.part c.args.transmission c.args.bytes.now c.in-Some.numbers
    c.accept.result (c.in-Some.ensures.read wait own got n floor owed h)
    (c.accept.ensures.verdict c.args.self.now.config.peer got.parts n window)

pub returns-in-New-clause-stands : goal.returns-in-New-clause-stands
returns-in-New-clause-stands g c wait own got n floor owed h =
    let window = kept_window _ c.args.self.now got n floor owed c.self.view_is h in
    let kept = with_window _ c.args.self.now c.accept.new.self got _ n n floor owed c.self.view_is h
    (c.accept.ensures.holds c.args.self.now.config.peer got.parts n window) in
    part_stands g.L.WireLayout.wire wait c.args.self.now.config.delay own c.args.self.now.config.peer got n c.args.part c.args.transmission c.args.bytes.now c.note.new.self
    c.in-Some.numbers floor c.args.at owed c.accept.result
    (c.in-Some.ensures.read wait own got n floor owed h) (c.accept.ensures.verdict c.args.self.now.config.peer got.parts n window)
    (part_counted g.L.WireLayout.wire wait c.args.self.now.config.delay own c.args.self.now.config.peer got n c.args.part c.args.transmission c.args.bytes.now c.note.new.self
    c.in-Some.numbers floor c.args.at owed c.accept.result c.in-New.is
    (c.note.ensures.stands _ n floor owed kept))
