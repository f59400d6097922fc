use Rattle.std.proofs.Common.{◌≡◌, ◌∙◌, refl, sym, ap, subst}
use Rattle.link_machine.specs.declared.load.Load.TheVariants as code
use Rattle.link_machine.specs.ReceiverView.{Hears, Receiver, load_of}
use Rattle.link_machine.specs.Wire.{layout_of}
use Rattle.carrier.specs.Receiving.{floor_of, last_told}
use Rattle.link_machine.proofs.Receiving.{HearsLoad, floor_low, load_answered, load_stands, shown_stands}
use Rattle.link_machine.proofs.receiver.Receiver.take.Goals as goal
use Rattle.link_machine.proofs.receiver.Receiver.take.Goals.{in-Empty, in-Part, in-Dummy, in-Correction, in-Some, in-None}

pub returns-clause-answer : goal.returns-clause-answer
returns-clause-answer g c wait own got n old owed h =
    let answered = load_answered g.L.WireLayout.wire wait c.args.self.now.config.delay own c.args.self.now.config.peer got n c.args.load in
    elim c.match-load.branch [
      | in-Empty w ↦ answered code.Empty c.match-load.took _ w.in-Empty.is w.took-is refl
      | in-Part w ↦ answered (code.Part w.in-Part.part w.in-Part.transmission w.in-Part.bytes) c.match-load.took _
          w.in-Part.is w.took-is (w.accept-took.ensures.answer wait own got n old owed h)
      | in-Dummy w ↦ answered (code.Dummy w.in-Dummy.transmission)
          c.match-load.took _ w.in-Dummy.is w.took-is (w.pass-took.ensures.answer wait own got n old owed h)
      | in-Correction w ↦ answered code.Correction c.match-load.took _ w.in-Correction.is w.took-is refl
    ]

pub returns-clause-stands : goal.returns-clause-stands
returns-clause-stands g c wait own got n old owed shown load floor h =
    let stands = load_stands g.L.WireLayout.wire wait c.args.self.now.config.delay own c.args.self.now.config.peer got n c.match-load.self in
    let carried : HearsLoad g.L.WireLayout.wire wait c.args.self.now.config.delay own c.args.self.now.config.peer got n c.match-load.self old c.args.at owed (load_of c.args.load) =
    elim c.match-load.branch [
      | in-Empty w ↦ stands c.args.self.now old c.args.at owed
          c.args.load code.Empty w.self-is w.in-Empty.is h
      | in-Part w ↦ stands w.accept-took.new.self old c.args.at owed
          c.args.load (code.Part w.in-Part.part w.in-Part.transmission w.in-Part.bytes) w.self-is
          w.in-Part.is (w.accept-took.ensures.stands wait own got n old owed h)
      | in-Dummy w ↦ stands w.pass-took.new.self old c.args.at owed
          c.args.load (code.Dummy w.in-Dummy.transmission) w.self-is w.in-Dummy.is
          (w.pass-took.ensures.stands wait own got n old owed h)
      | in-Correction w ↦ stands c.args.self.now old c.args.at owed
          c.args.load code.Correction w.self-is w.in-Correction.is h
    ] in
    let peer : c.match-load.self.config.peer ≡ c.args.self.now.config.peer =
    elim c.match-load.branch [
      | in-Empty w ↦ ap (λ (r : Receiver). r.config.peer) w.self-is
      | in-Part w ↦ ap (λ (r : Receiver). r.config.peer) w.self-is ∙ ap (λ k. k.peer) w.accept-took.ensures.config
      | in-Dummy w ↦ ap (λ (r : Receiver). r.config.peer) w.self-is ∙ ap (λ k. k.peer) w.pass-took.ensures.config
      | in-Correction w ↦ ap (λ (r : Receiver). r.config.peer) w.self-is
    ] in
    let read : c.match-floor.floor ≡ floor_low g.L.WireLayout.wire wait c.args.self.now.config.delay own c.args.self.now.config.peer got n c.args.floor =
    elim c.match-floor.branch [
      | in-Some w ↦ w.floor-is ∙ w.floor-floor.ensures.read wait own got n old owed h
          ∙ ap (floor_low g.L.WireLayout.wire wait c.args.self.now.config.delay own c.args.self.now.config.peer got n) (sym w.in-Some.is)
      | in-None w ↦ w.floor-is ∙ ap (floor_low g.L.WireLayout.wire wait c.args.self.now.config.delay own c.args.self.now.config.peer got n) (sym w.in-None.is)
    ] in
    shown_stands g.L.WireLayout.wire wait c.args.self.now.config.delay own c.args.self.now.config.peer got n c.match-load.self c.raise.new.self shown (load_of c.args.load) c.args.floor
    c.match-floor.floor old c.args.at owed load floor read carried
    (λ got n old owed h. subst (λ p. Hears c.raise.new.self got n (floor_of (last_told (layout_of g.L.WireLayout.wire wait c.args.self.now.config.delay own p) got) old c.match-floor.floor) owed) peer
    (c.raise.ensures.stands wait own got n old owed h))
