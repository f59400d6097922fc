use Rattle.std.proofs.Common.{◌≡◌, ◌==◌, Bool, true, false, take, refl, sym, ap, ◌∙◌, cond}
use Rattle.mt_base.specs.Trace.{Trace, ◌▷◌}
use Rattle.mt_outside.specs.Wires.{came, datagram_of}
use Rattle.mt_session.specs.Steps.{Step, Comes, Waits, entries}
use Rattle.mt_session.specs.Turns.{Waited, Sending, stage, came_count}
use Rattle.mt_session.proofs.Stepping.{on_comes, on_waits, same_on}
use Rattle.mt_session.proofs.datagrams.take_one.Goals as goal

pub returns-in-Ok-Some-clause-steps : goal.returns-in-Ok-Some-clause-steps
returns-in-Ok-Some-clause-steps g c = λ first seen s h at one.
    let d = take c.in-Ok-Some.count c.take.new.out in
    let tells = c.in-Ok-Some.ensures.tells ∙ ap (λ o. came (datagram_of o c.take.new.out) (g.W.Wire.told c.args.wire.now)) c.in-Ok-Some.field-0-is in
    let read = c.wire_in.ensures.adds first.role (entries s) h.end in
    (s ▷ Comes d c.wire_in.result read.0, on_comes (record seen { wire = g.W.Wire.told c.args.wire.now; tally = c.args.tally.now; now = c.args.now }) first s d c.wire_in.result read.0 _ _ h at tells c.note_taken.ensures read.1, (refl, refl, refl, record { heard = refl; turn = refl }))

waited : (s : Trace Step) (is_first : Bool) → is_first ≡ (came_count s == 0) → is_first ≡ true → stage (s ▷ Waits) ≡ Waited
waited s is_first e h = ap (λ b. cond b Waited Sending) (sym e ∙ h)

went_on : (s : Trace Step) (is_first : Bool) → is_first ≡ (came_count s == 0) → is_first ≡ false → stage (s ▷ Waits) ≡ Sending
went_on s is_first e h = ap (λ b. cond b Waited Sending) (sym e ∙ h)

pub returns-then-is_first-clause-steps : goal.returns-then-is_first-clause-steps
returns-then-is_first-clause-steps g c = λ first seen s h at one.
    let tells = c.in-Ok-None.ensures.tells ∙ ap (λ o. came (datagram_of o c.take.new.out) (g.W.Wire.told c.args.wire.now)) c.in-Ok-None.field-0-is in
    let waits = on_waits (record seen { wire = g.W.Wire.told c.args.wire.now; tally = c.args.tally.now; now = c.args.now }) first s _ h at tells in
    let pulls = c.pull.ensures.steps first (record seen { wire = g.W.Wire.told c.take.new.self; tally = c.args.tally.now }) (s ▷ Waits) waits (waited s _ one c.if-is_first.true) in
    (pulls.0, pulls.1, (pulls.2.0, pulls.2.1, same_on (record { heard = refl; turn = refl }) pulls.2.2))

pub returns-else-is_first-clause-steps : goal.returns-else-is_first-clause-steps
returns-else-is_first-clause-steps g c = λ first seen s h at one.
    let tells = c.in-Ok-None.ensures.tells ∙ ap (λ o. came (datagram_of o c.take.new.out) (g.W.Wire.told c.args.wire.now)) c.in-Ok-None.field-0-is in
    let waits = on_waits (record seen { wire = g.W.Wire.told c.args.wire.now; tally = c.args.tally.now; now = c.args.now }) first s _ h at tells in
    (s ▷ Waits, waits, (went_on s _ one c.if-is_first.false, refl, record { heard = refl; turn = refl }))
