use Rattle.std.proofs.Common.{◌++◌, ◌∷◌, [], not, ◌&&◌, sym, ap, ◌∙◌, subst}
use Rattle.mt_session.specs.Answers.{is_end}
use Rattle.mt_session.specs.Buffer.{held}
use Rattle.mt_session.specs.Counting.{Faulty, Goes}
use Rattle.mt_session.specs.Leading.{Turns, is_ending}
use Rattle.mt_session.specs.Live.{seen, Seen}
use Rattle.mt_session.specs.declared.tally.Tally.{Tally}
use Rattle.mt_session.proofs.Tallies.{goes_outcome, faulty_outcome, turns_outcome, grew_on}
use Rattle.mt_session.proofs.session.Session.turn.Goals as goal

pub returns-in_default-clause-steps : goal.returns-in_default-clause-steps
returns-in_default-clause-steps g c = λ first moments moment s h over.
    let s0 = seen c.args.self.now (g.S.Stream.told c.args.main.now) (g.W.Wire.told c.args.wire.now) moments moment in
    let heard = c.in_default.ensures.steps first s0 s c.args.now h over in
    (heard.0, heard.1, (heard.2, tt))

pub returns-in_default-take_all-clause-steps : goal.returns-in_default-take_all-clause-steps
returns-in_default-take_all-clause-steps g c = λ first moments moment s h over.
    let s0 = seen c.args.self.now (g.S.Stream.told c.args.main.now) (g.W.Wire.told c.args.wire.now) moments moment in
    let heard = c.in-Ok.ensures.steps first s0 s c.args.now h over in
    let s1 : Seen = record s0 { kept = held c.hear.new.input; tally = c.hear.new.tally; stream = g.S.Stream.told c.hear.new.main; moments = moments ++ c.args.now ∷ []; now = c.args.now } in
    let taken = c.in_default-take_all.ensures.steps first s1 heard.0 heard.1 heard.2.0 heard.2.1 heard.2.2 in
    (taken.0, taken.1, (taken.2.1.turn ∙ heard.2.4, tt))

pub returns-in_default-send_all-clause-steps : goal.returns-in_default-send_all-clause-steps
returns-in_default-send_all-clause-steps g c = λ first moments moment s h over.
    let s0 = seen c.args.self.now (g.S.Stream.told c.args.main.now) (g.W.Wire.told c.args.wire.now) moments moment in
    let heard = c.in-Ok.ensures.steps first s0 s c.args.now h over in
    let s1 : Seen = record s0 { kept = held c.hear.new.input; tally = c.hear.new.tally; stream = g.S.Stream.told c.hear.new.main; moments = moments ++ c.args.now ∷ []; now = c.args.now } in
    let taken = c.in-Ok-take_all.ensures.steps first s1 heard.0 heard.1 heard.2.0 heard.2.1 heard.2.2 in
    let s2 : Seen = record s1 { tally = c.take_all.new.tally; wire = g.W.Wire.told c.take_all.new.wire } in
    let sent = c.in_default-send_all.ensures.steps first s2 taken.0 taken.1 taken.2.0.0 taken.2.0.1 in
    (sent.0, sent.1, (sent.2.1.turn ∙ taken.2.1.turn ∙ heard.2.4, tt))

pub returns-in_default-deliver-clause-steps : goal.returns-in_default-deliver-clause-steps
returns-in_default-deliver-clause-steps g c = λ first moments moment s h over.
    let s0 = seen c.args.self.now (g.S.Stream.told c.args.main.now) (g.W.Wire.told c.args.wire.now) moments moment in
    let heard = c.in-Ok.ensures.steps first s0 s c.args.now h over in
    let s1 : Seen = record s0 { kept = held c.hear.new.input; tally = c.hear.new.tally; stream = g.S.Stream.told c.hear.new.main; moments = moments ++ c.args.now ∷ []; now = c.args.now } in
    let taken = c.in-Ok-take_all.ensures.steps first s1 heard.0 heard.1 heard.2.0 heard.2.1 heard.2.2 in
    let s2 : Seen = record s1 { tally = c.take_all.new.tally; wire = g.W.Wire.told c.take_all.new.wire } in
    let sent = c.in-Ok-send_all.ensures.steps first s2 taken.0 taken.1 taken.2.0.0 taken.2.0.1 in
    let s3 : Seen = record s2 { wire = g.W.Wire.told c.send_all.new.wire } in
    let done = c.in_default-deliver.ensures.steps first s3 sent.0 sent.1 sent.2.0 in
    (done.0, done.1, (done.2.1.turn ∙ sent.2.1.turn ∙ taken.2.1.turn ∙ heard.2.4, tt))

pub returns-clause-steps : goal.returns-clause-steps
returns-clause-steps g c = λ first moments moment s h over.
    let s0 = seen c.args.self.now (g.S.Stream.told c.args.main.now) (g.W.Wire.told c.args.wire.now) moments moment in
    let heard = c.in-Ok.ensures.steps first s0 s c.args.now h over in
    let s1 : Seen = record s0 { kept = held c.hear.new.input; tally = c.hear.new.tally; stream = g.S.Stream.told c.hear.new.main; moments = moments ++ c.args.now ∷ []; now = c.args.now } in
    let taken = c.in-Ok-take_all.ensures.steps first s1 heard.0 heard.1 heard.2.0 heard.2.1 heard.2.2 in
    let s2 : Seen = record s1 { tally = c.take_all.new.tally; wire = g.W.Wire.told c.take_all.new.wire } in
    let sent = c.in-Ok-send_all.ensures.steps first s2 taken.0 taken.1 taken.2.0.0 taken.2.0.1 in
    let s3 : Seen = record s2 { wire = g.W.Wire.told c.send_all.new.wire } in
    let done = c.in-Ok-deliver.ensures.steps first s3 sent.0 sent.1 sent.2.0 in
    let ending = ap is_ending (done.2.1.heard ∙ sent.2.1.heard ∙ taken.2.1.heard) ∙ heard.2.3 in
    let answer = turns_outcome (is_end c.in-Ok.got && not c.args.expects_end) c.deliver.new.tally.moves c.args.expects_end done.0 done.2.0 (ap (λ b. b && not c.args.expects_end) (sym ending)) (ap {A = Tally} (λ t. t.moves) done.1.tally_is) in
    (done.0, done.1, (done.2.1.turn ∙ sent.2.1.turn ∙ taken.2.1.turn ∙ heard.2.4, subst (λ r. Turns c.args.expects_end r done.0) (sym c.outcome.ensures) answer))

pub returns-clause-goes : goal.returns-clause-goes
returns-clause-goes g c =
    let grew = grew_on _ _ _ c.in-Ok.ensures.grew c.take_all.ensures.grew in
    subst (λ r. Goes r c.args.self.now.tally c.deliver.new.tally) (sym c.outcome.ensures) (goes_outcome _ _ c.args.self.now.tally c.deliver.new.tally (c.in-Ok-deliver.ensures.goes c.args.self.now.tally grew))

pub returns-clause-faulty : goal.returns-clause-faulty
returns-clause-faulty g c =
    subst (λ r. Faulty r (g.S.Stream.faults c.args.main.now) (g.S.Stream.faults c.deliver.new.main) (g.W.Wire.faults c.args.wire.now) (g.W.Wire.faults c.send_all.new.wire)) (sym c.outcome.ensures) (faulty_outcome _ _ (g.S.Stream.faults c.args.main.now) (g.S.Stream.faults c.deliver.new.main) (g.W.Wire.faults c.args.wire.now) (g.W.Wire.faults c.send_all.new.wire) (c.in-Ok-deliver.ensures.counts ∙ c.in-Ok.ensures.counts) (c.in-Ok-send_all.ensures.counts ∙ c.in-Ok-take_all.ensures.counts))

pub returns-in_default-deliver-clause-main_stays : goal.returns-in_default-deliver-clause-main_stays
returns-in_default-deliver-clause-main_stays g c = g.met.S.Stream.stays_on c.args.main.now c.hear.new.main c.deliver.new.main c.hear.ensures.stays c.deliver.ensures.stays

pub returns-clause-main_stays : goal.returns-clause-main_stays
returns-clause-main_stays g c = g.met.S.Stream.stays_on c.args.main.now c.hear.new.main c.deliver.new.main c.hear.ensures.stays c.deliver.ensures.stays

pub returns-in_default-send_all-clause-wire_stays : goal.returns-in_default-send_all-clause-wire_stays
returns-in_default-send_all-clause-wire_stays g c = g.met.W.Wire.stays_on c.args.wire.now c.take_all.new.wire c.send_all.new.wire c.take_all.ensures.stays c.send_all.ensures.stays

pub returns-in_default-deliver-clause-wire_stays : goal.returns-in_default-deliver-clause-wire_stays
returns-in_default-deliver-clause-wire_stays g c = g.met.W.Wire.stays_on c.args.wire.now c.take_all.new.wire c.send_all.new.wire c.take_all.ensures.stays c.send_all.ensures.stays

pub returns-clause-wire_stays : goal.returns-clause-wire_stays
returns-clause-wire_stays g c = g.met.W.Wire.stays_on c.args.wire.now c.take_all.new.wire c.send_all.new.wire c.take_all.ensures.stays c.send_all.ensures.stays
