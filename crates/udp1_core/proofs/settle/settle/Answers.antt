use Rattle.std.proofs.Common.{arith}
use Rattle.ack_vector.specs.Elements.{flags_of}
use Rattle.carrier.specs.Layout.{Upto, tells}
use Rattle.udp1_core.proofs.Tellings.{settling_start, settling_step, settling_end}
use Rattle.udp1_core.proofs.settle.settle.Goals as goal

pub loop-part-init : goal.loop-part-init
loop-part-init c = record {
  queued = omega arith;
  settling = λ first acts h. settling_start _ first _ _ acts h (c.floor_part-part.ensures first acts h);
}

pub loop-part-preserved : goal.loop-part-preserved
loop-part-preserved c =
    let i = c.loop-part.invariant in
    let e = c.settle_part-settled.ensures in
    record {
      queued = omega (arith, e.queued, i.queued);
      settling = λ first acts h.
          let end = c.last_cut-part-end.ensures.history first acts h in
          settling_step _ _ first _ _ _ (tells (Upto c.args.named (flags_of c.args.elements.now))) acts (i.settling first acts h) (omega (arith, c.loop-part-test.true, end)) (e.sends first) (e.settled first);
    }

pub returns-clause-settles : goal.returns-clause-settles
returns-clause-settles c wait delay own peer acts h =
    let i = c.loop-part.invariant in
    let end = c.last_cut-part-end.ensures.history own acts h in
    let settling = i.settling own acts h in
    (settling_end _ own c.loop-part.part _ _ acts settling (omega (arith, c.loop-part-test.false, end, settling.within))).settled_is

pub returns-clause-sends : goal.returns-clause-sends
returns-clause-sends c wait delay own peer acts h =
    let i = c.loop-part.invariant in
    let end = c.last_cut-part-end.ensures.history own acts h in
    let settling = i.settling own acts h in
    (settling_end _ own c.loop-part.part _ _ acts settling (omega (arith, c.loop-part-test.false, end, settling.within))).sends
