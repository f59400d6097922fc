use Rattle.std.proofs.Common.{ap, length, ◌∙◌, sym, arith}
use Rattle.std.specs.List.{enumerate_from}
use Rattle.coded_vector.proofs.FlagLemmas.{left_behind, left_next}
use Rattle.coded_vector.proofs.flags.CodedIterator.next.Goals as goal

pub returns-in-Some-flag_at-clause-steps : goal.returns-in-Some-flag_at-clause-steps
returns-in-Some-flag_at-clause-steps c =
    let s = c.loop-byte.self in
    sym c.loop-byte.invariant
    ∙ left_next s.bytes.now c.in-Some.rest.now c.in-Some.byte.now s.taken s.offset
    c.in-Some-flag_at.received c.in-Some.ensures.cases.0 c.in-Some-flag_at.ensures.flag

pub loop-byte-preserved : goal.loop-byte-preserved
loop-byte-preserved c =
    let s = c.loop-byte.self in
    sym (ap (enumerate_from s.offset) (left_behind s.bytes.now c.in-Some.rest.now
    c.in-Some.byte.now s.taken c.in-Some.ensures.cases.0 c.in_default-flag_at.ensures.flag))
    ∙ c.loop-byte.invariant

pub returns-in-Some-flag_at-clause-goes : goal.returns-in-Some-flag_at-clause-goes
returns-in-Some-flag_at-clause-goes c =
    let s = c.loop-byte.self in
    let e = sym c.loop-byte.invariant
    ∙ left_next s.bytes.now c.in-Some.rest.now c.in-Some.byte.now s.taken s.offset
    c.in-Some-flag_at.received c.in-Some.ensures.cases.0 c.in-Some-flag_at.ensures.flag in
    let fewer = ap length e in
    record { on = λ f. (tt, tt, omega (arith, fewer)); keeps = tt; rests = λ f. tt }
