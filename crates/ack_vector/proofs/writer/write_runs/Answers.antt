use Rattle.std.proofs.Common.{◌<◌, ◌+◌, [], false, get_or, drop, length, rules, arith}
use Rattle.std.proofs.lemmas.List.{at_drop_more}
use Rattle.mt_base.specs.OutView.{spot}
use Rattle.ack_vector.specs.Longest.{elements_of}
use Rattle.ack_vector.specs.RunWriting.{kept}
use Rattle.ack_vector.proofs.WriterLemmas.{loop_on, loop_short, itself}
use Rattle.ack_vector.proofs.writer.write_runs.Goals as goal

pub loop-flag-preserved : goal.loop-flag-preserved
loop-flag-preserved c =
    let w = c.loop-flag.writer in
    let flags = c.args.flags.now in
    let i = c.loop-flag.flag-index in (
      loop_on (elements_of flags) _ w c.flag.new.self (get_or flags i false) _ (drop (i + 1) flags)
          (spot c.loop-flag.place) (spot c.flag.new.out)
          (at_drop_more (λ x. x) flags i false (omega arith)) c.loop-flag.invariant.0
          (c.in_ok-flag.ensures.stands (kept w) [] (itself w)) c.in_ok-flag.ensures.written,
      search rules,
    )

-- an element that finds no place was counted before
never : (c : goal.After-from_residual) → ⊥
never c =
    let flags = c.args.flags.now in
    let i = c.loop-flag.flag-index in
    let short : length c.args.out.now < length (elements_of flags) =
    loop_short (elements_of flags) _ c.loop-flag.writer (get_or flags i false) _
    (drop (i + 1) flags) (spot c.loop-flag.place) _
    (at_drop_more (λ x. x) flags i false (omega arith)) c.loop-flag.invariant.0
    c.in_err-flag.ensures.written in
    omega (arith, short, c.if-out-count.false, c.count.ensures)

pub returns-in_err-flag : goal.returns-in_err-flag
returns-in_err-flag c = absurd (never c)
