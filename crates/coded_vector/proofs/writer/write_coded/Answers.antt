use Rattle.std.proofs.Common.{◌≡◌, ℕ, ◌<◌, ◌≤◌, ◌+◌, List, Bool, [], false, get_or, drop, length, rules, arith}
use Rattle.std.proofs.lemmas.List.{at_drop_more, at_drop_all}
use Rattle.mt_base.specs.OutView.{spot}
use Rattle.mt_base.proofs.Bytes.{under_way_done}
use Rattle.coded_vector.specs.Written.{coded_of}
use Rattle.coded_vector.specs.CodedWriting.{kept}
use Rattle.coded_vector.proofs.WriterLemmas.{loop_on, loop_short, itself, end_way, bytes_on, bytes_short}
use Rattle.coded_vector.proofs.writer.write_coded.Goals as goal

pub loop-flag-preserved : goal.loop-flag-preserved
loop-flag-preserved c =
    let w = c.loop-flag.writer in
    let flags = c.args.flags.now in
    let i = c.loop-flag.flag-index in (
      loop_on (coded_of flags) _ w c.flag.new.self (get_or flags i false) _ (drop (i + 1) flags)
          (spot c.loop-flag.place) (spot c.flag.new.out)
          (at_drop_more (λ x. x) flags i false (omega arith)) c.loop-flag.invariant.0
          (c.in_ok-flag.ensures.stands (kept w) [] (itself w)) c.in_ok-flag.ensures.written,
      search rules,
    )

-- a byte that finds no place was counted before
never : (c : goal.After-from_residual) → ⊥
never c =
    let flags = c.args.flags.now in
    let i = c.loop-flag.flag-index in
    let short : length c.args.out.now < length (coded_of flags) =
    loop_short (coded_of flags) _ c.loop-flag.writer (get_or flags i false) _ (drop (i + 1) flags)
    (spot c.loop-flag.place) _ (at_drop_more (λ x. x) flags i false (omega arith))
    c.loop-flag.invariant.0 c.in_err-flag.ensures.written in
    omega (arith, short, c.if-out-count.false, c.count.ensures)

pub returns-in_err-flag : goal.returns-in_err-flag
returns-in_err-flag c = absurd (never c)

-- no flag is left
none_left : (flags : List Bool) (i : ℕ) → length flags ≤ i → drop i flags ≡ []
none_left flags i h = at_drop_all (λ x. x) flags i h

pub returns-in_err-end : goal.returns-in_err-end
returns-in_err-end c =
    let flags = c.args.flags.now in
    let s = spot c.loop-flag.place in
    let way = end_way (coded_of flags) _ c.loop-flag.writer _ s
    (none_left flags c.loop-flag.flag-index (omega arith)) c.loop-flag.invariant.0 in
    let short : length c.args.out.now < length (coded_of flags) =
    bytes_short (coded_of flags) _ _ s _ way c.in_err-end.ensures.written in
    absurd (omega (arith, short, c.if-out-count.false, c.count.ensures))

pub returns-clause-ok : goal.returns-clause-ok
returns-clause-ok c =
    let flags = c.args.flags.now in
    let s = spot c.loop-flag.place in
    let way = end_way (coded_of flags) _ c.loop-flag.writer _ s
    (none_left flags c.loop-flag.flag-index (omega arith)) c.loop-flag.invariant.0 in
    let o = c.end.new.out in
    under_way_done (coded_of flags) c.args.out.now _ o.bytes.now o.at c.at.result
    (bytes_on (coded_of flags) _ _ s (spot o) way c.in_ok-end.ensures.written)
    c.at.ensures (search rules)
