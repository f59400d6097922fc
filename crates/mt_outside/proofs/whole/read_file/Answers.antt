use Rattle.std.proofs.Common.{◌≡◌, ◌<◌, length, vec_len, arith, ◌+◌, ◌∙◌}
use Rattle.std.proofs.lemmas.Grind.{common_steps}
use Rattle.mt_outside.proofs.Pieces.{names_more, reads_on, reads_end}
use Rattle.mt_outside.proofs.whole.read_file.Goals as goal

pub returns-in_default-clause-names : goal.returns-in_default-clause-names
returns-in_default-clause-names g c =
    let before = c.loop-count.invariant.4 in
    (before.0 + 1, names_more _ _ _ _ before.0 before.1 c.read.ensures.name)

pub returns-then-count-eq0-clause-content : goal.returns-then-count-eq0-clause-content
returns-then-count-eq0-clause-content g c = λ content holds.
    let read = c.loop-count.invariant.3 content holds in
    let out = c.read.new.out in
    let auto = c.read.auto.out in
    let room : 0 < length out = omega (arith, auto) in
    reads_end content _ out _ _ _ read.0 read.1 c.len-length.ensures (c.in-Ok.ensures.bytes content (rw c.loop-count.invariant.1 holds)) c.if-count-eq0.true room

pub returns-then-count-eq0-clause-names : goal.returns-then-count-eq0-clause-names
returns-then-count-eq0-clause-names g c =
    let before = c.loop-count.invariant.4 in
    (before.0 + 1, names_more _ _ _ _ before.0 before.1 c.read.ensures.name)

pub returns-then-count-limit-clause-names : goal.returns-then-count-limit-clause-names
returns-then-count-limit-clause-names g c =
    let before = c.loop-count.invariant.4 in
    (before.0 + 1, names_more _ _ _ _ before.0 before.1 c.read.ensures.name)

pub returns-in_default-extend_from_slice-clause-names : goal.returns-in_default-extend_from_slice-clause-names
returns-in_default-extend_from_slice-clause-names g c =
    let before = c.loop-count.invariant.4 in
    (before.0 + 1, names_more _ _ _ _ before.0 before.1 c.read.ensures.name)

pub loop-count-preserved : goal.loop-count-preserved
loop-count-preserved g c =
    let before = c.loop-count.invariant.4 in
    let longer : vec_len c.extend_from_slice.new.self ≡ vec_len c.loop-count.bytes + c.in-Ok.count = grind (arith, common_steps, c.in-Ok-extend_from_slice.ensures) in (
      c.in-Ok.ensures.counts ∙ c.loop-count.invariant.0,
      c.read.ensures.same ∙ c.loop-count.invariant.1,
      omega (arith, c.if-count-limit.false, c.loop-count.invariant.2, c.len-length.ensures, longer),
      (λ content holds.
          let read = c.loop-count.invariant.3 content holds in
          reads_on content _ c.extend_from_slice.new.self.items c.read.new.out _ _ _ _ read.0 read.1 c.len-length.ensures (c.in-Ok.ensures.bytes content (rw c.loop-count.invariant.1 holds)) c.in-Ok.ensures.bound (grind (arith, common_steps, c.in-Ok-extend_from_slice.ensures)) longer),
      (before.0 + 1, names_more _ _ _ _ before.0 before.1 c.read.ensures.name),
    )
