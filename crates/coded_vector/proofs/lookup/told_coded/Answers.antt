use Rattle.std.proofs.Common.{◌≡◌, ◌+◌, ◌∷◌, get_or, drop, ◌∙◌, sym, arith}
use Rattle.std.proofs.lemmas.List.{at_drop_more}
use Rattle.coded_vector.specs.CodedBytes.{flags_of}
use Rattle.coded_vector.proofs.FlagLemmas.{flag_in_first, flag_behind_first, told_flag}
use Rattle.coded_vector.proofs.lookup.told_coded.Goals as goal

pub returns-then-before-count : goal.returns-then-before-count
returns-then-before-count c =
    let bytes = c.args.bytes.now in
    let i = c.loop-byte.byte-index in
    let first : drop i bytes ≡ get_or bytes i 0 ∷ drop (i + 1) bytes =
    at_drop_more (λ x. x) bytes i 0 (omega arith) in
    told_flag (flags_of bytes) c.args.base c.args.number c.flag_at.result c.loop-byte.invariant.0
    (c.loop-byte.invariant.1 ∙ flag_in_first (drop i bytes) (drop (i + 1) bytes)
    (get_or bytes i 0) c.loop-byte.before first (omega arith) ∙ sym c.flag_at.ensures.flag)

pub loop-byte-preserved : goal.loop-byte-preserved
loop-byte-preserved c =
    let bytes = c.args.bytes.now in
    let i = c.loop-byte.byte-index in
    let first : drop i bytes ≡ get_or bytes i 0 ∷ drop (i + 1) bytes =
    at_drop_more (λ x. x) bytes i 0 (omega arith) in (
      c.loop-byte.invariant.0,
      c.loop-byte.invariant.1
          ∙ flag_behind_first (drop i bytes) (drop (i + 1) bytes) (get_or bytes i 0)
          c.loop-byte.before c.from-count.result first (omega arith) (omega arith),
    )
