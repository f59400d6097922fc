use Rattle.std.proofs.Common.{List, Bool, ℕ, ◌≡◌, ◌+◌, ◌∷◌, [], length, drop, Some, None, slice_get, sym, ap, ◌∙◌, arith}
use Rattle.mt_base.proofs.Stretches.{first_of}
use Rattle.coded_vector.specs.Written.{next_byte, next_count, coded_of}
use Rattle.coded_vector.proofs.PieceLemmas.{coded_of-cons, coded_of-nil, holds, holds_length}
use Rattle.coded_vector.proofs.writer.count.Goals as goal

-- one byte and those of the flags behind it
counted : (rest behind : List Bool) (f : Bool) (n : ℕ) → Some f ≡ slice_get rest 0
    → n ≡ next_count f rest → behind ≡ drop n rest
    → length (coded_of rest) ≡ 1 + length (coded_of behind)
counted rest behind f n first long back =
    let cons = first_of f rest first in
    ap (λ x. length (coded_of x)) cons.1 ∙ ap length (coded_of-cons f cons.0)
    ∙ ap (λ x. length (next_byte f x ∷ coded_of (drop (next_count f x) x))) (sym cons.1)
    ∙ ap (λ k. length (0 ∷ coded_of (drop k rest))) (sym long)
    ∙ ap (λ x. length (0 ∷ coded_of x)) (sym back) ∙ omega arith

none_left : (rest : List Bool) → None ≡ slice_get rest 0 → length (coded_of rest) ≡ 0
none_left [] none = ap length coded_of-nil
none_left (f ∷ rest) none = absurd (cc)

-- one byte more is counted
next_one : (c : goal.After-rest-1) → length (coded_of c.loop-flag.rest.now)
    ≡ 1 + length (coded_of c.split_at.result.1.now)
next_one c =
    counted c.loop-flag.rest.now c.split_at.result.1.now c.in-Some.flag.now c.next_count.result
    c.in-Some.ensures.value c.next_count.ensures.exact c.split_at.ensures.back

pub overflow_add-bytes : goal.overflow_add-bytes
overflow_add-bytes c =
    let flags = c.args.flags.now in
    let few = (holds_length (coded_of flags) flags (holds flags)).0 in
    omega (arith, few, next_one c, c.loop-flag.invariant)

pub loop-flag-preserved : goal.loop-flag-preserved
loop-flag-preserved c = omega (arith, next_one c, c.loop-flag.invariant)

pub returns : goal.returns
returns c =
    omega (arith, c.loop-flag.invariant, none_left c.loop-flag.rest.now c.in_default.ensures.value)
