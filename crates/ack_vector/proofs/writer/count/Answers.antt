use Rattle.std.proofs.Common.{List, Bool, ℕ, ◌≡◌, ◌+◌, ◌∷◌, [], length, drop, Some, None, slice_get, sym, ap, ◌∙◌, arith}
use Rattle.mt_base.proofs.Stretches.{first_of}
use Rattle.mt_base.specs.Longest.{longest}
use Rattle.ack_vector.specs.Longest.{element, elements_of}
use Rattle.ack_vector.proofs.LongestLemmas.{elements_of-cons, elements_of-nil, holds, holds_length}
use Rattle.ack_vector.proofs.writer.count.Goals as goal

-- one element and those of the flags behind its stretch
counted : (rest behind : List Bool) (f : Bool) (n : ℕ) → Some f ≡ slice_get rest 0
    → n ≡ longest f rest → behind ≡ drop n rest
    → length (elements_of rest) ≡ 1 + length (elements_of behind)
counted rest behind f n first long back =
    let cons = first_of f rest first in
    ap (λ x. length (elements_of x)) cons.1 ∙ ap length (elements_of-cons f cons.0)
    ∙ ap (λ x. length (element f (longest f x) ∷ elements_of (drop (longest f x) x))) (sym cons.1)
    ∙ ap (λ k. length (0 ∷ elements_of (drop k rest))) (sym long)
    ∙ ap (λ x. length (0 ∷ elements_of x)) (sym back) ∙ omega arith

none_left : (rest : List Bool) → None ≡ slice_get rest 0 → length (elements_of rest) ≡ 0
none_left [] none = ap length elements_of-nil
none_left (f ∷ rest) none = absurd (cc)

-- one element more is counted
next_one : (c : goal.After-rest-1) → length (elements_of c.loop-flag.rest.now)
    ≡ 1 + length (elements_of c.split_at.result.1.now)
next_one c =
    counted c.loop-flag.rest.now c.split_at.result.1.now c.in-Some.flag.now c.stretch.result
    c.in-Some.ensures.value c.stretch.ensures.exact
    (c.split_at.ensures.back ∙ ap (λ n. drop n c.loop-flag.rest.now) c.from.ensures)

pub overflow_add-elements : goal.overflow_add-elements
overflow_add-elements c =
    let flags = c.args.flags.now in
    let few = holds_length (elements_of flags) flags (holds flags) in
    omega (arith, few, next_one c, c.loop-flag.invariant)

pub loop-flag-preserved : goal.loop-flag-preserved
loop-flag-preserved c = omega (arith, next_one c, c.loop-flag.invariant)

pub returns : goal.returns
returns c =
    omega (arith, c.loop-flag.invariant, none_left c.loop-flag.rest.now c.in_default.ensures.value)
