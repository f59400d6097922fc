-- The states of a vector's elements, as a test.
use Rattle.std.proofs.Common.{◌≡◌, ℕ, ◌/◌, ◌<◌, inl, inr, Bool, true, false, not, eqb, List, length, take, get_or, Some, None, ap}
use Rattle.std.specs.List.{All, position_from}
use Rattle.std.proofs.lemmas.Bool.{not-false, eq-eqb, ne_eqb, eqb-true, or_left, or_right, or_from, or_cases}
use Rattle.ack_vector.specs.Elements.{IsGood}
use Rattle.mt_base.proofs.Firsts.{NonePasses, none_at, found_at}
use Rattle.udp1_packets.specs.Reading.{is_state}

-- the test that the first wrong element passes
abbrev pub is_wrong : ℕ → Bool
is_wrong e = not (is_state e)

pub good_passes_not : (e : ℕ) → IsGood e → is_wrong e ≡ false
good_passes_not e (inl zero) = ap not (or_left (eqb (e / 64) 0) (eqb (e / 64) 3) (eq-eqb (e / 64) 0 zero))
good_passes_not e (inr three) = ap not (or_right (eqb (e / 64) 0) (eqb (e / 64) 3) (eq-eqb (e / 64) 3 three))

pub bad_passes : (e : ℕ) → (IsGood e → ⊥) → is_wrong e ≡ true
bad_passes e bad = ap not (or_from (eqb (e / 64) 0) (eqb (e / 64) 3) (ne_eqb (e / 64) 0 (λ z. bad (inl z))) (ne_eqb (e / 64) 3 (λ t. bad (inr t))))

good_from : (e : ℕ) → is_wrong e ≡ false → IsGood e
good_from e off = elim (or_cases (eqb (e / 64) 0) (eqb (e / 64) 3) (not-false (is_state e) off)) [
  | inl z ↦ inl (eqb-true (e / 64) 0 z)
  | inr t ↦ inr (eqb-true (e / 64) 3 t)
]

pub all_good : (es : List ℕ) → All IsGood es → NonePasses is_wrong es
all_good es good = λ k d h. good_passes_not (get_or es k d) (good k d h)

pub none_wrong : (es : List ℕ) → NonePasses is_wrong es → All IsGood es
none_wrong es off = λ k d h. good_from (get_or es k d) (off k d h)

-- no element is wrong
pub no_bad_state : (es : List ℕ) → All IsGood es → position_from is_wrong 0 es ≡ None
no_bad_state es good = none_at is_wrong es 0 (all_good es good)

-- the first wrong element stands at k
pub bad_state_at : (es : List ℕ) (k : ℕ) → k < length es → (IsGood (get_or es k 0) → ⊥) → All IsGood (take k es) → position_from is_wrong 0 es ≡ Some k
bad_state_at es k within bad good = found_at is_wrong es k within (all_good (take k es) good) (bad_passes (get_or es k 0) bad)

-- an element that passes is none
pub bad_from : (e : ℕ) → is_wrong e ≡ true → IsGood e → ⊥
bad_from e on good = Rattle.std.proofs.lemmas.Bool.both_ways (is_wrong e) (good_passes_not e good) on
