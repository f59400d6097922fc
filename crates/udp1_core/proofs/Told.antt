-- What the flags of a telling say: which numbers were received.
use Rattle.std.proofs.Common.{◌≡◌, ℕ, zero, suc, ◌+◌, ◌-◌, ◌<◌, ◌≤◌, ◌⊎◌, inl, inr, Bool, true, false, [], ◌∷◌, ◌++◌, Option, Some, None, refl, sym, ap, ◌∙◌, arith}
use Rattle.std.specs.Option.{unwrap_or}
use Rattle.std.proofs.lemmas.Bool.{cases_lt, false≢true}
use Rattle.ack_vector.specs.Numbers.{flag_told}
use Rattle.ack_vector.proofs.FlagLemmas.{flag_told_at, flag_untold}
use Rattle.mt_windows.specs.Arrived.{Parts, has_part}
use Rattle.carrier.specs.Layout.{Upto, tells}
use Rattle.link_machine.specs.Flags.{flags_from}
use Rattle.link_machine.proofs.FlagLemmas.{length-flags_from}
use Rattle.udp1_core.specs.FirstLayout.{named_of, telling_of, told_from}

-- ---- flags

-- the flags from a number on
from_here : (has : ℕ → Bool) (from q m b : ℕ) → from ≡ q → m ≡ b
    → has from ∷ flags_from has (from + 1) m
    ≡ has q ∷ flags_from has (q + 1) b
from_here has from q m b e f = rw (e, f) refl

-- the flags below a number, its own, and those above it
pub flags_split : (has : ℕ → Bool) (a n from q b : ℕ) → n ≡ a + suc b → q ≡ from + a
    → flags_from has from n ≡ flags_from has from a ++ has q ∷ flags_from has (q + 1) b
flags_split has zero zero from q b e f = absurd (omega (arith, e))
flags_split has zero (suc m) from q b e f =
    from_here has from q m b (omega (arith, f)) (omega (arith, e))
flags_split has (suc a) zero from q b e f = absurd (omega (arith, e))
flags_split has (suc a) (suc m) from q b e f =
    ap (λ t. has from ∷ t)
    (flags_split has a m (from + 1) q b (omega (arith, e)) (omega (arith, f)))

-- the flag of a number among those that are told of
pub flag_of : (has : ℕ → Bool) (from n y q : ℕ) → from + n ≡ y + 1 → from ≤ q → q ≤ y
    → flag_told (flags_from has from n) y q ≡ Some (has q)
flag_of has from n y q ends low high =
    let before = flags_from has from (q - from) in
    let after = flags_from has (q + 1) (y - q) in
    let split = flags_split has (q - from) n from q (y - q) (omega arith) (omega arith) in
    let long = length-flags_from has (q + 1) (y - q) in
    ap (λ fs. flag_told fs y q) split
    ∙ flag_told_at before after (has q) y q (omega (arith, long))

-- no flag tells of another number
pub no_flag : (has : ℕ → Bool) (from n y q : ℕ) → from + n ≡ y + 1 → (q < from) ⊎ (y < q)
    → flag_told (flags_from has from n) y q ≡ None
no_flag has from n y q ends (inl low) =
    let long = length-flags_from has from n in
    flag_untold (flags_from has from n) y q (inr (omega (arith, long)))
no_flag has from n y q ends (inr high) =
    flag_untold (flags_from has from n) y q (inl high)

-- ---- tellings

-- a flag that is missing is not set
no_true : {P : Type 0} (flag : Option Bool) → flag ≡ None → unwrap_or flag false ≡ true → P
no_true flag none is = absurd (false≢true (sym (ap (λ f. unwrap_or f false) none) ∙ is))

-- a number that is told has what is told of
pub only_had : (has : ℕ → Bool) (from n y q : ℕ) → from + n ≡ y + 1
    → tells (Upto y (flags_from has from n)) q ≡ true → has q ≡ true
only_had has from n y q ends is = elim (cases_lt q from) [
  | inl low ↦ no_true _ (no_flag has from n y q ends (inl low)) is
  | inr above ↦ elim (cases_lt y q) [
    | inl high ↦ no_true _ (no_flag has from n y q ends (inr high)) is
    | inr within ↦
        sym (ap (λ f. unwrap_or f false) (flag_of has from n y q ends above within)) ∙ is
  ]
]

-- where no number is told of, none is told
none_told : (y q : ℕ) → flag_told [] y q ≡ None
none_told y q = elim (cases_lt y q) [
  | inl high ↦ flag_untold [] y q (inl high)
  | inr within ↦ flag_untold [] y q (inr (omega arith))
]

-- the same of as many numbers as lie from one up to another
pub only_had_upto : (has : ℕ → Bool) (from y q : ℕ)
    → tells (Upto y (flags_from has from (y + 1 - from))) q ≡ true → has q ≡ true
only_had_upto has from y q is = elim (cases_lt (y + 1) from) [
  | inl beyond ↦
      let none : y + 1 - from ≡ 0 = omega arith in
      let untold = ap (λ n. flag_told (flags_from has from n) y q) none ∙ none_told y q in
      no_true _ untold is
  | inr within ↦ only_had has from (y + 1 - from) y q (omega arith) is
]

-- only parts that were accepted are told
pub only_accepted : (first floor : ℕ) (parts : Parts) (q : ℕ)
    → tells (telling_of first floor parts) q ≡ true → has_part first parts q ≡ true
only_accepted first floor parts q is =
    let y = named_of first parts in
    only_had_upto (has_part first parts) (told_from first floor y) y q is
