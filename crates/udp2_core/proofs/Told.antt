-- What a telling says: how it is formed, and that only numbers that were seen are told.
use Rattle.std.proofs.Common.{◌≡◌, ℕ, zero, suc, ◌+◌, ◌-◌, ◌<◌, ◌≤◌, inl, inr, Bool, true, false, leb, cond, max, List, length, reverse, replicate, slice_get, Option, None, refl, sym, ap, ◌∙◌, arith}
use Rattle.std.specs.Prelude.{if◌then◌else◌}
use Rattle.std.specs.Option.{unwrap_or}
use Rattle.std.proofs.lemmas.Bool.{cases_lt, false≢true, and_parts, le-leb, lt-leb}
use Rattle.std.proofs.lemmas.List.{length-replicate, length-reverse}
use Rattle.std.proofs.lemmas.Option.{slice_get_past}
use Rattle.mt_windows.specs.Noted.{is_noted, is_seen}
use Rattle.carrier.specs.Layout.{Telling, Upto, From, named_in, tells}
use Rattle.link_machine.specs.Flags.{flags_from}
use Rattle.link_machine.proofs.FlagLemmas.{length-flags_from}
use Rattle.udp2_core.specs.SecondLayout.{all_seen, count_of, last_of, telling_of, told_from}

-- ---- the form

-- it tells so many numbers up to one, 16 at most, or tells of at most 512 from one on
abbrev pub IsTold : Telling → Type 0
IsTold (Upto named flags) = (below : ℕ) × (below < 16) × (flags ≡ replicate (suc below) true)
IsTold (From named flags) = length flags ≤ 512

module _ (first : ℕ) where
  -- what is told up to h, where the last numbers were all seen or not
  abbrev pub told_where : List ℕ → ℕ → ℕ → Bool → Telling
  told_where seen above h all =
      if all then Upto h (replicate (max 1 (count_of first h)) true)
      else From (told_from first above h)
      (flags_from (is_seen 512 seen) (told_from first above h) (h + 1 - told_from first above h))

  -- whether they were
  abbrev pub all_where : List ℕ → ℕ → Bool
  all_where seen h = all_seen seen (h + 1 - count_of first h) (count_of first h)

  formed : (seen : List ℕ) (above h : ℕ) (all : Bool) → IsTold (told_where seen above h all)
  formed seen above h true =
      let most = max 1 (count_of first h) in
      let count : most ≡ suc (most - 1) = omega arith in
      (most - 1, omega arith, ap (λ n. replicate n true) count)
  formed seen above h false =
      omega (arith, length-flags_from (is_seen 512 seen) (told_from first above h) (h + 1 - told_from first above h))

  -- what is told has this form
  pub told_formed : (above : ℕ) (seen : List ℕ) → IsTold (telling_of first above seen)
  told_formed above seen = let h = last_of first seen in formed seen above h (all_where seen h)

  -- ---- the number that is named

  near_where : (seen : List ℕ) (above h : ℕ) (all : Bool) → h ≤ named_in (told_where seen above h all) + 512
  near_where seen above h true = omega arith
  near_where seen above h false = omega arith

  none_counted : (seen : List ℕ) (from n : ℕ) → all_seen seen from n ≡ false → 0 < n
  none_counted seen from zero is = absurd (false≢true (sym is))
  none_counted seen from (suc n) is = omega arith

  within_where : (seen : List ℕ) (above h : ℕ) (all : Bool) → above ≤ h
      → all_where seen h ≡ all → named_in (told_where seen above h all) ≤ h
  within_where seen above h true low is = omega arith
  within_where seen above h false low is =
      omega (arith, low, none_counted seen (h + 1 - count_of first h) (count_of first h) is)

  -- it is at most 512 below the last one seen
  pub named_near : (above : ℕ) (seen : List ℕ) → last_of first seen ≤ named_in (telling_of first above seen) + 512
  named_near above seen = let h = last_of first seen in near_where seen above h (all_where seen h)

  -- and not above that one, where the floor isn't
  pub named_within : (above : ℕ) (seen : List ℕ) → above ≤ last_of first seen
      → named_in (telling_of first above seen) ≤ last_of first seen
  named_within above seen low =
      let h = last_of first seen in within_where seen above h (all_where seen h) low refl

-- ---- only what was seen

-- a flag that is missing is not set
no_true : {P : Type 0} (flag : Option Bool) → flag ≡ None → unwrap_or flag false ≡ true → P
no_true flag none is = absurd (false≢true (sym (ap (λ f. unwrap_or f false) none) ∙ is))

-- a flag that is set has what is told of
had_at : (has : ℕ → Bool) (from n k : ℕ)
    → unwrap_or (slice_get (flags_from has from n) k) false ≡ true → has (from + k) ≡ true
had_at has from zero k is = no_true (slice_get (flags_from has from zero) k) refl is
had_at has from (suc n) zero is = let here : from ≡ from + 0 = omega arith in sym (ap has here) ∙ is
had_at has from (suc n) (suc k) is =
    let there : from + 1 + k ≡ from + suc k = omega arith in
    sym (ap has there) ∙ had_at has (from + 1) n k is

-- each of the numbers that were all seen
seen_at : (seen : List ℕ) (from n q : ℕ) → all_seen seen from n ≡ true → from ≤ q → q < from + n
    → is_seen 512 seen q ≡ true
seen_at seen from zero q all low high = absurd (omega arith)
seen_at seen from (suc n) q all low high =
    let both = and_parts (is_seen 512 seen from) (all_seen seen (from + 1) n) all in
    elim (cases_lt from q) [
      | inl above ↦ seen_at seen (from + 1) n q both.1 (omega arith) (omega arith)
      | inr here ↦ (let same : from ≡ q = omega arith in sym (ap (is_seen 512 seen) same) ∙ both.0)
    ]

-- a number that is told up to one is among as many as there are flags
upto_among : (h m n : ℕ) → tells (Upto h (replicate m true)) n ≡ true → n ≤ h × h < n + m
upto_among h m n is = elim (cases_lt h n) [
  | inl above ↦
      no_true (if leb n h then slice_get (reverse (replicate m true)) (h - n) else None)
      (ap (λ b. cond b (slice_get (reverse (replicate m true)) (h - n)) None) (lt-leb n h above)) is
  | inr within ↦ elim (cases_lt h (n + m)) [
    | inl less ↦ (within, less)
    | inr far ↦
        let long : length (reverse (replicate m true)) ≤ h - n =
        omega (arith, length-reverse (replicate m true), length-replicate m true) in
        no_true (if leb n h then slice_get (reverse (replicate m true)) (h - n) else None)
        (ap (λ b. cond b (slice_get (reverse (replicate m true)) (h - n)) None) (le-leb n h within)
        ∙ slice_get_past (reverse (replicate m true)) (h - n) long) is
  ]
]

-- a number that is told from one on has what is told of
from_had : (has : ℕ → Bool) (from m n : ℕ) → tells (From from (flags_from has from m)) n ≡ true
    → has n ≡ true
from_had has from m n is = elim (cases_lt n from) [
  | inl below ↦
      no_true (if leb from n then slice_get (flags_from has from m) (n - from) else None)
      (ap (λ b. cond b (slice_get (flags_from has from m) (n - from)) None) (lt-leb from n below)) is
  | inr within ↦
      let there : from + (n - from) ≡ n = omega arith in
      let on = ap (λ b. unwrap_or (cond b (slice_get (flags_from has from m) (n - from)) None) false)
      (le-leb from n within) in
      sym (ap has there) ∙ had_at has from m (n - from) (sym on ∙ is)
]

module _ (first : ℕ) where
  told_seen : (seen : List ℕ) (above h n : ℕ) (all : Bool) → 1 ≤ first → first ≤ n
      → all_where first seen h ≡ all
      → tells (told_where first seen above h all) n ≡ true → is_seen 512 seen n ≡ true
  told_seen seen above h n true some from all is =
      let count = count_of first h in
      let among = upto_among h (max 1 count) n is in
      seen_at seen (h + 1 - count) count n all (omega (arith, among, some, from)) (omega (arith, among, some, from))
  told_seen seen above h n false some from all is =
      from_had (is_seen 512 seen) (told_from first above h) (h + 1 - told_from first above h) n is

  -- only numbers that were seen are told
  pub only_seen : (above : ℕ) (seen : List ℕ) (n : ℕ) → 1 ≤ first → first ≤ n
      → tells (telling_of first above seen) n ≡ true → is_noted n seen ≡ true
  only_seen above seen n some from is =
      let h = last_of first seen in
      (and_parts (is_noted n seen) _ (told_seen seen above h n (all_where first seen h) some from refl is)).0
