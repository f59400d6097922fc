-- A datagram with a number was given, and so many after it.
use Rattle.std.proofs.Common.{◌≡◌, ℕ, zero, suc, ◌+◌, ◌-◌, ◌<◌, ◌≤◌, ◌⊎◌, inl, inr, Bool, true, false, cond, List, [], ◌∷◌, ◌++◌, length, get_or, slice_get, option_map, Option, Some, None, refl, sym, ap, ◌∙◌, arith, length-append}
use Rattle.std.proofs.lemmas.Option.{slice_get_cases}
use Rattle.mt_base.specs.declared.kinds.Role.{Role}
use Rattle.mt_base.specs.declared.kinds.Role.TheVariants.{Server, Client}
use Rattle.mt_base.specs.Ends.{same_role}
use Rattle.link_traffic.specs.Given.{by, later, numbered, places, places_from}
use Rattle.end_wires.specs.Wires.{WasGiven}

same_is : (side given : Role) → same_role side given ≡ true → given ≡ side
same_is Server Server h = refl
same_is Server Client h = absurd (let no : false ≡ true = h in cc)
same_is Client Server h = absurd (let no : false ≡ true = h in cc)
same_is Client Client h = refl

some_same : {A : Type 0} (x y : A) → Some x ≡ Some y → x ≡ y
some_same x y h = cc

-- where it stands
record Found (place : ℕ) (side : Role) (number : ℕ) (all : List (Role × List ℕ)) (datagram : List ℕ) : Type 0 where
  before : List (Role × List ℕ)
  after : List (Role × List ℕ)
  all_are : all ≡ before ++ (side, datagram) ∷ after
  place_is : slice_get (places_from place side all) number ≡ Some (place + length before)

first_found : (place : ℕ) (side : Role) (given : Role × List ℕ) (rest : List (Role × List ℕ)) (datagram : List ℕ) → same_role side given.0 ≡ true → given.1 ≡ datagram → Found place side zero (given ∷ rest) datagram
first_found place side (from, bytes) rest datagram same is = record {
  before = [];
  after = rest;
  all_are = ap (λ r. (r, bytes) ∷ rest) (same_is side from same) ∙ ap (λ b. (side, b) ∷ rest) is;
  place_is = ap (λ b. slice_get (cond b (place ∷ places_from (place + 1) side rest) (places_from (place + 1) side rest)) zero) same ∙ ap (λ n. Some n) (omega arith);
}

behind_first : (place : ℕ) (side : Role) (number : ℕ) (given : Role × List ℕ) (rest : List (Role × List ℕ)) (datagram : List ℕ) → same_role side given.0 ≡ true → Found (place + 1) side number rest datagram → Found place side (suc number) (given ∷ rest) datagram
behind_first place side number given rest datagram same f = record {
  before = given ∷ f.before;
  after = f.after;
  all_are = ap (λ xs. given ∷ xs) f.all_are;
  place_is = ap (λ b. slice_get (cond b (place ∷ places_from (place + 1) side rest) (places_from (place + 1) side rest)) (suc number)) same ∙ f.place_is ∙ ap (λ n. Some n) (omega arith);
}

behind_other : (place : ℕ) (side : Role) (number : ℕ) (given : Role × List ℕ) (rest : List (Role × List ℕ)) (datagram : List ℕ) → same_role side given.0 ≡ false → Found (place + 1) side number rest datagram → Found place side number (given ∷ rest) datagram
behind_other place side number given rest datagram off f = record {
  before = given ∷ f.before;
  after = f.after;
  all_are = ap (λ xs. given ∷ xs) f.all_are;
  place_is = ap (λ b. slice_get (cond b (place ∷ places_from (place + 1) side rest) (places_from (place + 1) side rest)) number) off ∙ f.place_is ∙ ap (λ n. Some n) (omega arith);
}

found : (place : ℕ) (side : Role) (number : ℕ) (all : List (Role × List ℕ)) (datagram : List ℕ) → numbered side number all ≡ Some datagram → Found place side number all datagram
found place side number [] datagram h = absurd (let no : None ≡ Some datagram = h in cc)
found place side zero (given ∷ rest) datagram h = by_side (same_role side given.0) refl (λ off rest_has. found (place + 1) side zero rest datagram rest_has) where
  by_side : (b : Bool) → same_role side given.0 ≡ b → ((off : same_role side given.0 ≡ false) → numbered side zero rest ≡ Some datagram → Found (place + 1) side zero rest datagram) → Found place side zero (given ∷ rest) datagram
  by_side true e later = first_found place side given rest datagram e (some_same given.1 datagram (sym (ap (λ b. slice_get (cond b (given.1 ∷ by side rest) (by side rest)) zero) e) ∙ h))
  by_side false e later = behind_other place side zero given rest datagram e (later e (sym (ap (λ b. slice_get (cond b (given.1 ∷ by side rest) (by side rest)) zero) e) ∙ h))
found place side (suc number) (given ∷ rest) datagram h = by_side (same_role side given.0) refl (λ on rest_has. found (place + 1) side number rest datagram rest_has) (λ off rest_has. found (place + 1) side (suc number) rest datagram rest_has) where
  by_side : (b : Bool) → same_role side given.0 ≡ b → ((on : same_role side given.0 ≡ true) → numbered side number rest ≡ Some datagram → Found (place + 1) side number rest datagram) → ((off : same_role side given.0 ≡ false) → numbered side (suc number) rest ≡ Some datagram → Found (place + 1) side (suc number) rest datagram) → Found place side (suc number) (given ∷ rest) datagram
  by_side true e next later = behind_first place side number given rest datagram e (next e (sym (ap (λ b. slice_get (cond b (given.1 ∷ by side rest) (by side rest)) (suc number)) e) ∙ h))
  by_side false e next later = behind_other place side (suc number) given rest datagram e (later e (sym (ap (λ b. slice_get (cond b (given.1 ∷ by side rest) (by side rest)) (suc number)) e) ∙ h))

pub was_given : (side : Role) (number : ℕ) (all : List (Role × List ℕ)) (datagram : List ℕ) (behind : ℕ) → numbered side number all ≡ Some datagram → later side number all ≡ Some behind → WasGiven side datagram behind all
was_given side number all datagram behind h l =
    let f = found 0 side number all datagram h in
    let long = ap (λ (xs : List (Role × List ℕ)). length xs) f.all_are in
    let is : length all - (0 + length f.before + 1) ≡ behind = some_same (length all - (0 + length f.before + 1)) behind (sym (ap (λ o. option_map (λ place. length all - (place + 1)) o) f.place_is) ∙ l) in record {
      before = f.before;
      after = f.after;
      all_are = f.all_are;
      behind_is = omega (arith, is, long, length-append f.before ((side, datagram) ∷ f.after));
    }

-- ---- where it was not given

long_places : (place : ℕ) (side : Role) (all : List (Role × List ℕ)) → length (places_from place side all) ≡ length (by side all)
long_places place side [] = refl
long_places place side (given ∷ rest) = by_side (same_role side given.0) (long_places (place + 1) side rest) where
  by_side : (b : Bool) → length (places_from (place + 1) side rest) ≡ length (by side rest) → length (cond b (place ∷ places_from (place + 1) side rest) (places_from (place + 1) side rest)) ≡ length (cond b (given.1 ∷ by side rest) (by side rest))
  by_side true e = ap suc e
  by_side false e = e

none_past : {A : Type 0} (xs : List A) (i : ℕ) → slice_get xs i ≡ None → length xs ≤ i
none_past {A = A} xs i h = by_case (slice_get_cases xs i).1 where
  by_case : ((x : A) × (i < length xs) × (slice_get xs i ≡ Some x) × (get_or xs i x ≡ x)) ⊎ ((length xs ≤ i) × (slice_get xs i ≡ None)) → length xs ≤ i
  by_case (inl w) = absurd (let no : None ≡ Some w.0 = sym h ∙ w.2 in cc)
  by_case (inr w) = w.0

none_mapped : {A B : Type 0} (f : A → B) (o : Option A) → option_map f o ≡ None → o ≡ None
none_mapped f None h = refl
none_mapped f (Some x) h = absurd (let no : Some (f x) ≡ None = h in cc)

pub few_given : (side : Role) (number : ℕ) (all : List (Role × List ℕ)) → later side number all ≡ None → length (by side all) ≤ number
few_given side number all h = omega (arith, long_places 0 side all, none_past (places side all) number (none_mapped (λ (place : ℕ). length all - (place + 1)) (slice_get (places side all) number) h))

pub few_numbered : (side : Role) (number : ℕ) (all : List (Role × List ℕ)) → numbered side number all ≡ None → length (by side all) ≤ number
few_numbered side number all h = none_past (by side all) number h
