-- Lemmas on what is sent, and when.
use Rattle.std.proofs.Common.{◌≡◌, ℕ, ◌+◌, ◌≤◌, Bool, true, false, not, ltb, leb, cond, ◌&&◌, ◌||◌, Option, Some, None, is_some, option_map, unwrap_or, refl, ap, arith}
use Rattle.std.proofs.lemmas.Bool.Decides.{nat_tests}
use Rattle.carrier.specs.declared.limits.TheConstants.{EXPIRIES}
use Rattle.link_machine.specs.declared.choice.Choice.{Choice}
use Rattle.link_machine.specs.declared.choice.Choice.TheVariants.{Again}
use Rattle.link_machine.specs.SenderView.{again_or}

-- ---- tests
pub and_both : (a b c : Bool) → a ≡ true → b ≡ c → b ≡ a && c
and_both true b c h e = e
and_both false b c h e = absurd (cc)

pub and_middle : (a b c : Bool) → a && (b && c) ≡ true → b ≡ true
and_middle true true c h = refl
and_middle true false c h = h
and_middle false b c h = absurd (cc)

pub or_left : (a b c : Bool) → a ≡ b → a ≡ true → a ≡ b || c
or_left a true c e h = e
or_left a false c e h = absurd (cc)

pub or_right : (a b x c : Bool) → a ≡ b → a ≡ false → x ≡ c → x ≡ b || c
or_right a true x c e h is = absurd (cc)
or_right a false x c e h is = is

-- ---- the part that is sent again
pub some_mapped : (f : ℕ → ℕ) (o : Option ℕ) → is_some (option_map f o) ≡ is_some o
some_mapped f None = refl
some_mapped f (Some n) = refl

pub mapped_there : (f : ℕ → ℕ) (o : Option ℕ) (next : ℕ) → is_some o ≡ true → option_map f o ≡ Some (f (unwrap_or o next))
mapped_there f None next h = absurd (cc)
mapped_there f (Some n) next h = refl

pub there_if : (may : Bool) (f : ℕ → ℕ) (o : Option ℕ) → is_some (cond may (option_map f o) None) ≡ is_some o && may
there_if true f None = refl
there_if true f (Some n) = refl
there_if false f None = refl
there_if false f (Some n) = refl

-- what is sent first, by its cases
pub choices : (expired may : Bool) (own low : ℕ) (passed : Option ℕ) (new : Choice)
    → cond may (again_or (cond expired (Some (own + low)) (option_map (λ p. own + p) passed)) new) new
    ≡ cond (expired && may) (Again (own + low)) (cond (is_some passed && may) (Again (own + unwrap_or passed 0)) new)
choices true true own low passed new = refl
choices true false own low None new = refl
choices true false own low (Some p) new = refl
choices false true own low None new = refl
choices false true own low (Some p) new = refl
choices false false own low None new = refl
choices false false own low (Some p) new = refl

-- ---- expiries
pub still_open : (n m : ℕ) → n ≤ EXPIRIES → n ≡ m → not (ltb EXPIRIES m) ≡ true
still_open n m le e = let o : ltb EXPIRIES m ≡ false = grind (arith, nat_tests) in ap not o

-- the link is closed after this moment where it has more expiries then
pub over_after : (counted : Bool) (n old new : ℕ) → new ≡ cond counted (old + 1) old → old ≡ n → false ≡ ltb EXPIRIES old → ltb EXPIRIES new ≡ ltb EXPIRIES n || (counted && leb EXPIRIES n)
over_after true n old new e is h = grind (arith, nat_tests)
over_after false n old new e is h = grind (arith, nat_tests)

-- what is sent first, by the part that is sent again
pub first_by : (may : Bool) (part : Option ℕ) (new : Choice) → again_or (cond may part None) new ≡ cond may (again_or part new) new
first_by true part new = refl
first_by false part new = refl
