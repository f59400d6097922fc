-- A name without a fault is a name of a channel.
use Rattle.std.proofs.Common.{◌≡◌, ◌==◌, ℕ, ◌+◌, ◌≤◌, Bool, true, false, cond, ◌||◌, nat_lt, List, [], ◌∷◌, length, take, Option, Some, None, refl, subst, arith}
use Rattle.std.specs.List.{All, position_from}
use Rattle.std.specs.Option.{option_or}
use Rattle.std.proofs.lemmas.Bool.{ltb-false}
use Rattle.std.proofs.lemmas.List.{take_all}
use Rattle.std.proofs.lemmas.List.Elements.{All-cons, All-nil}
use Rattle.dvc_pdus.specs.Value.{IsName, IsNameByte}
use Rattle.end_calls.specs.Refusing.{is_wrong, name_fault, when}

-- where there is no cause in all, there is none in either
pub none_first : {A : Type 0} (a b : Option A) → option_or a b ≡ None → a ≡ None
none_first None b h = refl
none_first (Some x) b h = cc

pub none_later : {A : Type 0} (a b : Option A) → option_or a b ≡ None → b ≡ None
none_later None b h = h
none_later (Some x) b h = cc

pub not_when : {A : Type 0} (b : Bool) (x : A) → when b x ≡ None → b ≡ false
not_when true x h = cc
not_when false x h = refl

pub or_first : (a b : Bool) → a || b ≡ false → a ≡ false
or_first true b h = absurd (let e : true ≡ false = h in cc)
or_first false b h = refl

pub or_second : (a b : Bool) → a || b ≡ false → b ≡ false
or_second true b h = absurd (let e : true ≡ false = h in cc)
or_second false b h = h

right_byte : (b : ℕ) → is_wrong b ≡ false → IsNameByte b
right_byte b h =
    let low = ltb-false b 0x20 (or_first (nat_lt b 0x20) (nat_lt 0x7E b) h) in
    let high = ltb-false 0x7E b (or_second (nat_lt b 0x20) (nat_lt 0x7E b) h) in
    (low, high)

all_right : (i : ℕ) (name : List ℕ) → position_from is_wrong i name ≡ None → All IsNameByte name
all_right i [] h = All-nil IsNameByte
all_right i (b ∷ name) h = by_test (is_wrong b) refl h (all_right (i + 1) name) where
  by_test : (w : Bool) → is_wrong b ≡ w → cond w (Some i) (position_from is_wrong (i + 1) name) ≡ None → (position_from is_wrong (i + 1) name ≡ None → All IsNameByte name) → All IsNameByte (b ∷ name)
  by_test true e k deeper = cc
  by_test false e k deeper = All-cons IsNameByte b name (right_byte b e) (deeper k)

at_least_one : (name : List ℕ) → (length name == 0) ≡ false → 1 ≤ length name
at_least_one [] h = absurd (let e : true ≡ false = h in cc)
at_least_one (b ∷ name) h = omega arith

pub named : (name : List ℕ) → name_fault name ≡ None → IsName name
named name h =
    let front = none_first (option_or (when (length name == 0) 0) (position_from is_wrong 0 (take 255 name))) (when (nat_lt 255 (length name)) 255) h in
    let some = not_when (length name == 0) 0 (none_first (when (length name == 0) 0) (position_from is_wrong 0 (take 255 name)) front) in
    let right = none_later (when (length name == 0) 0) (position_from is_wrong 0 (take 255 name)) front in
    let short = not_when (nat_lt 255 (length name)) 255 (none_later (option_or (when (length name == 0) 0) (position_from is_wrong 0 (take 255 name))) (when (nat_lt 255 (length name)) 255) h) in
    let few : length name ≤ 255 = ltb-false 255 (length name) short in
    (at_least_one name some, few, all_right 0 name (subst (λ x. position_from is_wrong 0 x ≡ None) (take_all 255 name few) right))
