-- A name without a fault is a name.
use Rattle.std.proofs.Common.{◌≡◌, ℕ, ◌+◌, ◌≤◌, Bool, true, false, eqb, ltb, cond, ◌||◌, List, [], ◌∷◌, length, take, Option, None, Some, refl, arith}
use Rattle.std.specs.Prelude.{All}
use Rattle.std.specs.List.{position_from}
use Rattle.std.proofs.lemmas.Bool.{ltb-false, eqb-false}
use Rattle.std.proofs.lemmas.List.{take_all}
use Rattle.std.proofs.lemmas.List.Elements.{All-nil, All-cons}
use Rattle.dvc_pdus.specs.Value.{IsName, IsNameByte}
use Rattle.mt_world.specs.Play.{◌or_else◌, when, is_wrong, name_fault}

none_first : {A : Type 0} (x y : Option A) → x or_else y ≡ None → x ≡ None
none_first None y h = refl
none_first (Some a) y h = cc

none_second : {A : Type 0} (x y : Option A) → x or_else y ≡ None → y ≡ None
none_second None y h = h
none_second (Some a) y h = cc

pub no_cause : {A : Type 0} (x y : Option A) → x or_else y ≡ None → (x ≡ None) × (y ≡ None)
no_cause x y h = (none_first x y h, none_second x y h)

pub when_not : {A : Type 0} (b : Bool) (a : A) → when b a ≡ None → b ≡ false
when_not true a h = cc
when_not false a h = refl

not_some : (b : Bool) (i : ℕ) (rest : Option ℕ) → cond b (Some i) rest ≡ None → (b ≡ false) × (rest ≡ None)
not_some true i rest h = cc
not_some false i rest h = (refl, h)

neither : (x y : Bool) → x || y ≡ false → (x ≡ false) × (y ≡ false)
neither true y h = cc
neither false y h = (refl, h)

right_byte : (b : ℕ) → is_wrong b ≡ false → IsNameByte b
right_byte b h = let n = neither (ltb b 0x20) (ltb 0x7E b) h in (ltb-false b 0x20 n.0, ltb-false 0x7E b n.1)

all_right : (name : List ℕ) (i : ℕ) → position_from is_wrong i name ≡ None → All IsNameByte name
all_right [] i h = All-nil IsNameByte
all_right (b ∷ bs) i h =
    let n = not_some (is_wrong b) i (position_from is_wrong (i + 1) bs) h in
    All-cons IsNameByte b bs (right_byte b n.0) (all_right bs (i + 1) n.1)

pub name_from_no_fault : (name : List ℕ) → name_fault name ≡ None → IsName name
name_from_no_fault name h =
    let outer = no_cause (when (eqb (length name) 0) 0 or_else position_from is_wrong 0 (take 255 name)) (when (ltb 255 (length name)) 255) h in
    let inner = no_cause (when (eqb (length name) 0) 0) (position_from is_wrong 0 (take 255 name)) outer.0 in
    let some = eqb-false (length name) 0 (when_not (eqb (length name) 0) 0 inner.0) in
    let short : length name ≤ 255 = ltb-false 255 (length name) (when_not (ltb 255 (length name)) 255 outer.1) in
    let whole : take 255 name ≡ name = take_all 255 name short in
    let right : position_from is_wrong 0 name ≡ None = rw whole at inner.1 in
    (omega (arith, some), short, all_right name 0 right)
