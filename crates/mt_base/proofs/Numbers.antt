-- Numbers as bytes: that the bytes of the number that bytes spell are these bytes, in either order.
use Rattle.std.proofs.Common.{◌≡◌, ℕ, zero, suc, ◌+◌, ◌*◌, ◌/◌, ◌%◌, ◌^◌, ◌<◌, ◌≤◌, List, [], ◌∷◌, length, take, replicate, slice_index, inl, inr, refl, sym, ap, ◌∙◌, arith}
use Rattle.std.proofs.Math.Nat.{mod-eq_of_lt, mul-add-mod_self_right, mul-add-div_right, div-div-eq-div-mul, mul_assoc, pow-succ', div-one, one-le-pow}
use Rattle.std.proofs.lemmas.Nat.{div-mul-add, mod-mul-add}
use Rattle.std.proofs.lemmas.List.{get_or_past}
use Rattle.std.proofs.lemmas.List.Elements.{All-head, All-replicate, All-tail}
use Rattle.std.proofs.lemmas.Bool.{cases_lt}
use Rattle.std.specs.List.{All}
use Rattle.std.specs.Int.{byte_at, bytes_high_first, bytes_low_first}
use Rattle.byteorder.specs.Endian.{big_from, little_from, big_bytes, little_bytes, big_number, little_number}
use Rattle.byteorder.specs.Numbers.{big_from-cons, little_from-cons, big_from-lt, little_from-lt}

-- each number of a list is a byte
abbrev pub IsBytes : List ℕ → Type 0
IsBytes xs = All (λ b. b < 256) xs

-- zeros are bytes
pub zero_bytes : (n : ℕ) → IsBytes (replicate n 0)
zero_bytes n = All-replicate (λ b. b < 256) n 0 (omega arith)

-- read at any place, a list of bytes gives a byte
pub byte_anywhere : (xs : List ℕ) → IsBytes xs → (k : ℕ) → slice_index xs k < 256
byte_anywhere xs good k =
    elim (cases_lt k (length xs)) [
      | inl within ↦ good k 0 within
      | inr beyond ↦ omega (arith, get_or_past xs k 0 beyond)
    ]

-- a number of n bytes is below 256 ^ n
pub little_number-lt : (n : ℕ) (xs : List ℕ) → IsBytes xs → little_number n xs < 256 ^ n
little_number-lt n xs good = little_from-lt 0 n xs (byte_anywhere xs good)

pub big_number-lt : (n : ℕ) (xs : List ℕ) → IsBytes xs → big_number n xs < 256 ^ n
big_number-lt n xs good = big_from-lt 0 n xs (byte_anywhere xs good)

-- a byte of a number, by its place
byte_at-is : (k x : ℕ) → byte_at k x ≡ x / 256 ^ k % 256
byte_at-is zero x = ap (λ (y : ℕ). y % 256) (sym (div-one x))
byte_at-is (suc k) x = refl

byte_shift : (j x : ℕ) → byte_at (suc j) x ≡ byte_at j (x / 256)
byte_shift zero x = refl
byte_shift (suc j) x =
    ap (λ (y : ℕ). y % 256) (ap (λ (p : ℕ). x / p) (pow-succ' 256 (suc j)) ∙ sym (div-div-eq-div-mul x 256 (256 ^ suc j)))

-- the bytes of x from the second on are the bytes of what is left of x above its lowest byte
low_shift : (j n x : ℕ) → bytes_low_first (suc j) n x ≡ bytes_low_first j n (x / 256)
low_shift j zero x = refl
low_shift j (suc n) x = rw (byte_shift j x, low_shift (suc j) n x) refl

-- the bytes of the number that n bytes spell are these bytes
pub little_bytes-number : (n : ℕ) (xs : List ℕ) → n ≤ length xs → IsBytes xs → little_bytes n (little_number n xs) ≡ take n xs
little_bytes-number zero xs long good = refl
little_bytes-number (suc n) [] long good = absurd (omega arith)
little_bytes-number (suc n) (x ∷ xs) long good =
    let rest = little_from 0 n xs in
    let head : x < 256 = All-head (λ b. b < 256) x xs good in
    let number : little_number (suc n) (x ∷ xs) ≡ rest * 256 + x = omega (arith, little_from-cons 0 n x xs) in
    let first : (rest * 256 + x) % 256 ≡ x = mod-mul-add rest 256 x head in
    let others : (rest * 256 + x) / 256 ≡ rest = div-mul-add rest 256 x head in
    let tail = little_bytes-number n xs (omega arith) (All-tail (λ b. b < 256) x xs good) in
    rw (number, low_shift 0 n (rest * 256 + x), first, others, tail) refl

-- what a number has above 256 ^ n does not show in its lowest n bytes
high_low : (n a x : ℕ) → bytes_high_first n (a * 256 ^ n + x) ≡ bytes_high_first n x
high_low zero a x = refl
high_low (suc n) a x =
    let p : 0 < 256 ^ n = let h = one-le-pow n 256 (omega arith) in omega arith in
    let whole : a * 256 ^ suc n + x ≡ a * 256 * 256 ^ n + x = ap (λ (y : ℕ). y + x) (ap (λ (y : ℕ). a * y) (pow-succ' 256 n) ∙ sym (mul_assoc a 256 (256 ^ n))) in
    let byte : byte_at n (a * 256 * 256 ^ n + x) ≡ byte_at n x =
    byte_at-is n (a * 256 * 256 ^ n + x) ∙ ap (λ (y : ℕ). y % 256) (mul-add-div_right p (a * 256) x) ∙ mul-add-mod_self_right a 256 (x / 256 ^ n) ∙ sym (byte_at-is n x) in
    rw (whole, byte, high_low n (a * 256) x) refl

-- the bytes of the number that n bytes spell are these bytes
pub big_bytes-number : (n : ℕ) (xs : List ℕ) → n ≤ length xs → IsBytes xs → big_bytes n (big_number n xs) ≡ take n xs
big_bytes-number zero xs long good = refl
big_bytes-number (suc n) [] long good = absurd (omega arith)
big_bytes-number (suc n) (x ∷ xs) long good =
    let rest = big_from 0 n xs in
    let head : x < 256 = All-head (λ b. b < 256) x xs good in
    let others = All-tail (λ b. b < 256) x xs good in
    let small : rest < 256 ^ n = big_number-lt n xs others in
    let number : big_number (suc n) (x ∷ xs) ≡ x * 256 ^ n + rest = ap (λ (y : ℕ). x * 256 ^ n + y) (big_from-cons 0 n x xs) in
    let first : byte_at n (x * 256 ^ n + rest) ≡ x = byte_at-is n (x * 256 ^ n + rest) ∙ ap (λ (y : ℕ). y % 256) (div-mul-add x (256 ^ n) rest small) ∙ mod-eq_of_lt head in
    let tail = big_bytes-number n xs (omega arith) others in
    rw (number, first, high_low n x rest, tail) refl
