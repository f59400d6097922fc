-- Fields at a place: read where they are there, and wanted where they are not.
use Rattle.std.proofs.Common.{◌≡◌, ℕ, ◌+◌, ◌^◌, ◌<◌, ◌≤◌, Bool, true, false, cond, List, [], ◌∷◌, ◌++◌, length, take, drop, slice_index, Result, Ok, Err, refl, sym, ap, ◌∙◌, arith, append-nil, length-append}
use Rattle.std.proofs.lemmas.Bool.{lt-ltb, le-ltb}
use Rattle.std.proofs.lemmas.List.{take_at, drop_at}
use Rattle.byteorder.specs.Endian.{little_bytes, little_number}
use Rattle.byteorder.specs.Numbers.{little_number-reads_back}
use Rattle.tunnel_pdus.specs.declared.stop.Stop.{Stop}
use Rattle.tunnel_pdus.specs.declared.stop.Stop.TheVariants as stop
use Rattle.mt_base.specs.Parts.{◌>>=◌}
use Rattle.tunnel_pdus.specs.Reading.{window, byte, number}

pub window_of : (front field rest bytes : List ℕ) (at n : ℕ) → bytes ≡ front ++ (field ++ rest) → length front ≡ at → length field ≡ n → window at n bytes ≡ Ok field
window_of front field rest bytes at n is place long =
    let enough : at + n ≤ length bytes = omega (arith, ap length is, length-append front (field ++ rest), length-append field rest) in
    let value : take n (drop at bytes) ≡ field = ap (take n) (ap (drop at) is ∙ drop_at front (field ++ rest) at place) ∙ take_at field rest n long in
    ap (λ b. cond b (Err (stop.More (at + n))) (Ok (take n (drop at bytes)))) (le-ltb (length bytes) (at + n) enough) ∙ ap (λ xs. Ok xs) value

pub window_cut : (bytes : List ℕ) (at n : ℕ) → length bytes < at + n → window at n bytes ≡ Err (stop.More (at + n))
window_cut bytes at n few = ap (λ b. cond b (Err (stop.More (at + n))) (Ok (take n (drop at bytes)))) (lt-ltb (length bytes) (at + n) few)

pub byte_of : (front : List ℕ) (x : ℕ) (rest bytes : List ℕ) (at : ℕ) → bytes ≡ front ++ (x ∷ rest) → length front ≡ at → byte at bytes ≡ Ok x
byte_of front x rest bytes at is place = ap (λ r. r >>= λ field. Ok (slice_index field 0)) (window_of front (x ∷ []) rest bytes at 1 is place refl)

pub byte_cut : (bytes : List ℕ) (at : ℕ) → length bytes < at + 1 → byte at bytes ≡ Err (stop.More (at + 1))
byte_cut bytes at few = ap (λ r. r >>= λ field. Ok (slice_index field 0)) (window_cut bytes at 1 few)

pub number_of : (front : List ℕ) (n : ℕ) (rest bytes : List ℕ) (at : ℕ) → n < 2 ^ 16 → bytes ≡ front ++ (little_bytes 2 n ++ rest) → length front ≡ at → number at bytes ≡ Ok n
number_of front n rest bytes at small is place =
    ap (λ r. r >>= λ field. Ok (little_number 2 field)) (window_of front (little_bytes 2 n) rest bytes at 2 is place refl)
    ∙ ap (λ x. Ok x) (ap (little_number 2) (sym (append-nil (little_bytes 2 n))) ∙ little_number-reads_back 2 n [] small)

pub number_cut : (bytes : List ℕ) (at : ℕ) → length bytes < at + 2 → number at bytes ≡ Err (stop.More (at + 2))
number_cut bytes at few = ap (λ r. r >>= λ field. Ok (little_number 2 field)) (window_cut bytes at 2 few)

-- where a chain ended well, its first read did
pub bind_ok : {A B : Type 0} (r : Result A Stop) (next : A → Result B Stop) (y : B) → (r >>= next) ≡ Ok y → (x : A) × (r ≡ Ok x) × (next x ≡ Ok y)
bind_ok (Ok x) next y e = (x, refl, e)
bind_ok (Err d) next y e = cc

pub guard_ok : {A : Type 0} (b : Bool) (e : Stop) (r : Result A Stop) (y : A) → cond b (Err e) r ≡ Ok y → (b ≡ false) × (r ≡ Ok y)
guard_ok true e r y h = cc
guard_ok false e r y h = (refl, h)
