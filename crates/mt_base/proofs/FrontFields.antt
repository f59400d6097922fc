-- Fields at the front of bytes, by their text: read, cut short, and found or not.
use Rattle.std.proofs.Common.{◌≡◌, ℕ, ◌+◌, ◌^◌, ◌<◌, List, [], ◌∷◌, ◌++◌, length, take, Ok, Err, refl}
use Rattle.byteorder.specs.Endian.{big_bytes, little_bytes, big_number, little_number}
use Rattle.mt_base.specs.declared.errors.Short.{Short}
use Rattle.mt_base.specs.Reading.{Left, block, big, little}
use Rattle.mt_base.proofs.Numbers.{IsBytes}
use Rattle.mt_base.proofs.Fields.{cut_as, CutShort, block_law, byte_law, little_law, big_law, field_refuses}

-- a place and what is left from it on
abbrev pub left_at : ℕ → List ℕ → Left
left_at at bytes = record { at = at; bytes = bytes }

-- a field that stands in front is read
pub block_reads : {E : Type 0} (wrap : Short → E) (n : ℕ) (x : List ℕ) → length x ≡ n → IsBytes x → (at : ℕ) (rest : List ℕ)
    → cut_as wrap (block n (left_at at (x ++ rest))) ≡ Ok (x, left_at (at + length x) rest)
block_reads wrap n x long good at rest = (block_law wrap n).again x x ((long, good), refl) (left_at at (x ++ rest)) rest refl

pub byte_reads : {E : Type 0} (wrap : Short → E) (x : ℕ) → x < 256 → (at : ℕ) (rest : List ℕ) → cut_as wrap (big 1 (left_at at (x ∷ rest))) ≡ Ok (x, left_at (at + 1) rest)
byte_reads wrap x small at rest = (byte_law wrap).again x (x ∷ []) (small, refl) (left_at at (x ∷ rest)) rest refl

pub little_reads : {E : Type 0} (wrap : Short → E) (n x : ℕ) → x < 256 ^ n → (at : ℕ) (rest : List ℕ)
    → cut_as wrap (little n (left_at at (little_bytes n x ++ rest))) ≡ Ok (x, left_at (at + length (little_bytes n x)) rest)
little_reads wrap n x small at rest = (little_law wrap n).again x (little_bytes n x) (small, refl) (left_at at (little_bytes n x ++ rest)) rest refl

pub big_reads : {E : Type 0} (wrap : Short → E) (n x : ℕ) → x < 256 ^ n → (at : ℕ) (rest : List ℕ)
    → cut_as wrap (big n (left_at at (big_bytes n x ++ rest))) ≡ Ok (x, left_at (at + length (big_bytes n x)) rest)
big_reads wrap n x small at rest = (big_law wrap n).again x (big_bytes n x) (small, refl) (left_at at (big_bytes n x ++ rest)) rest refl

-- a field that is cut short is refused
pub block_cut : {E : Type 0} (wrap : Short → E) (n at : ℕ) (rest : List ℕ) (e : E) → CutShort wrap n at rest e → cut_as wrap (block n (left_at at rest)) ≡ Err e
block_cut wrap n at rest e fault = (field_refuses wrap n (take n)).answer (left_at at rest) e fault

pub little_cut : {E : Type 0} (wrap : Short → E) (n at : ℕ) (rest : List ℕ) (e : E) → CutShort wrap n at rest e → cut_as wrap (little n (left_at at rest)) ≡ Err e
little_cut wrap n at rest e fault = (field_refuses wrap n (little_number n)).answer (left_at at rest) e fault

pub big_cut : {E : Type 0} (wrap : Short → E) (n at : ℕ) (rest : List ℕ) (e : E) → CutShort wrap n at rest e → cut_as wrap (big n (left_at at rest)) ≡ Err e
big_cut wrap n at rest e fault = (field_refuses wrap n (big_number n)).answer (left_at at rest) e fault
