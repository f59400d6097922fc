-- Lemmas on writing a list of bytes into a buffer, one after the other.
use Rattle.std.proofs.Common.{◌≡◌, ℕ, ◌+◌, ◌<◌, ◌≤◌, ltb, false, List, [], ◌∷◌, ◌++◌, length, take, drop, Ok, Err, sym, ap, ◌∙◌, append_assoc, append-nil, arith, length-append}
use Rattle.std.proofs.lemmas.List.{drop-drop, length-drop, take-append-drop}
use Rattle.std.proofs.lemmas.Bool.Decides.{nat_tests}
use Rattle.std.specs.Int.{byte_at}
pub use Rattle.byteorder.specs.Endian.{big_bytes}
use Rattle.mt_base.specs.declared.errors.NoRoom.{NoRoom}
use Rattle.mt_base.specs.Writing.{Spot, put}
use Rattle.mt_base.proofs.Fill.{guard_err, put_filled}

-- a spot on the way through `whole`, of which `todo` is still to be written, in a buffer that held `from`
pub record IsUnderWay (whole todo from : List ℕ) (s : Spot) : Type 0 where
  pub so_far : s.before ++ todo ≡ whole
  pub behind : s.after ≡ drop (length s.before) from
  pub fits : length s.before ≤ length from

put_refused : (f : List ℕ) (s : Spot) (e : NoRoom) → put f s ≡ Err e
    → (length s.after < length f) × (e ≡ record { at = length s.before; need = length f })
put_refused f s e h =
    let g = guard_err (ltb (length s.after) (length f))
    (record { at = length s.before; need = length f }) e
    (record { before = s.before ++ f; after = drop (length f) s.after }) h in
    (grind (arith, nat_tests, g.0), sym g.1)

-- a byte written as a number of one byte
pub big_bytes_1 : (byte : ℕ) → byte < 256 → big_bytes 1 byte ≡ byte ∷ []
big_bytes_1 byte small = let e : byte_at 0 byte ≡ byte = omega arith in ap (λ b. b ∷ []) e

-- a field more
pub under_way_on : (whole field todo from : List ℕ) (s t : Spot)
    → IsUnderWay whole (field ++ todo) from s → put field s ≡ Ok t → IsUnderWay whole todo from t
under_way_on whole field todo from s t way written =
    let one = put_filled field s t written in
    let before : t.before ≡ s.before ++ field = ap (λ (x : Spot). x.before) one.1 in
    let after : t.after ≡ drop (length field) s.after = ap (λ (x : Spot). x.after) one.1 in
    let long : length t.before ≡ length s.before + length field = ap length before
    ∙ length-append s.before field in
    record {
      so_far = ap (λ x. x ++ todo) before ∙ append_assoc s.before field todo ∙ way.so_far;
      behind = after ∙ ap (drop (length field)) way.behind
          ∙ drop-drop (length field) (length s.before) from ∙ ap (λ n. drop n from) (omega arith);
      fits = omega (arith, one.0, ap length way.behind, length-drop (length s.before) from);
    }

-- a field that finds no place
pub under_way_short : (whole field todo from : List ℕ) (s : Spot) (e : NoRoom)
    → IsUnderWay whole (field ++ todo) from s → put field s ≡ Err e → length from < length whole
under_way_short whole field todo from s e way refused =
    let r = put_refused field s e refused in
    omega (
      arith,
      r.0,
      ap length way.so_far,
      length-append s.before (field ++ todo),
      length-append field todo,
      ap length way.behind,
      length-drop (length s.before) from,
    )

-- no bytes are written anywhere
pub put_none : (s : Spot) → put [] s ≡ Ok s
put_none s =
    let some : ltb (length s.after) 0 ≡ false = grind (arith, nat_tests) in
    rw some (ap (λ x. Ok (record { before = x; after = s.after })) (append-nil s.before))

-- the last byte was written: the whole buffer, and how much of it
pub under_way_done : (whole from last bytes : List ℕ) (at n : ℕ)
    → IsUnderWay whole [] from (record { before = take at bytes; after = drop at bytes })
    → n ≡ length (take at bytes) → last ≡ bytes
    → (n ≡ length whole) × (last ≡ whole ++ drop n from)
under_way_done whole from last bytes at n way long same =
    let all : take at bytes ≡ whole = sym (append-nil (take at bytes)) ∙ way.so_far in
    let front : last ≡ whole ++ drop at bytes = same ∙ sym (take-append-drop at bytes)
    ∙ ap (λ x. x ++ drop at bytes) all in (
      long ∙ ap length all,
      front ∙ ap (λ x. whole ++ x) (way.behind
          ∙ ap (λ k. drop k from) (sym long)),
    )
