-- A datagram that has no whole header shows nothing.
use Rattle.std.proofs.Common.{◌≡◌, ℕ, ◌+◌, ◌<◌, ◌≤◌, inl, inr, cond, List, length, drop, None, Ok, Err, refl, ap, arith}
use Rattle.std.proofs.lemmas.Bool.{cases_lt, le-ltb}
use Rattle.std.proofs.lemmas.List.{length-drop}
use Rattle.byteorder.specs.Endian.{big_number}
use Rattle.mt_base.specs.declared.errors.Short.{Short}
use Rattle.mt_base.specs.Reading.{big}
use Rattle.mt_base.proofs.FrontFields.{left_at as at}
use Rattle.carrier.specs.declared.first_layout.Refusal1.{Refusal1}
use Rattle.carrier.specs.declared.first_layout.Refusal1.TheVariants as refusal
use Rattle.carrier.specs.Receiving.{shown_in}
use Rattle.udp1_packets.specs.Reading.{cut, packet_at}
use Rattle.udp1_packets.proofs.Pieces.{number_cut}
use Rattle.udp1_core.specs.FirstLayout.{packet_shows, shows}

-- a field of `need` bytes is cut short at this place
abbrev short : ℕ → ℕ → Refusal1
short place need = refusal.Short (record { at = place; need = need })

-- a number that is there
number_there : (n place : ℕ) (bytes : List ℕ) → n ≤ length bytes
    → cut (big n (at place bytes)) ≡ Ok (big_number n bytes, at (place + n) (drop n bytes))
number_there n place bytes enough =
    let end = Ok (big_number n bytes, at (place + n) (drop n bytes)) in
    let e : Short = record { at = place; need = n } in
    ap (λ b. cut (cond b (Err e) end)) (le-ltb (length bytes) n enough)

-- the number received last is cut short
ack_cut : (bytes : List ℕ) → length bytes < 4 → packet_at (at 0 bytes) ≡ Err (short 0 4)
unfolding packet_at
ack_cut bytes few = rw (number_cut 4 0 bytes (short 0 4) (few, refl)) refl

-- the window is cut short
window_cut : (bytes : List ℕ) → 4 ≤ length bytes → length bytes < 6
    → packet_at (at 0 bytes) ≡ Err (short 4 2)
unfolding packet_at
window_cut bytes ack few =
    let left : length (drop 4 bytes) < 2 = omega (arith, length-drop 4 bytes) in
    rw (number_there 4 0 bytes ack, number_cut 2 4 (drop 4 bytes) (short 4 2) (left, refl)) refl

-- the flags are cut short
flags_cut : (bytes : List ℕ) → 6 ≤ length bytes → length bytes < 8
    → packet_at (at 0 bytes) ≡ Err (short 6 2)
unfolding packet_at
flags_cut bytes window few =
    let behind = drop 2 (drop 4 bytes) in
    let window_there : 2 ≤ length (drop 4 bytes) = omega (arith, length-drop 4 bytes) in
    let left : length behind < 2 =
    omega (arith, length-drop 4 bytes, length-drop 2 (drop 4 bytes)) in
    rw (
      number_there 4 0 bytes (omega arith),
      number_there 2 4 (drop 4 bytes) window_there,
      number_cut 2 6 behind (short 6 2) (left, refl),
    ) refl

-- a datagram that is refused shows nothing
refused_shows : (bytes : List ℕ) (e : Refusal1) → packet_at (at 0 bytes) ≡ Err e
    → shown_in (shows bytes) ≡ None
refused_shows bytes e is = ap (λ r. shown_in (packet_shows r)) is

-- fewer than eight bytes show nothing
pub tiny : (bytes : List ℕ) → length bytes < 8 → shown_in (shows bytes) ≡ None
tiny bytes few = elim (cases_lt (length bytes) 4) [
  | inl none ↦ refused_shows bytes (short 0 4) (ack_cut bytes none)
  | inr four ↦ elim (cases_lt (length bytes) 6) [
    | inl no_window ↦ refused_shows bytes (short 4 2) (window_cut bytes four no_window)
    | inr six ↦ refused_shows bytes (short 6 2) (flags_cut bytes six few)
  ]
]
