-- The text of a datagram: the flags that it tells, and its packet.
use Rattle.std.proofs.Common.{◌≡◌, ℕ, zero, suc, ◌+◌, ◌-◌, ◌≤◌, Bool, true, false, ◌&&◌, nat_lt, nat_le, List, [], ◌∷◌, length, max, Option, Some, None, option_map, refl, ap, ◌∙◌, arith}
use Rattle.std.specs.Option.{unwrap_or}
use Rattle.std.proofs.lemmas.Bool.Decides.{nat_tests}
use Rattle.mt_windows.specs.Noted.{greatest_of, is_noted, is_seen}
use Rattle.mt_windows.specs.declared.limits.TheConstants.{PART, TELL, WINDOW}
use Rattle.carrier.specs.declared.limits.TheConstants.{WITH_TELLING}
use Rattle.link_machine.specs.Flags.{flags_from}
use Rattle.link_machine.proofs.FlagLemmas.{length-flags_from}
use Rattle.udp1_core.specs.FirstLayout.{bytes_left_out, first_layout, packet_with, told_from, vector_in}
use Rattle.udp1_core.proofs.Heads.{head_with}
use Rattle.udp1_core.proofs.ReadBack.{IsShort}
use Rattle.udp1_core.proofs.Sizes.{datagram_size}
use Rattle.lossy_mode.specs.LossyView.{both_numbers}
use Rattle.lossy_mode.specs.Thin.{Got, datagram_of, last_number, next_load, part_datagram, telling_of}

-- ---- flags

and_true : (b c : Bool) → c ≡ true → (b && c) ≡ b
and_true true c h = h
and_true false c h = refl

-- a number that is told counts as seen where it was accepted
seen_told : (peer : ℕ) (numbers : List ℕ) (n : ℕ) → last_number peer numbers + 1 ≤ n + WINDOW → is_seen TELL numbers n ≡ is_noted n numbers
seen_told peer [] n near = refl
seen_told peer (m ∷ numbers) n near =
    let recent : nat_lt (max m (unwrap_or (greatest_of numbers) 0)) (n + TELL) ≡ true = grind (arith, nat_tests) in
    and_true (is_noted n (m ∷ numbers)) _ recent

flags_same : (peer : ℕ) (numbers : List ℕ) (from n : ℕ) → last_number peer numbers + 1 ≤ from + WINDOW
    → flags_from (is_seen TELL numbers) from n ≡ flags_from (λ k. is_noted k numbers) from n
flags_same peer numbers from zero near = refl
flags_same peer numbers from (suc n) near =
    ap (λ b. b ∷ flags_from (is_seen TELL numbers) (from + 1) n) (seen_told peer numbers from near)
    ∙ ap (λ fs. is_noted from numbers ∷ fs) (flags_same peer numbers (from + 1) n (omega (arith, near)))

-- the flags that are written are those that are told
pub flags_told : (peer floor : ℕ) (numbers : List ℕ) (from last : ℕ) → last ≡ last_number peer numbers → from ≡ told_from peer floor last
    → flags_from (is_seen TELL numbers) from (last + 1 - from)
    ≡ (let y = last_number peer numbers in flags_from (λ k. is_noted k numbers) (told_from peer floor y) (y + 1 - told_from peer floor y))
flags_told peer floor numbers from last e f =
    let near : last_number peer numbers + 1 ≤ from + WINDOW = omega (arith, e, f) in
    let start : from ≡ told_from peer floor (last_number peer numbers) = f ∙ ap (told_from peer floor) e in
    flags_same peer numbers from (last + 1 - from) near
    ∙ ap (λ m. flags_from (λ k. is_noted k numbers) from (m + 1 - from)) e
    ∙ ap (λ m. flags_from (λ k. is_noted k numbers) m (last_number peer numbers + 1 - m)) start

-- at most as many as the window has
pub telling_short : (peer floor : ℕ) (numbers : List ℕ) → IsShort (telling_of peer numbers floor)
telling_short peer floor numbers =
    let y = last_number peer numbers in
    let from = told_from peer floor y in
    omega (arith, length-flags_from (λ k. is_noted k numbers) from (y + 1 - from))

-- ---- the packet

pub head_is : (peer floor : ℕ) (numbers : List ℕ) (tells : Bool) (number : Option ℕ) (y : ℕ) (vector : Option (List ℕ))
    → y ≡ last_number peer numbers → vector ≡ vector_in tells (telling_of peer numbers floor)
    → head_with y vector None (option_map both_numbers number)
    ≡ packet_with (bytes_left_out (telling_of peer numbers floor) tells None (option_map both_numbers number))
head_is peer floor numbers tells None y vector named is =
    ap (λ m. head_with m vector None None) named
    ∙ ap (λ v. head_with (last_number peer numbers) v None None) is
head_is peer floor numbers tells (Some n) y vector named is =
    ap (λ m. head_with m vector None (Some (both_numbers n))) named
    ∙ ap (λ v. head_with (last_number peer numbers) v None (Some (both_numbers n))) is

-- ---- a part carries what was accepted

-- the telling stays short enough beside a part
tells_fits : (b : Bool) (n : ℕ) → n ≤ WITH_TELLING → (b && nat_le n WITH_TELLING) ≡ b
tells_fits b n h =
    let test : nat_le n WITH_TELLING ≡ true = grind (arith, nat_tests) in
    and_true b (nat_le n WITH_TELLING) test

pub part_datagram_is : (wait delay own peer number : ℕ) (g : Got) (owed bytes : List ℕ) → length bytes ≤ PART
    → part_datagram (first_layout wait delay own peer) g owed (next_load number bytes)
    ≡ datagram_of peer g (nat_lt 0 (length owed)) (Some (next_load number bytes))
part_datagram_is wait delay own peer number g owed bytes short =
    let d = datagram_of peer g true (Some (next_load number bytes)) in
    let size = datagram_size d (telling_short peer g.floor g.numbers) in
    ap (λ b. datagram_of peer g b (Some (next_load number bytes)))
    (tells_fits (nat_lt 0 (length owed)) _ (omega (arith, size, short)))
