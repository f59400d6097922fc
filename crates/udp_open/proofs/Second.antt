-- The second layout beside the openings: what has a low byte at 7 is refused by it, an opening has such
-- a byte, and its own datagrams have no flag SYN.
use Rattle.std.proofs.Common.{◌≡◌, ℕ, ◌+◌, ◌-◌, ◌*◌, ◌%◌, ◌==◌, true, false, ◌&&◌, List, ◌∷◌, ◌++◌, length, get_or, replicate, sym, ap, ◌∙◌, arith, if◌then◌else◌}
use Rattle.std.specs.Prelude.{min, nat_le, nat_lt}
use Rattle.std.proofs.lemmas.Bool.{and_parts, leb-true, ltb-true, le-ltb}
use Rattle.mt_windows.specs.declared.limits.TheConstants.{DATAGRAM}
use Rattle.carrier.specs.declared.second_layout.Refusal2.TheVariants as refusal
use Rattle.carrier.specs.declared.state.Reason.TheVariants as reason
use Rattle.carrier.specs.declared.state.Took.{Took}
use Rattle.carrier.specs.declared.state.Took.TheVariants.{Ignored}
use Rattle.carrier.specs.Layout.{Refuses}
use Rattle.carrier.specs.Receiving.{reading}
use Rattle.udp2_core.specs.SecondLayout.{packet_shows, second_layout, shows}
use Rattle.udp2_packets.specs.Layout.{exchanged, finished, kind, prefix, spelled, text}
use Rattle.udp2_packets.specs.Value.{Packet}
use Rattle.udp2_packets.proofs.Frames.{exchanged_of, exchanged_twice}
use Rattle.udp2_packets.proofs.Theorems.{low_byte, meaning}
use Rattle.udp2_packets.proofs.WriterLemmas.{length-finished, spelled_is}
use Rattle.udp_open.specs.LinkTrace.{has_syn, is_low}

-- ---- a low byte at 7

-- how a link answers where its machine has the second layout
abbrev pub no_packet : Took
no_packet = Ignored (reason.Second (refusal.ShortLength 0))

-- the machine refuses what has it
pub low_refused : (d : List ℕ) → is_low d ≡ true → reading second_layout d ≡ Refuses (reason.Second (refusal.ShortLength 0))
low_refused d h =
    let long = and_parts (nat_le 8 (length d)) (nat_le (length d) DATAGRAM && nat_lt (get_or d 7 0) 0x40) h in
    let rest = and_parts (nat_le (length d) DATAGRAM) (nat_lt (get_or d 7 0) 0x40) long.1 in
    ap (λ b. if b then Refuses reason.TooLong else shows d) (le-ltb 1232 (length d) (leb-true (length d) DATAGRAM rest.0))
    ∙ ap packet_shows (meaning.refuses (refusal.ShortLength 0) d (low_byte d (leb-true 8 (length d) long.0) (ltb-true (get_or d 7 0) 0x40 rest.1)))

-- ---- its own datagrams

head_is : (x y : ℕ) (xs ys : List ℕ) → x ∷ xs ≡ y ∷ ys → x ≡ y
head_is x y xs ys h = cc

before_exchange : (k : ℕ) (t : List ℕ) → exchanged (finished k t) ≡ prefix 0 k (length t) ∷ (t ++ replicate (7 - length t) 0)
unfolding finished
before_exchange k t = exchanged_twice (prefix 0 k (length t) ∷ (t ++ replicate (7 - length t) 0))

-- the prefix byte stands at 7
pub eighth : (k : ℕ) (t : List ℕ) → get_or (finished k t) 7 0 ≡ prefix 0 k (length t)
eighth k t =
    let d = finished k t in
    let x = exchanged_of d (omega (arith, length-finished k t)) in
    sym (head_is (prefix 0 k (length t)) (get_or d 7 0) _ x.rest (sym (before_exchange k t) ∙ x.is))

-- it is even
even_prefix : (k m : ℕ) → (0 + 2 * k + 32 * m) % 2 ≡ 0
even_prefix k m = omega arith

pub second_plain : (p : Packet) → has_syn (spelled p) ≡ false
second_plain p =
    ap (λ n. n % 2 == 1) (ap (λ d. get_or d 7 0) (spelled_is p) ∙ eighth (kind p.body) (text p))
    ∙ ap (λ n. n == 1) (even_prefix (kind p.body) (min 7 (length (text p))))
