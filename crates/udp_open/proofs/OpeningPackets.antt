-- The SYNs and SYN+ACKs that an end sends are packets of the layout, and are read as they were meant.
use Rattle.std.proofs.Common.{◌≡◌, inl, inr, ℕ, suc, ◌+◌, ◌<◌, ◌^◌, ◌==◌, Bool, true, false, not, ◌&&◌, List, [], ◌++◌, length, replicate, length-append, if◌then◌else◌, Option, Some, None, Ok, refl, sym, ap, ◌∙◌, subst, arith}
use Rattle.std.specs.Option.{IfSome}
use Rattle.std.proofs.lemmas.Bool.{eqb-true}
use Rattle.std.specs.Int.RustNames.{bit_and}
use Rattle.mt_base.specs.declared.kinds.Kind.{Kind}
use Rattle.mt_base.specs.declared.kinds.Kind.TheVariants.{Reliable, Lossy}
use Rattle.udp1_packets.specs.Layout.{IsBytes, IsPacket, IsSyn, IsExtended, spelled}
use Rattle.udp1_packets.proofs.Theorems.{written_spells}
use Rattle.udp_open.specs.declared.settings.OpenSettings.{OpenSettings}
use Rattle.mt_windows.specs.declared.limits.TheConstants.{WINDOW}
use Rattle.udp1_packets.specs.Value.{Extended, Syn, Packet, SynBody}
use Rattle.udp_open.specs.Agreeing.{IsHash}
use Rattle.udp_open.specs.Handshake.{shown, names, filling, opening, opening_syn, marks_of}
use Rattle.udp_open.specs.OpeningView.{IsOffered}
use Rattle.udp_open.proofs.Openings.{spelled_shows}

-- a hash that is shown is one
abbrev pub Hashes : OpenSettings → Bool → Option ℕ → Type 0
Hashes s answer version = IfSome version (λ v. answer ≡ false → v ≡ 0x0101 → IsHash s.cookie_hash)

-- an extension that names a version
pub names_fit : (answer : Bool) (own : List ℕ) (v : ℕ) → IsOffered v → (answer ≡ false → v ≡ 0x0101 → IsHash own)
    → IsExtended answer (names answer own v)
names_fit answer own v offered hash = elim offered [
  | inl e ↦ subst (λ n. IsExtended answer (names answer own n)) (sym e) (first answer)
  | inr more ↦ elim more [
    | inl e ↦ subst (λ n. IsExtended answer (names answer own n)) (sym e) (second answer)
    | inr e ↦ subst (λ n. IsExtended answer (names answer own n)) (sym e) (third answer (λ is. hash is e))
  ]
]
  where
    first : (answer : Bool) → IsExtended answer (names answer own 0x0001)
    first true = record { flags_fit = omega arith; version_fits = omega arith; version_known = λ _. inl refl; hash_is = (refl, tt) }
    first false = record { flags_fit = omega arith; version_fits = omega arith; version_known = λ _. inl refl; hash_is = (refl, tt) }

    second : (answer : Bool) → IsExtended answer (names answer own 0x0002)
    second true = record { flags_fit = omega arith; version_fits = omega arith; version_known = λ _. inr (inl refl); hash_is = (refl, tt) }
    second false = record { flags_fit = omega arith; version_fits = omega arith; version_known = λ _. inr (inl refl); hash_is = (refl, tt) }

    third : (answer : Bool) → (answer ≡ false → IsHash own) → IsExtended answer (names answer own 0x0101)
    third true is = record { flags_fit = omega arith; version_fits = omega arith; version_known = λ _. inr (inr refl); hash_is = (refl, tt) }
    third false is = record { flags_fit = omega arith; version_fits = omega arith; version_known = λ _. inr (inr refl); hash_is = (refl, is refl) }

is_syn_of : (s : OpenSettings) (answer : Bool) (version : Option ℕ) → s.initial < 2 ^ 32
    → IfSome version IsOffered → Hashes s answer version → IsSyn (opening_syn s answer version)
is_syn_of s answer None initial offered hash = record {
  initial_fits = initial;
  up_is = (omega arith, omega arith);
  down_is = (omega arith, omega arith);
  correlation_is = tt;
  extension_is = tt;
}
is_syn_of s answer (Some v) initial offered hash = record {
  initial_fits = initial;
  up_is = (omega arith, omega arith);
  down_is = (omega arith, omega arith);
  correlation_is = tt;
  extension_is = names_fit answer s.cookie_hash v offered hash;
}

marks_fit : (kind : Kind) → bit_and (marks_of kind) 0xE600 ≡ marks_of kind
marks_fit Reliable = refl
marks_fit Lossy = refl

-- an opening with a good extension is a packet
pub marked : (kind : Kind) (ack : ℕ) (syn : Syn) → ack < 2 ^ 32 → syn.initial < 2 ^ 32 → syn.up ≡ 1232 → syn.down ≡ 1232
    → syn.correlation ≡ None → IfSome syn.extension (IsExtended syn.answer)
    → IsPacket (record { ack = ack; window = WINDOW; marks = marks_of kind; body = SynBody syn })
marked kind ack syn fits initial up down none good = record {
  ack_fits = fits;
  window_fits = omega arith;
  marks_within = marks_fit kind;
  body_is = record {
    initial_fits = initial;
    up_is = (omega (arith, up), omega (arith, up));
    down_is = (omega (arith, down), omega (arith, down));
    correlation_is = subst (λ o. IfSome o (λ bytes. (length bytes ≡ 32) × IsBytes bytes)) (sym none) tt;
    extension_is = good;
  };
}

is_packet : (s : OpenSettings) (answer : Bool) (ack : ℕ) (version : Option ℕ) → s.initial < 2 ^ 32
    → ack < 2 ^ 32 → IfSome version IsOffered → Hashes s answer version → IsPacket (opening s answer ack version)
is_packet s answer ack version initial fits offered hash = record {
  ack_fits = fits;
  window_fits = omega arith;
  marks_within = marks_fit s.kind;
  body_is = is_syn_of s answer version initial offered hash;
}

-- an opening with this extension
abbrev with_extension : OpenSettings → Bool → ℕ → Option Extended → Packet
with_extension s answer ack e = record {
  ack = ack;
  window = WINDOW;
  marks = marks_of s.kind;
  body = SynBody (record {
    answer = answer;
    initial = s.initial;
    up = 1232;
    down = 1232;
    correlation = None;
    extension = e;
    padding = filling e;
  });
}

-- what stands before a hash
abbrev twenty : ℕ → ℕ
twenty n = suc (suc (suc (suc (suc (suc (suc (suc (suc (suc (suc (suc (suc (suc (suc (suc (suc (suc (suc (suc n)))))))))))))))))))

-- with an extension it fills its datagram, whether it shows the hash or not
whole_by : (s : OpenSettings) (answer : Bool) (ack v : ℕ) (shows : Bool) → (shows ≡ true → length s.cookie_hash ≡ 32)
    → length (spelled (with_extension s answer ack (Some (record { flags = 0x0001; version = v; hash = if shows then Some s.cookie_hash else None })))) ≡ 1232
whole_by s answer ack v true size =
    ap twenty (length-append s.cookie_hash (replicate 1180 0 ++ []) ∙ ap (λ n. n + 1180) (size refl))
whole_by s answer ack v false size = refl

shows_hash : (answer : Bool) (v : ℕ) (own : List ℕ) → (answer ≡ false → v ≡ 0x0101 → IsHash own)
    → (not answer && (v == 0x0101)) ≡ true → length own ≡ 32
shows_hash true v own hash h = cc
shows_hash false v own hash h = (hash refl (eqb-true v 0x0101 h)).0

pub is_whole : (s : OpenSettings) (answer : Bool) (ack : ℕ) (version : Option ℕ) → Hashes s answer version
    → length (spelled (opening s answer ack version)) ≡ 1232
is_whole s answer ack None hash = refl
is_whole s answer ack (Some v) hash =
    whole_by s answer ack v (not answer && (v == 0x0101)) (shows_hash answer v s.cookie_hash hash)

-- it shows what it spells
pub opening_shown : (s : OpenSettings) (answer : Bool) (ack : ℕ) (version : Option ℕ) → s.initial < 2 ^ 32
    → ack < 2 ^ 32 → IfSome version IsOffered → Hashes s answer version
    → shown (spelled (opening s answer ack version)) ≡ Ok (opening s answer ack version)
opening_shown s answer ack version initial fits offered hash =
    let p = opening s answer ack version in
    let is = is_packet s answer ack version initial fits offered hash in
    spelled_shows (spelled p) p (omega (arith, is_whole s answer ack version hash)) (written_spells p is)
