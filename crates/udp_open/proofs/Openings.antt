-- What a datagram shows, and what a poll sends.
use Rattle.std.proofs.Common.{◌≡◌, ℕ, ◌+◌, ◌≤◌, Bool, true, false, ◌&&◌, nat_lt, List, length, take, drop, if◌then◌else◌, Option, Some, None, Result, Ok, Err, refl, sym, ap, ◌∙◌, arith}
use Rattle.std.specs.Option.{option_map}
use Rattle.std.proofs.lemmas.Bool.{le-ltb, lt-ltb, ltb-false}
use Rattle.std.proofs.lemmas.List.{take_all, drop_all}
use Rattle.carrier.specs.declared.first_layout.Refusal1.{Refusal1}
use Rattle.carrier.specs.declared.state.Reason.TheVariants as reason
use Rattle.udp1_packets.specs.Faults.{Refused}
use Rattle.udp1_packets.specs.Layout.{Spells, spelled}
use Rattle.udp1_packets.specs.Reading.{packet_at}
use Rattle.udp1_packets.specs.Value.{Packet}
use Rattle.udp1_packets.proofs.Theorems.{meaning}
use Rattle.udp_open.specs.declared.settings.OpenSettings.{OpenSettings}
use Rattle.udp_open.specs.declared.timer.Timer.{Timer}
use Rattle.udp_open.specs.Handshake.{shown, packet_or, row, is_time, started, syn, asked}

-- ---- what a datagram shows

fits : (bytes : List ℕ) (r : Result Packet Refusal1) → length bytes ≤ 1232
    → packet_at (record { at = 0; bytes = bytes }) ≡ r → shown bytes ≡ packet_or r
fits bytes r short is =
    ap (λ b. if b then Err reason.TooLong else packet_or (packet_at (record { at = 0; bytes = bytes }))) (le-ltb 1232 (length bytes) short)
    ∙ ap packet_or is

-- a datagram that spells a packet shows it
pub spelled_shows : (bytes : List ℕ) (p : Packet) → length bytes ≤ 1232 → Spells bytes p
    → shown bytes ≡ Ok p
spelled_shows bytes p short spells = fits bytes (Ok p) short (meaning.reads p bytes spells)

-- one with a fault shows none
pub fault_shows : (bytes : List ℕ) (e : Refusal1) → length bytes ≤ 1232 → Refused bytes e
    → shown bytes ≡ Err (reason.First e)
fault_shows bytes e short fault = fits bytes (Err e) short (meaning.refuses e bytes fault)

-- ---- what a poll sends

-- a datagram that fills its place, where it is due
pub fills : (due : Bool) (out text : List ℕ) → due ≡ true → length out ≡ 1232 → out ≡ text
    → Some (take 1232 out) ≡ (if due then Some text else None)
fills due out text is long same =
    ap Some (take_all 1232 out (omega arith) ∙ same) ∙ sym (ap (λ b. if b then Some text else None) is)

-- nothing stands behind it
pub none_behind : (out old : List ℕ) → length out ≡ 1232 → length old ≡ 1232 → drop 1232 out ≡ drop 1232 old
none_behind out old long same = drop_all 1232 out (omega arith) ∙ sym (drop_all 1232 old (omega arith))

-- before the last expiry a SYN is due where it is time for it
before_last : (timer : Option Timer) (at : ℕ) → nat_lt 16 (started timer at).expiries ≡ false
    → nat_lt (row timer) 16 ≡ true
before_last None at h = refl
before_last (Some timer) at h =
    let few : timer.expiries + 1 ≤ 16 = ltb-false 16 (timer.expiries + 1) h in
    lt-ltb timer.expiries 16 (omega arith)

pub asks_now : (settings : OpenSettings) (timer : Option Timer) (at : ℕ) (out : List ℕ)
    → is_time timer at ≡ true → nat_lt 16 (started timer at).expiries ≡ false → length out ≡ 1232
    → out ≡ spelled (syn settings)
    → Some (take 1232 out) ≡ option_map spelled (asked settings timer at)
asks_now settings timer at out time few long same =
    let last = before_last timer at few in
    let due : (is_time timer at && nat_lt (row timer) 16) ≡ true = ap (λ b. b && nat_lt (row timer) 16) time ∙ last in
    ap Some (take_all 1232 out (omega arith) ∙ same)
    ∙ sym (ap (λ b. option_map spelled (if b then Some (syn settings) else None)) due)
