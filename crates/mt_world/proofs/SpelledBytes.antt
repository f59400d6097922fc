-- What is written is bytes.
use Rattle.std.proofs.Common.{◌≡◌, ℕ, zero, suc, ◌+◌, ◌*◌, ◌/◌, ◌%◌, ◌<◌, ◌≤◌, ◌^◌, Bool, true, false, ltb, cond, List, [], ◌∷◌, ◌++◌, length, map, None, Some, arith, lit<}
use Rattle.std.specs.Int.{byte_at, bytes_low_first}
use Rattle.std.specs.List.{flat_map, AllByRecursion}
use Rattle.std.proofs.lemmas.List.Elements.{recursion_from_All}
use Rattle.byteorder.specs.Endian.{little_bytes}
use Rattle.mt_base.specs.declared.kinds.Role.{Role}
use Rattle.mt_base.specs.declared.kinds.Role.TheVariants.{Server, Client}
use Rattle.mt_base.specs.Writing.{joined}
use Rattle.dvc_pdus.specs.Value.{Pdu, Caps, CreateRequest, CreateResponse, DataFirst, Data, CompressedFirst, Compressed, Close, SyncRequest, SyncResponse, Fits, IsNameByte, spelled, smallest, size_code}
use Rattle.mt_world.specs.Frames.{framed, is_spoken, IsSpoken}
use Rattle.mt_world.proofs.Outgoing.{all-append}

-- each is a byte
abbrev pub Bytes : List ℕ → Type 0
Bytes xs = AllByRecursion (λ b. b < 2 ^ 8) xs

byte_at_small : (i n : ℕ) → byte_at i n < 2 ^ 8
byte_at_small zero n = omega arith
byte_at_small (suc i) n = let x = n / 256 ^ suc i in remainder x where
  remainder : (x : ℕ) → x % 256 < 2 ^ 8
  remainder x = omega arith

low_first_bytes : (i k n : ℕ) → Bytes (bytes_low_first i k n)
low_first_bytes i zero n = tt
low_first_bytes i (suc k) n = (byte_at_small i n, low_first_bytes (suc i) k n)

smallest_by : (a b : Bool) (id : ℕ) → Bytes (cond a (little_bytes 1 id) (cond b (little_bytes 2 id) (little_bytes 4 id)))
smallest_by true b id = low_first_bytes 0 1 id
smallest_by false true id = low_first_bytes 0 2 id
smallest_by false false id = low_first_bytes 0 4 id

smallest_bytes : (id : ℕ) → Bytes (smallest id)
smallest_bytes id = smallest_by (ltb id (2 ^ 8)) (ltb id (2 ^ 16)) id

size_by : (a b : Bool) → cond a 0 (cond b 1 2) ≤ 2
size_by true b = omega arith
size_by false true = omega arith
size_by false false = omega arith

header_small : (command own id : ℕ) → command < 15 → own < 4 → command * 16 + own * 4 + size_code id < 2 ^ 8
header_small command own id c o = let s : size_code id ≤ 2 = size_by (ltb id (2 ^ 8)) (ltb id (2 ^ 16)) in omega (arith, c, o, s)

charges_bytes : (charges : List ℕ) → Bytes (joined (map (little_bytes 2) charges))
charges_bytes [] = tt
charges_bytes (c ∷ cs) = all-append (λ b. b < 2 ^ 8) (little_bytes 2 c) (joined (map (little_bytes 2) cs)) (low_first_bytes 0 2 c) (charges_bytes cs)

name_bytes : (name : List ℕ) → AllByRecursion IsNameByte name → Bytes name
name_bytes [] h = tt
name_bytes (b ∷ bs) h = (omega (arith, h.0.1), name_bytes bs h.1)

unspoken : (let b : Bool = false in b ≡ true) → ⊥
unspoken h = cc

pub spelled_bytes : (from : Role) (pdu : Pdu) → Fits from pdu → is_spoken pdu ≡ true → Bytes (spelled pdu)
spelled_bytes from (Caps version None) h spoken = (lit< tt, (lit< tt, all-append (λ b. b < 2 ^ 8) (little_bytes 2 version) [] (low_first_bytes 0 2 version) tt))
spelled_bytes from (Caps version (Some charges)) h spoken =
    (lit< tt, (lit< tt, all-append (λ b. b < 2 ^ 8) (little_bytes 2 version) (joined (map (little_bytes 2) charges)) (low_first_bytes 0 2 version) (charges_bytes charges)))
spelled_bytes Server (CreateRequest id priority name) h spoken = (
  header_small 1 priority id (lit< tt) h.1,
  all-append (λ b. b < 2 ^ 8) (smallest id) (name ++ (0 ∷ [] ++ [])) (smallest_bytes id)
      (all-append (λ b. b < 2 ^ 8) name (0 ∷ [] ++ []) (name_bytes name (recursion_from_All IsNameByte name h.2.2)) (lit< tt, tt)),
)
spelled_bytes Client (CreateRequest id priority name) h spoken = absurd h
spelled_bytes Server (CreateResponse id status) h spoken = absurd h
spelled_bytes Client (CreateResponse id status) h spoken = (
  header_small 1 0 id (lit< tt) (lit< tt),
  all-append (λ b. b < 2 ^ 8) (smallest id) (little_bytes 4 status ++ []) (smallest_bytes id)
      (all-append (λ b. b < 2 ^ 8) (little_bytes 4 status) [] (low_first_bytes 0 4 status) tt),
)
spelled_bytes from (Data id bytes) h spoken = (
  header_small 3 0 id (lit< tt) (lit< tt),
  all-append (λ b. b < 2 ^ 8) (smallest id) (bytes ++ []) (smallest_bytes id)
      (all-append (λ b. b < 2 ^ 8) bytes [] (recursion_from_All (λ b. b < 2 ^ 8) bytes h.1) tt),
)
spelled_bytes from (DataFirst id total bytes) h spoken = absurd (unspoken spoken)
spelled_bytes from (CompressedFirst id total bytes) h spoken = absurd (unspoken spoken)
spelled_bytes from (Compressed id bytes) h spoken = absurd (unspoken spoken)
spelled_bytes from (Close id) h spoken = absurd (unspoken spoken)
spelled_bytes from (SyncRequest flags tunnels lists) h spoken = absurd (unspoken spoken)
spelled_bytes from (SyncResponse types) h spoken = absurd (unspoken spoken)

framed_bytes : (from : Role) (pdu : Pdu) → IsSpoken from pdu → Bytes (framed pdu)
unfolding framed
framed_bytes from pdu is =
    (lit< tt, (byte_at_small 0 (length (spelled pdu)), (byte_at_small 1 (length (spelled pdu)), spelled_bytes from pdu is.0.0 is.1)))

pub frames_bytes : (from : Role) (pdus : List Pdu) → AllByRecursion (IsSpoken from) pdus → Bytes (flat_map framed pdus)
frames_bytes from [] h = tt
frames_bytes from (pdu ∷ pdus) h = all-append (λ b. b < 2 ^ 8) (framed pdu) (flat_map framed pdus) (framed_bytes from pdu h.0) (frames_bytes from pdus h.1)
