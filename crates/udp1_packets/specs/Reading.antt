-- Reading a packet field by field: the packet, or the first fault. This is what the code's parts
-- are proved against; what it means is said by the layout and by the faults, which it meets.
use Rattle.std.specs.Prelude.{◌≡◌, ℕ, ◌+◌, ◌/◌, Bool, ◌&&◌, ◌||◌, not, List, length, nat_lt, eqb, if◌then◌else◌, Option, Some, None, Result, Ok, Err}
use Rattle.std.specs.List.{position_from}
use Rattle.std.specs.Int.RustNames.{bit_and}
use Rattle.mt_base.specs.declared.errors.Short.{Short}
use Rattle.mt_base.specs.Reading.{Left, block, big}
use Rattle.mt_base.specs.Parts.{◌>>=◌, cut_as, where_set}
use Rattle.carrier.specs.declared.first_layout.Refusal1.{Refusal1}
use Rattle.carrier.specs.declared.first_layout.Refusal1.TheVariants as refusal
use Rattle.udp1_packets.specs.Value.{Extended, Syn, Body, SynBody, DataBody, FecBody, BareBody, Packet}
use Rattle.udp1_packets.specs.Layout.{has, is_valid, to_four}

-- a field that is cut short is a refusal
abbrev pub cut : {A : Type 0} → Result (A × Left) Short → Result (A × Left) Refusal1
cut r = cut_as refusal.Short r

-- ---- opening packets

unfoldable pub mtu_at : Left → Result (ℕ × Left) Refusal1
mtu_at s = do
  mtu ← cut (big 2 s)
  if nat_lt mtu.0 1132 || nat_lt 1232 mtu.0 then Err (refusal.BadMtu s.at) else Ok mtu

abbrev pub is_version : ℕ → Bool
is_version version = eqb version 0x0001 || eqb version 0x0002 || eqb version 0x0101

unfoldable pub version_at : Bool → Left → Result (ℕ × Left) Refusal1
version_at valid s = do
  version ← cut (big 2 s)
  if valid && not (is_version version.0) then Err (refusal.BadVersion s.at) else Ok version

unfoldable pub block32_at : Bool → Left → Result (Option (List ℕ) × Left) Refusal1
block32_at there s = where_set there (λ t. cut (block 32 t)) s

unfoldable pub extension_at : Bool → Left → Result (Extended × Left) Refusal1
extension_at answer s = do
  flags ← cut (big 2 s)
  version ← version_at (is_valid flags.0) flags.1
  hash ← block32_at (not answer && is_valid flags.0 && eqb version.0 0x0101) version.1
  Ok (record { flags = flags.0; version = version.0; hash = hash.0 }, hash.1)

unfoldable pub extended_at : Bool → Bool → Left → Result (Option Extended × Left) Refusal1
extended_at there answer s = where_set there (extension_at answer) s

-- the zeros up to the end, by the place of the first byte that is none
abbrev pub zeros_to : Option ℕ → Left → Result ℕ Refusal1
zeros_to (Some i) s = Err (refusal.PaddingNotZero (s.at + i))
zeros_to None s = Ok (length s.bytes)

unfoldable pub zeros_at : Left → Result ℕ Refusal1
zeros_at s = zeros_to (position_from (λ b. not (eqb b 0)) 0 s.bytes) s

-- an opening that answers one or doesn't, with a correlation identifier or an extension or without
unfoldable pub syn_with : Bool → Bool → Bool → Left → Result Syn Refusal1
syn_with answer correlated extended s = do
  initial ← cut (big 4 s)
  up ← mtu_at initial.1
  down ← mtu_at up.1
  correlation ← block32_at correlated down.1
  extension ← extended_at extended answer correlation.1
  padding ← zeros_at extension.1
  Ok (record {
    answer = answer;
    initial = initial.0;
    up = up.0;
    down = down.0;
    correlation = correlation.0;
    extension = extension.0;
    padding = padding;
  })

abbrev pub syn_at : ℕ → Left → Result Syn Refusal1
syn_at flags s = syn_with (has flags 0x0004) (has flags 0x0800) (has flags 0x1000) s

unfoldable pub opening_at : ℕ → Left → Result Body Refusal1
opening_at flags s =
    if has flags 0x01FA then Err (refusal.SynWithData 6)
    else syn_at flags s >>= λ syn. Ok (SynBody syn)

-- ---- other packets

abbrev pub is_state : ℕ → Bool
is_state element = eqb (element / 64) 0 || eqb (element / 64) 3

-- elements, by the place of the first that is none
abbrev pub states_to : Option ℕ → List ℕ → ℕ → Left → Result (List ℕ × Left) Refusal1
states_to (Some i) elements at s = Err (refusal.BadState (at + i))
states_to None elements at s = Ok (elements, s)

unfoldable pub elements_at : ℕ → Left → Result (List ℕ × Left) Refusal1
elements_at size s = do
  elements ← cut (block size s)
  states_to (position_from (λ e. not (is_state e)) 0 elements.0) elements.0 s.at elements.1

unfoldable pub size_at : Left → Result (ℕ × Left) Refusal1
size_at s = do
  size ← cut (big 2 s)
  if nat_lt 2048 size.0 then Err (refusal.VectorTooLong s.at) else Ok size

unfoldable pub vector_at : Left → Result (List ℕ × Left) Refusal1
vector_at s = do
  size ← size_at s
  elements ← elements_at size.0 size.1
  padding ← cut (block (to_four (2 + size.0)) elements.1)
  Ok (elements.0, padding.1)

unfoldable pub vector_where : Bool → Left → Result (Option (List ℕ) × Left) Refusal1
vector_where there s = where_set there vector_at s

unfoldable pub number_where : Bool → Left → Result (Option ℕ × Left) Refusal1
number_where there s = where_set there (λ t. cut (big 4 t)) s

unfoldable pub data_at : Option (List ℕ) → Option ℕ → Left → Result Body Refusal1
data_at vector aoa s = do
  coded ← cut (big 4 s)
  start ← cut (big 4 coded.1)
  Ok (DataBody vector aoa coded.0 start.0 (start.1).bytes)

unfoldable pub fec_at : Option (List ℕ) → Option ℕ → Left → Result Body Refusal1
fec_at vector aoa s = do
  coded ← cut (big 4 s)
  start ← cut (big 4 coded.1)
  range ← cut (big 1 start.1)
  index ← cut (big 1 range.1)
  padding ← cut (block 2 index.1)
  Ok (FecBody vector aoa coded.0 start.0 range.0 index.0 (padding.1).bytes)

unfoldable pub rest_at : ℕ → Option (List ℕ) → Option ℕ → Left → Result Body Refusal1
rest_at flags vector aoa s =
    if has flags 0x0008 then
    (if has flags 0x0010 then fec_at vector aoa s else data_at vector aoa s)
    else Ok (BareBody vector aoa s.bytes)

unfoldable pub told_at : ℕ → Left → Result Body Refusal1
told_at flags s = do
  vector ← vector_where (has flags 0x0004) s
  aoa ← number_where (has flags 0x0100) vector.1
  rest_at flags vector.0 aoa.0 aoa.1

-- ---- the packet

abbrev pub marks_in : ℕ → ℕ
marks_in flags =
    if has flags 0x0001 then bit_and flags 0xE600
    else if has flags 0x0008 then bit_and flags 0xFEE2 else bit_and flags 0xFEF2

unfoldable pub body_at : ℕ → Left → Result Body Refusal1
body_at flags s = if has flags 0x0001 then opening_at flags s else told_at flags s

unfoldable pub packet_at : Left → Result Packet Refusal1
packet_at s = do
  ack ← cut (big 4 s)
  window ← cut (big 2 ack.1)
  flags ← cut (big 2 window.1)
  body ← body_at flags.0 flags.1
  Ok (record { ack = ack.0; window = window.0; marks = marks_in flags.0; body = body })

-- What a reader of a part returned, seen by `view`, and what it left are what reading gives. After
-- a refusal nothing is said of the cursor.
abbrev pub Reads : {X Y : Type 0} → (X → Y) → Left → Result X Refusal1 → Result (Y × Left) Refusal1
    → Type 0
Reads view new (Ok x) read = read ≡ Ok (view x, new)
Reads view new (Err e) read = read ≡ Err e

-- what a reader returned, seen by `view`, is what reading gives
abbrev pub Answers : {X Y : Type 0} → (X → Y) → Result X Refusal1 → Result Y Refusal1 → Type 0
Answers view (Ok x) read = read ≡ Ok (view x)
Answers view (Err e) read = read ≡ Err e
