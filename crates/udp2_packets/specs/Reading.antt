-- Reading a packet field by field: the packet, or the first fault. This is what the code's parts
-- are proved against; what it means is said by the layout and by the faults, which it meets.
use Rattle.std.specs.Prelude.{◌≡◌, ℕ, ◌+◌, ◌/◌, ◌%◌, Bool, true, false, ◌&&◌, ◌||◌, not, List, length, take, slice_index, nat_lt, eqb, if◌then◌else◌, Option, Some, None, Result, Ok, Err}
use Rattle.mt_base.specs.declared.errors.Short.{Short}
use Rattle.mt_base.specs.Reading.{Left, block, big, little}
use Rattle.mt_base.specs.Parts.{◌>>=◌, cut_as, where_set}
use Rattle.carrier.specs.declared.second_layout.Refusal2.{Refusal2}
use Rattle.carrier.specs.declared.second_layout.Refusal2.TheVariants as refusal
use Rattle.udp2_packets.specs.Value.{Ack, Stamp, Vector, Telling, NoTelling, AckTelling, VectorTelling, Delay, Body, NoBody, DataBody, DummyBody, Packet}
use Rattle.udp2_packets.specs.Layout.{has, exchanged}

-- a field that is cut short is a refusal
abbrev pub cut : {A : Type 0} → Result (A × Left) Short → Result (A × Left) Refusal2
cut r = cut_as refusal.Short r

-- ---- the parts

abbrev pub byte_at : Left → Result (ℕ × Left) Refusal2
byte_at s = cut (big 1 s)

abbrev pub number_at : Left → Result (ℕ × Left) Refusal2
number_at s = cut (little 2 s)

unfoldable pub ack_at : Left → Result (Ack × Left) Refusal2
ack_at s = do
  number ← cut (little 2 s)
  received_ts ← cut (little 3 number.1)
  gap ← cut (big 1 received_ts.1)
  sizes ← cut (big 1 gap.1)
  delays ← cut (block (sizes.0 % 16) sizes.1)
  Ok (
    record {
      number = number.0;
      received_ts = received_ts.0;
      gap = gap.0;
      scale = sizes.0 / 16;
      delays = delays.0;
    },
    delays.1,
  )

unfoldable pub stamp_at : Left → Result (Stamp × Left) Refusal2
stamp_at s = do
  time ← cut (little 3 s)
  gap ← cut (big 1 time.1)
  Ok (record { time = time.0; gap = gap.0 }, gap.1)

unfoldable pub stamp_where : Bool → Left → Result (Option Stamp × Left) Refusal2
stamp_where there s = where_set there stamp_at s

unfoldable pub vector_at : Left → Result (Vector × Left) Refusal2
vector_at s = do
  base ← cut (little 2 s)
  size ← cut (big 1 base.1)
  stamp ← stamp_where (not (nat_lt size.0 128)) size.1
  coded ← cut (block (size.0 % 128) stamp.1)
  Ok (record { base = base.0; stamp = stamp.0; coded = coded.0 }, coded.1)

unfoldable pub delay_at : Left → Result (Delay × Left) Refusal2
delay_at s = do
  most ← cut (big 1 s)
  timeout ← cut (little 2 most.1)
  Ok (record { most = most.0; timeout = timeout.0 }, timeout.1)

unfoldable pub ack_where : Bool → Left → Result (Option Ack × Left) Refusal2
ack_where there s = where_set there ack_at s

unfoldable pub vector_where : Bool → Left → Result (Option Vector × Left) Refusal2
vector_where there s = where_set there vector_at s

unfoldable pub delay_where : Bool → Left → Result (Option Delay × Left) Refusal2
delay_where there s = where_set there delay_at s

unfoldable pub byte_where : Bool → Left → Result (Option ℕ × Left) Refusal2
byte_where there s = where_set there byte_at s

unfoldable pub number_where : Bool → Left → Result (Option ℕ × Left) Refusal2
number_where there s = where_set there number_at s

-- ---- the packet

-- what the flags announce, in the order of the fields
pub record Announced : Type 0 where
  pub ack : Option Ack
  pub overhead : Option ℕ
  pub delay : Option Delay
  pub aoa : Option ℕ
  pub number : Option ℕ
  pub vector : Option Vector
  pub part : Option ℕ

unfoldable pub announced_at : Bool → ℕ → Left → Result (Announced × Left) Refusal2
announced_at dummy flags s = do
  ack ← ack_where (has flags 0x001) s
  overhead ← byte_where (has flags 0x040) ack.1
  delay ← delay_where (has flags 0x100) overhead.1
  aoa ← number_where (has flags 0x010) delay.1
  number ← number_where (has flags 0x004) aoa.1
  vector ← vector_where (has flags 0x008) number.1
  part ← number_where (has flags 0x004 && not dummy) vector.1
  Ok (
    record {
      ack = ack.0;
      overhead = overhead.0;
      delay = delay.0;
      aoa = aoa.0;
      number = number.0;
      vector = vector.0;
      part = part.0;
    },
    part.1,
  )

abbrev pub telling : Option Ack → Option Vector → Telling
telling (Some ack) vector = AckTelling ack
telling None (Some vector) = VectorTelling vector
telling None None = NoTelling

-- nothing stands behind the fields
abbrev pub no_more : Left → Result Body Refusal2
no_more s = if nat_lt 0 (length s.bytes) then Err (refusal.Trailing s.at) else Ok NoBody

-- what stands behind the fields
unfoldable pub body_at : Bool → Option ℕ → Option ℕ → Left → Result Body Refusal2
body_at true number part s = Ok (DummyBody number s.bytes)
body_at false (Some number) (Some part) s = Ok (DataBody number part s.bytes)
body_at false (Some number) None s = no_more s
body_at false None part s = no_more s

unfoldable pub fields_at : Bool → ℕ → ℕ → Left → Result Packet Refusal2
fields_at dummy flags log_window s = do
  a ← announced_at dummy flags s
  body ← body_at dummy (a.0).number (a.0).part a.1
  Ok (record {
    log_window = log_window;
    telling = telling (a.0).ack (a.0).vector;
    overhead = (a.0).overhead;
    delay = (a.0).delay;
    aoa = (a.0).aoa;
    body = body;
  })

-- the flags are known, and announce at most one telling
unfoldable pub checked : ℕ → Result ℕ Refusal2
checked flags =
    if has flags 0xEA2 then Err (refusal.UnknownFlag 1)
    else if has flags 0x001 && has flags 0x008 then Err (refusal.AckAndVector 1)
    else Ok flags

unfoldable pub header_at : Bool → Left → Result Packet Refusal2
header_at dummy s = do
  word ← cut (little 2 s)
  flags ← checked (word.0 % 4096)
  fields_at dummy flags (word.0 / 4096) word.1

-- where the packet ends in a datagram of this length whose first byte is this
unfoldable pub end_of : ℕ → ℕ → Result ℕ Refusal2
end_of first long =
    if nat_lt (first / 32) 2 || nat_lt (first / 32) 7 && nat_lt 8 long
    then Err (refusal.ShortLength 0)
    else Ok (if nat_lt (first / 32) 7 then 1 + first / 32 else long)

-- whether the packet is a dummy
unfoldable pub is_dummy : ℕ → Result Bool Refusal2
is_dummy first =
    if eqb (first / 2 % 16) 0 then Ok false
    else if eqb (first / 2 % 16) 8 then Ok true
    else Err (refusal.BadType 0)

-- the packet, where the two bytes stand in their own places
unfoldable pub packet_at : List ℕ → Result Packet Refusal2
packet_at bytes = do
  end ← end_of (slice_index bytes 0) (length bytes)
  dummy ← is_dummy (slice_index bytes 0)
  first ← cut (big 1 (record { at = 0; bytes = take end bytes }))
  header_at dummy first.1

-- what a datagram is
unfoldable pub reading : List ℕ → Result Packet Refusal2
reading datagram =
    if nat_lt (length datagram) 8
    then Err (refusal.Short (record { at = 0; need = 8 }))
    else packet_at (exchanged datagram)

-- What a reader of a part returned, seen by `view`, and what it left are what reading gives. After
-- a refusal nothing is said of the cursor.
abbrev pub Reads : {X Y : Type 0} → (X → Y) → Left → Result X Refusal2
    → Result (Y × Left) Refusal2 → Type 0
Reads view new (Ok x) read = read ≡ Ok (view x, new)
Reads view new (Err e) read = read ≡ Err e

-- what a reader returned, seen by `view`, is what reading gives
abbrev pub Answers : {X Y : Type 0} → (X → Y) → Result X Refusal2 → Result Y Refusal2 → Type 0
Answers view (Ok x) read = read ≡ Ok (view x)
Answers view (Err e) read = read ≡ Err e
