-- Why bytes are no packet of the first layout: the first fault in the order of the fields. Each
-- case says what stands before the fault, and so keeps its rules, and what is wrong behind it.
use Rattle.std.specs.Prelude.{◌≡◌, ◌≢◌, ℕ, ◌+◌, ◌^◌, ◌<◌, ◌≤◌, ◌==◌, Bool, true, false, ◌&&◌, not, List, ◌∷◌, ◌++◌, length, All, Option, is_some}
use Rattle.byteorder.specs.Endian.{big_bytes}
use Rattle.mt_base.specs.Writing.{joined}
use Rattle.ack_vector.specs.Elements.{IsGood}
use Rattle.carrier.specs.declared.first_layout.Refusal1.{Refusal1}
use Rattle.carrier.specs.declared.first_layout.Refusal1.TheVariants as refusal
use Rattle.udp1_packets.specs.Value.{Syn, SynBody}
use Rattle.udp1_packets.specs.Layout.{has, is_valid, IsMtu, IsVersion, IsBlock, IsSyn, IsVector, IsTold, Fills, block_fields, vector_fields, aoa_fields, body_fields, zeros, to_four}

-- a field of `need` bytes is cut short at this place
abbrev pub Cut : ℕ → ℕ → List ℕ → Refusal1 → Type 0
Cut at need bytes r = (length bytes < need) × (r ≡ refusal.Short (record { at = at; need = need }))

-- ---- openings

-- the first fault of an MTU at this place
pub data RefusedMtu (at : ℕ) (bytes : List ℕ) (r : Refusal1) : Type 0 where
  mtu_cut : Cut at 2 bytes r → RefusedMtu at bytes r
  mtu_wrong : (mtu : ℕ) (rest : List ℕ) → mtu < 2 ^ 16 → (IsMtu mtu → ⊥)
      → bytes ≡ big_bytes 2 mtu ++ rest → r ≡ refusal.BadMtu at → RefusedMtu at bytes r

-- the flags and the version of an extension, whatever the version
abbrev pub Extends : ℕ → ℕ → List ℕ → List ℕ → Type 0
Extends flags version bytes rest =
    (flags < 2 ^ 16) × (version < 2 ^ 16)
    × (bytes ≡ big_bytes 2 flags ++ (big_bytes 2 version ++ rest))

-- the first fault of an extension at this place
pub data RefusedExtension (answer : Bool) (at : ℕ) (bytes : List ℕ) (r : Refusal1) : Type 0 where
  flags_cut : Cut at 2 bytes r → RefusedExtension answer at bytes r
  version_cut : (flags : ℕ) (rest : List ℕ) → flags < 2 ^ 16 → bytes ≡ big_bytes 2 flags ++ rest
      → Cut (at + 2) 2 rest r → RefusedExtension answer at bytes r
  version_wrong : (flags version : ℕ) (rest : List ℕ) → Extends flags version bytes rest
      → is_valid flags ≡ true → (IsVersion version → ⊥)
      → r ≡ refusal.BadVersion (at + 2) → RefusedExtension answer at bytes r
  hash_cut : (flags version : ℕ) (rest : List ℕ) → Extends flags version bytes rest
      → (not answer && is_valid flags && (version == 0x0101)) ≡ true
      → Cut (at + 4) 32 rest r → RefusedExtension answer at bytes r

-- the number and the MTUs of an opening, which stand behind the header, keep their rules
abbrev pub Opens : ℕ → ℕ → ℕ → List ℕ → List ℕ → Type 0
Opens initial up down bytes rest =
    (initial < 2 ^ 32) × IsMtu up × IsMtu down
    × (bytes ≡ big_bytes 4 initial ++ (big_bytes 2 up ++ (big_bytes 2 down ++ rest)))

-- the bytes of a block that may be there, and of an opening behind its header
abbrev pub block_bytes : Option (List ℕ) → List ℕ
block_bytes block = joined (block_fields block)

abbrev pub syn_bytes : Syn → List ℕ
syn_bytes s = joined (body_fields (SynBody s) (zeros (SynBody s)))

-- The first fault of an opening behind the header. Its flags say whether it answers one, and
-- whether a correlation identifier and an extension are there.
pub data RefusedSyn (answer correlated extended : Bool) (bytes : List ℕ) (r : Refusal1) : Type 0
  where
    initial_cut : Cut 8 4 bytes r → RefusedSyn answer correlated extended bytes r
    up_wrong : (initial : ℕ) (rest : List ℕ) → initial < 2 ^ 32
        → bytes ≡ big_bytes 4 initial ++ rest
        → RefusedMtu 12 rest r → RefusedSyn answer correlated extended bytes r
    down_wrong : (initial up : ℕ) (rest : List ℕ) → initial < 2 ^ 32 → IsMtu up
        → bytes ≡ big_bytes 4 initial ++ (big_bytes 2 up ++ rest)
        → RefusedMtu 14 rest r → RefusedSyn answer correlated extended bytes r
    correlation_cut : (initial up down : ℕ) (rest : List ℕ) → Opens initial up down bytes rest
        → correlated ≡ true → Cut 16 32 rest r → RefusedSyn answer correlated extended bytes r
    extension_wrong : (initial up down : ℕ) (correlation : Option (List ℕ)) (rest : List ℕ)
        → Opens initial up down bytes (block_bytes correlation ++ rest)
        → IsBlock correlated 32 correlation → extended ≡ true
        → RefusedExtension answer (16 + length (block_bytes correlation)) rest r
        → RefusedSyn answer correlated extended bytes r
    padding_wrong : (s : Syn) (b : ℕ) (rest : List ℕ) → IsSyn s → s.answer ≡ answer
        → is_some s.correlation ≡ correlated → is_some s.extension ≡ extended
        → bytes ≡ syn_bytes s ++ (b ∷ rest) → b ≢ 0
        → r ≡ refusal.PaddingNotZero (8 + length (syn_bytes s))
        → RefusedSyn answer correlated extended bytes r

-- ---- other packets

-- a vector's size and as many elements, good or not
abbrev pub Sized : List ℕ → List ℕ → List ℕ → Type 0
Sized elements bytes rest =
    (length elements ≤ 2048) × (bytes ≡ big_bytes 2 (length elements) ++ (elements ++ rest))

-- the first fault of a vector at this place
pub data RefusedVector (at : ℕ) (bytes : List ℕ) (r : Refusal1) : Type 0 where
  size_cut : Cut at 2 bytes r → RefusedVector at bytes r
  too_long : (size : ℕ) (rest : List ℕ) → size < 2 ^ 16 → 2048 < size
      → bytes ≡ big_bytes 2 size ++ rest → r ≡ refusal.VectorTooLong at → RefusedVector at bytes r
  elements_cut : (size : ℕ) (rest : List ℕ) → size ≤ 2048 → bytes ≡ big_bytes 2 size ++ rest
      → Cut (at + 2) size rest r → RefusedVector at bytes r
  state_wrong : (good others rest : List ℕ) (element : ℕ)
      → Sized (good ++ (element ∷ others)) bytes rest → All IsGood good → (IsGood element → ⊥)
      → r ≡ refusal.BadState (at + 2 + length good) → RefusedVector at bytes r
  fill_cut : (elements rest : List ℕ) → Sized elements bytes rest → All IsGood elements
      → Cut (at + 2 + length elements) (to_four (2 + length elements)) rest r
      → RefusedVector at bytes r

-- the two numbers before data, and the two bytes behind them where it is forward error correction
abbrev pub Carries : ℕ → ℕ → List ℕ → List ℕ → Type 0
Carries coded start bytes rest =
    (coded < 2 ^ 32) × (start < 2 ^ 32) × (bytes ≡ big_bytes 4 coded ++ (big_bytes 4 start ++ rest))

-- the first fault of the fields before data, or before bytes of forward error correction
pub data RefusedData (fec : Bool) (at : ℕ) (bytes : List ℕ) (r : Refusal1) : Type 0 where
  coded_cut : Cut at 4 bytes r → RefusedData fec at bytes r
  start_cut : (coded : ℕ) (rest : List ℕ) → coded < 2 ^ 32 → bytes ≡ big_bytes 4 coded ++ rest
      → Cut (at + 4) 4 rest r → RefusedData fec at bytes r
  range_cut : (coded start : ℕ) (rest : List ℕ) → Carries coded start bytes rest → fec ≡ true
      → Cut (at + 8) 1 rest r → RefusedData fec at bytes r
  index_cut : (coded start range : ℕ) (rest : List ℕ)
      → Carries coded start bytes (big_bytes 1 range ++ rest) → fec ≡ true → range < 2 ^ 8
      → Cut (at + 9) 1 rest r → RefusedData fec at bytes r
  after_index_cut : (coded start range index : ℕ) (rest : List ℕ)
      → Carries coded start bytes (big_bytes 1 range ++ (big_bytes 1 index ++ rest))
      → fec ≡ true → range < 2 ^ 8 → index < 2 ^ 8
      → Cut (at + 10) 2 rest r → RefusedData fec at bytes r

-- the bytes of a vector with what fills its last unit
abbrev pub vector_bytes : Option (List ℕ) → List ℕ → List ℕ
vector_bytes vector padding = joined (vector_fields vector padding)

-- The bytes of a vector and of an acknowledgement of acknowledgements, which are there exactly
-- where these flags say so, and keep their rules.
pub record Tells (flags : ℕ) (vector : Option (List ℕ)) (aoa : Option ℕ) (text : List ℕ) : Type 0
  where
    pub padding : List ℕ
    pub told : IsTold vector aoa
    pub fills : Fills vector padding
    pub vector_there : is_some vector ≡ has flags 0x0004
    pub aoa_there : is_some aoa ≡ has flags 0x0100
    pub text_is : text ≡ vector_bytes vector padding ++ joined (aoa_fields aoa)

-- the first fault of a packet with these flags, which opens nothing, behind the header
pub data RefusedTold (flags : ℕ) (bytes : List ℕ) (r : Refusal1) : Type 0 where
  vector_wrong : has flags 0x0004 ≡ true → RefusedVector 8 bytes r → RefusedTold flags bytes r
  aoa_cut : (vector : Option (List ℕ)) (padding rest : List ℕ) → has flags 0x0100 ≡ true
      → is_some vector ≡ has flags 0x0004 → IsVector vector → Fills vector padding
      → bytes ≡ vector_bytes vector padding ++ rest
      → Cut (8 + length (vector_bytes vector padding)) 4 rest r → RefusedTold flags bytes r
  data_wrong : (vector : Option (List ℕ)) (aoa : Option ℕ) (text rest : List ℕ)
      → has flags 0x0008 ≡ true → Tells flags vector aoa text → bytes ≡ text ++ rest
      → RefusedData (has flags 0x0010) (8 + length text) rest r → RefusedTold flags bytes r

-- ---- the packet

-- a header, and what stands behind it
abbrev pub Headed : List ℕ → ℕ → ℕ → ℕ → List ℕ → Type 0
Headed bytes ack window flags rest =
    (ack < 2 ^ 32) × (window < 2 ^ 16) × (flags < 2 ^ 16)
    × (bytes ≡ big_bytes 4 ack ++ (big_bytes 2 window ++ (big_bytes 2 flags ++ rest)))

-- why these bytes are no packet
pub data Refused (bytes : List ℕ) (r : Refusal1) : Type 0 where
  ack_cut : Cut 0 4 bytes r → Refused bytes r
  window_cut : (ack : ℕ) (rest : List ℕ) → ack < 2 ^ 32 → bytes ≡ big_bytes 4 ack ++ rest
      → Cut 4 2 rest r → Refused bytes r
  word_cut : (ack window : ℕ) (rest : List ℕ) → ack < 2 ^ 32 → window < 2 ^ 16
      → bytes ≡ big_bytes 4 ack ++ (big_bytes 2 window ++ rest) → Cut 6 2 rest r → Refused bytes r
  with_data : (ack window flags : ℕ) (rest : List ℕ) → Headed bytes ack window flags rest
      → has flags 0x0001 ≡ true → has flags 0x01FA ≡ true
      → r ≡ refusal.SynWithData 6 → Refused bytes r
  syn_wrong : (ack window flags : ℕ) (rest : List ℕ) → Headed bytes ack window flags rest
      → has flags 0x0001 ≡ true → has flags 0x01FA ≡ false
      → RefusedSyn (has flags 0x0004) (has flags 0x0800) (has flags 0x1000) rest r → Refused bytes r
  told_wrong : (ack window flags : ℕ) (rest : List ℕ) → Headed bytes ack window flags rest
      → has flags 0x0001 ≡ false → RefusedTold flags rest r → Refused bytes r
