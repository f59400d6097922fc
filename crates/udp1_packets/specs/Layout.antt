-- The first layout (MS-RDPEUDP section 2.2): which bytes spell a packet. All numbers stand with
-- their highest byte first.
use Rattle.std.specs.Prelude.{◌≡◌, ◌⊎◌, ℕ, ◌+◌, ◌-◌, ◌%◌, ◌^◌, ◌<◌, ◌≤◌, ◌==◌, Bool, true, ◌&&◌, not, List, [], ◌∷◌, ◌++◌, length, replicate, All, Option, Some, None, is_some, IfSome, if◌then◌else◌}
use Rattle.std.specs.Int.RustNames.{bit_and}
use Rattle.byteorder.specs.Endian.{big_bytes}
use Rattle.mt_base.specs.Writing.{joined}
use Rattle.ack_vector.specs.Elements.{IsGood}
use Rattle.udp1_packets.specs.Value.{Extended, Syn, Body, SynBody, DataBody, FecBody, BareBody, Packet}

-- ---- the word of flags

-- one of these flags is set
abbrev pub has : ℕ → ℕ → Bool
has flags mask = not (bit_and flags mask == 0)

-- a flag, where something is so
abbrev pub flag_if : Bool → ℕ → ℕ
flag_if set flag = if set then flag else 0

-- The flags that announce what a body holds: SYN 0x0001, ACK 0x0004, DATA 0x0008, FEC 0x0010,
-- ACK_OF_ACKS 0x0100, CORRELATION_ID 0x0800, SYNEX 0x1000.
abbrev pub announced : Body → ℕ
announced (SynBody s) =
    0x0001 + flag_if s.answer 0x0004 + flag_if (is_some s.correlation) 0x0800
    + flag_if (is_some s.extension) 0x1000
announced (DataBody vector aoa coded start bytes) =
    0x0008 + flag_if (is_some vector) 0x0004 + flag_if (is_some aoa) 0x0100
announced (FecBody vector aoa coded start range index bytes) =
    0x0018 + flag_if (is_some vector) 0x0004 + flag_if (is_some aoa) 0x0100
announced (BareBody vector aoa rest) =
    flag_if (is_some vector) 0x0004 + flag_if (is_some aoa) 0x0100

-- The flags that announce nothing in such a body, and may be set: its marks. Behind an opening
-- packet they leave out what no opening carries.
abbrev pub mark_mask : Body → ℕ
mark_mask (SynBody s) = 0xE600
mark_mask (DataBody vector aoa coded start bytes) = 0xFEE2
mark_mask (FecBody vector aoa coded start range index bytes) = 0xFEE2
mark_mask (BareBody vector aoa rest) = 0xFEF2

-- the word
abbrev pub flags : Packet → ℕ
flags p = p.marks + announced p.body

-- ---- the fields in order

-- What a writer may choose: the bytes that fill a vector's last unit, and the two bytes behind the
-- index of a FEC packet. No reader looks at them.
pub record Choice : Type 0 where
  pub after_vector : List ℕ
  pub after_index : List ℕ

-- bytes as one field, where they are there
abbrev pub block_fields : Option (List ℕ) → List (List ℕ)
block_fields None = []
block_fields (Some bytes) = bytes ∷ []

-- an extension's flags, its version, and its hash where it is there
abbrev pub extension_fields : Option Extended → List (List ℕ)
extension_fields None = []
extension_fields (Some e) = big_bytes 2 e.flags ∷ big_bytes 2 e.version ∷ block_fields e.hash

-- a vector: the size, the elements, and bytes up to the end of a four-byte unit
abbrev pub vector_fields : Option (List ℕ) → List ℕ → List (List ℕ)
vector_fields None padding = []
vector_fields (Some elements) padding = big_bytes 2 (length elements) ∷ elements ∷ padding ∷ []

-- an acknowledgement of acknowledgements, where it is there
abbrev pub aoa_fields : Option ℕ → List (List ℕ)
aoa_fields None = []
aoa_fields (Some number) = big_bytes 4 number ∷ []

-- an opening packet, data, a packet of forward error correction, or acknowledgements alone
abbrev pub body_fields : Body → Choice → List (List ℕ)
body_fields (SynBody s) c =
    big_bytes 4 s.initial ∷ big_bytes 2 s.up ∷ big_bytes 2 s.down
    ∷ (block_fields s.correlation ++ (extension_fields s.extension ++ (replicate s.padding 0 ∷ [])))
body_fields (DataBody vector aoa coded start bytes) c =
    vector_fields vector c.after_vector
    ++ (aoa_fields aoa ++ (big_bytes 4 coded ∷ big_bytes 4 start ∷ bytes ∷ []))
body_fields (FecBody vector aoa coded start range index bytes) c =
    vector_fields vector c.after_vector
    ++ (aoa_fields aoa
    ++ (big_bytes 4 coded ∷ big_bytes 4 start
    ∷ big_bytes 1 range ∷ big_bytes 1 index ∷ c.after_index ∷ bytes ∷ []))
body_fields (BareBody vector aoa rest) c =
    vector_fields vector c.after_vector ++ (aoa_fields aoa ++ (rest ∷ []))

-- the fields of a packet in order, the header first
abbrev pub fields : Packet → Choice → List (List ℕ)
fields p c =
    big_bytes 4 p.ack ∷ big_bytes 2 p.window ∷ big_bytes 2 (flags p) ∷ body_fields p.body c

-- ---- the values that the layout has

abbrev pub IsBytes : List ℕ → Type 0
IsBytes bytes = All (λ b. b < 256) bytes

-- the MTUs are 1132 to 1232
abbrev pub IsMtu : ℕ → Type 0
IsMtu mtu = (1132 ≤ mtu) × (mtu ≤ 1232)

-- bytes of this number are there exactly where something is so
abbrev pub IsBlock : Bool → ℕ → Option (List ℕ) → Type 0
IsBlock there count block =
    (is_some block ≡ there) × IfSome block (λ bytes. (length bytes ≡ count) × IsBytes bytes)

-- the first flag says that the version is valid
abbrev pub is_valid : ℕ → Bool
is_valid flags = has flags 0x0001

abbrev pub IsVersion : ℕ → Type 0
IsVersion version = (version ≡ 0x0001) ⊎ (version ≡ 0x0002) ⊎ (version ≡ 0x0101)

-- An extension: a version that is said to be valid is known, and 32 bytes of hash are there exactly
-- where the packet is no answer and the version is said to be 0x0101.
pub record IsExtended (answer : Bool) (e : Extended) : Type 0 where
  pub flags_fit : e.flags < 2 ^ 16
  pub version_fits : e.version < 2 ^ 16
  pub version_known : is_valid e.flags ≡ true → IsVersion e.version
  pub hash_is : IsBlock (not answer && is_valid e.flags && (e.version == 0x0101)) 32 e.hash

-- an opening packet
pub record IsSyn (s : Syn) : Type 0 where
  pub initial_fits : s.initial < 2 ^ 32
  pub up_is : IsMtu s.up
  pub down_is : IsMtu s.down
  pub correlation_is : IfSome s.correlation (λ bytes. (length bytes ≡ 32) × IsBytes bytes)
  pub extension_is : IfSome s.extension (IsExtended s.answer)

-- a vector has at most 2,048 elements, all good
abbrev pub IsVector : Option (List ℕ) → Type 0
IsVector vector = IfSome vector (λ elements. (length elements ≤ 2048) × All IsGood elements)

-- a vector and an acknowledgement of acknowledgements
pub record IsTold (vector : Option (List ℕ)) (aoa : Option ℕ) : Type 0 where
  pub vector_is : IsVector vector
  pub aoa_fits : IfSome aoa (λ number. number < 2 ^ 32)

abbrev pub IsBody : Body → Type 0
IsBody (SynBody s) = IsSyn s
IsBody (DataBody vector aoa coded start bytes) =
    IsTold vector aoa × (coded < 2 ^ 32) × (start < 2 ^ 32) × IsBytes bytes
IsBody (FecBody vector aoa coded start range index bytes) =
    IsTold vector aoa × (coded < 2 ^ 32) × (start < 2 ^ 32) × (range < 2 ^ 8) × (index < 2 ^ 8)
    × IsBytes bytes
IsBody (BareBody vector aoa rest) = IsTold vector aoa × IsBytes rest

-- the layout has this value
pub record IsPacket (p : Packet) : Type 0 where
  pub ack_fits : p.ack < 2 ^ 32
  pub window_fits : p.window < 2 ^ 16
  pub marks_within : bit_and p.marks (mark_mask p.body) ≡ p.marks
  pub body_is : IsBody p.body

-- ---- what bytes spell

-- bytes that fill the last four-byte unit of a vector's size and elements, where there is a vector
abbrev pub Fills : Option (List ℕ) → List ℕ → Type 0
Fills None padding = padding ≡ []
Fills (Some elements) padding =
    (length padding < 4) × ((2 + length elements + length padding) % 4 ≡ 0) × IsBytes padding

-- a choice that the layout of this body leaves
abbrev pub Allows : Body → Choice → Type 0
Allows (SynBody s) c = (c.after_vector ≡ []) × (c.after_index ≡ [])
Allows (DataBody vector aoa coded start bytes) c =
    Fills vector c.after_vector × (c.after_index ≡ [])
Allows (FecBody vector aoa coded start range index bytes) c =
    Fills vector c.after_vector × (length c.after_index ≡ 2) × IsBytes c.after_index
Allows (BareBody vector aoa rest) c = Fills vector c.after_vector × (c.after_index ≡ [])

-- these bytes spell this packet
pub record Spells (bytes : List ℕ) (p : Packet) : Type 0 where
  pub choice : Choice
  pub allowed : Allows p.body choice
  pub is : IsPacket p
  pub bytes_are : bytes ≡ joined (fields p choice)

-- ---- what a writer chooses: zeros

-- how many bytes bring a number up to the next multiple of four
abbrev pub to_four : ℕ → ℕ
to_four n = (4 - n % 4) % 4

abbrev pub zeros_after : Option (List ℕ) → List ℕ
zeros_after None = []
zeros_after (Some elements) = replicate (to_four (2 + length elements)) 0

abbrev pub zeros : Body → Choice
zeros (SynBody s) = record { after_vector = []; after_index = [] }
zeros (DataBody vector aoa coded start bytes) =
    record { after_vector = zeros_after vector; after_index = [] }
zeros (FecBody vector aoa coded start range index bytes) =
    record { after_vector = zeros_after vector; after_index = 0 ∷ 0 ∷ [] }
zeros (BareBody vector aoa rest) = record { after_vector = zeros_after vector; after_index = [] }

-- the fields that a writer writes, and their bytes
abbrev pub written_fields : Packet → List (List ℕ)
written_fields p = fields p (zeros p.body)

abbrev pub spelled : Packet → List ℕ
spelled p = joined (written_fields p)
