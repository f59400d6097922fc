-- The words by which a packet is shown, or the fault that bytes have in place of one.
use Rattle.std.specs.Prelude.{ℕ, Bool, List, [], ◌∷◌, ◌++◌, length, map, codes, Option, Some, None, if◌then◌else◌}
use Rattle.std.specs.List.{join_with_byte}
use Rattle.std.specs.Fmt.{decimal}
use Rattle.byteorder.specs.Endian.{big_bytes}
use Rattle.hex.specs.Hex.{encode_lower}
use Rattle.mt_script.specs.Spelling.{hex_text}
use Rattle.ack_vector.specs.declared.reader.Run.{Run}
use Rattle.ack_vector.specs.Elements.{run_of}
use Rattle.carrier.specs.declared.first_layout.Refusal1.{Refusal1}
use Rattle.carrier.specs.Names.{first_name, first_place}
use Rattle.udp1_packets.specs.Value.{Extended, Syn, Body, SynBody, DataBody, FecBody, BareBody, Packet}

-- a field: its name, and its number, its number of two or of four bytes in so many pairs of
-- digits, or its bytes
abbrev pub number_field : List ℕ → ℕ → List ℕ
number_field name n = name ++ decimal n

abbrev pub digits_field : List ℕ → ℕ → List ℕ
digits_field name n = name ++ encode_lower (big_bytes 2 n)

abbrev pub wide_field : List ℕ → ℕ → List ℕ
wide_field name n = name ++ encode_lower (big_bytes 4 n)

abbrev pub hex_field : List ℕ → List ℕ → List ℕ
hex_field name bytes = name ++ hex_text bytes

-- the word of a field that may be absent
abbrev pub where_there : {A : Type 0} → (A → List ℕ) → Option A → List (List ℕ)
where_there word None = []
where_there word (Some field) = word field ∷ []

-- the runs of a vector: `r` for datagrams that were received, `m` for missing ones, and how many
abbrev pub run_word : Run → List ℕ
run_word run = (if run.received then codes "r" else codes "m") ++ decimal run.length

abbrev pub runs_word : List Run → List ℕ
runs_word [] = codes "-"
runs_word (run ∷ runs) = join_with_byte 44 (map run_word (run ∷ runs))

abbrev pub vector_word : List ℕ → List ℕ
vector_word elements = codes "vector=" ++ runs_word (map run_of elements)

-- what acknowledges, where it is there
abbrev pub told_words : Option (List ℕ) → Option ℕ → List (List ℕ)
told_words vector aoa = where_there vector_word vector ++ where_there (number_field (codes "aoa=")) aoa

-- an extension's flags and version, and its hash where it is there
abbrev pub extended_words : Extended → List (List ℕ)
extended_words e =
    digits_field (codes "flags=") e.flags ∷ digits_field (codes "version=") e.version
    ∷ where_there (hex_field (codes "hash=")) e.hash

abbrev pub extension_words : Option Extended → List (List ℕ)
extension_words None = []
extension_words (Some e) = extended_words e

-- an opening, or its answer
abbrev pub opening_word : Bool → List ℕ
opening_word answer = if answer then codes "synack" else codes "syn"

abbrev pub syn_words : Syn → List (List ℕ)
syn_words s =
    opening_word s.answer ∷ number_field (codes "initial=") s.initial ∷ number_field (codes "up=") s.up ∷ number_field (codes "down=") s.down
    ∷ (where_there (hex_field (codes "correlation=")) s.correlation ++ (extension_words s.extension ++ number_field (codes "padding=") s.padding ∷ []))

-- the bytes of a source packet, or of one of forward error correction
abbrev pub data_words : (coded start : ℕ) → List ℕ → List (List ℕ)
data_words coded start bytes =
    codes "data" ∷ number_field (codes "coded=") coded ∷ number_field (codes "start=") start ∷ hex_field (codes "bytes=") bytes ∷ []

abbrev pub fec_words : (coded start range index : ℕ) → List ℕ → List (List ℕ)
fec_words coded start range index bytes =
    codes "fec" ∷ number_field (codes "coded=") coded ∷ number_field (codes "start=") start ∷ number_field (codes "range=") range
    ∷ number_field (codes "index=") index ∷ hex_field (codes "bytes=") bytes ∷ []

-- how many bytes follow acknowledgements alone
abbrev pub bare_words : List ℕ → List (List ℕ)
bare_words rest = codes "bare" ∷ number_field (codes "rest=") (length rest) ∷ []

-- what stands behind the header
abbrev pub body_words : Body → List (List ℕ)
body_words (SynBody s) = syn_words s
body_words (DataBody vector aoa coded start bytes) = told_words vector aoa ++ data_words coded start bytes
body_words (FecBody vector aoa coded start range index bytes) = told_words vector aoa ++ fec_words coded start range index bytes
body_words (BareBody vector aoa rest) = told_words vector aoa ++ bare_words rest

-- a packet
abbrev pub packet_words : Packet → List (List ℕ)
packet_words p =
    number_field (codes "ack=") p.ack ∷ number_field (codes "window=") p.window ∷ digits_field (codes "marks=") p.marks ∷ body_words p.body

-- a fault, which has a name and a place
abbrev pub fault_words : List ℕ → ℕ → List (List ℕ)
fault_words name at = codes "refused" ∷ name ∷ codes "at" ∷ decimal at ∷ []

-- a fault of a datagram of the first layout
abbrev pub refusal_words : Refusal1 → List (List ℕ)
refusal_words r = fault_words (first_name r) (first_place r)
