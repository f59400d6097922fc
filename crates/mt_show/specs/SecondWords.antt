-- The words by which a packet of the second layout is shown, or the fault that bytes have in place
-- of one.
use Rattle.std.specs.Prelude.{ℕ, Bool, List, [], ◌∷◌, ◌++◌, length, flat_map, codes, Option, Some, None, if◌then◌else◌}
use Rattle.carrier.specs.declared.second_layout.Refusal2.{Refusal2}
use Rattle.carrier.specs.Names.{second_name, second_place}
use Rattle.coded_vector.specs.CodedBytes.{flags_of}
use Rattle.udp2_packets.specs.Value.{Ack, Vector, Delay, Body, NoBody, DataBody, DummyBody, Packet}
use Rattle.udp2_packets.specs.Layout.{ack_in, vector_in, number_in, kind}
use Rattle.mt_show.specs.Words.{number_field, hex_field, where_there, fault_words}

-- the words of a part that may be absent
abbrev pub words_there : {A : Type 0} → (A → List (List ℕ)) → Option A → List (List ℕ)
words_there words None = []
words_there words (Some part) = words part

-- the number that is acknowledged, and how many before it are
abbrev pub ack_words : Ack → List (List ℕ)
ack_words a =
    number_field (codes "ack=") a.number ∷ number_field (codes "delayed=") (length a.delays) ∷ []

-- how many acknowledgements may be delayed, and how long
abbrev pub delay_word : Delay → List ℕ
delay_word d = number_field (codes "delay=") d.most ++ number_field (codes ",") d.timeout

-- one letter for each number of a vector: `r` where it was received, `m` where it is missing
abbrev pub flag_letter : Bool → List ℕ
flag_letter received = if received then codes "r" else codes "m"

abbrev pub flags_word : List Bool → List ℕ
flags_word [] = codes "-"
flags_word (flag ∷ flags) = flat_map flag_letter (flag ∷ flags)

-- the first number of a vector, and its flags
abbrev pub vector_words : Vector → List (List ℕ)
vector_words v =
    number_field (codes "base=") v.base ∷ (codes "flags=" ++ flags_word (flags_of v.coded)) ∷ []

-- what ends the packet: data, or how many bytes of a dummy
abbrev pub last_words : Body → List (List ℕ)
last_words NoBody = []
last_words (DataBody number part bytes) =
    number_field (codes "part=") part ∷ hex_field (codes "bytes=") bytes ∷ []
last_words (DummyBody number rest) = number_field (codes "rest=") (length rest) ∷ []

-- a packet
abbrev pub second_words : Packet → List (List ℕ)
second_words p =
    number_field (codes "type=") (kind p.body) ∷ number_field (codes "log=") p.log_window
    ∷ (words_there ack_words (ack_in p.telling)
    ++ (where_there (number_field (codes "overhead=")) p.overhead
    ++ (where_there delay_word p.delay
    ++ (where_there (number_field (codes "aoa=")) p.aoa
    ++ (where_there (number_field (codes "number=")) (number_in p.body)
    ++ (words_there vector_words (vector_in p.telling)
    ++ last_words p.body))))))

-- a fault
abbrev pub second_refusal_words : Refusal2 → List (List ℕ)
second_refusal_words r = fault_words (second_name r) (second_place r)
