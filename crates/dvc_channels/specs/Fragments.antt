-- The PDUs that a message is cut into (MS-RDPEDYC section 3.1.5.1.4): one Data PDU where it fits
-- 1,600 bytes; else a DataFirst of 1,600 bytes, and Data PDUs of 1,600 bytes but the last.
use Rattle.std.specs.Prelude.{ℕ, zero, suc, ◌+◌, ◌-◌, ◌/◌, List, [], ◌∷◌, length, map, take, drop, nat_le, if◌then◌else◌}
use Rattle.dvc_pdus.specs.Value.{Pdu, DataFirst, Data, smallest}

-- the bytes of a message for which a Data PDU of this channel has room, beside its header byte and
-- its id
abbrev pub room : ℕ → ℕ
room id = 1599 - length (smallest id)

-- and for which a DataFirst has, beside these and the message's length
abbrev pub first_room : ℕ → ℕ → ℕ
first_room id total = room id - length (smallest total)

-- the first so many pieces of n elements; the last one may have fewer
abbrev pub cut_in : ℕ → ℕ → List ℕ → List (List ℕ)
cut_in zero n xs = []
cut_in (suc count) n xs = take n xs ∷ cut_in count n (drop n xs)

-- a list in pieces of n elements and a last one of what is left
abbrev pub in_pieces : ℕ → List ℕ → List (List ℕ)
in_pieces n xs = cut_in ((length xs + (n - 1)) / n) n xs

-- the PDUs of a message
abbrev pub fragments_of : ℕ → List ℕ → List Pdu
fragments_of id message =
    if nat_le (length message) (room id) then Data id message ∷ []
    else DataFirst id (length message) (take (first_room id (length message)) message)
    ∷ map (Data id) (in_pieces (room id) (drop (first_room id (length message)) message))
