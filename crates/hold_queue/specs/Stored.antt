-- How the PDUs stand in two rings: their records, and their bytes one after the other.
use Rattle.std.specs.Prelude.{◌≡◌, ◌==◌, ℕ, ◌+◌, ◌≤◌, List, [], ◌∷◌, ◌++◌, length, take, drop, All, slice_get, Bool, true, false, Option, Some, None, if◌then◌else◌}
use Rattle.hold_queue.specs.Held.{Pdu, pdu_of, without}
use Rattle.hold_queue.specs.declared.record.Record.{Record}

-- the record of a PDU that is held
abbrev pub record_of : ℕ → ℕ → ℕ → Record
record_of id at length = record { id = id; at = at; length = length; is_held = true }

-- the bytes that these records speak of
abbrev pub total : List Record → ℕ
total [] = 0
total (r ∷ records) = r.length + total records

-- the PDU of a record, at the front of the bytes; none where it is gone
abbrev pub first_of : Record → List ℕ → List Pdu
first_of r bytes = if r.is_held then pdu_of r.id r.at (take r.length bytes) ∷ [] else []

-- the PDUs that are held
abbrev pub held_in : List Record → List ℕ → List Pdu
held_in [] bytes = []
held_in (r ∷ records) bytes = first_of r bytes ++ held_in records (drop r.length bytes)

-- records and bytes belong together, and the rings have room for them
pub record IsStored (records : List Record) (bytes : List ℕ) : Type 0 where
  pub short : All (λ (r : Record). r.length ≤ 1600) records
  pub total_is : total records ≡ length bytes
  pub few : length records ≤ 131072
  pub within : length bytes ≤ 2097152

-- a record is of a PDU that is held for this channel
abbrev pub is_for : ℕ → Record → Bool
is_for id r = if r.is_held then r.id == id else false

-- the first record of a PDU that is held for this channel: its index, and the place of its bytes
pub record IsFirst (id : ℕ) (records : List Record) (index place : ℕ) (r : Record) : Type 0 where
  pub is : slice_get records index ≡ Some r
  pub for_channel : is_for id r ≡ true
  pub none_before : All (λ (s : Record). is_for id s ≡ false) (take index records)
  pub place_is : place ≡ total (take index records)

-- the record of a PDU that is no longer held
abbrev pub gone : Record → Record
gone r = record r { is_held = false }

-- a record stays where gone ones leave, and those of a channel that is named
abbrev pub stays : Option ℕ → Record → Bool
stays None r = r.is_held
stays (Some id) r = if r.id == id then false else r.is_held

-- the PDUs without those of a channel that is named
abbrev pub left : Option ℕ → List Pdu → List Pdu
left None pdus = pdus
left (Some id) pdus = without id pdus

-- the rings after their first record and its bytes went to the end, or left
abbrev pub turned_records : Option ℕ → List Record → List Record
turned_records leaving [] = []
turned_records leaving (r ∷ records) = records ++ (if stays leaving r then r ∷ [] else [])

abbrev pub turned_bytes : Option ℕ → List Record → List ℕ → List ℕ
turned_bytes leaving [] bytes = bytes
turned_bytes leaving (r ∷ records) bytes =
    drop r.length bytes ++ (if stays leaving r then take r.length bytes else [])
