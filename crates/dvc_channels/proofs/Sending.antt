-- The PDUs of a message: how many they are, each of them, what they make, and that they fit.
use Rattle.std.proofs.Common.{◌≡◌, ℕ, zero, suc, ◌+◌, ◌-◌, ◌*◌, ◌/◌, ◌^◌, ◌<◌, ◌≤◌, ltb, List, [], ◌∷◌, ◌++◌, length, map, take, drop, flat_map, slice_get, Some, refl, sym, ap, ap₂, ◌∙◌, subst, inl, inr, arith}
use Rattle.std.specs.Int.{div_ceil}
use Rattle.std.specs.List.{All}
use Rattle.std.specs.Option.{option_map}
use Rattle.std.proofs.lemmas.Bool.{cases_lt, cond_both, le-leb, lt-leb}
use Rattle.std.proofs.lemmas.List.{length-drop, length-take, length-append, length-map, drop-drop, append-nil, append_assoc, take-append-drop}
use Rattle.std.proofs.lemmas.List.Elements.{All-nil, All-cons, All-take, All-drop, All-map}
use Rattle.std.proofs.lemmas.Option.{slice_get-map, slice_get_within, get_or_from_slice_get}
use Rattle.std.proofs.lemmas.Grind.{flat_map-append}
use Rattle.mt_base.specs.Writing.{joined}
use Rattle.mt_base.proofs.Fill.{joined-push}
use Rattle.mt_base.specs.declared.kinds.Role.{Role}
use Rattle.dvc_pdus.specs.Value.{Pdu, DataFirst, Data, smallest, spelled, AreBytes, IsPdu}
use Rattle.dvc_channels.specs.Acts.{IsData}
use Rattle.dvc_channels.specs.Pieces.{First, Next, pieces_of}
use Rattle.dvc_channels.specs.Cutting.{IsCut, lone, filled, AreCut, none, more}
use Rattle.dvc_channels.specs.Fragments.{room, first_room, cut_in, in_pieces, fragments_of}
use Rattle.dvc_channels.proofs.Portions.{length-cut_in, cut_in_at, each_cut, IsJoin, in_pieces_join, begins_within, rounded_up}

-- an id or a length takes one to four bytes
pub sizes : (number : ℕ) → (0 < length (smallest number)) × (length (smallest number) ≤ 4)
sizes number = cond_both (ltb number (2 ^ 8)) _ _ (λ t. (0 < length t) × (length t ≤ 4)) (λ e. (omega arith, omega arith))
    (λ e. cond_both (ltb number (2 ^ 16)) _ _ (λ t. (0 < length t) × (length t ≤ 4)) (λ e. (omega arith, omega arith)) (λ e. (omega arith, omega arith)))

-- how the PDUs of a message are known: one, or a first and others
pub one_pdu : (id : ℕ) (message : List ℕ) → length message ≤ room id → fragments_of id message ≡ Data id message ∷ []
one_pdu id message h = rw (le-leb (length message) (room id) h) refl

-- the bytes behind those of the first PDU
abbrev pub later : ℕ → List ℕ → List ℕ
later id message = drop (first_room id (length message)) message

pub many_pdus : (id : ℕ) (message : List ℕ) → room id < length message
    → fragments_of id message ≡ DataFirst id (length message) (take (first_room id (length message)) message) ∷ map (Data id) (in_pieces (room id) (later id message))
many_pdus id message h = rw (lt-leb (length message) (room id) h) refl

-- a message too long for one PDU has bytes behind the first
pub some_later : (id : ℕ) (message : List ℕ) → room id < length message → 0 < length (later id message)
some_later id message h = omega (arith, length-drop (first_room id (length message)) message)

pub some_room : (id : ℕ) → 0 < room id
some_room id = omega (arith, sizes id)

-- ---- what they make

pieces_of_data : (id : ℕ) (pieces : List (List ℕ)) → flat_map pieces_of (map (Data id) pieces) ≡ map Next pieces
pieces_of_data id [] = refl
pieces_of_data id (bytes ∷ pieces) = ap (λ t. Next bytes ∷ t) (pieces_of_data id pieces)

pieces_of_many : (id : ℕ) (message first : List ℕ) (pieces : List (List ℕ)) (rest : List ℕ) → first ++ rest ≡ message → IsJoin pieces rest
    → IsCut (First (length message) first ∷ map Next pieces) message
pieces_of_many id message first pieces rest whole j =
    let all : first ++ joined j.middle ++ j.last ≡ message = append_assoc first (joined j.middle) j.last ∙ ap (λ t. first ++ t) j.whole ∙ whole in
    subst (λ t. IsCut (First (length message) first ∷ map Next t) message) (sym j.pieces_are)
    (subst (λ t. IsCut (First (length t) first ∷ map Next (j.middle ++ j.last ∷ [])) t) all (filled first j.middle j.last j.some))

pub fragments_cut : (id : ℕ) (message : List ℕ) → IsCut (flat_map pieces_of (fragments_of id message)) message
fragments_cut id message = elim (cases_lt (room id) (length message)) [
  | inl long ↦
      (let first = take (first_room id (length message)) message in
      let pieces = in_pieces (room id) (later id message) in
      let known : flat_map pieces_of (fragments_of id message) ≡ First (length message) first ∷ map Next pieces =
      ap (flat_map pieces_of) (many_pdus id message long) ∙ ap (λ t. First (length message) first ∷ t) (pieces_of_data id pieces) in
      subst (λ t. IsCut t message) (sym known)
      (pieces_of_many id message first pieces (later id message) (take-append-drop (first_room id (length message)) message)
      (in_pieces_join (room id) (later id message) (some_room id) (some_later id message long))))
  | inr short ↦ subst (λ t. IsCut (flat_map pieces_of t) message) (sym (one_pdu id message short)) (lone message)
]

pub sent_are_cut : (id : ℕ) (sent : List (List ℕ)) → AreCut (flat_map pieces_of (flat_map (fragments_of id) sent)) sent
sent_are_cut id [] = none
sent_are_cut id (message ∷ sent) =
    subst (λ t. AreCut t (message ∷ sent)) (sym (flat_map-append pieces_of (fragments_of id message) (flat_map (fragments_of id) sent)))
    (more (flat_map pieces_of (fragments_of id message)) (flat_map pieces_of (flat_map (fragments_of id) sent)) message sent
    (fragments_cut id message) (sent_are_cut id sent))

-- ---- that they fit

-- what holds of a PDU of all bytes, of the first one, and of Data PDUs of bytes from any place on
pub each_fragment : (P : Pdu → Type 0) (id : ℕ) (message : List ℕ)
    → (length message ≤ room id → P (Data id message))
    → (room id < length message → P (DataFirst id (length message) (take (first_room id (length message)) message)))
    → ((bytes : List ℕ) (at : ℕ) → bytes ≡ take (room id) (drop at message) → P (Data id bytes))
    → All P (fragments_of id message)
each_fragment P id message one first others = elim (cases_lt (room id) (length message)) [
  | inl long ↦
      (let n = first_room id (length message) in
      let tail : All P (map (Data id) (in_pieces (room id) (later id message))) = All-map P (Data id) (in_pieces (room id) (later id message))
      (each_cut (λ bytes. P (Data id bytes)) _ (room id) (later id message)
      (λ at. others (take (room id) (drop at (later id message))) (n + at) (ap (take (room id)) (drop-drop at n message)))) in
      subst (All P) (sym (many_pdus id message long)) (All-cons P _ _ (first long) tail))
  | inr short ↦ subst (All P) (sym (one_pdu id message short)) (All-cons P (Data id message) [] (one short) (All-nil P))
]

pub length-take-below : (n : ℕ) (xs : List ℕ) → length (take n xs) ≤ n
length-take-below n xs = omega (arith, length-take n xs)

pub fragments_taken : (id : ℕ) (message : List ℕ) → All IsData (fragments_of id message)
fragments_taken id message = each_fragment IsData id message
    (λ short. omega (arith, sizes id))
    (λ long. (omega (arith, length-take (first_room id (length message)) message), omega (arith, length-take (first_room id (length message)) message)))
    (λ bytes at is. omega (arith, ap length is, length-take-below (room id) (drop at message)))

-- the bytes of a Data PDU
pub length-data : (id : ℕ) (bytes : List ℕ) → length (spelled (Data id bytes)) ≡ 1 + length (smallest id) + length bytes
length-data id bytes = omega (arith, length-append (smallest id) (bytes ++ []), ap length (append-nil bytes))

pub length-data_first : (id total : ℕ) (bytes : List ℕ) → length (spelled (DataFirst id total bytes)) ≡ 1 + length (smallest id) + length (smallest total) + length bytes
length-data_first id total bytes =
    omega (arith, length-append (smallest id) (smallest total ++ (bytes ++ [])), length-append (smallest total) (bytes ++ []), ap length (append-nil bytes))

abbrev pub IsByte : ℕ → Type 0
IsByte b = b < 2 ^ 8

pub fragments_sent : (from : Role) (id : ℕ) (message : List ℕ) → id < 2 ^ 32 → length message < 2 ^ 32 → AreBytes message
    → All (IsPdu from) (fragments_of id message)
fragments_sent from id message fits long bytes_are = each_fragment (IsPdu from) id message
    (λ short. ((fits, bytes_are), omega (arith, length-data id message, sizes id)))
    (λ long'.
    (let n = first_room id (length message) in
    let below = length-take n message in (
      (fits, long, All-take IsByte n message bytes_are, omega (arith, below)),
      omega (arith, length-data_first id (length message) (take n message), sizes id, sizes (length message), below),
    )))
    (λ bytes at is. (
      (fits, subst AreBytes (sym is) (All-take IsByte (room id) (drop at message) (All-drop IsByte at message bytes_are))),
      omega (arith, length-data id bytes, ap length is, length-take-below (room id) (drop at message), sizes id),
    ))

-- ---- how many they are, and each of them

pub count_of_many : (id : ℕ) (message : List ℕ) → room id < length message
    → length (fragments_of id message) ≡ 1 + (length message - first_room id (length message) + (room id - 1)) / room id
count_of_many id message h =
    let pieces = in_pieces (room id) (later id message) in
    let counted : length (map (Data id) pieces) ≡ (length (later id message) + (room id - 1)) / room id =
    length-map pieces (Data id) ∙ length-cut_in ((length (later id message) + (room id - 1)) / room id) (room id) (later id message) in
    let left : length (later id message) ≡ length message - first_room id (length message) = length-drop (first_room id (length message)) message in
    let known : length (fragments_of id message) ≡ suc (length (map (Data id) pieces)) = ap length (many_pdus id message h) in
    let same : (length (later id message) + (room id - 1)) / room id ≡ (length message - first_room id (length message) + (room id - 1)) / room id =
    ap (λ n. (n + (room id - 1)) / room id) left in
    omega (arith, known, counted, same)

-- the same by a quotient rounded up, of numbers that are these
pub count_of_numbers : (id total r s q : ℕ) (message : List ℕ) → length message ≡ total → r ≡ room id → s ≡ length (smallest total) → r < total
    → q ≡ div_ceil (total - (r - s)) r → 1 + q ≡ length (fragments_of id message)
count_of_numbers id total r s q message is room_is size_is long q_is =
    let size : s ≡ length (smallest (length message)) = size_is ∙ ap (λ n. length (smallest n)) (sym is) in
    let left : total - (r - s) ≡ length message - first_room id (length message) = omega arith in
    let quotient : q ≡ (length message - first_room id (length message) + (room id - 1)) / room id =
    q_is ∙ ap₂ div_ceil left room_is ∙ sym (rounded_up (length message - first_room id (length message)) (room id) (some_room id)) in
    omega (arith, quotient, count_of_many id message (omega arith))

-- the PDU of the number 0 where there are more
pub first_at : (id : ℕ) (message : List ℕ) → room id < length message
    → slice_get (fragments_of id message) 0 ≡ Some (DataFirst id (length message) (take (first_room id (length message)) message))
first_at id message h = ap (λ t. slice_get t 0) (many_pdus id message h)

-- and of a later number
pub later_at : (id : ℕ) (message : List ℕ) (k : ℕ) → room id < length message → suc k < length (fragments_of id message)
    → (k * room id < length (later id message)) × (slice_get (fragments_of id message) (suc k) ≡ Some (Data id (take (room id) (drop (first_room id (length message) + k * room id) message))))
later_at id message k long h =
    let n = first_room id (length message) in
    let rest = later id message in
    let count = (length rest + (room id - 1)) / room id in
    let below : k < count = omega (arith, h, count_of_many id message long, ap (λ n. (n + (room id - 1)) / room id) (length-drop n message)) in
    let at : slice_get (cut_in count (room id) rest) k ≡ Some (take (room id) (drop (n + k * room id) message)) =
    cut_in_at count (room id) rest k below ∙ ap (λ t. Some (take (room id) t)) (drop-drop (k * room id) n message) in (
      begins_within (length rest) (room id) k (some_room id) (some_later id message long) below,
      ap (λ t. slice_get t (suc k)) (many_pdus id message long) ∙ slice_get-map (Data id) (cut_in count (room id) rest) k ∙ ap (option_map (Data id)) at,
    )

-- the same of numbers that are these
pub later_of_numbers : (id r s k : ℕ) (message : List ℕ) → r ≡ room id → s ≡ length (smallest (length message)) → r < length message
    → (k ≡ 0 → ⊥) → k < length (fragments_of id message)
    → (r - s + (k - 1) * r ≤ length message) × (slice_get (fragments_of id message) k ≡ Some (Data id (take r (drop (r - s + (k - 1) * r) message))))
later_of_numbers id r s zero message room_is size_is long some h = absurd (some refl)
later_of_numbers id r s (suc k) message room_is size_is long some h =
    let before : suc k - 1 ≡ k = omega arith in
    let times : k * room id ≡ (suc k - 1) * r = ap₂ (λ a b. a * b) (sym before) (sym room_is) in
    let place : first_room id (length message) + k * room id ≡ r - s + (suc k - 1) * r = omega (arith, times) in
    let at = later_at id message k (omega arith) h in
    let within = length-drop (first_room id (length message)) message in (
      omega (arith, place, at.0, within),
      at.1 ∙ ap₂ (λ n start. Some (Data id (take n (drop start message)))) (sym room_is) place,
    )

-- each of them is one that an end may send
pub sent_at : (from : Role) (id : ℕ) (message : List ℕ) (k : ℕ) (pdu : Pdu) → id < 2 ^ 32 → length message < 2 ^ 32 → AreBytes message
    → slice_get (fragments_of id message) k ≡ Some pdu → IsPdu from pdu
sent_at from id message k pdu fits long bytes is =
    subst (IsPdu from) (get_or_from_slice_get (fragments_of id message) k pdu pdu is)
    (fragments_sent from id message fits long bytes k pdu (slice_get_within (fragments_of id message) k pdu is))

-- ---- how many bytes they have

data_bytes : (id : ℕ) (pieces : List (List ℕ)) → length (flat_map spelled (map (Data id) pieces)) ≡ length pieces * (1 + length (smallest id)) + length (joined pieces)
data_bytes id [] = omega arith
data_bytes id (bytes ∷ pieces) =
    omega (arith, length-append (spelled (Data id bytes)) (flat_map spelled (map (Data id) pieces)), length-data id bytes, data_bytes id pieces, length-append bytes (joined pieces))

length-joined : (pieces : List (List ℕ)) (xs : List ℕ) → IsJoin pieces xs → length (joined pieces) ≡ length xs
length-joined pieces xs j =
    ap (λ t. length (joined t)) j.pieces_are ∙ ap length (joined-push j.middle j.last ∙ j.whole)

pub bytes_of_one : (id : ℕ) (message : List ℕ) → length message ≤ room id
    → length (flat_map spelled (fragments_of id message)) ≡ length (fragments_of id message) * (1 + length (smallest id)) + length message
bytes_of_one id message short =
    let sum : length (flat_map spelled (Data id message ∷ [])) ≡ 1 * (1 + length (smallest id)) + length message =
    omega (arith, ap length (append-nil (spelled (Data id message))), length-data id message) in
    ap (λ t. length (flat_map spelled t)) (one_pdu id message short) ∙ sum
    ∙ ap (λ t. length t * (1 + length (smallest id)) + length message) (sym (one_pdu id message short))

pub bytes_of_many : (id : ℕ) (message : List ℕ) → room id < length message
    → length (flat_map spelled (fragments_of id message)) ≡ length (fragments_of id message) * (1 + length (smallest id)) + length (smallest (length message)) + length message
bytes_of_many id message long =
    let first = take (first_room id (length message)) message in
    let rest = later id message in
    let pieces = in_pieces (room id) rest in
    let pdus = DataFirst id (length message) first ∷ map (Data id) pieces in
    let s = length (smallest id) in
    let whole : length first + length rest ≡ length message =
    sym (length-append first rest) ∙ ap length (take-append-drop (first_room id (length message)) message) in
    let joins : length (joined pieces) ≡ length rest = length-joined pieces rest (in_pieces_join (room id) rest (some_room id) (some_later id message long)) in
    let counted : length pdus ≡ suc (length pieces) = ap suc (length-map pieces (Data id)) in
    let sum : length (flat_map spelled pdus) ≡ suc (length pieces) * (1 + s) + length (smallest (length message)) + length message =
    omega (arith, length-append (spelled (DataFirst id (length message) first)) (flat_map spelled (map (Data id) pieces)), length-data_first id (length message) first, data_bytes id pieces, joins, whole) in
    ap (λ t. length (flat_map spelled t)) (many_pdus id message long) ∙ sum
    ∙ ap (λ n. n * (1 + s) + length (smallest (length message)) + length message) (sym counted ∙ ap length (sym (many_pdus id message long)))
