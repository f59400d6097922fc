-- The PDUs of a message carry it, all of them but the last are full, and no shorter list carries it.
use Rattle.std.proofs.Common.{◌≡◌, ℕ, zero, suc, ◌+◌, ◌-◌, ◌*◌, ◌<◌, ◌≤◌, List, [], ◌∷◌, ◌++◌, length, map, take, drop, flat_map, refl, sym, ap, ◌∙◌, subst, inl, inr, arith}
use Rattle.std.specs.List.{All}
use Rattle.std.proofs.lemmas.Bool.{cases_lt}
use Rattle.std.proofs.lemmas.List.{length-append, length-drop, length-take, append-nil}
use Rattle.std.proofs.lemmas.List.Elements.{All-nil, All-cons, All-head, All-tail}
use Rattle.std.proofs.lemmas.Nat.{mul-le}
use Rattle.mt_base.specs.Writing.{joined}
use Rattle.mt_base.proofs.Fill.{joined-push}
use Rattle.dvc_pdus.specs.Value.{Pdu, Caps, CreateRequest, CreateResponse, DataFirst, Data, CompressedFirst, Compressed, Close, SyncRequest, SyncResponse, smallest, spelled}
use Rattle.dvc_channels.specs.Pieces.{Piece, First, Next, pieces_of}
use Rattle.dvc_channels.specs.Cutting.{IsCut, lone, at_once, filled}
use Rattle.dvc_channels.specs.Fragments.{room, first_room, cut_in, in_pieces, fragments_of}
use Rattle.dvc_channels.specs.Carrying.{IsOn, Carries}
use Rattle.dvc_channels.proofs.Portions.{count_of}
use Rattle.dvc_channels.proofs.Sending.{sizes, one_pdu, many_pdus, later, some_later, some_room, fragments_cut, each_fragment, length-take-below, length-data, length-data_first, count_of_many}

-- ---- they carry it

pub fragments_carry : (id : ℕ) (message : List ℕ) → Carries id (fragments_of id message) message
fragments_carry id message = record {
  each = each_fragment (IsOn id) id message
      (λ short. (refl, omega (arith, length-data id message, sizes id)))
      (λ long.
      (let n = first_room id (length message) in
      (refl, omega (arith, length-data_first id (length message) (take n message), sizes id, sizes (length message), length-take n message))))
      (λ bytes at is. (refl, omega (arith, length-data id bytes, ap length is, length-take-below (room id) (drop at message), sizes id)));
  pieces = fragments_cut id message;
}

-- ---- all but the last are full

abbrev pub IsFull : Pdu → Type 0
IsFull pdu = length (spelled pdu) ≡ 1600

some_last : (before : List Pdu) (last : Pdu) → [] ≡ before ++ last ∷ [] → ⊥
some_last [] last e = cc
some_last (pdu ∷ before) last e = cc

-- Data PDUs of as many bytes as there is room for
full_cut : (id count n : ℕ) (xs : List ℕ) → n ≡ room id → count * n < length xs → (before : List Pdu) (last : Pdu)
    → map (Data id) (cut_in (suc count) n xs) ≡ before ++ last ∷ [] → All IsFull before
full_cut id count n xs room_is low [] last e = All-nil IsFull
full_cut id zero n xs room_is low (pdu ∷ before) last e =
    let none : [] ≡ before ++ last ∷ [] = cc in absurd (some_last before last none)
full_cut id (suc count) n xs room_is low (pdu ∷ before) last e =
    let is : pdu ≡ Data id (take n xs) = cc in
    let others : map (Data id) (cut_in (suc count) n (drop n xs)) ≡ before ++ last ∷ [] = cc in
    let full : IsFull pdu = ap (λ p. length (spelled p)) is ∙ omega (arith, length-data id (take n xs), length-take n xs, sizes id) in
    All-cons IsFull pdu before full (full_cut id count n (drop n xs) room_is (omega (arith, length-drop n xs)) before last others)

pub fragments_full : (id : ℕ) (message : List ℕ) (before : List Pdu) (last : Pdu) → fragments_of id message ≡ before ++ last ∷ [] → All IsFull before
fragments_full id message [] last e = All-nil IsFull
fragments_full id message (pdu ∷ before) last e = elim (cases_lt (room id) (length message)) [
  | inl long ↦
      (let n = first_room id (length message) in
      let rest = later id message in
      let c = count_of (length rest) (room id) (some_room id) (some_later id message long) in
      let both : DataFirst id (length message) (take n message) ∷ map (Data id) (in_pieces (room id) rest) ≡ pdu ∷ (before ++ last ∷ []) = sym (many_pdus id message long) ∙ e in
      let is : pdu ≡ DataFirst id (length message) (take n message) = cc in
      let others : map (Data id) (in_pieces (room id) rest) ≡ before ++ last ∷ [] = cc in
      let full : IsFull pdu = ap (λ p. length (spelled p)) is ∙ omega (arith, length-data_first id (length message) (take n message), length-take n message, sizes id, sizes (length message)) in
      All-cons IsFull pdu before full (full_cut id c.others (room id) rest refl c.low before last
      (ap (λ count. map (Data id) (cut_in count (room id) rest)) (sym c.count_is) ∙ others)))
  | inr short ↦
      (let both : Data id message ∷ [] ≡ pdu ∷ (before ++ last ∷ []) = sym (one_pdu id message short) ∙ e in
      let none : [] ≡ before ++ last ∷ [] = cc in
      absurd (some_last before last none))
]

-- ---- no shorter list carries it

-- a PDU has at most the bytes for which there is room
data_room : (id other : ℕ) (bytes : List ℕ) → IsOn id (Data other bytes) → length bytes ≤ room id
data_room id other bytes h =
    let size : length (smallest other) ≡ length (smallest id) = ap (λ n. length (smallest n)) h.0 in
    omega (arith, h.1, size, length-data other bytes, sizes id)

first_has_room : (id other total : ℕ) (bytes : List ℕ) → IsOn id (DataFirst other total bytes) → length bytes ≤ first_room id total
first_has_room id other total bytes h =
    let size : length (smallest other) ≡ length (smallest id) = ap (λ n. length (smallest n)) h.0 in
    omega (arith, h.1, size, length-data_first other total bytes, sizes id, sizes total)

-- PDUs that bring further pieces
pub record Bring (n : ℕ) (pdus : List Pdu) (parts : List (List ℕ)) : Type 0 where
  pub count_is : length pdus ≡ length parts
  pub within : length (joined parts) ≤ length pdus * n

one_brings : (n : ℕ) (pdu : Pdu) (pdus : List Pdu) (bytes : List ℕ) (parts : List (List ℕ)) → length bytes ≤ n → Bring n pdus parts → Bring n (pdu ∷ pdus) (bytes ∷ parts)
one_brings n pdu pdus bytes parts fits b = record {
  count_is = ap suc b.count_is;
  within = omega (arith, length-append bytes (joined parts), b.within, fits);
}

further : (id n : ℕ) → n ≡ room id → (pdus : List Pdu) (parts : List (List ℕ)) → All (IsOn id) pdus → flat_map pieces_of pdus ≡ map Next parts → Bring n pdus parts
further id n room_is [] [] all e = record { count_is = refl; within = omega arith }
further id n room_is [] (part ∷ parts) all e = cc
further id n room_is (Data other bytes ∷ pdus) [] all e = cc
further id n room_is (Data other bytes ∷ pdus) (part ∷ parts) all e =
    let same : bytes ≡ part = cc in
    let rest : flat_map pieces_of pdus ≡ map Next parts = cc in
    let fits = data_room id other bytes (All-head (IsOn id) (Data other bytes) pdus all) in
    one_brings n (Data other bytes) pdus part parts (omega (arith, fits, ap length same))
    (further id n room_is pdus parts (All-tail (IsOn id) (Data other bytes) pdus all) rest)
further id n room_is (DataFirst other total bytes ∷ pdus) [] all e = cc
further id n room_is (DataFirst other total bytes ∷ pdus) (part ∷ parts) all e = cc
further id n room_is (Caps version charges ∷ pdus) parts all e = absurd (All-head (IsOn id) (Caps version charges) pdus all)
further id n room_is (CreateRequest other priority name ∷ pdus) parts all e = absurd (All-head (IsOn id) (CreateRequest other priority name) pdus all)
further id n room_is (CreateResponse other status ∷ pdus) parts all e = absurd (All-head (IsOn id) (CreateResponse other status) pdus all)
further id n room_is (CompressedFirst other total bytes ∷ pdus) parts all e = absurd (All-head (IsOn id) (CompressedFirst other total bytes) pdus all)
further id n room_is (Compressed other bytes ∷ pdus) parts all e = absurd (All-head (IsOn id) (Compressed other bytes) pdus all)
further id n room_is (Close other ∷ pdus) parts all e = absurd (All-head (IsOn id) (Close other) pdus all)
further id n room_is (SyncRequest flags tunnels lists ∷ pdus) parts all e = absurd (All-head (IsOn id) (SyncRequest flags tunnels lists) pdus all)
further id n room_is (SyncResponse types ∷ pdus) parts all e = absurd (All-head (IsOn id) (SyncResponse types) pdus all)

-- PDUs of which the first brings a first piece
pub record Begin (id total n : ℕ) (pdus : List Pdu) (first : List ℕ) (parts : List (List ℕ)) : Type 0 where
  pub others : ℕ
  pub count_is : length pdus ≡ suc others
  pub first_fits : length first ≤ first_room id total
  pub within : length (joined parts) ≤ others * n

begins : (id n total : ℕ) → n ≡ room id → (pdus : List Pdu) (first : List ℕ) (parts : List (List ℕ)) → All (IsOn id) pdus
    → flat_map pieces_of pdus ≡ First total first ∷ map Next parts → Begin id total n pdus first parts
begins id n total room_is [] first parts all e = cc
begins id n total room_is (DataFirst other long bytes ∷ pdus) first parts all e =
    let same : bytes ≡ first = cc in
    let told : long ≡ total = cc in
    let rest : flat_map pieces_of pdus ≡ map Next parts = cc in
    let fits = first_has_room id other long bytes (All-head (IsOn id) (DataFirst other long bytes) pdus all) in
    let b = further id n room_is pdus parts (All-tail (IsOn id) (DataFirst other long bytes) pdus all) rest in
    record {
      others = length pdus;
      count_is = refl;
      first_fits = subst (λ t. length first ≤ first_room id t) told (subst (λ x. length x ≤ first_room id long) same fits);
      within = b.within;
    }
begins id n total room_is (Data other bytes ∷ pdus) first parts all e = cc
begins id n total room_is (Caps version charges ∷ pdus) first parts all e = absurd (All-head (IsOn id) (Caps version charges) pdus all)
begins id n total room_is (CreateRequest other priority name ∷ pdus) first parts all e = absurd (All-head (IsOn id) (CreateRequest other priority name) pdus all)
begins id n total room_is (CreateResponse other status ∷ pdus) first parts all e = absurd (All-head (IsOn id) (CreateResponse other status) pdus all)
begins id n total room_is (CompressedFirst other long bytes ∷ pdus) first parts all e = absurd (All-head (IsOn id) (CompressedFirst other long bytes) pdus all)
begins id n total room_is (Compressed other bytes ∷ pdus) first parts all e = absurd (All-head (IsOn id) (Compressed other bytes) pdus all)
begins id n total room_is (Close other ∷ pdus) first parts all e = absurd (All-head (IsOn id) (Close other) pdus all)
begins id n total room_is (SyncRequest flags tunnels lists ∷ pdus) first parts all e = absurd (All-head (IsOn id) (SyncRequest flags tunnels lists) pdus all)
begins id n total room_is (SyncResponse types ∷ pdus) first parts all e = absurd (All-head (IsOn id) (SyncResponse types) pdus all)

-- fewer whole portions
fewer : (a b n : ℕ) → a * n < b * n → a < b
fewer a b n h = elim (cases_lt a b) [
  | inl less ↦ less
  | inr most ↦ (let more = mul-le b n a n most (omega arith) in absurd (omega arith))
]

-- a message that a first PDU and so many others have room for
few : (id k n : ℕ) (message : List ℕ) → n ≡ room id → length message ≤ first_room id (length message) + k * n → length (fragments_of id message) ≤ suc k
few id k n message room_is h = elim (cases_lt (room id) (length message)) [
  | inl long ↦
      (let left : ℕ = length message - first_room id (length message) in
      let some : 0 < left = omega arith in
      let c = count_of left (room id) (some_room id) some in
      let low : c.others * n < left = subst (λ r. c.others * r < left) (sym room_is) c.low in
      let high : left ≤ k * n = omega arith in
      let below : c.others < k = fewer c.others k n (omega (arith, low, high)) in
      omega (arith, count_of_many id message long, c.count_is, below))
  | inr short ↦ omega (arith, ap length (one_pdu id message short))
]

pub fewest : (id n : ℕ) (pdus : List Pdu) (pieces : List Piece) (message : List ℕ) → n ≡ room id → All (IsOn id) pdus → flat_map pieces_of pdus ≡ pieces → IsCut pieces message
    → length (fragments_of id message) ≤ length pdus
fewest id n pdus _ _ room_is all e (lone bytes) =
    let b = further id n room_is pdus (bytes ∷ []) all e in
    let alone : length pdus * n ≡ 1 * n = ap (λ k. k * n) b.count_is in
    let fits : length bytes ≤ room id = omega (arith, b.within, alone, ap length (append-nil bytes), room_is) in
    omega (arith, ap length (one_pdu id bytes fits), b.count_is)
fewest id n pdus _ _ room_is all e (at_once bytes) =
    let b = begins id n (length bytes) room_is pdus bytes [] all e in
    let enough = few id b.others n bytes room_is (omega (arith, b.first_fits)) in
    omega (arith, enough, b.count_is)
fewest id n pdus _ _ room_is all e (filled first middle last some) =
    let message = first ++ joined middle ++ last in
    let b = begins id n (length message) room_is pdus first (middle ++ last ∷ []) all e in
    let rest : length (joined (middle ++ last ∷ [])) ≡ length (joined middle) + length last = ap length (joined-push middle last) ∙ length-append (joined middle) last in
    let long : length message ≡ length first + length (joined middle) + length last = length-append (first ++ joined middle) last ∙ ap (λ m. m + length last) (length-append first (joined middle)) in
    let enough = few id b.others n message room_is (omega (arith, b.first_fits, b.within, rest, long)) in
    omega (arith, enough, b.count_is)
