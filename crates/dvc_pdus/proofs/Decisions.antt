-- Bytes are spelled or have a fault. With the two other facts, that what is spelled is read and that
-- each fault is the answer, it follows that what is read was spelled, and that a refusal is the first
-- fault.
use Rattle.std.proofs.Common.{◌≡◌, ◌≢◌, ◌⊎◌, inl, inr, ℕ, zero, suc, ◌+◌, ◌*◌, ◌/◌, ◌%◌, ◌^◌, ◌<◌, ◌≤◌, List, [], ◌∷◌, ◌++◌, length, map, Some, None, refl, sym, ap, ◌∙◌, subst, arith, append_assoc, append-nil}
use Rattle.std.specs.List.{All, flat_map}
use Rattle.std.proofs.lemmas.Bool.{cases_eq, cases_lt}
use Rattle.std.proofs.lemmas.List.{length-append}
use Rattle.std.proofs.lemmas.List.Elements.{All-append, All-cons, All-nil, All-head, All-tail}
use Rattle.byteorder.specs.Endian.{little_bytes}
use Rattle.mt_base.specs.Writing.{joined}
use Rattle.mt_base.specs.declared.kinds.Role.{Role}
use Rattle.mt_base.specs.declared.kinds.Role.TheVariants.{Server, Client}
use Rattle.mt_base.proofs.Numbers.{IsBytes}
use Rattle.mt_base.proofs.Fields.{Begins, little_or}
use Rattle.dvc_pdus.specs.declared.pdu.DvcRefusal.{DvcRefusal}
use Rattle.dvc_pdus.specs.declared.pdu.DvcRefusal.TheVariants as refusal
use Rattle.dvc_pdus.specs.Value.{Pdu, Caps, CreateRequest, CreateResponse, DataFirst, Data, CompressedFirst, Compressed, Close, SyncRequest, SyncResponse, type_field, type_fields, lists_fields, list_count, sync_length}
use Rattle.dvc_pdus.specs.Layout.{Choice, first_byte, id_in, IsSizeOf, Spells}
use Rattle.dvc_pdus.specs.Faults
use Rattle.dvc_pdus.specs.Faults.{Headed, HasId, HasLength, HasPad, Named, Among, RefusedType, Counted, Listed, list_bytes, IsClosed, RefusedFields}
use Rattle.dvc_pdus.proofs.Items.{Items, items_or}
use Rattle.dvc_pdus.proofs.SyncItems.{kind_item, list_item, joined_map, joined_lists}
use Rattle.dvc_pdus.proofs.Parts.{NameOr, named, misnamed, named_or}
use Rattle.dvc_pdus.proofs.Headers
use Rattle.dvc_pdus.proofs.Headers.{WithId, with_id}
use Rattle.dvc_pdus.proofs.SpelledReads.{charges_length}

-- what a writer chose
abbrev chosen : (size wide unnamed pad : ℕ) → Choice
chosen size wide unnamed pad = record { size = size; wide = wide; unnamed = unnamed; pad = pad }

pub data Decided (from : Role) (bytes : List ℕ) : Type 0 where
  spelled : (pdu : Pdu) → Spells from bytes pdu → Decided from bytes
  refused : (r : DvcRefusal) → RefusedFields from bytes r → Decided from bytes

-- a message's length stands behind the id, or not
length_or : (command : ℕ) → HasLength command ⊎ (HasLength command → ⊥)
length_or command = elim (cases_eq command 2) [
  | inl two ↦ inl (inl two)
  | inr a ↦ elim (cases_eq command 6) [
    | inl six ↦ inl (inr six)
    | inr b ↦ inr (λ long. elim long [ inl two ↦ a two | inr six ↦ b six ])
  ]
]

-- bytes begin with a header byte and an id
record Behind (bytes : List ℕ) (command own size : ℕ) : Type 0 where
  rest : List ℕ
  named : Named bytes command own size rest
  known : HasLength command → own < 3
  bytes_after : IsBytes rest

-- where the bytes begin with a PDU that ends, they are this PDU, or a byte is too many
closed_or : (from : Role) (bytes text : List ℕ) (pdu : Pdu) → Spells from text pdu → IsClosed pdu → (rest : List ℕ) → bytes ≡ text ++ rest → Decided from bytes
closed_or from bytes text pdu s closed [] is = spelled pdu (subst (λ t. Spells from t pdu) (sym (is ∙ append-nil text)) s)
closed_or from bytes text pdu s closed (b ∷ rest) is = refused (refusal.Trailing (length text)) (Faults.trailing pdu text rest b s closed is refl)

-- an id behind a header byte: it is refused, or it stands in front
id_or : (from : Role) (bytes : List ℕ) (command own size : ℕ) (rest : List ℕ) → HasId command → IsBytes rest → Headed bytes command own size rest
    → Decided from bytes ⊎ Behind bytes command own size
id_or from bytes command own size rest has good headed = elim (cases_lt size 3) [
  | inr h ↦ no_size (omega arith)
  | inl small ↦ elim (cases_lt own 3) [
    | inl known ↦ sized small (λ long. known) (little_or (2 ^ size) rest good)
    | inr h ↦ elim (length_or command) [
      | inl long ↦ no_length small long (omega arith)
      | inr bare ↦ sized small (λ long. absurd (bare long)) (little_or (2 ^ size) rest good)
    ]
  ]
]
  where
    most : (size < 4) × (own < 4)
    most = (headed.1, headed.0)

    no_size : size ≡ 3 → Decided from bytes ⊎ Behind bytes command own size
    no_size three = inl (refused (refusal.BadCbId 0) (Faults.id_unknown command own rest has (subst (λ n. Headed bytes command own n rest) three headed) refl))

    no_length : size < 3 → HasLength command → own ≡ 3 → Decided from bytes ⊎ Behind bytes command own size
    no_length small long three = inl (refused (refusal.BadLen 0) (Faults.length_unknown command size rest long small (subst (λ n. Headed bytes command n size rest) three headed) refl))

    sized : size < 3 → (HasLength command → own < 3) → (length rest < 2 ^ size) ⊎ Begins (little_bytes (2 ^ size)) (λ x. x < 256 ^ 2 ^ size) rest → Decided from bytes ⊎ Behind bytes command own size
    sized small known (inl few) = inl (refused _ (Faults.id_cut command own size rest has known small headed (few, refl)))
    sized small known (inr b) = inr (record {
      rest = b.rest;
      named = record { id = b.value; fits = (small, b.good); bytes_are = (headed.0, headed.1, headed.2 ∙ ap (λ t. first_byte command own size ++ t) b.bytes_are) };
      known = known;
      bytes_after = b.bytes_behind;
    })

-- an id has at most four bytes
id_small : (size id : ℕ) → IsSizeOf size id → id < 2 ^ 32
id_small size id h = sizes size h.0 id h.1
  where
    sizes : (size : ℕ) → size < 3 → (id : ℕ) → id < 256 ^ 2 ^ size → id < 2 ^ 32
    sizes zero h id fits = omega arith
    sizes (suc zero) h id fits = omega arith
    sizes (suc (suc zero)) h id fits = omega arith
    sizes (suc (suc (suc n))) h id fits = absurd (omega arith)

request_or : (bytes : List ℕ) (own size : ℕ) → Behind bytes 1 own size → Decided Server bytes
request_or bytes own size w = by_name (named_or (1 + 2 ^ size) w.rest)
  where
    by_name : NameOr (1 + 2 ^ size) w.rest → Decided Server bytes
    by_name (misnamed r fault) = refused r (Faults.name_wrong own size w.rest refl w.named fault)
    by_name (named name others fits whole) =
        let n = w.named in
        let pdu = CreateRequest n.id own name in
        let text = first_byte 1 own size ++ (id_in size n.id ++ (name ++ (0 ∷ []))) in
        let s : Spells Server text pdu = record { choice = chosen size 0 0 0; allowed = n.fits; fits = (id_small size n.id n.fits, n.bytes_are.0, fits); bytes_are = refl } in
        closed_or Server bytes text pdu s tt others (n.bytes_are.2 ∙ ap (λ t. first_byte 1 own size ++ (id_in size n.id ++ t)) whole ∙ simp append_assoc)

response_or : (bytes : List ℕ) (own size : ℕ) → Behind bytes 1 own size → Decided Client bytes
response_or bytes own size w = by_status (little_or 4 w.rest w.bytes_after)
  where
    by_status : (length w.rest < 4) ⊎ Begins (little_bytes 4) (λ x. x < 256 ^ 4) w.rest → Decided Client bytes
    by_status (inl few) = refused _ (Faults.status_cut own size w.rest refl w.named (few, refl))
    by_status (inr b) =
        let n = w.named in
        let pdu = CreateResponse n.id b.value in
        let text = first_byte 1 own size ++ (id_in size n.id ++ (little_bytes 4 b.value ++ [])) in
        let s : Spells Client text pdu = record { choice = chosen size 0 own 0; allowed = (n.bytes_are.0, n.fits); fits = (id_small size n.id n.fits, b.good); bytes_are = refl } in
        closed_or Client bytes text pdu s tt b.rest (n.bytes_are.2 ∙ ap (λ t. first_byte 1 own size ++ (id_in size n.id ++ t)) b.bytes_are ∙ simp append_assoc)

create_or : (from : Role) (bytes : List ℕ) (own size : ℕ) → Behind bytes 1 own size → Decided from bytes
create_or Server bytes own size w = request_or bytes own size w
create_or Client bytes own size w = response_or bytes own size w

-- the last field takes all that is left
to_the_end : (command own size id : ℕ) (bytes rest : List ℕ) → bytes ≡ first_byte command own size ++ (id_in size id ++ rest) → bytes ≡ first_byte command own size ++ (id_in size id ++ (rest ++ []))
to_the_end command own size id bytes rest is = is ∙ ap (λ t. first_byte command own size ++ (id_in size id ++ t)) (sym (append-nil rest))

data_or : (from : Role) (bytes : List ℕ) (own size : ℕ) → Behind bytes 3 own size → Decided from bytes
data_or from bytes own size w =
    let n = w.named in
    spelled (Data n.id w.rest)
    (record { choice = chosen size 0 own 0; allowed = (n.bytes_are.0, n.fits); fits = (id_small size n.id n.fits, w.bytes_after); bytes_are = to_the_end 3 own size n.id bytes w.rest n.bytes_are.2 })

compressed_or : (from : Role) (bytes : List ℕ) (own size : ℕ) → Behind bytes 7 own size → Decided from bytes
compressed_or from bytes own size w =
    let n = w.named in
    spelled (Compressed n.id w.rest)
    (record { choice = chosen size 0 own 0; allowed = (n.bytes_are.0, n.fits); fits = (id_small size n.id n.fits, w.bytes_after); bytes_are = to_the_end 7 own size n.id bytes w.rest n.bytes_are.2 })

close_or : (from : Role) (bytes : List ℕ) (own size : ℕ) → Behind bytes 4 own size → Decided from bytes
close_or from bytes own size w =
    let n = w.named in
    let text = first_byte 4 own size ++ (id_in size n.id ++ []) in
    let s : Spells from text (Close n.id) = record { choice = chosen size 0 own 0; allowed = (n.bytes_are.0, n.fits); fits = id_small size n.id n.fits; bytes_are = refl } in
    closed_or from bytes text (Close n.id) s tt w.rest (n.bytes_are.2 ∙ ap (λ t. first_byte 4 own size ++ (t ++ w.rest)) (sym (append-nil (id_in size n.id))))

-- a length behind an id: it is cut short, or it stands in front
first_or : (from : Role) (bytes : List ℕ) (command own size : ℕ) → HasLength command → (w : Behind bytes command own size)
    → ((total : ℕ) → IsSizeOf own total → (rest : List ℕ) → IsBytes rest → w.rest ≡ id_in own total ++ rest → Decided from bytes) → Decided from bytes
first_or from bytes command own size long w next = by_length (little_or (2 ^ own) w.rest w.bytes_after)
  where
    by_length : (length w.rest < 2 ^ own) ⊎ Begins (little_bytes (2 ^ own)) (λ x. x < 256 ^ 2 ^ own) w.rest → Decided from bytes
    by_length (inl few) = refused _ (Faults.length_cut command own size w.rest long (w.known long) w.named (few, refl))
    by_length (inr b) = next b.value (w.known long, b.good) b.rest b.bytes_behind b.bytes_are

data_first_or : (from : Role) (bytes : List ℕ) (own size : ℕ) → Behind bytes 2 own size → Decided from bytes
data_first_or from bytes own size w = first_or from bytes 2 own size (inl refl) w by_total
  where
    n : Named bytes 2 own size w.rest
    n = w.named

    whole : (total : ℕ) (rest : List ℕ) → w.rest ≡ id_in own total ++ rest → bytes ≡ first_byte 2 own size ++ (id_in size n.id ++ (id_in own total ++ rest))
    whole total rest is = n.bytes_are.2 ∙ ap (λ t. first_byte 2 own size ++ (id_in size n.id ++ t)) is

    by_total : (total : ℕ) → IsSizeOf own total → (rest : List ℕ) → IsBytes rest → w.rest ≡ id_in own total ++ rest → Decided from bytes
    by_total total fits rest good is = elim (cases_lt total (length rest)) [
      | inl more ↦ refused _ (Faults.too_small own size total rest fits (record { id = n.id; fits = n.fits; bytes_are = (n.bytes_are.0, n.bytes_are.1, whole total rest is) }) more refl)
      | inr h ↦ spelled (DataFirst n.id total rest) (record {
        choice = chosen size own 0 0;
        allowed = (n.fits, fits);
        fits = (id_small size n.id n.fits, id_small own total fits, good, h);
        bytes_are = whole total rest is ∙ ap (λ t. first_byte 2 own size ++ (id_in size n.id ++ (id_in own total ++ t))) (sym (append-nil rest));
      })
    ]

compressed_first_or : (from : Role) (bytes : List ℕ) (own size : ℕ) → Behind bytes 6 own size → Decided from bytes
compressed_first_or from bytes own size w = first_or from bytes 6 own size (inr refl) w by_total
  where
    n : Named bytes 6 own size w.rest
    n = w.named

    by_total : (total : ℕ) → IsSizeOf own total → (rest : List ℕ) → IsBytes rest → w.rest ≡ id_in own total ++ rest → Decided from bytes
    by_total total fits rest good is = spelled (CompressedFirst n.id total rest) (record {
      choice = chosen size own 0 0;
      allowed = (n.fits, fits);
      fits = (id_small size n.id n.fits, id_small own total fits, good);
      bytes_are = n.bytes_are.2 ∙ ap (λ t. first_byte 6 own size ++ (id_in size n.id ++ t)) (is ∙ ap (λ t. id_in own total ++ t) (sym (append-nil rest)));
    })

abbrev Charge : ℕ → Type 0
Charge c = c < 2 ^ 16

-- four charges, or fewer and then one that is cut short
data Charges (bytes : List ℕ) : Type 0 where
  four : (charges rest : List ℕ) → length charges ≡ 4 → All Charge charges → bytes ≡ joined (map (little_bytes 2) charges) ++ rest → Charges bytes
  fewer : (before rest : List ℕ) → All Charge before → length before < 4 → length rest < 2 → bytes ≡ joined (map (little_bytes 2) before) ++ rest → Charges bytes

one_more : (before : List ℕ) (c : ℕ) (rest : List ℕ) → joined (map (little_bytes 2) before) ++ (little_bytes 2 c ++ rest) ≡ joined (map (little_bytes 2) (before ++ (c ∷ []))) ++ rest
one_more [] c rest = refl
one_more (b ∷ before) c rest = ap (λ t. little_bytes 2 b ++ t) (one_more before c rest)

charges_or : (n : ℕ) (bytes before rest : List ℕ) → bytes ≡ joined (map (little_bytes 2) before) ++ rest → IsBytes rest → All Charge before → length before + n ≡ 4 → Charges bytes
charges_or zero bytes before rest is good fits count = four before rest (omega arith) fits is
charges_or (suc n) bytes before rest is good fits count = elim (little_or 2 rest good) [
  | inl few ↦ fewer before rest fits (omega arith) few is
  | inr b ↦ charges_or n bytes (before ++ (b.value ∷ [])) b.rest (is ∙ ap (λ t. joined (map (little_bytes 2) before) ++ t) b.bytes_are ∙ one_more before b.value b.rest) b.bytes_behind
      (All-append Charge before (b.value ∷ []) fits (All-cons Charge b.value [] b.good (All-nil Charge))) (omega (arith, length-append before (b.value ∷ [])))
]

capabilities_or : (from : Role) (bytes : List ℕ) (own size : ℕ) (rest : List ℕ) → IsBytes rest → Headed bytes 5 own size rest → Decided from bytes
capabilities_or from bytes own size [] good headed = refused _ (Faults.pad_cut 5 own size [] (inl refl) headed (omega arith, refl))
capabilities_or from bytes own size (pad ∷ rest) good headed = by_version (little_or 2 rest (All-tail (λ b. b < 256) pad rest good))
  where
    pad_fits : pad < 256
    pad_fits = All-head (λ b. b < 256) pad rest good

    by_charges : (version : ℕ) → version < 2 ^ 16 → (after : List ℕ) → rest ≡ little_bytes 2 version ++ after → 0 < length after → Charges after → Decided from bytes
    by_charges version fits after is some (four charges others count all whole) =
        let pdu = Caps version (Some charges) in
        let text = first_byte 5 own size ++ (pad ∷ (little_bytes 2 version ++ joined (map (little_bytes 2) charges))) in
        let s : Spells from text pdu = record { choice = chosen size 0 own pad; allowed = (headed.0, headed.1, pad_fits); fits = (fits, count, all); bytes_are = refl } in
        closed_or from bytes text pdu s tt others (headed.2 ∙ ap (λ t. first_byte 5 own size ++ (pad ∷ t)) (is ∙ ap (λ t. little_bytes 2 version ++ t) whole))
    by_charges version fits after is some (fewer before others all few cut whole) =
        refused _ (Faults.charge_cut own size pad version before others pad_fits fits all few
        (omega (arith, ap length whole, length-append (joined (map (little_bytes 2) before)) others, charges_length before))
        (headed.0, headed.1, headed.2 ∙ ap (λ t. first_byte 5 own size ++ (pad ∷ t)) (is ∙ ap (λ t. little_bytes 2 version ++ t) whole)) (cut, refl))

    by_rest : (version : ℕ) → version < 2 ^ 16 → (after : List ℕ) → IsBytes after → rest ≡ little_bytes 2 version ++ after → Decided from bytes
    by_rest version fits [] behind is =
        spelled (Caps version None) (record {
          choice = chosen size 0 own pad;
          allowed = (headed.0, headed.1, pad_fits);
          fits = fits;
          bytes_are = headed.2 ∙ ap (λ t. first_byte 5 own size ++ (pad ∷ t)) is;
        })
    by_rest version fits (a ∷ after) behind is =
        by_charges version fits (a ∷ after) is (omega arith) (charges_or 4 (a ∷ after) [] (a ∷ after) refl behind (All-nil Charge) refl)

    by_version : (length rest < 2) ⊎ Begins (little_bytes 2) (λ x. x < 256 ^ 2) rest → Decided from bytes
    by_version (inl few) = refused _ (Faults.version_cut own size pad rest pad_fits headed (few, refl))
    by_version (inr b) = by_rest b.value b.good b.rest b.bytes_behind b.bytes_are

-- ---- Soft-Sync

-- a pad byte behind a header byte
padded_or : (from : Role) (bytes : List ℕ) (command own size : ℕ) (rest : List ℕ) → HasPad command → IsBytes rest → Headed bytes command own size rest
    → ((pad : ℕ) (more : List ℕ) → pad < 256 → IsBytes more → Headed bytes command own size (pad ∷ more) → Decided from bytes) → Decided from bytes
padded_or from bytes command own size [] has good headed next = refused _ (Faults.pad_cut command own size [] has headed (omega arith, refl))
padded_or from bytes command own size (pad ∷ more) has good headed next = next pad more (All-head (λ b. b < 256) pad more good) (All-tail (λ b. b < 256) pad more good) headed

lists_or : (from : Role) (bytes : List ℕ) (flags tunnels : ℕ) (rest : List ℕ) → IsBytes rest → Listed bytes flags tunnels rest → Decided from bytes
lists_or from bytes flags tunnels rest good listed = elim (items_or list_item (list_count flags tunnels) 10 rest good) [
  | inl f ↦ refused f.0 (Faults.list_wrong flags tunnels rest listed f.1)
  | inr i ↦ by_rest i i.rest refl
]
  where
    by_rest : (i : Items list_item (list_count flags tunnels) rest) (more : List ℕ) → i.rest ≡ more → Decided from bytes
    by_rest i [] none =
        let all = flat_map list_bytes i.items in
        let c = listed.2 in
        let is : rest ≡ joined (lists_fields i.items) = i.bytes_are ∙ ap (λ t. all ++ t) none ∙ append-nil all ∙ sym (joined_lists i.items) in
        let long : 4 + length (little_bytes 2 flags ++ (little_bytes 2 tunnels ++ rest)) ≡ sync_length i.items = omega (arith, ap length is) in
        let behind = little_bytes 2 flags ++ (little_bytes 2 tunnels ++ rest) in
        spelled (SyncRequest flags tunnels i.items) (record {
          choice = chosen c.size 0 c.own c.pad;
          allowed = (c.bytes_are.0, c.bytes_are.1, c.pad_fits);
          fits = (listed.0, listed.1, i.count_is, i.good, subst (λ n. n < 2 ^ 32) long c.fits);
          bytes_are = c.bytes_are.2 ∙ ap (λ n. first_byte 8 c.own c.size ++ (c.pad ∷ (little_bytes 4 n ++ behind))) long
              ∙ ap (λ t. first_byte 8 c.own c.size ++ (c.pad ∷ (little_bytes 4 (sync_length i.items) ++ (little_bytes 2 flags ++ (little_bytes 2 tunnels ++ t))))) is;
        })
    by_rest i (b ∷ more) some =
        refused _ (Faults.lists_trailing flags tunnels i.items b more i.good i.count_is
        (subst (Listed bytes flags tunnels) (i.bytes_are ∙ ap (λ t. flat_map list_bytes i.items ++ t) some) listed) refl)

sync_request_or : (from : Role) (bytes : List ℕ) (own size : ℕ) (rest : List ℕ) → IsBytes rest → Headed bytes 8 own size rest → Decided from bytes
sync_request_or from bytes own size rest good headed = padded_or from bytes 8 own size rest (inr (inl refl)) good headed by_pad
  where
    by_tunnels : (flags : ℕ) → flags < 2 ^ 16 → (behind : List ℕ) → Counted bytes (little_bytes 2 flags ++ behind) → (length behind < 2) ⊎ Begins (little_bytes 2) (λ x. x < 256 ^ 2) behind → Decided from bytes
    by_tunnels flags f behind c (inl few) = refused _ (Faults.tunnels_cut flags behind f c (few, refl))
    by_tunnels flags f behind c (inr b) =
        lists_or from bytes flags b.value b.rest b.bytes_behind (f, b.good, subst (λ t. Counted bytes (little_bytes 2 flags ++ t)) b.bytes_are c)

    by_flags : (behind : List ℕ) → Counted bytes behind → (length behind < 2) ⊎ Begins (little_bytes 2) (λ x. x < 256 ^ 2) behind → Decided from bytes
    by_flags behind c (inl few) = refused _ (Faults.flags_cut behind c (few, refl))
    by_flags behind c (inr b) = by_tunnels b.value b.good b.rest (subst (Counted bytes) b.bytes_are c) (little_or 2 b.rest b.bytes_behind)

    by_length : (pad : ℕ) → pad < 256 → (more : List ℕ) → Headed bytes 8 own size (pad ∷ more) → (length more < 4) ⊎ Begins (little_bytes 4) (λ x. x < 256 ^ 4) more → Decided from bytes
    by_length pad p more headed (inl few) = refused _ (Faults.sync_length_cut own size pad more p headed (few, refl))
    by_length pad p more headed (inr b) =
        let told : Headed bytes 8 own size (pad ∷ (little_bytes 4 b.value ++ b.rest)) = (headed.0, headed.1, headed.2 ∙ ap (λ t. first_byte 8 own size ++ (pad ∷ t)) b.bytes_are) in
        elim (cases_eq b.value (4 + length b.rest)) [
          | inl right ↦
              let c : Counted bytes b.rest = record {
                own = own;
                size = size;
                pad = pad;
                pad_fits = p;
                fits = subst (λ n. n < 2 ^ 32) right b.good;
                bytes_are = subst (λ n. Headed bytes 8 own size (pad ∷ (little_bytes 4 n ++ b.rest))) right told;
              } in
              by_flags b.rest c (little_or 2 b.rest b.bytes_behind)
          | inr wrong ↦ refused _ (Faults.sync_length_wrong own size pad b.value b.rest p b.good told wrong refl)
        ]

    by_pad : (pad : ℕ) (more : List ℕ) → pad < 256 → IsBytes more → Headed bytes 8 own size (pad ∷ more) → Decided from bytes
    by_pad pad more p bytes_more headed = by_length pad p more headed (little_or 4 more bytes_more)

sync_response_or : (from : Role) (bytes : List ℕ) (own size : ℕ) (rest : List ℕ) → IsBytes rest → Headed bytes 9 own size rest → Decided from bytes
sync_response_or from bytes own size rest good headed = padded_or from bytes 9 own size rest (inr (inr refl)) good headed by_pad
  where
    by_types : (pad count : ℕ) → pad < 256 → count < 2 ^ 32 → (behind : List ℕ) → Headed bytes 9 own size (pad ∷ (little_bytes 4 count ++ behind))
        → ((r : DvcRefusal) × Among type_field (λ k. Unit {0}) RefusedType count 6 behind r) ⊎ Items kind_item count behind → Decided from bytes
    by_types pad count p small behind headed (inl f) = refused f.0 (Faults.type_wrong own size pad count behind p small headed f.1)
    by_types pad count p small behind headed (inr i) =
        let all = flat_map type_field i.items in
        let pdu = SyncResponse i.items in
        let text = first_byte 9 own size ++ (pad ∷ (little_bytes 4 (length i.items) ++ joined (type_fields i.items))) in
        let s : Spells from text pdu = record { choice = chosen size 0 own pad; allowed = (headed.0, headed.1, p); fits = omega (arith, i.count_is, small); bytes_are = refl } in
        closed_or from bytes text pdu s tt i.rest
        (headed.2 ∙ ap (λ t. first_byte 9 own size ++ (pad ∷ (little_bytes 4 count ++ t))) (i.bytes_are ∙ ap (λ t. t ++ i.rest) (sym (joined_map type_field i.items)))
        ∙ ap (λ n. first_byte 9 own size ++ (pad ∷ (little_bytes 4 n ++ (joined (type_fields i.items) ++ i.rest)))) (sym i.count_is))

    by_count : (pad : ℕ) → pad < 256 → (more : List ℕ) → Headed bytes 9 own size (pad ∷ more) → (length more < 4) ⊎ Begins (little_bytes 4) (λ x. x < 256 ^ 4) more → Decided from bytes
    by_count pad p more headed (inl few) = refused _ (Faults.types_count_cut own size pad more p headed (few, refl))
    by_count pad p more headed (inr b) =
        by_types pad b.value p b.good b.rest (headed.0, headed.1, headed.2 ∙ ap (λ t. first_byte 9 own size ++ (pad ∷ t)) b.bytes_are) (items_or kind_item b.value 6 b.rest b.bytes_behind)

    by_pad : (pad : ℕ) (more : List ℕ) → pad < 256 → IsBytes more → Headed bytes 9 own size (pad ∷ more) → Decided from bytes
    by_pad pad more p bytes_more headed = by_count pad p more headed (little_or 4 more bytes_more)

-- ---- all commands

-- a command with an id
with_id_or : (from : Role) (bytes : List ℕ) (command own size : ℕ) → WithId command → Behind bytes command own size → Decided from bytes
with_id_or from bytes command own size (Headers.create e) w = create_or from bytes own size (subst (λ c. Behind bytes c own size) e w)
with_id_or from bytes command own size (Headers.data_first e) w = data_first_or from bytes own size (subst (λ c. Behind bytes c own size) e w)
with_id_or from bytes command own size (Headers.data_more e) w = data_or from bytes own size (subst (λ c. Behind bytes c own size) e w)
with_id_or from bytes command own size (Headers.close e) w = close_or from bytes own size (subst (λ c. Behind bytes c own size) e w)
with_id_or from bytes command own size (Headers.compressed_first e) w = compressed_first_or from bytes own size (subst (λ c. Behind bytes c own size) e w)
with_id_or from bytes command own size (Headers.compressed e) w = compressed_or from bytes own size (subst (λ c. Behind bytes c own size) e w)

-- the body of each command
commanded : (from : Role) (bytes : List ℕ) (command own size : ℕ) (rest : List ℕ) → command < 16 → Headed bytes command own size rest → IsBytes rest → Decided from bytes
commanded from bytes command own size rest small headed good =
    elim (cases_eq command 5) [
      | inl five ↦ capabilities_or from bytes own size rest good (subst (λ c. Headed bytes c own size rest) five headed)
      | inr a ↦ elim (cases_eq command 8) [
        | inl eight ↦ sync_request_or from bytes own size rest good (subst (λ c. Headed bytes c own size rest) eight headed)
        | inr b ↦ elim (cases_eq command 9) [
          | inl nine ↦ sync_response_or from bytes own size rest good (subst (λ c. Headed bytes c own size rest) nine headed)
          | inr c ↦ elim (cases_lt command 8) [
            | inr h ↦ refused _ (Faults.unknown command own size rest (small, inr (above command h b c)) headed refl)
            | inl low ↦ elim (cases_eq command 0) [
              | inl none ↦ refused _ (Faults.unknown command own size rest (small, inl none) headed refl)
              | inr d ↦ with_id_command (some command d, at_most command low, a)
            ]
          ]
        ]
      ]
    ]
  where
    above : (n : ℕ) → 8 ≤ n → n ≢ 8 → n ≢ 9 → 9 < n
    above n h b c = omega arith

    some : (n : ℕ) → n ≢ 0 → 1 ≤ n
    some n d = omega arith

    at_most : (n : ℕ) → n < 8 → n ≤ 7
    at_most n h = omega arith

    with_id_command : HasId command → Decided from bytes
    with_id_command has = elim (id_or from bytes command own size rest has good headed) [
      | inl d ↦ d
      | inr w ↦ with_id_or from bytes command own size (with_id command has) w
    ]

pub decided : (from : Role) (bytes : List ℕ) → IsBytes bytes → Decided from bytes
decided from [] good = refused _ (Faults.header_cut (omega arith, refl))
decided from (x ∷ rest) good =
    let small = All-head (λ b. b < 256) x rest good in
    let is : x ≡ x / 16 * 16 + x / 4 % 4 * 4 + x % 4 = omega arith in
    commanded from (x ∷ rest) (x / 16) (x / 4 % 4) (x % 4) rest (omega arith) (omega arith, omega arith, ap (λ n. n ∷ rest) is) (All-tail (λ b. b < 256) x rest good)
