-- What reading gives, in the words of the layouts and faults, and what follows of both.
use Rattle.std.proofs.Common.{◌≡◌, inl, inr, ℕ, zero, suc, ◌+◌, ◌*◌, ◌^◌, ◌<◌, ◌≤◌, List, [], ◌∷◌, ◌++◌, length, get_or, Some, None, Result, Ok, Err, refl, sym, ap, ◌∙◌, subst, arith}
use Rattle.std.specs.Result.{IfOk, IfErr, IsOkAnd}
use Rattle.std.proofs.lemmas.Bool.{cases_lt, lt-ltb, le-ltb}
use Rattle.std.proofs.lemmas.List.{length-append}
use Rattle.std.proofs.lemmas.List.Elements.{All-from_get_or}
use Rattle.byteorder.specs.Endian.{little_bytes}
use Rattle.mt_base.specs.Reading.{Left}
use Rattle.mt_base.specs.declared.kinds.Role.{Role}
use Rattle.mt_base.specs.declared.kinds.Role.TheVariants.{Server, Client}
use Rattle.mt_base.proofs.Numbers.{IsBytes}
use Rattle.mt_base.proofs.FrontFields.{left_at}
use Rattle.mt_base.proofs.Meanings.{Meaning, was_spelled, was_fault}
use Rattle.mt_base.proofs.Fields.{as_err, not_both, ok_is}
use Rattle.dvc_pdus.specs.declared.pdu.DvcRefusal.{DvcRefusal}
use Rattle.dvc_pdus.specs.declared.pdu.DvcRefusal.TheVariants as refusal
use Rattle.dvc_pdus.specs.Value.{Pdu, Caps, CreateRequest, CreateResponse, DataFirst, Data, CompressedFirst, Compressed, Close, SyncRequest, SyncResponse, Fits, IsPdu, spelled, size_code, smallest}
use Rattle.dvc_pdus.specs.declared.pdu.DvcPdu.{DvcPdu}
use Rattle.dvc_pdus.specs.Views.{pdu_of}
use Rattle.dvc_pdus.specs.Reading.{pdu_at, reading, Answers}
use Rattle.dvc_pdus.specs.Layout.{Choice, id_in, IsSizeOf, Spells, Encodes}
use Rattle.dvc_pdus.specs.Faults.{RefusedFields, Refused, too_long, in_fields}
use Rattle.dvc_pdus.proofs.SpelledReads.{spelled_reads}
use Rattle.dvc_pdus.proofs.Refusals.{fault_answer}
use Rattle.dvc_pdus.proofs.Decisions
use Rattle.dvc_pdus.proofs.Decisions.{Decided, decided}

within : (from : Role) (bytes : List ℕ) → length bytes ≤ 1600 → reading from bytes ≡ pdu_at from (left_at 0 bytes)
unfolding reading
within from bytes h = rw (le-ltb 1600 (length bytes) h) refl

beyond : (from : Role) (bytes : List ℕ) → 1600 < length bytes → reading from bytes ≡ Err (refusal.TooLong 1600)
unfolding reading
beyond from bytes h = rw (lt-ltb 1600 (length bytes) h) refl

-- what bytes mean at any length
pub fields_meaning : (from : Role) → Meaning (λ bytes. pdu_at from (left_at 0 bytes)) (λ pdu bytes. Spells from bytes pdu) (RefusedFields from)
fields_meaning from = record {
  reads = λ pdu bytes s. spelled_reads from bytes pdu s;
  refuses = λ r bytes fault. fault_answer from bytes r fault;
  decides = λ bytes good. elim (decided from bytes good) [
    | Decisions.spelled pdu s ↦ inl (pdu, s)
    | Decisions.refused r fault ↦ inr (r, fault)
  ];
}

-- what bytes mean, where more than 1,600 are refused
pub meaning : (from : Role) → Meaning (reading from) (λ pdu bytes. Encodes from bytes pdu) (Refused from)
meaning from = record {
  reads = λ pdu bytes s. within from bytes s.1 ∙ spelled_reads from bytes pdu s.0;
  refuses = λ r bytes fault. elim fault [
    | too_long h is ↦ as_err (beyond from bytes h) is
    | in_fields h fields ↦ within from bytes h ∙ fault_answer from bytes r fields
  ];
  decides = λ bytes good. elim (cases_lt 1600 (length bytes)) [
    | inl h ↦ inr (refusal.TooLong 1600, too_long h refl)
    | inr h ↦ elim ((fields_meaning from).decides bytes good) [
      | inl s ↦ inl (s.0, (s.1, h))
      | inr f ↦ inr (f.0, in_fields h f.1)
    ]
  ];
}

-- ---- what a writer spells

-- the smallest size is a size of the id, and no size that it fits is smaller
pub record Smallest (id : ℕ) : Type 0 where
  pub sized : IsSizeOf (size_code id) id
  pub bytes_are : smallest id ≡ id_in (size_code id) id
  pub least : (size : ℕ) → IsSizeOf size id → length (smallest id) ≤ length (id_in size id)

-- an id takes as many bytes as it has, in each size that it fits
takes : (size id : ℕ) → size < 3 → id < 256 ^ 2 ^ size
    → (1 ≤ length (id_in size id)) × (2 ^ 8 ≤ id → 2 ≤ length (id_in size id)) × (2 ^ 16 ≤ id → 4 ≤ length (id_in size id))
takes zero id h fits = (omega arith, λ big. omega arith, λ big. omega arith)
takes (suc zero) id h fits = (omega arith, λ big. omega arith, λ big. omega arith)
takes (suc (suc zero)) id h fits = (omega arith, λ big. omega arith, λ big. omega arith)
takes (suc (suc (suc n))) id h fits = absurd (omega arith)

smallest_by : (id code : ℕ) → size_code id ≡ code → smallest id ≡ id_in code id → IsSizeOf code id
    → ((size : ℕ) → IsSizeOf size id → length (id_in code id) ≤ length (id_in size id)) → Smallest id
smallest_by id code is text sized least = record {
  sized = subst (λ c. IsSizeOf c id) (sym is) sized;
  bytes_are = text ∙ ap (λ c. id_in c id) (sym is);
  least = λ size h. subst (λ t. length t ≤ length (id_in size id)) (sym text) (least size h);
}

pub smallest_is : (id : ℕ) → id < 2 ^ 32 → Smallest id
smallest_is id fits =
    elim (cases_lt id (2 ^ 8)) [
      | inl one ↦ smallest_by id 0 (rw (lt-ltb id (2 ^ 8) one) refl) (rw (lt-ltb id (2 ^ 8) one) refl) (omega arith, omega arith) (λ size h. (takes size id h.0 h.1).0)
      | inr more ↦ elim (cases_lt id (2 ^ 16)) [
        | inl two ↦ smallest_by id 1 (rw (le-ltb id (2 ^ 8) more, lt-ltb id (2 ^ 16) two) refl) (rw (le-ltb id (2 ^ 8) more, lt-ltb id (2 ^ 16) two) refl) (omega arith, omega arith)
            (λ size h. (takes size id h.0 h.1).1 more)
        | inr four ↦ smallest_by id 2 (rw (le-ltb id (2 ^ 8) more, le-ltb id (2 ^ 16) four) refl) (rw (le-ltb id (2 ^ 8) more, le-ltb id (2 ^ 16) four) refl) (omega arith, omega arith)
            (λ size h. (takes size id h.0 h.1).2 four)
      ]
    ]

-- what this writer chooses: nothing but zeros beside the sizes
abbrev chosen : ℕ → ℕ → Choice
chosen size wide = record { size = size; wide = wide; unnamed = 0; pad = 0 }

-- what a writer spells for a PDU spells it
pub written_spells : (from : Role) (pdu : Pdu) → Fits from pdu → Spells from (spelled pdu) pdu
written_spells from (Caps version None) fits = record { choice = chosen 0 0; allowed = (omega arith, omega arith, omega arith); fits = fits; bytes_are = refl }
written_spells from (Caps version (Some charges)) fits =
    record { choice = chosen 0 0; allowed = (omega arith, omega arith, omega arith); fits = fits; bytes_are = refl }
written_spells Server (CreateRequest id priority name) fits =
    let s = smallest_is id fits.0 in
    record { choice = chosen (size_code id) 0; allowed = s.sized; fits = fits; bytes_are = rw s.bytes_are refl }
written_spells Client (CreateRequest id priority name) fits = absurd fits
written_spells Server (CreateResponse id status) fits = absurd fits
written_spells Client (CreateResponse id status) fits =
    let s = smallest_is id fits.0 in
    record { choice = chosen (size_code id) 0; allowed = (omega arith, s.sized); fits = fits; bytes_are = rw s.bytes_are refl }
written_spells from (DataFirst id total bytes) fits =
    let s = smallest_is id fits.0 in
    let t = smallest_is total fits.1 in
    record { choice = chosen (size_code id) (size_code total); allowed = (s.sized, t.sized); fits = fits; bytes_are = rw (s.bytes_are, t.bytes_are) refl }
written_spells from (CompressedFirst id total bytes) fits =
    let s = smallest_is id fits.0 in
    let t = smallest_is total fits.1 in
    record { choice = chosen (size_code id) (size_code total); allowed = (s.sized, t.sized); fits = fits; bytes_are = rw (s.bytes_are, t.bytes_are) refl }
written_spells from (Compressed id bytes) fits =
    let s = smallest_is id fits.0 in
    record { choice = chosen (size_code id) 0; allowed = (omega arith, s.sized); fits = fits; bytes_are = rw s.bytes_are refl }
written_spells from (Close id) fits =
    let s = smallest_is id fits in
    record { choice = chosen (size_code id) 0; allowed = (omega arith, s.sized); fits = fits; bytes_are = rw s.bytes_are refl }
written_spells from (SyncRequest flags tunnels lists) fits = record { choice = chosen 0 0; allowed = (omega arith, omega arith, omega arith); fits = fits; bytes_are = refl }
written_spells from (SyncResponse types) fits = record { choice = chosen 0 0; allowed = (omega arith, omega arith, omega arith); fits = fits; bytes_are = refl }
written_spells from (Data id bytes) fits =
    let s = smallest_is id fits.0 in
    record { choice = chosen (size_code id) 0; allowed = (omega arith, s.sized); fits = fits; bytes_are = rw s.bytes_are refl }

-- what a writer spells is read back
pub written_is_read : (from : Role) (pdu : Pdu) → IsPdu from pdu → reading from (spelled pdu) ≡ Ok pdu
written_is_read from pdu fits = (meaning from).reads pdu (spelled pdu) (written_spells from pdu fits.0, fits.1)

-- of an id and a length, each in its smallest size, no spelling is longer than another
first_shortest : (i t j u content : List ℕ) (a b : ℕ) (bytes : List ℕ) → length i ≤ length j → length t ≤ length u → bytes ≡ b ∷ (j ++ (u ++ (content ++ [])))
    → length (a ∷ (i ++ (t ++ (content ++ [])))) ≤ length bytes
first_shortest i t j u content a b bytes least narrow is =
    omega (arith, ap length is, length-append i (t ++ (content ++ [])), length-append t (content ++ []), length-append j (u ++ (content ++ [])), length-append u (content ++ []))

-- no spelling of a PDU is shorter than the writer's
pub shortest : (from : Role) (bytes : List ℕ) (pdu : Pdu) → Spells from bytes pdu → length (spelled pdu) ≤ length bytes
shortest from bytes (Caps version None) s = omega (arith, ap length s.bytes_are)
shortest from bytes (Caps version (Some charges)) s = omega (arith, ap length s.bytes_are)
shortest Server bytes (CreateRequest id priority name) s =
    let least = (smallest_is id s.fits.0).least s.choice.size s.allowed in
    omega (arith, ap length s.bytes_are, length-append (smallest id) (name ++ (0 ∷ [])), length-append (id_in s.choice.size id) (name ++ (0 ∷ [])))
shortest Client bytes (CreateRequest id priority name) s = absurd s.fits
shortest Server bytes (CreateResponse id status) s = absurd s.fits
shortest Client bytes (CreateResponse id status) s =
    let least = (smallest_is id s.fits.0).least s.choice.size s.allowed.1 in
    omega (arith, ap length s.bytes_are, length-append (smallest id) (little_bytes 4 status ++ []), length-append (id_in s.choice.size id) (little_bytes 4 status ++ []))
shortest from bytes (DataFirst id total content) s =
    let c = s.choice in
    let least = (smallest_is id s.fits.0).least c.size s.allowed.0 in
    let narrow = (smallest_is total s.fits.1).least c.wide s.allowed.1 in
    first_shortest (smallest id) (smallest total) (id_in c.size id) (id_in c.wide total) content 0x20 (2 * 16 + c.wide * 4 + c.size) bytes least narrow s.bytes_are
shortest from bytes (CompressedFirst id total content) s =
    let c = s.choice in
    let least = (smallest_is id s.fits.0).least c.size s.allowed.0 in
    let narrow = (smallest_is total s.fits.1).least c.wide s.allowed.1 in
    first_shortest (smallest id) (smallest total) (id_in c.size id) (id_in c.wide total) content 0x60 (6 * 16 + c.wide * 4 + c.size) bytes least narrow s.bytes_are
shortest from bytes (Compressed id content) s =
    let least = (smallest_is id s.fits.0).least s.choice.size s.allowed.1 in
    omega (arith, ap length s.bytes_are, length-append (smallest id) (content ++ []), length-append (id_in s.choice.size id) (content ++ []))
shortest from bytes (Close id) s =
    let least = (smallest_is id s.fits).least s.choice.size s.allowed.1 in
    omega (arith, ap length s.bytes_are, length-append (smallest id) [], length-append (id_in s.choice.size id) [])
shortest from bytes (SyncRequest flags tunnels lists) s = omega (arith, ap length s.bytes_are)
shortest from bytes (SyncResponse types) s = omega (arith, ap length s.bytes_are)
shortest from bytes (Data id content) s =
    let least = (smallest_is id s.fits.0).least s.choice.size s.allowed.1 in
    omega (arith, ap length s.bytes_are, length-append (smallest id) (content ++ []), length-append (id_in s.choice.size id) (content ++ []))

-- ---- the same of what a reader answered

answer_is : (from : Role) (bytes : List ℕ) (r : Result DvcPdu DvcRefusal) → length bytes ≤ 1600 → Answers pdu_of r (pdu_at from (left_at 0 bytes)) → Answers pdu_of r (reading from bytes)
answer_is from bytes (Ok p) h is = within from bytes h ∙ is
answer_is from bytes (Err e) h is = within from bytes h ∙ is

found_by : (from : Role) (bytes : List ℕ) (r : Result DvcPdu DvcRefusal) → IsBytes bytes → Answers pdu_of r (reading from bytes) → IfOk r (λ p. Encodes from bytes (pdu_of p))
found_by from bytes (Ok p) good is = was_spelled (meaning from) (pdu_of p) bytes good is
found_by from bytes (Err e) good is = tt

only_by : (from : Role) (bytes : List ℕ) (r : Result DvcPdu DvcRefusal) → Answers pdu_of r (reading from bytes) → (pdu : Pdu) → Encodes from bytes pdu
    → IsOkAnd r (λ p. pdu_of p ≡ pdu)
only_by from bytes (Ok p) is pdu s = ok_is (pdu_of p) pdu is ((meaning from).reads pdu bytes s)
only_by from bytes (Err e) is pdu s = not_both pdu e ((meaning from).reads pdu bytes s) is

fault_by : (from : Role) (bytes : List ℕ) (r : Result DvcPdu DvcRefusal) → IsBytes bytes → Answers pdu_of r (reading from bytes) → IfErr r (λ e. Refused from bytes e)
fault_by from bytes (Ok p) good is = tt
fault_by from bytes (Err e) good is = was_fault (meaning from) e bytes good is

-- what a reader of at most 1,600 bytes answered
pub record Answered (from : Role) (bytes : List ℕ) (r : Result DvcPdu DvcRefusal) : Type 0 where
  pub found : IfOk r (λ p. Encodes from bytes (pdu_of p))
  pub only : (pdu : Pdu) → Encodes from bytes pdu → IsOkAnd r (λ p. pdu_of p ≡ pdu)
  pub refused : IfErr r (λ e. Refused from bytes e)

pub answered : (from : Role) (bytes : List ℕ) (s : Left) (r : Result DvcPdu DvcRefusal) → ((i : ℕ) → get_or bytes i 0 < 256) → length bytes ≤ 1600
    → s ≡ left_at 0 bytes → Answers pdu_of r (pdu_at from s) → Answered from bytes r
answered from bytes s r byte h starts is =
    let good : IsBytes bytes = All-from_get_or (λ b. b < 256) bytes 0 (λ i within. byte i) in
    let exact = answer_is from bytes r h (subst (λ s. Answers pdu_of r (pdu_at from s)) starts is) in
    record { found = found_by from bytes r good exact; only = only_by from bytes r exact; refused = fault_by from bytes r good exact }
