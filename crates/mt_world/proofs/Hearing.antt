-- What an end hears: the PDUs in the bytes that it takes, whatever it does between.
use Rattle.std.proofs.Common.{◌≡◌, ◌≢◌, ℕ, ◌+◌, ◌*◌, ◌/◌, ◌%◌, ◌<◌, ◌^◌, cond, List, [], ◌∷◌, ◌++◌, length, take, fold, Option, None, Some, Ok, refl, sym, ap, ◌∙◌, append_assoc, append-nil, ne_eqb, eq-eqb, arith, length-append}
use Rattle.std.specs.List.{flat_map, AllByRecursion}
use Rattle.std.proofs.lemmas.List.Sums.{fold-append}
use Rattle.mt_base.specs.declared.kinds.Role.{Role}
use Rattle.mt_base.specs.Ends.{other}
use Rattle.mt_base.specs.Trace.{Trace, Start, ◌▷◌}
use Rattle.dvc_pdus.specs.Value.{Pdu, IsPdu, spelled}
use Rattle.dvc_pdus.specs.Reading.{reading}
use Rattle.mt_world.specs.Frames.{framed, frame_of, read_pdu, IsSpoken}
use Rattle.mt_world.specs.Acts.{Entry, Made, Opened, Sent, MainIn, MainOut, Took, Past, with_byte, with_frame, past, reads, taken}
use Rattle.mt_base.specs.Prefix.{IsPrefixOf}
use Rattle.mt_base.proofs.Prefixes.{front-trans, front-same, front-append}

-- the PDUs so far, and the bytes of a frame that is under way
abbrev pub Heard : Type 0
Heard = List Pdu × List ℕ

abbrev pub ends_in : List Pdu → List ℕ → Option Pdu → Heard
ends_in pdus part None = (pdus, part)
ends_in pdus part (Some pdu) = (pdus ++ pdu ∷ [], [])

-- one more byte of this end's
unfoldable pub hear : Role → Heard → ℕ → Heard
hear from h byte = ends_in h.0 (h.1 ++ byte ∷ []) (frame_of from (h.1 ++ byte ∷ []))

-- a past as what was heard
abbrev pub heard_of : Past → Heard
heard_of p = (reads p.acts, p.part)

frame_is_heard : (p : Past) (part : List ℕ) (read : Option Pdu) → heard_of (with_frame p part read) ≡ ends_in (reads p.acts) part read
frame_is_heard p part None = refl
frame_is_heard p part (Some pdu) = refl

byte_is_heard : (role : Role) (p : Past) (byte : ℕ) → heard_of (with_byte role p byte) ≡ hear (other role) (heard_of p) byte
unfolding with_byte hear
byte_is_heard role p byte = frame_is_heard p (p.part ++ byte ∷ []) (frame_of (other role) (p.part ++ byte ∷ []))

bytes_are_heard : (role : Role) (p : Past) (bytes : List ℕ) → heard_of (fold (with_byte role) p bytes) ≡ fold (hear (other role)) (heard_of p) bytes
bytes_are_heard role p [] = refl
bytes_are_heard role p (b ∷ bs) = bytes_are_heard role (with_byte role p b) bs ∙ ap (λ h. fold (hear (other role)) h bs) (byte_is_heard role p b)

-- what an end has read is a function of the bytes that it took alone
pub heard-past : (role : Role) (t : Trace Entry) → heard_of (past role t) ≡ fold (hear (other role)) ([], []) (taken t)
heard-past role Start = refl
heard-past role (t ▷ Made) = heard-past role t
heard-past role (t ▷ Opened id name) = heard-past role t
heard-past role (t ▷ Sent id message) = heard-past role t
heard-past role (t ▷ MainIn offered count) =
    bytes_are_heard role (past role t) (take count offered)
    ∙ ap (λ h. fold (hear (other role)) h (take count offered)) (heard-past role t)
    ∙ sym (fold-append (hear (other role)) ([], []) (taken t) (take count offered))
heard-past role (t ▷ MainOut room bytes) = heard-past role t
heard-past role (t ▷ Took id message) = heard-past role t

-- a byte that is heard only adds PDUs
ends-grow : (pdus : List Pdu) (part : List ℕ) (read : Option Pdu) → IsPrefixOf pdus (ends_in pdus part read).0
ends-grow pdus part None = front-same pdus
ends-grow pdus part (Some pdu) = front-append pdus (pdu ∷ [])

hear-grow : (from : Role) (h : Heard) (byte : ℕ) → IsPrefixOf h.0 (hear from h byte).0
unfolding hear
hear-grow from h byte = ends-grow h.0 (h.1 ++ byte ∷ []) (frame_of from (h.1 ++ byte ∷ []))

-- more bytes only add PDUs
pub hears-grow : (from : Role) (h : Heard) (bytes : List ℕ) → IsPrefixOf h.0 (fold (hear from) h bytes).0
hears-grow from h [] = front-same h.0
hears-grow from h (b ∷ bs) = front-trans h.0 (hear from h b).0 (fold (hear from) (hear from h b) bs).0 (hear-grow from h b) (hears-grow from (hear from h b) bs)

-- bytes that are too few or too many for their length are no frame
not_whole : (from : Role) (low high : ℕ) (pdu : List ℕ) → low + 256 * high ≢ length pdu → frame_of from (3 ∷ low ∷ high ∷ pdu) ≡ None
unfolding frame_of
not_whole from low high pdu differs = ap (λ b. cond b (read_pdu (reading from pdu)) None) (ne_eqb (low + 256 * high) (length pdu) differs)

-- bytes that are as many as their length says are a frame
whole : (from : Role) (low high : ℕ) (pdu : List ℕ) → low + 256 * high ≡ length pdu → frame_of from (3 ∷ low ∷ high ∷ pdu) ≡ read_pdu (reading from pdu)
unfolding frame_of
whole from low high pdu same = ap (λ b. cond b (read_pdu (reading from pdu)) None) (eq-eqb (low + 256 * high) (length pdu) same)

hear_part : (from : Role) (pdus : List Pdu) (part : List ℕ) (byte : ℕ) → frame_of from (part ++ byte ∷ []) ≡ None → hear from (pdus, part) byte ≡ (pdus, part ++ byte ∷ [])
unfolding hear
hear_part from pdus part byte none = ap (ends_in pdus (part ++ byte ∷ [])) none

hear_end : (from : Role) (pdus : List Pdu) (part : List ℕ) (byte : ℕ) (pdu : Pdu) → frame_of from (part ++ byte ∷ []) ≡ Some pdu → hear from (pdus, part) byte ≡ (pdus ++ pdu ∷ [], [])
unfolding hear
hear_end from pdus part byte pdu some = ap (ends_in pdus (part ++ byte ∷ [])) some

-- the bytes of a PDU behind the first of them complete its frame
hear_body : (from : Role) (pdus : List Pdu) (low high : ℕ) (before : List ℕ) (byte : ℕ) (rest : List ℕ) (pdu : Pdu)
    → low + 256 * high ≡ length (before ++ byte ∷ rest) → read_pdu (reading from (before ++ byte ∷ rest)) ≡ Some pdu
    → fold (hear from) (pdus, 3 ∷ low ∷ high ∷ before) (byte ∷ rest) ≡ (pdus ++ pdu ∷ [], [])
hear_body from pdus low high before byte [] pdu long is =
    hear_end from pdus (3 ∷ low ∷ high ∷ before) byte pdu (whole from low high (before ++ byte ∷ []) long ∙ is)
hear_body from pdus low high before byte (next ∷ rest) pdu long is =
    let split : before ++ byte ∷ next ∷ rest ≡ before ++ byte ∷ [] ++ next ∷ rest = sym (append_assoc before (byte ∷ []) (next ∷ rest)) in
    let short : low + 256 * high ≢ length (before ++ byte ∷ []) = omega (arith, long, length-append before (byte ∷ next ∷ rest), length-append before (byte ∷ [])) in
    ap (λ h. fold (hear from) h (next ∷ rest)) (hear_part from pdus (3 ∷ low ∷ high ∷ before) byte (not_whole from low high (before ++ byte ∷ []) short))
    ∙ hear_body from pdus low high (before ++ byte ∷ []) next rest pdu (long ∙ ap length split) (ap (λ t. read_pdu (reading from t)) (sym split) ∙ is)

two_bytes : (from : Role) (pdus : List Pdu) (low : ℕ) (rest : List ℕ) → fold (hear from) (pdus, []) (3 ∷ low ∷ rest) ≡ fold (hear from) (pdus, 3 ∷ low ∷ []) rest
unfolding hear frame_of
two_bytes from pdus low rest = refl

-- a whole frame is one more PDU
pub hear-frame : (from : Role) (pdus : List Pdu) (low high : ℕ) (text : List ℕ) (pdu : Pdu) → low + 256 * high ≡ length text → read_pdu (reading from text) ≡ Some pdu
    → fold (hear from) (pdus, []) (3 ∷ low ∷ high ∷ text) ≡ (pdus ++ pdu ∷ [], [])
hear-frame from pdus low high [] pdu long is =
    two_bytes from pdus low (high ∷ []) ∙ hear_end from pdus (3 ∷ low ∷ []) high pdu (whole from low high [] long ∙ is)
hear-frame from pdus low high (byte ∷ rest) pdu long is =
    let some : low + 256 * high ≢ length {A = ℕ} [] = omega (arith, long) in
    two_bytes from pdus low (high ∷ byte ∷ rest)
    ∙ ap (λ h. fold (hear from) h (byte ∷ rest)) (hear_part from pdus (3 ∷ low ∷ []) high (not_whole from low high [] some))
    ∙ hear_body from pdus low high [] byte rest pdu long is

-- the length of a frame, in two bytes
length_is : (n : ℕ) → n < 2 ^ 16 → n % 256 + 256 * (n / 256 ^ 1 % 256) ≡ n
length_is n small = omega arith

pub hear-framed : (from : Role) (pdus : List Pdu) (pdu : Pdu) → IsSpoken from pdu → reading from (spelled pdu) ≡ Ok pdu
    → fold (hear from) (pdus, []) (framed pdu) ≡ (pdus ++ pdu ∷ [], [])
unfolding framed
hear-framed from pdus pdu is back =
    let n = length (spelled pdu) in
    let small : length (spelled pdu) < 2 ^ 16 = omega (arith, is.0.1) in
    hear-frame from pdus (length (spelled pdu) % 256) (length (spelled pdu) / 256 ^ 1 % 256) (spelled pdu) pdu (length_is (length (spelled pdu)) small) (ap read_pdu back ∙ ap (λ b. cond b (Some pdu) None) is.1)

-- what was written of PDUs is heard as these, with nothing left
pub hear-written : (from : Role) → ((pdu : Pdu) → IsPdu from pdu → reading from (spelled pdu) ≡ Ok pdu) → (pdus more : List Pdu) → AllByRecursion (IsSpoken from) more
    → fold (hear from) (pdus, []) (flat_map framed more) ≡ (pdus ++ more, [])
hear-written from back pdus [] all = ap (λ x. (x, [])) (sym (append-nil pdus))
hear-written from back pdus (pdu ∷ more) all =
    fold-append (hear from) (pdus, []) (framed pdu) (flat_map framed more)
    ∙ ap (λ h. fold (hear from) h (flat_map framed more)) (hear-framed from pdus pdu all.0 (back pdu all.0.0))
    ∙ hear-written from back (pdus ++ pdu ∷ []) more all.1
    ∙ ap (λ x. (x, [])) (append_assoc pdus (pdu ∷ []) more)
