-- What the reading of each body gives: at the bytes that spell it, and at each fault.
use Rattle.std.proofs.Common.{◌≡◌, eqb, ℕ, ◌+◌, ◌*◌, ◌^◌, ◌<◌, ◌≤◌, false, List, [], ◌∷◌, ◌++◌, length, map, Some, None, Ok, Err, refl, sym, ap, ◌∙◌, subst, arith}
use Rattle.std.specs.List.{All}
use Rattle.std.proofs.lemmas.Bool.{ne_eqb, cond-false, lt-ltb, le-ltb}
use Rattle.std.proofs.lemmas.List.Elements.{All-head, All-tail}
use Rattle.byteorder.specs.Endian.{little_bytes}
use Rattle.byteorder.specs.Numbers.{length-bytes_low_first}
use Rattle.mt_base.specs.Reading.{little}
use Rattle.mt_base.specs.Writing.{joined}
use Rattle.mt_base.proofs.FrontFields.{left_at, byte_reads, little_reads, little_cut, big_cut}
use Rattle.dvc_pdus.specs.declared.pdu.DvcRefusal.{DvcRefusal}
use Rattle.dvc_pdus.specs.declared.pdu.DvcRefusal.TheVariants as refusal
use Rattle.dvc_pdus.specs.Value.{Caps, CreateRequest, CreateResponse, DataFirst, Data, CompressedFirst, Compressed, Close, IsName}
use Rattle.dvc_pdus.specs.Reading.{◌>>=◌, cut, leading_id_at, length_at, ended, name_at, charges_at, capabilities_at, create_request_at, create_response_at, within, data_first_at, data_at, compressed_first_at, compressed_at, close_at}
use Rattle.dvc_pdus.specs.Layout.{id_in, IsSizeOf}
use Rattle.dvc_pdus.specs.Faults.{RefusedName, Cut}
use Rattle.dvc_pdus.proofs.Parts.{id_reads, cut_id, length_as_id, leading_as_id, name_law, name_answer, ended_none}

name_reads : (name : List ℕ) → IsName name → (n : ℕ) (rest : List ℕ) → name_at (left_at n ((name ++ (0 ∷ [])) ++ rest)) ≡ Ok (name, left_at (n + length (name ++ (0 ∷ []))) rest)
name_reads name h n rest = name_law.again name (name ++ (0 ∷ [])) (h, refl) (left_at n ((name ++ (0 ∷ [])) ++ rest)) rest refl

-- ---- data

pub data_reads : (size id : ℕ) → IsSizeOf size id → (n : ℕ) (rest : List ℕ) → data_at size (left_at n (id_in size id ++ rest)) ≡ Ok (Data id rest)
unfolding data_at
data_reads size id h n rest = rw (id_reads size id h n rest) refl

pub compressed_reads : (size id : ℕ) → IsSizeOf size id → (n : ℕ) (rest : List ℕ) → compressed_at size (left_at n (id_in size id ++ rest)) ≡ Ok (Compressed id rest)
unfolding compressed_at
compressed_reads size id h n rest = rw (id_reads size id h n rest) refl

-- ---- close

pub close_reads : (size id : ℕ) → IsSizeOf size id → (n : ℕ) (rest : List ℕ) → close_at size (left_at n (id_in size id ++ rest)) ≡ ended (Close id) (left_at (n + length (id_in size id)) rest)
unfolding close_at
close_reads size id h n rest = rw (id_reads size id h n rest) refl

-- ---- the first bytes of a message

leading_reads : (wide size id : ℕ) → wide < 3 → IsSizeOf size id → (n : ℕ) (rest : List ℕ)
    → leading_id_at wide size (left_at n (id_in size id ++ rest)) ≡ Ok (id, left_at (n + length (id_in size id)) rest)
leading_reads wide size id small h n rest = leading_as_id wide size (left_at n (id_in size id ++ rest)) small ∙ id_reads size id h n rest

length_reads : (wide total : ℕ) → IsSizeOf wide total → (n : ℕ) (rest : List ℕ) → length_at wide (left_at n (id_in wide total ++ rest)) ≡ Ok (total, left_at (n + length (id_in wide total)) rest)
length_reads wide total h n rest = length_as_id wide h.0 (left_at n (id_in wide total ++ rest)) ∙ id_reads wide total h n rest

pub data_first_reads : (wide size id total : ℕ) → IsSizeOf size id → IsSizeOf wide total → (n : ℕ) (rest : List ℕ)
    → data_first_at wide size (left_at n (id_in size id ++ (id_in wide total ++ rest))) ≡ within (n + length (id_in size id)) id total rest
unfolding data_first_at
data_first_reads wide size id total h k n rest =
    rw (leading_reads wide size id k.0 h n (id_in wide total ++ rest), length_reads wide total k (n + length (id_in size id)) rest) refl

pub compressed_first_reads : (wide size id total : ℕ) → IsSizeOf size id → IsSizeOf wide total → (n : ℕ) (rest : List ℕ)
    → compressed_first_at wide size (left_at n (id_in size id ++ (id_in wide total ++ rest))) ≡ Ok (CompressedFirst id total rest)
unfolding compressed_first_at
compressed_first_reads wide size id total h k n rest =
    rw (leading_reads wide size id k.0 h n (id_in wide total ++ rest), length_reads wide total k (n + length (id_in size id)) rest) refl

pub within_fits : (at id total : ℕ) (bytes : List ℕ) → length bytes ≤ total → within at id total bytes ≡ Ok (DataFirst id total bytes)
unfolding within
within_fits at id total bytes h = rw (le-ltb total (length bytes) h) refl

pub within_small : (at id total : ℕ) (bytes : List ℕ) → total < length bytes → within at id total bytes ≡ Err (refusal.LengthTooSmall at)
unfolding within
within_small at id total bytes h = rw (lt-ltb total (length bytes) h) refl

-- the place behind an id, by its size
pub behind_id : (size id : ℕ) → 1 + 2 ^ size ≡ 1 + length (id_in size id)
behind_id size id = ap (λ n. 1 + n) (sym (length-bytes_low_first 0 (2 ^ size) id))

length_cut : (wide size id : ℕ) (rest : List ℕ) (r : DvcRefusal) → wide < 3 → Cut (1 + 2 ^ size) (2 ^ wide) rest r → length_at wide (left_at (1 + length (id_in size id)) rest) ≡ Err r
length_cut wide size id rest r small fault =
    length_as_id wide small (left_at (1 + length (id_in size id)) rest)
    ∙ cut_id wide (1 + length (id_in size id)) rest r small (subst (λ n. Cut n (2 ^ wide) rest r) (behind_id size id) fault)

pub data_first_length : (wide size id : ℕ) (rest : List ℕ) (r : DvcRefusal) → IsSizeOf size id → wide < 3 → Cut (1 + 2 ^ size) (2 ^ wide) rest r
    → data_first_at wide size (left_at 1 (id_in size id ++ rest)) ≡ Err r
unfolding data_first_at
data_first_length wide size id rest r h small fault = rw (leading_reads wide size id small h 1 rest, length_cut wide size id rest r small fault) refl

pub compressed_first_length : (wide size id : ℕ) (rest : List ℕ) (r : DvcRefusal) → IsSizeOf size id → wide < 3 → Cut (1 + 2 ^ size) (2 ^ wide) rest r
    → compressed_first_at wide size (left_at 1 (id_in size id ++ rest)) ≡ Err r
unfolding compressed_first_at
compressed_first_length wide size id rest r h small fault = rw (leading_reads wide size id small h 1 rest, length_cut wide size id rest r small fault) refl

-- ---- create request

pub request_reads : (own size id : ℕ) (name : List ℕ) → IsSizeOf size id → IsName name → (n : ℕ) (rest : List ℕ)
    → create_request_at own size (left_at n (id_in size id ++ ((name ++ (0 ∷ [])) ++ rest))) ≡ ended (CreateRequest id own name) (left_at (n + length (id_in size id) + length (name ++ (0 ∷ []))) rest)
unfolding create_request_at
request_reads own size id name h good n rest =
    rw (id_reads size id h n ((name ++ (0 ∷ [])) ++ rest), name_reads name good (n + length (id_in size id)) rest) refl

pub request_name : (own size id : ℕ) (rest : List ℕ) (r : DvcRefusal) → IsSizeOf size id → RefusedName (1 + 2 ^ size) rest r → create_request_at own size (left_at 1 (id_in size id ++ rest)) ≡ Err r
unfolding create_request_at
request_name own size id rest r h fault =
    let place = behind_id size id in
    let name : name_at (left_at (1 + length (id_in size id)) rest) ≡ Err r = name_answer (left_at (1 + length (id_in size id)) rest) r (subst (λ n. RefusedName n rest r) place fault) in
    rw (id_reads size id h 1 rest, name) refl

-- ---- create response

pub response_reads : (size id status : ℕ) → IsSizeOf size id → status < 2 ^ 32 → (n : ℕ) (rest : List ℕ)
    → create_response_at size (left_at n (id_in size id ++ (little_bytes 4 status ++ rest))) ≡ ended (CreateResponse id status) (left_at (n + length (id_in size id) + length (little_bytes 4 status)) rest)
unfolding create_response_at
response_reads size id status h good n rest =
    rw (id_reads size id h n (little_bytes 4 status ++ rest), little_reads refusal.Short 4 status good (n + length (id_in size id)) rest) refl

pub response_status : (size id : ℕ) (rest : List ℕ) (r : DvcRefusal) → IsSizeOf size id → Cut (1 + 2 ^ size) 4 rest r → create_response_at size (left_at 1 (id_in size id ++ rest)) ≡ Err r
unfolding create_response_at
response_status size id rest r h fault =
    let place = behind_id size id in
    let status : cut (little 4 (left_at (1 + length (id_in size id)) rest)) ≡ Err r = little_cut refusal.Short 4 (1 + length (id_in size id)) rest r (subst (λ n. Cut n 4 rest r) place fault) in
    rw (id_reads size id h 1 rest, status) refl

-- ---- capabilities

abbrev Charge : ℕ → Type 0
Charge c = c < 2 ^ 16

-- a cut field by its place, written in another way
cut_at : (m n : ℕ) (rest : List ℕ) (r : DvcRefusal) → m ≡ n → Cut m 2 rest r → Cut n 2 rest r
cut_at m n rest r same fault = subst (λ n. Cut n 2 rest r) same fault

not_empty : (xs : List ℕ) → 0 < length xs → eqb (length xs) 0 ≡ false
not_empty xs h = ne_eqb (length xs) 0 (λ e. omega arith)

charges_none : (n : ℕ) → charges_at (left_at n []) ≡ Ok (None, left_at n [])
unfolding charges_at
charges_none n = refl

charges_some : (a b c d : ℕ) → Charge a → Charge b → Charge c → Charge d → (n : ℕ) (rest : List ℕ)
    → charges_at (left_at n (little_bytes 2 a ++ (little_bytes 2 b ++ (little_bytes 2 c ++ (little_bytes 2 d ++ rest))))) ≡ Ok (Some (a ∷ b ∷ c ∷ d ∷ []), left_at (n + 2 + 2 + 2 + 2) rest)
unfolding charges_at
charges_some a b c d fa fb fc fd n rest =
    let bytes = little_bytes 2 a ++ (little_bytes 2 b ++ (little_bytes 2 c ++ (little_bytes 2 d ++ rest))) in
    rw (
      little_reads refusal.Short 2 a fa n (little_bytes 2 b ++ (little_bytes 2 c ++ (little_bytes 2 d ++ rest))),
      little_reads refusal.Short 2 b fb (n + 2) (little_bytes 2 c ++ (little_bytes 2 d ++ rest)),
      little_reads refusal.Short 2 c fc (n + 2 + 2) (little_bytes 2 d ++ rest),
      little_reads refusal.Short 2 d fd (n + 2 + 2 + 2) rest,
    ) (cond-false _ _ _ (not_empty bytes (omega arith)))

-- a charge that is cut short, behind none, one, two or three
charges_cut : (before : List ℕ) (n : ℕ) (rest : List ℕ) (r : DvcRefusal) → All Charge before → length before < 4 → 0 < length before + length rest
    → Cut (n + 2 * length before) 2 rest r → charges_at (left_at n (joined (map (little_bytes 2) before) ++ rest)) ≡ Err r
unfolding charges_at
charges_cut [] n rest r good few some fault =
    rw (little_cut refusal.Short 2 n rest r (cut_at (n + 2 * 0) n rest r (omega arith) fault)) (cond-false _ _ _ (not_empty rest (omega arith)))
charges_cut (a ∷ []) n rest r good few some fault =
    rw (little_reads refusal.Short 2 a (All-head Charge a [] good) n rest, little_cut refusal.Short 2 (n + 2) rest r (cut_at (n + 2 * 1) (n + 2) rest r (omega arith) fault))
    (cond-false _ _ _ (not_empty (little_bytes 2 a ++ rest) (omega arith)))
charges_cut (a ∷ b ∷ []) n rest r good few some fault =
    let others = All-tail Charge a (b ∷ []) good in
    rw (
      little_reads refusal.Short 2 a (All-head Charge a (b ∷ []) good) n (little_bytes 2 b ++ rest),
      little_reads refusal.Short 2 b (All-head Charge b [] others) (n + 2) rest,
      little_cut refusal.Short 2 (n + 2 + 2) rest r (cut_at (n + 2 * 2) (n + 2 + 2) rest r (omega arith) fault),
    ) (cond-false _ _ _ (not_empty (little_bytes 2 a ++ (little_bytes 2 b ++ rest)) (omega arith)))
charges_cut (a ∷ b ∷ c ∷ []) n rest r good few some fault =
    let others = All-tail Charge a (b ∷ c ∷ []) good in
    let last = All-tail Charge b (c ∷ []) others in
    rw (
      little_reads refusal.Short 2 a (All-head Charge a (b ∷ c ∷ []) good) n (little_bytes 2 b ++ (little_bytes 2 c ++ rest)),
      little_reads refusal.Short 2 b (All-head Charge b (c ∷ []) others) (n + 2) (little_bytes 2 c ++ rest),
      little_reads refusal.Short 2 c (All-head Charge c [] last) (n + 2 + 2) rest,
      little_cut refusal.Short 2 (n + 2 + 2 + 2) rest r (cut_at (n + 2 * 3) (n + 2 + 2 + 2) rest r (omega arith) fault),
    ) (cond-false _ _ _ (not_empty (little_bytes 2 a ++ (little_bytes 2 b ++ (little_bytes 2 c ++ rest))) (omega arith)))
charges_cut (a ∷ b ∷ c ∷ d ∷ more) n rest r good few some fault = absurd (omega arith)

-- pad and version, and what follows
versioned : (pad version : ℕ) → pad < 256 → version < 2 ^ 16 → (rest : List ℕ)
    → capabilities_at (left_at 1 (pad ∷ (little_bytes 2 version ++ rest))) ≡ (charges_at (left_at 4 rest) >>= λ c. ended (Caps version c.0) c.1)
unfolding capabilities_at
versioned pad version p v rest =
    rw (byte_reads refusal.Short pad p 1 (little_bytes 2 version ++ rest), little_reads refusal.Short 2 version v 2 rest) refl

pub capabilities_bare : (pad version : ℕ) → pad < 256 → version < 2 ^ 16 → capabilities_at (left_at 1 (pad ∷ (little_bytes 2 version ++ []))) ≡ Ok (Caps version None)
capabilities_bare pad version p v = versioned pad version p v [] ∙ ap (λ r. r >>= λ c. ended (Caps version c.0) c.1) (charges_none 4) ∙ ended_none (Caps version None) 4

-- the place behind four charges
charges_read : (charges : List ℕ) (n : ℕ) (rest : List ℕ) → length charges ≡ 4 → All Charge charges
    → charges_at (left_at n (joined (map (little_bytes 2) charges) ++ rest)) ≡ Ok (Some charges, left_at (n + 8) rest)
charges_read (a ∷ b ∷ c ∷ d ∷ []) n rest four good =
    let b_on = All-tail Charge a (b ∷ c ∷ d ∷ []) good in
    let c_on = All-tail Charge b (c ∷ d ∷ []) b_on in
    let d_on = All-tail Charge c (d ∷ []) c_on in
    let place : n + 2 + 2 + 2 + 2 ≡ n + 8 = omega arith in
    charges_some a b c d (All-head Charge a (b ∷ c ∷ d ∷ []) good) (All-head Charge b (c ∷ d ∷ []) b_on) (All-head Charge c (d ∷ []) c_on) (All-head Charge d [] d_on) n rest
    ∙ ap (λ m. Ok (Some (a ∷ b ∷ c ∷ d ∷ []), left_at m rest)) place
charges_read (a ∷ b ∷ c ∷ d ∷ e ∷ more) n rest four good = absurd (omega arith)
charges_read [] n rest four good = absurd (omega arith)
charges_read (a ∷ []) n rest four good = absurd (omega arith)
charges_read (a ∷ b ∷ []) n rest four good = absurd (omega arith)
charges_read (a ∷ b ∷ c ∷ []) n rest four good = absurd (omega arith)

pub capabilities_read : (pad version : ℕ) (charges : List ℕ) → pad < 256 → version < 2 ^ 16 → length charges ≡ 4 → All Charge charges → (rest : List ℕ)
    → capabilities_at (left_at 1 (pad ∷ (little_bytes 2 version ++ (joined (map (little_bytes 2) charges) ++ rest)))) ≡ ended (Caps version (Some charges)) (left_at 12 rest)
capabilities_read pad version charges p v four good rest =
    versioned pad version p v (joined (map (little_bytes 2) charges) ++ rest) ∙ ap (λ r. r >>= λ c. ended (Caps version c.0) c.1) (charges_read charges 4 rest four good)

pub capabilities_pad : (rest : List ℕ) (r : DvcRefusal) → Cut 1 1 rest r → capabilities_at (left_at 1 rest) ≡ Err r
unfolding capabilities_at
capabilities_pad rest r fault = rw (big_cut refusal.Short 1 1 rest r fault) refl

pub capabilities_version : (pad : ℕ) (rest : List ℕ) (r : DvcRefusal) → pad < 256 → Cut 2 2 rest r → capabilities_at (left_at 1 (pad ∷ rest)) ≡ Err r
unfolding capabilities_at
capabilities_version pad rest r p fault = rw (byte_reads refusal.Short pad p 1 rest, little_cut refusal.Short 2 2 rest r fault) refl

pub capabilities_charge : (pad version : ℕ) (before rest : List ℕ) (r : DvcRefusal) → pad < 256 → version < 2 ^ 16 → All Charge before → length before < 4
    → 0 < length before + length rest → Cut (4 + 2 * length before) 2 rest r
    → capabilities_at (left_at 1 (pad ∷ (little_bytes 2 version ++ (joined (map (little_bytes 2) before) ++ rest)))) ≡ Err r
capabilities_charge pad version before rest r p v good few some fault =
    versioned pad version p v (joined (map (little_bytes 2) before) ++ rest) ∙ ap (λ q. q >>= λ c. ended (Caps version c.0) c.1) (charges_cut before 4 rest r good few some fault)
