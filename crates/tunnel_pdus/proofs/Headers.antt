-- The header of a tunnel PDU: read where it keeps its rules.
use Rattle.std.proofs.Common.{◌≡◌, ◌⊎◌, inl, inr, ℕ, ◌+◌, ◌%◌, ◌/◌, ◌^◌, ◌<◌, ◌≤◌, eqb, ltb, cond, List, [], ◌∷◌, ◌++◌, length, drop, Result, Ok, Err, refl, sym, ap, ◌∙◌, arith, append_assoc, append-nil, length-append}
use Rattle.std.proofs.lemmas.Bool.{lt-ltb, le-ltb, eq-eqb, ne_eqb, cases_eq, cases_lt}
use Rattle.std.proofs.lemmas.List.{drop_at}
use Rattle.byteorder.specs.Endian.{little_bytes}
use Rattle.byteorder.specs.Numbers.{little_number-reads_back}
use Rattle.mt_base.specs.Writing.{joined}
use Rattle.mt_base.proofs.Lists.{nothing}
use Rattle.mt_base.proofs.Numbers.{IsBytes, zero_bytes}
use Rattle.mt_base.proofs.Fields.{block_or, little_or}
use Rattle.tunnel_pdus.specs.declared.action.Action.{Action}
use Rattle.tunnel_pdus.specs.declared.action.Action.TheVariants as action
use Rattle.tunnel_pdus.specs.declared.part.TunnelReason.{TunnelReason}
use Rattle.tunnel_pdus.specs.declared.part.TunnelReason.TheVariants as reason
use Rattle.tunnel_pdus.specs.declared.stop.Stop.{Stop}
use Rattle.tunnel_pdus.specs.declared.stop.Stop.TheVariants as stop
use Rattle.tunnel_pdus.specs.Value.{Pdu, CreateRequest, CreateResponse, Data, IsLengthOf, AreBytes, FitsPdu, action_code, pdu_action, payload, payload_length}
use Rattle.mt_base.specs.Parts.{◌>>=◌}
use Rattle.tunnel_pdus.specs.Reading.{refused, named, action_of, action_at, checked, length_at, header_at, sub_headers_at, pdu_in, payload_at, pdu_at}
use Rattle.tunnel_pdus.specs.Layout.{headed}
use Rattle.tunnel_pdus.specs.Faults.{WrongPayload, request_length, response_length, data_length}
use Rattle.tunnel_pdus.proofs.Windows.{byte_of, byte_cut, number_of, number_cut}

pub action_reads : (a : Action) (rest : List ℕ) → action_at (action_code a ∷ rest) ≡ Ok a
unfolding action_at
action_reads action.CreateRequest rest = ap (λ r. r >>= λ first. named (action_of (first % 16)) first) (byte_of [] 0 rest (0 ∷ rest) 0 refl refl)
action_reads action.CreateResponse rest = ap (λ r. r >>= λ first. named (action_of (first % 16)) first) (byte_of [] 1 rest (1 ∷ rest) 0 refl refl)
action_reads action.Data rest = ap (λ r. r >>= λ first. named (action_of (first % 16)) first) (byte_of [] 2 rest (2 ∷ rest) 0 refl refl)

-- the first byte is that of an action, or has another fault
pub data FirstByte (x : ℕ) : Type 0 where
  is_action : (a : Action) → x ≡ action_code a → FirstByte x
  no_action : 2 < x % 16 → FirstByte x
  has_flags : x % 16 ≤ 2 → 16 ≤ x → FirstByte x

pub first_or : (x : ℕ) → FirstByte x
first_or x = elim (cases_lt 2 (x % 16)) [
  | inl h ↦ no_action h
  | inr h ↦ elim (cases_lt x 16) [
    | inr big ↦ has_flags h big
    | inl small ↦ elim (cases_eq x 0) [
      | inl e ↦ is_action action.CreateRequest e
      | inr n ↦ elim (cases_eq x 1) [
        | inl e ↦ is_action action.CreateResponse e
        | inr m ↦ is_action action.Data (omega arith)
      ]
    ]
  ]
]

pub action_unknown : (x : ℕ) (rest : List ℕ) → 2 < x % 16 → action_at (x ∷ rest) ≡ Err (refused 0 reason.BadAction)
unfolding action_at
action_unknown x rest h =
    rw (byte_of [] x rest (x ∷ rest) 0 refl refl, ne_eqb (x % 16) 0 (λ e. omega arith), ne_eqb (x % 16) 1 (λ e. omega arith), ne_eqb (x % 16) 2 (λ e. omega arith)) refl

known_flags : (k x : ℕ) → k ≤ 2 → eqb (x / 16) 0 ≡ eqb 1 0 → named (action_of k) x ≡ Err (refused 0 reason.BadFlags)
known_flags k x h flags = elim (cases_eq k 0) [
  | inl e ↦ rw (e, flags) refl
  | inr n ↦ elim (cases_eq k 1) [
    | inl e ↦ rw (e, flags) refl
    | inr m ↦ (let e : k ≡ 2 = omega arith in rw (e, flags) refl)
  ]
]

pub action_flags : (x : ℕ) (rest : List ℕ) → x % 16 ≤ 2 → 16 ≤ x → action_at (x ∷ rest) ≡ Err (refused 0 reason.BadFlags)
unfolding action_at
action_flags x rest h big =
    ap (λ r. r >>= λ first. named (action_of (first % 16)) first) (byte_of [] x rest (x ∷ rest) 0 refl refl)
    ∙ known_flags (x % 16) x h (ne_eqb (x / 16) 0 (λ e. omega arith))

pub checked_good : (a : Action) (n : ℕ) → IsLengthOf a n → checked a n ≡ Ok n
checked_good action.CreateRequest n h = rw (eq-eqb n 24 h) refl
checked_good action.CreateResponse n h = rw (eq-eqb n 4 h) refl
checked_good action.Data n h = rw (le-ltb 1600 n h) refl

pub checked_wrong : (a : Action) (n : ℕ) (why : TunnelReason) → WrongPayload a n why → checked a n ≡ Err (refused 1 why)
checked_wrong _ _ _ (request_length n h) = rw (ne_eqb n 24 h) refl
checked_wrong _ _ _ (response_length n h) = rw (ne_eqb n 4 h) refl
checked_wrong _ _ _ (data_length n h) = rw (lt-ltb 1600 n h) refl

pub length_or : (a : Action) (n : ℕ) → IsLengthOf a n ⊎ ((why : TunnelReason) × WrongPayload a n why)
length_or action.CreateRequest n = elim (cases_eq n 24) [ inl e ↦ inl e | inr h ↦ inr (reason.WrongLength, request_length n h) ]
length_or action.CreateResponse n = elim (cases_eq n 4) [ inl e ↦ inl e | inr h ↦ inr (reason.WrongLength, response_length n h) ]
length_or action.Data n = elim (cases_lt 1600 n) [ inl h ↦ inr (reason.TooLong, data_length n h) | inr h ↦ inl h ]

-- no action has a length above 1,600
pub too_big : (a : Action) (n : ℕ) → 1600 < n → (why : TunnelReason) × WrongPayload a n why
too_big action.CreateRequest n h = (reason.WrongLength, request_length n (λ e. omega arith))
too_big action.CreateResponse n h = (reason.WrongLength, response_length n (λ e. omega arith))
too_big action.Data n h = (reason.TooLong, data_length n h)

pub length_small : (a : Action) (n : ℕ) → IsLengthOf a n → n ≤ 1600
length_small action.CreateRequest n h = omega arith
length_small action.CreateResponse n h = omega arith
length_small action.Data n h = h

-- a length behind an action
pub length_reads : (a : Action) (x n : ℕ) (rest : List ℕ) → n < 2 ^ 16 → length_at a (x ∷ (little_bytes 2 n ++ rest)) ≡ checked a n
unfolding length_at
length_reads a x n rest small = ap (λ r. r >>= checked a) (number_of (x ∷ []) n rest (x ∷ (little_bytes 2 n ++ rest)) 1 small refl refl)

pub length_cut : (a : Action) (bytes : List ℕ) → length bytes < 3 → length_at a bytes ≡ Err (stop.More 3)
unfolding length_at
length_cut a bytes few = ap (λ r. r >>= checked a) (number_cut bytes 1 few)

pub header_reads : (a n end : ℕ) (rest : List ℕ) → header_at (headed a n end rest) ≡ cond (ltb end 4) (Err (refused 3 reason.BadHeaderLength)) (Ok end)
unfolding header_at
header_reads a n end rest =
    ap (λ r. r >>= λ n. cond (ltb n 4) (Err (refused 3 reason.BadHeaderLength)) (Ok n)) (byte_of (a ∷ little_bytes 2 n) end rest (headed a n end rest) 3 refl refl)

pub header_cut : (bytes : List ℕ) → length bytes < 4 → header_at bytes ≡ Err (stop.More 4)
unfolding header_at
header_cut bytes few = ap (λ r. r >>= λ n. cond (ltb n 4) (Err (refused 3 reason.BadHeaderLength)) (Ok n)) (byte_cut bytes 3 few)

-- ---- the whole chain, as far as it is known

-- what follows the action, the length, and the header's length
abbrev pub from_action : List ℕ → Action → Result (Pdu × ℕ) Stop
from_action bytes a = length_at a bytes >>= λ n. header_at bytes >>= λ end. sub_headers_at 4 end bytes >>= λ at. payload_at a n at bytes

abbrev pub from_length : List ℕ → Action → ℕ → Result (Pdu × ℕ) Stop
from_length bytes a n = header_at bytes >>= λ end. sub_headers_at 4 end bytes >>= λ at. payload_at a n at bytes

abbrev pub from_header : List ℕ → Action → ℕ → Result ℕ Stop → Result (Pdu × ℕ) Stop
from_header bytes a n place = place >>= λ at. payload_at a n at bytes

pub at_first : (bytes : List ℕ) (r : Result Action Stop) → action_at bytes ≡ r → pdu_at bytes ≡ (r >>= from_action bytes)
unfolding pdu_at
at_first bytes r is = ap (λ q. q >>= from_action bytes) is

pub at_length : (a : Action) (rest bytes : List ℕ) (r : Result ℕ Stop) → bytes ≡ action_code a ∷ rest → length_at a bytes ≡ r → pdu_at bytes ≡ (r >>= from_length bytes a)
at_length a rest bytes r is then =
    at_first bytes (Ok a) (ap action_at is ∙ action_reads a rest) ∙ ap (λ q. q >>= from_length bytes a) then

pub at_header : (a : Action) (n : ℕ) (rest bytes : List ℕ) (r : Result ℕ Stop) → IsLengthOf a n → bytes ≡ action_code a ∷ (little_bytes 2 n ++ rest) → header_at bytes ≡ r
    → pdu_at bytes ≡ (r >>= λ end. from_header bytes a n (sub_headers_at 4 end bytes))
at_header a n rest bytes r good is then =
    let small = length_small a n good in
    at_length a (little_bytes 2 n ++ rest) bytes (Ok n) is (ap (length_at a) is ∙ length_reads a (action_code a) n rest (omega arith) ∙ checked_good a n good)
    ∙ ap (λ q. q >>= λ end. from_header bytes a n (sub_headers_at 4 end bytes)) then

-- behind a whole header
pub past_header : (a : Action) (n end : ℕ) (rest bytes : List ℕ) → IsLengthOf a n → 4 ≤ end → bytes ≡ headed (action_code a) n end rest
    → pdu_at bytes ≡ from_header bytes a n (sub_headers_at 4 end bytes)
past_header a n end rest bytes good long is =
    at_header a n (end ∷ rest) bytes (Ok end) good is
    (ap header_at is ∙ header_reads (action_code a) n end rest ∙ ap (λ b. cond b (Err (refused 3 reason.BadHeaderLength)) (Ok end)) (le-ltb end 4 long))

-- ---- the payload

-- a payload spells a PDU
pub record Payload (a : Action) (n : ℕ) (bytes : List ℕ) : Type 0 where
  pub pdu : Pdu
  pub reserved : List ℕ
  pub is_action : action_code (pdu_action pdu) ≡ action_code a
  pub is_length : payload_length pdu ≡ n
  pub reserved_are : AreBytes 4 reserved
  pub fits : FitsPdu pdu
  pub bytes_are : bytes ≡ joined (payload reserved pdu)

-- a length that is above every limit
pub high : (y : ℕ) → y < 256 → little_bytes 2 (65280 + y) ≡ y ∷ 255 ∷ []
high y small =
    let low : (65280 + y) % 256 ≡ y = omega arith in
    let top : (65280 + y) / 256 % 256 ≡ 255 = omega arith in
    ap (λ x. x ∷ ((65280 + y) / 256 % 256) ∷ []) low ∙ ap (λ x. y ∷ x ∷ []) top

zeros : AreBytes 4 (0 ∷ 0 ∷ 0 ∷ 0 ∷ [])
zeros = (refl, zero_bytes 4)

pub payload_or : (a : Action) (n : ℕ) (bytes : List ℕ) → IsLengthOf a n → length bytes ≡ n → IsBytes bytes → Payload a n bytes
payload_or action.CreateRequest n bytes h long good = elim (little_or 4 bytes good) [
  | inl few ↦ absurd (omega arith)
  | inr id ↦ elim (block_or 4 id.rest id.bytes_behind) [
    | inl few ↦ absurd (omega (arith, ap length id.bytes_are))
    | inr reserved ↦ record {
      pdu = CreateRequest id.value reserved.rest;
      reserved = reserved.value;
      is_action = refl;
      is_length = sym h;
      reserved_are = reserved.good;
      fits = (id.good, (omega (arith, ap length id.bytes_are, ap length reserved.bytes_are, length-append reserved.value reserved.rest, reserved.good.0), reserved.bytes_behind));
      bytes_are = id.bytes_are ∙ ap (λ t. little_bytes 4 id.value ++ t) (reserved.bytes_are ∙ ap (λ t. reserved.value ++ t) (sym (append-nil reserved.rest)));
    }
  ]
]
payload_or action.CreateResponse n bytes h long good = elim (little_or 4 bytes good) [
  | inl few ↦ absurd (omega arith)
  | inr hr ↦ (
      let none : hr.rest ≡ [] = nothing hr.rest (omega (arith, ap length hr.bytes_are)) in
      record {
        pdu = CreateResponse hr.value;
        reserved = 0 ∷ 0 ∷ 0 ∷ 0 ∷ [];
        is_action = refl;
        is_length = sym h;
        reserved_are = zeros;
        fits = hr.good;
        bytes_are = hr.bytes_are ∙ ap (λ t. little_bytes 4 hr.value ++ t) none;
      }
      )
]
payload_or action.Data n bytes h long good = record {
  pdu = Data bytes;
  reserved = 0 ∷ 0 ∷ 0 ∷ 0 ∷ [];
  is_action = refl;
  is_length = long;
  reserved_are = zeros;
  fits = (omega arith, good);
  bytes_are = sym (append-nil bytes);
}

-- the payload of a PDU is read back
pub payload_reads : (reserved : List ℕ) (pdu : Pdu) → AreBytes 4 reserved → FitsPdu pdu → pdu_in (pdu_action pdu) (joined (payload reserved pdu)) ≡ pdu
unfolding pdu_in
payload_reads reserved (CreateRequest id cookie) four fits =
    let number = little_number-reads_back 4 id (reserved ++ (cookie ++ [])) fits.0 in
    let front : length (little_bytes 4 id ++ reserved) ≡ 8 = omega (arith, four.0) in
    let rest : drop 8 (little_bytes 4 id ++ (reserved ++ (cookie ++ []))) ≡ cookie =
    ap (drop 8) (sym (append_assoc (little_bytes 4 id) reserved (cookie ++ []))) ∙ drop_at (little_bytes 4 id ++ reserved) (cookie ++ []) 8 front ∙ append-nil cookie in
    ap (λ x. CreateRequest x (drop 8 (little_bytes 4 id ++ (reserved ++ (cookie ++ []))))) number ∙ ap (λ xs. CreateRequest id xs) rest
payload_reads reserved (CreateResponse hr) four fits = ap (λ x. CreateResponse x) (little_number-reads_back 4 hr [] fits)
payload_reads reserved (Data bytes) four fits = ap (λ xs. Data xs) (append-nil bytes)

pub payload_long : (reserved : List ℕ) (pdu : Pdu) → AreBytes 4 reserved → FitsPdu pdu → length (joined (payload reserved pdu)) ≡ payload_length pdu
payload_long reserved (CreateRequest id cookie) four fits = omega (arith, length-append reserved (cookie ++ []), length-append cookie [], four.0, fits.1.0)
payload_long reserved (CreateResponse hr) four fits = refl
payload_long reserved (Data bytes) four fits = omega (arith, length-append bytes [])

pub payload_known : (pdu : Pdu) → FitsPdu pdu → IsLengthOf (pdu_action pdu) (payload_length pdu)
payload_known (CreateRequest id cookie) fits = refl
payload_known (CreateResponse hr) fits = refl
payload_known (Data bytes) fits = fits.0
