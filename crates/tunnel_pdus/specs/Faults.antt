-- Why bytes begin no value: the first fault in the order of the fields. Each case says what stands
-- before the fault, and so keeps its rules, and what is wrong with the next field.
use Rattle.std.specs.Prelude.{◌≡◌, ◌≢◌, ◌⊎◌, ℕ, ◌+◌, ◌-◌, ◌%◌, ◌^◌, ◌<◌, ◌≤◌, List, ◌∷◌, ◌++◌, length, All}
use Rattle.byteorder.specs.Endian.{little_bytes}
use Rattle.mt_base.specs.Writing.{joined}
use Rattle.tunnel_pdus.specs.declared.action.Action.{Action}
use Rattle.tunnel_pdus.specs.declared.action.Action.TheVariants as action
use Rattle.tunnel_pdus.specs.declared.kind.FrameKind.{FrameKind}
use Rattle.tunnel_pdus.specs.declared.kind.FrameKind.TheVariants as frame
use Rattle.tunnel_pdus.specs.declared.part.TunnelReason.{TunnelReason}
use Rattle.tunnel_pdus.specs.declared.part.TunnelReason.TheVariants as reason
use Rattle.tunnel_pdus.specs.declared.part.TunnelRefusal.{TunnelRefusal}
use Rattle.tunnel_pdus.specs.Value.{IsLengthOf, action_code, kind_code}
use Rattle.tunnel_pdus.specs.Layout.{IsSubHeader, headed}

-- the refusal names this place and reason
abbrev pub Names : TunnelRefusal → ℕ → TunnelReason → Type 0
Names r at why = r ≡ record { at = at; reason = why }

-- what is wrong with the length of a payload, in two bytes
pub data WrongPayload : Action → ℕ → TunnelReason → Type 0 where
  request_length : (n : ℕ) → n ≢ 24 → WrongPayload action.CreateRequest n reason.WrongLength
  response_length : (n : ℕ) → n ≢ 4 → WrongPayload action.CreateResponse n reason.WrongLength
  data_length : (n : ℕ) → 1600 < n → WrongPayload action.Data n reason.TooLong

-- the next sub-header is wrong, where the header has so many bytes left: it has fewer than two
-- bytes or more than are left, or its type is unknown
pub data WrongSubHeader (left : ℕ) (bytes : List ℕ) : Type 0 where
  sub_length : (n : ℕ) (rest : List ℕ) → bytes ≡ n ∷ rest → (n < 2) ⊎ (left < n) → WrongSubHeader left bytes
  sub_type : (n type : ℕ) (rest : List ℕ) → bytes ≡ n ∷ type ∷ rest → 2 ≤ n → n ≤ left → 1 < type → WrongSubHeader left bytes

-- the first fault of a tunnel PDU
pub data Refused (bytes : List ℕ) (r : TunnelRefusal) : Type 0 where
  bad_action : (first : ℕ) (rest : List ℕ) → bytes ≡ first ∷ rest → 2 < first % 16
      → Names r 0 reason.BadAction → Refused bytes r
  bad_flags : (first : ℕ) (rest : List ℕ) → bytes ≡ first ∷ rest → first % 16 ≤ 2 → 16 ≤ first
      → Names r 0 reason.BadFlags → Refused bytes r
  bad_length : (a : Action) (n : ℕ) (why : TunnelReason) (rest : List ℕ) → n < 2 ^ 16
      → bytes ≡ action_code a ∷ (little_bytes 2 n ++ rest) → WrongPayload a n why
      → Names r 1 why → Refused bytes r
  bad_header : (a : Action) (n end : ℕ) (rest : List ℕ) → IsLengthOf a n → end < 4
      → bytes ≡ headed (action_code a) n end rest
      → Names r 3 reason.BadHeaderLength → Refused bytes r
  bad_sub_header : (a : Action) (n end : ℕ) (subs : List (List ℕ)) (rest : List ℕ) → IsLengthOf a n
      → All IsSubHeader subs → 4 + length (joined subs) < end
      → bytes ≡ headed (action_code a) n end (joined subs ++ rest)
      → WrongSubHeader (end - (4 + length (joined subs))) rest
      → Names r (4 + length (joined subs)) reason.BadSubHeader → Refused bytes r

-- what is wrong with the length of a frame's body, in two bytes
pub data WrongBody : FrameKind → ℕ → TunnelReason → Type 0 where
  body_long : (k : FrameKind) (n : ℕ) → 1600 < n → WrongBody k n reason.TooLong
  request_body : (n : ℕ) → n ≤ 1600 → n ≢ 24 → WrongBody frame.Request n reason.WrongLength
  response_body : (n : ℕ) → n ≤ 1600 → n ≢ 8 → WrongBody frame.Response n reason.WrongLength
  channel_body : (n : ℕ) → n ≡ 0 → WrongBody frame.Channel n reason.WrongLength

-- the first fault of a main frame
pub data RefusedFrame (bytes : List ℕ) (r : TunnelRefusal) : Type 0 where
  bad_kind : (first : ℕ) (rest : List ℕ) → bytes ≡ first ∷ rest → first ≢ 1 → first ≢ 2 → first ≢ 3
      → Names r 0 reason.BadKind → RefusedFrame bytes r
  bad_body_length : (k : FrameKind) (n : ℕ) (why : TunnelReason) (rest : List ℕ) → n < 2 ^ 16
      → bytes ≡ kind_code k ∷ (little_bytes 2 n ++ rest) → WrongBody k n why
      → Names r 1 why → RefusedFrame bytes r
  bad_protocol : (id protocol : ℕ) (rest : List ℕ) → id < 2 ^ 32 → protocol < 2 ^ 16
      → protocol ≢ 1 → protocol ≢ 2
      → bytes ≡ 1 ∷ (little_bytes 2 24 ++ (little_bytes 4 id ++ (little_bytes 2 protocol ++ rest)))
      → Names r 7 reason.BadProtocol → RefusedFrame bytes r
