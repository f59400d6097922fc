-- Tunnel PDUs and main frames as values of lists and numbers, and the bytes that a writer spells
-- for them (MS-RDPEMT section 2.2, MS-RDPBCGR section 2.2.15).
use Rattle.std.specs.Prelude.{◌≡◌, ℕ, ◌^◌, ◌<◌, ◌≤◌, List, [], ◌∷◌, length, All}
use Rattle.byteorder.specs.Endian.{little_bytes}
use Rattle.mt_base.specs.declared.kinds.Kind.{Kind}
use Rattle.mt_base.specs.declared.kinds.Kind.TheVariants.{Reliable, Lossy}
use Rattle.tunnel_pdus.specs.declared.action.Action.{Action}
use Rattle.tunnel_pdus.specs.declared.action.Action.TheVariants as action
use Rattle.tunnel_pdus.specs.declared.kind.FrameKind.{FrameKind}
use Rattle.tunnel_pdus.specs.declared.kind.FrameKind.TheVariants as frame

pub data Pdu : Type 0 where
  CreateRequest : (id : ℕ) (cookie : List ℕ) → Pdu
  CreateResponse : (hr : ℕ) → Pdu
  Data : (payload : List ℕ) → Pdu

pub data Frame : Type 0 where
  Request : (id : ℕ) (kind : Kind) (cookie : List ℕ) → Frame
  Response : (id hr : ℕ) → Frame
  Channel : (pdu : List ℕ) → Frame

-- the codes of the fields Action, kind and requestedProtocol
abbrev pub action_code : Action → ℕ
action_code action.CreateRequest = 0
action_code action.CreateResponse = 1
action_code action.Data = 2

abbrev pub kind_code : FrameKind → ℕ
kind_code frame.Request = 1
kind_code frame.Response = 2
kind_code frame.Channel = 3

abbrev pub protocol_code : Kind → ℕ
protocol_code Reliable = 1
protocol_code Lossy = 2

-- a payload of this length is one of the action, a body of this length one of the kind
abbrev pub IsLengthOf : Action → ℕ → Type 0
IsLengthOf action.CreateRequest n = n ≡ 24
IsLengthOf action.CreateResponse n = n ≡ 4
IsLengthOf action.Data n = n ≤ 1600

abbrev pub IsFrameLength : FrameKind → ℕ → Type 0
IsFrameLength frame.Request n = n ≡ 24
IsFrameLength frame.Response n = n ≡ 8
IsFrameLength frame.Channel n = (1 ≤ n) × (n ≤ 1600)

-- bytes, this many of them
abbrev pub AreBytes : ℕ → List ℕ → Type 0
AreBytes n xs = (length xs ≡ n) × All (λ b. b < 2 ^ 8) xs

-- the layout has this value
abbrev pub FitsPdu : Pdu → Type 0
FitsPdu (CreateRequest id cookie) = (id < 2 ^ 32) × AreBytes 16 cookie
FitsPdu (CreateResponse hr) = hr < 2 ^ 32
FitsPdu (Data payload) = (length payload ≤ 1600) × All (λ b. b < 2 ^ 8) payload

abbrev pub FitsFrame : Frame → Type 0
FitsFrame (Request id kind cookie) = (id < 2 ^ 32) × AreBytes 16 cookie
FitsFrame (Response id hr) = (id < 2 ^ 32) × (hr < 2 ^ 32)
FitsFrame (Channel pdu) = (1 ≤ length pdu) × (length pdu ≤ 1600) × All (λ b. b < 2 ^ 8) pdu

-- the action of a PDU, and the fields of its payload, with what stands in the reserved field
abbrev pub pdu_action : Pdu → Action
pdu_action (CreateRequest id cookie) = action.CreateRequest
pdu_action (CreateResponse hr) = action.CreateResponse
pdu_action (Data payload) = action.Data

abbrev pub payload : List ℕ → Pdu → List (List ℕ)
payload reserved (CreateRequest id cookie) = little_bytes 4 id ∷ reserved ∷ cookie ∷ []
payload reserved (CreateResponse hr) = little_bytes 4 hr ∷ []
payload reserved (Data bytes) = bytes ∷ []

abbrev pub payload_length : Pdu → ℕ
payload_length (CreateRequest id cookie) = 24
payload_length (CreateResponse hr) = 4
payload_length (Data bytes) = length bytes

-- the fields of a PDU that a writer spells: no sub-headers, and zeros where it is reserved
abbrev pub pdu_fields : Pdu → List (List ℕ)
pdu_fields pdu =
    (action_code (pdu_action pdu) ∷ []) ∷ little_bytes 2 (payload_length pdu) ∷ (4 ∷ []) ∷ payload (0 ∷ 0 ∷ 0 ∷ 0 ∷ []) pdu

-- the kind of a frame, and the fields of its body
abbrev pub frame_kind : Frame → FrameKind
frame_kind (Request id protocol cookie) = frame.Request
frame_kind (Response id hr) = frame.Response
frame_kind (Channel pdu) = frame.Channel

abbrev pub body : List ℕ → Frame → List (List ℕ)
body reserved (Request id protocol cookie) =
    little_bytes 4 id ∷ little_bytes 2 (protocol_code protocol) ∷ reserved ∷ cookie ∷ []
body reserved (Response id hr) = little_bytes 4 id ∷ little_bytes 4 hr ∷ []
body reserved (Channel pdu) = pdu ∷ []

abbrev pub body_length : Frame → ℕ
body_length (Request id protocol cookie) = 24
body_length (Response id hr) = 8
body_length (Channel pdu) = length pdu

-- the fields of a frame, with what stands in the reserved field
abbrev pub frame_layout : List ℕ → Frame → List (List ℕ)
frame_layout reserved f = (kind_code (frame_kind f) ∷ []) ∷ little_bytes 2 (body_length f) ∷ body reserved f

abbrev pub frame_fields : Frame → List (List ℕ)
frame_fields f = frame_layout (0 ∷ 0 ∷ []) f
