-- What the front of a stream is, as a function of the bytes: each field is looked at as soon as it
-- is there in full.
use Rattle.std.specs.Prelude.{◌≡◌, ℕ, zero, suc, ◌+◌, ◌-◌, ◌/◌, ◌%◌, ◌||◌, eqb, List, length, take, drop, slice_index, nat_lt, if◌then◌else◌, Option, Some, None, Result, Ok, Err}
use Rattle.byteorder.specs.Endian.{little_number}
use Rattle.mt_base.specs.declared.kinds.Kind.{Kind}
use Rattle.mt_base.specs.declared.kinds.Kind.TheVariants.{Reliable, Lossy}
use Rattle.mt_base.specs.Parts.{◌>>=◌}
use Rattle.tunnel_pdus.specs.declared.action.Action.{Action}
use Rattle.tunnel_pdus.specs.declared.action.Action.TheVariants as action
use Rattle.tunnel_pdus.specs.declared.kind.FrameKind.{FrameKind}
use Rattle.tunnel_pdus.specs.declared.kind.FrameKind.TheVariants as frame
use Rattle.tunnel_pdus.specs.declared.part.Part.{Part}
use Rattle.tunnel_pdus.specs.declared.part.Part.TheVariants.{Whole, More}
use Rattle.tunnel_pdus.specs.declared.part.TunnelReason.{TunnelReason}
use Rattle.tunnel_pdus.specs.declared.part.TunnelReason.TheVariants as reason
use Rattle.tunnel_pdus.specs.declared.part.TunnelRefusal.{TunnelRefusal}
use Rattle.tunnel_pdus.specs.declared.stop.Stop.{Stop}
use Rattle.tunnel_pdus.specs.declared.stop.Stop.TheVariants as stop
use Rattle.tunnel_pdus.specs.Value.{Pdu, CreateRequest, CreateResponse, Data, Frame, Request, Response, Channel}

-- the stop at a fault
abbrev pub refused : ℕ → TunnelReason → Stop
refused at why = stop.Refused (record { at = at; reason = why })

-- the n bytes at a place, which want that many bytes
abbrev pub window : ℕ → ℕ → List ℕ → Result (List ℕ) Stop
window at n bytes =
    if nat_lt (length bytes) (at + n) then Err (stop.More (at + n)) else Ok (take n (drop at bytes))

-- the byte at a place, and the number in two bytes
abbrev pub byte : ℕ → List ℕ → Result ℕ Stop
byte at bytes = window at 1 bytes >>= λ field. Ok (slice_index field 0)

abbrev pub number : ℕ → List ℕ → Result ℕ Stop
number at bytes = window at 2 bytes >>= λ field. Ok (little_number 2 field)

-- ---- tunnel PDUs

abbrev pub action_of : ℕ → Option Action
action_of code =
    if eqb code 0 then Some action.CreateRequest
    else if eqb code 1 then Some action.CreateResponse
    else if eqb code 2 then Some action.Data
    else None

-- an action, where the first byte names one and has no flags
abbrev pub named : Option Action → ℕ → Result Action Stop
named None first = Err (refused 0 reason.BadAction)
named (Some a) first = if eqb (first / 16) 0 then Ok a else Err (refused 0 reason.BadFlags)

unfoldable pub action_at : List ℕ → Result Action Stop
action_at bytes = byte 0 bytes >>= λ first. named (action_of (first % 16)) first

-- a length, where it is one of the action
abbrev pub checked : Action → ℕ → Result ℕ Stop
checked action.CreateRequest n = if eqb n 24 then Ok n else Err (refused 1 reason.WrongLength)
checked action.CreateResponse n = if eqb n 4 then Ok n else Err (refused 1 reason.WrongLength)
checked action.Data n = if nat_lt 1600 n then Err (refused 1 reason.TooLong) else Ok n

unfoldable pub length_at : Action → List ℕ → Result ℕ Stop
length_at a bytes = number 1 bytes >>= checked a

unfoldable pub header_at : List ℕ → Result ℕ Stop
header_at bytes =
    byte 3 bytes >>= λ n. if nat_lt n 4 then Err (refused 3 reason.BadHeaderLength) else Ok n

-- the length of the sub-header at a place before the header's end
unfoldable pub sub_header_at : ℕ → ℕ → List ℕ → Result ℕ Stop
sub_header_at at end bytes =
    byte at bytes >>= λ n.
    if nat_lt n 2 || nat_lt (end - at) n then Err (refused at reason.BadSubHeader)
    else byte (at + 1) bytes >>= λ type.
    if nat_lt 1 type then Err (refused at reason.BadSubHeader) else Ok n

-- the place behind the sub-headers; each has two bytes at least, so that `most` of them are enough
unfoldable pub sub_headers_within : ℕ → ℕ → ℕ → List ℕ → Result ℕ Stop
sub_headers_within zero at end bytes = Ok at
sub_headers_within (suc most) at end bytes =
    if nat_lt at end
    then (sub_header_at at end bytes >>= λ n. sub_headers_within most (at + n) end bytes)
    else Ok at

unfoldable pub sub_headers_at : ℕ → ℕ → List ℕ → Result ℕ Stop
sub_headers_at at end bytes = sub_headers_within (end - at) at end bytes

-- the PDU with this payload
unfoldable pub pdu_in : Action → List ℕ → Pdu
pdu_in action.CreateRequest bytes = CreateRequest (little_number 4 bytes) (drop 8 bytes)
pdu_in action.CreateResponse bytes = CreateResponse (little_number 4 bytes)
pdu_in action.Data bytes = Data bytes

-- the payload at a place
abbrev pub payload_at : Action → ℕ → ℕ → List ℕ → Result (Pdu × ℕ) Stop
payload_at a n at bytes = window at n bytes >>= λ field. Ok (pdu_in a field, at + n)

-- a PDU, and the number of its bytes
unfoldable pub pdu_at : List ℕ → Result (Pdu × ℕ) Stop
pdu_at bytes =
    action_at bytes >>= λ a.
    length_at a bytes >>= λ n.
    header_at bytes >>= λ end.
    sub_headers_at 4 end bytes >>= λ at.
    payload_at a n at bytes

-- ---- main frames

abbrev pub kind_of : ℕ → Option FrameKind
kind_of code =
    if eqb code 1 then Some frame.Request
    else if eqb code 2 then Some frame.Response
    else if eqb code 3 then Some frame.Channel
    else None

abbrev pub named_kind : Option FrameKind → Result FrameKind Stop
named_kind None = Err (refused 0 reason.BadKind)
named_kind (Some k) = Ok k

unfoldable pub kind_at : List ℕ → Result FrameKind Stop
kind_at bytes = byte 0 bytes >>= λ first. named_kind (kind_of first)

abbrev pub checked_body : FrameKind → ℕ → Result ℕ Stop
checked_body frame.Request n = if eqb n 24 then Ok n else Err (refused 1 reason.WrongLength)
checked_body frame.Response n = if eqb n 8 then Ok n else Err (refused 1 reason.WrongLength)
checked_body frame.Channel n = if eqb n 0 then Err (refused 1 reason.WrongLength) else Ok n

unfoldable pub frame_length_at : FrameKind → List ℕ → Result ℕ Stop
frame_length_at k bytes =
    number 1 bytes >>= λ n.
    if nat_lt 1600 n then Err (refused 1 reason.TooLong) else checked_body k n

abbrev pub protocol_of : ℕ → Option Kind
protocol_of code = if eqb code 1 then Some Reliable else if eqb code 2 then Some Lossy else None

-- what follows the protocol of a request
abbrev pub cookie_at : ℕ → Option Kind → List ℕ → Result (Frame × ℕ) Stop
cookie_at id None bytes = Err (refused 7 reason.BadProtocol)
cookie_at id (Some k) bytes = window 9 18 bytes >>= λ rest. Ok (Request id k (drop 2 rest), 27)

unfoldable pub request_at : List ℕ → Result (Frame × ℕ) Stop
request_at bytes =
    window 3 6 bytes >>= λ front.
    cookie_at (little_number 4 front) (protocol_of (little_number 2 (drop 4 front))) bytes

unfoldable pub response_at : List ℕ → Result (Frame × ℕ) Stop
response_at bytes =
    window 3 8 bytes >>= λ field.
    Ok (Response (little_number 4 field) (little_number 4 (drop 4 field)), 11)

unfoldable pub channel_at : ℕ → List ℕ → Result (Frame × ℕ) Stop
channel_at n bytes = window 3 n bytes >>= λ field. Ok (Channel field, 3 + n)

abbrev pub body_at : FrameKind → ℕ → List ℕ → Result (Frame × ℕ) Stop
body_at frame.Request n bytes = request_at bytes
body_at frame.Response n bytes = response_at bytes
body_at frame.Channel n bytes = channel_at n bytes

-- a frame, and the number of its bytes
unfoldable pub frame_at : List ℕ → Result (Frame × ℕ) Stop
frame_at bytes =
    kind_at bytes >>= λ k.
    frame_length_at k bytes >>= λ n.
    body_at k n bytes

-- ---- what a reader tells

-- the front of a stream, by what was read
abbrev pub told : {V : Type 0} → Result (V × ℕ) Stop → Result (Part V) TunnelRefusal
told (Ok x) = Ok (Whole x.0 x.1)
told (Err (stop.More need)) = Ok (More need)
told (Err (stop.Refused r)) = Err r

unfoldable pub reading : List ℕ → Result (Part Pdu) TunnelRefusal
reading bytes = told (pdu_at bytes)

unfoldable pub frame_reading : List ℕ → Result (Part Frame) TunnelRefusal
frame_reading bytes = told (frame_at bytes)

-- what a reader of a field returned, seen by `view`, is what reading gives
abbrev pub Sees : {X Y : Type 0} → (X → Y) → Result X Stop → Result Y Stop → Type 0
Sees view (Ok x) read = read ≡ Ok (view x)
Sees view (Err e) read = read ≡ Err e

-- what a reader told, its value seen by `view`
abbrev pub seen : {X Y : Type 0} → (X → Y) → Result (Part X) TunnelRefusal → Result (Part Y) TunnelRefusal
seen view (Ok (Whole x used)) = Ok (Whole (view x) used)
seen view (Ok (More need)) = Ok (More need)
seen view (Err r) = Err r
