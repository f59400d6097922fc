-- What happens at one end of a session: its own steps, the PDUs that it reads in full, and what these
-- make due.
use Rattle.std.specs.Prelude.{ℕ, Bool, List}
use Rattle.mt_base.specs.declared.kinds.Kind.{Kind}
use Rattle.dvc_pdus.specs.Value.{Pdu}
use Rattle.soft_sync.specs.declared.kinds.Kinds.{Kinds}
use Rattle.tunnel_cookies.specs.declared.entry.Verdict.{Verdict}

-- what is read of the main stream, or written to it: one frame
pub data Heard : Type 0 where
  -- the server asks the client to open a tunnel (MS-RDPBCGR section 2.2.15.1)
  TunnelAsked : (id : ℕ) (kind : Kind) (cookie : List ℕ) → Heard
  -- the client tells what became of it (MS-RDPBCGR section 2.2.15.2)
  TunnelAnswered : (id hr : ℕ) → Heard
  -- a channel PDU
  Spoken : (pdu : Pdu) → Heard

-- what is pulled from a tunnel's link, or written into it: one tunnel PDU (MS-RDPEMT section 2.2)
pub data Drawn : Type 0 where
  CreateAsked : (id : ℕ) (cookie : List ℕ) → Drawn
  CreateAnswered : (hr : ℕ) → Drawn
  -- data without a byte
  Nothing : Drawn
  -- data: these bytes, which are this channel PDU
  Carried : (bytes : List ℕ) (pdu : Pdu) → Drawn

pub data Act : Type 0 where
  -- the end was made
  Began : Act
  -- the server creates a channel
  Opens : (id : ℕ) (name : List ℕ) → Act
  -- a message is sent on a channel
  Sends : (id : ℕ) (message : List ℕ) → Act
  -- a whole message is handed out
  Takes : (id : ℕ) (message : List ℕ) → Act
  -- the server asks for a tunnel
  Asks : (kind : Kind) (id : ℕ) (cookie : List ℕ) → Act
  -- the tunnel gets its link
  Attaches : (kind : Kind) → Act
  -- the client posts the create request of its lossy tunnel once more, unless the link is full
  Repeats : (is_full : Bool) → Act
  -- the client refuses the tunnel that was asked for
  Refuses : (kind : Kind) (hr : ℕ) → Act
  -- the server moves channels to tunnels
  Syncs : (reliable lossy : List ℕ) → Act
  Closes : (id : ℕ) → Act
  -- the tunnel's link is closed after so many expiries, or its create request was posted so often
  Silences : (kind : Kind) (expiries : ℕ) → Act
  -- a frame of the main stream was read
  Hears : (heard : Heard) → Act
  -- a tunnel PDU was pulled, which begins at this place of the tunnel's stream; 0 on a lossy link
  Draws : (kind : Kind) (at : ℕ) (drawn : Drawn) → Act
  -- a create request was pulled, and this is the verdict on it; a lossy link may be full for the answer
  Judges : (kind : Kind) (at id : ℕ) (cookie : List ℕ) (verdict : Verdict) (is_full : Bool) → Act
  -- a part of the lossy link is no whole tunnel PDU, or its data are no channel PDU
  Misses : Act
  -- the oldest request without an answer is answered; the answer names these kinds of tunnel
  Answers : (named : Kinds) → Act
  -- the oldest PDU that is held for its channel is no longer held
  Releases : (kind : Kind) (at : ℕ) (bytes : List ℕ) (pdu : Pdu) → Act
  -- and is dropped, since its channel does not take it
  Discards : (at : ℕ) (bytes : List ℕ) (pdu : Pdu) → Act
