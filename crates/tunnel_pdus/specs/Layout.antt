-- The layouts of the two streams: which bytes spell a value (MS-RDPEMT section 2.2, MS-RDPBCGR
-- section 2.2.15). A writer has a choice where sub-headers can stand and where bytes are reserved.
use Rattle.std.specs.Prelude.{◌≡◌, ℕ, ◌+◌, ◌^◌, ◌<◌, List, ◌∷◌, ◌++◌, length, All}
use Rattle.byteorder.specs.Endian.{little_bytes}
use Rattle.mt_base.specs.Writing.{joined}
use Rattle.tunnel_pdus.specs.Value.{Pdu, Frame, FitsPdu, FitsFrame, AreBytes, action_code, pdu_action, payload, payload_length, frame_layout}

-- a sub-header: its length with the first two bytes, a type of 0 or 1, and bytes
pub record IsSubHeader (sub : List ℕ) : Type 0 where
  pub type : ℕ
  pub rest : List ℕ
  pub known : type < 2
  pub are_bytes : All (λ b. b < 2 ^ 8) rest
  pub bytes_are : sub ≡ (length rest + 2) ∷ type ∷ rest

-- a header: the action without flags, the payload's length, the header's own length and its
-- sub-headers one behind the other; and what stands behind it
abbrev pub headed : ℕ → ℕ → ℕ → List ℕ → List ℕ
headed action n end rest = action ∷ (little_bytes 2 n ++ (end ∷ rest))

-- these bytes spell this tunnel PDU
pub record Spells (text : List ℕ) (pdu : Pdu) : Type 0 where
  pub subs : List (List ℕ)
  pub reserved : List ℕ
  pub subs_are : All IsSubHeader subs
  pub header_fits : 4 + length (joined subs) < 2 ^ 8
  pub reserved_are : AreBytes 4 reserved
  pub fits : FitsPdu pdu
  pub text_is : text ≡ headed (action_code (pdu_action pdu)) (payload_length pdu) (4 + length (joined subs))
      (joined subs ++ joined (payload reserved pdu))

-- these bytes spell this main frame
pub record SpellsFrame (text : List ℕ) (frame : Frame) : Type 0 where
  pub reserved : List ℕ
  pub reserved_are : AreBytes 2 reserved
  pub fits : FitsFrame frame
  pub text_is : text ≡ joined (frame_layout reserved frame)
