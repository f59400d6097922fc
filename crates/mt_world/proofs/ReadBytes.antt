-- What the bytes that an end reads leave as it was.
use Rattle.std.proofs.Common.{◌≡◌, ℕ, List, [], ◌∷◌, ◌++◌, fold, Option, None, Some, refl, ◌∙◌}
use Rattle.mt_base.specs.declared.kinds.Role.{Role}
use Rattle.mt_base.specs.Ends.{other}
use Rattle.dvc_pdus.specs.Value.{Pdu}
use Rattle.mt_world.specs.Frames.{frame_of}
use Rattle.mt_world.specs.Acts.{Past, with_byte, with_frame, sent, names}

-- a byte that is read adds no message that was sent
sent-with_frame : (id : ℕ) (p : Past) (part : List ℕ) (read : Option Pdu) → sent id (with_frame p part read).acts ≡ sent id p.acts
sent-with_frame id p part None = refl
sent-with_frame id p part (Some pdu) = refl

sent-with_byte : (id : ℕ) (role : Role) (p : Past) (byte : ℕ) → sent id (with_byte role p byte).acts ≡ sent id p.acts
unfolding with_byte
sent-with_byte id role p byte = sent-with_frame id p (p.part ++ byte ∷ []) (frame_of (other role) (p.part ++ byte ∷ []))

-- bytes that are read add no message that was sent
pub sent-reads : (id : ℕ) (role : Role) (p : Past) (bytes : List ℕ) → sent id (fold (with_byte role) p bytes).acts ≡ sent id p.acts
sent-reads id role p [] = refl
sent-reads id role p (byte ∷ bytes) = sent-reads id role (with_byte role p byte) bytes ∙ sent-with_byte id role p byte

-- a byte that is read makes no channel
names-with_frame : (p : Past) (part : List ℕ) (read : Option Pdu) → names (with_frame p part read).acts ≡ names p.acts
names-with_frame p part None = refl
names-with_frame p part (Some pdu) = refl

names-with_byte : (role : Role) (p : Past) (byte : ℕ) → names (with_byte role p byte).acts ≡ names p.acts
unfolding with_byte
names-with_byte role p byte = names-with_frame p (p.part ++ byte ∷ []) (frame_of (other role) (p.part ++ byte ∷ []))

-- bytes that are read make no channel
pub names-reads : (role : Role) (p : Past) (bytes : List ℕ) → names (fold (with_byte role) p bytes).acts ≡ names p.acts
names-reads role p [] = refl
names-reads role p (byte ∷ bytes) = names-reads role (with_byte role p byte) bytes ∙ names-with_byte role p byte
