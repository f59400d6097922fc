-- One end by itself: its own steps keep what their calls ask for, what it reads has no fault, and what
-- these make due stands where it is due.
use Rattle.std.specs.Prelude.{◌≡◌, ℕ, true, false, not, List, ◌∷◌, Some, None}
use Rattle.mt_base.specs.declared.kinds.Kind.{Kind}
use Rattle.mt_base.specs.declared.kinds.Kind.TheVariants.{Lossy}
use Rattle.mt_base.specs.declared.kinds.Role.{Role}
use Rattle.mt_base.specs.declared.kinds.Role.TheVariants.{Client}
use Rattle.mt_base.specs.Trace.{Trace, Start, ◌▷◌}
use Rattle.dvc_pdus.specs.Value.{Pdu}
use Rattle.soft_sync.specs.declared.kinds.Kinds.{Kinds}
use Rattle.soft_sync.specs.Exchanges.{Request}
use Rattle.mt_endpoint.specs.Acts.{Act, Answers, Releases, Discards}
use Rattle.mt_endpoint.specs.Channels.{is_closed}
use Rattle.mt_endpoint.specs.Moving.{read, unanswered_in, may_answer, answer_to, inward}
use Rattle.mt_endpoint.specs.Holding.{Held, held, only, channel_of, is_through}
use Rattle.mt_endpoint.specs.Faults.{release_fault}
use Rattle.mt_endpoint.specs.World.{IsStep, fault_of, begins, is_begun}

-- an answer is due: to the oldest request without one, whose kinds of tunnel are settled
pub record IsAnswer (role : Role) (t : Trace Act) (named : Kinds) : Type 0 where
  pub is_client : role ≡ Client
  pub request : Request
  pub rest : List Request
  pub is_oldest : unanswered_in (read t) ≡ request ∷ rest
  pub may : may_answer role t request.named ≡ true
  pub is_answer : named ≡ answer_to role t request.named

-- a release is due: of the oldest PDU that is held for a channel whose word is read, and which is not
-- closed; the channel takes it
pub record IsDue (role : Role) (kind : Kind) (t : Trace Act) (at : ℕ) (bytes : List ℕ) (pdu : Pdu) : Type 0 where
  pub id : ℕ
  pub rest : List Held
  pub channel_is : channel_of pdu ≡ Some id
  pub word_is_read : is_through kind (inward id t) ≡ true
  pub is_fresh : is_closed role id t ≡ false
  pub is_oldest : only id (held role kind t) ≡ record { at = at; bytes = bytes; pdu = pdu } ∷ rest
  pub is_taken : release_fault role t pdu ≡ None

-- a drop is due in the same way, on the lossy tunnel
pub record IsDropped (role : Role) (t : Trace Act) (at : ℕ) (bytes : List ℕ) (pdu : Pdu) : Type 0 where
  pub id : ℕ
  pub rest : List Held
  pub channel_is : channel_of pdu ≡ Some id
  pub word_is_read : is_through Lossy (inward id t) ≡ true
  pub is_fresh : is_closed role id t ≡ false
  pub is_oldest : only id (held role Lossy t) ≡ record { at = at; bytes = bytes; pdu = pdu } ∷ rest

abbrev pub IsAct : Role → Trace Act → Act → Type 0
IsAct role t (Answers named) = IsAnswer role t named
IsAct role t (Releases kind at bytes pdu) = IsDue role kind t at bytes pdu
IsAct role t (Discards at bytes pdu) = IsDropped role t at bytes pdu
IsAct role t act = IsStep role t act × fault_of role t act

-- an end is made first, and once; each act stands where it may
abbrev pub EndOfActs : Role → Trace Act → Type 0
EndOfActs role Start = Unit {0}
EndOfActs role (t ▷ act) = (begins act ≡ not (is_begun t)) × IsAct role t act × EndOfActs role t
