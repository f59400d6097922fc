-- What most lemmas use of each act of an end: less than what the law of an end asks for.
use Rattle.std.proofs.Common.{◌≡◌, ℕ, ◌<◌, Bool, true, false, not, cond, List, ◌∷◌, length, None, Some, refl}
use Rattle.mt_base.specs.declared.kinds.Kind.{Kind}
use Rattle.mt_base.specs.declared.kinds.Kind.TheVariants.{Lossy}
use Rattle.mt_base.specs.declared.kinds.Role.{Role}
use Rattle.mt_base.specs.declared.kinds.Role.TheVariants.{Client}
use Rattle.mt_base.specs.Trace.{Trace, Start, ◌▷◌}
use Rattle.dvc_pdus.specs.Value.{Pdu}
use Rattle.mt_endpoint.specs.Acts.{Act, Answers, Releases, Discards}
use Rattle.mt_endpoint.specs.Said.{Said, Capable, Creates, Created, Brings, Ends, Moves, Moved, said}
use Rattle.mt_endpoint.specs.Channels.{is_closed, is_ready}
use Rattle.mt_endpoint.specs.Moving.{all_told, read_by, answer_made, inward}
use Rattle.mt_endpoint.specs.Holding.{Held, held, only, channel_of}
use Rattle.mt_endpoint.specs.World.{IsStep, fault_of}
use Rattle.mt_endpoint.specs.Faults.{Unexpected, when, is_capable, is_moved, said_fault, spoken_fault, release_fault}

-- a PDU that is let go is the first that is held for its channel, which is not closed and whose word is read
pub record IsDue (role : Role) (t : Trace Act) (kind : Kind) (pdu : Pdu) : Type 0 where
  pub id : ℕ
  pub first : Held
  pub rest : List Held
  pub pdu_is : first.pdu ≡ pdu
  pub channel_is : channel_of pdu ≡ Some id
  pub inward : is_moved (inward id t) ≡ true
  pub is_fresh : is_closed role id t ≡ false
  pub queue_is : only id (held role kind t) ≡ first ∷ rest

abbrev pub Fits : Role → Trace Act → Act → Type 0
Fits role t (Answers named) = (role ≡ Client) × (length (all_told answer_made t) < length (all_told read_by t))
Fits role t (Releases kind at bytes pdu) = IsDue role t kind pdu × (release_fault role t pdu ≡ None)
Fits role t (Discards at bytes pdu) = IsDue role t Lossy pdu
Fits role t act = IsStep role t act × fault_of role t act

-- each act fits the acts before it
abbrev pub Fitting : Role → Trace Act → Type 0
Fitting role Start = Unit {0}
Fitting role (t ▷ act) = Fits role t act × Fitting role t

-- a channel PDU without a fault has none of what it says
pub said_fine : (role : Role) (t : Trace Act) (pdu : Pdu) → spoken_fault role t pdu ≡ None → said_fault role t pdu (said pdu) ≡ None
said_fine role t pdu h = by_said (said pdu) (is_ready t) h where
  by_said : (s : Said) (ready : Bool) → cond ready (cond (is_capable s) (Some Unexpected) (said_fault role t pdu s)) (when (not (is_capable s)) Unexpected) ≡ None → said_fault role t pdu s ≡ None
  by_said (Capable version) ready h = refl
  by_said (Creates id name) true h = h
  by_said (Creates id name) false h = absurd (let no : Some Unexpected ≡ None = h in cc)
  by_said (Created id status) true h = h
  by_said (Created id status) false h = absurd (let no : Some Unexpected ≡ None = h in cc)
  by_said (Brings id) true h = h
  by_said (Brings id) false h = absurd (let no : Some Unexpected ≡ None = h in cc)
  by_said (Ends id) true h = h
  by_said (Ends id) false h = absurd (let no : Some Unexpected ≡ None = h in cc)
  by_said (Moves lists) true h = h
  by_said (Moves lists) false h = absurd (let no : Some Unexpected ≡ None = h in cc)
  by_said (Moved kinds) true h = h
  by_said (Moved kinds) false h = absurd (let no : Some Unexpected ≡ None = h in cc)
