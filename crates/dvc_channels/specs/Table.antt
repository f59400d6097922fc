-- What is kept of channels, and what it stands for.
use Rattle.std.specs.Prelude.{◌≡◌, ◌≢◌, ℕ, ◌<◌, ◌≤◌, List, [], ◌∷◌, ◌++◌, length, map, flat_map, nat_eq, Option, Some, None, IfSome, Result, Ok, Err}
use Rattle.std.specs.List.{IsDistinct}
use Rattle.std.specs.Map.{lookup, keys_of}
use Rattle.mt_base.specs.Trace.{Trace}
use Rattle.dvc_pdus.specs.Value.{Pdu}
use Rattle.dvc_channels.specs.Pieces.{Piece, Part, goes_on, ended_by, under_way, under_way_from, messages_from}
use Rattle.dvc_channels.specs.Acts.{Act, ids, state, name_of, arrived, taken, delivered, weight, brought, refusal_in, what_came}
use Rattle.dvc_channels.specs.declared.answers.Accepted.{Accepted}
use Rattle.dvc_channels.specs.declared.answers.ChannelRefusal.{ChannelRefusal}
use Rattle.dvc_channels.specs.declared.answers.ChannelRefusal.TheVariants as refusal
use Rattle.dvc_channels.specs.declared.answers.ChannelState.{ChannelState}
use Rattle.dvc_channels.specs.declared.answers.ChannelState.TheVariants.{Unknown, Asked, Open, Refused, Closed}

-- what is kept of a channel: also the whole messages that wait, and the one under way
pub record Kept : Type 0 where
  pub name : List ℕ
  pub state : ChannelState
  pub whole : List (List ℕ)
  pub part : Option Part

-- the channels by their ids, in the order in which they were created, and the count of what waits
pub record Table : Type 0 where
  pub channels : List (ℕ × Kept)
  pub waiting : ℕ

abbrev pub kept_of : ℕ → Table → Option Kept
kept_of id table = lookup (nat_eq id) table.channels

-- the message under way at a channel in this state: a closed one has none
abbrev pub part_in : ChannelState → List Piece → Option Part
part_in Unknown pieces = None
part_in Asked pieces = None
part_in Open pieces = under_way pieces
part_in Refused pieces = None
part_in Closed pieces = None

-- pieces come for open channels alone
abbrev pub PiecesIn : ChannelState → List Piece → Type 0
PiecesIn Unknown pieces = pieces ≡ []
PiecesIn Asked pieces = pieces ≡ []
PiecesIn Open pieces = Unit {0}
PiecesIn Refused pieces = pieces ≡ []
PiecesIn Closed pieces = Unit {0}

-- this is kept of a channel
pub record Keeps (k : Kept) (t : Trace Act) (id : ℕ) : Type 0 where
  pub known : state t id ≢ Unknown
  pub state_is : k.state ≡ state t id
  pub name_is : Some k.name ≡ name_of t id
  pub messages_are : delivered t id ≡ taken t id ++ k.whole
  pub part_is : k.part ≡ part_in (state t id) (arrived t id)
  pub pieces : PiecesIn (state t id) (arrived t id)

-- nothing is kept of a channel that was not created
pub record IsNew (t : Trace Act) (id : ℕ) : Type 0 where
  pub unknown : state t id ≡ Unknown
  pub nameless : name_of t id ≡ None
  pub nothing_came : arrived t id ≡ []
  pub nothing_taken : taken t id ≡ []

abbrev pub IsKept : Option Kept → Trace Act → ℕ → Type 0
IsKept None t id = IsNew t id
IsKept (Some k) t id = Keeps k t id

-- this table stands for what was done
pub record Stands (table : Table) (t : Trace Act) : Type 0 where
  pub channels : (id : ℕ) → IsKept (kept_of id table) t id
  pub ids_are : map (λ c. c.0) table.channels ≡ ids t

-- a count of bytes is that of the message that became whole; there is none where none did
abbrev pub Ends : Option ℕ → List (List ℕ) → Type 0
Ends None whole = whole ≡ []
Ends (Some n) whole = (message : List ℕ) × (whole ≡ message ∷ []) × (length message ≡ n)

-- what is kept of a channel after this piece
abbrev pub with_piece : Piece → Kept → Kept
with_piece piece k = record k { whole = k.whole ++ ended_by k.part piece; part = goes_on k.part piece }

-- the messages that a data PDU makes whole at a channel
abbrev pub made_by : Pdu → Kept → List (List ℕ)
made_by pdu k = messages_from k.part (brought k.state pdu)

-- what is kept of a channel after a data PDU
abbrev pub with_pdu : Pdu → Kept → Kept
with_pdu pdu k = record k { whole = k.whole ++ made_by pdu k; part = under_way_from k.part (brought k.state pdu) }

-- a refusal with this cause; want of memory comes where there is none
abbrev pub IsCause : Option ChannelRefusal → ChannelRefusal → Type 0
IsCause cause refusal.NoMemory = cause ≡ None
IsCause cause r = cause ≡ Some r

-- the answer of a channel to a data PDU
abbrev pub IsAnswerOf : Kept → ℕ → Pdu → Result Accepted ChannelRefusal → Type 0
IsAnswerOf k id pdu (Ok accepted) =
    (refusal_in k.state id k.part pdu ≡ None) × (accepted ≡ what_came (brought k.state pdu) (made_by pdu k))
IsAnswerOf k id pdu (Err refusal.NoMemory) = (refusal_in k.state id k.part pdu ≡ None) × (brought k.state pdu ≢ [])
IsAnswerOf k id pdu (Err why) = refusal_in k.state id k.part pdu ≡ Some why

-- a message under way is not whole, and has at most 1,048,576 bytes
abbrev pub IsFair : Option Part → Type 0
IsFair part = IfSome part (λ p. (length p.bytes < p.total) × (p.total ≤ 1048576))

-- the count of what waits is that of all messages kept; there are at most 256 channels, each id
-- has one, and no message under way is whole
pub record IsCounted (table : Table) : Type 0 where
  pub counted : table.waiting ≡ weight (flat_map (λ c. (c.1).whole) table.channels)
  pub few : length table.channels ≤ 256
  pub distinct : IsDistinct nat_eq (keys_of table.channels)
  pub parts : (id : ℕ) → IfSome (kept_of id table) (λ k. IsFair k.part)
