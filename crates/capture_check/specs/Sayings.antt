-- What frames of the main stream say of channels and of the tunnels that they move to.
use Rattle.std.specs.Prelude.{◌≡◌, ℕ, nat_eq, ◌&&◌, Bool, true, List, ◌∷◌, ◌++◌, length, map, flat_map, slice_get, Option, Some, None, Result, Ok, Err}
use Rattle.std.specs.List.{filter_map, list_any}
use Rattle.mt_base.specs.declared.kinds.Role.{Role}
use Rattle.mt_base.specs.declared.kinds.Role.TheVariants.{Server, Client}
use Rattle.mt_base.specs.declared.kinds.Kind.{Kind}
use Rattle.mt_base.specs.Ends.{same_kind}
use Rattle.dvc_pdus.specs.declared.pdu.DvcRefusal.{DvcRefusal}
use Rattle.dvc_pdus.specs.Value.{ChannelList, Pdu, Caps, CreateRequest, CreateResponse, DataFirst, Data, CompressedFirst, Compressed, Close, SyncRequest, SyncResponse}
use Rattle.dvc_pdus.specs.Reading.{reading}
use Rattle.tunnel_pdus.specs.Value.{Frame, Request, Response, Channel}
use Rattle.capture_check.specs.declared.moves.Move.{Move}

-- What a frame of a side says: data of a channel, of any of the four PDUs that have some (MS-RDPEDYC
-- section 2.2.3); what a Soft-Sync request of the server moves (section 2.2.5.1); which tunnels a
-- Soft-Sync response of the client names (section 2.2.5.2); or nothing of these.
pub data Saying : Type 0 where
  DataOf : (side : Role) (id : ℕ) → Saying
  Moves : (moves : List Move) → Saying
  Takes : (kinds : List Kind) → Saying
  Nothing : Saying

-- the channels that lists move, each with the kind of its list
abbrev pub moves_to : Kind → List ℕ → List Move
moves_to kind ids = map (λ id. record { kind = kind; id = id }) ids

abbrev pub moves_in : List ChannelList → List Move
moves_in lists = flat_map (λ l. moves_to l.kind l.ids) lists

-- a Soft-Sync request is the server's, and a response the client's
abbrev pub moving : Role → List ChannelList → Saying
moving Server lists = Moves (moves_in lists)
moving Client lists = Nothing

abbrev pub taking : Role → List Kind → Saying
taking Server kinds = Nothing
taking Client kinds = Takes kinds

-- what a channel PDU of a side says
abbrev pub said_by : Role → Pdu → Saying
said_by side (Caps version charges) = Nothing
said_by side (CreateRequest id priority name) = Nothing
said_by side (CreateResponse id status) = Nothing
said_by side (DataFirst id total bytes) = DataOf side id
said_by side (Data id bytes) = DataOf side id
said_by side (CompressedFirst id total bytes) = DataOf side id
said_by side (Compressed id bytes) = DataOf side id
said_by side (Close id) = Nothing
said_by side (SyncRequest flags tunnels lists) = moving side lists
said_by side (SyncResponse kinds) = taking side kinds

-- bytes that are no channel PDU say nothing
abbrev pub said_in : Role → Result Pdu DvcRefusal → Saying
said_in side (Ok pdu) = said_by side pdu
said_in side (Err refusal) = Nothing

-- what a frame of a side says
abbrev pub saying_of : Role → Frame → Saying
saying_of side (Request id kind cookie) = Nothing
saying_of side (Response id hr) = Nothing
saying_of side (Channel bytes) = said_in side (reading side bytes)

-- ---- words

-- what each Soft-Sync request moves, in order
abbrev pub moves_of : Saying → Option (List Move)
moves_of (DataOf side id) = None
moves_of (Moves moves) = Some moves
moves_of (Takes kinds) = None
moves_of Nothing = None

abbrev pub requests_in : List Saying → List (List Move)
requests_in said = filter_map moves_of said

-- what each Soft-Sync response names, in order
abbrev pub kinds_of : Saying → Option (List Kind)
kinds_of (DataOf side id) = None
kinds_of (Moves moves) = None
kinds_of (Takes kinds) = Some kinds
kinds_of Nothing = None

abbrev pub responses_in : List Saying → List (List Kind)
responses_in said = filter_map kinds_of said

-- a channel is moved, to a tunnel of any kind or to one of a kind that is named
abbrev pub moves_id : ℕ → List Move → Bool
moves_id id moves = list_any (λ m. nat_eq id m.id) moves

abbrev pub names : List Kind → Kind → Bool
names kinds kind = list_any (same_kind kind) kinds

abbrev pub takes_id : List Kind → ℕ → List Move → Bool
takes_id kinds id moves = list_any (λ m. nat_eq id m.id && names kinds m.kind) moves

-- The client's word for a channel: a Soft-Sync response, of which the request with the same number came
-- before it, lists the channel, and lists it under a kind that the response names.
pub record HasTaken (said : List Saying) (id : ℕ) : Type 0 where
  pub front : List Saying
  pub kinds : List Kind
  pub back : List Saying
  pub parts : said ≡ front ++ Takes kinds ∷ back
  pub moves : List Move
  pub request : slice_get (requests_in front) (length (responses_in front)) ≡ Some moves
  pub takes : takes_id kinds id moves ≡ true

-- A side's word for a channel stands there; the server's is a Soft-Sync request that lists it.
abbrev pub HasWord : Role → List Saying → ℕ → Type 0
HasWord Server said id = list_any (moves_id id) (requests_in said) ≡ true
HasWord Client said id = HasTaken said id

-- no data of a channel stand behind the word of their side for it
abbrev pub KeepsWords : List Saying → Type 0
KeepsWords said =
    (front : List Saying) (side : Role) (id : ℕ) (back : List Saying)
    → said ≡ front ++ DataOf side id ∷ back → ¬ HasWord side front id
