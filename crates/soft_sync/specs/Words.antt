-- The words of an end: the Soft-Sync requests that it made and read, what came of them, and the paths
-- of channels that follow.
use Rattle.std.specs.Prelude.{ℕ, ◌<◌, ◌⊎◌, IsSome, length, List, [], ◌∷◌, ◌++◌, map, nat_eq, nat_lt, Bool, true, false, not, ◌||◌, Option, Some, None, is_some, option_map, if◌then◌else◌}
use Rattle.std.specs.Option.{option_or, unwrap_or}
use Rattle.std.specs.List.{find, list_any}
use Rattle.std.specs.Map.{lookup, set_value}
use Rattle.mt_base.specs.declared.kinds.Kind.{Kind}
use Rattle.mt_base.specs.declared.kinds.Kind.TheVariants.{Reliable, Lossy}
use Rattle.soft_sync.specs.declared.kinds.Kinds.{Kinds}
use Rattle.soft_sync.specs.declared.kinds.Path.{Path}
use Rattle.soft_sync.specs.declared.kinds.Path.TheVariants.{Main, Tunnel}
use Rattle.soft_sync.specs.declared.kinds.Placed.{Placed}
use Rattle.soft_sync.specs.declared.kinds.Placed.TheVariants.{Deliver, HoldIt, TooLateOnMain}
use Rattle.soft_sync.specs.declared.kinds.SyncRefusal.{SyncRefusal}
use Rattle.soft_sync.specs.declared.kinds.SyncRefusal.TheVariants.{OldVersion, Empty, UnknownChannel, Repeated, AlreadyListed, TunnelNotOpen}
use Rattle.soft_sync.specs.Exchanges.{Request, Exchange, unanswered, no_kinds, listed, moved}

-- `opened` are the kinds of the open tunnels; `channels` are the ids that were told of, in order, each
-- with whether it is an open channel
pub record Words : Type 0 where
  pub version : ℕ
  pub opened : Kinds
  pub channels : List (ℕ × Bool)
  pub made : List Exchange
  pub read : List Exchange

-- nothing was said
abbrev pub silence : Words
silence = record { version = 0; opened = no_kinds; channels = []; made = []; read = [] }

-- ---- paths

abbrev pub path_of : Option Kind → Path
path_of None = Main
path_of (Some kind) = Tunnel kind

-- the path of what this end sends for a channel: it moves at the request that this end makes, and at
-- the answer to a request that it read
abbrev pub outward : ℕ → Words → Path
outward id w = path_of (option_or (listed id w.made) (moved id w.read))

-- the path of what the other end sends for it: it moves at the request that is read, and at the answer
-- to a request that this end made
abbrev pub inward : ℕ → Words → Path
inward id w = path_of (option_or (listed id w.read) (moved id w.made))

-- where data belong that came from one path, for a channel whose inward path is the other
abbrev pub placed : Path → Path → Placed
placed Main Main = Deliver
placed Main (Tunnel kind) = TooLateOnMain
placed (Tunnel kind) Main = HoldIt
placed (Tunnel Reliable) (Tunnel Reliable) = Deliver
placed (Tunnel Reliable) (Tunnel Lossy) = HoldIt
placed (Tunnel Lossy) (Tunnel Reliable) = HoldIt
placed (Tunnel Lossy) (Tunnel Lossy) = Deliver

-- ---- a request that this end makes

abbrev pub is_empty : List ℕ → Bool
is_empty [] = true
is_empty (id ∷ ids) = false

-- the request that lists these ids
abbrev pub request_of : List ℕ → List ℕ → Request
request_of reliable lossy = record {
  named = record { reliable = not (is_empty reliable); lossy = not (is_empty lossy) };
  channels = map (λ id. (id, Reliable)) reliable ++ map (λ id. (id, Lossy)) lossy;
}

abbrev pub is_open_channel : ℕ → Words → Bool
is_open_channel id w = unwrap_or (lookup (nat_eq id) w.channels) false

-- the first id that stands before it too, or among those seen
abbrev pub first_repeated : List ℕ → List ℕ → Option ℕ
first_repeated seen [] = None
first_repeated seen (id ∷ ids) = if list_any (nat_eq id) seen then Some id else first_repeated (seen ++ id ∷ []) ids

-- the first kind with ids that has no open tunnel
abbrev pub first_closed : List ℕ → List ℕ → Kinds → Option Kind
first_closed reliable lossy opened =
    if is_empty reliable || opened.reliable then (if is_empty lossy || opened.lossy then None else Some Lossy)
    else Some Reliable

-- why it is refused: the first cause, and of each cause the first id in the order of the lists
abbrev pub why_not : List ℕ → List ℕ → Words → Option SyncRefusal
why_not reliable lossy w =
    let ids = reliable ++ lossy in
    if nat_lt w.version 3 then Some (OldVersion w.version)
    else if is_empty ids then Some Empty
    else option_or (option_map UnknownChannel (find (λ id. not (is_open_channel id w)) ids))
    (option_or (option_map Repeated (first_repeated [] ids))
    (option_or (option_map AlreadyListed (find (λ id. is_some (listed id w.made)) ids))
    (option_map TunnelNotOpen (first_closed reliable lossy w.opened))))

-- ---- the ids that were told of

-- a channel is told of: it is open, or isn't
abbrev pub told : ℕ → Bool → List (ℕ × Bool) → List (ℕ × Bool)
told id is_open channels =
    if is_some (lookup (nat_eq id) channels) then set_value (nat_eq id) channels is_open
    else channels ++ (id, is_open) ∷ []

-- a channel that wasn't told of is told of, and isn't open
abbrev pub told_of : ℕ → List (ℕ × Bool) → List (ℕ × Bool)
told_of id channels = if is_some (lookup (nat_eq id) channels) then channels else channels ++ (id, false) ∷ []

-- there are at most 256, with this one
abbrev pub HasPlace : ℕ → List (ℕ × Bool) → Type 0
HasPlace id channels = IsSome (lookup (nat_eq id) channels) ⊎ (length channels < 256)

-- a request that names these kinds, and lists no channel yet
abbrev pub begun_of : Bool → Bool → Exchange
begun_of reliable lossy =
    unanswered (record { named = record { reliable = reliable; lossy = lossy }; channels = [] })
