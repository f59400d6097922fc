-- What the calls of both ends tell of a session: its channels, with the messages of each, and the bytes that went.
use Rattle.std.specs.List.{list_any}
use Rattle.std.specs.Prelude.{ℕ, ◌+◌, nat_eq, Bool, List, [], ◌∷◌, ◌++◌, map, if◌then◌else◌}
use Rattle.mt_base.specs.declared.kinds.Role.{Role}
use Rattle.mt_base.specs.declared.kinds.Role.TheVariants.{Server, Client}
use Rattle.mt_base.specs.Ends.{same_role}
use Rattle.mt_base.specs.Trace.{Trace, Start, ◌▷◌}
use Rattle.mt_endpoint.specs.Acts.{Act, Opens, Sends, Takes}
use Rattle.end_calls.specs.Calls.{Entry, Own, MainIn}

-- the messages of a channel that a side sent, and those that were handed out at it
pub record Messages : Type 0 where
  pub sent : List (List ℕ)
  pub handed : List (List ℕ)

-- a channel that the server created
pub record Told : Type 0 where
  pub id : ℕ
  pub name : List ℕ
  pub server : Messages
  pub client : Messages

abbrev pub of_side : Role → Told → Messages
of_side Server told = told.server
of_side Client told = told.client

-- a new one, on which nothing was sent
abbrev pub no_messages : Messages
no_messages = record { sent = []; handed = [] }

abbrev pub created : ℕ → List ℕ → Told
created id name = record { id = id; name = name; server = no_messages; client = no_messages }

-- one message more
abbrev pub with_sent : List ℕ → Messages → Messages
with_sent message m = record m { sent = m.sent ++ message ∷ [] }

abbrev pub with_handed : List ℕ → Messages → Messages
with_handed message m = record m { handed = m.handed ++ message ∷ [] }

-- at a side, of the channel of this id
abbrev pub at_side : Role → (Messages → Messages) → Told → Told
at_side Server change told = record told { server = change told.server }
at_side Client change told = record told { client = change told.client }

abbrev pub noted : Role → ℕ → (Messages → Messages) → Told → Told
noted side id change told = if nat_eq told.id id then at_side side change told else told

-- what a step of a side adds
abbrev pub after_step : Act → Role → List Told → List Told
after_step (Opens id name) side channels = if same_role side Server then channels ++ created id name ∷ [] else channels
after_step (Sends id message) side channels = map (noted side id (with_sent message)) channels
after_step (Takes id message) side channels = map (noted side id (with_handed message)) channels
after_step act side channels = channels

abbrev pub after_call : Entry → Role → List Told → List Told
after_call (Own act) side channels = after_step act side channels
after_call entry side channels = channels

-- The channels that the server created, in order, and what each side sent on each and handed out of it.
abbrev pub channels : Trace (Role × Entry) → List Told
channels Start = []
channels (w ▷ call) = after_call call.1 call.0 (channels w)

-- one of these channels has this id
abbrev pub has : ℕ → List Told → Bool
has id told = list_any (λ channel. nat_eq channel.id id) told

-- the server created a channel of this id
abbrev pub is_made : ℕ → Trace (Role × Entry) → Bool
is_made id w = has id (channels w)

-- how many bytes of the main stream a call takes, and how many this side took
abbrev pub bytes_taken : Entry → ℕ
bytes_taken (MainIn offered count load lack) = count
bytes_taken entry = 0

abbrev pub main_taken : Role → Trace (Role × Entry) → ℕ
main_taken side Start = 0
main_taken side (w ▷ call) = main_taken side w + (if same_role call.0 side then bytes_taken call.1 else 0)
