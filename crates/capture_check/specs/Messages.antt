-- The rule of a capture that speaks of messages: those that a side got on a channel are those that
-- the other side sent, in order; of a lossy channel they are a pick of them.
use Rattle.std.specs.Prelude.{◌≡◌, ◌≢◌, ℕ, ◌+◌, ◌<◌, ◌≤◌, ◌&&◌, ◌==◌, Bool, false, List, [], ◌∷◌, ◌++◌, slice_get, Option, Some, None, if◌then◌else◌}
use Rattle.std.specs.List.{filter_map, list_any}
use Rattle.mt_base.specs.declared.kinds.Role.{Role}
use Rattle.mt_base.specs.declared.kinds.Kind.TheVariants.{Lossy}
use Rattle.mt_base.specs.Ends.{other, same_kind, same_role}
use Rattle.capture_check.specs.declared.entry.Entry.{Entry}
use Rattle.capture_check.specs.declared.entry.Entry.TheVariants.{Sent, Got, Word}

-- the message that an entry says this side sent on the channel
abbrev pub message_in : Role → ℕ → Entry → Option (List ℕ)
message_in side id (Sent s i message) = if same_role side s && (id == i) then Some message else None
message_in side id other = None

-- the messages that a side sent on a channel, in order
abbrev pub sent_by : Role → ℕ → List Entry → List (List ℕ)
sent_by side id entries = filter_map (message_in side id) entries

-- an entry is the side's word that moves the channel to the lossy tunnel
abbrev pub is_lossy_word : Role → ℕ → Entry → Bool
is_lossy_word side id (Word s kind i) = same_role side s && (same_kind Lossy kind && (id == i))
is_lossy_word side id other = false

-- the side moved the channel to the lossy tunnel
abbrev pub went_lossy : Role → ℕ → List Entry → Bool
went_lossy side id entries = list_any (is_lossy_word side id) entries

-- Of the messages that were sent, of which the first ones were matched, this one is matched next: the
-- next one of all; on a lossy channel the first of the others that equals it.
pub record Follows (sent : List (List ℕ)) (lossy : Bool) (matched : ℕ) (message : List ℕ)
    (place : ℕ) : Type 0 where
  pub is : slice_get sent place ≡ Some message
  pub behind : matched ≤ place
  pub next : lossy ≡ false → place ≡ matched
  pub first : (p : ℕ) → matched ≤ p → p < place → slice_get sent p ≢ Some message

-- an entry says that a message of the channel, which this side sent, was delivered
abbrev pub is_got_from : Role → ℕ → Entry → Bool
is_got_from side id (Got s i message) = same_role side (other s) && (id == i)
is_got_from side id other = false

-- What was delivered of a channel matches so many of the messages that this side sent on it: the last
-- one matched, and those before it.
pub data Matched (side : Role) (id : ℕ) : List Entry → ℕ → Type 0 where
  start : (entries : List Entry) (count : ℕ) → entries ≡ [] → count ≡ 0
      → Matched side id entries count
  still : (entries before : List Entry) (entry : Entry) (count : ℕ)
      → entries ≡ before ++ entry ∷ [] → is_got_from side id entry ≡ false
      → Matched side id before count → Matched side id entries count
  more : (entries before : List Entry) (receiver : Role) (message : List ℕ) (matched count : ℕ)
      → entries ≡ before ++ Got receiver id message ∷ [] → side ≡ other receiver
      → Matched side id before matched → (place : ℕ)
      → Follows (sent_by side id before) (went_lossy side id before) matched message place
      → count ≡ place + 1 → Matched side id entries count

-- Rule 5: the messages that a side got on a channel are, in order, those that the other side sent
-- before; from that side's word for the lossy tunnel on each is a later one than the one before it,
-- the first that equals it.
abbrev pub WasSent : List Entry → Entry → Type 0
WasSent before (Got receiver id message) =
    (matched place : ℕ) × Matched (other receiver) id before matched
    × Follows (sent_by (other receiver) id before) (went_lossy (other receiver) id before) matched
    message place
WasSent before entry = Unit {0}
