-- What is held is released for channels whose words are read.
use Rattle.std.specs.Prelude.{◌≡◌, ℕ, ◌+◌, ◌*◌, ◌≤◌, true, List, [], ◌∷◌, length, Option, Some, None}
use Rattle.mt_base.specs.declared.kinds.Kind.{Kind}
use Rattle.mt_base.specs.declared.kinds.Kind.TheVariants.{Reliable, Lossy}
use Rattle.dvc_pdus.specs.Value.{Pdu, SyncRequest, SyncResponse}
use Rattle.soft_sync.specs.Exchanges.{Exchange, channels_at}
use Rattle.soft_sync.specs.Words.{Words, inward}
use Rattle.mt_endpoint.specs.Growing.{among}
use Rattle.mt_endpoint.specs.Holding.{is_through}
use Rattle.mt_endpoint.specs.Moving.{channels_listed, kinds_of}
use Rattle.end_calls.specs.declared.limits.TheConstants.{MAIN_QUEUE}
use Rattle.end_session.specs.Outgoing.{Outgoing, waiting_for}

-- the words of these channels are read, each for its tunnel
abbrev pub AreThrough : List (ℕ × Kind) → Words → Type 0
AreThrough [] w = Unit {0}
AreThrough ((id, kind) ∷ channels) w = (is_through kind (inward id w) ≡ true) × AreThrough channels w

-- there is room for the closes of so many channels, of 8 bytes on the main stream, or 9 for the link
pub record HasRoomFor (count : ℕ) (o : Outgoing) : Type 0 where
  pub main_room : length o.main + 8 * count ≤ MAIN_QUEUE
  pub reliable_room : length (waiting_for Reliable o) + 9 * count ≤ 3072

-- at most so many closes were written, none for the lossy link
pub record WroteCloses (count : ℕ) (o now : Outgoing) : Type 0 where
  pub main_is : length now.main ≤ length o.main + 8 * count
  pub reliable_is : length (waiting_for Reliable now) ≤ length (waiting_for Reliable o) + 9 * count
  pub lossy_is : waiting_for Lossy now ≡ waiting_for Lossy o

-- the channels of this end's request of a number, where there is one, that it lists under these kinds
abbrev pub moved_by : Option ℕ → List Exchange → List (ℕ × Kind)
moved_by None xs = []
moved_by (Some number) xs = channels_at number xs

-- the channels that a channel PDU of the main stream moves, where it answers the request of this number
abbrev pub freed_by : Pdu → Option ℕ → List Exchange → List (ℕ × Kind)
freed_by (SyncRequest flags tunnels lists) request xs = channels_listed lists
freed_by (SyncResponse types) request xs = among (kinds_of types) (moved_by request xs)
freed_by pdu request xs = []
