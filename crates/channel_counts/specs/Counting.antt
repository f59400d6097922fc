-- What is counted of channels.
use Rattle.std.specs.Prelude.{◌≡◌, List, [], ◌∷◌}
use Rattle.play_report.specs.Tallying.{Counts}
use Rattle.channel_counts.specs.declared.channel.Channel.{Channel}
use Rattle.channel_counts.specs.declared.channel.SideCounts.{SideCounts}
use Rattle.channel_counts.specs.Told.{Messages, Told}

-- of a side: what it sent, and what was handed out at it
pub record AreCounted (counts : SideCounts) (messages : Messages) : Type 0 where
  pub sent_is : Counts counts.sent messages.sent
  pub handed_is : Counts counts.handed messages.handed

pub record IsKept (channel : Channel) (told : Told) : Type 0 where
  pub id_is : channel.id ≡ told.id
  pub name_is : channel.name.items ≡ told.name
  pub server_is : AreCounted channel.server told.server
  pub client_is : AreCounted channel.client told.client

-- of all channels, in order
abbrev pub AreKept : List Channel → List Told → Type 0
AreKept [] [] = Unit {0}
AreKept (channel ∷ kept) (t ∷ told) = IsKept channel t × AreKept kept told
AreKept [] (t ∷ told) = ⊥
AreKept (channel ∷ kept) [] = ⊥
