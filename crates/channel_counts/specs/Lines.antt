-- The lines of channels in a report.
use Rattle.std.specs.Prelude.{ℕ, List, ◌++◌}
use Rattle.std.specs.List.{flat_map}
use Rattle.mt_base.specs.declared.kinds.Role.{Role}
use Rattle.mt_base.specs.declared.kinds.Role.TheVariants.{Server, Client}
use Rattle.mt_base.specs.Ends.{other}
use Rattle.play_report.specs.Lines.{channel_line}
use Rattle.channel_counts.specs.Told.{Told, of_side}

-- what a side sent on a channel, and what of it was handed out at the other
abbrev pub side_line : Told → Role → List ℕ
side_line told side = channel_line told.id told.name side (of_side side told).sent (of_side (other side) told).handed

-- two lines for each channel, the server's first
abbrev pub both_lines : Told → List ℕ
both_lines told = side_line told Server ++ side_line told Client

abbrev pub channel_lines : List Told → List ℕ
channel_lines told = flat_map both_lines told
