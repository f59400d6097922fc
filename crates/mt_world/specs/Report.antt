-- The report on a list of calls: what each end sent on each channel, what was delivered of it at the
-- other end, and how many main stream bytes reached each end.
use Rattle.std.specs.Prelude.{ℕ, ◌+◌, List, [], ◌∷◌, ◌++◌, length}
use Rattle.mt_base.specs.declared.kinds.Role.{Role}
use Rattle.mt_base.specs.declared.kinds.Role.TheVariants.{Server, Client}
use Rattle.mt_base.specs.Ends.{other}
use Rattle.mt_base.specs.Trace.{Trace}
use Rattle.play_report.specs.Lines.{channel_line, main_line}
use Rattle.mt_world.specs.Acts.{Entry, names, sent, delivered, taken}
use Rattle.mt_world.specs.Net.{at, acts_of}

-- the line of one side of a channel in a list of calls
abbrev pub side_line : Trace (Role × Entry) → ℕ → List ℕ → Role → List ℕ
side_line w id name side =
    channel_line id name side (sent id (acts_of side w)) (delivered id (acts_of (other side) w))

-- two lines for each channel from this id on, the server's first
abbrev pub channel_lines : Trace (Role × Entry) → ℕ → List (List ℕ) → List ℕ
channel_lines w id [] = []
channel_lines w id (name ∷ rest) =
    side_line w id name Server ++ side_line w id name Client ++ channel_lines w (id + 1) rest

-- the lines of all channels, and last the line of the main stream
abbrev pub report : Trace (Role × Entry) → List ℕ
report w =
    channel_lines w 1 (names (acts_of Server w))
    ++ main_line (length (taken (at Client w))) (length (taken (at Server w)))
