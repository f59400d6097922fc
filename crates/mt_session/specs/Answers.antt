-- What the answers of the parts of a turn say.
use Rattle.std.specs.Prelude.{ℕ, ◌++◌, List, length, drop, Bool, true, false, Option, Some, None, if◌then◌else◌}
use Rattle.mt_outside.specs.declared.got.Got.{Got}
use Rattle.mt_outside.specs.declared.got.Got.TheVariants as got
use Rattle.mt_outside.specs.Streams.{Heard, Bytes, Nothing, Ended, StreamTold, heard, wrote}
use Rattle.mt_session.specs.declared.tally.Tally.{Tally}
use Rattle.mt_session.specs.declared.turned.Turned.{Turned}
use Rattle.mt_session.specs.declared.turned.Turned.TheVariants as turned
use Rattle.mt_session.specs.Steps.{noted_read, noted_written, ended}

-- a read, with the bytes that then wait
abbrev pub answer_of : Option Got → List ℕ → Option Heard
answer_of None waiting = None
answer_of (Some (got.Bytes n)) waiting = Some (Bytes waiting)
answer_of (Some got.Nothing) waiting = Some Nothing
answer_of (Some got.End) waiting = Some Ended

abbrev pub is_end : Option Got → Bool
is_end None = false
is_end (Some (got.Bytes n)) = false
is_end (Some got.Nothing) = false
is_end (Some got.End) = true

-- one step of the stream
abbrev pub after_read : Option Heard → StreamTold → StreamTold
after_read None told = told
after_read (Some answer) told = heard answer told

abbrev pub after_write : List ℕ → Option ℕ → StreamTold → StreamTold
after_write bytes None told = told
after_write bytes (Some count) told = wrote bytes count told

-- the bytes that wait after a read, and those after a write
abbrev pub kept_by : Option Heard → List ℕ → List ℕ
kept_by (Some (Bytes bytes)) old = old ++ bytes
kept_by answer old = old

abbrev pub without : Option ℕ → List ℕ → List ℕ
without None bytes = bytes
without (Some count) bytes = drop count bytes

-- the counts after a read, and after the write that ends the turn
abbrev pub read_tally : Option Heard → Tally → Tally
read_tally (Some (Bytes bytes)) tally = noted_read (length bytes) tally
read_tally answer tally = tally

abbrev pub written_tally : Option ℕ → Tally → Tally
written_tally None tally = ended tally
written_tally (Some count) tally = ended (noted_written count tally)

-- what a whole turn answers, where the stream ended in it or not, and something moved in it or not
abbrev pub outcome : Bool → Bool → Turned
outcome true moves = turned.Ended
outcome false moves = if moves then turned.Went else turned.Idle
