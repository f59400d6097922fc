-- The main streams of both sides so far.
use Rattle.std.specs.Prelude.{◌^◌, ◌<◌, ℕ, List, ◌++◌, All}
use Rattle.mt_base.specs.declared.kinds.Role.{Role}
use Rattle.mt_base.specs.declared.kinds.Role.TheVariants.{Server, Client}
use Rattle.tunnel_pdus.specs.Value.{Frame}
use Rattle.capture_check.specs.declared.entry.Entry.{Entry}
use Rattle.capture_check.specs.declared.words.Words.{Words}
use Rattle.capture_check.specs.declared.main_streams.MainStreams.{MainStreams}
use Rattle.capture_check.specs.Sayings.{KeepsWords}
use Rattle.capture_check.specs.WordsSoFar.{AreWords}
use Rattle.capture_check.specs.MainFrames.{Sided, from, frames_of, said_of, main_of, Came, AreFrames}

-- the bytes of a side are its frames among those that came, and what is left
pub record IsRead (side : Role) (bytes : List ℕ) (came : List Sided) (left : List ℕ) : Type 0 where
  pub are_frames : AreFrames bytes (frames_of side came) left
  pub are_bytes : All (λ b. b < 2 ^ 8) left

-- what is kept of the frames that came
pub record AreHeard (came : List Sided) (words : Words) : Type 0 where
  pub are_words : AreWords (said_of came) words
  pub keeps : KeepsWords (said_of came)

-- With whatever bytes the side goes on, these are no frames, or hold data behind a word.
abbrev pub Breaks : Role → List ℕ → List Sided → Type 0
Breaks side bytes came =
    (more left : List ℕ) (frames : List Frame) → All (λ b. b < 2 ^ 8) more
    → AreFrames (bytes ++ more) (frames_of side came ++ frames) left
    → ¬ KeepsWords (said_of (came ++ from side frames))

-- the bytes that are left of a side's main stream
abbrev pub left_of : MainStreams → Role → List ℕ
left_of streams Server = streams.server.items
left_of streams Client = streams.client.items

-- the main streams are those of the entries
pub record AreStreams (entries : List Entry) (streams : MainStreams) : Type 0 where
  pub came : List Sided
  pub they_came : Came entries came
  pub read : (side : Role) → IsRead side (main_of side entries) came (left_of streams side)
  pub heard : AreHeard came streams.words
