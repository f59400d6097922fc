-- What the text of a script gives: a report, a refusal of one of its lines, or that it is too long.
use Rattle.std.specs.Prelude.{◌≡◌, ℕ, ◌<◌, ◌⊎◌, List, [], ◌∷◌, ◌++◌, length, codes, Ok, Err}
use Rattle.std.specs.Fmt.{decimal}
use Rattle.mt_base.specs.declared.kinds.Role.{Role}
use Rattle.mt_base.specs.Trace.{Trace}
use Rattle.mt_script.specs.declared.event.Line.{Line}
use Rattle.mt_script.specs.declared.event.ScriptRefusal.TheVariants.{BadCommand, BadWords}
use Rattle.mt_script.specs.Lines.{lines_of}
use Rattle.mt_script.specs.Meaning.{ReadsAs, line_limit}
use Rattle.mt_world.specs.declared.refusal.OpenRefusal.{OpenRefusal}
use Rattle.mt_world.specs.declared.refusal.OpenRefusal.TheVariants as open_refusal
use Rattle.mt_world.specs.declared.refusal.SendRefusal.{SendRefusal}
use Rattle.mt_world.specs.declared.refusal.SendRefusal.TheVariants as send_refusal
use Rattle.mt_world.specs.declared.refusal.Refused.TheVariants as refused
use Rattle.mt_world.specs.declared.refusal.StepRefusal.{StepRefusal}
use Rattle.mt_world.specs.declared.refusal.StepRefusal.TheVariants as step_refusal
use Rattle.rdpmt_program.specs.declared.cause.Cause.{Cause}
use Rattle.rdpmt_program.specs.declared.cause.Cause.TheVariants as cause
use Rattle.mt_world.specs.Acts.{Entry}
use Rattle.mt_world.specs.Net.{Safe}
use Rattle.mt_world.specs.Play.{start, play, Done, RefusedAt}
use Rattle.mt_world.specs.Report.{report}

-- The text is a script whose lines are played to their end, and this is the report on the calls
-- that they make. In these calls, on each channel and in each direction, the messages that were
-- delivered are the first of those that were sent, each once and in order.
pub record PlaysTo (text output : List ℕ) : Type 0 where
  pub lines : List Line
  pub list : Trace (Role × Entry)
  pub reads : ReadsAs text (Ok lines)
  pub played : play start lines ≡ (list, Done)
  pub reported : output ≡ report list
  pub safe : Safe list

-- the refusal of a step that a cause is
abbrev pub refusal_of : Cause → StepRefusal
refusal_of cause.UnknownChannel = step_refusal.UnknownChannel
refusal_of (cause.Refused why) = step_refusal.Refused why

-- the innermost name of a cause
abbrev pub open_name : OpenRefusal → List ℕ
open_name open_refusal.NotReady = codes "NotReady"
open_name (open_refusal.BadName at) = codes "BadName"
open_name (open_refusal.TooMany limit) = codes "TooMany"

abbrev pub send_name : SendRefusal → List ℕ
send_name send_refusal.UnknownChannel = codes "UnknownChannel"
send_name send_refusal.NotOpen = codes "NotOpen"
send_name (send_refusal.MessageTooLong limit) = codes "MessageTooLong"

abbrev pub cause_name : Cause → List ℕ
cause_name cause.UnknownChannel = codes "UnknownChannel"
cause_name (cause.Refused (refused.Open why)) = open_name why
cause_name (cause.Refused (refused.Send why)) = send_name why

-- what is printed of a line that is refused
abbrev pub refused_line : ℕ → List ℕ → List ℕ
refused_line line reason = codes "refused line " ++ decimal line ++ codes " " ++ reason ++ 10 ∷ []

-- A line of the text is refused, and this is what is printed of it: the first one that is no line of
-- a script, or, where all are, the one at which the play ends.
pub data IsRefused (text output : List ℕ) : Type 0 where
  command : (line : ℕ) → ReadsAs text (Err (BadCommand line)) → output ≡ refused_line line (codes "BadCommand") → IsRefused text output
  words : (line : ℕ) → ReadsAs text (Err (BadWords line)) → output ≡ refused_line line (codes "BadWords") → IsRefused text output
  step : (lines : List Line) (list : Trace (Role × Entry)) (line : ℕ) (why : Cause) → ReadsAs text (Ok lines)
      → play start lines ≡ (list, RefusedAt line (refusal_of why)) → output ≡ refused_line line (cause_name why) → IsRefused text output

-- the most bytes that a script, a show file or a capture has
abbrev pub byte_limit : ℕ
byte_limit = 268435456

-- the text is longer than a script, a show file or a capture may be
abbrev pub IsTooLong : List ℕ → Type 0
IsTooLong text = (byte_limit < length text) ⊎ (line_limit < length (lines_of text))
