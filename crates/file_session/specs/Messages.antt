-- The messages of files in the calls of an end: those that it sent on channel 1, and those that were handed out of it.
use Rattle.std.specs.Prelude.{ℕ, nat_eq, List, [], ◌∷◌, ◌++◌, if◌then◌else◌}
use Rattle.mt_base.specs.Trace.{Trace, Start, ◌▷◌}
use Rattle.mt_endpoint.specs.Acts.{Sends, Takes}
use Rattle.end_calls.specs.Calls.{Entry, Own}
use Rattle.file_messages.specs.Files.{Message}

-- a message, where it is one of channel 1
abbrev pub of_files : ℕ → Message → List Message
of_files id message = if nat_eq id 1 then message ∷ [] else []

abbrev pub sent_by : Entry → List Message
sent_by (Own (Sends id message)) = of_files id message
sent_by entry = []

abbrev pub handed_by : Entry → List Message
handed_by (Own (Takes id message)) = of_files id message
handed_by entry = []

abbrev pub sent : Trace Entry → List Message
sent Start = []
sent (t ▷ entry) = sent t ++ sent_by entry

abbrev pub handed : Trace Entry → List Message
handed Start = []
handed (t ▷ entry) = handed t ++ handed_by entry

-- the calls before, and one more for each of these messages: it is sent, or handed out
abbrev pub with_sends : Trace Entry → List Message → Trace Entry
with_sends t [] = t
with_sends t (message ∷ messages) = with_sends (t ▷ Own (Sends 1 message)) messages

abbrev pub with_takes : Trace Entry → List Message → Trace Entry
with_takes t [] = t
with_takes t (message ∷ messages) = with_takes (t ▷ Own (Takes 1 message)) messages
