-- The messages of an end's own files are sent.
use Rattle.std.specs.Prelude.{◌≡◌, ◌<◌, ◌⊎◌, ℕ, List, true, is_some, Option}
use Rattle.mt_base.specs.Trace.{Trace}
use Rattle.mt_outside.specs.Files.{Contents}
use Rattle.end_calls.specs.Calls.{Entry}
use Rattle.file_messages.specs.Files.{Message, File}
use Rattle.file_transfer.specs.Sending.{HasSent, AreHeld, Follow, to_do}
use Rattle.file_transfer.specs.declared.outgoing.Outgoing.{Outgoing}
use Rattle.file_session.specs.Messages.{sent, with_sends}

-- Messages were sent, one call for each: for these calls the end stands.
abbrev pub SendsOn : (Trace Entry → Type 0) → Trace Entry → Type 0
SendsOn stands t = (messages : List Message) × stands (with_sends t messages)

-- Where a store tells the own files with some contents, the files sent follow these contents on.
abbrev pub FollowsOn : Option Contents → Outgoing → Outgoing → List File → List File → Type 0
FollowsOn told old new files later =
    (contents : List (List ℕ)) → AreHeld told old.files.items contents → Follow old contents files → Follow new contents later

-- The same, and what the end sent since its beginning are the messages of its own files so far.
pub record SentSome (stands : Trace Entry → Type 0) (t : Trace Entry) (files : List File) (told : Option Contents) (old new : Outgoing) : Type 0 where
  pub messages : List Message
  pub calls : stands (with_sends t messages)
  pub later : List File
  pub sent_are : HasSent new (sent (with_sends t messages)) later
  pub follow : FollowsOn told old new files later

-- a message waits as before, or one more was made
abbrev pub GoesOn : Outgoing → Outgoing → Type 0
GoesOn old new = ((is_some old.draft ≡ true) × (new ≡ old)) ⊎ (to_do new < to_do old)
