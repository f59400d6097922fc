-- The whole messages of channel 1 are taken, and the files that they carry are kept.
use Rattle.std.specs.Prelude.{◌≡◌, ℕ, List, [], Option, None, Some}
use Rattle.std.specs.Option.{option_map}
use Rattle.mt_base.specs.Trace.{Trace}
use Rattle.mt_outside.specs.Files.{Contents}
use Rattle.end_calls.specs.Calls.{Entry}
use Rattle.dvc_channels.specs.Table as channels
use Rattle.file_messages.specs.Files.{Message, File}
use Rattle.file_transfer.specs.Keeping.{HasKept, with_files}
use Rattle.file_transfer.specs.declared.incoming.Incoming.{Incoming}
use Rattle.endpoint.specs.Kept.{Kept}
use Rattle.file_session.specs.Messages.{handed, with_takes}

-- a store that held these files under the prefix holds those
abbrev pub KeepsOn : List ℕ → List File → List File → Option Contents → Option Contents → Type 0
KeepsOn prefix files later told now =
    (first : Option Contents) → told ≡ option_map (with_files prefix files) first → now ≡ option_map (with_files prefix later) first

-- Messages were handed out, one call for each: for these calls the end stands.
abbrev pub HandsOut : (Trace Entry → Type 0) → Trace Entry → Type 0
HandsOut stands t = (messages : List Message) × stands (with_takes t messages)

-- The same, and all that was handed out was read: it carries these files, which the store has then.
pub record TookSome (stands : Trace Entry → Type 0) (t : Trace Entry) (prefix : List ℕ) (files : List File) (incoming : Incoming) (told now : Option Contents) : Type 0 where
  pub messages : List Message
  pub calls : stands (with_takes t messages)
  pub later : List File
  pub kept : HasKept incoming (handed (with_takes t messages)) later
  pub store : KeepsOn prefix files later told now

-- the messages of a channel that wait at an end
abbrev pub whole_in : Option channels.Kept → List Message
whole_in None = []
whole_in (Some kept) = kept.whole

abbrev pub waiting_at : {C P : Type 0} → ℕ → Kept C P → List Message
waiting_at id end = whole_in (channels.kept_of id ((end.reader).session).channels)
