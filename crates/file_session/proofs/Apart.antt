-- Messages that are sent, and messages that are handed out, keep apart.
use Rattle.std.proofs.Common.{◌≡◌, List, [], ◌∷◌, ◌++◌, refl, sym, ◌∙◌, append-nil, append_assoc}
use Rattle.mt_base.specs.Trace.{Trace, ◌▷◌}
use Rattle.mt_endpoint.specs.Acts.{Sends, Takes}
use Rattle.end_calls.specs.Calls.{Entry, Own}
use Rattle.file_messages.specs.Files.{Message}
use Rattle.file_session.specs.Messages.{handed, sent, with_sends, with_takes}

pub sent_on : (t : Trace Entry) (messages : List Message) → sent (with_sends t messages) ≡ sent t ++ messages
sent_on t [] = sym (append-nil (sent t))
sent_on t (message ∷ messages) = sent_on (t ▷ Own (Sends 1 message)) messages ∙ append_assoc (sent t) (message ∷ []) messages

pub handed_same : (t : Trace Entry) (messages : List Message) → handed (with_sends t messages) ≡ handed t
handed_same t [] = refl
handed_same t (message ∷ messages) = handed_same (t ▷ Own (Sends 1 message)) messages ∙ append-nil (handed t)

pub handed_on : (t : Trace Entry) (messages : List Message) → handed (with_takes t messages) ≡ handed t ++ messages
handed_on t [] = sym (append-nil (handed t))
handed_on t (message ∷ messages) = handed_on (t ▷ Own (Takes 1 message)) messages ∙ append_assoc (handed t) (message ∷ []) messages

pub sent_same : (t : Trace Entry) (messages : List Message) → sent (with_takes t messages) ≡ sent t
sent_same t [] = refl
sent_same t (message ∷ messages) = sent_same (t ▷ Own (Takes 1 message)) messages ∙ append-nil (sent t)
