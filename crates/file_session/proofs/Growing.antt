-- One message more is sent, or handed out.
use Rattle.std.proofs.Common.{◌≡◌, ℕ, Bool, List, [], ◌∷◌, ◌++◌, Option, Some, None, refl, sym, subst}
use Rattle.mt_base.specs.Trace.{Trace, ◌▷◌}
use Rattle.mt_outside.specs.Files.{Contents}
use Rattle.mt_endpoint.specs.Acts.{Sends, Takes}
use Rattle.end_calls.specs.Calls.{Entry, Own}
use Rattle.file_messages.specs.Files.{Message, File, HaveCome}
use Rattle.file_transfer.specs.Keeping.{HasKept}
use Rattle.file_transfer.specs.Sending.{AreHeld, Follow, HasSent}
use Rattle.file_transfer.specs.Own.{Own as OwnFile}
use Rattle.file_transfer.specs.declared.incoming.Incoming.{Incoming}
use Rattle.file_transfer.specs.declared.outgoing.Outgoing.{Outgoing}
use Rattle.file_session.specs.Messages.{handed, sent, with_sends, with_takes}
use Rattle.file_session.specs.Sending.{FollowsOn, SendsOn, SentSome}
use Rattle.file_session.specs.Taking.{HandsOut, KeepsOn, TookSome}

takes_more : (t : Trace Entry) (messages : List Message) (message : Message) → with_takes t (messages ++ message ∷ []) ≡ with_takes t messages ▷ Own (Takes 1 message)
takes_more t [] message = refl
takes_more t (first ∷ messages) message = takes_more (t ▷ Own (Takes 1 first)) messages message

sends_more : (t : Trace Entry) (messages : List Message) (message : Message) → with_sends t (messages ++ message ∷ []) ≡ with_sends t messages ▷ Own (Sends 1 message)
sends_more t [] message = refl
sends_more t (first ∷ messages) message = sends_more (t ▷ Own (Sends 1 first)) messages message

pub hands_more : (stands : Trace Entry → Type 0) (t : Trace Entry) (messages : List Message) (message : Message) → stands (with_takes t messages ▷ Own (Takes 1 message)) → HandsOut stands t
hands_more stands t messages message h = (messages ++ message ∷ [], subst stands (sym (takes_more t messages message)) h)

pub took_none : (stands : Trace Entry → Type 0) (t : Trace Entry) (prefix : List ℕ) (files : List File) (incoming : Incoming) (told : Option Contents) → stands t → HasKept incoming (handed t) files → TookSome stands t prefix files incoming told told
took_none stands t prefix files incoming told s h = record { messages = []; calls = s; later = files; kept = h; store = λ first is. is }

pub took_more : (before stands : Trace Entry → Type 0) (t : Trace Entry) (prefix : List ℕ) (files : List File) (old new : Incoming) (first told now : Option Contents) (message : Message)
    → (h : TookSome before t prefix files old first told) → stands (with_takes t h.messages ▷ Own (Takes 1 message))
    → (later : List File) × HasKept new (handed (with_takes t h.messages) ++ message ∷ []) later × KeepsOn prefix h.later later told now
    → TookSome stands t prefix files new first now
took_more before stands t prefix files old new first told now message h s k =
    let e = sym (takes_more t h.messages message) in
    record {
      messages = h.messages ++ message ∷ [];
      calls = subst stands e s;
      later = k.0;
      kept = subst (λ (u : Trace Entry). HasKept new (handed u) k.0) e k.1;
      store = λ contents is. k.2 contents (h.store contents is);
    }

pub sends_on : (stands : Trace Entry → Type 0) (t : Trace Entry) (messages : List Message) (message : Message) → stands (with_sends t messages ▷ Own (Sends 1 message)) → SendsOn stands t
sends_on stands t messages message h = (messages ++ message ∷ [], subst stands (sym (sends_more t messages message)) h)

-- the same end, files and store
pub took_same : {K : Type 0} (stands : K → Trace Entry → Type 0) (old new : K) (t : Trace Entry) (prefix : List ℕ) (files : List File) (before after : Incoming) (first told now : Option Contents)
    → new ≡ old → after ≡ before → now ≡ told → TookSome (stands old) t prefix files before first told → TookSome (stands new) t prefix files after first now
took_same stands old new t prefix files before after first told now e i s h =
    subst (λ (k : _). TookSome (stands k) t prefix files after first now) (sym e) (subst (λ (j : Incoming). TookSome (stands old) t prefix files j first now) (sym i) (subst (λ (o : Option Contents). TookSome (stands old) t prefix files before first o) (sym s) h))

pub bad_more : (stands : Trace Entry → Type 0) (t : Trace Entry) (messages : List Message) (message : Message) → stands (with_takes t messages ▷ Own (Takes 1 message))
    → ((ended : Bool) (others : List File) → ¬ HaveCome ended (handed (with_takes t messages) ++ message ∷ []) others)
    → (all : List Message) × stands (with_takes t all) × ((ended : Bool) (others : List File) → ¬ HaveCome ended (handed (with_takes t all)) others)
bad_more stands t messages message h bad =
    let e = sym (takes_more t messages message) in
    (messages ++ message ∷ [], subst stands e h, λ ended others. subst (λ (u : Trace Entry). ¬ HaveCome ended (handed u) others) e (bad ended others))

-- ---- sending

pub sent_none : (stands : Trace Entry → Type 0) (t : Trace Entry) (files : List File) (told : Option Contents) (outgoing : Outgoing) → stands t → HasSent outgoing (sent t) files → SentSome stands t files told outgoing outgoing
sent_none stands t files told outgoing s h = record { messages = []; calls = s; later = files; sent_are = h; follow = λ contents held follows. follows }

pub sent_more : (before stands : Trace Entry → Type 0) (t : Trace Entry) (files : List File) (told : Option Contents) (first old new : Outgoing) (message : Message)
    → (h : SentSome before t files told first old) → stands (with_sends t h.messages ▷ Own (Sends 1 message))
    → (later : List File) → HasSent new (sent (with_sends t h.messages ▷ Own (Sends 1 message))) later → FollowsOn told first new files later
    → SentSome stands t files told first new
sent_more before stands t files told first old new message h s later k f =
    let e = sym (sends_more t h.messages message) in
    record {
      messages = h.messages ++ message ∷ [];
      calls = subst stands e s;
      later = later;
      sent_are = subst (λ (u : Trace Entry). HasSent new (sent u) later) e k;
      follow = f;
    }

-- the end was asked to send the message that was made, where there is one
pub calls_next : {K : Type 0} (stands : K → Trace Entry → Type 0) (old new : K) (t : Trace Entry) (messages : List Message) (draft : Option Message) → stands old (with_sends t messages) → (draft ≡ None → new ≡ old)
    → ((message : Message) → draft ≡ Some message → stands new (with_sends t messages ▷ Own (Sends 1 message))) → SendsOn (stands new) t
calls_next stands old new t messages None before same next = (messages, subst (λ (k : _). stands k (with_sends t messages)) (sym (same refl)) before)
calls_next stands old new t messages (Some message) before same next = sends_on (stands new) t messages message (next message refl)

pub held_next : (new : Outgoing) (messages : List Message) (later : List File) (draft : Option Message) → (draft ≡ None → HasSent new messages later) → ((message : Message) → draft ≡ Some message → HasSent new (messages ++ message ∷ []) later)
    → (all : List Message) × (files : List File) × HasSent new all files
held_next new messages later None same next = (messages, later, same refl)
held_next new messages later (Some message) same next = (messages ++ message ∷ [], later, next message refl)

pub sent_next : {K : Type 0} (stands : K → Trace Entry → Type 0) (before after : K) (t : Trace Entry) (files : List File) (told : Option Contents) (first old new : Outgoing) (draft : Option Message)
    → (h : SentSome (stands before) t files told first old) (later : List File) → FollowsOn told first new files later
    → (draft ≡ None → after ≡ before) → ((message : Message) → draft ≡ Some message → stands after (with_sends t h.messages ▷ Own (Sends 1 message)))
    → (draft ≡ None → HasSent new (sent (with_sends t h.messages)) later) → ((message : Message) → draft ≡ Some message → HasSent new (sent (with_sends t h.messages) ++ message ∷ []) later)
    → SentSome (stands after) t files told first new
sent_next stands before after t files told first old new None h later f same next kept passed = record {
  messages = h.messages;
  calls = subst (λ (k : _). stands k (with_sends t h.messages)) (sym (same refl)) h.calls;
  later = later;
  sent_are = kept refl;
  follow = f;
}
sent_next stands before after t files told first old new (Some message) h later f same next kept passed =
    sent_more (stands before) (stands after) t files told first old new message h (next message refl) later (passed message refl) f

pub follows_on : (told now : Option Contents) (first old made new : Outgoing) (files mid later : List File) → now ≡ told → old.files.items ≡ first.files.items → FollowsOn told first old files mid → FollowsOn now old made mid later
    → ((contents : List (List ℕ)) → Follow made contents later → Follow new contents later) → FollowsOn told first new files later
follows_on told now first old made new files mid later e i f m next = λ contents held follows.
    next contents (m contents (subst (λ (o : Option Contents). AreHeld o old.files.items contents) (sym e) (subst (λ (owns : List OwnFile). AreHeld told owns contents) (sym i) held)) (f contents held follows))

-- nothing was sent, and the message that was made waits
pub sent_waits : {K : Type 0} (stands : K → Trace Entry → Type 0) (before after : K) (t : Trace Entry) (files : List File) (told : Option Contents) (first old made new : Outgoing)
    → (h : SentSome (stands before) t files told first old) (later : List File) → FollowsOn told first made files later → HasSent made (sent (with_sends t h.messages)) later → after ≡ before → new ≡ made
    → SentSome (stands after) t files told first new
sent_waits stands before after t files told first old made new h later f k e o =
    let s : SentSome (stands before) t files told first made = record { messages = h.messages; calls = h.calls; later = later; sent_are = k; follow = f } in
    subst (λ (x : _). SentSome (stands x) t files told first new) (sym e) (subst (λ (y : Outgoing). SentSome (stands before) t files told first y) (sym o) s)
