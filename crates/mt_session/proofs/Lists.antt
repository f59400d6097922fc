-- What the devices tell after steps, as lists and counts.
use Rattle.std.proofs.Common.{◌≡◌, ℕ, ◌++◌, ◌∷◌, [], ◌==◌, List, take, drop, Option, Some, None, refl, sym, ◌∙◌, ap, append_assoc, append-nil}
use Rattle.std.specs.Bool.{if◌then◌else◌}
use Rattle.std.proofs.lemmas.List.{take-append-drop}
use Rattle.mt_base.specs.Trace.{Trace, Start, ◌▷◌}
use Rattle.mt_base.specs.declared.kinds.Role.{Role}
use Rattle.mt_endpoint.specs.Acts.{Act}
use Rattle.end_calls.specs.Law.{taken_main, given_main}
use Rattle.mt_outside.specs.Told.{added, counted}
use Rattle.mt_outside.specs.Streams.{stuck_by, Bytes, Nothing, Ended, StreamTold}
use Rattle.mt_outside.specs.Wires.{WireTold}
use Rattle.mt_session.specs.Carried.{bytes_read, bytes_written, arrivals, departures, stream_quiet, stream_stuck, stream_ended, wire_quiet}
use Rattle.mt_session.specs.Live.{called}
use Rattle.mt_session.specs.Steps.{Step, Calls, Begins, Reads, Offers, Comes, Waits, Pulls, Passes, Leaves, Loses, Rests, Skips, Fills, Writes, kept, unwritten, entries, moments, moment, stream_after, wire_after, tally}
use Rattle.mt_session.specs.Turns.{InTurns, IsWritten, Over, stage}

added_none : {A : Type 0} (told : Option (List A)) → told ≡ added told []
added_none None = refl
added_none (Some list) = ap Some (sym (append-nil list))

added_on : {A : Type 0} (told : Option (List A)) (xs ys : List A) → added (added told xs) ys ≡ added told (xs ++ ys)
added_on None xs ys = refl
added_on (Some list) xs ys = ap Some (append_assoc list xs ys)

pub reads : (first : StreamTold) (s : Trace Step) → (stream_after first s).read ≡ added first.read (bytes_read s)
reads first Start = added_none first.read
reads first (s ▷ Calls act) = reads first s
reads first (s ▷ Begins now) = reads first s
reads first (s ▷ Reads None) = reads first s
reads first (s ▷ Reads (Some (Bytes bytes))) = ap (λ l. added l bytes) (reads first s) ∙ added_on first.read _ _
reads first (s ▷ Reads (Some Nothing)) = reads first s
reads first (s ▷ Reads (Some Ended)) = reads first s
reads first (s ▷ Offers count load lack) = reads first s
reads first (s ▷ Comes datagram took reading) = reads first s
reads first (s ▷ Waits) = reads first s
reads first (s ▷ Pulls took reading) = reads first s
reads first (s ▷ Passes) = reads first s
reads first (s ▷ Leaves datagram poll) = reads first s
reads first (s ▷ Loses datagram poll) = reads first s
reads first (s ▷ Rests poll) = reads first s
reads first (s ▷ Skips) = reads first s
reads first (s ▷ Fills room bytes) = reads first s
reads first (s ▷ Writes None) = reads first s
reads first (s ▷ Writes (Some count)) = reads first s

-- what was read: what the end took, followed by what is kept
pub offers : (s : Trace Step) → bytes_read s ≡ taken_main (entries s) ++ kept s
offers Start = refl
offers (s ▷ Calls act) = offers s
offers (s ▷ Begins now) = offers s
offers (s ▷ Reads None) = offers s
offers (s ▷ Reads (Some (Bytes bytes))) = ap (λ l. l ++ bytes) (offers s) ∙ append_assoc (taken_main (entries s)) (kept s) bytes
offers (s ▷ Reads (Some Nothing)) = offers s
offers (s ▷ Reads (Some Ended)) = offers s
offers (s ▷ Offers count load lack) = offers s ∙ ap (λ l. taken_main (entries s) ++ l) (sym (take-append-drop count (kept s))) ∙ sym (append_assoc (taken_main (entries s)) (take count (kept s)) (drop count (kept s)))
offers (s ▷ Comes datagram took reading) = offers s
offers (s ▷ Waits) = offers s
offers (s ▷ Pulls took reading) = offers s
offers (s ▷ Passes) = offers s
offers (s ▷ Leaves datagram poll) = offers s
offers (s ▷ Loses datagram poll) = offers s
offers (s ▷ Rests poll) = offers s
offers (s ▷ Skips) = offers s
offers (s ▷ Fills room bytes) = offers s
offers (s ▷ Writes answer) = offers s

pub writes : (first : StreamTold) (s : Trace Step) → (stream_after first s).written ≡ added first.written (bytes_written s)
writes first Start = added_none first.written
writes first (s ▷ Calls act) = writes first s
writes first (s ▷ Begins now) = writes first s
writes first (s ▷ Reads None) = writes first s
writes first (s ▷ Reads (Some (Bytes bytes))) = writes first s
writes first (s ▷ Reads (Some Nothing)) = writes first s
writes first (s ▷ Reads (Some Ended)) = writes first s
writes first (s ▷ Offers count load lack) = writes first s
writes first (s ▷ Comes datagram took reading) = writes first s
writes first (s ▷ Waits) = writes first s
writes first (s ▷ Pulls took reading) = writes first s
writes first (s ▷ Passes) = writes first s
writes first (s ▷ Leaves datagram poll) = writes first s
writes first (s ▷ Loses datagram poll) = writes first s
writes first (s ▷ Rests poll) = writes first s
writes first (s ▷ Skips) = writes first s
writes first (s ▷ Fills room bytes) = writes first s
writes first (s ▷ Writes None) = writes first s
writes first (s ▷ Writes (Some count)) = ap (λ l. added l (take count (unwritten s))) (writes first s) ∙ added_on first.written _ _

-- what the end gave: what was written, followed by what is unwritten
pub gives : (s : Trace Step) → given_main (entries s) ≡ bytes_written s ++ unwritten s
gives Start = refl
gives (s ▷ Calls act) = gives s
gives (s ▷ Begins now) = gives s
gives (s ▷ Reads answer) = gives s
gives (s ▷ Offers count load lack) = gives s
gives (s ▷ Comes datagram took reading) = gives s
gives (s ▷ Waits) = gives s
gives (s ▷ Pulls took reading) = gives s
gives (s ▷ Passes) = gives s
gives (s ▷ Leaves datagram poll) = gives s
gives (s ▷ Loses datagram poll) = gives s
gives (s ▷ Rests poll) = gives s
gives (s ▷ Skips) = gives s
gives (s ▷ Fills room bytes) = ap (λ l. l ++ bytes) (gives s) ∙ append_assoc (bytes_written s) (unwritten s) bytes
gives (s ▷ Writes None) = gives s
gives (s ▷ Writes (Some count)) = gives s ∙ ap (λ l. bytes_written s ++ l) (sym (take-append-drop count (unwritten s))) ∙ sym (append_assoc (bytes_written s) (take count (unwritten s)) (drop count (unwritten s)))

pub takes : (first : WireTold) (s : Trace Step) → (wire_after first s).taken ≡ added first.taken (arrivals s)
takes first Start = added_none first.taken
takes first (s ▷ Calls act) = takes first s
takes first (s ▷ Begins now) = takes first s
takes first (s ▷ Reads answer) = takes first s
takes first (s ▷ Offers count load lack) = takes first s
takes first (s ▷ Comes datagram took reading) = ap (λ l. added l (datagram ∷ [])) (takes first s) ∙ added_on first.taken _ _
takes first (s ▷ Waits) = takes first s
takes first (s ▷ Pulls took reading) = takes first s
takes first (s ▷ Passes) = takes first s
takes first (s ▷ Leaves datagram poll) = takes first s
takes first (s ▷ Loses datagram poll) = takes first s
takes first (s ▷ Rests poll) = takes first s
takes first (s ▷ Skips) = takes first s
takes first (s ▷ Fills room bytes) = takes first s
takes first (s ▷ Writes answer) = takes first s

pub sends : (first : WireTold) (s : Trace Step) → (wire_after first s).sent ≡ added first.sent (departures s)
sends first Start = added_none first.sent
sends first (s ▷ Calls act) = sends first s
sends first (s ▷ Begins now) = sends first s
sends first (s ▷ Reads answer) = sends first s
sends first (s ▷ Offers count load lack) = sends first s
sends first (s ▷ Comes datagram took reading) = sends first s
sends first (s ▷ Waits) = sends first s
sends first (s ▷ Pulls took reading) = sends first s
sends first (s ▷ Passes) = sends first s
sends first (s ▷ Leaves datagram poll) = ap (λ l. added l (datagram ∷ [])) (sends first s) ∙ added_on first.sent _ _
sends first (s ▷ Loses datagram poll) = sends first s
sends first (s ▷ Rests poll) = sends first s
sends first (s ▷ Skips) = sends first s
sends first (s ▷ Fills room bytes) = sends first s
sends first (s ▷ Writes answer) = sends first s

pub wire_quiets : (first : WireTold) (s : Trace Step) → (wire_after first s).quiet ≡ wire_quiet first.quiet s
wire_quiets first Start = refl
wire_quiets first (s ▷ Calls act) = wire_quiets first s
wire_quiets first (s ▷ Begins now) = wire_quiets first s
wire_quiets first (s ▷ Reads answer) = wire_quiets first s
wire_quiets first (s ▷ Offers count load lack) = wire_quiets first s
wire_quiets first (s ▷ Comes datagram took reading) = wire_quiets first s
wire_quiets first (s ▷ Waits) = ap counted (wire_quiets first s)
wire_quiets first (s ▷ Pulls took reading) = wire_quiets first s
wire_quiets first (s ▷ Passes) = wire_quiets first s
wire_quiets first (s ▷ Leaves datagram poll) = wire_quiets first s
wire_quiets first (s ▷ Loses datagram poll) = wire_quiets first s
wire_quiets first (s ▷ Rests poll) = wire_quiets first s
wire_quiets first (s ▷ Skips) = wire_quiets first s
wire_quiets first (s ▷ Fills room bytes) = wire_quiets first s
wire_quiets first (s ▷ Writes answer) = wire_quiets first s

pub wire_opened : (first : WireTold) (s : Trace Step) → (wire_after first s).opened ≡ first.opened
wire_opened first Start = refl
wire_opened first (s ▷ Calls act) = wire_opened first s
wire_opened first (s ▷ Begins now) = wire_opened first s
wire_opened first (s ▷ Reads answer) = wire_opened first s
wire_opened first (s ▷ Offers count load lack) = wire_opened first s
wire_opened first (s ▷ Comes datagram took reading) = wire_opened first s
wire_opened first (s ▷ Waits) = wire_opened first s
wire_opened first (s ▷ Pulls took reading) = wire_opened first s
wire_opened first (s ▷ Passes) = wire_opened first s
wire_opened first (s ▷ Leaves datagram poll) = wire_opened first s
wire_opened first (s ▷ Loses datagram poll) = wire_opened first s
wire_opened first (s ▷ Rests poll) = wire_opened first s
wire_opened first (s ▷ Skips) = wire_opened first s
wire_opened first (s ▷ Fills room bytes) = wire_opened first s
wire_opened first (s ▷ Writes answer) = wire_opened first s

pub quiets : (first : StreamTold) (s : Trace Step) → (stream_after first s).quiet ≡ stream_quiet first.quiet s
quiets first Start = refl
quiets first (s ▷ Calls act) = quiets first s
quiets first (s ▷ Begins now) = quiets first s
quiets first (s ▷ Reads None) = quiets first s
quiets first (s ▷ Reads (Some (Bytes bytes))) = quiets first s
quiets first (s ▷ Reads (Some Nothing)) = ap counted (quiets first s)
quiets first (s ▷ Reads (Some Ended)) = ap counted (quiets first s)
quiets first (s ▷ Offers count load lack) = quiets first s
quiets first (s ▷ Comes datagram took reading) = quiets first s
quiets first (s ▷ Waits) = quiets first s
quiets first (s ▷ Pulls took reading) = quiets first s
quiets first (s ▷ Passes) = quiets first s
quiets first (s ▷ Leaves datagram poll) = quiets first s
quiets first (s ▷ Loses datagram poll) = quiets first s
quiets first (s ▷ Rests poll) = quiets first s
quiets first (s ▷ Skips) = quiets first s
quiets first (s ▷ Fills room bytes) = quiets first s
quiets first (s ▷ Writes None) = quiets first s
quiets first (s ▷ Writes (Some count)) = quiets first s

pub endings : (first : StreamTold) (s : Trace Step) → (stream_after first s).ended ≡ stream_ended first.ended s
endings first Start = refl
endings first (s ▷ Calls act) = endings first s
endings first (s ▷ Begins now) = endings first s
endings first (s ▷ Reads None) = endings first s
endings first (s ▷ Reads (Some (Bytes bytes))) = endings first s
endings first (s ▷ Reads (Some Nothing)) = endings first s
endings first (s ▷ Reads (Some Ended)) = refl
endings first (s ▷ Offers count load lack) = endings first s
endings first (s ▷ Comes datagram took reading) = endings first s
endings first (s ▷ Waits) = endings first s
endings first (s ▷ Pulls took reading) = endings first s
endings first (s ▷ Passes) = endings first s
endings first (s ▷ Leaves datagram poll) = endings first s
endings first (s ▷ Loses datagram poll) = endings first s
endings first (s ▷ Rests poll) = endings first s
endings first (s ▷ Skips) = endings first s
endings first (s ▷ Fills room bytes) = endings first s
endings first (s ▷ Writes None) = endings first s
endings first (s ▷ Writes (Some count)) = endings first s

pub stream_opened : (first : StreamTold) (s : Trace Step) → (stream_after first s).opened ≡ first.opened
stream_opened first Start = refl
stream_opened first (s ▷ Calls act) = stream_opened first s
stream_opened first (s ▷ Begins now) = stream_opened first s
stream_opened first (s ▷ Reads None) = stream_opened first s
stream_opened first (s ▷ Reads (Some (Bytes bytes))) = stream_opened first s
stream_opened first (s ▷ Reads (Some Nothing)) = stream_opened first s
stream_opened first (s ▷ Reads (Some Ended)) = stream_opened first s
stream_opened first (s ▷ Offers count load lack) = stream_opened first s
stream_opened first (s ▷ Comes datagram took reading) = stream_opened first s
stream_opened first (s ▷ Waits) = stream_opened first s
stream_opened first (s ▷ Pulls took reading) = stream_opened first s
stream_opened first (s ▷ Passes) = stream_opened first s
stream_opened first (s ▷ Leaves datagram poll) = stream_opened first s
stream_opened first (s ▷ Loses datagram poll) = stream_opened first s
stream_opened first (s ▷ Rests poll) = stream_opened first s
stream_opened first (s ▷ Skips) = stream_opened first s
stream_opened first (s ▷ Fills room bytes) = stream_opened first s
stream_opened first (s ▷ Writes None) = stream_opened first s
stream_opened first (s ▷ Writes (Some count)) = stream_opened first s

-- a write is made where something is there to be written, so it counts where it takes nothing
stuck_one : (bytes : List ℕ) (count n : ℕ) → IsWritten bytes (Some count) → stuck_by bytes count n ≡ (if count == 0 then counted n else n)
stuck_one [] count n h = absurd h
stuck_one (byte ∷ bytes) count n h = refl

pub stucks : (first : StreamTold) (role : Role) (s : Trace Step) → InTurns role s → (stream_after first s).stuck ≡ stream_stuck first.stuck s
stucks first role Start h = refl
stucks first role (s ▷ Calls act) h = stucks first role s h.2
stucks first role (s ▷ Begins now) h = stucks first role s h.2
stucks first role (s ▷ Reads None) h = stucks first role s h.2
stucks first role (s ▷ Reads (Some (Bytes bytes))) h = stucks first role s h.2
stucks first role (s ▷ Reads (Some Nothing)) h = stucks first role s h.2
stucks first role (s ▷ Reads (Some Ended)) h = stucks first role s h.2
stucks first role (s ▷ Offers count load lack) h = stucks first role s h.2
stucks first role (s ▷ Comes datagram took reading) h = stucks first role s h.2
stucks first role (s ▷ Waits) h = stucks first role s h.2
stucks first role (s ▷ Pulls took reading) h = stucks first role s h.2
stucks first role (s ▷ Passes) h = stucks first role s h.2
stucks first role (s ▷ Leaves datagram poll) h = stucks first role s h.2
stucks first role (s ▷ Loses datagram poll) h = stucks first role s h.2
stucks first role (s ▷ Rests poll) h = stucks first role s h.2
stucks first role (s ▷ Skips) h = stucks first role s h.2
stucks first role (s ▷ Fills room bytes) h = stucks first role s h.2
stucks first role (s ▷ Writes None) h = stucks first role s h.2
stucks first role (s ▷ Writes (Some count)) h = stuck_one (unwritten s) count (stream_after first s).stuck h.1 ∙ ap (λ n. if count == 0 then counted n else n) (stucks first role s h.2)

-- ---- own calls alone: nothing waits, and nothing is counted

pub nothing_kept : (acts : Trace Act) → [] ≡ kept (called acts)
nothing_kept Start = refl
nothing_kept (acts ▷ act) = nothing_kept acts

pub nothing_unwritten : (acts : Trace Act) → [] ≡ unwritten (called acts)
nothing_unwritten Start = refl
nothing_unwritten (acts ▷ act) = nothing_unwritten acts

pub nothing_counted : (acts : Trace Act) → tally Start ≡ tally (called acts)
nothing_counted Start = refl
nothing_counted (acts ▷ act) = nothing_counted acts

pub nothing_told : (first : StreamTold) (acts : Trace Act) → first ≡ stream_after first (called acts)
nothing_told first Start = refl
nothing_told first (acts ▷ act) = nothing_told first acts

pub nothing_sent : (first : WireTold) (acts : Trace Act) → first ≡ wire_after first (called acts)
nothing_sent first Start = refl
nothing_sent first (acts ▷ act) = nothing_sent first acts

pub no_moments : (acts : Trace Act) → [] ≡ moments (called acts)
no_moments Start = refl
no_moments (acts ▷ act) = no_moments acts

pub no_moment : (acts : Trace Act) → 0 ≡ moment (called acts)
no_moment Start = refl
no_moment (acts ▷ act) = no_moment acts

called_over : (acts : Trace Act) → stage (called acts) ≡ Over
called_over Start = refl
called_over (acts ▷ act) = refl

pub called_in_turns : (role : Role) (acts : Trace Act) → InTurns role (called acts)
called_in_turns role Start = tt
called_in_turns role (acts ▷ act) = (called_over acts, tt, called_in_turns role acts)
