-- The counts of a session: how much the lists of its devices were lengthened.
use Rattle.std.proofs.Common.{◌≡◌, ℕ, ◌+◌, ◌≤◌, ◌++◌, ◌∷◌, [], List, length, take, nat_lt, Bool, true, false, Some, None, refl, sym, ◌∙◌, ap, arith}
use Rattle.std.specs.Bool.{if◌then◌else◌}
use Rattle.std.proofs.lemmas.List.{length-append, length-take-le}
use Rattle.mt_base.specs.Trace.{Trace, Start, ◌▷◌}
use Rattle.mt_base.specs.declared.kinds.Role.{Role}
use Rattle.mt_outside.specs.Streams.{Bytes, Nothing, Ended}
use Rattle.mt_session.specs.Carried.{bytes_read, bytes_written, arrivals, saturated}
use Rattle.mt_session.specs.Steps.{Step, Calls, Begins, Reads, Offers, Comes, Waits, Pulls, Passes, Leaves, Loses, Rests, Skips, Fills, Writes, raised, tally, unwritten}
use Rattle.mt_session.specs.Turns.{InTurns, IsWritten}
use Rattle.mt_session.specs.declared.tally.Tally.{Tally}

count_on : (n more count : ℕ) → count ≡ saturated n → raised more count ≡ saturated (n + more)
count_on n more count h = grind (arith, h)

no_more : (n more count : ℕ) → nat_lt 0 more ≡ false → count ≡ saturated n → count ≡ saturated (n + more)
no_more n more count none h = grind (arith, none, h)

added_length : (count : ℕ) (list more : List ℕ) → count ≡ saturated (length list + length more) → count ≡ saturated (length (list ++ more))
added_length count list more h = h ∙ ap saturated (sym (length-append list more))

-- after a read

read_if : (b : Bool) (count : ℕ) (t : Tally) (n : ℕ) → nat_lt 0 count ≡ b → t.read ≡ saturated n → (if b then record t { read = raised count t.read; moves = true } else t).read ≡ saturated (n + count)
read_if true count t n some h = count_on n count t.read h
read_if false count t n none h = no_more n count t.read none h

written_same : (b : Bool) (count : ℕ) (t : Tally) → (if b then record t { read = raised count t.read; moves = true } else t).written ≡ t.written
written_same true count t = refl
written_same false count t = refl

taken_same : (b : Bool) (count : ℕ) (t : Tally) → (if b then record t { read = raised count t.read; moves = true } else t).taken ≡ t.taken
taken_same true count t = refl
taken_same false count t = refl

-- after a write

written_if : (b : Bool) (count : ℕ) (t : Tally) (n : ℕ) → nat_lt 0 count ≡ b → t.written ≡ saturated n → (if b then record t { written = raised count t.written; moves = true } else t).written ≡ saturated (n + count)
written_if true count t n some h = count_on n count t.written h
written_if false count t n none h = no_more n count t.written none h

read_stays : (b : Bool) (count : ℕ) (t : Tally) → (if b then record t { written = raised count t.written; moves = true } else t).read ≡ t.read
read_stays true count t = refl
read_stays false count t = refl

taken_stays : (b : Bool) (count : ℕ) (t : Tally) → (if b then record t { written = raised count t.written; moves = true } else t).taken ≡ t.taken
taken_stays true count t = refl
taken_stays false count t = refl

-- a write takes no more than waits
written_within : (list : List ℕ) (count : ℕ) → IsWritten list (Some count) → count ≤ length list
written_within [] count h = absurd h
written_within (byte ∷ bytes) count h = h

taken_length : (list : List ℕ) (count : ℕ) → count ≤ length list → length (take count list) ≡ count
taken_length list count h = length-take-le count list h

written_length : (total : ℕ) (list waiting : List ℕ) (count : ℕ) → IsWritten waiting (Some count) → total ≡ saturated (length list + count) → total ≡ saturated (length (list ++ take count waiting))
written_length total list waiting count h is =
    added_length total list (take count waiting) (is ∙ ap (λ n. saturated (length list + n)) (sym (taken_length waiting count (written_within waiting count h))))

one_more : (total : ℕ) (list : List (List ℕ)) (datagram : List ℕ) → total ≡ saturated (length list + 1) → total ≡ saturated (length (list ++ datagram ∷ []))
one_more total list datagram h = h ∙ ap saturated (sym (length-append list (datagram ∷ [])))

pub read_counts : (s : Trace Step) → (tally s).read ≡ saturated (length (bytes_read s))
read_counts Start = refl
read_counts (s ▷ Calls act) = read_counts s
read_counts (s ▷ Begins now) = read_counts s
read_counts (s ▷ Reads None) = read_counts s
read_counts (s ▷ Reads (Some (Bytes bytes))) = added_length _ (bytes_read s) bytes (read_if (nat_lt 0 (length bytes)) (length bytes) (tally s) (length (bytes_read s)) refl (read_counts s))
read_counts (s ▷ Reads (Some Nothing)) = read_counts s
read_counts (s ▷ Reads (Some Ended)) = read_counts s
read_counts (s ▷ Offers count load lack) = read_counts s
read_counts (s ▷ Comes datagram took reading) = read_counts s
read_counts (s ▷ Waits) = read_counts s
read_counts (s ▷ Pulls took reading) = read_counts s
read_counts (s ▷ Passes) = read_counts s
read_counts (s ▷ Leaves datagram poll) = read_counts s
read_counts (s ▷ Loses datagram poll) = read_counts s
read_counts (s ▷ Rests poll) = read_counts s
read_counts (s ▷ Skips) = read_counts s
read_counts (s ▷ Fills room bytes) = read_counts s
read_counts (s ▷ Writes None) = read_counts s
read_counts (s ▷ Writes (Some count)) = read_stays (nat_lt 0 count) count (tally s) ∙ read_counts s

pub taken_counts : (s : Trace Step) → (tally s).taken ≡ saturated (length (arrivals s))
taken_counts Start = refl
taken_counts (s ▷ Calls act) = taken_counts s
taken_counts (s ▷ Begins now) = taken_counts s
taken_counts (s ▷ Reads None) = taken_counts s
taken_counts (s ▷ Reads (Some (Bytes bytes))) = taken_same (nat_lt 0 (length bytes)) (length bytes) (tally s) ∙ taken_counts s
taken_counts (s ▷ Reads (Some Nothing)) = taken_counts s
taken_counts (s ▷ Reads (Some Ended)) = taken_counts s
taken_counts (s ▷ Offers count load lack) = taken_counts s
taken_counts (s ▷ Comes datagram took reading) = one_more _ (arrivals s) datagram (count_on (length (arrivals s)) 1 (tally s).taken (taken_counts s))
taken_counts (s ▷ Waits) = taken_counts s
taken_counts (s ▷ Pulls took reading) = taken_counts s
taken_counts (s ▷ Passes) = taken_counts s
taken_counts (s ▷ Leaves datagram poll) = taken_counts s
taken_counts (s ▷ Loses datagram poll) = taken_counts s
taken_counts (s ▷ Rests poll) = taken_counts s
taken_counts (s ▷ Skips) = taken_counts s
taken_counts (s ▷ Fills room bytes) = taken_counts s
taken_counts (s ▷ Writes None) = taken_counts s
taken_counts (s ▷ Writes (Some count)) = taken_stays (nat_lt 0 count) count (tally s) ∙ taken_counts s

pub written_counts : (role : Role) (s : Trace Step) → InTurns role s → (tally s).written ≡ saturated (length (bytes_written s))
written_counts role Start h = refl
written_counts role (s ▷ Calls act) h = written_counts role s h.2
written_counts role (s ▷ Begins now) h = written_counts role s h.2
written_counts role (s ▷ Reads None) h = written_counts role s h.2
written_counts role (s ▷ Reads (Some (Bytes bytes))) h = written_same (nat_lt 0 (length bytes)) (length bytes) (tally s) ∙ written_counts role s h.2
written_counts role (s ▷ Reads (Some Nothing)) h = written_counts role s h.2
written_counts role (s ▷ Reads (Some Ended)) h = written_counts role s h.2
written_counts role (s ▷ Offers count load lack) h = written_counts role s h.2
written_counts role (s ▷ Comes datagram took reading) h = written_counts role s h.2
written_counts role (s ▷ Waits) h = written_counts role s h.2
written_counts role (s ▷ Pulls took reading) h = written_counts role s h.2
written_counts role (s ▷ Passes) h = written_counts role s h.2
written_counts role (s ▷ Leaves datagram poll) h = written_counts role s h.2
written_counts role (s ▷ Loses datagram poll) h = written_counts role s h.2
written_counts role (s ▷ Rests poll) h = written_counts role s h.2
written_counts role (s ▷ Skips) h = written_counts role s h.2
written_counts role (s ▷ Fills room bytes) h = written_counts role s h.2
written_counts role (s ▷ Writes None) h = written_counts role s h.2
written_counts role (s ▷ Writes (Some count)) h = written_length _ (bytes_written s) (unwritten s) count h.1 (written_if (nat_lt 0 count) count (tally s) (length (bytes_written s)) refl (written_counts role s h.2))
