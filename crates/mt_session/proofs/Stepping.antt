-- One step more: the session and its devices stand for it.
use Rattle.std.proofs.Common.{◌≡◌, ℕ, ◌+◌, ◌≤◌, ◌++◌, ◌∷◌, [], List, length, drop, true, false, Option, Some, None, refl, ◌∙◌, ap, subst}
use Rattle.mt_base.specs.Trace.{Trace, ◌▷◌}
use Rattle.mt_base.specs.declared.kinds.Kind.TheVariants.{Reliable}
use Rattle.mt_base.specs.declared.kinds.Role.{Role}
use Rattle.carrier.specs.declared.state.Took.{Took}
use Rattle.mt_endpoint.specs.Acts.{Act}
use Rattle.end_calls.specs.Calls.{Entry, Own, MainIn, MainOut}
use Rattle.mt_outside.specs.Streams.{Heard, Bytes, Nothing, Ended, StreamTold}
use Rattle.mt_outside.specs.Wires.{WireTold, came, left}
use Rattle.mt_session.specs.Steps.{Step, Calls, Begins, Reads, Offers, Comes, Waits, Pulls, Passes, Leaves, Loses, Rests, Skips, Fills, Writes, Reading, Poll, wired_in, wired_out, kept, unwritten, entries, stream_after, tally, noted_taken, begun}
use Rattle.mt_session.specs.Turns.{Over, Begun, Offering, Taking, Waited, Sending, Filling, Writing, stage, is_linked, IsAsked, IsWritten}
use Rattle.mt_session.specs.Live.{Seen, First, Live}
use Rattle.mt_session.specs.Leading.{SameTurn}
use Rattle.mt_session.specs.declared.tally.Tally.{Tally}
use Rattle.mt_session.specs.Answers.{after_read, after_write, read_tally, written_tally, without, kept_by}

pub on_calls : {es later : Role → Trace Entry → Type 0} (seen : Seen) (first : First) (s : Trace Step) (act : Act) → Live es seen first s → stage s ≡ Over → later first.role (entries s ▷ Own act) → Live later seen first (s ▷ Calls act)
on_calls seen first s act h over end = record {
  end = end;
  kept_is = h.kept_is;
  unwritten_is = h.unwritten_is;
  tally_is = h.tally_is;
  stream_is = h.stream_is;
  wire_is = h.wire_is;
  moments_are = h.moments_are;
  now_is = h.now_is;
  order = (over, tt, h.order);
}

pub on_begins : {es : Role → Trace Entry → Type 0} (seen : Seen) (first : First) (s : Trace Step) (now : ℕ) → Live es seen first s → stage s ≡ Over → Live es (record seen { moments = seen.moments ++ now ∷ []; now = now; tally = begun seen.tally }) first (s ▷ Begins now)
on_begins seen first s now h over = record {
  end = h.end;
  kept_is = h.kept_is;
  unwritten_is = h.unwritten_is;
  tally_is = ap {A = Tally} {B = Tally} begun h.tally_is;
  stream_is = h.stream_is;
  wire_is = h.wire_is;
  moments_are = ap (λ l. l ++ now ∷ []) h.moments_are;
  now_is = refl;
  order = (over, tt, h.order);
}

kept_reads : (s : Trace Step) (a : Option Heard) → kept_by a (kept s) ≡ kept (s ▷ Reads a)
kept_reads s None = refl
kept_reads s (Some (Bytes bytes)) = refl
kept_reads s (Some Nothing) = refl
kept_reads s (Some Ended) = refl

tally_reads : (s : Trace Step) (a : Option Heard) → read_tally a (tally s) ≡ tally (s ▷ Reads a)
tally_reads s None = refl
tally_reads s (Some (Bytes bytes)) = refl
tally_reads s (Some Nothing) = refl
tally_reads s (Some Ended) = refl

stream_reads : (first : StreamTold) (s : Trace Step) (a : Option Heard) → after_read a (stream_after first s) ≡ stream_after first (s ▷ Reads a)
stream_reads first s None = refl
stream_reads first s (Some a) = refl

pub on_reads : {es : Role → Trace Entry → Type 0} (seen : Seen) (first : First) (s : Trace Step) (a : Option Heard) (waiting : List ℕ) (count : Tally) (stream : StreamTold) → Live es seen first s → stage s ≡ Begun → IsAsked seen.kept a → waiting ≡ kept_by a seen.kept → count ≡ read_tally a seen.tally → stream ≡ after_read a seen.stream → Live es (record seen { kept = waiting; tally = count; stream = stream }) first (s ▷ Reads a)
on_reads seen first s a waiting count stream h at asked keeps counts tells = record {
  end = h.end;
  kept_is = keeps ∙ ap (kept_by a) h.kept_is ∙ kept_reads s a;
  unwritten_is = h.unwritten_is;
  tally_is = counts ∙ ap (read_tally a) h.tally_is ∙ tally_reads s a;
  stream_is = tells ∙ ap (after_read a) h.stream_is ∙ stream_reads first.stream s a;
  wire_is = h.wire_is;
  moments_are = h.moments_are;
  now_is = h.now_is;
  order = (at, subst (λ l. IsAsked l a) h.kept_is asked, h.order);
}

pub on_offers : {es later : Role → Trace Entry → Type 0} (seen : Seen) (first : First) (s : Trace Step) (count load : ℕ) (lack : Option (ℕ × Trace Act)) (waiting : List ℕ) → Live es seen first s → stage s ≡ Offering → count ≤ length seen.kept → waiting ≡ drop count seen.kept → later first.role (entries s ▷ MainIn seen.kept count load lack) → Live later (record seen { kept = waiting }) first (s ▷ Offers count load lack)
on_offers {later = later} seen first s count load lack waiting h at bound keeps end = record {
  end = subst (λ l. later first.role (entries s ▷ MainIn l count load lack)) h.kept_is end;
  kept_is = keeps ∙ ap (drop count) h.kept_is;
  unwritten_is = h.unwritten_is;
  tally_is = h.tally_is;
  stream_is = h.stream_is;
  wire_is = h.wire_is;
  moments_are = h.moments_are;
  now_is = h.now_is;
  order = (at, subst (λ l. count ≤ length l) h.kept_is bound, h.order);
}

pub on_comes : {es later : Role → Trace Entry → Type 0} (seen : Seen) (first : First) (s : Trace Step) (datagram : List ℕ) (took : Took) (reading : Reading) (wire : WireTold) (count : Tally) → Live es seen first s → stage s ≡ Taking → wire ≡ came (Some datagram) seen.wire → count ≡ noted_taken seen.tally → later first.role (entries s ▷ wired_in Reliable seen.now datagram took reading) → Live later (record seen { wire = wire; tally = count }) first (s ▷ Comes datagram took reading)
on_comes {later = later} seen first s datagram took reading wire count h at tells counts end = record {
  end = subst (λ n. later first.role (entries s ▷ wired_in Reliable n datagram took reading)) h.now_is end;
  kept_is = h.kept_is;
  unwritten_is = h.unwritten_is;
  tally_is = counts ∙ ap {A = Tally} {B = Tally} noted_taken h.tally_is;
  stream_is = h.stream_is;
  wire_is = tells ∙ ap (came (Some datagram)) h.wire_is;
  moments_are = h.moments_are;
  now_is = h.now_is;
  order = (at, tt, h.order);
}

pub on_waits : {es : Role → Trace Entry → Type 0} (seen : Seen) (first : First) (s : Trace Step) (wire : WireTold) → Live es seen first s → stage s ≡ Taking → wire ≡ came None seen.wire → Live es (record seen { wire = wire }) first (s ▷ Waits)
on_waits seen first s wire h at tells = record {
  end = h.end;
  kept_is = h.kept_is;
  unwritten_is = h.unwritten_is;
  tally_is = h.tally_is;
  stream_is = h.stream_is;
  wire_is = tells ∙ ap (came None) h.wire_is;
  moments_are = h.moments_are;
  now_is = h.now_is;
  order = (at, tt, h.order);
}

pub on_pulls : {es later : Role → Trace Entry → Type 0} (seen : Seen) (first : First) (s : Trace Step) (took : Took) (reading : Reading) → Live es seen first s → stage s ≡ Waited → is_linked first.role (entries s) ≡ true → later first.role (entries s ▷ wired_in Reliable seen.now [] took reading) → Live later seen first (s ▷ Pulls took reading)
on_pulls {later = later} seen first s took reading h at linked end = record {
  end = subst (λ n. later first.role (entries s ▷ wired_in Reliable n [] took reading)) h.now_is end;
  kept_is = h.kept_is;
  unwritten_is = h.unwritten_is;
  tally_is = h.tally_is;
  stream_is = h.stream_is;
  wire_is = h.wire_is;
  moments_are = h.moments_are;
  now_is = h.now_is;
  order = (at, linked, h.order);
}

pub on_passes : {es later : Role → Trace Entry → Type 0} (seen : Seen) (first : First) (s : Trace Step) → Live es seen first s → stage s ≡ Waited → is_linked first.role (entries s) ≡ false → later first.role (entries s) → Live later seen first (s ▷ Passes)
on_passes seen first s h at linked end = record {
  end = end;
  kept_is = h.kept_is;
  unwritten_is = h.unwritten_is;
  tally_is = h.tally_is;
  stream_is = h.stream_is;
  wire_is = h.wire_is;
  moments_are = h.moments_are;
  now_is = h.now_is;
  order = (at, linked, h.order);
}

pub on_leaves : {es later : Role → Trace Entry → Type 0} (seen : Seen) (first : First) (s : Trace Step) (datagram : List ℕ) (poll : Poll) (wire : WireTold) → Live es seen first s → stage s ≡ Sending → is_linked first.role (entries s) ≡ true → wire ≡ left datagram seen.wire → later first.role (entries s ▷ wired_out Reliable seen.now (Some datagram) poll) → Live later (record seen { wire = wire }) first (s ▷ Leaves datagram poll)
on_leaves {later = later} seen first s datagram poll wire h at linked tells end = record {
  end = subst (λ n. later first.role (entries s ▷ wired_out Reliable n (Some datagram) poll)) h.now_is end;
  kept_is = h.kept_is;
  unwritten_is = h.unwritten_is;
  tally_is = h.tally_is;
  stream_is = h.stream_is;
  wire_is = tells ∙ ap (left datagram) h.wire_is;
  moments_are = h.moments_are;
  now_is = h.now_is;
  order = (at, linked, h.order);
}

pub on_loses : {es later : Role → Trace Entry → Type 0} (seen : Seen) (first : First) (s : Trace Step) (datagram : List ℕ) (poll : Poll) (wire : WireTold) → Live es seen first s → stage s ≡ Sending → is_linked first.role (entries s) ≡ true → wire ≡ seen.wire → later first.role (entries s ▷ wired_out Reliable seen.now (Some datagram) poll) → Live later (record seen { wire = wire }) first (s ▷ Loses datagram poll)
on_loses {later = later} seen first s datagram poll wire h at linked same end = record {
  end = subst (λ n. later first.role (entries s ▷ wired_out Reliable n (Some datagram) poll)) h.now_is end;
  kept_is = h.kept_is;
  unwritten_is = h.unwritten_is;
  tally_is = h.tally_is;
  stream_is = h.stream_is;
  wire_is = same ∙ h.wire_is;
  moments_are = h.moments_are;
  now_is = h.now_is;
  order = (at, linked, h.order);
}

pub on_rests : {es later : Role → Trace Entry → Type 0} (seen : Seen) (first : First) (s : Trace Step) (poll : Poll) → Live es seen first s → stage s ≡ Sending → is_linked first.role (entries s) ≡ true → later first.role (entries s ▷ wired_out Reliable seen.now None poll) → Live later seen first (s ▷ Rests poll)
on_rests {later = later} seen first s poll h at linked end = record {
  end = subst (λ n. later first.role (entries s ▷ wired_out Reliable n None poll)) h.now_is end;
  kept_is = h.kept_is;
  unwritten_is = h.unwritten_is;
  tally_is = h.tally_is;
  stream_is = h.stream_is;
  wire_is = h.wire_is;
  moments_are = h.moments_are;
  now_is = h.now_is;
  order = (at, linked, h.order);
}

pub on_skips : {es later : Role → Trace Entry → Type 0} (seen : Seen) (first : First) (s : Trace Step) → Live es seen first s → stage s ≡ Sending → is_linked first.role (entries s) ≡ false → later first.role (entries s) → Live later seen first (s ▷ Skips)
on_skips seen first s h at linked end = record {
  end = end;
  kept_is = h.kept_is;
  unwritten_is = h.unwritten_is;
  tally_is = h.tally_is;
  stream_is = h.stream_is;
  wire_is = h.wire_is;
  moments_are = h.moments_are;
  now_is = h.now_is;
  order = (at, linked, h.order);
}

pub on_fills : {es later : Role → Trace Entry → Type 0} (seen : Seen) (first : First) (s : Trace Step) (room : ℕ) (bytes waiting : List ℕ) → Live es seen first s → stage s ≡ Filling → room + length seen.unwritten ≡ 65536 → length bytes ≤ room → waiting ≡ seen.unwritten ++ bytes → later first.role (entries s ▷ MainOut room bytes) → Live later (record seen { unwritten = waiting }) first (s ▷ Fills room bytes)
on_fills seen first s room bytes waiting h at size bound keeps end = record {
  end = end;
  kept_is = h.kept_is;
  unwritten_is = keeps ∙ ap (λ l. l ++ bytes) h.unwritten_is;
  tally_is = h.tally_is;
  stream_is = h.stream_is;
  wire_is = h.wire_is;
  moments_are = h.moments_are;
  now_is = h.now_is;
  order = (at, (subst (λ l. room + length l ≡ 65536) h.unwritten_is size, bound), h.order);
}

unwritten_writes : (s : Trace Step) (a : Option ℕ) → without a (unwritten s) ≡ unwritten (s ▷ Writes a)
unwritten_writes s None = refl
unwritten_writes s (Some n) = refl

tally_writes : (s : Trace Step) (a : Option ℕ) → written_tally a (tally s) ≡ tally (s ▷ Writes a)
tally_writes s None = refl
tally_writes s (Some n) = refl

stream_writes : (first : StreamTold) (s : Trace Step) (a : Option ℕ) → after_write (unwritten s) a (stream_after first s) ≡ stream_after first (s ▷ Writes a)
stream_writes first s None = refl
stream_writes first s (Some n) = refl

pub on_writes : {es : Role → Trace Entry → Type 0} (seen : Seen) (first : First) (s : Trace Step) (a : Option ℕ) (waiting : List ℕ) (count : Tally) (stream : StreamTold) → Live es seen first s → stage s ≡ Writing → IsWritten seen.unwritten a → waiting ≡ without a seen.unwritten → count ≡ written_tally a seen.tally → stream ≡ after_write seen.unwritten a seen.stream → Live es (record seen { unwritten = waiting; tally = count; stream = stream }) first (s ▷ Writes a)
on_writes seen first s a waiting count stream h at asked keeps counts tells = record {
  end = h.end;
  kept_is = h.kept_is;
  unwritten_is = keeps ∙ ap (without a) h.unwritten_is ∙ unwritten_writes s a;
  tally_is = counts ∙ ap (written_tally a) h.tally_is ∙ tally_writes s a;
  stream_is = tells ∙ ap (λ l. after_write l a seen.stream) h.unwritten_is ∙ ap (after_write (unwritten s) a) h.stream_is ∙ stream_writes first.stream s a;
  wire_is = h.wire_is;
  moments_are = h.moments_are;
  now_is = h.now_is;
  order = (at, subst (λ l. IsWritten l a) h.unwritten_is asked, h.order);
}

pub on_same : {es : Role → Trace Entry → Type 0} (seen : Seen) (first : First) (s : Trace Step) (waiting leaving : List ℕ) (count : Tally) (stream : StreamTold) → Live es seen first s → waiting ≡ seen.kept → leaving ≡ seen.unwritten → count ≡ seen.tally → stream ≡ seen.stream → Live es (record seen { kept = waiting; unwritten = leaving; tally = count; stream = stream }) first s
on_same seen first s waiting leaving count stream h a b c d = record {
  end = h.end;
  kept_is = a ∙ h.kept_is;
  unwritten_is = b ∙ h.unwritten_is;
  tally_is = c ∙ h.tally_is;
  stream_is = d ∙ h.stream_is;
  wire_is = h.wire_is;
  moments_are = h.moments_are;
  now_is = h.now_is;
  order = h.order;
}

-- a wire that failed tells what it told
pub on_same_wire : {es : Role → Trace Entry → Type 0} (seen : Seen) (first : First) (s : Trace Step) (wire : WireTold) → Live es seen first s → wire ≡ seen.wire → Live es (record seen { wire = wire }) first s
on_same_wire seen first s wire h same = record {
  end = h.end;
  kept_is = h.kept_is;
  unwritten_is = h.unwritten_is;
  tally_is = h.tally_is;
  stream_is = h.stream_is;
  wire_is = same ∙ h.wire_is;
  moments_are = h.moments_are;
  now_is = h.now_is;
  order = h.order;
}

pub same_turn : (s : Trace Step) → SameTurn s s
same_turn s = record { heard = refl; turn = refl }

pub same_on : {a b c : Trace Step} → SameTurn a b → SameTurn b c → SameTurn a c
same_on h k = record { heard = k.heard ∙ h.heard; turn = k.turn ∙ h.turn }
