-- Counts up to 64, the counts of a session over the parts of a turn, and what a turn answers.
use Rattle.std.proofs.Common.{◌≡◌, ℕ, ◌+◌, ◌<◌, ◌==◌, ◌⊎◌, inl, inr, List, length, nat_lt, not, ◌&&◌, Bool, true, false, Option, Some, None, refl, sym, ◌∙◌, ap, arith, subst}
use Rattle.std.specs.Bool.{if◌then◌else◌}
use Rattle.mt_base.specs.Trace.{Trace}
use Rattle.mt_outside.specs.Streams.{Heard, Bytes, Nothing, Ended}
use Rattle.mt_outside.specs.Told.{counted}
use Rattle.mt_outside.specs.declared.got.Got.{Got}
use Rattle.mt_outside.specs.declared.got.Got.TheVariants as got
use Rattle.mt_session.specs.Answers.{answer_of, is_end, outcome, read_tally, written_tally}
use Rattle.mt_session.specs.Counting.{Raised, Stood, Rested, Moved, Grew, GoesOn, Goes, Faulty}
use Rattle.mt_session.specs.Leading.{EndsTurn, Turns, has_ended, is_ending}
use Rattle.mt_session.specs.Steps.{Step, begun, ended, noted_taken, noted_written, raised, tally}
use Rattle.mt_session.specs.declared.tally.Tally.{Tally}

pub below_64 : (i : ℕ) → i < 64 → (i == 64) ≡ false
below_64 i h = grind arith

pub next_64 : (i : ℕ) → (i == 63) ≡ (i + 1 == 64)
next_64 i = grind arith

-- ---- counts that rise

raised_by : (m count : ℕ) → 0 < count → Raised m (raised count m)
raised_by m count h = grind arith

stood_by : (m count : ℕ) → Stood m (raised count m)
stood_by m count = grind arith

stood_same : (m : ℕ) → Stood m m
stood_same m = inl (omega arith)

stood_on : (a b c : ℕ) → Stood a b → Stood b c → Stood a c
stood_on a b c (inl h) (inl k) = inl (omega (arith, h, k))
stood_on a b c (inr h) (inl k) = inr (omega (arith, h, k))
stood_on a b c h (inr k) = inr k

raised_then : (a b c : ℕ) → Raised a b → Stood b c → Raised a c
raised_then a b c (inl h) (inl k) = inl (omega (arith, h, k))
raised_then a b c (inr h) (inl k) = inr (omega (arith, h, k))
raised_then a b c h (inr k) = inr k

-- ---- counts over a part of a turn

rested : (t : Tally) → Rested t t
rested t = record { read = refl; written = refl; taken = refl }

rested_on : (a b c : Tally) → Rested a b → Rested b c → Rested a c
rested_on a b c h k = record {
  read = k.read ∙ h.read;
  written = k.written ∙ h.written;
  taken = k.taken ∙ h.taken;
}

some_then : (a b c : Tally) → Moved a b → Stood b.read c.read → Stood b.written c.written → Stood b.taken c.taken → Raised a.read b.read ⊎ Raised a.written b.written ⊎ Raised a.taken b.taken → Moved a c
some_then a b c h r w t (inl x) = record {
  read = stood_on a.read b.read c.read h.read r;
  written = stood_on a.written b.written c.written h.written w;
  taken = stood_on a.taken b.taken c.taken h.taken t;
  some = inl (raised_then a.read b.read c.read x r);
}
some_then a b c h r w t (inr (inl x)) = record {
  read = stood_on a.read b.read c.read h.read r;
  written = stood_on a.written b.written c.written h.written w;
  taken = stood_on a.taken b.taken c.taken h.taken t;
  some = inr (inl (raised_then a.written b.written c.written x w));
}
some_then a b c h r w t (inr (inr x)) = record {
  read = stood_on a.read b.read c.read h.read r;
  written = stood_on a.written b.written c.written h.written w;
  taken = stood_on a.taken b.taken c.taken h.taken t;
  some = inr (inr (raised_then a.taken b.taken c.taken x t));
}

moved_on : (a b c : Tally) → Moved a b → Moved b c → Moved a c
moved_on a b c h k = some_then a b c h k.read k.written k.taken h.some

rested_moved : (a b c : Tally) → Rested a b → Moved b c → Moved a c
rested_moved a b c h k = record {
  read = subst (λ n. Stood n c.read) h.read k.read;
  written = subst (λ n. Stood n c.written) h.written k.written;
  taken = subst (λ n. Stood n c.taken) h.taken k.taken;
  some = subst (λ n. Raised n c.read ⊎ Raised a.written c.written ⊎ Raised a.taken c.taken) h.read
      (subst (λ n. Raised b.read c.read ⊎ Raised n c.written ⊎ Raised a.taken c.taken) h.written
      (subst (λ n. Raised b.read c.read ⊎ Raised b.written c.written ⊎ Raised n c.taken) h.taken k.some));
}

moved_rested : (a b c : Tally) → Moved a b → Rested b c → Moved a c
moved_rested a b c h k = record {
  read = subst (λ n. Stood a.read n) (sym k.read) h.read;
  written = subst (λ n. Stood a.written n) (sym k.written) h.written;
  taken = subst (λ n. Stood a.taken n) (sym k.taken) h.taken;
  some = subst (λ n. Raised a.read n ⊎ Raised a.written c.written ⊎ Raised a.taken c.taken) (sym k.read)
      (subst (λ n. Raised a.read b.read ⊎ Raised a.written n ⊎ Raised a.taken c.taken) (sym k.written)
      (subst (λ n. Raised a.read b.read ⊎ Raised a.written b.written ⊎ Raised a.taken n) (sym k.taken) h.some));
}

pub grew_same : (t : Tally) → Grew t t
grew_same t = record { idle = refl; grew = inl (rested t, refl) }

pub grew_equal : (a b : Tally) → b ≡ a → Grew a b
grew_equal a b e = subst (Grew a) (sym e) (grew_same a)

grew_by : (a b c : Tally) → c.idle ≡ a.idle → (Rested a b × (b.moves ≡ a.moves)) ⊎ (Moved a b × (b.moves ≡ true)) → (Rested b c × (c.moves ≡ b.moves)) ⊎ (Moved b c × (c.moves ≡ true)) → Grew a c
grew_by a b c i (inl h) (inl k) = record { idle = i; grew = inl (rested_on a b c h.0 k.0, k.1 ∙ h.1) }
grew_by a b c i (inl h) (inr k) = record { idle = i; grew = inr (rested_moved a b c h.0 k.0, k.1) }
grew_by a b c i (inr h) (inl k) = record { idle = i; grew = inr (moved_rested a b c h.0 k.0, k.1 ∙ h.1) }
grew_by a b c i (inr h) (inr k) = record { idle = i; grew = inr (moved_on a b c h.0 k.0, k.1) }

pub grew_on : (a b c : Tally) → Grew a b → Grew b c → Grew a c
grew_on a b c h k = grew_by a b c (k.idle ∙ h.idle) h.grew k.grew

read_if : (b : Bool) (count : ℕ) (t : Tally) → nat_lt 0 count ≡ b → Grew t (if b then record t { read = raised count t.read; moves = true } else t)
read_if true count t h = record {
  idle = refl;
  grew = inr (
    record {
      read = stood_by t.read count;
      written = stood_same t.written;
      taken = stood_same t.taken;
      some = inl (raised_by t.read count (grind (arith, h)));
    },
    refl,
  );
}
read_if false count t h = grew_same t

written_if : (b : Bool) (count : ℕ) (t : Tally) → nat_lt 0 count ≡ b → Grew t (if b then record t { written = raised count t.written; moves = true } else t)
written_if true count t h = record {
  idle = refl;
  grew = inr (
    record {
      read = stood_same t.read;
      written = stood_by t.written count;
      taken = stood_same t.taken;
      some = inr (inl (raised_by t.written count (grind (arith, h))));
    },
    refl,
  );
}
written_if false count t h = grew_same t

grew_noted_taken : (t : Tally) → Grew t (noted_taken t)
grew_noted_taken t = record {
  idle = refl;
  grew = inr (
    record {
      read = stood_same t.read;
      written = stood_same t.written;
      taken = stood_by t.taken 1;
      some = inr (inr (raised_by t.taken 1 (omega arith)));
    },
    refl,
  );
}

pub grew_taken : (old new : Tally) → new ≡ noted_taken old → Grew old new
grew_taken old new e = subst (Grew old) (sym e) (grew_noted_taken old)

grew_answer : (a : Option Heard) (t : Tally) → Grew t (read_tally a t)
grew_answer None t = grew_same t
grew_answer (Some (Bytes bytes)) t = read_if (nat_lt 0 (length bytes)) (length bytes) t refl
grew_answer (Some Nothing) t = grew_same t
grew_answer (Some Ended) t = grew_same t

pub grew_read : (a : Option Heard) (old new : Tally) → new ≡ read_tally a old → Grew old new
grew_read a old new e = subst (Grew old) (sym e) (grew_answer a old)

-- ---- counts over a turn

ends_by : (old t : Tally) → t.idle ≡ old.idle → (Rested (begun old) t × (t.moves ≡ false)) ⊎ (Moved (begun old) t × (t.moves ≡ true)) → GoesOn old (ended t)
ends_by old t i (inl h) = inr (
  ap (λ b. if b then 0 else counted t.idle) h.1 ∙ ap counted i,
  record { read = h.0.read; written = h.0.written; taken = h.0.taken },
)
ends_by old t i (inr h) = inl (
  ap (λ b. if b then 0 else counted t.idle) h.1,
  record { read = h.0.read; written = h.0.written; taken = h.0.taken; some = h.0.some },
)

ends : (old t : Tally) → Grew (begun old) t → GoesOn old (ended t)
ends old t h = ends_by old t h.idle h.grew

ends_written : (old t : Tally) (a : Option ℕ) → Grew (begun old) t → GoesOn old (written_tally a t)
ends_written old t None h = ends old t h
ends_written old t (Some count) h = ends old (noted_written count t) (grew_on (begun old) t (noted_written count t) h (written_if (nat_lt 0 count) count t refl))

pub goes_on : (old t new : Tally) (a : Option ℕ) → Grew (begun old) t → new ≡ written_tally a t → GoesOn old new
goes_on old t new a h e = subst (GoesOn old) (sym e) (ends_written old t a h)

-- ---- what a turn answers

pub goes_outcome : (is_ended moves : Bool) (old new : Tally) → GoesOn old new → Goes (outcome is_ended moves) old new
goes_outcome true moves old new h = h
goes_outcome false true old new h = h
goes_outcome false false old new h = h

pub faulty_outcome : (is_ended moves : Bool) (main main_after wire wire_after : ℕ) → main_after ≡ main → wire_after ≡ wire → Faulty (outcome is_ended moves) main main_after wire wire_after
faulty_outcome true moves main main_after wire wire_after h k = (h, k)
faulty_outcome false true main main_after wire wire_after h k = (h, k)
faulty_outcome false false main main_after wire wire_after h k = (h, k)

pub turns_outcome : (is_ended moves expects_end : Bool) (s : Trace Step) → EndsTurn s → is_ended ≡ (has_ended s && not expects_end) → moves ≡ (tally s).moves → Turns expects_end (outcome is_ended moves) s
turns_outcome true moves expects_end s e h k = (e, ap (λ b. outcome b moves) h ∙ ap (outcome (has_ended s && not expects_end)) k)
turns_outcome false true expects_end s e h k = (e, ap (λ b. outcome b true) h ∙ ap (outcome (has_ended s && not expects_end)) k)
turns_outcome false false expects_end s e h k = (e, ap (λ b. outcome b false) h ∙ ap (outcome (has_ended s && not expects_end)) k)

pub heard_end : (got : Option Got) (waiting : List ℕ) → is_ending (answer_of got waiting) ≡ is_end got
heard_end None waiting = refl
heard_end (Some (got.Bytes n)) waiting = refl
heard_end (Some got.Nothing) waiting = refl
heard_end (Some got.End) waiting = refl
