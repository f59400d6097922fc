-- A pass over a capture for one rule, and a judgement by the rules up to a number with it.
use Rattle.std.proofs.Common.{◌≡◌, ℕ, ◌<◌, ◌≤◌, ◌+◌, ◌-◌, ◌⊎◌, inl, inr, List, [], ◌∷◌, ◌++◌, length, take, get_or, Option, Some, None, refl, sym, ap, subst, ◌∙◌, append_assoc, append-nil, length-append, take_all, arith}
use Rattle.std.proofs.Math.Seq.{take-append_seam}
use Rattle.capture_check.specs.declared.entry.Entry.{Entry}
use Rattle.capture_check.specs.declared.judgement.Judgement.{Judgement}
use Rattle.capture_check.specs.declared.judgement.Judgement.TheVariants.{Holds, Breaks}
use Rattle.capture_check.specs.Rules.{Rule, Numbering, Naming, Lateness, Layouts, Messages, Tellings, Framing, Asking, number_of, Asks, Keeps, Hold, FirstBreak, Judged}
use Rattle.capture_check.specs.Passes.{Obey, FirstAgainst, Finds, unbroken, with_found, IsWithin}
use Rattle.capture_check.proofs.Stepping.{snoc, at_place, one_further}

-- ---- one pass

-- the entries that a pass went over
pub record PassedTo (rule : Rule) (entries : List Entry) (index line : ℕ) : Type 0 where
  pub kept : Obey rule (take index entries)
  pub line_is : line ≡ index

nothing_obeys : (rule : Rule) → Obey rule []
nothing_obeys rule [] entry after parts = cc
nothing_obeys rule (b ∷ before) entry after parts = cc

obey_on : (rule : Rule) (xs : List Entry) (e : Entry) → Obey rule xs → Asks rule xs e → Obey rule (xs ++ e ∷ [])
obey_on rule xs e kept asks before entry after parts =
    elim (snoc xs before e entry after parts) [
      | inl end ↦ subst (λ b. Asks rule b entry) end.0 (subst (Asks rule xs) end.1 asks)
      | inr more ↦ kept before entry more.0 more.1
    ]

pub begins : (rule : Rule) (entries : List Entry) → PassedTo rule entries 0 0
begins rule entries = record { kept = nothing_obeys rule; line_is = refl }

pub goes_on : (rule : Rule) (entries : List Entry) (index line : ℕ) (entry : Entry) → PassedTo rule entries index line → index < length entries
    → entry ≡ get_or entries index entry → Asks rule (take index entries) entry → PassedTo rule entries (index + 1) (line + 1)
goes_on rule entries index line entry passed within is asks =
    record {
      kept = subst (Obey rule) (one_further entries index entry within is) (obey_on rule (take index entries) entry passed.kept asks);
      line_is = omega (arith, passed.line_is);
    }

pub ends_at : (rule : Rule) (entries : List Entry) (index line : ℕ) (entry : Entry) → PassedTo rule entries index line → index < length entries
    → entry ≡ get_or entries index entry → ¬ Asks rule (take index entries) entry → FirstAgainst rule entries (line + 1)
ends_at rule entries index line entry passed within is broken =
    let p = at_place entries index entry within in
    record {
      before = take index entries;
      entry = entry;
      after = p.0;
      parts = p.1 ∙ ap (λ e. take index entries ++ e ∷ p.0) (sym is);
      kept = passed.kept;
      broken = broken;
      line_is = omega (arith, passed.line_is, p.3);
    }

pub passed_all : (rule : Rule) (entries : List Entry) (index line : ℕ) → PassedTo rule entries index line → length entries ≤ index → Obey rule entries
passed_all rule entries index line passed whole = subst (Obey rule) (take_all index entries whole) passed.kept

-- ---- a judgement with one rule more

-- a rule is the one with the next number
abbrev pub IsNext : ℕ → Rule → Type 0
IsNext most rule = (other : Rule) → number_of other ≤ most + 1 → (number_of other ≤ most) ⊎ (other ≡ rule)

one_more_keeps : (most : ℕ) (rule : Rule) (before : List Entry) (entry : Entry) → IsNext most rule → Keeps most before entry → Asks rule before entry → Keeps (most + 1) before entry
one_more_keeps most rule before entry next keeps asks other few =
    elim (next other few) [
      | inl low ↦ keeps other low
      | inr is ↦ subst (λ r. Asks r before entry) (sym is) asks
    ]

both_hold : (most : ℕ) (rule : Rule) (entries : List Entry) → IsNext most rule → Hold most entries → Obey rule entries → Hold (most + 1) entries
both_hold most rule entries next hold obey before entry after parts =
    one_more_keeps most rule before entry next (hold before entry after parts) (obey before entry after parts)

hold_before : (most : ℕ) (xs ys : List Entry) (x : Entry) → Hold most (xs ++ x ∷ ys) → Hold most xs
hold_before most xs ys x hold before entry after parts =
    hold before entry (after ++ x ∷ ys) (ap (λ l. l ++ x ∷ ys) parts ∙ append_assoc before (entry ∷ after) (x ∷ ys))

-- the first entry against the next rule, where all entries keep the rules before it
breaks_next : (most : ℕ) (rule : Rule) (entries : List Entry) (line : ℕ) → IsNext most rule → number_of rule ≡ most + 1 → (whole : List Entry) (rest : List Entry) → whole ≡ entries ++ rest → Hold most entries
    → FirstAgainst rule entries line → FirstBreak (most + 1) whole line (most + 1)
breaks_next most rule entries line next number whole rest is hold f =
    let here : Hold most (f.before ++ f.entry ∷ f.after) = subst (Hold most) f.parts hold in
    record {
      before = f.before;
      entry = f.entry;
      after = f.after ++ rest;
      parts = is ∙ ap (λ l. l ++ rest) f.parts ∙ append_assoc f.before (f.entry ∷ f.after) rest;
      kept = both_hold most rule f.before next (hold_before most f.before f.after f.entry here) f.kept;
      breaks = record {
        rule = rule;
        number_is = sym number;
        within = omega (arith, number);
        broken = f.broken;
        least = λ lower few. here f.before f.entry f.after refl lower (omega (arith, number, few));
      };
      line_is = f.line_is;
    }

still_breaks : (most : ℕ) (rule : Rule) (entries : List Entry) (line number : ℕ) → IsNext most rule → (f : FirstBreak most entries line number) → Obey rule f.before → FirstBreak (most + 1) entries line number
still_breaks most rule entries line number next f obey =
    record {
      before = f.before;
      entry = f.entry;
      after = f.after;
      parts = f.parts;
      kept = both_hold most rule f.before next f.kept obey;
      breaks = record { rule = f.breaks.rule; number_is = f.breaks.number_is; within = omega (arith, f.breaks.within); broken = f.breaks.broken; least = f.breaks.least };
      line_is = f.line_is;
    }

those_before : (most : ℕ) (entries : List Entry) (line number : ℕ) (f : FirstBreak most entries line number) → take (line - 1) entries ≡ f.before
those_before most entries line number f =
    let is : line - 1 ≡ length f.before = omega (arith, f.line_is) in
    ap (λ n. take n entries) is ∙ ap (take (length f.before)) f.parts ∙ take-append_seam f.before (f.entry ∷ f.after)

-- a judgement by the rules up to a number, and a pass for the next one
pub judged_next : (most : ℕ) (rule : Rule) (entries : List Entry) (judgement : Judgement) (found : Option ℕ) → IsNext most rule → number_of rule ≡ most + 1 → Judged most entries judgement
    → Finds rule (unbroken entries judgement) found → Judged (most + 1) entries (with_found judgement (most + 1) found)
judged_next most rule entries Holds None next number hold obey = both_hold most rule entries next hold obey
judged_next most rule entries Holds (Some line) next number hold f = breaks_next most rule entries line next number entries [] (sym (append-nil entries)) hold f
judged_next most rule entries (Breaks line n) None next number f obey =
    still_breaks most rule entries line n next f (subst (Obey rule) (those_before most entries line n f) obey)
judged_next most rule entries (Breaks line n) (Some found) next number f g =
    let same = those_before most entries line n f in
    breaks_next most rule f.before found next number entries (f.entry ∷ f.after) f.parts f.kept (subst (λ l. FirstAgainst rule l found) same g)

-- the line that a judgement names is there
pub judged_within : (most : ℕ) (entries : List Entry) (judgement : Judgement) → Judged most entries judgement → IsWithin (length entries) judgement
judged_within most entries Holds judged = tt
judged_within most entries (Breaks line number) f =
    let long = ap length f.parts ∙ length-append f.before (f.entry ∷ f.after) in
    (omega (arith, f.line_is), omega (arith, f.line_is, long))

pub layouts_next : IsNext 3 Layouts
layouts_next Numbering few = inl (omega arith)
layouts_next Naming few = inl (omega arith)
layouts_next Lateness few = inl (omega arith)
layouts_next Layouts few = inr refl
layouts_next Messages few = absurd (omega (arith, few))
layouts_next Tellings few = absurd (omega (arith, few))
layouts_next Framing few = absurd (omega (arith, few))
layouts_next Asking few = absurd (omega (arith, few))

pub messages_next : IsNext 4 Messages
messages_next Numbering few = inl (omega arith)
messages_next Naming few = inl (omega arith)
messages_next Lateness few = inl (omega arith)
messages_next Layouts few = inl (omega arith)
messages_next Messages few = inr refl
messages_next Tellings few = absurd (omega (arith, few))
messages_next Framing few = absurd (omega (arith, few))
messages_next Asking few = absurd (omega (arith, few))

pub tellings_next : IsNext 5 Tellings
tellings_next Numbering few = inl (omega arith)
tellings_next Naming few = inl (omega arith)
tellings_next Lateness few = inl (omega arith)
tellings_next Layouts few = inl (omega arith)
tellings_next Messages few = inl (omega arith)
tellings_next Tellings few = inr refl
tellings_next Framing few = absurd (omega (arith, few))
tellings_next Asking few = absurd (omega (arith, few))

pub framing_next : IsNext 6 Framing
framing_next Numbering few = inl (omega arith)
framing_next Naming few = inl (omega arith)
framing_next Lateness few = inl (omega arith)
framing_next Layouts few = inl (omega arith)
framing_next Messages few = inl (omega arith)
framing_next Tellings few = inl (omega arith)
framing_next Framing few = inr refl
framing_next Asking few = absurd (omega (arith, few))

pub asking_next : IsNext 7 Asking
asking_next Numbering few = inl (omega arith)
asking_next Naming few = inl (omega arith)
asking_next Lateness few = inl (omega arith)
asking_next Layouts few = inl (omega arith)
asking_next Messages few = inl (omega arith)
asking_next Tellings few = inl (omega arith)
asking_next Framing few = inl (omega arith)
asking_next Asking few = inr refl

-- the entries that were not judged to break a rule keep each of the rules
pub unbroken_hold : (most : ℕ) (entries : List Entry) (judgement : Judgement) → Judged most entries judgement → Hold most (unbroken entries judgement)
unbroken_hold most entries Holds judged = judged
unbroken_hold most entries (Breaks line number) f = subst (Hold most) (sym (those_before most entries line number f)) f.kept

pub unbroken_obey : (most : ℕ) (rule : Rule) (entries : List Entry) (judgement : Judgement) → number_of rule ≤ most → Judged most entries judgement → Obey rule (unbroken entries judgement)
unbroken_obey most rule entries judgement few judged before entry after parts = unbroken_hold most entries judgement judged before entry after parts rule few
