-- Each text has exactly one answer.
use Rattle.std.proofs.Common.{◌≡◌, ℕ, suc, ◌<◌, ◌≤◌, ◌+◌, ◌⊎◌, inl, inr, List, [], ◌∷◌, ◌++◌, length, map, Option, Some, None, Result, Ok, Err, refl, sym, ap, subst, ◌∙◌, arith}
use Rattle.std.proofs.lemmas.Bool.{cases_lt}
use Rattle.std.proofs.lemmas.List.{length-map}
use Rattle.mt_base.proofs.Lists.{heads}
use Rattle.mt_script.proofs.ScriptLines.{length-Do}
use Rattle.std.proofs.lemmas.List.Elements.{All-from_recursion, All-head, All-tail, All-weaker, All-map}
use Rattle.std.specs.List.{All, AllByRecursion}
use Rattle.mt_script.specs.declared.event.Event.{Event}
use Rattle.mt_script.specs.declared.event.Line.{Line}
use Rattle.mt_script.specs.declared.event.ScriptRefusal.{ScriptRefusal}
use Rattle.mt_script.specs.declared.event.ScriptRefusal.TheVariants.{BadCommand, BadWords, TooManyLines, NoMemory}
use Rattle.mt_script.specs.Lines.{Lacks, ended, lines_of}
use Rattle.mt_script.specs.Spelling.{spelled, IsBytes, IsEvent}
use Rattle.mt_script.specs.Meaning.{Meaning, Does, UnknownCommand, WrongWords, Means, Do, numbered, FirstFault, ReadsAs, line_limit}
use Rattle.mt_script.proofs.LineLaws.{no_ends_by, bytes_of_lines, lines_of-all_ended}
use Rattle.mt_script.proofs.Spellings.{spelled_line}
use Rattle.mt_script.proofs.Meanings.{some_meaning, one_meaning}

abbrev IsBad : Meaning → Type 0
IsBad (Does does) = ⊥
IsBad UnknownCommand = Unit {0}
IsBad WrongWords = Unit {0}

-- ---- an answer

-- all lines are good, or there is a first that isn't
abbrev Told : List (List ℕ) → Type 0
Told lines = ((does : List (Option Event)) × Do lines does) ⊎ ((number : ℕ) × (fault : Meaning) × IsBad fault × FirstFault lines number fault)

one_more : (line : List ℕ) (rest : List (List ℕ)) (d : Option Event) → Means line (Does d) → Told rest → Told (line ∷ rest)
one_more line rest d h (inl good) = inl (d ∷ good.0, (h, good.1))
one_more line rest d h (inr f) =
    let place = f.3.number_is in
    inr (
      f.0 + 1,
      f.1,
      f.2,
      record {
        before = line ∷ f.3.before;
        line = f.3.line;
        after = f.3.after;
        does = d ∷ f.3.does;
        parts = ap (λ ls. line ∷ ls) f.3.parts;
        good = (h, f.3.good);
        bad = f.3.bad;
        number_is = omega arith;
      },
    )

first_line : (line : List ℕ) (rest : List (List ℕ)) (m : Meaning) → Means line m → Told rest → Told (line ∷ rest)
first_line line rest (Does d) h told = one_more line rest d h told
first_line line rest UnknownCommand h told =
    inr (1, UnknownCommand, tt, record { before = []; line = line; after = rest; does = []; parts = refl; good = tt; bad = h; number_is = refl })
first_line line rest WrongWords h told =
    inr (1, WrongWords, tt, record { before = []; line = line; after = rest; does = []; parts = refl; good = tt; bad = h; number_is = refl })

tell : (lines : List (List ℕ)) → AllByRecursion IsBytes lines → AllByRecursion (Lacks 10) lines → Told lines
tell [] bytes lacks = inl ([], tt)
tell (line ∷ rest) bytes lacks =
    let m = some_meaning line bytes.0 lacks.0 in
    first_line line rest m.0 m.1 (tell rest bytes.1 lacks.1)

refused : (text : List ℕ) (number : ℕ) (fault : Meaning) → IsBad fault → length (lines_of text) ≤ line_limit → FirstFault (lines_of text) number fault → (answer : Result (List Line) ScriptRefusal) × ReadsAs text answer
refused text number (Does d) bad few f = absurd bad
refused text number UnknownCommand bad few f = (Err (BadCommand number), (few, f))
refused text number WrongWords bad few f = (Err (BadWords number), (few, f))

answered : (text : List ℕ) → length (lines_of text) ≤ line_limit → Told (lines_of text) → (answer : Result (List Line) ScriptRefusal) × ReadsAs text answer
answered text few (inl good) = (Ok (numbered 1 good.0), (few, good.0, good.1, refl))
answered text few (inr f) = refused text f.0 f.1 f.2 few f.3

-- each text has an answer
pub some_answer : (text : List ℕ) → IsBytes text → (answer : Result (List Line) ScriptRefusal) × ReadsAs text answer
some_answer text bytes =
    elim (cases_lt line_limit (length (lines_of text))) [
      | inl many ↦ (Err (TooManyLines line_limit), (refl, many))
      | inr few ↦ answered text few (tell (lines_of text) (bytes_of_lines (λ b. b < 256) text bytes) (no_ends_by text))
    ]

-- ---- and no other

done : Meaning → Option Event
done (Does d) = d
done UnknownCommand = None
done WrongWords = None

Does-injective : (a b : Option Event) → Does a ≡ Does b → a ≡ b
unfolding done
Does-injective a b e = ap done e

same_does : (lines : List (List ℕ)) (a b : List (Option Event)) → Do lines a → Do lines b → a ≡ b
same_does [] [] [] ha hb = refl
same_does [] [] (y ∷ ys) ha hb = absurd hb
same_does [] (x ∷ xs) b ha hb = absurd ha
same_does (line ∷ lines) [] b ha hb = absurd ha
same_does (line ∷ lines) (x ∷ xs) [] ha hb = absurd hb
same_does (line ∷ lines) (x ∷ xs) (y ∷ ys) ha hb =
    ap (λ d. d ∷ xs) (Does-injective x y (one_meaning line (Does x) (Does y) ha.0 hb.0)) ∙ ap (λ ds. y ∷ ds) (same_does lines xs ys ha.1 hb.1)

good_or_bad : (line : List ℕ) (d : Option Event) (m : Meaning) → Means line (Does d) → Means line m → IsBad m → ⊥
good_or_bad line d m hd hm bad = subst IsBad (sym (one_meaning line (Does d) m hd hm)) bad

-- where all lines are good, none is bad
no_fault : (before : List (List ℕ)) (line : List ℕ) (after : List (List ℕ)) (does : List (Option Event)) (m : Meaning) → Do (before ++ line ∷ after) does → Means line m → IsBad m → ⊥
no_fault [] line after [] m h hm bad = h
no_fault [] line after (d ∷ does) m h hm bad = good_or_bad line d m h.0 hm bad
no_fault (other ∷ before) line after [] m h hm bad = h
no_fault (other ∷ before) line after (d ∷ does) m h hm bad = no_fault before line after does m h.1 hm bad

-- the first bad line stands at one place
same_fault : (b c : List (List ℕ)) (x y : List ℕ) (xs ys : List (List ℕ)) (d e : List (Option Event)) (m n : Meaning) → b ++ x ∷ xs ≡ c ++ y ∷ ys → Do b d → Do c e → Means x m → Means y n → IsBad m → IsBad n
    → (length b ≡ length c) × (m ≡ n)
same_fault [] [] x y xs ys d e m n is hb hc hm hn bm bn =
    let parts = heads x y xs ys is in
    (refl, one_meaning y m n (subst (λ l. Means l m) parts.0 hm) hn)
same_fault [] (z ∷ c) x y xs ys d [] m n is hb hc hm hn bm bn = absurd hc
same_fault [] (z ∷ c) x y xs ys d (g ∷ e) m n is hb hc hm hn bm bn =
    let parts = heads x z xs (c ++ y ∷ ys) is in
    absurd (good_or_bad z g m hc.0 (subst (λ l. Means l m) parts.0 hm) bm)
same_fault (z ∷ b) c x y xs ys [] e m n is hb hc hm hn bm bn = absurd hb
same_fault (z ∷ b) [] x y xs ys (g ∷ d) e m n is hb hc hm hn bm bn =
    let parts = heads z y (b ++ x ∷ xs) ys is in
    absurd (good_or_bad y g n (subst (λ l. Means l (Does g)) parts.0 hb.0) hn bn)
same_fault (z ∷ b) (w ∷ c) x y xs ys (g ∷ d) [] m n is hb hc hm hn bm bn = absurd hc
same_fault (z ∷ b) (w ∷ c) x y xs ys (g ∷ d) (h ∷ e) m n is hb hc hm hn bm bn =
    let parts = heads z w (b ++ x ∷ xs) (c ++ y ∷ ys) is in
    let ih = same_fault b c x y xs ys d e m n parts.1 hb.1 hc.1 hm hn bm bn in
    (ap suc ih.0, ih.1)

-- the refusal of a bad line
refusal_of : Meaning → ℕ → Result (List Line) ScriptRefusal
refusal_of (Does d) number = Err NoMemory
refusal_of UnknownCommand number = Err (BadCommand number)
refusal_of WrongWords number = Err (BadWords number)

-- an answer by its kind
data Kind (text : List ℕ) (answer : Result (List Line) ScriptRefusal) : Type 0 where
  many : line_limit < length (lines_of text) → answer ≡ Err (TooManyLines line_limit) → Kind text answer
  good : length (lines_of text) ≤ line_limit → (does : List (Option Event)) → Do (lines_of text) does → answer ≡ Ok (numbered 1 does) → Kind text answer
  fault : length (lines_of text) ≤ line_limit → (number : ℕ) (m : Meaning) → IsBad m → FirstFault (lines_of text) number m → answer ≡ refusal_of m number → Kind text answer

kind : (text : List ℕ) (answer : Result (List Line) ScriptRefusal) → ReadsAs text answer → Kind text answer
unfolding refusal_of
kind text (Ok script) h = good h.0 h.1 h.2 (ap Ok h.3)
kind text (Err (BadCommand number)) h = fault h.0 number UnknownCommand tt h.1 refl
kind text (Err (BadWords number)) h = fault h.0 number WrongWords tt h.1 refl
kind text (Err (TooManyLines limit)) h = many h.1 (ap (λ n. Err (TooManyLines n)) h.0)
kind text (Err NoMemory) h = absurd h

one_kind : (text : List ℕ) (a b : Result (List Line) ScriptRefusal) → Kind text a → Kind text b → a ≡ b
one_kind text a b (many h e) (many k f) = e ∙ sym f
one_kind text a b (many h e) (good k does d f) = absurd (omega arith)
one_kind text a b (many h e) (fault k number m bad first f) = absurd (omega arith)
one_kind text a b (good h does d e) (many k f) = absurd (omega arith)
one_kind text a b (good h does d e) (good k others o f) = e ∙ ap (λ ds. Ok (numbered 1 ds)) (same_does (lines_of text) does others d o) ∙ sym f
one_kind text a b (good h does d e) (fault k number m bad first f) =
    absurd (no_fault first.before first.line first.after does m (subst (λ ls. Do ls does) first.parts d) first.bad bad)
one_kind text a b (fault h number m bad first e) (many k f) = absurd (omega arith)
one_kind text a b (fault h number m bad first e) (good k does d f) =
    absurd (no_fault first.before first.line first.after does m (subst (λ ls. Do ls does) first.parts d) first.bad bad)
one_kind text a b (fault h i m bad first e) (fault k j n worse second f) =
    let same = same_fault first.before second.before first.line second.line first.after second.after first.does second.does m n (sym first.parts ∙ second.parts) first.good second.good first.bad second.bad bad worse in
    let numbers : i ≡ j = first.number_is ∙ ap (λ k. k + 1) same.0 ∙ sym second.number_is in
    e ∙ ap (λ x. refusal_of x i) same.1 ∙ ap (refusal_of n) numbers ∙ sym f

-- no text has two answers
pub one_answer : (text : List ℕ) (a b : Result (List Line) ScriptRefusal) → ReadsAs text a → ReadsAs text b → a ≡ b
one_answer text a b ha hb = one_kind text a b (kind text a ha) (kind text b hb)

-- ---- a text of events

do_events : (events : List Event) → All IsEvent events → Do (map spelled events) (map Some events)
do_events [] h = tt
do_events (event ∷ events) h = ((All-head IsEvent event events h, refl), do_events events (All-tail IsEvent event events h))

-- each list of events has a text
pub written : (events : List Event) → length events ≤ line_limit → All IsEvent events → ReadsAs (ended (map spelled events)) (Ok (numbered 1 (map Some events)))
written events few h =
    let lacks = All-map (Lacks 10) spelled events (All-weaker IsEvent (λ e. Lacks 10 (spelled e)) (λ e is. (spelled_line e is).1) events h) in
    let lines = lines_of-all_ended (map spelled events) lacks in
    let long : length (lines_of (ended (map spelled events))) ≤ line_limit = omega (arith, ap length lines, length-map events spelled) in
    (long, map Some events, subst (λ ls. Do ls (map Some events)) (sym lines) (do_events events h), refl)

-- ---- what a script holds

held : (lines : List (List ℕ)) (does : List (Option Event)) (number : ℕ) → Do lines does → AllByRecursion (λ line. IsEvent line.event) (numbered number does)
held [] [] number h = tt
held [] (d ∷ does) number h = absurd h
held (line ∷ lines) [] number h = absurd h
held (line ∷ lines) (None ∷ does) number h = held lines does (number + 1) h.1
held (line ∷ lines) (Some event ∷ does) number h = (h.0.0, held lines does (number + 1) h.1)

counted : (does : List (Option Event)) (number most : ℕ) → number + length does ≤ most + 1 → 1 ≤ number
    → AllByRecursion (λ line. (1 ≤ line.number) × (line.number ≤ most)) (numbered number does)
counted [] number most h low = tt
counted (None ∷ does) number most h low = counted does (number + 1) most (omega arith) (omega arith)
counted (Some event ∷ does) number most h low = ((low, omega arith), counted does (number + 1) most (omega arith) (omega arith))

length-numbered : (does : List (Option Event)) (number : ℕ) → length (numbered number does) ≤ length does
length-numbered [] number = omega arith
length-numbered (None ∷ does) number = let ih = length-numbered does (number + 1) in omega arith
length-numbered (Some event ∷ does) number = let ih = length-numbered does (number + 1) in omega arith

-- each event of a script can be spelled
pub events_hold : (text : List ℕ) (script : List Line) → ReadsAs text (Ok script) → All (λ line. IsEvent line.event) script
events_hold text script h =
    let each = All-from_recursion (λ line. IsEvent line.event) (numbered 1 h.1) (held (lines_of text) h.1 1 h.2) in
    subst (λ lines. All (λ (line : Line). IsEvent line.event) lines) (sym h.3) each

-- a script has no more events than a text has lines
pub few_events : (text : List ℕ) (script : List Line) → ReadsAs text (Ok script) → length script ≤ line_limit
few_events text script h = omega (arith, h.0, length-Do (lines_of text) h.1 h.2, length-numbered h.1 1, ap length h.3)

-- and their numbers are those of lines
pub numbers_hold : (text : List ℕ) (script : List Line) → ReadsAs text (Ok script) → All (λ line. (1 ≤ line.number) × (line.number ≤ line_limit)) script
numbers_hold text script h =
    let long : 1 + length h.1 ≤ line_limit + 1 = omega (arith, h.0, length-Do (lines_of text) h.1 h.2) in
    let each = All-from_recursion (λ line. (1 ≤ line.number) × (line.number ≤ line_limit)) (numbered 1 h.1) (counted h.1 1 line_limit long (omega arith)) in
    subst (λ lines. All (λ (line : Line). (1 ≤ line.number) × (line.number ≤ line_limit)) lines) (sym h.3) each
