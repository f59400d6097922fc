-- Each text has exactly one answer.
use Rattle.std.proofs.Common.{◌≡◌, ℕ, suc, ◌≤◌, ◌+◌, ◌⊎◌, inl, inr, List, [], ◌∷◌, ◌++◌, length, map, All, Option, Some, None, Result, Ok, Err, refl, sym, ap, ◌∙◌, arith}
use Rattle.std.proofs.lemmas.Bool.{cases_lt}
use Rattle.std.proofs.lemmas.List.{length-map}
use Rattle.std.proofs.lemmas.List.Elements.{All-nil, All-cons, All-head, All-tail, All-weaker, All-map}
use Rattle.mt_base.proofs.Lists.{heads}
use Rattle.mt_script.specs.Lines.{Lacks, ended, lines_of}
use Rattle.mt_script.specs.Meaning.{line_limit}
use Rattle.mt_script.proofs.LineLaws.{lines_of-all_ended}
use Rattle.capture_check.specs.declared.entry.Entry.{Entry}
use Rattle.capture_check.specs.declared.entry.CaptureRefusal.{CaptureRefusal}
use Rattle.capture_check.specs.declared.entry.CaptureRefusal.TheVariants.{BadLine, TooManyLines, NoMemory}
use Rattle.capture_check.specs.Spelling.{spelled, IsEntry}
use Rattle.capture_check.specs.Meaning.{Tells, FirstBad, ReadsAs}
use Rattle.capture_check.proofs.ReadBack.{spelled-injective, spelled_line, tell_line}

-- ---- an answer

-- all lines are entries, or there is a first that is none
abbrev Told : List (List ℕ) → Type 0
Told lines = ((entries : List Entry) × All IsEntry entries × (lines ≡ map spelled entries)) ⊎ ((number : ℕ) × FirstBad lines number)

one_more : (line : List ℕ) (rest : List (List ℕ)) (entry : Entry) → Tells line (Some entry) → Told rest → Told (line ∷ rest)
one_more line rest entry h (inl good) =
    inl (entry ∷ good.0, All-cons IsEntry entry good.0 h.0 good.1, ap (λ l. l ∷ rest) h.1 ∙ ap (λ ls. spelled entry ∷ ls) good.2)
one_more line rest entry h (inr f) =
    let place = f.1.number_is in
    inr (
      f.0 + 1,
      record {
        before = entry ∷ f.1.before;
        line = f.1.line;
        after = f.1.after;
        good = All-cons IsEntry entry f.1.before h.0 f.1.good;
        parts = ap (λ l. l ∷ rest) h.1 ∙ ap (λ ls. spelled entry ∷ ls) f.1.parts;
        bad = f.1.bad;
        number_is = omega arith;
      },
    )

first_line : (line : List ℕ) (rest : List (List ℕ)) (o : Option Entry) → Tells line o → Told rest → Told (line ∷ rest)
first_line line rest (Some entry) h told = one_more line rest entry h told
first_line line rest None h told =
    inr (1, record { before = []; line = line; after = rest; good = All-nil IsEntry; parts = refl; bad = h; number_is = refl })

tell : (lines : List (List ℕ)) → Told lines
tell [] = inl ([], All-nil IsEntry, refl)
tell (line ∷ rest) = let o = tell_line line in first_line line rest o.0 o.1 (tell rest)

answered : (text : List ℕ) → length (lines_of text) ≤ line_limit → Told (lines_of text) → (answer : Result (List Entry) CaptureRefusal) × ReadsAs text answer
answered text few (inl good) = (Ok good.0, (few, good.1, good.2))
answered text few (inr f) = (Err (BadLine f.0), (few, f.1))

-- each text has an answer
pub some_answer : (text : List ℕ) → (answer : Result (List Entry) CaptureRefusal) × ReadsAs text answer
some_answer text =
    elim (cases_lt line_limit (length (lines_of text))) [
      | inl many ↦ (Err (TooManyLines line_limit), (refl, many))
      | inr few ↦ answered text few (tell (lines_of text))
    ]

-- ---- and no other

same_entries : (a b : List Entry) → All IsEntry a → All IsEntry b → map spelled a ≡ map spelled b → a ≡ b
same_entries [] [] ha hb e = refl
same_entries [] (y ∷ ys) ha hb e = cc
same_entries (x ∷ xs) [] ha hb e = cc
same_entries (x ∷ xs) (y ∷ ys) ha hb e =
    let parts = heads (spelled x) (spelled y) (map spelled xs) (map spelled ys) e in
    ap (λ z. z ∷ xs) (spelled-injective x y (All-head IsEntry x xs ha) (All-head IsEntry y ys hb) parts.0)
    ∙ ap (λ zs. y ∷ zs) (same_entries xs ys (All-tail IsEntry x xs ha) (All-tail IsEntry y ys hb) parts.1)

-- where all lines are entries, each is
no_bad : (entries before : List Entry) (line : List ℕ) (after : List (List ℕ)) → All IsEntry entries → map spelled entries ≡ map spelled before ++ line ∷ after → Tells line None → ⊥
no_bad [] [] line after h e bad = cc
no_bad [] (b ∷ before) line after h e bad = cc
no_bad (x ∷ xs) [] line after h e bad =
    let parts = heads (spelled x) line (map spelled xs) after e in
    bad x (All-head IsEntry x xs h) (sym parts.0)
no_bad (x ∷ xs) (b ∷ before) line after h e bad =
    let parts = heads (spelled x) (spelled b) (map spelled xs) (map spelled before ++ line ∷ after) e in
    no_bad xs before line after (All-tail IsEntry x xs h) parts.1 bad

-- the first line that is none stands at one place
same_place : (a b : List Entry) (x y : List ℕ) (xs ys : List (List ℕ)) → All IsEntry a → All IsEntry b → map spelled a ++ x ∷ xs ≡ map spelled b ++ y ∷ ys → Tells x None → Tells y None
    → length a ≡ length b
same_place [] [] x y xs ys ha hb e bx by = refl
same_place [] (b ∷ bs) x y xs ys ha hb e bx by =
    let parts = heads x (spelled b) xs (map spelled bs ++ y ∷ ys) e in
    absurd (bx b (All-head IsEntry b bs hb) parts.0)
same_place (a ∷ as_) [] x y xs ys ha hb e bx by =
    let parts = heads (spelled a) y (map spelled as_ ++ x ∷ xs) ys e in
    absurd (by a (All-head IsEntry a as_ ha) (sym parts.0))
same_place (a ∷ as_) (b ∷ bs) x y xs ys ha hb e bx by =
    let parts = heads (spelled a) (spelled b) (map spelled as_ ++ x ∷ xs) (map spelled bs ++ y ∷ ys) e in
    ap suc (same_place as_ bs x y xs ys (All-tail IsEntry a as_ ha) (All-tail IsEntry b bs hb) parts.1 bx by)

-- no text has two answers
pub one_answer : (text : List ℕ) (a b : Result (List Entry) CaptureRefusal) → ReadsAs text a → ReadsAs text b → a ≡ b
one_answer text (Ok a) (Ok b) ha hb = ap Ok (same_entries a b ha.1 hb.1 (sym ha.2 ∙ hb.2))
one_answer text (Ok a) (Err (BadLine n)) ha hb = absurd (no_bad a hb.1.before hb.1.line hb.1.after ha.1 (sym ha.2 ∙ hb.1.parts) hb.1.bad)
one_answer text (Ok a) (Err (TooManyLines l)) ha hb = absurd (omega (arith, ha.0, hb.1))
one_answer text (Ok a) (Err NoMemory) ha hb = absurd hb
one_answer text (Err (BadLine n)) (Ok b) ha hb = absurd (no_bad b ha.1.before ha.1.line ha.1.after hb.1 (sym hb.2 ∙ ha.1.parts) ha.1.bad)
one_answer text (Err (BadLine n)) (Err (BadLine m)) ha hb =
    let one = ha.1 in
    let other = hb.1 in
    let place = same_place one.before other.before one.line other.line one.after other.after one.good other.good (sym one.parts ∙ other.parts) one.bad other.bad in
    ap (λ k. Err (BadLine k)) (one.number_is ∙ ap (λ k. k + 1) place ∙ sym other.number_is)
one_answer text (Err (BadLine n)) (Err (TooManyLines l)) ha hb = absurd (omega (arith, ha.0, hb.1))
one_answer text (Err (BadLine n)) (Err NoMemory) ha hb = absurd hb
one_answer text (Err (TooManyLines l)) (Ok b) ha hb = absurd (omega (arith, ha.1, hb.0))
one_answer text (Err (TooManyLines l)) (Err (BadLine n)) ha hb = absurd (omega (arith, ha.1, hb.0))
one_answer text (Err (TooManyLines l)) (Err (TooManyLines k)) ha hb = ap (λ n. Err (TooManyLines n)) (ha.0 ∙ sym hb.0)
one_answer text (Err (TooManyLines l)) (Err NoMemory) ha hb = absurd hb
one_answer text (Err NoMemory) b ha hb = absurd ha

-- ---- a text of entries

-- each list of entries has a text
pub written : (entries : List Entry) → length entries ≤ line_limit → All IsEntry entries → ReadsAs (ended (map spelled entries)) (Ok entries)
written entries few h =
    let lacks = All-map (Lacks 10) spelled entries (All-weaker IsEntry (λ e. Lacks 10 (spelled e)) (λ e is. (spelled_line e is).1) entries h) in
    let lines = lines_of-all_ended (map spelled entries) lacks in
    (omega (arith, ap length lines, length-map entries spelled), h, lines)
