-- The lines of a text, and the text of lines.
use Rattle.std.proofs.Common.{◌≡◌, ◌≢◌, ℕ, ◌<◌, Bool, true, false, eqb, cond, ◌⊎◌, inl, inr, List, [], ◌∷◌, ◌++◌, length, refl, sym, ap, subst, ◌∙◌, append_assoc, arith}
use Rattle.std.proofs.lemmas.Bool.Decides.{nat_tests}
use Rattle.std.proofs.lemmas.Bool.{eqb-true}
use Rattle.std.proofs.lemmas.List.Elements.{All-nil, All-cons, All-head, All-tail, All-from_recursion}
use Rattle.std.specs.List.{All, AllByRecursion, onto_first}
use Rattle.mt_script.specs.Lines.{Lacks, ended, lines_of}
use Rattle.mt_script.proofs.Cutting.{lines_of-ended, lines_of-last}

-- what holds of the empty line and of one byte more before a line, where the byte is not 10, holds of each line
pub each_part : (Q : List ℕ → Type 0) (b : Bool) (x : ℕ) (parts : List (List ℕ)) → Q [] → (b ≡ false → (l : List ℕ) → Q l → Q (x ∷ l)) → AllByRecursion Q parts → AllByRecursion Q (cond b ([] ∷ parts) (onto_first x parts))
each_part Q true x parts none more h = (none, h)
each_part Q false x [] none more h = (more refl [] none, tt)
each_part Q false x (part ∷ parts) none more h = (more refl part h.0, h.1)

pub other_byte : (x byte : ℕ) → eqb x byte ≡ false → x ≢ byte
other_byte x byte h e = grind (arith, nat_tests)

pub no_ends_by : (text : List ℕ) → AllByRecursion (Lacks 10) (lines_of text)
no_ends_by [] = tt
no_ends_by (x ∷ xs) =
    each_part (Lacks 10) (eqb x 10) x (lines_of xs) (All-nil (λ b. b ≢ 10)) (λ other l h. All-cons (λ b. b ≢ 10) x l (other_byte x 10 other) h) (no_ends_by xs)

-- no line has a byte 10
pub no_ends : (text : List ℕ) → All (Lacks 10) (lines_of text)
no_ends text = All-from_recursion (Lacks 10) (lines_of text) (no_ends_by text)

-- each byte of each line is one of the text
pub bytes_of_lines : (P : ℕ → Type 0) (text : List ℕ) → All P text → AllByRecursion (All P) (lines_of text)
bytes_of_lines P [] h = tt
bytes_of_lines P (x ∷ xs) h =
    each_part (All P) (eqb x 10) x (lines_of xs) (All-nil P) (λ other l tail. All-cons P x l (All-head P x xs h) tail) (bytes_of_lines P xs (All-tail P x xs h))

abbrev Whole : List (List ℕ) → List ℕ → Type 0
Whole lines text = (ended lines ≡ text) ⊎ (ended lines ≡ text ++ 10 ∷ [])

one_byte_more : (x : ℕ) (parts : List (List ℕ)) (xs : List ℕ) → Whole parts xs → Whole (onto_first x parts) (x ∷ xs)
one_byte_more x [] [] h = inr refl
one_byte_more x [] (y ∷ ys) (inl e) = cc
one_byte_more x [] (y ∷ ys) (inr e) = cc
one_byte_more x (part ∷ parts) xs (inl e) = inl (ap (λ t. x ∷ t) e)
one_byte_more x (part ∷ parts) xs (inr e) = inr (ap (λ t. x ∷ t) e)

one_end_more : (parts : List (List ℕ)) (xs : List ℕ) → Whole parts xs → Whole ([] ∷ parts) (10 ∷ xs)
one_end_more parts xs (inl e) = inl (ap (λ t. 10 ∷ t) e)
one_end_more parts xs (inr e) = inr (ap (λ t. 10 ∷ t) e)

whole_part : (b : Bool) (x : ℕ) (parts : List (List ℕ)) (xs : List ℕ) → eqb x 10 ≡ b → Whole parts xs → Whole (cond b ([] ∷ parts) (onto_first x parts)) (x ∷ xs)
whole_part true x parts xs h w = subst (λ y. Whole ([] ∷ parts) (y ∷ xs)) (sym (eqb-true x 10 h)) (one_end_more parts xs w)
whole_part false x parts xs h w = one_byte_more x parts xs w

-- the lines with a byte 10 behind each are the text, or the text with one more
pub whole : (text : List ℕ) → Whole (lines_of text) text
whole [] = inl refl
whole (x ∷ xs) = whole_part (eqb x 10) x (lines_of xs) xs refl (whole xs)

-- lines are the lines of their text
pub lines_of-all_ended : (lines : List (List ℕ)) → All (Lacks 10) lines → lines_of (ended lines) ≡ lines
lines_of-all_ended [] h = refl
lines_of-all_ended (line ∷ lines) h =
    lines_of-ended line (ended lines) (All-head (Lacks 10) line lines h) ∙ ap (λ ls. line ∷ ls) (lines_of-all_ended lines (All-tail (Lacks 10) line lines h))

last_line : (last : List ℕ) → Lacks 10 last → 0 < length last → lines_of last ≡ last ∷ []
last_line [] h some = absurd (omega arith)
last_line (x ∷ xs) h some = lines_of-last x xs h

-- also where the last one isn't ended
pub lines_of-with_last : (lines : List (List ℕ)) (last : List ℕ) → All (Lacks 10) lines → Lacks 10 last → 0 < length last → lines_of (ended lines ++ last) ≡ lines ++ last ∷ []
lines_of-with_last [] last h lacks some = last_line last lacks some
lines_of-with_last (line ∷ lines) last h lacks some =
    ap lines_of (append_assoc line (10 ∷ ended lines) last)
    ∙ lines_of-ended line (ended lines ++ last) (All-head (Lacks 10) line lines h)
    ∙ ap (λ ls. line ∷ ls) (lines_of-with_last lines last (All-tail (Lacks 10) line lines h) lacks some)
