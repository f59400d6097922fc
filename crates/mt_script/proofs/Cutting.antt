-- A text cut at a byte: the words of a line, and the lines of a text.
use Rattle.std.proofs.Common.{◌≡◌, ◌≢◌, ℕ, suc, ◌<◌, ◌≤◌, ◌+◌, subst, length, Bool, true, false, eqb, cond, List, [], ◌∷◌, ◌++◌, Option, Some, None, refl, ap, ◌∙◌, arith}
use Rattle.std.proofs.lemmas.Bool.Decides.{nat_tests}
use Rattle.std.proofs.lemmas.List.Elements.{All-weaker, All-head, All-tail}
use Rattle.std.proofs.lemmas.List.Splits.{slice_split_none, slice_split_at}
use Rattle.std.specs.List.{All, onto_first}
use Rattle.std.specs.Borrow.{Bor}
use Rattle.mt_script.specs.Lines.{lines_of, Lacks}
use Rattle.mt_script.specs.Reading.{IsCut, split_at_blanks, words_in}

not_equal : (x byte : ℕ) → x ≢ byte → eqb x byte ≡ false
not_equal x byte h = grind (arith, nat_tests)

-- where a byte is lacking, no byte passes the test that it is this one
pub none_passes : (byte : ℕ) (xs : List ℕ) → Lacks byte xs → All (λ x. eqb x byte ≡ false) xs
none_passes byte xs h = All-weaker (λ x. x ≢ byte) (λ x. eqb x byte ≡ false) (λ x. not_equal x byte) xs h

-- a line whose first word was cut off has that word and those of the rest
pub words_cut : (text front : List ℕ) (rest : Option (Bor (List ℕ))) → IsCut 32 text front rest → split_at_blanks text ≡ front ∷ words_in rest
words_cut text front None c = ap split_at_blanks c.1 ∙ slice_split_none (λ x. eqb x 32) front (none_passes 32 front c.0)
words_cut text front (Some rest) c = ap split_at_blanks c.1 ∙ slice_split_at (λ x. eqb x 32) front 32 rest.now (none_passes 32 front c.0) refl

onto_some : (x : ℕ) (parts : List (List ℕ)) → onto_first x parts ≢ []
onto_some x [] = λ e. cc
onto_some x (part ∷ parts) = λ e. cc

cond_some : (b : Bool) (x y : List (List ℕ)) → x ≢ [] → y ≢ [] → cond b x y ≢ []
cond_some true x y h k = h
cond_some false x y h k = k

-- each line has a word, if an empty one
pub words_some : (text : List ℕ) → split_at_blanks text ≢ []
words_some [] = λ e. cc
words_some (x ∷ xs) = cond_some (eqb x 32) ([] ∷ split_at_blanks xs) (onto_first x (split_at_blanks xs)) (λ e. cc) (onto_some x (split_at_blanks xs))

-- the front of a cut has no such byte
pub front_lacks : (byte : ℕ) (text front : List ℕ) (rest : Option (Bor (List ℕ))) → IsCut byte text front rest → Lacks byte front
front_lacks byte text front None c = c.0
front_lacks byte text front (Some rest) c = c.0

pub when_false : (b : Bool) (x y : List (List ℕ)) → b ≡ false → cond b x y ≡ y
when_false true x y h = cc
when_false false x y h = refl

-- a line that a byte 10 ends
pub lines_of-ended : (front rest : List ℕ) → Lacks 10 front → lines_of (front ++ 10 ∷ rest) ≡ front ∷ lines_of rest
lines_of-ended [] rest h = refl
lines_of-ended (x ∷ xs) rest h =
    let other = not_equal x 10 (All-head (λ b. b ≢ 10) x xs h) in
    when_false (eqb x 10) ([] ∷ lines_of (xs ++ 10 ∷ rest)) (onto_first x (lines_of (xs ++ 10 ∷ rest))) other
    ∙ ap (onto_first x) (lines_of-ended xs rest (All-tail (λ b. b ≢ 10) x xs h))

-- a last line that nothing ends
pub lines_of-last : (x : ℕ) (xs : List ℕ) → Lacks 10 (x ∷ xs) → lines_of (x ∷ xs) ≡ (x ∷ xs) ∷ []
lines_of-last x [] h = when_false (eqb x 10) ([] ∷ []) ((x ∷ []) ∷ []) (not_equal x 10 (All-head (λ b. b ≢ 10) x [] h))
lines_of-last x (y ∷ ys) h =
    let other = not_equal x 10 (All-head (λ b. b ≢ 10) x (y ∷ ys) h) in
    when_false (eqb x 10) ([] ∷ lines_of (y ∷ ys)) (onto_first x (lines_of (y ∷ ys))) other
    ∙ ap (onto_first x) (lines_of-last y ys (All-tail (λ b. b ≢ 10) x (y ∷ ys) h))

-- the lines of a text whose first line was cut off
pub lines_cut : (text front : List ℕ) (o : Option (Bor (List ℕ))) (rest : Bor (List ℕ)) → o ≡ Some rest → IsCut 10 text front o → lines_of text ≡ front ∷ lines_of rest.now
lines_cut text front o rest is cut =
    let c = subst (IsCut 10 text front) is cut in
    ap lines_of c.1 ∙ lines_of-ended front rest.now c.0

one_line : (front : List ℕ) → Lacks 10 front → 0 < length front → lines_of front ≡ front ∷ []
one_line [] h some = absurd (omega arith)
one_line (x ∷ xs) h some = lines_of-last x xs h

pub lines_end : (text front : List ℕ) (o : Option (Bor (List ℕ))) → o ≡ None → IsCut 10 text front o → 0 < length text → lines_of text ≡ front ∷ []
lines_end text front o is cut some =
    let c = subst (IsCut 10 text front) is cut in
    let long : 0 < length front = subst (λ t. 0 < length t) c.1 some in
    ap lines_of c.1 ∙ one_line front c.0 long

length-onto_first : (x : ℕ) (parts : List (List ℕ)) → length (onto_first x parts) ≤ length parts + 1
length-onto_first x [] = omega arith
length-onto_first x (part ∷ parts) = omega arith

few_lines : (b : Bool) (x : ℕ) (parts : List (List ℕ)) (n : ℕ) → length parts ≤ n → length (cond b ([] ∷ parts) (onto_first x parts)) ≤ suc n
few_lines true x parts n h = omega arith
few_lines false x parts n h = omega (arith, length-onto_first x parts)

-- a text has no more lines than bytes
pub length-lines_of : (text : List ℕ) → length (lines_of text) ≤ length text
length-lines_of [] = omega arith
length-lines_of (x ∷ xs) = few_lines (eqb x 10) x (lines_of xs) (length xs) (length-lines_of xs)
