-- The flags of a coded vector, put one by one.
use Rattle.std.proofs.Common.{◌≡◌, ℕ, ◌+◌, Bool, List, [], ◌∷◌, ◌++◌, flat_map, refl, sym, ap, ◌∙◌, append-nil, append_assoc}
use Rattle.std.specs.List.{enumerate_from}
use Rattle.mt_show.specs.SecondWords.{flag_letter, flags_word}
use Rattle.mt_show.specs.Steps.{Adds}
use Rattle.mt_show.proofs.Joining.{more}

-- the letters of flags that have numbers
abbrev pub letters : List (ℕ × Bool) → List ℕ
letters [] = []
letters (x ∷ xs) = flag_letter x.1 ++ letters xs

letters-push : (xs : List (ℕ × Bool)) (x : ℕ × Bool) → letters (xs ++ x ∷ []) ≡ letters xs ++ flag_letter x.1
letters-push [] x = append-nil (flag_letter x.1)
letters-push (y ∷ ys) x = ap (λ t. flag_letter y.1 ++ t) (letters-push ys x) ∙ sym (append_assoc (flag_letter y.1) (letters ys) (flag_letter x.1))

letters-numbered : (n : ℕ) (flags : List Bool) → letters (enumerate_from n flags) ≡ flat_map flag_letter flags
letters-numbered n [] = refl
letters-numbered n (flag ∷ flags) = ap (λ t. flag_letter flag ++ t) (letters-numbered (n + 1) flags)

-- one more letter
pub one_more_flag : (xs : List (ℕ × Bool)) (x : ℕ × Bool) (old mid new : List ℕ) → Adds (letters xs) old mid → Adds (flag_letter x.1) mid new → Adds (letters (xs ++ x ∷ [])) old new
one_more_flag xs x old mid new first last = more (letters xs) (flag_letter x.1) old mid new first last ∙ ap (λ t. old ++ t) (sym (letters-push xs x))

not_none : (flags : List Bool) (x : ℕ × Bool) (xs : List (ℕ × Bool)) → enumerate_from 0 flags ≡ x ∷ xs → flags_word flags ≡ flat_map flag_letter flags
not_none [] x xs is = cc
not_none (flag ∷ flags) x xs is = refl

-- the first flag, and the others behind it
pub flags_put : (flags : List Bool) (x : ℕ × Bool) (xs : List (ℕ × Bool)) (old mid new : List ℕ) → enumerate_from 0 flags ≡ x ∷ xs → Adds (flag_letter x.1) old mid → Adds (letters xs) mid new → Adds (flags_word flags) old new
flags_put flags x xs old mid new is one others =
    more (flag_letter x.1) (letters xs) old mid new one others
    ∙ ap (λ t. old ++ t) (sym (ap letters is) ∙ letters-numbered 0 flags ∙ sym (not_none flags x xs is))
