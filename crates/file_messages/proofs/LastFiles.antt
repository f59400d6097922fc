-- Lemmas on the files that are kept.
use Rattle.std.proofs.Common.{◌≡◌, ◌≢◌, suc, Bool, true, false, cond, List, [], ◌∷◌, ◌++◌, All, refl, sym, ap, ◌∙◌, subst, arith}
use Rattle.std.specs.Prelude.{AllPairs, Contains, ◌||◌}
use Rattle.std.specs.List.{list_any}
use Rattle.std.proofs.lemmas.Slice.Eq.{bytes_eq-Decides}
use Rattle.std.proofs.lemmas.List.Folds.{list_any_none}
use Rattle.std.proofs.lemmas.List.Elements.{All-cons, All-nil, All-head, All-tail, All-weaker}
use Rattle.std.proofs.lemmas.List.Kept.{AllPairs-cons}
use Rattle.file_messages.specs.Files.{File}
use Rattle.file_messages.specs.Kept.{is_named, kept_after, IsLast}

abbrev Differs : File → File → Type 0
Differs a b = a.name ≢ b.name

-- a test that no file passes
none_named : (a : File) (fs : List File) → list_any (is_named a.name) fs ≡ false → All (Differs a) fs
none_named a [] h = All-nil (Differs a)
none_named a (f ∷ fs) h = by (is_named a.name f) refl h (none_named a fs)
  where
    by : (b : Bool) → is_named a.name f ≡ b → (b || list_any (is_named a.name) fs) ≡ false → (list_any (is_named a.name) fs ≡ false → All (Differs a) fs) → All (Differs a) (f ∷ fs)
    by true is e others = cc
    by false is e others = All-cons (Differs a) f fs (λ same. let yes : is_named a.name f ≡ true = (bytes_eq-Decides a.name f.name).1 same in let both : false ≡ true = sym is ∙ yes in cc) (others e)

no_test : (b : Bool) → (b ≡ true → ⊥) → b ≡ false
no_test true h = absurd (h refl)
no_test false h = refl

named_none : (a : File) (fs : List File) → All (Differs a) fs → list_any (is_named a.name) fs ≡ false
named_none a fs all = list_any_none (is_named a.name) fs (All-weaker (Differs a) (λ f. is_named a.name f ≡ false) (λ f d. no_test (is_named a.name f) (λ yes. d ((bytes_eq-Decides a.name f.name).0 yes))) fs all)

-- what holds of all files holds of those that are kept
kept_all : (P : File → Type 0) (fs : List File) → All P fs → All P (kept_after fs)
kept_all P [] all = all
kept_all P (f ∷ fs) all = by (list_any (is_named f.name) fs) (kept_all P fs (All-tail P f fs all))
  where
    by : (b : Bool) → All P (kept_after fs) → All P (cond b (kept_after fs) (f ∷ kept_after fs))
    by true others = others
    by false others = All-cons P f (kept_after fs) (All-head P f fs all) others

pub once : (fs : List File) → AllPairs (λ (a b : File). a.name ≢ b.name) (kept_after fs)
once [] = λ i j d a l. absurd (omega (arith, l))
once (f ∷ fs) = by (list_any (is_named f.name) fs) refl (once fs)
  where
    by : (b : Bool) → list_any (is_named f.name) fs ≡ b → AllPairs Differs (kept_after fs) → AllPairs Differs (cond b (kept_after fs) (f ∷ kept_after fs))
    by true is others = others
    by false is others = AllPairs-cons Differs f (kept_after fs) (kept_all (Differs f) fs (none_named f fs is)) others

last_behind : (f : File) (fs : List File) (g : File) → IsLast fs g → IsLast (f ∷ fs) g
last_behind f fs g l = record { before = f ∷ l.before; behind = l.behind; files_are = ap (λ t. f ∷ t) l.files_are; none_behind = l.none_behind }

pub all_last : (fs : List File) → All (IsLast fs) (kept_after fs)
all_last [] = All-nil (IsLast [])
all_last (f ∷ fs) = by (list_any (is_named f.name) fs) refl (All-weaker (IsLast fs) (IsLast (f ∷ fs)) (last_behind f fs) (kept_after fs) (all_last fs))
  where
    by : (b : Bool) → list_any (is_named f.name) fs ≡ b → All (IsLast (f ∷ fs)) (kept_after fs) → All (IsLast (f ∷ fs)) (cond b (kept_after fs) (f ∷ kept_after fs))
    by true is others = others
    by false is others = All-cons (IsLast (f ∷ fs)) f (kept_after fs) (record { before = []; behind = fs; files_are = refl; none_behind = none_named f fs is }) others

contains_first : (f : File) (fs : List File) → Contains (f ∷ fs) f
contains_first f fs = (0, omega arith, refl)

contains_more : (f g : File) (fs : List File) → Contains fs g → Contains (f ∷ fs) g
contains_more f g fs h = let few = h.1 in (suc h.0, omega (arith, few), h.2)

kept_at : (before behind : List File) (f : File) → All (Differs f) behind → Contains (kept_after (before ++ (f ∷ behind))) f
kept_at [] behind f none = subst (λ b. Contains (cond b (kept_after behind) (f ∷ kept_after behind)) f) (sym (named_none f behind none)) (contains_first f (kept_after behind))
kept_at (g ∷ before) behind f none = by (list_any (is_named g.name) (before ++ (f ∷ behind))) (kept_at before behind f none)
  where
    by : (b : Bool) → Contains (kept_after (before ++ (f ∷ behind))) f → Contains (cond b (kept_after (before ++ (f ∷ behind))) (g ∷ kept_after (before ++ (f ∷ behind)))) f
    by true others = others
    by false others = contains_more g f (kept_after (before ++ (f ∷ behind))) others

pub last_kept : (fs : List File) (f : File) → IsLast fs f → Contains (kept_after fs) f
last_kept fs f l = subst (λ t. Contains (kept_after t) f) (sym l.files_are) (kept_at l.before l.behind f l.none_behind)
