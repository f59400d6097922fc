-- Lemmas on a list of files by name.
use Rattle.std.proofs.Common.{append-nil, option_map, ◌≡◌, ℕ, ◌+◌, suc, Bool, true, false, cond, List, [], ◌∷◌, ◌++◌, get_or, set, map, Option, Some, None, refl, sym, ap, ◌∙◌, subst, arith, inl, inr}
use Rattle.std.proofs.Math.Path.{fun_ext}
use Rattle.std.specs.List.{position_from}
use Rattle.std.specs.Str.{bytes_eq}
use Rattle.std.proofs.lemmas.Bool.{cases_Bool, both_ways}
use Rattle.std.proofs.lemmas.Slice.Eq.{bytes_eq-Decides}
use Rattle.mt_outside.specs.Files.{Contents, grown, file_of, changed, replaced}

-- texts that the test finds equal are one, and a text is equal to itself
pub same : (a b : List ℕ) → bytes_eq a b ≡ true → a ≡ b
same a b e = (bytes_eq-Decides a b).0 e

pub itself : (a : List ℕ) → bytes_eq a a ≡ true
itself a = (bytes_eq-Decides a a).1 refl

-- the first element that passes the test stands at this index
pub data First {X : Type 0} (test : X → Bool) : List X → ℕ → Type 0 where
  here : {x : X} {xs : List X} → test x ≡ true → First test (x ∷ xs) 0
  later : {x : X} {xs : List X} {i : ℕ} → test x ≡ false → First test xs i → First test (x ∷ xs) (suc i)

-- what is found from a start on is the first that passes
pub found_from : {X : Type 0} (test : X → Bool) (xs : List X) (start at : ℕ) → position_from test start xs ≡ Some at → (i : ℕ) × (at ≡ start + i) × First test xs i
found_from test [] start at found = cc
found_from test (x ∷ xs) start at found =
    elim (cases_Bool (test x)) [
      | inl passes ↦
          let here_found : Some start ≡ Some at = subst (λ b. cond b (Some start) (position_from test (start + 1) xs) ≡ Some at) passes found in
          (0, (let e : at ≡ start = cc in omega (arith, e)), here passes)
      | inr fails ↦
          let rest = found_from test xs (start + 1) at (subst (λ b. cond b (Some start) (position_from test (start + 1) xs) ≡ Some at) fails found) in
          (suc rest.0, omega (arith, rest.1), later fails rest.2)
    ]

-- where no name is both, it is one whether a file is changed before or behind another
apart : (a b : Bool) (g : Option (List ℕ) → Option (List ℕ)) (x f : Option (List ℕ)) → (a ≡ true → b ≡ true → ⊥) → cond a x (cond b (g f) f) ≡ cond b (g (cond a x f)) (cond a x f)
apart true true g x f never = absurd (never refl refl)
apart true false g x f never = refl
apart false true g x f never = refl
apart false false g x f never = refl

-- a file that has the name is changed in its place
in_place : (b : Bool) (g : Option (List ℕ) → Option (List ℕ)) (y x f : Option (List ℕ)) → y ≡ g x → cond b y f ≡ cond b (g (cond b x f)) (cond b x f)
in_place true g y x f made = made
in_place false g y x f made = refl

-- nothing behind a file changes nothing
nothing_more : (b : Bool) (f : Option (List ℕ)) → cond b (option_map (λ content. content ++ []) f) f ≡ f
nothing_more true None = refl
nothing_more true (Some content) = ap Some (append-nil content)
nothing_more false f = refl

-- where there is no file it isn't the first one either
no_here : (b : Bool) (x : List ℕ) (f : Option (List ℕ)) → cond b (Some x) f ≡ None → (b ≡ false) × (f ≡ None)
no_here true x f none = cc
no_here false x f none = (refl, none)

-- a name that isn't that of a file is not looked for at both
never_both : (mine name other : List ℕ) → bytes_eq mine name ≡ false → bytes_eq mine other ≡ true → bytes_eq name other ≡ true → ⊥
never_both mine name other differs a b =
    both_ways (bytes_eq mine name) differs (ap (λ t. bytes_eq mine t) (same name other b) ∙ a)

module _ {X : Type 0} (shown : X → List ℕ × List ℕ) (name : List ℕ) where
  abbrev is_named : X → Bool
  is_named x = bytes_eq (shown x).0 name

  -- the file that is found has these bytes
  pub found_file : (xs : List X) (i : ℕ) (d : X) → First is_named xs i → file_of (map shown xs) name ≡ Some (shown (get_or xs i d)).1
  found_file xs i d (here {x} {xs = rest} passes) = ap (λ b. cond b (Some (shown x).1) (file_of (map shown rest) name)) passes
  found_file xs i d (later {x} {xs = rest} {i = j} fails first) = ap (λ b. cond b (Some (shown x).1) (file_of (map shown rest) name)) fails ∙ found_file rest j d first

  -- where none is found there is no file
  pub no_file : (xs : List X) (start : ℕ) → position_from is_named start xs ≡ None → file_of (map shown xs) name ≡ None
  no_file [] start none = refl
  no_file (x ∷ xs) start none =
      elim (cases_Bool (is_named x)) [
        | inl passes ↦ (let h : Some start ≡ None = subst (λ b. cond b (Some start) (position_from is_named (start + 1) xs) ≡ None) passes none in cc)
        | inr fails ↦ ap (λ b. cond b (Some (shown x).1) (file_of (map shown xs) name)) fails ∙ no_file xs (start + 1) (subst (λ b. cond b (Some start) (position_from is_named (start + 1) xs) ≡ None) fails none)
      ]

  -- the file that is found is changed in its place
  pub found_changed : (g : Option (List ℕ) → Option (List ℕ)) (y : X) (xs : List X) (i : ℕ) (d : X) → First is_named xs i → (shown y).0 ≡ (shown (get_or xs i d)).0 → Some (shown y).1 ≡ g (Some (shown (get_or xs i d)).1)
      → (other : List ℕ) → file_of (map shown (set xs i y)) other ≡ changed g name (file_of (map shown xs)) other
  found_changed g y xs i d (here {x} {xs = rest} passes) titled made other =
      let mine : (shown x).0 ≡ name = same (shown x).0 name passes in
      let f = file_of (map shown rest) other in
      ap (λ t. cond (bytes_eq t other) (Some (shown y).1) f) (titled ∙ mine)
      ∙ in_place (bytes_eq name other) g (Some (shown y).1) (Some (shown x).1) f made
      ∙ ap (λ t. cond (bytes_eq name other) (g (cond (bytes_eq t other) (Some (shown x).1) f)) (cond (bytes_eq t other) (Some (shown x).1) f)) (sym mine)
  found_changed g y xs i d (later {x} {xs = rest} {i = j} fails first) titled made other =
      let f = file_of (map shown rest) other in
      ap (λ r. cond (bytes_eq (shown x).0 other) (Some (shown x).1) r) (found_changed g y rest j d first titled made other)
      ∙ apart (bytes_eq (shown x).0 other) (bytes_eq name other) g (Some (shown x).1) f (never_both (shown x).0 name other fails)

  -- a file that isn't there is put behind the others
  pub added_file : (y : X) (xs : List X) → (shown y).0 ≡ name → file_of (map shown xs) name ≡ None
      → (other : List ℕ) → file_of (map shown (xs ++ y ∷ [])) other ≡ replaced name (shown y).1 (file_of (map shown xs)) other
  added_file y [] titled none other = ap (λ t. cond (bytes_eq t other) (Some (shown y).1) None) titled
  added_file y (x ∷ xs) titled none other =
      let f = file_of (map shown xs) other in
      let fails = no_here (bytes_eq (shown x).0 name) (shown x).1 (file_of (map shown xs) name) none in
      ap (λ r. cond (bytes_eq (shown x).0 other) (Some (shown x).1) r) (added_file y xs titled fails.1 other)
      ∙ apart (bytes_eq (shown x).0 other) (bytes_eq name other) (λ _. Some (shown y).1) (Some (shown x).1) f (never_both (shown x).0 name other fails.0)

-- a file that grows by nothing is as it was
pub grown_nothing : (name : List ℕ) (files : Contents) → grown name [] files ≡ files
grown_nothing name files = fun_ext (λ other. nothing_more (bytes_eq name other) (files other))
