-- Lemmas on the last part of a path.
use Rattle.std.proofs.Common.{◌≡◌, ◌≢◌, ℕ, zero, suc, ◌+◌, ◌≤◌, ◌<◌, List, [], ◌∷◌, ◌++◌, length, take, drop, get_or, refl, sym, ap, ◌∙◌, subst, arith}
use Rattle.std.proofs.lemmas.List.Elements.{All-cons, All-nil, All-head, All-tail}
use Rattle.file_messages.specs.Files.{Lacks}
use Rattle.file_messages.specs.Names.{IsLastPart, alone, behind}

lacks_from : (k : ℕ) (path : List ℕ) → ((i : ℕ) → k ≤ i → i < length path → get_or path i 0 ≢ 47) → Lacks 47 (drop k path)
lacks_from zero [] h = All-nil (λ b. b ≢ 47)
lacks_from (suc k) [] h = All-nil (λ b. b ≢ 47)
lacks_from zero (x ∷ path) h =
    All-cons (λ b. b ≢ 47) x path (h 0 (omega arith) (omega arith)) (lacks_from zero path (λ i a l. h (suc i) (omega arith) (omega (arith, l))))
lacks_from (suc k) (x ∷ path) h = lacks_from k path (λ i a l. h (suc i) (omega (arith, a)) (omega (arith, l)))

parts_at : (k : ℕ) (path : List ℕ) → k < length path → get_or path k 0 ≡ 47 → path ≡ take k path ++ (47 ∷ drop (suc k) path)
parts_at k [] l is = absurd (omega (arith, l))
parts_at zero (x ∷ path) l is = ap (λ t. t ∷ path) is
parts_at (suc k) (x ∷ path) l is = ap (λ t. x ∷ t) (parts_at k path (omega (arith, l)) is)

pub found : (path name : List ℕ) (k : ℕ) → (k < length path) × (get_or path k 0 ≡ 47) × ((i : ℕ) → k < i → i < length path → get_or path i 0 ≢ 47) → name ≡ drop (k + 1) path → IsLastPart path name
found path name k h is =
    let next : k + 1 ≡ suc k = omega arith in
    let name_is : name ≡ drop (suc k) path = is ∙ ap (λ n. drop n path) next in
    behind (take k path) (subst (Lacks 47) (sym name_is) (lacks_from (suc k) path (λ i a l. h.2 i (omega (arith, a)) l)))
    (parts_at k path h.0 h.1 ∙ ap (λ t. take k path ++ (47 ∷ t)) (sym name_is))

pub not_found : (path : List ℕ) → ((i : ℕ) → i < length path → get_or path i 0 ≢ 47) → IsLastPart path path
not_found path h = alone (lacks_from 0 path (λ i a l. h i l)) refl

-- ---- the last part is one

lacks_none : (before name : List ℕ) → Lacks 47 (before ++ (47 ∷ name)) → ⊥
lacks_none [] name h = All-head (λ b. b ≢ 47) 47 name h refl
lacks_none (x ∷ before) name h = lacks_none before name (All-tail (λ b. b ≢ 47) x (before ++ (47 ∷ name)) h)

one_behind : (before other a b : List ℕ) → Lacks 47 a → Lacks 47 b → before ++ (47 ∷ a) ≡ other ++ (47 ∷ b) → a ≡ b
one_behind [] [] a b p q e = cc
one_behind [] (y ∷ other) a b p q e = let rest : a ≡ other ++ (47 ∷ b) = cc in absurd (lacks_none other b (subst (Lacks 47) rest p))
one_behind (x ∷ before) [] a b p q e = let rest : b ≡ before ++ (47 ∷ a) = cc in absurd (lacks_none before a (subst (Lacks 47) rest q))
one_behind (x ∷ before) (y ∷ other) a b p q e = let rest : before ++ (47 ∷ a) ≡ other ++ (47 ∷ b) = cc in one_behind before other a b p q rest

pub one_part : (path a b : List ℕ) → IsLastPart path a → IsLastPart path b → a ≡ b
one_part path a b (alone p is) (alone q same) = sym is ∙ same
one_part path a b (alone p is) (behind before q same) = absurd (lacks_none before b (subst (Lacks 47) (sym is ∙ same) p))
one_part path a b (behind before p is) (alone q same) = absurd (lacks_none before a (subst (Lacks 47) (sym same ∙ is) q))
one_part path a b (behind before p is) (behind other q same) = one_behind before other a b p q (sym is ∙ same)
