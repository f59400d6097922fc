-- Lemmas on requests that are answered one after the other.
use Rattle.std.proofs.Common.{◌≡◌, ℕ, ◌+◌, ◌≤◌, Bool, true, false, cond, nat_lt, List, [], ◌∷◌, ◌++◌, length, Some, None, refl, sym, ap, ◌∙◌, arith}
use Rattle.std.proofs.lemmas.Bool.{lt-ltb, ltb-true, ltb-false}
use Rattle.soft_sync.specs.declared.kinds.Kinds.{Kinds}
use Rattle.soft_sync.specs.Exchanges.{Request, exchanges, unanswered, answered, behind, behind_from}

pub asked : (requests : List Request) (answers : List Kinds) (request : Request) → length answers ≤ length requests
    → exchanges (requests ++ (request ∷ [])) answers ≡ exchanges requests answers ++ (unanswered request ∷ [])
asked [] [] request h = refl
asked [] (kinds ∷ answers) request h = absurd (omega (arith, h))
asked (r ∷ requests) [] request h = ap (λ t. unanswered r ∷ t) (asked requests [] request (omega arith))
asked (r ∷ requests) (kinds ∷ answers) request h = ap (λ t. answered r kinds ∷ t) (asked requests answers request (omega (arith, h)))

oldest_from : (base : ℕ) (requests : List Request) (answers : List Kinds) → length answers ≤ length requests
    → behind_from base (exchanges requests answers) ≡ cond (nat_lt (length answers) (length requests)) (Some (base + length answers)) None
oldest_from base [] [] h = refl
oldest_from base [] (kinds ∷ answers) h = absurd (omega (arith, h))
oldest_from base (r ∷ requests) [] h =
    ap (λ n. Some n) (omega arith) ∙ sym (ap (λ b. cond b (Some (base + 0)) None) (lt-ltb 0 (length (r ∷ requests)) (omega arith)))
oldest_from base (r ∷ requests) (kinds ∷ answers) h =
    oldest_from (base + 1) requests answers (omega (arith, h)) ∙ by (nat_lt (length answers) (length requests)) (nat_lt (length (kinds ∷ answers)) (length (r ∷ requests))) refl refl
  where
    by : (a b : Bool) → nat_lt (length answers) (length requests) ≡ a → nat_lt (length (kinds ∷ answers)) (length (r ∷ requests)) ≡ b
        → cond a (Some ((base + 1) + length answers)) None ≡ cond b (Some (base + length (kinds ∷ answers))) None
    by true true p q = ap (λ n. Some n) (omega arith)
    by false false p q = refl
    by true false p q = absurd (let x = ltb-true (length answers) (length requests) p in let y = ltb-false (length (kinds ∷ answers)) (length (r ∷ requests)) q in omega (arith, x, y))
    by false true p q = absurd (let x = ltb-false (length answers) (length requests) p in let y = ltb-true (length (kinds ∷ answers)) (length (r ∷ requests)) q in omega (arith, x, y))

pub oldest : (requests : List Request) (answers : List Kinds) → length answers ≤ length requests
    → behind (exchanges requests answers) ≡ cond (nat_lt (length answers) (length requests)) (Some (length answers)) None
oldest requests answers h = oldest_from 0 requests answers h ∙ ap (λ n. cond (nat_lt (length answers) (length requests)) (Some n) None) (omega arith)
