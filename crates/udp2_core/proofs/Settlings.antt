-- Lemmas on whether a part becomes settled.
use Rattle.std.proofs.Common.{◌≡◌, ℕ, zero, suc, ◌<◌, ◌≤◌, ◌⊎◌, inl, inr, Bool, true, false, not, eqb, ltb, cond, ◌&&◌, ◌||◌, Option, Some, None, is_some, refl, sym, ap, ◌∙◌, arith}
use Rattle.std.proofs.lemmas.Bool.{cases_lt, cases_eq}
use Rattle.std.proofs.lemmas.Bool.Decides.{nat_tests}
use Rattle.mt_base.specs.Trace.{Trace, ◌▷◌}
use Rattle.mt_windows.specs.Sending.Act.{ToldTransmission}
use Rattle.mt_windows.specs.Sending.{Act, cuts, part_of, least, or_else, is_open, is_recent, settled}
use Rattle.mt_windows.specs.SendingView.{limits}
use Rattle.mt_windows.proofs.Counts.{least_none}
use Rattle.carrier.specs.Layout.{Layout}
use Rattle.carrier.specs.Sending.{settles}
use Rattle.udp2_core.specs.SettleView.{layout_from}

-- ---- tests
or_none : (b : Bool) → b || false ≡ b
or_none true = refl
or_none false = refl

or_true : (b : Bool) → b || true ≡ true
or_true true = refl
or_true false = refl

and_none : (b : Bool) → b && false ≡ false
and_none true = refl
and_none false = refl

and_first : (a b : Bool) → a && b ≡ true → a ≡ true
and_first true b h = refl
and_first false b h = absurd (cc)

and_second : (a b : Bool) → a && b ≡ true → b ≡ true
and_second true b h = h
and_second false b h = absurd (cc)

and_not : (a b : Bool) → (a && not b) && b ≡ false
and_not true true = refl
and_not true false = refl
and_not false b = refl

-- ---- the least number
least_same : (f g : ℕ → Bool) (n : ℕ) → ((p : ℕ) → f p ≡ g p) → least f n ≡ least g n
least_same f g zero h = refl
least_same f g (suc n) h =
    ap (λ o. or_else o (cond (f n) (Some n) None)) (least_same f g n h)
    ∙ ap (λ b. or_else (least g n) (cond b (Some n) None)) (h n)

or_else_more : (o : Option ℕ) (b : Bool) (n : ℕ) → is_some (or_else o (cond b (Some n) None)) ≡ is_some o || b
or_else_more None true n = refl
or_else_more None false n = refl
or_else_more (Some k) b n = refl

least_more : (f : ℕ → Bool) (n : ℕ) → is_some (least f (suc n)) ≡ is_some (least f n) || f n
least_more f n = or_else_more (least f n) (f n) n

least_there : (f : ℕ → Bool) (n k : ℕ) → k < n → f k ≡ true → is_some (least f n) ≡ true
least_there f zero k l is = absurd (omega (arith, l))
least_there f (suc n) k l is = least_more f n ∙ by_place (λ less. least_there f n k less is) (cases_lt k n)
  where
    by_place : (k < n → is_some (least f n) ≡ true) → (k < n) ⊎ (n ≤ k) → is_some (least f n) || f n ≡ true
    by_place before (inl less) = ap (λ b. b || f n) (before less)
    by_place before (inr ge) =
        let e : n ≡ k = omega (arith, l, ge) in
        ap (λ m. is_some (least f n) || f m) e ∙ ap (λ b. is_some (least f n) || b) is ∙ or_true (is_some (least f n))

-- one number more passes the second test
found_more : (o s : ℕ → Bool) (q n : ℕ) → is_some (least (λ p. o p && (s p || eqb q p)) n) ≡ is_some (least (λ p. o p && s p) n) || (ltb q n && o q)
found_more o s q zero = let none : ltb q 0 ≡ false = grind (arith, nat_tests) in sym (ap (λ b. b && o q) none)
found_more o s q (suc n) =
    least_more (λ p. o p && (s p || eqb q p)) n
    ∙ ap (λ b. b || (o n && (s n || eqb q n))) (found_more o s q n)
    ∙ by_place (is_some (least (λ p. o p && s p) n)) (cases_eq q n)
    ∙ sym (ap (λ b. b || (ltb q (suc n) && o q)) (least_more (λ p. o p && s p) n))
  where
    at_place : (f t u : Bool) → (f || (false && u)) || (u && (t || true)) ≡ (f || (u && t)) || (true && u)
    at_place true t u = refl
    at_place false true true = refl
    at_place false true false = refl
    at_place false false true = refl
    at_place false false false = refl

    off_place : (f a u t : Bool) → (f || a) || (u && (t || false)) ≡ (f || (u && t)) || a
    off_place true a u t = refl
    off_place false true true true = refl
    off_place false true true false = refl
    off_place false true false t = refl
    off_place false false true true = refl
    off_place false false true false = refl
    off_place false false false t = refl

    below : (q ≡ n → ⊥) → (q < n) ⊎ (n ≤ q) → ltb q n ≡ ltb q (suc n)
    below ne (inl less) =
        let a : ltb q n ≡ true = grind (arith, nat_tests) in
        let b : ltb q (suc n) ≡ true = grind (arith, nat_tests) in
        a ∙ sym b
    below ne (inr ge) =
        let a : ltb q n ≡ false = grind (arith, nat_tests) in
        let b : ltb q (suc n) ≡ false = grind (arith, nat_tests) in
        a ∙ sym b

    by_place : (f : Bool) → (q ≡ n) ⊎ (q ≡ n → ⊥) → (f || (ltb q n && o q)) || (o n && (s n || eqb q n)) ≡ (f || (o n && s n)) || (ltb q (suc n) && o q)
    by_place f (inl e) =
        let x : eqb q n ≡ true = grind (arith, nat_tests) in
        let y : ltb q n ≡ false = grind (arith, nat_tests) in
        let z : ltb q (suc n) ≡ true = grind (arith, nat_tests) in
        ap (λ b. (f || (b && o q)) || (o n && (s n || eqb q n))) y
        ∙ ap (λ b. (f || (false && o q)) || (o n && (s n || b))) x
        ∙ ap (λ k. (f || (false && o k)) || (o n && (s n || true))) e
        ∙ at_place f (s n) (o n)
        ∙ ap (λ k. (f || (o n && s n)) || (true && o k)) (sym e)
        ∙ sym (ap (λ b. (f || (o n && s n)) || (b && o q)) z)
    by_place f (inr ne) =
        let x : eqb q n ≡ false = grind (arith, nat_tests) in
        ap (λ b. (f || (ltb q n && o q)) || (o n && (s n || b))) x
        ∙ off_place f (ltb q n && o q) (o n) (s n)
        ∙ ap (λ b. (f || (o n && s n)) || (b && o q)) (below ne (cases_lt q n))

-- ---- parts that become settled

-- where nothing is told no part is settled
pub settles_none : (layout : Layout) (s : Trace Act) → settles layout s s ≡ false
settles_none layout s =
    let limits = layout.bounds.windows in
    ap is_some (least_none (λ p. is_open limits s p && settled limits s p) (cuts s)
    (λ p l. and_not (ltb p (cuts s)) (settled limits s p)))

-- One transmission more is told, after a telling that only settles. A part becomes settled where one
-- was before, or where this transmission settles one.
pub settles_more : (acts t : Trace Act) (j : ℕ) → cuts t ≡ cuts acts → ((p : ℕ) → settled limits acts p ≡ true → settled limits t p ≡ true)
    → settles (layout_from 0) acts (t ▷ ToldTransmission j) ≡ settles (layout_from 0) acts t || (is_recent limits t j && is_open limits t (part_of t j))
settles_more acts t j same grows = by_recent (is_recent limits t j)
  where
    q : ℕ
    q = part_of t j

    n : ℕ
    n = cuts acts

    both : ℕ → Bool
    both p = is_open limits acts p && settled limits t p

    closed_before : settled limits t q ≡ false → (b : Bool) → settled limits acts q ≡ b → b ≡ false
    closed_before e true is = absurd (let c = sym e ∙ grows q is in cc)
    closed_before e false is = refl

    twice : (a : Bool) → a && (a && true) ≡ a && true
    twice true = refl
    twice false = refl

    by_there : settled limits t q ≡ true → (x : Bool) → ltb q n && is_open limits acts q ≡ x → is_some (least both n) || x ≡ is_some (least both n) || is_open limits t q
    by_there e true is =
        let test = and_first (ltb q n) (is_open limits acts q) is in
        let less : q < n = grind (arith, nat_tests) in
        let passes : both q ≡ true = ap (λ b. b && settled limits t q) (and_second (ltb q n) (is_open limits acts q) is) ∙ e in
        let all : is_some (least both n) ≡ true = least_there both n q less passes in
        ap (λ b. b || true) all ∙ sym (ap (λ b. b || is_open limits t q) all)
    by_there e false is =
        sym (ap (λ b. is_some (least both n) || (ltb q (cuts t) && not b)) e ∙ ap (λ b. is_some (least both n) || b) (and_none (ltb q (cuts t))))

    by_settled : (b : Bool) → settled limits t q ≡ b → is_some (least both n) || (ltb q n && is_open limits acts q) ≡ is_some (least both n) || is_open limits t q
    by_settled true e = by_there e (ltb q n && is_open limits acts q) refl
    by_settled false e =
        ap (λ b. is_some (least both n) || (ltb q n && (ltb q n && not b))) (closed_before e (settled limits acts q) refl)
        ∙ ap (λ b. is_some (least both n) || b) (twice (ltb q n))
        ∙ sym (ap (λ b. is_some (least both n) || (ltb q (cuts t) && not b)) e ∙ ap (λ m. is_some (least both n) || (ltb q m && true)) same)

    by_recent : (r : Bool) → is_some (least (λ p. is_open limits acts p && (settled limits t p || (r && eqb q p))) n) ≡ is_some (least both n) || (r && is_open limits t q)
    by_recent true = found_more (is_open limits acts) (settled limits t) q n ∙ by_settled (settled limits t q) refl
    by_recent false =
        ap is_some (least_same (λ p. is_open limits acts p && (settled limits t p || false)) both n (λ p. ap (λ b. is_open limits acts p && b) (or_none (settled limits t p))))
        ∙ sym (or_none (is_some (least both n)))
