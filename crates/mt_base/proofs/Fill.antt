-- Lemmas on writing fields into a buffer.
use Rattle.std.proofs.Common.{◌≡◌, ℕ, ◌≤◌, Bool, true, false, ltb, cond, List, [], ◌∷◌, ◌++◌, length, take, drop, Result, Ok, Err, refl, sym, ap, ◌∙◌, subst, append_assoc, append-nil, arith, length-append}
use Rattle.std.proofs.lemmas.List.{drop-drop, length-drop, take-append-drop}
use Rattle.std.proofs.lemmas.Bool.Decides.{nat_tests}
use Rattle.mt_base.specs.declared.errors.NoRoom.{NoRoom}
use Rattle.mt_base.specs.Writing.{Spot, put, puts, then_put, joined}

-- writing a join of two lists of fields is writing the first and then the second
pub puts-append : (xs ys : List (List ℕ)) (s : Spot) → puts (xs ++ ys) s ≡ then_put (puts xs s) (puts ys)
puts-append [] ys s = refl
puts-append (x ∷ xs) ys s =
    elim (put x s) as (λ r. then_put r (puts (xs ++ ys)) ≡ then_put (then_put r (puts xs)) (puts ys)) [
      | Ok t ↦ puts-append xs ys t
      | Err e ↦ refl
    ]

-- the join of the fields of two lists
pub joined-append : (xs ys : List (List ℕ)) → joined (xs ++ ys) ≡ joined xs ++ joined ys
joined-append [] ys = refl
joined-append (x ∷ xs) ys = ap (λ t. x ++ t) (joined-append xs ys) ∙ sym (append_assoc x (joined xs) (joined ys))

-- one field behind others
pub joined-push : (xs : List (List ℕ)) (x : List ℕ) → joined (xs ++ x ∷ []) ≡ joined xs ++ x
joined-push xs x = joined-append xs (x ∷ []) ∙ ap (λ t. joined xs ++ t) (append-nil x)

-- a spot after fields: they stand before it, in order, and the buffer behind them is as it was
pub record IsFilled (fs : List (List ℕ)) (s t : Spot) : Type 0 where
  pub before_is : t.before ≡ s.before ++ joined fs
  pub after_is : t.after ≡ drop (length (joined fs)) s.after
  pub fits : length (joined fs) ≤ length s.after

guard_ok : {A E : Type 0} (b : Bool) (d : E) (x y : A) → cond b (Err d) (Ok x) ≡ Ok y → (b ≡ false) × (x ≡ y)
guard_ok true d x y e = cc
guard_ok false d x y e = (refl, cc)

pub guard_err : {A E : Type 0} (b : Bool) (d e : E) (x : A) → cond b (Err d) (Ok x) ≡ Err e → (b ≡ true) × (d ≡ e)
guard_err true d e x h = (refl, cc)
guard_err false d e x h = cc

-- where the first step of two went well, there is a spot between them
pub then_ok : (r : Result Spot NoRoom) (next : Spot → Result Spot NoRoom) (t : Spot) → then_put r next ≡ Ok t → (m : Spot) × (r ≡ Ok m) × (next m ≡ Ok t)
then_ok (Ok m) next t e = (m, refl, e)
then_ok (Err d) next t e = cc

-- what the write of one field leaves
pub put_filled : (f : List ℕ) (s t : Spot) → put f s ≡ Ok t → (length f ≤ length s.after) × (t ≡ record { before = s.before ++ f; after = drop (length f) s.after })
put_filled f s t e =
    let g = guard_ok (ltb (length s.after) (length f)) (record { at = length s.before; need = length f }) (record { before = s.before ++ f; after = drop (length f) s.after }) t e in
    (grind (arith, nat_tests, g.0), sym g.1)

-- what the write of fields leaves
pub puts_filled : (fs : List (List ℕ)) (s t : Spot) → puts fs s ≡ Ok t → IsFilled fs s t
puts_filled [] s t e =
    let same : s ≡ t = cc in
    subst (λ x. IsFilled [] s x) same (record { before_is = sym (append-nil s.before); after_is = refl; fits = omega arith })
puts_filled (f ∷ fs) s t e =
    let m = then_ok (put f s) (puts fs) t e in
    let one = put_filled f s m.0 m.1 in
    let rest = puts_filled fs m.0 t m.2 in
    let after : m.0.after ≡ drop (length f) s.after = ap (λ (x : Spot). x.after) one.1 in
    let before : m.0.before ≡ s.before ++ f = ap (λ (x : Spot). x.before) one.1 in
    record {
      before_is = rest.before_is ∙ ap (λ x. x ++ joined fs) before ∙ append_assoc s.before f (joined fs);
      after_is = rest.after_is ∙ ap (drop (length (joined fs))) after ∙ drop-drop (length (joined fs)) (length f) s.after ∙ ap (λ n. drop n s.after) (sym (length-append f (joined fs)));
      fits = omega (arith, rest.fits, one.0, ap length after, length-drop (length f) s.after, length-append f (joined fs));
    }

-- fields that fit are written
pub puts_fit : (fs : List (List ℕ)) (s : Spot) → length (joined fs) ≤ length s.after → (t : Spot) × (puts fs s ≡ Ok t)
puts_fit [] s h = (s, refl)
puts_fit (f ∷ fs) s h =
    let enough : ltb (length s.after) (length f) ≡ false = grind (arith, nat_tests, length-append f (joined fs)) in
    let m : Spot = record { before = s.before ++ f; after = drop (length f) s.after } in
    let first : put f s ≡ Ok m = ap (λ b. cond b (Err (record { at = length s.before; need = length f })) (Ok m)) enough in
    let rest = puts_fit fs m (omega (arith, h, length-drop (length f) s.after, length-append f (joined fs))) in
    (rest.0, ap (λ r. then_put r (puts fs)) first ∙ rest.1)

-- the whole buffer of a writer that began at its first byte and wrote these fields
pub finished : (fs : List (List ℕ)) (text from last : List ℕ) (at : ℕ) (first : Spot) → at ≤ length last → joined fs ≡ text
    → first ≡ record { before = []; after = from } → puts fs first ≡ Ok (record { before = take at last; after = drop at last }) → (at ≡ length text) × (last ≡ text ++ drop at from)
finished fs text from last at first within is starts written =
    let f = puts_filled fs first _ written in
    let front : take at last ≡ text = f.before_is ∙ ap (λ (x : Spot). x.before ++ joined fs) starts ∙ is in
    let long : at ≡ length text = omega (arith, ap length front, Rattle.std.proofs.lemmas.List.length-take at last) in
    let back : drop at last ≡ drop at from = f.after_is ∙ ap (λ (x : Spot). drop (length (joined fs)) x.after) starts ∙ ap (λ n. drop n from) (ap length is ∙ sym long) in
    (long, sym (take-append-drop at last) ∙ ap (λ x. x ++ drop at last) front ∙ ap (λ x. text ++ x) back)
