-- Fields that are put in parts.
use Rattle.std.proofs.Common.{◌≡◌, ℕ, List, ◌++◌, Result, Ok, sym, ap, subst, ◌∙◌, append_assoc}
use Rattle.mt_base.specs.declared.errors.NoRoom.{NoRoom}
use Rattle.mt_base.specs.Filling.{Filling, Fills, fills, then_fill}
use Rattle.mt_base.proofs.Filled.{fills-append}

-- what is put behind two lists of fields is put behind both together
pub after_told : (xs ys zs : List (List ℕ)) (s t u : Filling) (r : Result (Unit {0}) NoRoom) → fills (xs ++ ys) s ≡ Ok t → Fills u r (fills zs t) → Fills u r (fills (xs ++ (ys ++ zs)) s)
after_told xs ys zs s t u r before now =
    let e : fills (xs ++ (ys ++ zs)) s ≡ fills zs t =
    ap (λ l. fills l s) (sym (append_assoc xs ys zs)) ∙ fills-append (xs ++ ys) zs s ∙ ap (λ w. then_fill w (fills zs)) before in
    let P : Result Filling NoRoom → Type 0 = λ w. Fills u r w in
    subst P (sym e) now
