use Rattle.std.proofs.Common.{◌≡◌, ◌≢◌, ℕ, ltb, List, length, take, Option, None, Some, sym, ap, ◌∙◌, ne_eqb}
use Rattle.std.specs.List.{position_from}
use Rattle.std.proofs.lemmas.Bool.{le-ltb, eqb-false}
use Rattle.mt_world.specs.Play.{◌or_else◌, when, is_wrong, name_fault}
use Rattle.mt_world.proofs.end.name_fault.Goals as goal

-- the fault of a name that is not empty, by what was found among its first bytes
later : (name : List ℕ) (first : Option ℕ) → length name ≢ 0 → first ≡ position_from is_wrong 0 (take 255 name)
    → first or_else when (ltb 255 (length name)) 255 ≡ name_fault name
later name first some found =
    ap (λ x. x or_else when (ltb 255 (length name)) 255) found
    ∙ ap (λ b. when b 0 or_else position_from is_wrong 0 (take 255 name) or_else when (ltb 255 (length name)) 255) (sym (ne_eqb (length name) 0 some))

pub returns-in-Some : goal.returns-in-Some
returns-in-Some c = later c.args.name.now (Some c.in-Some.at) (eqb-false (length c.args.name.now) 0 (sym c.if-is_empty.ensures)) c.in-Some.ensures

pub returns-else-name-gt255 : goal.returns-else-name-gt255
returns-else-name-gt255 c =
    ap (λ b. None or_else when b 255) (sym (le-ltb 255 (length c.args.name.now) c.if-name-gt255.false))
    ∙ later c.args.name.now None (eqb-false (length c.args.name.now) 0 (sym c.if-is_empty.ensures)) c.in_default.ensures
