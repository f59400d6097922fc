-- Whether a part carries what was received.
use Rattle.std.proofs.Common.{◌≡◌, ℕ, ◌≤◌, true, ◌&&◌, length, Option, Some, ap, ◌∙◌, ltb, leb}
use Rattle.std.proofs.Math.Bool.{and-true}
use Rattle.std.proofs.lemmas.Bool.{le-leb}
use Rattle.mt_base.specs.Trace.{Trace}
use Rattle.carrier.specs.Due.{telling_with, with_part}
use Rattle.carrier.specs.Entries.{Entry}
use Rattle.carrier.specs.Layout.{Carried}
use Rattle.carrier.specs.LayoutLaw.{IsCarried}
use Rattle.carrier.specs.Receiving.{floor, owed, received}
use Rattle.carrier.specs.declared.limits.TheConstants.{WITH_TELLING}
use Rattle.link_machine.specs.Wire.{Wire, layout_of}
use Rattle.link_machine.specs.WireLaw.{IsWire}

-- a part carries the telling wherever one is owed
pub part_tells : (wire : Wire) → IsWire wire → (wait delay own peer : ℕ) (t : Trace Entry) (above : Option ℕ) (c : Carried)
    → IsCarried (layout_of wire wait delay own peer) c
    → (let l = layout_of wire wait delay own peer in
    with_part l t above c ≡ telling_with l t above (Some c) (ltb 0 (length (owed l t))))
part_tells wire w wait delay own peer t above c is =
    let l = layout_of wire wait delay own peer in
    let is_owed = ltb 0 (length (owed l t)) in
    let size = length (l.spell (telling_with l t above (Some c) true)) in
    let short : size ≤ WITH_TELLING =
    w.short wait delay own peer (received l t) (floor l t) true above (Some c) is in
    let fits : (is_owed && leb size WITH_TELLING) ≡ is_owed =
    ap (λ b. is_owed && b) (le-leb size WITH_TELLING short) ∙ and-true is_owed in
    ap (λ b. telling_with l t above (Some c) b) fits
