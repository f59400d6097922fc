use Rattle.std.proofs.Common.{◌+◌, ◌≤◌, ap, ◌∙◌, subst, arith}
use Rattle.mt_windows.proofs.InFlight.{base_is}
use Rattle.mt_windows.proofs.send.SendWindow.floor_part.Goals as goal

pub returns : goal.returns
returns g c first t h =
    let base = base_is c.args.self.now first t h (subst (λ w. w.base ≤ w.cut) c.self.view_is c.self.invariant.sound.base_bound) in
    ap (λ w. w.first + w.base) c.self.view_is ∙ (omega (arith, h.first_is, base))
