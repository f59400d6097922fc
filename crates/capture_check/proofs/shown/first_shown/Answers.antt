use Rattle.std.proofs.Common.{sym, subst}
use Rattle.capture_check.specs.declared.layout.Layout.TheVariants.{First}
use Rattle.capture_check.specs.TellingsSoFar.{ShowsJust}
use Rattle.capture_check.proofs.Telling.{first_just}
use Rattle.capture_check.proofs.shown.first_shown.Goals as goal

pub returns-in-Ok : goal.returns-in-Ok
returns-in-Ok c =
    subst (ShowsJust First c.args.datagram.now) (sym c.start.ensures)
    (first_just c.args.datagram.now c.in-Ok.packet c.in-Ok.ensures.found c.in-Ok.ensures.only)

pub returns-in-Err : goal.returns-in-Err
returns-in-Err c n = (λ h. absurd (cc), λ s. absurd (c.in-Err.ensures.only s.0 s.1))
