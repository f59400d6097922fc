use Rattle.std.proofs.Common.{sym, subst}
use Rattle.capture_check.specs.declared.layout.Layout.TheVariants.{First}
use Rattle.capture_check.specs.RequestsSoFar.{CarriesJust}
use Rattle.capture_check.proofs.Asking.{first_just_carries}
use Rattle.capture_check.proofs.carried.first_carried.Goals as goal

pub returns-in-Ok : goal.returns-in-Ok
returns-in-Ok c =
    subst (CarriesJust First c.args.datagram.now) (sym c.first_data.ensures)
    (first_just_carries c.args.datagram.now c.in-Ok.packet c.in-Ok.ensures.found c.in-Ok.ensures.only)

pub returns-in-Err : goal.returns-in-Err
returns-in-Err c bytes = (λ h. absurd (cc), λ s. absurd (c.in-Err.ensures.only s.0 s.1))
