use Rattle.std.proofs.Common.{All, subst, sym, arith}
use Rattle.ack_vector.specs.Elements.{IsGood}
use Rattle.udp1_core.proofs.Heads.{elements_fit, elements_good}
use Rattle.udp1_core.proofs.elements.write_elements.Goals as goal

pub write_flags-requires-clause-room : goal.write_flags-requires-clause-room
write_flags-requires-clause-room g c flags short =
    let fit = elements_fit flags (omega (arith, short)) in omega (arith, fit)

pub returns-clause-bound : goal.returns-clause-bound
returns-clause-bound g c =
    let told = c.write_flags.ensures in
    omega (arith, told.3, elements_fit told.0 (omega (arith, told.1)))

pub returns-clause-good : goal.returns-clause-good
returns-clause-good g c =
    let told = c.write_flags.ensures in
    subst (All IsGood) (sym told.4) (elements_good told.0)

pub returns-clause-elements : goal.returns-clause-elements
returns-clause-elements g c =
    let told = c.write_flags.ensures in (told.0, told.1, told.2, told.4)
