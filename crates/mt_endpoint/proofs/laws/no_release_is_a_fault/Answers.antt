use Rattle.mt_endpoint.proofs.Released.{release_fine}
use Rattle.mt_endpoint.proofs.laws.no_release_is_a_fault.Goals as goal

pub returns : goal.returns
returns c role here there id first rest m l through live queue = release_fine role here there id first rest m l through live queue
