-- What waits and what is held keeps its limits at each place.
use Rattle.std.proofs.Common.{arith}
use Rattle.mt_base.specs.declared.kinds.Role.{Role}
use Rattle.mt_base.specs.Trace.{Trace, Start, ◌▷◌}
use Rattle.end_calls.specs.Calls.{Entry}
use Rattle.end_calls.specs.Law.{EndTrace, IsWithin}

pub within : (role : Role) (t : Trace Entry) → EndTrace role t → IsWithin role t
within role Start h = record { unsent_fits = omega arith; reliable_fits = omega arith; lossy_fits = omega arith }
within role (t ▷ entry) h = h.1
