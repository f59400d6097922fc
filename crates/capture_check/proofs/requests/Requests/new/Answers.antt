use Rattle.capture_check.proofs.Asking.{nothing_asked}
use Rattle.capture_check.proofs.requests.Requests.new.Goals as goal

pub returns : goal.returns
returns c = nothing_asked c.in_ok-new.field-0 c.in_ok-new.ensures
