use Rattle.capture_check.proofs.Delivering.{none_delivered}
use Rattle.capture_check.proofs.deliveries.Deliveries.new.Goals as goal

pub returns : goal.returns
returns c = none_delivered c.in_ok-new.field-0 c.in_ok-new-2.field-0 c.in_ok-new.ensures c.in_ok-new-2.ensures
