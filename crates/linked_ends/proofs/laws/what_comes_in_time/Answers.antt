use Rattle.linked_ends.proofs.Coming.{timely_of}
use Rattle.linked_ends.proofs.laws.what_comes_in_time.Goals as goal

pub returns : goal.returns
returns c late kind w h = timely_of late kind w h
