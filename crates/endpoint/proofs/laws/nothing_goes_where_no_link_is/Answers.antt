use Rattle.endpoint.proofs.Through.{through_drew}
use Rattle.endpoint.proofs.laws.nothing_goes_where_no_link_is.Goals as goal

pub returns : goal.returns
returns c = through_drew
