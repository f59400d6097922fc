use Rattle.mt_endpoint.proofs.Listing.{listed_once}
use Rattle.mt_endpoint.proofs.laws.a_channel_is_listed_once.Goals as goal

pub returns : goal.returns
returns c role t e = listed_once role t e
