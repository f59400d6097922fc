use Rattle.tunnel_cookies.proofs.Tables.{one_verdict}
use Rattle.tunnel_cookies.proofs.laws.one_verdict.Goals as goal

pub returns : goal.returns
returns c link kind cookie entry v w a b = one_verdict link kind cookie entry v w a b
