use Rattle.tunnel_cookies.proofs.Tables.{opens_one}
use Rattle.tunnel_cookies.proofs.laws.one_link.Goals as goal

pub returns : goal.returns
returns c before last steps a b id kind other cookie text v first run then = opens_one before last steps a b id kind other cookie text v first run then
