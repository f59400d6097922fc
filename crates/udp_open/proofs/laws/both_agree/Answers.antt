use Rattle.udp_open.proofs.Agreeing.{meeting, agrees}
use Rattle.udp_open.proofs.laws.both_agree.Goals as goal

pub returns-clause-agree : goal.returns-clause-agree
returns-clause-agree c settings w s a m is = agrees settings w s a m is

pub returns-clause-server_first : goal.returns-clause-server_first
returns-clause-server_first c settings w m h = (meeting settings w m).behind h
