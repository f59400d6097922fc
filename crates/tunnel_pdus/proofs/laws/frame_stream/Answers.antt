use Rattle.tunnel_pdus.proofs.Grammars.{some_stream, one_stream, next_read, last_read, whole_stays, refusal_stays, pieces}
use Rattle.tunnel_pdus.proofs.Frames.{grammar}
use Rattle.tunnel_pdus.proofs.laws.frame_stream.Goals as goal

pub returns-clause-some : goal.returns-clause-some
returns-clause-some c bytes good = some_stream grammar bytes good

pub returns-clause-one : goal.returns-clause-one
returns-clause-one c bytes left right vs ws s t = one_stream grammar bytes vs ws left right s t

pub returns-clause-next : goal.returns-clause-next
returns-clause-next c bytes left v used vs good is s = next_read grammar bytes v used vs left good is s

pub returns-clause-last : goal.returns-clause-last
returns-clause-last c bytes good no_next = last_read grammar bytes good no_next

pub returns-clause-whole_stays : goal.returns-clause-whole_stays
returns-clause-whole_stays c bytes more v used good is = whole_stays grammar bytes more v used good is

pub returns-clause-refusal_stays : goal.returns-clause-refusal_stays
returns-clause-refusal_stays c bytes more r good is = refusal_stays grammar bytes more r good is

pub returns-clause-pieces : goal.returns-clause-pieces
returns-clause-pieces c bytes more left end vs ws s t = pieces bytes more vs ws left end s t
