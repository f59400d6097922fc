use Rattle.std.proofs.Common.{sym}
use Rattle.tunnel_pdus.proofs.Grammars.{front_is, is_front, one_front, no_prefix, one_value}
use Rattle.tunnel_pdus.proofs.Frames.{grammar}
use Rattle.tunnel_pdus.proofs.laws.frame_meaning.Goals as goal

pub returns-clause-one : goal.returns-clause-one
returns-clause-one c bytes a b good f h = one_front grammar bytes a b good f h

pub returns-clause-read : goal.returns-clause-read
returns-clause-read c bytes a good = (λ is. front_is grammar bytes a good (sym is), λ f. is_front grammar bytes a good f)

pub returns-clause-value : goal.returns-clause-value
returns-clause-value c text v w s t = one_value grammar text v w s t

pub returns-clause-no_prefix : goal.returns-clause-no_prefix
returns-clause-no_prefix c text more v w s t = (no_prefix grammar text more v w s t).0
