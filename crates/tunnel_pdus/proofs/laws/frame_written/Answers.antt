use Rattle.tunnel_pdus.proofs.Frames.{written_spells, written_read, shortest}
use Rattle.tunnel_pdus.proofs.laws.frame_written.Goals as goal

pub returns-clause-spells : goal.returns-clause-spells
returns-clause-spells c value fits = written_spells value fits

pub returns-clause-read : goal.returns-clause-read
returns-clause-read c value rest fits = written_read value rest fits

pub returns-clause-shortest : goal.returns-clause-shortest
returns-clause-shortest c text value s = shortest text value s
