use Rattle.dvc_pdus.proofs.Theorems.{written_spells, written_is_read, shortest}
use Rattle.dvc_pdus.proofs.laws.written_is_read.Goals as goal

pub returns-clause-spells : goal.returns-clause-spells
returns-clause-spells c from pdu fits = written_spells from pdu fits

pub returns-clause-read : goal.returns-clause-read
returns-clause-read c from pdu fits = written_is_read from pdu fits

pub returns-clause-shortest : goal.returns-clause-shortest
returns-clause-shortest c from bytes pdu s = shortest from bytes pdu s
