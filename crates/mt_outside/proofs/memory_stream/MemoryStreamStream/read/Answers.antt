use Rattle.std.proofs.Common.{rules}
use Rattle.mt_outside.proofs.Given.{concat_more}
use Rattle.mt_outside.proofs.memory_stream.MemoryStreamStream.read.Goals as goal

pub returns-clause-tells : goal.returns-clause-tells
returns-clause-tells c = search (rules, concat_more)
