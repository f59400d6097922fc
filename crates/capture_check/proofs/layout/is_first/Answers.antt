use Rattle.capture_check.proofs.Openings.{first_reads}
use Rattle.capture_check.proofs.layout.is_first.Goals as goal

pub returns : goal.returns
returns c = first_reads c.args.datagram.now c.read1.result c.is_ok.result c.read1.ensures.found c.read1.ensures.only c.is_ok.ensures.value
