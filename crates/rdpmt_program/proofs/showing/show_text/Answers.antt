use Rattle.rdpmt_program.proofs.Runs.{shows_refusal}
use Rattle.rdpmt_program.proofs.showing.show_text.Goals as goal

pub returns-in-Err-BadLine : goal.returns-in-Err-BadLine
returns-in-Err-BadLine c =
    shows_refusal c.args.text.now c.in-Err-BadLine.line c.refused.result c.refused.ensures (rw c.in-Err-BadLine.field-0-is at c.in-Err-BadLine.ensures)
