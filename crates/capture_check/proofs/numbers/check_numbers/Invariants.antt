use Rattle.std.proofs.Common.{◌≡◌}
use Rattle.capture_check.proofs.Judging.{JudgedTo}
use Rattle.capture_check.proofs.numbers.check_numbers.Given as goal

abbrev pub invariant-loop-entry : goal.invariant-loop-entry
invariant-loop-entry l = record {
  items : l.entry-items ≡ l.fn.capture;
  judged : JudgedTo l.entry-items l.entry-index l.line l.given;
}
