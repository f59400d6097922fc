use Rattle.std.proofs.Common.{◌≡◌, length}
use Rattle.coded_vector.specs.CodedView.{coded_left}
use Rattle.coded_vector.proofs.flags.CodedIterator.next.Given as goal

-- bytes without further flags were passed
abbrev pub invariant-loop-byte : goal.invariant-loop-byte
invariant-loop-byte l = coded_left l.self ≡ coded_left l.fn.self

abbrev pub decreases-loop-byte : goal.decreases-loop-byte
decreases-loop-byte l = length l.self.bytes.now
