use Rattle.std.proofs.Common.{◌≡◌, ◌<◌, ◌+◌, ◌%◌, ◌^◌, ℕ, true, Some, length, slice_get}
use Rattle.coded_vector.specs.CodedBytes.{flags_of}
use Rattle.capture_check.specs.Arrivals.{has}
use Rattle.capture_check.proofs.told.coded_came.Given as goal

abbrev pub invariant-loop-offset : goal.invariant-loop-offset
invariant-loop-offset l =
    (k : ℕ) → k < length l.yielded → slice_get (flags_of l.coded) k ≡ Some true → has l.came ((l.fn.base + k) % 2 ^ 16) ≡ true
