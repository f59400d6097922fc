use Rattle.std.proofs.Common.{◌≡◌, ◌-◌, ◌≤◌, drop, slice_get}
use Rattle.coded_vector.specs.CodedBytes.{flags_of}
use Rattle.coded_vector.proofs.lookup.told_coded.Given as goal

-- the flag is the one behind `before` flags of the bytes that are left
abbrev pub invariant-loop-byte : goal.invariant-loop-byte
invariant-loop-byte l =
    (l.base ≤ l.number)
    × (slice_get (flags_of l.bytes) (l.number - l.base)
    ≡ slice_get (flags_of (drop l.byte-index l.bytes)) l.before)
