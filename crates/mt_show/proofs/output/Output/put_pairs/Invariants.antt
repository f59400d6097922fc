use Rattle.std.proofs.Common.{take}
use Rattle.hex.specs.Hex.{encode_lower}
use Rattle.mt_show.specs.Steps.{Adds}
use Rattle.mt_show.proofs.output.Output.put_pairs.Given as goal

-- the digits of the bytes so far were put
abbrev pub invariant-loop-byte : goal.invariant-loop-byte
invariant-loop-byte l = Adds (encode_lower (take l.byte-index l.bytes)) l.fn.self.bytes.items l.self.bytes.items
