-- A place in a buffer as the bytes before it and after it.
use Rattle.std.specs.Prelude.{take, drop}
use Rattle.mt_base.specs.Writing.{Spot}
use Rattle.mt_base.specs.declared.output.Out.{Out}

abbrev pub spot : Out → Spot
spot o = record { before = take o.at o.bytes.now; after = drop o.at o.bytes.now }
