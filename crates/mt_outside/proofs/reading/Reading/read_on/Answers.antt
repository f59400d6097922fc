use Rattle.std.proofs.Common.{◌≡◌, ◌+◌, arith}
use Rattle.mt_outside.proofs.Standing.{reads_there}
use Rattle.mt_outside.proofs.reading.Reading.read_on.Goals as goal

pub returns-clause-bytes : goal.returns-clause-bytes
returns-clause-bytes g c = λ content stands.
    (reads_there _ _ content c.read.new.buf c.args.self.now.at c.in-Ok.count stands c.in-Ok.ensures.bound.0 c.in-Ok.ensures.bytes).0

pub returns-clause-stands : goal.returns-clause-stands
returns-clause-stands g c = λ content stands.
    let behind : c.in-Some.at ≡ c.args.self.now.at + c.in-Ok.count = omega (arith, c.in-Some.ensures) in
    rw behind (reads_there _ _ content c.read.new.buf c.args.self.now.at c.in-Ok.count stands c.in-Ok.ensures.bound.0 c.in-Ok.ensures.bytes).1
