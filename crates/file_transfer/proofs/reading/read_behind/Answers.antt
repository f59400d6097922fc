use Rattle.std.proofs.Common.{◌-◌, ◌<◌, length, drop, take, arith}
use Rattle.std.proofs.lemmas.Grind.{common_steps}
use borrow.Rule.Slice.PartMut.{post_of}
use Rattle.file_transfer.proofs.Pieces.{reached_ok}
use Rattle.file_transfer.proofs.reading.read_behind.Goals as goal

pub returns-clause-bytes : goal.returns-clause-bytes
returns-clause-bytes g c = λ content holds some.
    let room = c.args.room.now in
    let at = c.args.at in
    let out = c.read.new.out in
    let auto = c.read.auto.out in
    let rest : 0 < length (take (length room - at) (drop at room)) = grind (arith, common_steps) in
    let space : 0 < length out = omega (arith, auto, rest) in
    reached_ok c.read.result content out room (post_of at (length room - at) room) c.args.from at c.requires space c.read.ensures.bound (c.read.ensures.bytes content holds)
