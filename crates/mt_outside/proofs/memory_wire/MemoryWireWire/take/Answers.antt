use Rattle.std.proofs.Common.{◌≡◌, Some, min, length, ap, ◌∙◌, arith}
use Rattle.std.specs.Prelude.{slice_get}
use Rattle.mt_outside.specs.Memory.{Wired}
use Rattle.mt_outside.proofs.Given.{first_taken}
use Rattle.mt_outside.proofs.memory_wire.MemoryWireWire.take.Goals as goal

pub returns-clause-gives : goal.returns-clause-gives
returns-clause-gives c =
    let datagram = c.in-Some.datagram.now in
    let count = c.copy_front-count.result in
    let first = c.in-Some.ensures ∙ ap (λ (s : Wired). slice_get s.left 0) (c.self.view_is ∙ c.begin.ensures.same) in
    let fits : count ≡ min (length datagram) 1232 = omega (arith, c.copy_front-count.ensures.count, c.fits-out) in
    ap Some c.copy_front-count.ensures.bytes.bytes ∙ first_taken c.args.self.now.left datagram 1232 count first c.if-is_empty.ensures fits
