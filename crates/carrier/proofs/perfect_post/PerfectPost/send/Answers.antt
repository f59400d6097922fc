use Rattle.std.proofs.Common.{◌≡◌, ◌∙◌, ap, sym, subst, refl, arith, take, ◌+◌, Some}
use borrow.Rule.Slice.PartMut.{put_mid}
use Rattle.carrier.specs.PerfectThin.{first_spelled}
use Rattle.carrier.proofs.Perfect.{behind, written}
use Rattle.carrier.proofs.perfect_post.PerfectPost.send.Goals as goal

pub returns-clause-datagram : goal.returns-clause-datagram
returns-clause-datagram c =
    let count = c.put_first-count.result in
    let piece = c.put_first-count.new.out in
    let e = c.put_first-count.ensures in
    subst (λ s. first_spelled s.sent s.waiting ≡ Some (take (8 + count) (put_mid 8 1224 c.write_u64.new.buf piece))) c.self.view_is
    (ap (first_spelled c.self.inside.sent) e.bytes
    ∙ ap Some (sym (written c.self.inside.sent count c.write_u64.new.buf c.args.out.now piece (take count piece) c.write_u64.ensures (omega (arith, e.bound, c.put_first-count.auto.out)) refl)))

pub returns-clause-rest : goal.returns-clause-rest
returns-clause-rest c =
    behind c.self.inside.sent c.put_first-count.result c.write_u64.new.buf c.args.out.now c.put_first-count.new.out c.write_u64.ensures (omega (arith, c.fits-out)) (omega (arith, c.put_first-count.auto.out)) (omega (arith, c.put_first-count.ensures.bound)) c.put_first-count.ensures.rest
