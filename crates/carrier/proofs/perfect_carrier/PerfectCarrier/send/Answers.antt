use Rattle.std.proofs.Common.{◌≡◌, ◌∙◌, ap, subst, arith, take, drop, ◌+◌, min, length}
use borrow.Rule.Slice.PartMut.{put_mid}
use Rattle.carrier.specs.Perfect.{spelled}
use Rattle.carrier.specs.PerfectView.{without_sent}
use Rattle.carrier.proofs.Perfect.{behind, first_bytes, bytes_behind, written}
use Rattle.carrier.proofs.perfect_carrier.PerfectCarrier.send.Goals as goal

pub returns-clause-datagram : goal.returns-clause-datagram
returns-clause-datagram c =
    let waiting = c.self.inside.waiting.items in
    let count = c.min-count.result in
    let size : count ≡ min (length waiting) 1000 = c.min-count.ensures ∙ ap (λ n. min n 1000) (c.len.ensures ∙ c.self.inside.waiting.ok.0) in
    let piece = c.take_front.new.out in
    let same : take count piece ≡ take 1000 waiting = c.take_front.ensures.bytes ∙ ap (λ n. take n waiting) size ∙ first_bytes 1000 waiting in
    subst (λ s. take (8 + count) (put_mid 8 1224 c.write_u64.new.buf piece) ≡ spelled s.sent (take 1000 s.waiting)) c.self.view_is
    (written c.self.inside.sent count c.write_u64.new.buf c.args.out.now piece (take 1000 waiting) c.write_u64.ensures (omega (arith, c.min-count.ensures, c.take_front.auto.out)) same)

pub returns-clause-kept : goal.returns-clause-kept
returns-clause-kept c =
    let waiting = c.self.inside.waiting.items in
    let size : c.min-count.result ≡ min (length waiting) 1000 = c.min-count.ensures ∙ ap (λ n. min n 1000) (c.len.ensures ∙ c.self.inside.waiting.ok.0) in
    ap (λ xs. record { waiting = xs; sent = c.self.inside.sent + 1; arrived = c.self.inside.arrived.items; next = c.self.inside.next; last = c.self.inside.last })
    (c.take_front.ensures.items ∙ ap (λ n. drop n waiting) size ∙ bytes_behind 1000 waiting)
    ∙ ap without_sent c.self.view_is

pub returns-clause-rest : goal.returns-clause-rest
returns-clause-rest c =
    behind c.self.inside.sent c.min-count.result c.write_u64.new.buf c.args.out.now c.take_front.new.out c.write_u64.ensures (omega (arith, c.fits-out)) (omega (arith, c.take_front.auto.out)) (omega (arith, c.min-count.ensures)) c.take_front.ensures.rest
