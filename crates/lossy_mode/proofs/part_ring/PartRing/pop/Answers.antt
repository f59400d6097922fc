use Rattle.std.proofs.Common.{◌≡◌, ℕ, ◌≤◌, length, drop, sym, ap, ◌∙◌, subst, arith}
use Rattle.std.specs.Option.{IfSome}
use Rattle.std.proofs.lemmas.List.{length-take-le}
use Rattle.carrier.specs.PerfectThin.{first_part}
use Rattle.circular_buffer.specs.Buffer.{Buffer}
use Rattle.lossy_mode.proofs.RingLemmas.{first_fits, popped_stored}
use Rattle.lossy_mode.proofs.part_ring.PartRing.pop.Goals as goal

read : (c : goal.After-slice_known-in-Some-1) → c.in-Some.length ≤ length c.self.inside.bytes.items → c.read_into.result ≡ c.in-Some.length
read c there =
    let fits = subst (λ parts. IfSome (first_part parts) (λ part. length part ≤ length c.args.out.now)) (sym c.self.view_is) c.requires.fits in
    let within = first_fits c.self.inside.lengths.items c.self.inside.bytes.items c.in-Some.length (length c.args.out.now) (sym c.pop_front.ensures.value ∙ c.in-Some.is) fits there in
    omega (arith, c.read_into.ensures.count, length-take-le c.in-Some.length c.args.out.now within, there)

pub invariant_of-self : goal.invariant_of-self
invariant_of-self c =
    let lengths : c.pop_front.new.self.items ≡ drop 1 c.self.inside.lengths.items = ap (λ (b : Buffer ℕ). b.items) c.pop_front.ensures.items in
    let bytes : c.read_into.new.self.items ≡ drop c.read_into.result c.self.inside.bytes.items = ap (λ (b : Buffer ℕ). b.items) c.read_into.ensures.items in
    record {
      stored = popped_stored c.self.inside.lengths.items c.self.inside.bytes.items c.pop_front.new.self.items c.read_into.new.self.items c.in-Some.length c.read_into.result (sym c.pop_front.ensures.value ∙ c.in-Some.is) c.self.invariant.stored lengths bytes (λ there. read c there);
      lengths_room = ap (λ (b : Buffer ℕ). b.capacity) c.pop_front.ensures.items ∙ c.self.invariant.lengths_room;
      bytes_room = ap (λ (b : Buffer ℕ). b.capacity) c.read_into.ensures.items ∙ c.self.invariant.bytes_room;
    }
