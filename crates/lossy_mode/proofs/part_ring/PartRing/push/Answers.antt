use Rattle.std.proofs.Common.{◌≡◌, ℕ, ◌<◌, ◌++◌, ◌∷◌, [], length, sym, ap, ◌∙◌, subst, arith}
use Rattle.circular_buffer.specs.Buffer.{Buffer}
use Rattle.lossy_mode.specs.Rings.{IsStored, parts_of}
use Rattle.lossy_mode.proofs.RingLemmas.{filled_bytes, has_place, length-parts_of, pushed_lengths, pushed_parts, stored_push}
use Rattle.lossy_mode.proofs.part_ring.PartRing.push.Goals as goal

few : (c : goal.After-fill_from_slice) → length c.self.inside.lengths.items < 64
few c =
    let count = sym (length-parts_of c.self.inside.lengths.items c.self.inside.bytes.items) ∙ ap length c.self.view_is in
    omega (arith, count, c.requires.room)

lengths_are : (c : goal.After-fill_from_slice) → c.push_back.new.self.items ≡ c.self.inside.lengths.items ++ length c.args.part.now ∷ []
lengths_are c =
    ap (λ (b : Buffer ℕ). b.items) c.push_back.ensures.items
    ∙ pushed_lengths c.self.inside.lengths.items (length c.args.part.now) c.self.inside.lengths.capacity (omega (arith, few c, c.self.invariant.lengths_room))

bytes_are : (c : goal.After-fill_from_slice) → c.fill_from_slice.new.self.items ≡ c.self.inside.bytes.items ++ c.args.part.now
bytes_are c =
    let place = has_place c.self.inside.lengths.items c.self.inside.bytes.items c.self.invariant.stored (few c) in
    ap (λ (b : Buffer ℕ). b.items) c.fill_from_slice.ensures.items
    ∙ filled_bytes c.self.inside.bytes.items c.args.part.now c.fill_from_slice.result c.self.inside.bytes.capacity c.fill_from_slice.ensures.count (omega (arith, place, c.requires.short, c.self.invariant.bytes_room))

pub invariant_of-self : goal.invariant_of-self
invariant_of-self c =
    let stored = stored_push c.self.inside.lengths.items c.self.inside.bytes.items c.args.part.now c.self.invariant.stored c.requires.short (few c) in
    record {
      stored = subst (λ l. IsStored l c.fill_from_slice.new.self.items) (sym (lengths_are c))
          (subst (λ b. IsStored (c.self.inside.lengths.items ++ length c.args.part.now ∷ []) b) (sym (bytes_are c)) stored);
      lengths_room = ap (λ (b : Buffer ℕ). b.capacity) c.push_back.ensures.items ∙ c.self.invariant.lengths_room;
      bytes_room = ap (λ (b : Buffer ℕ). b.capacity) c.fill_from_slice.ensures.items ∙ c.self.invariant.bytes_room;
    }

pub returns : goal.returns
returns c =
    ap (λ l. parts_of l c.fill_from_slice.new.self.items) (lengths_are c)
    ∙ ap (parts_of (c.self.inside.lengths.items ++ length c.args.part.now ∷ [])) (bytes_are c)
    ∙ pushed_parts c.self.inside.lengths.items c.self.inside.bytes.items c.args.part.now c.self.invariant.stored.total_is
    ∙ ap (λ ps. ps ++ c.args.part.now ∷ []) c.self.view_is
