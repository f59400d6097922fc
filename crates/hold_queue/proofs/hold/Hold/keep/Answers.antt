use Rattle.std.proofs.Common.{◌≡◌, ◌∷◌, [], ◌++◌, sym, ap, ◌∙◌, subst, arith, length, rules}
use Rattle.circular_buffer.specs.Buffer.{buffer}
use Rattle.hold_queue.specs.Held.{weight, pdu_of}
use Rattle.hold_queue.specs.Stored.{held_in, IsStored, record_of}
use Rattle.hold_queue.proofs.Records.{weight-append}
use Rattle.hold_queue.proofs.Releasing.{kept_stored, kept_held}
use Rattle.hold_queue.proofs.hold.Hold.keep.Goals as goal

pub invariant_of-self : goal.invariant_of-self
invariant_of-self c =
    let old = c.self.inside in
    let mid = c.make_place.new.self in
    let new = c.append.new.self in
    let made = c.make_place.ensures in
    let pdu = c.args.pdu.now in
    let records : new.records.items ≡ mid.records.items ++ (record_of c.args.id c.args.at (length pdu) ∷ []) = ap (λ b. b.items) c.append.ensures.records in
    let bytes : new.bytes.items ≡ mid.bytes.items ++ pdu = ap (λ b. b.items) c.append.ensures.bytes in
    let room : new.records.capacity ≡ 131072 = ap (λ b. b.capacity) c.append.ensures.records ∙ made.room.0 in
    let bytes_room : new.bytes.capacity ≡ 2097152 = ap (λ b. b.capacity) c.append.ensures.bytes ∙ made.room.1 in
    let place = made.place in
    let short = c.requires.short in
    let fits = c.requires.fits in
    let stored = kept_stored c.args.id c.args.at mid.records.items mid.bytes.items pdu made.stored short (omega (arith, place.0)) (omega (arith, place.1)) in
    let held : held_in new.records.items new.bytes.items ≡ held_in old.rings.records.items old.rings.bytes.items ++ (pdu_of c.args.id c.args.at pdu ∷ []) =
    ap (λ t. held_in t new.bytes.items) records ∙ ap (λ t. held_in (mid.records.items ++ (record_of c.args.id c.args.at (length pdu) ∷ [])) t) bytes
    ∙ kept_held c.args.id c.args.at mid.records.items mid.bytes.items pdu made.stored ∙ ap (λ t. t ++ (pdu_of c.args.id c.args.at pdu ∷ [])) made.held in
    let weight_is = ap weight held ∙ weight-append (held_in old.rings.records.items old.rings.bytes.items) (pdu_of c.args.id c.args.at pdu ∷ []) in
    let counted = (c.self.invariant).3 in
    let same = ap weight c.self.view_is in (
      subst (λ t. IsStored t new.bytes.items) (sym records) (subst (λ t. IsStored (mid.records.items ++ (record_of c.args.id c.args.at (length pdu) ∷ [])) t) (sym bytes) stored),
      room,
      bytes_room,
      omega (arith, weight_is, counted),
      omega (arith, counted, same, fits),
    )

pub returns : goal.returns
returns c =
    let old = c.self.inside in
    let mid = c.make_place.new.self in
    let new = c.append.new.self in
    let made = c.make_place.ensures in
    let pdu = c.args.pdu.now in
    let records : new.records.items ≡ mid.records.items ++ (record_of c.args.id c.args.at (length pdu) ∷ []) = ap (λ b. b.items) c.append.ensures.records in
    let bytes : new.bytes.items ≡ mid.bytes.items ++ pdu = ap (λ b. b.items) c.append.ensures.bytes in
    ap (λ t. held_in t new.bytes.items) records ∙ ap (λ t. held_in (mid.records.items ++ (record_of c.args.id c.args.at (length pdu) ∷ [])) t) bytes
    ∙ kept_held c.args.id c.args.at mid.records.items mid.bytes.items pdu made.stored ∙ ap (λ t. t ++ (pdu_of c.args.id c.args.at pdu ∷ [])) (made.held ∙ c.self.view_is)
