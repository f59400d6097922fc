use Rattle.std.proofs.Common.{◌≡◌, ◌∷◌, [], ◌++◌, length, take, drop, Some, None, option_map, refl, sym, ap, ◌∙◌, subst, arith, rules, length-take, slice_get}
use Rattle.hold_queue.specs.Held.{Pdu, weight, oldest, without_oldest, with_bytes}
use Rattle.hold_queue.specs.Stored.{held_in}
use Rattle.std.proofs.lemmas.List.{length-take-le}
use Rattle.hold_queue.proofs.Records.{none_oldest, none_without}
use Rattle.hold_queue.proofs.Releasing.{released, removed, given}
use Rattle.hold_queue.proofs.hold.Hold.release.Goals as goal

pub returns-in_err-index-clause-released : goal.returns-in_err-index-clause-released
returns-in_err-index-clause-released c =
    let m = c.self.inside.rings in
    let none : oldest c.args.id c.args.self.now ≡ None =
    subst (λ h. oldest c.args.id h ≡ None) c.self.view_is (none_oldest c.args.id m.records.items m.bytes.items c.in_err-index.ensures.none) in
    c.from_residual.ensures ∙ sym (ap (λ o. option_map (λ (pdu : Pdu). (pdu.at, length pdu.bytes)) o) none)

pub returns-in_err-index-clause-bytes : goal.returns-in_err-index-clause-bytes
returns-in_err-index-clause-bytes c =
    let m = c.self.inside.rings in
    let none : oldest c.args.id c.args.self.now ≡ None =
    subst (λ h. oldest c.args.id h ≡ None) c.self.view_is (none_oldest c.args.id m.records.items m.bytes.items c.in_err-index.ensures.none) in
    sym (ap (λ o. with_bytes o c.args.out.now) none)

pub returns-in_err-index-clause-removed : goal.returns-in_err-index-clause-removed
returns-in_err-index-clause-removed c =
    let m = c.self.inside.rings in
    subst (λ h. h ≡ without_oldest c.args.id h) c.self.view_is (sym (none_without c.args.id m.records.items m.bytes.items c.in_err-index.ensures.none))

pub slice_bounds-copy_at-end : goal.slice_bounds-copy_at-end
slice_bounds-copy_at-end c =
    let m = c.self.inside.rings in
    let k = c.in_ok-index in
    let f = released c.args.id k.index k.place m.records.items m.bytes.items c.args.self.now k.record k.ensures.first (c.self.invariant).0 c.self.view_is in
    let short = f.short in
    omega arith

pub copy_at-requires : goal.copy_at-requires
copy_at-requires c =
    let m = c.self.inside.rings in
    let k = c.in_ok-index in
    let f = released c.args.id k.index k.place m.records.items m.bytes.items c.args.self.now k.record k.ensures.first (c.self.invariant).0 c.self.view_is in
    let within = f.within in
    omega (arith, within, length-take k.record.length c.args.out.now)

pub overflow_sub-self : goal.overflow_sub-self
overflow_sub-self c =
    let m = c.self.inside.rings in
    let k = c.in_ok-index in
    let f = released c.args.id k.index k.place m.records.items m.bytes.items c.args.self.now k.record k.ensures.first (c.self.invariant).0 c.self.view_is in
    let counted = (c.self.invariant).3 in
    let weight_is = f.weight_is in
    let same = ap weight c.self.view_is in
    omega (arith, counted, weight_is, same)

pub invariant_of-self : goal.invariant_of-self
invariant_of-self c =
    let m = c.self.inside.rings in
    let k = c.in_ok-index in
    let f = released c.args.id k.index k.place m.records.items m.bytes.items c.args.self.now k.record k.ensures.first (c.self.invariant).0 c.self.view_is in
    let counted = (c.self.invariant).3 in
    let within = (c.self.invariant).4 in
    let room = (c.self.invariant).1 in
    let bytes_room = (c.self.invariant).2 in
    let weight_is = f.weight_is in
    let same = ap weight c.self.view_is in
    let left : held_in c.forget.new.self.records.items c.forget.new.self.bytes.items ≡ without_oldest c.args.id c.args.self.now =
    c.forget.ensures.held k.record (k.ensures.first).is ∙ removed c.args.id k.index k.place m.records.items m.bytes.items c.args.self.now k.record k.ensures.first c.self.view_is in
    let weight_left = ap weight left in
    (c.forget.ensures.stored, c.forget.ensures.same.0 ∙ room, c.forget.ensures.same.1 ∙ bytes_room, omega (arith, counted, weight_is, same, weight_left), omega (arith, within))

pub returns-clause-released : goal.returns-clause-released
returns-clause-released c =
    let m = c.self.inside.rings in
    let k = c.in_ok-index in
    let f = released c.args.id k.index k.place m.records.items m.bytes.items c.args.self.now k.record k.ensures.first (c.self.invariant).0 c.self.view_is in
    ap (λ n. Some (k.record.at, n)) (sym f.length_is) ∙ sym (ap (λ o. option_map (λ (pdu : Pdu). (pdu.at, length pdu.bytes)) o) f.oldest_is)

pub returns-clause-bytes : goal.returns-clause-bytes
returns-clause-bytes c =
    let m = c.self.inside.rings in
    let k = c.in_ok-index in
    let f = released c.args.id k.index k.place m.records.items m.bytes.items c.args.self.now k.record k.ensures.first (c.self.invariant).0 c.self.view_is in
    let g = given c.args.id k.place m.bytes.items c.args.out.now c.args.self.now k.record f in
    let e = c.copy_at.ensures in
    let n : length (take k.record.length c.args.out.now) ≡ k.record.length = length-take-le k.record.length c.args.out.now (omega (arith, f.short)) in
    rw (e, n) g

pub returns-clause-removed : goal.returns-clause-removed
returns-clause-removed c =
    let m = c.self.inside.rings in
    let k = c.in_ok-index in
    c.forget.ensures.held k.record (k.ensures.first).is ∙ removed c.args.id k.index k.place m.records.items m.bytes.items c.args.self.now k.record k.ensures.first c.self.view_is
