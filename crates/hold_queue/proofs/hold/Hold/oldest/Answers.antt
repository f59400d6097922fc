use Rattle.std.proofs.Common.{◌≡◌, length, take, Some, None, option_map, sym, ap, ◌∙◌, subst, arith, length-take}
use Rattle.hold_queue.specs.Held.{Pdu, oldest, with_bytes}
use Rattle.std.proofs.lemmas.List.{length-take-le}
use Rattle.hold_queue.proofs.Records.{none_oldest}
use Rattle.hold_queue.proofs.Releasing.{released, given}
use Rattle.hold_queue.proofs.hold.Hold.oldest.Goals as goal

pub returns-in_err-place-clause-found : goal.returns-in_err-place-clause-found
returns-in_err-place-clause-found c =
    let m = c.self.inside.rings in
    let none : oldest c.args.id c.args.self.now ≡ None =
    subst (λ h. oldest c.args.id h ≡ None) c.self.view_is (none_oldest c.args.id m.records.items m.bytes.items c.in_err-place.ensures.none) in
    c.from_residual.ensures ∙ sym (ap (λ o. option_map (λ (pdu : Pdu). (pdu.at, length pdu.bytes)) o) none)

pub returns-in_err-place-clause-bytes : goal.returns-in_err-place-clause-bytes
returns-in_err-place-clause-bytes c =
    let m = c.self.inside.rings in
    let none : oldest c.args.id c.args.self.now ≡ None =
    subst (λ h. oldest c.args.id h ≡ None) c.self.view_is (none_oldest c.args.id m.records.items m.bytes.items c.in_err-place.ensures.none) in
    sym (ap (λ o. with_bytes o c.args.out.now) none)

pub slice_bounds-copy_at-end : goal.slice_bounds-copy_at-end
slice_bounds-copy_at-end c =
    let m = c.self.inside.rings in
    let k = c.in_ok-place in
    let f = released c.args.id _ k.place m.records.items m.bytes.items c.args.self.now k.record k.ensures.first (c.self.invariant).0 c.self.view_is in
    let short = f.short in
    omega arith

pub copy_at-requires : goal.copy_at-requires
copy_at-requires c =
    let m = c.self.inside.rings in
    let k = c.in_ok-place in
    let f = released c.args.id _ k.place m.records.items m.bytes.items c.args.self.now k.record k.ensures.first (c.self.invariant).0 c.self.view_is in
    let within = f.within in
    omega (arith, within, length-take k.record.length c.args.out.now)

pub returns-clause-found : goal.returns-clause-found
returns-clause-found c =
    let m = c.self.inside.rings in
    let k = c.in_ok-place in
    let f = released c.args.id _ k.place m.records.items m.bytes.items c.args.self.now k.record k.ensures.first (c.self.invariant).0 c.self.view_is in
    ap (λ n. Some (k.record.at, n)) (sym f.length_is) ∙ sym (ap (λ o. option_map (λ (pdu : Pdu). (pdu.at, length pdu.bytes)) o) f.oldest_is)

pub returns-clause-bytes : goal.returns-clause-bytes
returns-clause-bytes c =
    let m = c.self.inside.rings in
    let k = c.in_ok-place in
    let f = released c.args.id _ k.place m.records.items m.bytes.items c.args.self.now k.record k.ensures.first (c.self.invariant).0 c.self.view_is in
    let g = given c.args.id k.place m.bytes.items c.args.out.now c.args.self.now k.record f in
    let e = c.copy_at.ensures in
    let n : length (take k.record.length c.args.out.now) ≡ k.record.length = length-take-le k.record.length c.args.out.now (omega (arith, f.short)) in
    rw (e, n) g
