use Rattle.std.proofs.Common.{◌≡◌, ℕ, ◌+◌, ◌-◌, ◌≤◌, ◌++◌, List, length, take, drop, sym, ap, ◌∙◌, arith, refl}
use Rattle.std.proofs.lemmas.Grind.{common_steps}
use Rattle.std.proofs.lemmas.List.{length-take-le, with_items_is}
use Rattle.mt_session.specs.Buffer.{held}
use Rattle.mt_session.proofs.main_stream.fill.Goals as goal

held_more : (start e n : ℕ) (room after bytes old : List ℕ) → start ≡ 0 → take (e + n) after ≡ take e room ++ bytes → drop start (take e room) ≡ old → drop start (take (e + n) after) ≡ old ++ bytes
held_more start e n room after bytes old zero h is =
    ap (λ i. drop i (take (e + n) after)) zero ∙ h ∙ ap (λ l. l ++ bytes) (sym (ap (λ i. drop i (take e room)) zero) ∙ is)

held_length : (start e : ℕ) (room old : List ℕ) → start ≡ 0 → e ≤ length room → drop start (take e room) ≡ old → length old ≡ e
held_length start e room old zero h is = ap length (sym is) ∙ ap (λ i. length (drop i (take e room))) zero ∙ length-take-le e room h

sizes : (n e len size old : ℕ) → n ≡ len - e → e ≤ len → len ≡ size → size ≡ 65536 → old ≡ e → n + old ≡ 65536
sizes n e len size old a b c d f = omega (arith, a, b, c, d, f)

pub returns : goal.returns
returns g c =
    let m = c.move_to_front.new.self in
    let p = c.pour-count.ensures.adds in
    let room = c.deref_mut.result.now in
    let within : m.end ≤ length room = grind (arith, common_steps, c.deref_mut.ensures.len, m.within, m.size) in
    let is : drop m.start (take m.end room) ≡ held c.args.output.now = ap (λ l. drop m.start (take m.end l)) c.deref_mut.ensures.value ∙ c.move_to_front.ensures.held in
    let len = held_length m.start m.end _ _ c.move_to_front.ensures.start within is in
    (length room - m.end, p.0, sizes _ m.end (length room) _ _ refl within c.deref_mut.ensures.len m.size len, p.1, held_more m.start m.end _ room _ p.0 _ c.move_to_front.ensures.start (ap (take (m.end + c.pour-count.result)) (with_items_is m.room c.pour-count.new.room (c.pour-count.auto.room ∙ c.deref_mut.ensures.len)) ∙ p.2) is, p.3)
