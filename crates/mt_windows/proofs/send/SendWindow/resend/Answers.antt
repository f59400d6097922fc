use Rattle.std.proofs.Common.{◌≡◌, ◌+◌, ◌-◌, ◌<◌, true, length, drop, [], ◌∷◌, ◌++◌, sym, ap, ◌∙◌, refl, subst, arith}
use Rattle.std.proofs.lemmas.List.{take_at}
use Rattle.mt_windows.specs.FlightView.{flight_at, bytes_in}
use Rattle.mt_windows.specs.SendingView.{Outbox, Sends, queued_of, is_unsettled}
use Rattle.mt_windows.proofs.Sendings.{carried_slot, unsettled_facts, in_flight_piece, bytes_kept, resend_step}
use Rattle.mt_windows.proofs.send.SendWindow.resend.Goals as goal

pub returns-clause-bytes : goal.returns-clause-bytes
returns-clause-bytes g c first t h =
    let w = c.self.inside in
    let v : Outbox = record { first = w.first; waiting = w.waiting.items; base = w.base; cut = w.cut; made = w.made; told = w.told; second = w.second; third = w.third; flights = w.flights; carried = w.carried.items } in
    let now = subst (λ u. Sends u first t) (sym c.self.view_is) h in
    let there = unsettled_facts v c.args.part (subst (λ u. is_unsettled u c.args.part ≡ true) (sym c.self.view_is) c.requires.unsettled) in
    let i = c.self.invariant.sound in
    let k = c.args.part - w.first - w.base in
    let read = carried_slot w.flights k w.made c.carry.new.self c.get.result.now (omega (arith, i.places, i.cut_bound, there.0, there.1)) c.carry.ensures c.get.ensures in
    let bytes = in_flight_piece v first t k (c.args.part - first) (flight_at w.flights k) c.bytes-bytes.result.now now refl (sym read ∙ c.bytes-bytes.ensures.bytes) (omega (arith, there.0, now.first_is)) in
    take_at c.copy_from_slice.new.self _ (length c.bytes-bytes.result.now) (ap length c.copy_from_slice.ensures.after) ∙ c.copy_from_slice.ensures.after ∙ sym bytes

pub returns-clause-holds : goal.returns-clause-holds
returns-clause-holds g c first t h =
    let w = c.self.inside in
    let v : Outbox = record { first = w.first; waiting = w.waiting.items; base = w.base; cut = w.cut; made = w.made; told = w.told; second = w.second; third = w.third; flights = w.flights; carried = w.carried.items } in
    let now = subst (λ u. Sends u first t) (sym c.self.view_is) h in
    let there = unsettled_facts v c.args.part (subst (λ u. is_unsettled u c.args.part ≡ true) (sym c.self.view_is) c.requires.unsettled) in
    let i = c.self.invariant.sound in
    let k = c.args.part - w.first - w.base in
    let number : c.args.part - w.first ≡ c.args.part - first = ap (λ n. c.args.part - n) now.first_is in
    resend_step v first t k (c.args.part - first) _ _ now i.base_bound (omega (arith, i.places, i.cut_bound)) (omega (arith, i.places, i.cut_bound, there.0, there.1)) (omega (arith, there.0, now.first_is)) (omega (arith, there.0, there.1, now.first_is))
    c.carry.ensures
    (c.remember.ensures.items ∙ ap (λ n. drop (length w.carried.items + 1 - n) (w.carried.items ++ (c.args.part - w.first) ∷ [])) c.self.invariant.memory ∙ ap (λ n. drop (length w.carried.items + 1 - 4096) (w.carried.items ++ n ∷ [])) number)

pub returns-clause-queued : goal.returns-clause-queued
returns-clause-queued g c =
    let w = c.self.inside in
    let v : Outbox = record { first = w.first; waiting = w.waiting.items; base = w.base; cut = w.cut; made = w.made; told = w.told; second = w.second; third = w.third; flights = w.flights; carried = w.carried.items } in
    let there = unsettled_facts v c.args.part (subst (λ u. is_unsettled u c.args.part ≡ true) (sym c.self.view_is) c.requires.unsettled) in
    let i = c.self.invariant.sound in
    let k = c.args.part - w.first - w.base in
    let l : k < length w.flights = omega (arith, i.places, i.cut_bound, there.0, there.1) in
    ap (λ n. length w.waiting.items + n) (ap bytes_in c.carry.ensures ∙ bytes_kept w.flights k (flight_at w.flights k) (record (flight_at w.flights k) { latest = w.made }) l refl refl) ∙ ap queued_of c.self.view_is
