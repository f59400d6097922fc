use Rattle.std.proofs.Common.{◌≡◌, ◌+◌, ◌-◌, Some, true, [], ◌∷◌, ◌++◌, length, take, drop, sym, ap, ◌∙◌, subst, arith, length-drop}
use Rattle.mt_windows.specs.Sending.{next_piece, cuts, transmissions}
use Rattle.mt_windows.specs.SendingView.{Outbox, Sends, limits, queued_of, may_cut_of}
use Rattle.mt_windows.specs.FlightView.{bytes_in}
use Rattle.mt_windows.proofs.Sendings.{flights_bound, may_cut_facts, cut_bytes, cut_step, sound_cut}
use Rattle.mt_windows.proofs.InFlight.{bytes_set}
use Rattle.mt_windows.proofs.send.SendWindow.cut.Goals as goal

pub fill-requires-clause-room : goal.fill-requires-clause-room
fill-requires-clause-room g c = flights_bound _ c.self.invariant.sound

pub invariant_of-self : goal.invariant_of-self
invariant_of-self g c =
    let w = c.self.inside in
    let v : Outbox = record { first = w.first; waiting = w.waiting.items; base = w.base; cut = w.cut; made = w.made; told = w.told; second = w.second; third = w.third; flights = w.flights; carried = w.carried.items } in
    let i = c.self.invariant.sound in
    let facts = may_cut_facts v c.args.window (subst (λ u. may_cut_of u c.args.window ≡ true) (sym c.self.view_is) c.requires) in
    let bytes = cut_bytes w.waiting.items c.take_front-length.new.out c.take_front-length.result c.take_front-length.ensures.count c.take_front-length.ensures.bytes in
    record {
      sound = sound_cut v (take c.take_front-length.result c.take_front-length.new.out) _ _ _ i (omega (arith, bytes.1, c.take_front-length.ensures.count)) (omega (arith, ap length c.take_front-length.ensures.items, length-drop c.take_front-length.result w.waiting.items))
          c.fill.ensures (c.remember.ensures.items ∙ ap (λ n. drop (length w.carried.items + 1 - n) (w.carried.items ++ w.cut ∷ [])) c.self.invariant.memory)
          (omega (arith, facts.0)) facts.2 facts.3 facts.1;
      room = c.take_front-length.ensures.capacity ∙ c.self.invariant.room;
      memory = c.remember.ensures.capacity ∙ c.self.invariant.memory;
    }

pub returns-clause-sent : goal.returns-clause-sent
returns-clause-sent g c first t h =
    let w = c.self.inside in
    let v : Outbox = record { first = w.first; waiting = w.waiting.items; base = w.base; cut = w.cut; made = w.made; told = w.told; second = w.second; third = w.third; flights = w.flights; carried = w.carried.items } in
    let now = subst (λ u. Sends u first t) (sym c.self.view_is) h in
    let bytes = cut_bytes w.waiting.items c.take_front-length.new.out c.take_front-length.result c.take_front-length.ensures.count c.take_front-length.ensures.bytes in
    let size : c.take_front-length.result ≡ length (next_piece limits t) = sym bytes.1 ∙ ap length bytes.0 ∙ ap (λ xs. length (take 1000 xs)) now.waiting_is in
    let part : w.first + w.cut ≡ first + cuts t = omega (arith, now.first_is, now.cut_is) in
    let transmission : w.first + w.made ≡ first + transmissions t = omega (arith, now.first_is, now.made_is) in
    cc

pub returns-clause-bytes : goal.returns-clause-bytes
returns-clause-bytes g c first t h =
    let w = c.self.inside in
    let v : Outbox = record { first = w.first; waiting = w.waiting.items; base = w.base; cut = w.cut; made = w.made; told = w.told; second = w.second; third = w.third; flights = w.flights; carried = w.carried.items } in
    let now = subst (λ u. Sends u first t) (sym c.self.view_is) h in
    let bytes = cut_bytes w.waiting.items c.take_front-length.new.out c.take_front-length.result c.take_front-length.ensures.count c.take_front-length.ensures.bytes in
    bytes.0 ∙ ap (take 1000) now.waiting_is

pub returns-clause-holds : goal.returns-clause-holds
returns-clause-holds g c first t h =
    let w = c.self.inside in
    let v : Outbox = record { first = w.first; waiting = w.waiting.items; base = w.base; cut = w.cut; made = w.made; told = w.told; second = w.second; third = w.third; flights = w.flights; carried = w.carried.items } in
    let i = c.self.invariant.sound in
    let now = subst (λ u. Sends u first t) (sym c.self.view_is) h in
    let facts = may_cut_facts v c.args.window (subst (λ u. may_cut_of u c.args.window ≡ true) (sym c.self.view_is) c.requires) in
    let bytes = cut_bytes w.waiting.items c.take_front-length.new.out c.take_front-length.result c.take_front-length.ensures.count c.take_front-length.ensures.bytes in
    cut_step v first t (take c.take_front-length.result c.take_front-length.new.out) _ _ _ now i.base_bound (omega (arith, facts.0, i.places)) (bytes.0 ∙ ap (take 1000) now.waiting_is)
    (c.take_front-length.ensures.items ∙ ap (λ n. drop n w.waiting.items) (sym bytes.1))
    c.fill.ensures (c.remember.ensures.items ∙ ap (λ n. drop (length w.carried.items + 1 - n) (w.carried.items ++ w.cut ∷ [])) c.self.invariant.memory)

pub returns-clause-queued : goal.returns-clause-queued
returns-clause-queued g c =
    let w = c.self.inside in
    let v : Outbox = record { first = w.first; waiting = w.waiting.items; base = w.base; cut = w.cut; made = w.made; told = w.told; second = w.second; third = w.third; flights = w.flights; carried = w.carried.items } in
    let i = c.self.invariant.sound in
    let facts = may_cut_facts v c.args.window (subst (λ u. may_cut_of u c.args.window ≡ true) (sym c.self.view_is) c.requires) in
    let bytes = cut_bytes w.waiting.items c.take_front-length.new.out c.take_front-length.result c.take_front-length.ensures.count c.take_front-length.ensures.bytes in
    let row = bytes_set w.flights (w.cut - w.base) (record { slot = Some (take c.take_front-length.result c.take_front-length.new.out); earliest = w.made; latest = w.made }) (omega (arith, facts.0, i.places, i.base_bound)) in
    let same = ap bytes_in c.fill.ensures in
    omega (arith, row, same, bytes.1, ap length c.take_front-length.ensures.items, length-drop c.take_front-length.result w.waiting.items, ap queued_of c.self.view_is, c.take_front-length.ensures.count)
