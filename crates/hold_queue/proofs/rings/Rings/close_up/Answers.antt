use Rattle.std.proofs.Common.{◌≡◌, ◌-◌, [], ◌++◌, length, refl, sym, ap, ◌∙◌, subst, arith, rules}
use Rattle.std.proofs.lemmas.List.{append-nil}
use Rattle.hold_queue.specs.Stored.{held_in, left}
use Rattle.hold_queue.proofs.Turns.{turned_by, all_turned, staying, staying_bytes, held_staying, staying_are_held, weight_dense, closed}
use Rattle.hold_queue.proofs.rings.Rings.close_up.Goals as goal

pub returns-clause-held : goal.returns-clause-held
returns-clause-held c =
    let old = c.args.self.now in
    let new = c.loop-turn.self in
    let none : c.len-turn-end.result - c.loop-turn._turn ≡ 0 = omega arith in
    let count : c.len-turn-end.result ≡ length old.records.items = search rules in
    (closed c.args.leaving old.records.items new.records.items old.bytes.items new.bytes.items _ _ none count c.requires.stored c.loop-turn.invariant.stored c.loop-turn.invariant.turned).0

pub returns-clause-dense : goal.returns-clause-dense
returns-clause-dense c =
    let old = c.args.self.now in
    let new = c.loop-turn.self in
    let none : c.len-turn-end.result - c.loop-turn._turn ≡ 0 = omega arith in
    let count : c.len-turn-end.result ≡ length old.records.items = search rules in
    (closed c.args.leaving old.records.items new.records.items old.bytes.items new.bytes.items _ _ none count c.requires.stored c.loop-turn.invariant.stored c.loop-turn.invariant.turned).1
