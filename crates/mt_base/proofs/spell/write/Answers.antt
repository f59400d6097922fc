use Rattle.std.proofs.Common.{rules, arith}
use Rattle.mt_base.proofs.Filled.{out_walked, never_stopped}
use Rattle.mt_base.proofs.spell.write.Goals as goal

pub returns-clause-ok : goal.returns-clause-ok
returns-clause-ok g c =
    let o = c.spell.new.place in
    out_walked (g.S.Spell.fields c.args.value.now) c.args.out.now o.bytes.now _ o.at c.at.result _ (omega arith) c.at.ensures (search rules) c.new-place.ensures.start c.in_ok-spell.ensures.filled

pub returns-in_err-spell-clause-no_room : goal.returns-in_err-spell-clause-no_room
returns-in_err-spell-clause-no_room g c = absurd (never_stopped (g.S.Spell.fields c.args.value.now) c.args.out.now _ _ c.in_ok-find_room.ensures.found c.new-place.ensures.start c.in_err-spell.ensures.filled)

pub returns-in_err-spell-clause-unchanged : goal.returns-in_err-spell-clause-unchanged
returns-in_err-spell-clause-unchanged g c = absurd (never_stopped (g.S.Spell.fields c.args.value.now) c.args.out.now _ _ c.in_ok-find_room.ensures.found c.new-place.ensures.start c.in_err-spell.ensures.filled)
