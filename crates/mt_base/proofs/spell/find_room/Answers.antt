use Rattle.mt_base.proofs.Filled.{room_walked}
use Rattle.mt_base.proofs.spell.find_room.Goals as goal

pub returns-clause-found : goal.returns-clause-found
returns-clause-found g c = (room_walked (g.S.Spell.fields c.args.value.now) c.args.out.now _ _ c.spell.result c.new.ensures c.spell.ensures.filled).found

pub returns-clause-refused : goal.returns-clause-refused
returns-clause-refused g c = (room_walked (g.S.Spell.fields c.args.value.now) c.args.out.now _ _ c.spell.result c.new.ensures c.spell.ensures.filled).refused
