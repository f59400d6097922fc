use Rattle.std.proofs.Common.{◌+◌, ◌<◌, length, refl, sym, ◌∙◌, arith}
use Rattle.std.proofs.Math.ListN.{length-set}
use Rattle.mt_outside.proofs.Pieces.{names_more}
use Rattle.file_transfer.proofs.Pieces.{one_more, front_kept, first_set, added_none}
use Rattle.file_transfer.proofs.reading.read_piece.Goals as goal

pub returns-in_err-more-clause-names : goal.returns-in_err-more-clause-names
returns-in_err-more-clause-names g c =
    let before = c.loop-count.invariant.names in
    (before.0 + 1, names_more _ _ _ _ before.0 before.1 c.read_behind.ensures.name)

pub loop-count-preserved : goal.loop-count-preserved
loop-count-preserved g c =
    let i = c.loop-count.invariant in
    let e = c.in_ok-more.ensures in
    let auto = c.read_behind.auto.room in
    record {
      counts = e.counts ∙ i.counts;
      same = e.same ∙ i.same;
      names = (i.names.0 + 1, names_more _ _ _ _ i.names.0 i.names.1 e.name);
      within = omega (arith, e.bound, auto);
      front = front_kept c.loop-count.room c.read_behind.new.room _ c.loop-count.count e.front i.front;
      bytes = λ content holds.
          let there : c.loop-count.count + 1 < length c.loop-count.room = omega arith in
          one_more content c.loop-count.room c.read_behind.new.room c.args.from c.loop-count.count c.in_ok-more.more e.front (i.bytes content holds) (e.bytes content (rw i.same holds) there);
    }

pub returns-then-more-eq0-clause-names : goal.returns-then-more-eq0-clause-names
returns-then-more-eq0-clause-names g c =
    let before = c.loop-count.invariant.names in
    (before.0 + 1, names_more _ _ _ _ before.0 before.1 c.read_behind.ensures.name)

pub returns-then-more-eq0-clause-front : goal.returns-then-more-eq0-clause-front
returns-then-more-eq0-clause-front g c = front_kept c.loop-count.room c.read_behind.new.room _ c.loop-count.count c.in_ok-more.ensures.front c.loop-count.invariant.front

pub loop-count-init : goal.loop-count-init
loop-count-init g c = record {
  counts = refl;
  same = refl;
  names = (0, sym (added_none _));
  within = rw length-set (omega arith);
  front = first_set c.args.room.now 68 c.requires.some;
  bytes = λ content holds. refl;
}
