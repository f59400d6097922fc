use Rattle.std.proofs.Common.{length, ◌∙◌, sym, subst, arith}
use Rattle.mt_windows.specs.NotedView.{Covers}
use Rattle.mt_windows.proofs.Marks.{covers_none, covers_next}
use Rattle.mt_windows.proofs.seen.advance.Goals as goal

pub returns-then-greatest-before-ge-TELL-clause-covers : goal.returns-then-greatest-before-ge-TELL-clause-covers
returns-then-greatest-before-ge-TELL-clause-covers c noted above h =
    subst (λ ws. Covers ws c.args.greatest noted) (sym c.clear_all.ensures)
    (covers_none (length c.args.recent.now) c.args.greatest noted (omega (arith, above, c.if-greatest-before-ge-TELL.true)))

pub loop-passed-preserved : goal.loop-passed-preserved
loop-passed-preserved c =
    let i = c.loop-passed.invariant in
    record {
      size = c.clear.ensures.len ∙ i.size;
      from = omega (arith, i.from);
      covers = λ noted above h. covers_next c.loop-passed.recent c.clear.new.self c.loop-passed.passed noted (omega (arith, above, i.from)) (i.covers noted above h) c.clear.ensures.bits;
    }
