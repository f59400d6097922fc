use Rattle.std.proofs.Common.{◌∷◌, map, sym, ap, ◌∙◌}
use Rattle.ack_vector.specs.Elements.{run_of}
use Rattle.ack_vector.specs.RunsView.{runs_left}
use Rattle.mt_show.specs.Words.{run_word}
use Rattle.mt_show.proofs.Joining.{one_more_part}
use Rattle.mt_show.proofs.Runs.{runs_put}
use Rattle.mt_show.proofs.Taken.{all_taken}
use Rattle.mt_show.proofs.packets.runs.Goals as goal

pub loop-next-preserved : goal.loop-next-preserved
loop-next-preserved c =
    one_more_part 44 run_word c.loop-next.yielded c.in-Some-next.next c.run.new.out.bytes.items c.loop-next.out.bytes.items c.put-in-loop-next.new.self.bytes.items c.run-in-loop-next.new.out.bytes.items
    c.loop-next.invariant c.in_ok-put.ensures c.in_ok-run-2.ensures

pub returns : goal.returns
returns c =
    let read = rw c.unwrap-runs.ensures at c.read_runs.ensures.runs in
    let left = all_taken runs_left c.loop-next.yielded c.into_iter-next-iterator.result c.loop-next.next-iterator c.next-in-loop-next.new.self c.loop-next.yielded_by c.in-None.ensures.steps in
    let others = sym (ap runs_left c.into_iter-next-iterator.ensures.into_iter_gives) ∙ left in
    runs_put (map run_of c.args.elements.now) c.loop-next.yielded c.in-Some.first c.args.out.now.bytes.items c.run.new.out.bytes.items c.loop-next.out.bytes.items
    (sym read ∙ c.in-Some.ensures.steps ∙ ap (λ r. c.in-Some.first ∷ r) others) c.in_ok-run.ensures c.loop-next.invariant
