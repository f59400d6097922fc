use Rattle.std.proofs.Common.{inl, inr, sym, ◌∙◌, arith}
use Rattle.endpoint.proofs.KeepsLaws.{law_then, same_law}
use Rattle.endpoint.proofs.PullsOn.{ended_short, ended_stopped, fewer, pulling_first, pulling_on, stopped_at}
use Rattle.endpoint.proofs.pulling.pull_all.Goals as goal

pub loop-is_whole-init : goal.loop-is_whole-init
loop-is_whole-init g c = record {
  lawful = c.requires.lawful;
  room = inl (omega arith);
  law = same_law g.C.Carrier.law c.args.link.now;
  pulling = λ unread sent role p t queued way. pulling_first _ _ _ _ unread sent role p t queued c.args.reader.now c.args.link.now way;
}

pub loop-is_whole-preserved : goal.loop-is_whole-preserved
loop-is_whole-preserved g c =
    let before = c.loop-is_whole.invariant in
    let did = c.pull_one-is_whole.ensures in
    let stop = c.is_link_stopped.ensures in
    let on = c.if-not-is_link_stopped.true in
    let k = before.lawful in
    let h = did.pulled k.0 k.1 k.2 k.3 k.4 k.5 k.6 in record {
      lawful = (_, k.1, k.2, _, _, _, h.way);
      room = inr (omega (arith, stop.room on, did.main));
      law = law_then g.C.Carrier.law c.args.link.now c.loop-is_whole.link c.pull_one-is_whole.new.link before.law did.law;
      pulling = λ unread sent role p t queued way.
          let so_far = before.pulling unread sent role p t queued way in
          pulling_on _ _ _ _ unread sent role p t queued c.loop-is_whole.is_whole c.pull_one-is_whole.result c.loop-is_whole.reader c.pull_one-is_whole.new.reader c.loop-is_whole.link c.pull_one-is_whole.new.link so_far c.loop-is_whole-test.true (stop.whole on)
          (sym on ∙ stopped_at _ _ _ _ unread sent role p t queued c.queued.result c.loop-is_whole.is_whole c.is_link_stopped.result c.loop-is_whole.reader c.loop-is_whole.link so_far c.queued.ensures stop.stops) (λ u q m n w. did.pulled u sent role q m n w);
    }

pub loop-is_whole-smaller : goal.loop-is_whole-smaller
loop-is_whole-smaller g c = fewer c.loop-is_whole.is_whole c.pull_one-is_whole.result _ _ c.loop-is_whole-test.true c.pull_one-is_whole.ensures.no_more c.pull_one-is_whole.ensures.less

pub returns-else-not-is_link_stopped-clause-pulled : goal.returns-else-not-is_link_stopped-clause-pulled
returns-else-not-is_link_stopped-clause-pulled g c unread sent role p l queued way =
    let so_far = c.loop-is_whole.invariant.pulling unread sent role p l queued way in
    ended_stopped _ _ _ _ unread sent role p l queued c.loop-is_whole.is_whole c.loop-is_whole.reader c.loop-is_whole.link so_far
    (sym c.if-not-is_link_stopped.false ∙ stopped_at _ _ _ _ unread sent role p l queued c.queued.result c.loop-is_whole.is_whole c.is_link_stopped.result c.loop-is_whole.reader c.loop-is_whole.link so_far c.queued.ensures c.is_link_stopped.ensures.stops)

pub returns-after-loop-is_whole-clause-pulled : goal.returns-after-loop-is_whole-clause-pulled
returns-after-loop-is_whole-clause-pulled g c unread sent role p l queued way =
    ended_short _ _ _ _ unread sent role p l queued c.loop-is_whole.is_whole c.loop-is_whole.reader c.loop-is_whole.link (c.loop-is_whole.invariant.pulling unread sent role p l queued way) c.loop-is_whole-test.false
