use Rattle.std.proofs.Common.{◌+◌, length, sym, ap, ◌∙◌, subst}
use Rattle.mt_windows.specs.SendingView.{Flying, queued_of}
use Rattle.mt_windows.proofs.InFlight.{past_rebased, settled_front, front_there, flying_turned, bytes_turned}
use Rattle.mt_windows.proofs.send.SendWindow.pass_settled.Goals as goal

pub loop-self-preserved : goal.loop-self-preserved
loop-self-preserved g c =
    let w = c.loop-self.self in
    let i = c.loop-self.invariant in
    let step = c.pass_front.ensures in
    let none = settled_front w.base w.cut _ (sym c.loop-self-test.ensures.settled) in
    record {
      same = past_rebased _ w c.pass_front.new.self i.same step;
      flying = λ bytes opens early late h.
          subst (λ v. Flying v.flights v.base bytes opens early late) (sym step) (flying_turned w.flights w.base bytes opens early late none (i.flying bytes opens early late h));
      queued = ap queued_of step ∙ ap (λ n. length w.waiting + n) (bytes_turned w.flights) ∙ i.queued;
    }

pub returns-clause-front : goal.returns-clause-front
returns-clause-front g c = front_there _ _ _ c.loop-self-test.ensures.bound (sym c.loop-self-test.ensures.settled)
