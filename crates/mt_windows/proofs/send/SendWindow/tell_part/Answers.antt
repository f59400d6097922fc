use Rattle.std.proofs.Common.{inl, inr, sym, ap, ◌∙◌, subst}
use Rattle.mt_windows.specs.Sending.{tells_part}
use Rattle.mt_windows.specs.SendingView.{Sends, heard_of}
use Rattle.mt_windows.proofs.Telling.{part_outside, part_missing, part_told}
use Rattle.mt_windows.proofs.send.SendWindow.tell_part.Goals as goal
use Rattle.mt_windows.proofs.send.SendWindow.tell_part.Goals.{then-part-self-via-then-part-self, then-part-self-via-else-part-self+then-part-self-2}

pub returns-then-part-self-clause-holds : goal.returns-then-part-self-clause-holds
returns-then-part-self-clause-holds g c first t h =
    let now = subst (λ w. Sends w first t) (sym c.self.view_is) h in
    elim c.then-part-self.branch [
      | then-part-self-via-then-part-self w ↦ subst (λ v. Sends v first (tells_part first c.args.part t)) c.self.view_is (part_outside _ first t c.args.part now (inl w.if-part-self.true))
      | then-part-self-via-else-part-self+then-part-self-2 w ↦ subst (λ v. Sends v first (tells_part first c.args.part t)) c.self.view_is (part_outside _ first t c.args.part now (inr w.if-part-self-2.true))
    ]

pub returns-then-not-is_filled-clause-holds : goal.returns-then-not-is_filled-clause-holds
returns-then-not-is_filled-clause-holds g c first t h =
    let now = subst (λ w. Sends w first t) (sym c.self.view_is) h in
    subst (λ v. Sends v first (tells_part first c.args.part t)) c.self.view_is (part_missing _ first t c.args.part c.get-flight.result.now now c.get-flight.ensures c.if-part-self.false (sym c.if-not-is_filled.ensures))

pub returns-clause-holds : goal.returns-clause-holds
returns-clause-holds g c first t h =
    let now = subst (λ w. Sends w first t) (sym c.self.view_is) h in
    let i = c.self.invariant.sound in
    part_told _ c.hear.new.self c.settle.new.self first t c.args.part c.get-flight.result.now now i c.get-flight.ensures c.if-part-self.false (sym c.if-not-is_filled.ensures) (c.hear.ensures.heard ∙ ap (λ w. heard_of w c.get-flight.result.now.latest) (sym c.self.view_is)) c.settle.ensures.same c.settle.ensures.flying c.settle.ensures.front c.settle.ensures.queued c.settle.ensures.places c.settle.ensures.bound
