use Rattle.std.proofs.Common.{inl, inr, ℕ, List, is_some, length, length-append, sym, ap, ◌∙◌, arith}
use Rattle.std.proofs.lemmas.List.{length-drop}
use Rattle.endpoint.proofs.Ahead.{ended_by_stop, going_first, none_of}
use Rattle.endpoint.proofs.KeepsLaws.{keeps_same, keeps_then}
use Rattle.endpoint.proofs.Turning.{slice_is, turns_broken, turns_on}
use Rattle.endpoint.proofs.main_reading.read_all.Goals as goal

pub loop-taken-init : goal.loop-taken-init
loop-taken-init g c = record {
  within = omega arith;
  lawful = c.requires.lawful;
  room = inl (omega arith);
  law = keeps_same g.C.Carrier.law c.args.reliable.now;
  going = λ unread sent role p l queued way. going_first _ _ _ _ unread sent role p l queued c.args.bytes.now c.args.reader.now c.args.reliable.now way;
}

pub returns-then-is_some-clause-read : goal.returns-then-is_some-clause-read
returns-then-is_some-clause-read g c unread sent role p l queued way =
    let did = c.read_frame-taken.ensures in
    turns_broken _ _ _ _ unread sent role p l queued c.args.bytes.now c.loop-taken.taken c.read_frame-taken.result c.loop-taken.reader _ c.loop-taken.reliable c.read_frame-taken.new.reliable (c.loop-taken.invariant.going unread sent role p l queued way)
    (λ q m on. sym c.if-not-is_stopped.true ∙ c.is_stopped.ensures.stopped unread sent role p q m queued on) (λ q m n on. did.reached unread sent role q m n on) (λ q m n on. did.frame unread sent role q m n on) did.count
    (ap is_some (sym c.broken.ensures) ∙ sym c.is_some.ensures ∙ c.if-is_some.true)

pub loop-taken-preserved : goal.loop-taken-preserved
loop-taken-preserved g c =
    let before = c.loop-taken.invariant in
    let did = c.read_frame-taken.ensures in
    let k = before.lawful in
    let h = did.reached k.0 k.1 k.2 k.3 k.4 k.5 k.6 in record {
      within = omega (arith, before.within, did.count.1, ap (λ (b : List ℕ). length b) (slice_is c.loop-taken.taken c.args.bytes.now), length-drop c.loop-taken.taken c.args.bytes.now);
      lawful = (k.0, k.1, k.2, _, _, _, h.way);
      room = inr (omega (arith, c.is_stopped.ensures.room c.if-not-is_stopped.true, did.main));
      law = keeps_then g.C.Carrier.law c.args.reliable.now c.loop-taken.reliable c.read_frame-taken.new.reliable before.law did.law;
      going = λ unread sent role p l queued way.
          turns_on _ _ _ _ unread sent role p l queued c.args.bytes.now c.loop-taken.taken c.read_frame-taken.result c.loop-taken.reader _ c.loop-taken.reliable c.read_frame-taken.new.reliable (before.going unread sent role p l queued way)
          (λ q m on. sym c.if-not-is_stopped.true ∙ c.is_stopped.ensures.stopped unread sent role p q m queued on) (λ q m n on. did.reached unread sent role q m n on) (λ q m n on. did.frame unread sent role q m n on) did.count
          (none_of _ (ap is_some (sym c.broken.ensures) ∙ sym c.is_some.ensures ∙ c.if-is_some.false));
    }

pub returns-else-not-is_stopped-clause-read : goal.returns-else-not-is_stopped-clause-read
returns-else-not-is_stopped-clause-read g c unread sent role p l queued way =
    ended_by_stop _ _ _ _ unread sent role p l queued c.args.bytes.now c.loop-taken.taken c.loop-taken.reader c.loop-taken.reliable (c.loop-taken.invariant.going unread sent role p l queued way)
    (λ so_far. inr (sym (c.is_stopped.ensures.stopped unread sent role p _ _ queued so_far.way) ∙ c.if-not-is_stopped.false))

pub returns-after-loop-taken-clause-read : goal.returns-after-loop-taken-clause-read
returns-after-loop-taken-clause-read g c unread sent role p l queued way =
    ended_by_stop _ _ _ _ unread sent role p l queued c.args.bytes.now c.loop-taken.taken c.loop-taken.reader c.loop-taken.reliable (c.loop-taken.invariant.going unread sent role p l queued way)
    (λ so_far. inl (omega (arith, c.loop-taken-test.false, ap (λ (b : List ℕ). length b) so_far.split, length-append so_far.done so_far.rest, so_far.long)))

pub returns-then-is_some-clause-law : goal.returns-then-is_some-clause-law
returns-then-is_some-clause-law g c = keeps_then g.C.Carrier.law c.args.reliable.now c.loop-taken.reliable c.read_frame-taken.new.reliable c.loop-taken.invariant.law c.read_frame-taken.ensures.law
