use Rattle.std.proofs.Common.{ℕ, ◌+◌, ◌*◌, length, ap, refl, subst, sym}
use Rattle.circular_buffer.specs.Buffer.{Buffer}
use Rattle.mt_windows.specs.ArrivedView.{AreMarked}
use Rattle.mt_windows.proofs.Order.{starts}
use Rattle.mt_windows.proofs.Marked.{marked_none, sound_empty}
use Rattle.mt_windows.proofs.receive.ReceiveWindow.new.Goals as goal

pub returns : goal.returns
returns g c = starts _ c.args.first refl refl (ap (λ (b : Buffer ℕ). b.items) c.in_ok-lengths.ensures) refl (ap (λ (b : Buffer ℕ). b.items) c.in_ok-ordered.ensures) refl c.in_ok-slots.ensures

pub invariant_of-result : goal.invariant_of-result
invariant_of-result g c = record {
  sound = sound_empty _ c.requires.below refl (ap (λ (b : Buffer ℕ). b.items) c.in_ok-lengths.ensures) refl (ap (λ (b : Buffer ℕ). b.items) c.in_ok-ordered.ensures) c.in_ok-slots.ensures;
  row = ap (λ ws. 64 * length ws) c.in_ok-accepted.ensures;
  marks = subst (λ n. AreMarked c.in_ok-accepted.accepted (c.args.first + 0) n c.in_ok-slots.slots) (sym (ap (λ (b : Buffer ℕ). length b.items) c.in_ok-lengths.ensures)) (marked_none _ 1 _ _ c.in_ok-accepted.ensures c.in_ok-slots.ensures);
  places = ap (λ (b : Buffer ℕ). b.capacity) c.in_ok-lengths.ensures;
  room = ap (λ (b : Buffer ℕ). b.capacity) c.in_ok-ordered.ensures;
}
