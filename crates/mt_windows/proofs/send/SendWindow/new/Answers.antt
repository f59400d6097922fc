use Rattle.std.proofs.Common.{ℕ, ap}
use Rattle.circular_buffer.specs.Buffer.{Buffer}
use Rattle.mt_windows.proofs.InFlight.{starts_out, sound_start, queued_none}
use Rattle.mt_windows.proofs.send.SendWindow.new.Goals as goal

pub returns-clause-stands : goal.returns-clause-stands
returns-clause-stands g c = starts_out c.args.first 64 _ _ _ (ap (λ (b : Buffer ℕ). b.items) c.in_ok-waiting.ensures) (ap (λ (b : Buffer ℕ). b.items) c.in_ok-carried.ensures) c.in_ok-flights.ensures

pub returns-clause-queued : goal.returns-clause-queued
returns-clause-queued g c = queued_none 64 _ _ (ap (λ (b : Buffer ℕ). b.items) c.in_ok-waiting.ensures) c.in_ok-flights.ensures

pub invariant_of-result : goal.invariant_of-result
invariant_of-result g c = record {
  sound = sound_start c.args.first _ _ _ c.requires.from c.requires.below (ap (λ (b : Buffer ℕ). b.items) c.in_ok-waiting.ensures) (ap (λ (b : Buffer ℕ). b.items) c.in_ok-carried.ensures) c.in_ok-flights.ensures;
  room = ap (λ (b : Buffer ℕ). b.capacity) c.in_ok-waiting.ensures;
  memory = ap (λ (b : Buffer ℕ). b.capacity) c.in_ok-carried.ensures;
}
