use Rattle.std.proofs.Common.{ℕ, ap, ◌∙◌}
use Rattle.circular_buffer.specs.Buffer.{Buffer}
use Rattle.mt_windows.specs.FlightView.{no_flights}
use Rattle.mt_windows.proofs.InFlight.{starts_out, sound_start, queued_none}
use Rattle.mt_windows.proofs.send.SendWindow.restart.Goals as goal

pub returns-clause-stands : goal.returns-clause-stands
returns-clause-stands g c = starts_out c.args.first 64 _ _ _ (ap (λ (b : Buffer ℕ). b.items) c.clear.ensures) (ap (λ (b : Buffer ℕ). b.items) c.clear-2.ensures) (c.clear-3.ensures ∙ ap no_flights c.self.invariant.sound.places)

pub returns-clause-queued : goal.returns-clause-queued
returns-clause-queued g c = queued_none 64 _ _ (ap (λ (b : Buffer ℕ). b.items) c.clear.ensures) (c.clear-3.ensures ∙ ap no_flights c.self.invariant.sound.places)

pub invariant_of-self : goal.invariant_of-self
invariant_of-self g c = record {
  sound = sound_start c.args.first _ _ _ c.requires.from c.requires.below (ap (λ (b : Buffer ℕ). b.items) c.clear.ensures) (ap (λ (b : Buffer ℕ). b.items) c.clear-2.ensures) (c.clear-3.ensures ∙ ap no_flights c.self.invariant.sound.places);
  room = ap (λ (b : Buffer ℕ). b.capacity) c.clear.ensures ∙ c.self.invariant.room;
  memory = ap (λ (b : Buffer ℕ). b.capacity) c.clear-2.ensures ∙ c.self.invariant.memory;
}
