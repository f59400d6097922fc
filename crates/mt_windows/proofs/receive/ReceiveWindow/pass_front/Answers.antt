use Rattle.std.proofs.Common.{◌≡◌, ℕ, ◌*◌, get_or, true, sym, ap, ◌∙◌, subst}
use Rattle.circular_buffer.specs.Buffer.{Buffer}
use Rattle.mt_windows.specs.ArrivedView.{Inbox, IsSound, is_drained, past_front}
use Rattle.mt_windows.proofs.Marked.{inbox, first_got, past_is, marks_past, sound_past}
use Rattle.mt_windows.proofs.receive.ReceiveWindow.pass_front.Goals as goal

pub invariant_of-self : goal.invariant_of-self
invariant_of-self g c =
    let w = c.self.inside in
    let i = c.self.invariant in
    let v : Inbox = inbox w.first w.passed w.lengths.items w.used w.ordered.items w.greatest w.slots in
    let front : is_drained v.lengths v.used ≡ true = ap (λ u. is_drained u.lengths u.used) c.self.view_is ∙ c.requires in
    let whole = past_is v _ c.in-Some.length (ap (λ (b : Buffer ℕ). b.items) c.pop_front.ensures.items) (first_got w.lengths.items c.in-Some.length (sym c.pop_front.ensures.value ∙ c.in-Some.is)) in
    record {
      sound = subst IsSound (sym whole) (sound_past v i.sound front);
      row = ap (λ n. 64 * n) c.clear.ensures.len ∙ i.row;
      marks = marks_past w.accepted c.clear.new.self v _ whole i.sound front i.marks c.clear.ensures.bits;
      places = ap (λ (b : Buffer ℕ). b.capacity) c.pop_front.ensures.items ∙ i.places;
      room = i.room;
    }

pub returns : goal.returns
returns g c =
    let w = c.self.inside in
    let v : Inbox = inbox w.first w.passed w.lengths.items w.used w.ordered.items w.greatest w.slots in
    past_is v _ c.in-Some.length (ap (λ (b : Buffer ℕ). b.items) c.pop_front.ensures.items) (first_got w.lengths.items c.in-Some.length (sym c.pop_front.ensures.value ∙ c.in-Some.is))
    ∙ ap (λ u. past_front u (get_or u.lengths 0 0)) c.self.view_is
