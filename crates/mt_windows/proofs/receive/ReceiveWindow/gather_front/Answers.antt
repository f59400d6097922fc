use Rattle.std.proofs.Common.{◌≡◌, ℕ, ◌<◌, length, Some, is_some, unwrap_or, [], sym, ap, ◌∙◌, subst, arith}
use Rattle.std.specs.Option.{IsSome}
use Rattle.std.proofs.lemmas.List.{length_push}
use Rattle.circular_buffer.specs.Buffer.{Buffer}
use Rattle.mt_windows.specs.Arrived.{part_at}
use Rattle.mt_windows.specs.ArrivedView.{Inbox, IsSound, gathered}
use Rattle.mt_windows.proofs.Rings.{pushed}
use Rattle.mt_windows.proofs.Marked.{inbox, has_place, gathered_is, marks_gathered, sound_gathered}
use Rattle.mt_windows.proofs.receive.ReceiveWindow.gather_front.Goals as goal

pub append-requires : goal.append-requires
append-requires g c =
    let w = c.self.inside in
    let front : IsSome (part_at w.slots 0) = ap is_some (sym c.get.ensures ∙ c.bytes-bytes.ensures.bytes) in
    omega (arith, has_place _ c.self.invariant.sound (let less = c.self.invariant.sound.near 0 front in omega (arith, less)), c.bytes-bytes.ensures.fits, c.self.invariant.room)

pub invariant_of-self : goal.invariant_of-self
invariant_of-self g c =
    let w = c.self.inside in
    let i = c.self.invariant in
    let v : Inbox = inbox w.first w.passed w.lengths.items w.used w.ordered.items w.greatest w.slots in
    let bytes = c.bytes-bytes.result.now in
    let front : IsSome (part_at w.slots 0) = ap is_some (sym c.get.ensures ∙ c.bytes-bytes.ensures.bytes) in
    let less : length w.lengths.items < 64 = (let near = i.sound.near 0 front in omega (arith, near)) in
    let lengths = ap (λ (b : Buffer ℕ). b.items) c.push_back.ensures.items ∙ pushed w.lengths.items (length bytes) w.lengths.capacity (omega (arith, less, i.places)) in
    let whole = gathered_is v bytes _ _ _ lengths c.append.ensures.items c.turn.ensures in
    record {
      sound = subst IsSound (sym whole) (sound_gathered v bytes i.sound c.bytes-bytes.ensures.fits front);
      row = i.row;
      marks = marks_gathered w.accepted v _ bytes whole front i.marks;
      places = ap (λ (b : Buffer ℕ). b.capacity) c.push_back.ensures.items ∙ i.places;
      room = c.append.ensures.capacity ∙ i.room;
    }

pub returns-clause-step : goal.returns-clause-step
returns-clause-step g c =
    let w = c.self.inside in
    let v : Inbox = inbox w.first w.passed w.lengths.items w.used w.ordered.items w.greatest w.slots in
    let bytes = c.bytes-bytes.result.now in
    let there : part_at w.slots 0 ≡ Some bytes = sym c.get.ensures ∙ c.bytes-bytes.ensures.bytes in
    let less : length w.lengths.items < 64 = (let near = c.self.invariant.sound.near 0 (ap is_some there) in omega (arith, near)) in
    let lengths = ap (λ (b : Buffer ℕ). b.items) c.push_back.ensures.items ∙ pushed w.lengths.items (length bytes) w.lengths.capacity (omega (arith, less, c.self.invariant.places)) in
    gathered_is v bytes _ _ _ lengths c.append.ensures.items c.turn.ensures
    ∙ ap (λ b. gathered v b) (sym (ap (λ p. unwrap_or p []) there))
    ∙ ap (λ u. gathered u (unwrap_or (part_at u.slots 0) [])) c.self.view_is

pub returns-clause-few : goal.returns-clause-few
returns-clause-few g c =
    let w = c.self.inside in
    let bytes = c.bytes-bytes.result.now in
    let there : part_at w.slots 0 ≡ Some bytes = sym c.get.ensures ∙ c.bytes-bytes.ensures.bytes in
    let less : length w.lengths.items < 64 = (let near = c.self.invariant.sound.near 0 (ap is_some there) in omega (arith, near)) in
    let lengths = ap (λ (b : Buffer ℕ). b.items) c.push_back.ensures.items ∙ pushed w.lengths.items (length bytes) w.lengths.capacity (omega (arith, less, c.self.invariant.places)) in
    omega (arith, ap length lengths, length_push w.lengths.items (length bytes), less)
