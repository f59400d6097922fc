use Rattle.std.proofs.Common.{◌≡◌, ℕ, ◌+◌, ◌*◌, ◌<◌, length, sym, ap, ◌∙◌, arith}
use Rattle.circular_buffer.specs.Buffer.{Buffer}
use Rattle.mt_windows.specs.ArrivedView.{Inbox, gap_of, kept, gathered}
use Rattle.mt_windows.proofs.Rings.{pushed}
use Rattle.mt_windows.proofs.Marked.{inbox, has_place, appended_is, marks_appended, sound_appended}
use Rattle.mt_windows.proofs.receive.ReceiveWindow.append.Goals as goal

pub append-requires : goal.append-requires
append-requires g c = omega (arith, has_place _ c.self.invariant.sound (omega (arith, ap (λ v. length v.lengths) c.self.view_is, c.requires.few)), c.requires.fits, c.self.invariant.room)

pub invariant_of-self : goal.invariant_of-self
invariant_of-self g c =
    let w = c.self.inside in
    let i = c.self.invariant in
    let v : Inbox = inbox w.first w.passed w.lengths.items w.used w.ordered.items w.greatest w.slots in
    let less : length w.lengths.items < 64 = omega (arith, ap (λ u. length u.lengths) c.self.view_is, c.requires.few) in
    let place : c.args.part ≡ v.first + gap_of v = c.requires.place ∙ ap (λ u. u.first + gap_of u) (sym c.self.view_is) in
    let lengths = ap (λ (b : Buffer ℕ). b.items) c.push_back.ensures.items ∙ pushed w.lengths.items (length c.args.bytes.now) w.lengths.capacity (omega (arith, less, i.places)) in
    let whole = appended_is v c.args.part c.args.bytes.now _ _ _ _ lengths c.append.ensures.items c.later-self-inside.ensures c.turn.ensures in
    record {
      sound = sound_appended v _ c.args.part c.args.bytes.now whole i.sound less c.requires.number place c.requires.fits;
      row = ap (λ n. 64 * n) c.set.ensures.len ∙ i.row;
      marks = marks_appended w.accepted c.set.new.self v _ c.args.part c.args.bytes.now whole i.sound less place i.marks c.set.ensures.bits;
      places = ap (λ (b : Buffer ℕ). b.capacity) c.push_back.ensures.items ∙ i.places;
      room = c.append.ensures.capacity ∙ i.room;
    }

pub returns-clause-step : goal.returns-clause-step
returns-clause-step g c =
    let w = c.self.inside in
    let v : Inbox = inbox w.first w.passed w.lengths.items w.used w.ordered.items w.greatest w.slots in
    let less : length w.lengths.items < 64 = omega (arith, ap (λ u. length u.lengths) c.self.view_is, c.requires.few) in
    let lengths = ap (λ (b : Buffer ℕ). b.items) c.push_back.ensures.items ∙ pushed w.lengths.items (length c.args.bytes.now) w.lengths.capacity (omega (arith, less, c.self.invariant.places)) in
    appended_is v c.args.part c.args.bytes.now _ _ _ _ lengths c.append.ensures.items c.later-self-inside.ensures c.turn.ensures
    ∙ ap (λ u. gathered (kept u c.args.part 0 c.args.bytes.now) c.args.bytes.now) c.self.view_is

pub returns-clause-places : goal.returns-clause-places
returns-clause-places g c = ap (λ u. length u.slots) (sym c.self.view_is) ∙ c.self.invariant.sound.places
