use Rattle.std.proofs.Common.{◌≡◌, ◌+◌, ◌*◌, ◌<◌, length, sym, ap, ◌∙◌, subst, arith}
use Rattle.mt_windows.specs.ArrivedView.{Inbox, IsSound, gap_of, kept}
use Rattle.mt_windows.proofs.Marked.{inbox, kept_is, marks_kept, sound_kept}
use Rattle.mt_windows.proofs.receive.ReceiveWindow.keep.Goals as goal

pub invariant_of-self : goal.invariant_of-self
invariant_of-self g c =
    let w = c.self.inside in
    let i = c.self.invariant in
    let v : Inbox = inbox w.first w.passed w.lengths.items w.used w.ordered.items w.greatest w.slots in
    let near : length w.lengths.items + c.args.ahead < 64 = omega (arith, ap (λ u. length u.lengths) c.self.view_is, c.requires.ahead) in
    let place : c.args.part ≡ v.first + gap_of v + c.args.ahead = c.requires.place ∙ ap (λ u. u.first + gap_of u + c.args.ahead) (sym c.self.view_is) in
    let whole = kept_is v c.args.part c.args.ahead c.args.bytes.now _ _ c.later-self-inside.ensures c.fill.ensures in
    record {
      sound = subst IsSound (sym whole) (sound_kept v c.args.part c.args.ahead c.args.bytes.now i.sound near c.requires.number place);
      row = ap (λ n. 64 * n) c.set.ensures.len ∙ i.row;
      marks = marks_kept w.accepted c.set.new.self v _ c.args.part c.args.ahead c.args.bytes.now whole i.sound near place i.marks c.set.ensures.bits;
      places = i.places;
      room = i.room;
    }

pub returns-clause-step : goal.returns-clause-step
returns-clause-step g c =
    let w = c.self.inside in
    let v : Inbox = inbox w.first w.passed w.lengths.items w.used w.ordered.items w.greatest w.slots in
    kept_is v c.args.part c.args.ahead c.args.bytes.now _ _ c.later-self-inside.ensures c.fill.ensures
    ∙ ap (λ u. kept u c.args.part c.args.ahead c.args.bytes.now) c.self.view_is

pub returns-clause-places : goal.returns-clause-places
returns-clause-places g c = ap (λ u. length u.slots) (sym c.self.view_is) ∙ c.self.invariant.sound.places
