use Rattle.std.proofs.Common.{◌≡◌, ◌-◌, nat_lt, length, false, sym, ap, ◌∙◌, subst, arith}
use Rattle.std.proofs.lemmas.Bool.Decides.{nat_tests}
use Rattle.mt_windows.specs.ArrivedView.{Keeps}
use Rattle.mt_windows.proofs.Order.{has_behind, has_from_next, has_far}
use Rattle.mt_windows.proofs.Marked.{is_there}
use Rattle.mt_windows.proofs.receive.ReceiveWindow.has.Goals as goal

pub returns-then-place-self : goal.returns-then-place-self
returns-then-place-self g c first parts n h =
    has_behind _ first parts n c.args.part (subst (λ s. Keeps s first parts n) (sym c.self.view_is) h.keeps) c.if-part-self.false (omega (arith, c.if-place-self.true))

pub returns-else-ahead-lt-WINDOW : goal.returns-else-ahead-lt-WINDOW
returns-else-ahead-lt-WINDOW g c first parts n h =
    let k = c.args.part - c.self.inside.first - c.self.inside.passed in
    let no : nat_lt k 64 ≡ false = (let far = c.if-ahead-lt-WINDOW.false in grind (arith, nat_tests)) in
    no ∙ has_far _ first parts n c.args.part k (subst (λ s. Keeps s first parts n) (sym c.self.view_is) h.keeps) (omega (arith, c.if-part-self.false, c.if-place-self.false)) c.self.invariant.sound.places c.self.invariant.sound.few c.if-ahead-lt-WINDOW.false c.self.invariant.sound.near

pub returns-then-ahead-lt-WINDOW : goal.returns-then-ahead-lt-WINDOW
returns-then-ahead-lt-WINDOW g c first parts n h =
    c.is_there.ensures ∙ ap (λ w. is_there (length w.lengths) w.slots (c.args.part - c.self.inside.first - c.self.inside.passed)) (sym c.self.view_is)
    ∙ has_from_next _ first parts n c.args.part (c.args.part - c.self.inside.first - c.self.inside.passed) (subst (λ s. Keeps s first parts n) (sym c.self.view_is) h.keeps) (omega (arith, c.if-part-self.false, c.if-place-self.false))
