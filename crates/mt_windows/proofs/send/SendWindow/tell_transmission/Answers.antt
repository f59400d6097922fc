use Rattle.std.proofs.Common.{◌+◌, ◌-◌, ◌≤◌, false, true, inl, inr, length, refl, sym, ap, ◌∙◌, subst, arith}
use Rattle.mt_windows.specs.Sending.{tells_transmission, is_open}
use Rattle.mt_windows.specs.SendingView.{Sends, limits, heard_of}
use Rattle.mt_windows.proofs.Telling.{transmission_outside, transmission_old, transmission_heard, transmission_told, settles_is, carried_is, flying_is, heard_keeps}
use Rattle.mt_windows.proofs.Rings.{back_none, back_some}
use Rattle.mt_windows.proofs.send.SendWindow.tell_transmission.Goals as goal
use Rattle.mt_windows.proofs.send.SendWindow.tell_transmission.Goals.{then-transmission-self-via-then-transmission-self, then-transmission-self-via-else-transmission-self+then-transmission-self-2}

pub returns-then-transmission-self-clause-holds : goal.returns-then-transmission-self-clause-holds
returns-then-transmission-self-clause-holds g c first t h =
    let now = subst (λ w. Sends w first t) (sym c.self.view_is) h in
    elim c.then-transmission-self.branch [
      | then-transmission-self-via-then-transmission-self w ↦ subst (λ v. Sends v first (tells_transmission first c.args.transmission t)) c.self.view_is (transmission_outside _ first t c.args.transmission now (inl w.if-transmission-self.true))
      | then-transmission-self-via-else-transmission-self+then-transmission-self-2 w ↦ subst (λ v. Sends v first (tells_transmission first c.args.transmission t)) c.self.view_is (transmission_outside _ first t c.args.transmission now (inr w.if-transmission-self-2.true))
    ]

pub returns-in_default-clause-holds : goal.returns-in_default-clause-holds
returns-in_default-clause-holds g c first t h =
    let now = subst (λ w. Sends w first t) (sym c.self.view_is) h in
    subst (λ v. Sends v first (tells_transmission first c.args.transmission t)) c.self.view_is
    (transmission_old _ first t c.args.transmission now c.if-transmission-self.false c.if-transmission-self-2.false (let none = back_none c.self.inside.carried.items _ c.copied.result (c.copied.ensures ∙ c.nth_back.ensures) c.in_default.is in omega (arith, none, c.if-transmission-self.false, c.if-transmission-self-2.false)))

pub returns-then-not-is_flying-clause-settles : goal.returns-then-not-is_flying-clause-settles
returns-then-not-is_flying-clause-settles g c first t h =
    let w = c.self.inside in
    let now = subst (λ w. Sends w first t) (sym c.self.view_is) h in
    let found = back_some w.carried.items _ c.copied.result c.in-Some.place (c.copied.ensures ∙ c.nth_back.ensures) c.in-Some.is in
    let recent : w.first + w.made - c.args.transmission ≤ length w.carried.items = omega (arith, found.0, c.if-transmission-self.false, c.if-transmission-self-2.false) in
    let place = carried_is _ first t c.args.transmission _ c.in-Some.place now c.if-transmission-self.false c.if-transmission-self-2.false recent (omega (arith, found.0, c.if-transmission-self.false, c.if-transmission-self-2.false)) found.1 in
    let heard = c.hear.ensures.heard ∙ ap (λ v. heard_of v (c.args.transmission - w.first)) (sym c.self.view_is) in
    settles_is _ first t c.args.transmission false now c.if-transmission-self.false c.if-transmission-self-2.false recent
    (ap (is_open limits t) place ∙ flying_is _ c.hear.new.self first t _ c.in-Some.place now heard ∙ sym c.if-not-is_flying.ensures.flying)

pub returns-then-not-is_flying-clause-holds : goal.returns-then-not-is_flying-clause-holds
returns-then-not-is_flying-clause-holds g c first t h =
    let w = c.self.inside in
    let now = subst (λ w. Sends w first t) (sym c.self.view_is) h in
    let found = back_some w.carried.items _ c.copied.result c.in-Some.place (c.copied.ensures ∙ c.nth_back.ensures) c.in-Some.is in
    let recent : w.first + w.made - c.args.transmission ≤ length w.carried.items = omega (arith, found.0, c.if-transmission-self.false, c.if-transmission-self-2.false) in
    let place = carried_is _ first t c.args.transmission _ c.in-Some.place now c.if-transmission-self.false c.if-transmission-self-2.false recent (omega (arith, found.0, c.if-transmission-self.false, c.if-transmission-self-2.false)) found.1 in
    let heard = c.hear.ensures.heard ∙ ap (λ v. heard_of v (c.args.transmission - w.first)) (sym c.self.view_is) in
    transmission_heard _ c.hear.new.self first t c.args.transmission now c.self.invariant.sound c.if-transmission-self.false c.if-transmission-self-2.false recent heard
    (ap (is_open limits t) place ∙ flying_is _ c.hear.new.self first t _ c.in-Some.place now heard ∙ sym c.if-not-is_flying.ensures.flying)
    c.hear.ensures.places c.hear.ensures.bound

pub returns-clause-settles : goal.returns-clause-settles
returns-clause-settles g c first t h =
    let w = c.self.inside in
    let now = subst (λ w. Sends w first t) (sym c.self.view_is) h in
    let found = back_some w.carried.items _ c.copied.result c.in-Some.place (c.copied.ensures ∙ c.nth_back.ensures) c.in-Some.is in
    let recent : w.first + w.made - c.args.transmission ≤ length w.carried.items = omega (arith, found.0, c.if-transmission-self.false, c.if-transmission-self-2.false) in
    let place = carried_is _ first t c.args.transmission _ c.in-Some.place now c.if-transmission-self.false c.if-transmission-self-2.false recent (omega (arith, found.0, c.if-transmission-self.false, c.if-transmission-self-2.false)) found.1 in
    let heard = c.hear.ensures.heard ∙ ap (λ v. heard_of v (c.args.transmission - w.first)) (sym c.self.view_is) in
    settles_is _ first t c.args.transmission true now c.if-transmission-self.false c.if-transmission-self-2.false recent
    (ap (is_open limits t) place ∙ flying_is _ c.hear.new.self first t _ c.in-Some.place now heard ∙ sym c.if-not-is_flying.ensures.flying)

pub returns-clause-holds : goal.returns-clause-holds
returns-clause-holds g c first t h =
    let w = c.self.inside in
    let now = subst (λ w. Sends w first t) (sym c.self.view_is) h in
    let found = back_some w.carried.items _ c.copied.result c.in-Some.place (c.copied.ensures ∙ c.nth_back.ensures) c.in-Some.is in
    let recent : w.first + w.made - c.args.transmission ≤ length w.carried.items = omega (arith, found.0, c.if-transmission-self.false, c.if-transmission-self-2.false) in
    let place = carried_is _ first t c.args.transmission _ c.in-Some.place now c.if-transmission-self.false c.if-transmission-self-2.false recent (omega (arith, found.0, c.if-transmission-self.false, c.if-transmission-self-2.false)) found.1 in
    let heard = c.hear.ensures.heard ∙ ap (λ v. heard_of v (c.args.transmission - w.first)) (sym c.self.view_is) in
    let base = ap (λ v. v.base) heard ∙ (heard_keeps _ (c.args.transmission - w.first)).base in
    transmission_told _ c.hear.new.self c.settle-2.new.self first t c.args.transmission _ now c.self.invariant.sound c.if-transmission-self.false c.if-transmission-self-2.false recent heard
    (ap (is_open limits t) place ∙ flying_is _ c.hear.new.self first t _ c.in-Some.place now heard ∙ sym c.if-not-is_flying.ensures.flying)
    (omega (arith, place, base, ap (λ v. v.base) c.settle.view_is, c.if-not-is_flying.ensures.within refl))
    c.settle-2.ensures.same c.settle-2.ensures.flying c.settle-2.ensures.front c.settle-2.ensures.queued c.settle-2.ensures.places c.settle-2.ensures.bound
