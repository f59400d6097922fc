use Rattle.std.proofs.Common.{◌≡◌, ◌<◌, ℕ, List, Some, false, length, slice_get, ap, sym, ◌∙◌, arith}
use Rattle.std.specs.Borrow.{Bor}
use Rattle.std.proofs.lemmas.List.{length-map}
use Rattle.std.specs.Cmp.Lexicographic.{same_text, other_text}
use Rattle.capture_check.proofs.Following.{shown_at, not_next, one_more, none_left}
use Rattle.capture_check.proofs.flow.Flow.place_of.Goals as goal

pub returns-then-eq-clause-found : goal.returns-then-eq-clause-found
returns-then-eq-clause-found c =
    let place = c.loop-place.place in
    let few : place < length c.self.inside.sent.items = omega (arith, c.loop-place-test.true, c.len.ensures) in
    let at : slice_get c.args.self.now.sent place ≡ Some c.index.result.now.now =
    ap (λ f. slice_get f.sent place) (sym c.self.view_is) ∙ shown_at (λ (m : Bor (List ℕ)). m.now) c.self.inside.sent.items place c.index.result.now few c.index.ensures in
    record {
      is = at ∙ ap Some (same_text c.index.result.now.now c.args.message.now c.if-eq.ensures);
      behind = c.loop-place.invariant.behind;
      next = c.loop-place.invariant.next;
      first = c.loop-place.invariant.others;
    }

pub returns-then-not-self-clause-none : goal.returns-then-not-self-clause-none
returns-then-not-self-clause-none c =
    let place = c.loop-place.place in
    let few : place < length c.self.inside.sent.items = omega (arith, c.loop-place-test.true, c.len.ensures) in
    let at : slice_get c.args.self.now.sent place ≡ Some c.index.result.now.now =
    ap (λ f. slice_get f.sent place) (sym c.self.view_is) ∙ shown_at (λ (m : Bor (List ℕ)). m.now) c.self.inside.sent.items place c.index.result.now few c.index.ensures in
    let in_order : c.args.self.now.lossy ≡ false = ap (λ f. f.lossy) (sym c.self.view_is) ∙ c.if-not-self.true in
    not_next c.args.self.now.sent c.args.self.now.lossy c.args.self.now.matched place c.index.result.now.now c.args.message.now in_order (c.loop-place.invariant.next in_order) at
    (other_text c.index.result.now.now c.args.message.now c.if-eq.ensures)

pub loop-place-preserved : goal.loop-place-preserved
loop-place-preserved c =
    let place = c.loop-place.place in
    let few : place < length c.self.inside.sent.items = omega (arith, c.loop-place-test.true, c.len.ensures) in
    let at : slice_get c.args.self.now.sent place ≡ Some c.index.result.now.now =
    ap (λ f. slice_get f.sent place) (sym c.self.view_is) ∙ shown_at (λ (m : Bor (List ℕ)). m.now) c.self.inside.sent.items place c.index.result.now few c.index.ensures in
    record {
      behind = omega (arith, c.loop-place.invariant.behind);
      next = λ in_order. let lossy = ap (λ f. f.lossy) (sym c.self.view_is) ∙ c.if-not-self.false in absurd (cc);
      others = one_more c.args.self.now.sent c.args.self.now.matched place c.index.result.now.now c.args.message.now at (other_text c.index.result.now.now c.args.message.now c.if-eq.ensures) c.loop-place.invariant.others;
    }

pub returns-clause-none : goal.returns-clause-none
returns-clause-none c =
    let long : length c.args.self.now.sent ≡ length c.self.inside.sent.items = ap (λ f. length f.sent) (sym c.self.view_is) ∙ length-map c.self.inside.sent.items (λ (m : Bor (List ℕ)). m.now) in
    none_left c.args.self.now.sent c.args.self.now.lossy c.args.self.now.matched c.loop-place.place c.args.message.now (omega (arith, c.loop-place-test.false, c.len.ensures, long)) c.loop-place.invariant.others
