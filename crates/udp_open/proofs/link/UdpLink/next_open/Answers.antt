use Rattle.std.proofs.Common.{◌≡◌, false, max, Some, None, sym, ap, ◌∙◌, subst}
use Rattle.std.specs.Option.{IsSome}
use Rattle.carrier.specs.Due.{IsNextDue}
use Rattle.link_core.specs.CoreView.{condition_of, layout_of}
use Rattle.udp_open.specs.LinkView.{Link, StandsLink, IsNextDueIn, is_closed_state}
use Rattle.udp_open.proofs.LinkDues.{next_closed, next_owed, next_never, next_later}
use Rattle.udp_open.proofs.link.UdpLink.next_open.Goals as goal

pub returns-then-owes : goal.returns-then-owes
returns-then-owes c t h =
    let i = c.self.inside in
    let l : Link = record { opening = i.opening; core = i.core } in
    let now = subst (λ (l : Link). StandsLink l t) (sym c.self.view_is) h in
    let some = subst (λ (l : Link). IsSome (l.opening).agreement) (sym c.self.view_is) c.requires in
    let going = subst (λ (l : Link). is_closed_state (condition_of l.core) ≡ false) (sym c.self.view_is) (sym c.is_closed.ensures ∙ c.if-is_closed.false) in
    subst (λ (l : Link). IsNextDueIn (l.opening).settings t c.next_due.result) c.self.view_is
    (next_owed l t c.next_due.result some (sym c.owes.ensures ∙ c.if-owes.true) going (c.next_due.ensures t now.follows) now)

pub returns-in-Some : goal.returns-in-Some
returns-in-Some c t h =
    let i = c.self.inside in
    let l : Link = record { opening = i.opening; core = i.core } in
    let now = subst (λ (l : Link). StandsLink l t) (sym c.self.view_is) h in
    let some = subst (λ (l : Link). IsSome (l.opening).agreement) (sym c.self.view_is) c.requires in
    let going = subst (λ (l : Link). is_closed_state (condition_of l.core) ≡ false) (sym c.self.view_is) (sym c.is_closed.ensures ∙ c.if-is_closed.false) in
    let at = c.max.ensures ∙ ap (max c.in-Some.due) c.moment.ensures.value in
    subst (λ (l : Link). IsNextDueIn (l.opening).settings t (Some c.max.result)) c.self.view_is
    (subst (λ k. IsNextDueIn (i.opening).settings t (Some k)) (sym at)
    (next_later l t c.in-Some.due some (sym c.owes.ensures ∙ c.if-owes.false) going
    (λ u stands. subst (λ r. IsNextDue (layout_of i.core) u r) c.in-Some.is (c.next_due-2.ensures u stands)) now))

pub returns-in-None : goal.returns-in-None
returns-in-None c t h =
    let i = c.self.inside in
    let l : Link = record { opening = i.opening; core = i.core } in
    let now = subst (λ (l : Link). StandsLink l t) (sym c.self.view_is) h in
    let some = subst (λ (l : Link). IsSome (l.opening).agreement) (sym c.self.view_is) c.requires in
    let going = subst (λ (l : Link). is_closed_state (condition_of l.core) ≡ false) (sym c.self.view_is) (sym c.is_closed.ensures ∙ c.if-is_closed.false) in
    subst (λ (l : Link). IsNextDueIn (l.opening).settings t None) c.self.view_is
    (next_never l t some (sym c.owes.ensures ∙ c.if-owes.false) going
    (λ u stands. subst (λ r. IsNextDue (layout_of i.core) u r) c.in-None.is (c.next_due-2.ensures u stands)) now)

pub returns-then-is_closed : goal.returns-then-is_closed
returns-then-is_closed c t h =
    next_closed c.args.self.now t c.requires (sym c.is_closed.ensures ∙ c.if-is_closed.true) h
