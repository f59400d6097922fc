use Rattle.std.proofs.Common.{◌≡◌, ◌++◌, ◌∷◌, [], List, ℕ, None, sym, ap, subst, ◌∙◌, append_assoc, length-append, arith, nat_eq, take, append-nil}
use Rattle.std.specs.List.{list_any}
use Rattle.std.specs.Option.{option_or}
use Rattle.mt_base.specs.declared.kinds.Kind.{Kind}
use Rattle.mt_base.specs.declared.kinds.Role.TheVariants.{Client}
use Rattle.dvc_pdus.specs.ListViews.{lists_left}
use Rattle.mt_endpoint.specs.Alone.{EndOfActs}
use Rattle.mt_endpoint.specs.Faults.{ids_fault}
use Rattle.mt_endpoint.specs.Moving.{channels_listed}
use Rattle.mt_endpoint.specs.Orders.{ids_in}
use Rattle.mt_endpoint.proofs.Distinct.{seen_after}
use Rattle.end_session.specs.Causes.{why_in}
use Rattle.end_session.specs.ListedView.{channels_left}
use Rattle.end_session.proofs.MovesHeard.{few_listed, one_more, or_some, seen_here}
use Rattle.end_session.proofs.session.Session.ids_cause.Goals as goal

pub returns-in-Some-id_cause-clause-found : goal.returns-in-Some-id_cause-clause-found
returns-in-Some-id_cause-clause-found c t gone st =
    let xs = c.loop-channel.yielded in
    let channel = c.in-Some.channel in
    let ys = channels_left c.next.new.self in
    let split : channels_listed (lists_left c.args.lists) ≡ xs ++ channel ∷ ys = c.loop-channel.invariant.split ∙ ap (λ (l : List (ℕ × Kind)). xs ++ l) c.in-Some.ensures.steps in
    let seen =
    seen_here (channels_listed (lists_left c.args.lists)) xs (channel ∷ ys) c.loop-channel.count channel.0 c.is_before-is_repeated.result split c.loop-channel.invariant.count
    (c.is_before-is_repeated.ensures ∙ ap (λ (l : List (ℕ × Kind)). list_any (nat_eq channel.0) (ids_in (take c.loop-channel.count l))) c.of.ensures) in
    ap (ids_fault Client t []) split
    ∙ one_more t xs channel.0 channel.1 ys (why_in c.id_cause.result) (c.loop-channel.invariant.fine t gone st) (c.id_cause.ensures.found t gone (seen_after (ids_in xs) []) channel.1 st seen)
    ∙ ap (λ o. option_or (why_in o) (ids_fault Client t (seen_after (ids_in (xs ++ channel ∷ [])) []) ys)) c.in-Some-id_cause.is
    ∙ or_some _ _ c.in-Some-id_cause.ensures.named

pub loop-channel-preserved : goal.loop-channel-preserved
loop-channel-preserved c =
    let xs = c.loop-channel.yielded in
    let channel = c.in-Some.channel in
    let ys = channels_left c.next.new.self in
    let split : channels_listed (lists_left c.args.lists) ≡ xs ++ channel ∷ ys = c.loop-channel.invariant.split ∙ ap (λ (l : List (ℕ × Kind)). xs ++ l) c.in-Some.ensures.steps in
    let seen =
    seen_here (channels_listed (lists_left c.args.lists)) xs (channel ∷ ys) c.loop-channel.count channel.0 c.is_before-is_repeated.result split c.loop-channel.invariant.count
    (c.is_before-is_repeated.ensures ∙ ap (λ (l : List (ℕ × Kind)). list_any (nat_eq channel.0) (ids_in (take c.loop-channel.count l))) c.of.ensures) in
    record {
      split = split ∙ sym (append_assoc xs (channel ∷ []) ys);
      count = omega (arith, c.loop-channel.invariant.count, length-append xs (channel ∷ []));
      fine = λ t gone st.
          one_more t xs channel.0 channel.1 [] (why_in c.id_cause.result) (c.loop-channel.invariant.fine t gone st) (c.id_cause.ensures.found t gone (seen_after (ids_in xs) []) channel.1 st seen)
          ∙ ap (λ o. option_or (why_in o) None) c.in_default.is;
    }

pub returns-clause-found : goal.returns-clause-found
returns-clause-found c t gone st =
    ap (ids_fault Client t []) (c.loop-channel.invariant.split ∙ ap (λ (l : List (ℕ × Kind)). c.loop-channel.yielded ++ l) (c.in-None.ensures.steps).0 ∙ append-nil c.loop-channel.yielded) ∙ c.loop-channel.invariant.fine t gone st

pub overflow_add-count : goal.overflow_add-count
overflow_add-count c =
    let w = c.requires.stands in
    let few = few_listed w.0 c.loop-channel.yielded (subst (λ r. EndOfActs r w.0) c.requires.client ((w.2).knows).lawful) (c.loop-channel.invariant.fine w.0 w.1 w.2) in
    omega (arith, few, c.loop-channel.invariant.count)
