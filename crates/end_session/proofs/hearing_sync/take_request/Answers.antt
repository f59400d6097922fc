use Rattle.std.proofs.Common.{◌≡◌, ◌++◌, ◌∷◌, [], List, ℕ, sym, ap, ◌∙◌, append_assoc}
use Rattle.mt_base.specs.declared.kinds.Kind.{Kind}
use Rattle.dvc_pdus.specs.ListViews.{lists_left}
use Rattle.mt_endpoint.specs.Moving.{channels_listed}
use Rattle.end_session.specs.ListedView.{channels_left}
use Rattle.end_session.proofs.MovesHeard.{all_listed, is_begun, is_once, is_placed, one_listed}
use Rattle.end_session.proofs.hearing_sync.take_request.Goals as goal

pub got_request-requires-clause-begun : goal.got_request-requires-clause-begun
got_request-requires-clause-begun c = is_begun c.args.paths.now c.loop-channel.paths (lists_left c.args.lists) c.loop-channel.yielded c.loop-channel.invariant.words

pub got_request-requires-clause-once : goal.got_request-requires-clause-once
got_request-requires-clause-once c =
    let xs = c.loop-channel.yielded in
    let channel = c.in-Some-channel.channel in
    let ys = channels_left c.next.new.self in
    let split : channels_listed (lists_left c.args.lists) ≡ xs ++ channel ∷ ys = c.loop-channel.invariant.split ∙ ap (λ (l : List (ℕ × Kind)). xs ++ l) c.in-Some-channel.ensures.steps in
    is_once c.args.paths.now c.loop-channel.paths (lists_left c.args.lists) xs ys (channels_listed (lists_left c.args.lists)) channel.0 channel.1 c.loop-channel.invariant.words c.requires.new split

pub got_request-requires-clause-place : goal.got_request-requires-clause-place
got_request-requires-clause-place c =
    let xs = c.loop-channel.yielded in
    let channel = c.in-Some-channel.channel in
    let ys = channels_left c.next.new.self in
    let split : channels_listed (lists_left c.args.lists) ≡ xs ++ channel ∷ ys = c.loop-channel.invariant.split ∙ ap (λ (l : List (ℕ × Kind)). xs ++ l) c.in-Some-channel.ensures.steps in
    is_placed c.args.paths.now c.loop-channel.paths (lists_left c.args.lists) xs ys (channels_listed (lists_left c.args.lists)) channel.0 channel.1 c.loop-channel.invariant.words c.requires.new split

pub loop-channel-preserved : goal.loop-channel-preserved
loop-channel-preserved c =
    let xs = c.loop-channel.yielded in
    let channel = c.in-Some-channel.channel in
    let ys = channels_left c.next.new.self in
    let split : channels_listed (lists_left c.args.lists) ≡ xs ++ channel ∷ ys = c.loop-channel.invariant.split ∙ ap (λ (l : List (ℕ × Kind)). xs ++ l) c.in-Some-channel.ensures.steps in
    record {
      words = one_listed c.args.paths.now c.loop-channel.paths c.got_request.new.self (lists_left c.args.lists) xs ys (channels_listed (lists_left c.args.lists)) channel.0 channel.1 c.loop-channel.invariant.words c.requires.new split c.got_request.ensures;
      split = split ∙ sym (append_assoc xs (channel ∷ []) ys);
    }

pub returns : goal.returns
returns c = all_listed c.args.paths.now c.loop-channel.paths (lists_left c.args.lists) c.loop-channel.yielded (channels_left c.loop-channel.channel-iterator) c.loop-channel.invariant.words c.loop-channel.invariant.split (c.in-None.ensures.steps).0
