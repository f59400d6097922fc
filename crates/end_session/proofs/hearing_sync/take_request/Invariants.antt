use Rattle.std.proofs.Common.{◌≡◌, ◌++◌, ◌∷◌, []}
use Rattle.dvc_pdus.specs.ListViews.{lists_left}
use Rattle.soft_sync.specs.Exchanges.{unanswered}
use Rattle.mt_endpoint.specs.Moving.{channels_listed, kinds_named}
use Rattle.end_session.specs.ListedView.{channels_left}
use Rattle.end_session.proofs.hearing_sync.take_request.Given as goal

-- the request lists the channels so far
abbrev pub invariant-loop-channel : goal.invariant-loop-channel
invariant-loop-channel l = record {
  words : l.paths ≡ record l.fn.paths { read = (l.fn.paths).read ++ unanswered (record { named = kinds_named (lists_left l.fn.lists); channels = l.yielded }) ∷ [] };
  split : channels_listed (lists_left l.fn.lists) ≡ l.yielded ++ channels_left l.channel-iterator;
}
