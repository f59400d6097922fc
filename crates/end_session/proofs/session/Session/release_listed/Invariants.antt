use Rattle.dvc_pdus.specs.ListViews.{lists_left}
use Rattle.mt_endpoint.specs.Moving.{channels_listed}
use Rattle.end_session.specs.ListedView.{channels_left}
use Rattle.end_session.proofs.OnWay.{IsOnWay}
use Rattle.end_session.proofs.session.Session.release_listed.Given as goal

-- the channels so far were released
abbrev pub invariant-loop-id : goal.invariant-loop-id
invariant-loop-id l = IsOnWay l.initial.self l.self (channels_listed (lists_left l.fn.lists)) (channels_left l.id-iterator)
