use Rattle.std.proofs.Common.{drop}
use Rattle.soft_sync.specs.Exchanges.{channels_at}
use Rattle.mt_endpoint.specs.Growing.{among}
use Rattle.end_session.proofs.OnWay.{IsOnWay}
use Rattle.end_session.proofs.session.Session.release_moved.Given as goal

-- of the channels so far those of the kinds were released
abbrev pub invariant-loop-place : goal.invariant-loop-place
invariant-loop-place l =
    let all = channels_at l.fn.request (l.initial.self.paths).made in
    IsOnWay l.initial.self l.self (among l.fn.kinds all) (among l.fn.kinds (drop l.place all))
