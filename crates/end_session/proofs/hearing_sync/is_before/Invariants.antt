use Rattle.std.proofs.Common.{◌≡◌, nat_eq, take}
use Rattle.std.specs.List.{list_any}
use Rattle.mt_endpoint.specs.Orders.{ids_in}
use Rattle.end_session.specs.ListedView.{channels_left}
use Rattle.end_session.proofs.hearing_sync.is_before.Given as goal

-- what is left is still to be looked at
abbrev pub invariant-loop-channel : goal.invariant-loop-channel
invariant-loop-channel l =
    list_any (nat_eq l.id) (ids_in (take l.left (channels_left l.channel-iterator))) ≡ list_any (nat_eq l.id) (ids_in (take l.count (channels_left l.fn.channels)))
