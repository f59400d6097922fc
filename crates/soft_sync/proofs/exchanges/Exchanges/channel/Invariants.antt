use Rattle.std.proofs.Common.{◌≡◌, drop, slice_get}
use Rattle.soft_sync.specs.Table.{listed_by}
use Rattle.soft_sync.proofs.exchanges.Exchanges.channel.Given as goal

-- the channel stands so far ahead of the place that was reached
abbrev pub invariant-loop-at : goal.invariant-loop-at
invariant-loop-at l =
    slice_get (listed_by l.number (drop l.at l.self.listings.entries)) l.ahead ≡ slice_get (listed_by l.fn.number l.fn.self.listings.entries) l.fn.place
