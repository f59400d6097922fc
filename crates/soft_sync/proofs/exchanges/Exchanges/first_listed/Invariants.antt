use Rattle.std.proofs.Common.{◌≡◌, All, false, take}
use Rattle.std.specs.Option.{is_some}
use Rattle.soft_sync.specs.Exchanges.{listed}
use Rattle.soft_sync.specs.Table.{exchanges_in}
use Rattle.soft_sync.proofs.exchanges.Exchanges.first_listed.Given as goal

abbrev pub invariant-loop-id : goal.invariant-loop-id
invariant-loop-id l = All (λ id. is_some (listed id (exchanges_in l.self.rows.items l.self.listings.entries)) ≡ false) (take l.id-index l.ids)
