use Rattle.std.proofs.Common.{◌≡◌, All, false, not, take}
use Rattle.soft_sync.specs.Words.{is_open_channel}
use Rattle.soft_sync.proofs.paths.Paths.first_unknown.Given as goal

abbrev pub invariant-loop-id : goal.invariant-loop-id
invariant-loop-id l = All (λ id. not (is_open_channel id l.self) ≡ false) (take l.id-index l.ids)
