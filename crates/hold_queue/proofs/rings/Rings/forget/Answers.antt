use Rattle.std.proofs.Common.{◌≡◌, Some, slice_get, rules}
use Rattle.hold_queue.proofs.Records.{gone_stored}
use Rattle.hold_queue.proofs.rings.Rings.forget.Goals as goal

pub drop_gone-requires : goal.drop_gone-requires
drop_gone-requires c =
    let old = c.args.self.now in
    let is : slice_get old.records.items c.args.index ≡ Some c.in-Some.record.now = search rules in
    record { stored = gone_stored c.args.index old.records.items c.in-Some.record.now old.bytes.items is c.requires.stored }
