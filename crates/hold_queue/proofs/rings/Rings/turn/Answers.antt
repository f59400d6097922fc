use Rattle.std.proofs.Common.{◌≡◌, ap, arith, rules}
use Rattle.std.proofs.lemmas.Grind.{common_steps}
use Rattle.circular_buffer.specs.Buffer.{buffer}
use Rattle.hold_queue.specs.Stored.{turned_records, turned_bytes}
use Rattle.hold_queue.proofs.Turns.{stored_then}
use Rattle.hold_queue.proofs.rings.Rings.turn.Goals as goal

pub returns-then-stays-clause-stored : goal.returns-then-stays-clause-stored
returns-then-stays-clause-stored c =
    let old = c.args.self.now in
    let records : c.push_back.new.self ≡ buffer (turned_records c.args.leaving old.records.items) 131072 = grind (arith, common_steps) in
    let bytes : c.move_front.new.bytes ≡ buffer (turned_bytes c.args.leaving old.records.items old.bytes.items) 2097152 = grind (arith, common_steps) in
    stored_then c.args.leaving old.records.items _ old.bytes.items _ c.requires.stored (ap (λ b. b.items) records) (ap (λ b. b.items) bytes)

pub returns-else-stays-clause-stored : goal.returns-else-stays-clause-stored
returns-else-stays-clause-stored c =
    let old = c.args.self.now in
    let records : c.pop_front.new.self ≡ buffer (turned_records c.args.leaving old.records.items) 131072 = grind (arith, common_steps) in
    let bytes : c.truncate_front.new.self ≡ buffer (turned_bytes c.args.leaving old.records.items old.bytes.items) 2097152 = grind (arith, common_steps) in
    stored_then c.args.leaving old.records.items _ old.bytes.items _ c.requires.stored (ap (λ b. b.items) records) (ap (λ b. b.items) bytes)
