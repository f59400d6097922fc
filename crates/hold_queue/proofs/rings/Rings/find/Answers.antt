use Rattle.std.proofs.Common.{◌≡◌, ◌+◌, ◌≤◌, Some, false, true, cond, nat_eq, slice_get, length, take, ap, ◌∙◌, subst, sym, arith, rules}
use Rattle.std.proofs.lemmas.List.Elements.{All-push}
use Rattle.hold_queue.specs.declared.record.Record.{Record}
use Rattle.hold_queue.specs.Stored.{is_for, total}
use Rattle.hold_queue.proofs.Records.{total_more, within_at, none_more, not_held, other_channel}
use Rattle.hold_queue.proofs.rings.Rings.find.Goals as goal
use Rattle.hold_queue.proofs.rings.Rings.find.Goals.{else-record-via-then-record+else-record-id, else-record-via-else-record}

pub overflow_add-place : goal.overflow_add-place
overflow_add-place c =
    let rs = c.args.self.now.records.items in
    let is : slice_get rs c.loop-index.index ≡ Some c.in-Some.record.now = search rules in
    let at = within_at c.loop-index.index rs c.in-Some.record.now c.args.self.now.bytes.items is c.requires.stored in
    let within = (c.requires.stored).within in
    let place = c.loop-index.invariant.place_is in
    omega (arith, at.1, within, place)

pub loop-index-preserved : goal.loop-index-preserved
loop-index-preserved c =
    let rs = c.args.self.now.records.items in
    let r = c.in-Some.record.now in
    let is : slice_get rs c.loop-index.index ≡ Some r = search rules in
    let not : is_for c.args.id r ≡ false = elim c.else-record.branch [
      | else-record-via-then-record+else-record-id w ↦ other_channel c.args.id r w.if-record.true w.if-record-id.false
      | else-record-via-else-record w ↦ not_held c.args.id r w.if-record.false
    ] in
    record {
      none_before = none_more c.args.id c.loop-index.index rs r is not c.loop-index.invariant.none_before;
      place_is = ap (λ n. n + r.length) c.loop-index.invariant.place_is ∙ sym (total_more c.loop-index.index rs r is);
    }
