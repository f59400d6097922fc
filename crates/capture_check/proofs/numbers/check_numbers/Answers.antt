use Rattle.capture_check.proofs.Judging.{begins_to, stops_at, goes_past}
use Rattle.capture_check.proofs.numbers.check_numbers.Goals as goal

pub loop-entry-init : goal.loop-entry-init
loop-entry-init c =
    record {
      items = c.entries-entry-items.ensures;
      judged = begins_to c.entries-entry-items.result.now c.new-given.result c.new-given.ensures;
    }

pub returns-in-Some : goal.returns-in-Some
returns-in-Some c =
    stops_at c.entries-entry-items.result.now c.args.capture.now c.loop-entry.entry-index c.loop-entry.line c.in-Some.rule c.entry-item.result c.loop-entry.given
    c.loop-entry.invariant.items c.loop-entry.invariant.judged c.loop-entry-test.true c.entry-item.is c.in-Some.ensures

pub loop-entry-preserved : goal.loop-entry-preserved
loop-entry-preserved c =
    record {
      items = c.loop-entry.invariant.items;
      judged =
          goes_past c.entries-entry-items.result.now c.loop-entry.entry-index c.loop-entry.line c.entry-item.result c.loop-entry.given c.note.new.self
          c.loop-entry.invariant.judged c.loop-entry-test.true c.entry-item.is c.in_default.ensures c.in_ok-note.ensures;
    }
