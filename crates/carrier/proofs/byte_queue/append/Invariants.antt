use Rattle.std.proofs.Common.{◌≡◌, ◌≤◌, ◌++◌, take}
use Rattle.std.specs.VecDeque.{deque_capacity}
use Rattle.carrier.proofs.byte_queue.append.Given as goal

abbrev pub invariant-loop-byte : goal.invariant-loop-byte
invariant-loop-byte l = record {
  items : l.queue.items ≡ l.fn.queue.items ++ take l.byte-index l.bytes;
  capacity : deque_capacity l.fn.queue ≤ deque_capacity l.queue;
}
