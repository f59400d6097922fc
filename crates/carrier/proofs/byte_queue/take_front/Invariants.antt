use Rattle.std.proofs.Common.{◌≡◌, ◌≤◌, take, drop, length}
use Rattle.std.specs.VecDeque.{deque_capacity}
use Rattle.carrier.proofs.byte_queue.take_front.Given as goal

abbrev pub invariant-loop-place : goal.invariant-loop-place
invariant-loop-place l = record {
  size : length l.out ≡ length l.fn.out;
  items : l.queue.items ≡ drop l.place l.fn.queue.items;
  bytes : take l.place l.out ≡ take l.place l.fn.queue.items;
  rest : drop l.place l.out ≡ drop l.place l.fn.out;
  capacity : deque_capacity l.fn.queue ≤ deque_capacity l.queue;
}
