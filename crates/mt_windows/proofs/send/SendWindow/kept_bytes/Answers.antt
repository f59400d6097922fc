use Rattle.std.proofs.Common.{arith}
use Rattle.mt_windows.proofs.Sendings.{flights_bound}
use Rattle.mt_windows.proofs.send.SendWindow.kept_bytes.Goals as goal

pub overflow_add-result : goal.overflow_add-result
overflow_add-result g c = omega (arith, flights_bound _ c.self.invariant.sound, c.len.ensures.len, c.self.invariant.sound.waiting_bound, c.bytes.ensures)

pub returns-clause-bound : goal.returns-clause-bound
returns-clause-bound g c = omega (arith, flights_bound _ c.self.invariant.sound, c.len.ensures.len, c.self.invariant.sound.waiting_bound, c.bytes.ensures)
