use Rattle.std.proofs.Common.{◌^◌, ◌<◌}
use Rattle.byteorder.specs.Endian.{little_bytes}
use Rattle.mt_base.specs.CursorView.{left}
use Rattle.dvc_pdus.specs.Reading.{number_at}
use Rattle.dvc_pdus.proofs.Items.{Passed}
use Rattle.dvc_pdus.proofs.sync.ids.Given as goal

abbrev pub invariant-loop : goal.invariant-loop
invariant-loop l = Passed number_at (little_bytes 4) (λ id. id < 2 ^ 32) l.count l.counter (left l.fn.from) (left l.from)
