-- What the code's timer stands for.
use Rattle.std.specs.Prelude.{ℕ, ◌+◌, ◌*◌, ◌^◌, min}
use Rattle.carrier.specs.Sending.{Timer}
use Rattle.carrier.specs.declared.clock.Clock.{Clock}

abbrev pub timer_of : Clock → Timer
timer_of c = record { start = c.start; expiries = c.expiries }

-- the moment of the next expiry, where the shortest wait is this
abbrev pub expiry_of : ℕ → Timer → ℕ
expiry_of wait t = t.start + wait * 2 ^ min t.expiries 4
