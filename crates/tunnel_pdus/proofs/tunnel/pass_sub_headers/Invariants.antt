use Rattle.std.proofs.Common.{◌≡◌, ◌-◌, ◌<◌, ◌^◌}
use Rattle.tunnel_pdus.specs.Reading.{sub_headers_at}
use Rattle.tunnel_pdus.proofs.tunnel.pass_sub_headers.Given as goal

abbrev pub invariant-loop-at : goal.invariant-loop-at
invariant-loop-at l = record { same : sub_headers_at l.at l.end l.bytes ≡ sub_headers_at 4 l.end l.bytes; small : l.at < 2 ^ 8 }

abbrev pub decreases-loop-at : goal.decreases-loop-at
decreases-loop-at l = l.end - l.at
