-- What an end wrote and has not handed out: bytes of the main stream, and bytes for each of its links.
use Rattle.std.specs.Prelude.{ℕ, List, [], ◌++◌}
use Rattle.mt_base.specs.declared.kinds.Kind.{Kind}
use Rattle.mt_base.specs.declared.kinds.Kind.TheVariants.{Reliable, Lossy}
use Rattle.mt_endpoint.specs.Acts.{Heard, Drawn}
use Rattle.mt_endpoint.specs.Writing.{framed, tunneled}

pub record Outgoing : Type 0 where
  pub main : List ℕ
  pub reliable : List ℕ
  pub lossy : List ℕ

abbrev pub nothing_waits : Outgoing
nothing_waits = record { main = []; reliable = []; lossy = [] }

-- what waits for a link
abbrev pub waiting_for : Kind → Outgoing → List ℕ
waiting_for Reliable o = o.reliable
waiting_for Lossy o = o.lossy

-- bytes more wait for a link
abbrev pub with_bytes : Kind → List ℕ → Outgoing → Outgoing
with_bytes Reliable bytes o = record o { reliable = o.reliable ++ bytes }
with_bytes Lossy bytes o = record o { lossy = o.lossy ++ bytes }

-- a frame is written on the main stream
abbrev pub says : Heard → Outgoing → Outgoing
says heard o = record o { main = o.main ++ framed heard }

-- a tunnel PDU is written for a link
abbrev pub carries : Kind → Drawn → Outgoing → Outgoing
carries kind drawn o = with_bytes kind (tunneled drawn) o

-- what waited for a link was given
abbrev pub emptied : Kind → Outgoing → Outgoing
emptied Reliable o = record o { reliable = [] }
emptied Lossy o = record o { lossy = [] }
