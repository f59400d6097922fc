-- Packets of the second layout as values of lists and numbers (MS-RDPEUDP2 section 2.2).
use Rattle.std.specs.Prelude.{ℕ, List, Option}

-- An acknowledgement: the number that it tells, the time when that was
-- received, the time up to the acknowledgement, and the delays of the numbers before it with their
-- scale.
pub record Ack : Type 0 where
  pub number : ℕ
  pub received_ts : ℕ
  pub gap : ℕ
  pub scale : ℕ
  pub delays : List ℕ

-- the time in an acknowledgement vector
pub record Stamp : Type 0 where
  pub time : ℕ
  pub gap : ℕ

-- an acknowledgement vector: the number of its first flag, and its coded bytes
pub record Vector : Type 0 where
  pub base : ℕ
  pub stamp : Option Stamp
  pub coded : List ℕ

-- what is told as received: at most one of the two
pub data Telling : Type 0 where
  NoTelling : Telling
  AckTelling : (ack : Ack) → Telling
  VectorTelling : (vector : Vector) → Telling

-- how long acknowledgements may be delayed
pub record Delay : Type 0 where
  pub most : ℕ
  pub timeout : ℕ

-- What a packet carries: nothing, data with the numbers of its transmission and of its part, or what
-- has no effect, with a transmission's number or without.
pub data Body : Type 0 where
  NoBody : Body
  DataBody : (number part : ℕ) (bytes : List ℕ) → Body
  DummyBody : (number : Option ℕ) (rest : List ℕ) → Body

pub record Packet : Type 0 where
  pub log_window : ℕ
  pub telling : Telling
  pub overhead : Option ℕ
  pub delay : Option Delay
  pub aoa : Option ℕ
  pub body : Body
