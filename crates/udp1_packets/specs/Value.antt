-- Packets of the first layout as values of lists and numbers (MS-RDPEUDP section 2.2).
use Rattle.std.specs.Prelude.{ℕ, Bool, List, Option}

-- the extension of an opening packet: flags, version, and a hash of a cookie
pub record Extended : Type 0 where
  pub flags : ℕ
  pub version : ℕ
  pub hash : Option (List ℕ)

-- An opening packet: whether it answers one, the first number, the two MTUs, the correlation
-- identifier with its reserved bytes, the extension, and how many zeros follow.
pub record Syn : Type 0 where
  pub answer : Bool
  pub initial : ℕ
  pub up : ℕ
  pub down : ℕ
  pub correlation : Option (List ℕ)
  pub extension : Option Extended
  pub padding : ℕ

-- What stands behind the header. Where a vector is there, `vector` is its elements; `aoa` is an
-- acknowledgement of acknowledgements.
pub data Body : Type 0 where
  SynBody : (syn : Syn) → Body
  DataBody : (vector : Option (List ℕ)) (aoa : Option ℕ) (coded start : ℕ) (bytes : List ℕ) → Body
  FecBody : (vector : Option (List ℕ)) (aoa : Option ℕ) (coded start range index : ℕ)
      (bytes : List ℕ) → Body
  BareBody : (vector : Option (List ℕ)) (aoa : Option ℕ) (rest : List ℕ) → Body

-- `marks` are the flags that announce nothing in the packet
pub record Packet : Type 0 where
  pub ack : ℕ
  pub window : ℕ
  pub marks : ℕ
  pub body : Body
