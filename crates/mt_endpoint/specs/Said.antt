-- What a channel PDU says to an end: the four data PDUs are one.
use Rattle.std.specs.Prelude.{ℕ, List, [], ◌∷◌}
use Rattle.mt_base.specs.declared.kinds.Kind.{Kind}
use Rattle.dvc_pdus.specs.Value.{Pdu, Caps, CreateRequest, CreateResponse, DataFirst, Data, CompressedFirst, Compressed, Close, SyncRequest, SyncResponse, ChannelList}

pub data Said : Type 0 where
  Capable : (version : ℕ) → Said
  Creates : (id : ℕ) (name : List ℕ) → Said
  Created : (id status : ℕ) → Said
  -- data for this channel
  Brings : (id : ℕ) → Said
  Ends : (id : ℕ) → Said
  -- Soft-Sync: channels move to tunnels
  Moves : (lists : List ChannelList) → Said
  -- the answer to that
  Moved : (kinds : List Kind) → Said

abbrev pub said : Pdu → Said
said (Caps version charges) = Capable version
said (CreateRequest id priority name) = Creates id name
said (CreateResponse id status) = Created id status
said (DataFirst id total bytes) = Brings id
said (Data id bytes) = Brings id
said (CompressedFirst id total bytes) = Brings id
said (Compressed id bytes) = Brings id
said (Close id) = Ends id
said (SyncRequest flags tunnels lists) = Moves lists
said (SyncResponse types) = Moved types

-- a lone data PDU, which is all that a lossy tunnel carries
abbrev pub lone : Pdu → List ℕ
lone (Data id bytes) = id ∷ []
lone pdu = []
