-- A message that is sent: its frames on the main stream, or its PDUs for a link, which the caller gives.
use Rattle.std.specs.Prelude.{ℕ, List, ◌++◌, map}
use Rattle.std.specs.List.{flat_map}
use Rattle.mt_base.specs.declared.kinds.Kind.TheVariants.{Reliable, Lossy}
use Rattle.dvc_pdus.specs.Value.{Pdu, spelled}
use Rattle.soft_sync.specs.declared.kinds.Path.{Path}
use Rattle.soft_sync.specs.declared.kinds.Path.TheVariants.{Main, Tunnel}
use Rattle.mt_endpoint.specs.Acts.{Drawn, Carried, Spoken}
use Rattle.mt_endpoint.specs.Writing.{framed}
use Rattle.end_session.specs.Standing.{Gone}

-- the bytes of PDUs on the main stream
abbrev pub frames_of : List Pdu → List ℕ
frames_of pdus = flat_map (λ pdu. framed (Spoken pdu)) pdus

-- a channel PDU in a tunnel
abbrev pub carrying : Pdu → Drawn
carrying pdu = Carried (spelled pdu) pdu

-- what was handed out, and then the PDUs of a message whose path is a tunnel
abbrev pub with_message : Path → List Pdu → Gone → Gone
with_message Main pdus gone = gone
with_message (Tunnel Reliable) pdus gone = record gone { reliable = gone.reliable ++ map carrying pdus }
with_message (Tunnel Lossy) pdus gone = record gone { lossy = gone.lossy ++ map carrying pdus }
