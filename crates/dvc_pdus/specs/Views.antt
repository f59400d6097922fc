-- The code's PDUs, whose parts are borrowed, as values.
use Rattle.dvc_pdus.specs.declared.pdu.DvcPdu.{DvcPdu}
use Rattle.dvc_pdus.specs.declared.pdu.DvcPdu.TheVariants as code
use Rattle.dvc_pdus.specs.ListViews.{lists_left, types_left}
use Rattle.dvc_pdus.specs.Value.{Pdu, Caps, CreateRequest, CreateResponse, DataFirst, Data, CompressedFirst, Compressed, Close, SyncRequest, SyncResponse}

abbrev pub pdu_of : DvcPdu → Pdu
pdu_of (code.Caps version charges) = Caps version charges
pdu_of (code.CreateRequest id priority name) = CreateRequest id priority name.now
pdu_of (code.CreateResponse id status) = CreateResponse id status
pdu_of (code.DataFirst id total bytes) = DataFirst id total bytes.now
pdu_of (code.Data id bytes) = Data id bytes.now
pdu_of (code.CompressedFirst id total bytes) = CompressedFirst id total bytes.now
pdu_of (code.Compressed id bytes) = Compressed id bytes.now
pdu_of (code.Close id) = Close id
pdu_of (code.SyncRequest flags tunnels lists) = SyncRequest flags tunnels (lists_left lists)
pdu_of (code.SyncResponse types) = SyncResponse (types_left types)
