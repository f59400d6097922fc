-- The code's values, whose parts are borrowed, as values of lists and numbers.
use Rattle.tunnel_pdus.specs.declared.value.TunnelPdu.{TunnelPdu}
use Rattle.tunnel_pdus.specs.declared.value.TunnelPdu.TheVariants as code
use Rattle.tunnel_pdus.specs.declared.value.MainFrame.{MainFrame}
use Rattle.tunnel_pdus.specs.declared.value.MainFrame.TheVariants as main
use Rattle.tunnel_pdus.specs.Value.{Pdu, CreateRequest, CreateResponse, Data, Frame, Request, Response, Channel}

abbrev pub pdu_of : TunnelPdu → Pdu
pdu_of (code.CreateRequest id cookie) = CreateRequest id cookie.now
pdu_of (code.CreateResponse hr) = CreateResponse hr
pdu_of (code.Data payload) = Data payload.now

abbrev pub frame_of : MainFrame → Frame
frame_of (main.Request id kind cookie) = Request id kind cookie.now
frame_of (main.Response id hr) = Response id hr
frame_of (main.Channel pdu) = Channel pdu.now
