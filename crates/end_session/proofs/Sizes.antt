-- The bytes of frames, of tunnel PDUs and of closes, at most.
use Rattle.std.proofs.Common.{ℕ, ◌≤◌, [], length, length-append, arith}
use Rattle.mt_base.specs.Writing.{joined}
use Rattle.dvc_channels.proofs.Sending.{sizes}
use Rattle.dvc_pdus.specs.Value.{Close, smallest, spelled}
use Rattle.tunnel_pdus.specs.Value.{Frame, Request, Response, Channel, FitsFrame, FitsPdu, frame_fields, pdu_fields}
use Rattle.tunnel_pdus.specs.Value as tunnel

pub frame_short : (f : Frame) → FitsFrame f → length (joined (frame_fields f)) ≤ 1603
frame_short (Request id kind cookie) fits = omega (arith, length-append cookie [], fits.1.0)
frame_short (Response id hr) fits = omega arith
frame_short (Channel pdu) fits = omega (arith, length-append pdu [], fits.1)

pub tunnel_short : (pdu : tunnel.Pdu) → FitsPdu pdu → length (joined (pdu_fields pdu)) ≤ 1604
tunnel_short (tunnel.CreateRequest id cookie) fits = omega (arith, length-append cookie [], fits.1.0)
tunnel_short (tunnel.CreateResponse hr) fits = omega arith
tunnel_short (tunnel.Data payload) fits = omega (arith, length-append payload [], fits.0)

pub close_short : (id : ℕ) → length (spelled (Close id)) ≤ 5
close_short id = omega (arith, length-append (smallest id) [], sizes id)
