-- The client by hand.
use Rattle.std.proofs.Common.{arith, inl, refl}
use Rattle.mt_base.specs.declared.kinds.Role.TheVariants.{Client}
use Rattle.end_calls.specs.Example.{Shows, answered}
use Rattle.end_calls.specs.Law.{EndTrace}

law : EndTrace Client answered
unfolding Rattle.end_calls.specs.Streams.with_main Rattle.end_calls.specs.Streams.with_tunnel Rattle.tunnel_pdus.specs.Reading.frame_reading Rattle.tunnel_pdus.specs.Reading.frame_at Rattle.tunnel_pdus.specs.Reading.kind_at Rattle.tunnel_pdus.specs.Reading.frame_length_at Rattle.tunnel_pdus.specs.Reading.request_at Rattle.tunnel_pdus.specs.Reading.response_at Rattle.tunnel_pdus.specs.Reading.channel_at Rattle.tunnel_pdus.specs.Reading.reading Rattle.tunnel_pdus.specs.Reading.pdu_at Rattle.tunnel_pdus.specs.Reading.action_at Rattle.tunnel_pdus.specs.Reading.length_at Rattle.tunnel_pdus.specs.Reading.header_at Rattle.tunnel_pdus.specs.Reading.sub_headers_at Rattle.tunnel_pdus.specs.Reading.sub_headers_within Rattle.tunnel_pdus.specs.Reading.pdu_in Rattle.dvc_pdus.specs.Reading.reading Rattle.dvc_pdus.specs.Reading.pdu_at Rattle.dvc_pdus.specs.Reading.body_at Rattle.dvc_pdus.specs.Reading.capabilities_at Rattle.dvc_pdus.specs.Reading.charges_at Rattle.dvc_pdus.specs.Reading.ended
law = (
  record {
    of_kind = refl;
    pulled = (
      (refl, omega arith, refl, refl, (refl, omega arith, refl, refl, (refl, omega arith, refl, refl, (refl, omega arith, refl, refl, (refl, omega arith, refl, refl, tt))))),
      inl refl,
    );
    handed = (tt, inl refl);
    lacking = tt;
  },
  record { unsent_fits = omega arith; reliable_fits = omega arith; lossy_fits = omega arith },
  (
    (tt, refl, tt, refl, record { asked = tt; unattached = refl; unrefused = refl }),
    record { unsent_fits = omega arith; reliable_fits = omega arith; lossy_fits = omega arith },
    (
      (refl, refl, tt),
      record { unsent_fits = omega arith; reliable_fits = omega arith; lossy_fits = omega arith },
      (
        (refl, refl, tt),
        record { unsent_fits = omega arith; reliable_fits = omega arith; lossy_fits = omega arith },
        (
          (refl, refl, tt),
          record { unsent_fits = omega arith; reliable_fits = omega arith; lossy_fits = omega arith },
          ((tt, refl, tt, refl, tt), record { unsent_fits = omega arith; reliable_fits = omega arith; lossy_fits = omega arith }, tt),
        ),
      ),
    ),
  ),
)

pub shown : Shows
unfolding Rattle.end_calls.specs.Streams.with_main Rattle.end_calls.specs.Streams.with_tunnel Rattle.tunnel_pdus.specs.Reading.frame_reading Rattle.tunnel_pdus.specs.Reading.frame_at Rattle.tunnel_pdus.specs.Reading.kind_at Rattle.tunnel_pdus.specs.Reading.frame_length_at Rattle.tunnel_pdus.specs.Reading.request_at Rattle.tunnel_pdus.specs.Reading.response_at Rattle.tunnel_pdus.specs.Reading.channel_at Rattle.tunnel_pdus.specs.Reading.reading Rattle.tunnel_pdus.specs.Reading.pdu_at Rattle.tunnel_pdus.specs.Reading.action_at Rattle.tunnel_pdus.specs.Reading.length_at Rattle.tunnel_pdus.specs.Reading.header_at Rattle.tunnel_pdus.specs.Reading.sub_headers_at Rattle.tunnel_pdus.specs.Reading.sub_headers_within Rattle.tunnel_pdus.specs.Reading.pdu_in Rattle.dvc_pdus.specs.Reading.reading Rattle.dvc_pdus.specs.Reading.pdu_at Rattle.dvc_pdus.specs.Reading.body_at Rattle.dvc_pdus.specs.Reading.capabilities_at Rattle.dvc_pdus.specs.Reading.charges_at Rattle.dvc_pdus.specs.Reading.ended
shown = record {
  under_way = refl;
  nothing_said = refl;
  acts_are = refl;
  said = refl;
  gave = refl;
  is_open = refl;
  told = refl;
  law = law;
  counted = refl;
  unknown = refl;
  not_ready = refl;
  no_version = refl;
  broken = refl;
}
