-- An end that was made has read nothing.
use Rattle.std.proofs.Common.{◌≡◌, [], None, Ok, refl, ap}
use Rattle.mt_base.specs.declared.kinds.Role.{Role}
use Rattle.mt_base.specs.declared.kinds.Role.TheVariants.{Server, Client}
use Rattle.mt_base.specs.Trace.{Start, ◌▷◌}
use Rattle.tunnel_pdus.specs.declared.part.Part.TheVariants.{More}
use Rattle.tunnel_pdus.specs.Reading.{action_at, frame_at, frame_reading, kind_at, pdu_at, reading}
use Rattle.mt_endpoint.specs.Acts.{Began}
use Rattle.mt_endpoint.specs.Resting.{Rests}
use Rattle.end_calls.specs.Streams.{Under, grows, none_yet, nothing}
use Rattle.end_session.specs.Standing.{Stands, nothing_gone}
use Rattle.end_session.specs.Store.{Store}
use Rattle.end_reader.specs.Standing.{IsTold, Reads}

pub no_frame_yet : frame_reading [] ≡ Ok (More 1)
unfolding frame_reading frame_at kind_at
no_frame_yet = refl

pub no_pdu_yet : reading [] ≡ Ok (More 1)
unfolding reading pdu_at action_at
no_pdu_yet = refl

told_none : (kept : Under) → kept ≡ none_yet → IsTold kept none_yet
told_none kept is = record { at_is = ap (λ (u : Under). u.at) is; bytes_are = ap (λ (u : Under). u.bytes) is }

nothing_rests : (role : Role) → Rests role (Start ▷ Began)
nothing_rests Server id kind h = refl
nothing_rests Client id kind h = refl

pub begun : (s : Store) (main tunnel : Under) (role : Role) → s.role ≡ role → s.broken ≡ None → main ≡ none_yet → tunnel ≡ none_yet → Stands s (Start ▷ Began) nothing_gone
    → Reads (record { session = s; main = main; tunnel = tunnel }) (grows role Began nothing) nothing_gone
begun s main tunnel Server is whole main_is tunnel_is st = record {
  stands = st;
  broken_is = whole;
  main_is = λ w. told_none main main_is;
  tunnel_is = λ w. told_none tunnel tunnel_is;
  main_waits = λ w. (1, no_frame_yet);
  tunnel_waits = λ w. (1, no_pdu_yet);
  rests = λ w. nothing_rests s.role;
  quiet = λ w client. refl;
}
begun s main tunnel Client is whole main_is tunnel_is st = record {
  stands = st;
  broken_is = whole;
  main_is = λ w. told_none main main_is;
  tunnel_is = λ w. told_none tunnel tunnel_is;
  main_waits = λ w. (1, no_frame_yet);
  tunnel_waits = λ w. (1, no_pdu_yet);
  rests = λ w. nothing_rests s.role;
  quiet = λ w client. refl;
}
