use Rattle.std.proofs.Common.{ℕ, refl, arith, replicate}
use Rattle.std.proofs.lemmas.List.{length-replicate}
use Rattle.mt_base.proofs.Spaces.{never_refused}
use Rattle.tunnel_pdus.specs.Value.{frame_fields}
use Rattle.tunnel_pdus.specs.Views.{frame_of}
use Rattle.end_session.proofs.Sizes.{frame_short}
use Rattle.end_session.proofs.outgoing.Outgoing.put_frame.Goals as goal

-- there is room for the greatest frame
pub unreachable-requires : goal.unreachable-requires
unreachable-requires c =
    let frame = frame_of c.args.frame.now in
    never_refused (frame_fields frame) (replicate 1603 0) _ c.in_default.field-0 (omega (arith, length-replicate {A = ℕ} 1603 0, frame_short frame c.requires.fits)) refl c.in_default.ensures.no_room
