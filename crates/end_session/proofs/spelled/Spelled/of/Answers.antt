use Rattle.std.proofs.Common.{ℕ, refl, arith, replicate}
use Rattle.std.proofs.lemmas.List.{length-replicate}
use Rattle.mt_base.proofs.Spaces.{never_refused}
use Rattle.dvc_pdus.specs.Value.{fields}
use Rattle.dvc_pdus.specs.Views.{pdu_of}
use Rattle.end_session.proofs.spelled.Spelled.of.Goals as goal

-- 1,600 bytes have room for a PDU that has no more
pub unreachable-requires : goal.unreachable-requires
unreachable-requires c =
    never_refused (fields (pdu_of c.args.pdu.now)) (replicate 1600 0) _ c.in_default.field-0 (omega (arith, length-replicate {A = ℕ} 1600 0, c.requires.1.1)) refl c.in_default.ensures.no_room
