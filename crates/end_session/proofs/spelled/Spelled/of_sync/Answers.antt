use Rattle.std.proofs.Common.{ℕ, refl, arith, replicate}
use Rattle.std.proofs.lemmas.List.{length-replicate}
use Rattle.mt_base.proofs.Spaces.{never_refused}
use Rattle.dvc_pdus.specs.Value.{fields, sync_request}
use Rattle.end_session.proofs.spelled.Spelled.of_sync.Goals as goal

pub unreachable-requires : goal.unreachable-requires
unreachable-requires c =
    never_refused (fields (sync_request c.args.reliable.now c.args.lossy.now)) (replicate 1600 0) _ c.in_default.field-0 (omega (arith, length-replicate {A = ℕ} 1600 0, c.requires.1)) refl c.in_default.ensures.no_room
