use Rattle.std.proofs.Common.{arith, refl, ℕ, List, slice_index_or, Fits, w8}
use Rattle.std.proofs.lemmas.List.Elements.{All-from_get_or}
use Rattle.mt_base.specs.declared.kinds.Role.TheVariants.{Server}
use Rattle.mt_base.proofs.Spaces.{never_refused}
use Rattle.dvc_pdus.specs.Value.{AreBytes, fields}
use Rattle.dvc_pdus.specs.Views.{pdu_of}
use Rattle.dvc_channels.proofs.Sending.{IsByte, sent_at}
use Rattle.dvc_channels.proofs.splitting.fragment_of.Goals as goal

bytes_fit : (message : List ℕ) → ((i : ℕ) → Fits w8 (slice_index_or message i 0)) → AreBytes message
bytes_fit message h = All-from_get_or IsByte message 0 (λ i inside. let fits : Fits w8 (slice_index_or message i 0) = h i in omega arith)

pub write_dvc-requires : goal.write_dvc-requires
write_dvc-requires c =
    let message = c.args.message.now in
    (Server, (sent_at Server c.args.id message c.args.k (pdu_of c.fragment-pdu.result) (omega arith) (omega arith) (bytes_fit message c.type_inv.message) c.fragment-pdu.ensures).0)

pub unreachable-requires : goal.unreachable-requires
unreachable-requires c =
    let message = c.args.message.now in
    let pdu = pdu_of c.fragment-pdu.result in
    let is = sent_at Server c.args.id message c.args.k pdu (omega arith) (omega arith) (bytes_fit message c.type_inv.message) c.fragment-pdu.ensures in
    never_refused (fields pdu) c.args.out.now _ c.in-Err.field-0 (omega arith) refl c.in-Err.ensures.no_room
