use Rattle.std.proofs.Common.{refl, arith}
use Rattle.dvc_channels.specs.Fragments.{fragments_of}
use Rattle.end_session.proofs.MessagesSent.{byte_each, frames_count, message_most}
use Rattle.end_session.proofs.sending.frames_size.Goals as goal

-- each PDU has 1,600 bytes at most
pub overflow_add-result : goal.overflow_add-result
overflow_add-result c =
    let message = c.args.message.now in
    let most = message_most c.args.id message (omega arith) (omega arith) (byte_each message c.type_inv.message) in
    omega (arith, most, c.fragments_size.ensures message refl, c.fragments.ensures message refl)

pub returns : goal.returns
returns c =
    let message = c.args.message.now in
    omega (arith, frames_count (fragments_of c.args.id message), c.fragments_size.ensures message refl, c.fragments.ensures message refl)
