use Rattle.std.proofs.Common.{Some, sym, ap, ◌∙◌}
use Rattle.dvc_pdus.specs.Value.{Data}
use Rattle.dvc_channels.proofs.Sending.{later_of_numbers}
use Rattle.dvc_channels.proofs.splitting.fragment.Goals as goal

pub bytes_from-bytes-requires : goal.bytes_from-bytes-requires
bytes_from-bytes-requires c =
    (later_of_numbers c.args.id c.room-room.result c.size.result c.args.k c.args.message.now c.room-room.ensures c.size.ensures c.if-message-room.false c.if-k-eq0.false c.requires.number).0

pub returns : goal.returns
returns c =
    (later_of_numbers c.args.id c.room-room.result c.size.result c.args.k c.args.message.now c.room-room.ensures c.size.ensures c.if-message-room.false c.if-k-eq0.false c.requires.number).1
    ∙ ap (λ bytes. Some (Data c.args.id bytes)) (sym c.bytes_from-bytes.ensures)
