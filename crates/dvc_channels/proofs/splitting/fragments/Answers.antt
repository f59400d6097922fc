use Rattle.dvc_channels.proofs.Sending.{count_of_numbers}
use Rattle.dvc_channels.proofs.splitting.fragments.Goals as goal

pub returns : goal.returns
returns c message is =
    count_of_numbers c.args.id c.args.total c.room-room.result c.size.result c.div_ceil.result message is c.room-room.ensures c.size.ensures c.if-total-room.false c.div_ceil.ensures
