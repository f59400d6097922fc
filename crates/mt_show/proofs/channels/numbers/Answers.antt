use Rattle.std.specs.Fmt.{decimal}
use Rattle.dvc_pdus.specs.ListViews.{ids_left}
use Rattle.mt_show.specs.Steps.{Adds}
use Rattle.mt_show.proofs.ChannelParts.{numbers_put}
use Rattle.mt_show.proofs.channels.numbers.Goals as goal

pub returns : goal.returns
returns c =
    let first : Adds (decimal c.in-Some.first) c.args.out.now.bytes.items c.put_decimal.new.self.bytes.items = cc (c.in_ok-put_decimal.ensures, c.from.ensures) in
    numbers_put (ids_left c.args.ids) (ids_left c.next.new.self) c.in-Some.first c.args.out.now.bytes.items c.put_decimal.new.self.bytes.items c.more_numbers.new.out.bytes.items
    c.in-Some.ensures.steps first c.in_ok-more_numbers.ensures
