use Rattle.std.specs.Option.{option_copied}
use Rattle.mt_show.specs.Words.{told_words, data_words, fec_words}
use Rattle.mt_show.proofs.Joining.{more_words}
use Rattle.mt_show.proofs.packets.body.Goals as goal

pub returns-in_ok-data-in-Data : goal.returns-in_ok-data-in-Data
returns-in_ok-data-in-Data c =
    rw c.in-Data.is (more_words (told_words (option_copied c.in-Data.vector) c.in-Data.aoa) (data_words c.in-Data.coded c.in-Data.start c.in-Data.bytes.now) c.args.out.now.bytes.items c.told.new.out.bytes.items c.data.new.out.bytes.items
    c.in_ok-told-in-Data.ensures c.in_ok-data-in-Data.ensures)

pub returns-in_ok-fec-in-Fec : goal.returns-in_ok-fec-in-Fec
returns-in_ok-fec-in-Fec c =
    rw c.in-Fec.is (more_words (told_words (option_copied c.in-Fec.vector) c.in-Fec.aoa) (fec_words c.in-Fec.coded c.in-Fec.start c.in-Fec.range c.in-Fec.index c.in-Fec.bytes.now) c.args.out.now.bytes.items c.told-in-Fec.new.out.bytes.items c.fec.new.out.bytes.items
    c.in_ok-told-in-Fec.ensures c.in_ok-fec-in-Fec.ensures)
