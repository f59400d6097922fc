use Rattle.std.proofs.Common.{[], ◌∷◌, ◌++◌, codes}
use Rattle.mt_show.specs.Words.{number_field, where_there}
use Rattle.mt_show.specs.ChannelWords.{charges_word}
use Rattle.mt_show.specs.Steps.{AddsWords}
use Rattle.mt_show.proofs.Joining.{more_words}
use Rattle.mt_show.proofs.channels.capabilities.Goals as goal

pub returns : goal.returns
returns c =
    let head : AddsWords (codes "caps" ∷ []) c.args.out.now.bytes.items c.word.new.self.bytes.items = cc (c.in_ok-word.ensures) in
    let version : AddsWords (number_field (codes "version=") c.args.version ∷ []) c.word.new.self.bytes.items c.number.new.self.bytes.items = cc (c.in_ok-number.ensures, c.from.ensures) in
    let charges = where_there charges_word c.args.charges in
    let last = c.priority_charges.new.out.bytes.items in
    let a = more_words (number_field (codes "version=") c.args.version ∷ []) charges c.word.new.self.bytes.items c.number.new.self.bytes.items last version c.in_ok-priority_charges.ensures in
    more_words (codes "caps" ∷ []) ((number_field (codes "version=") c.args.version ∷ []) ++ charges) c.args.out.now.bytes.items c.word.new.self.bytes.items last head a
