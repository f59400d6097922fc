use Rattle.std.proofs.Common.{[], ◌∷◌, map, codes}
use Rattle.dvc_pdus.specs.ListViews.{types_left}
use Rattle.mt_script.specs.Spelling.{kind_name}
use Rattle.mt_show.specs.Steps.{AddsWords}
use Rattle.mt_show.proofs.Joining.{more_words}
use Rattle.mt_show.proofs.channels.response.Goals as goal

pub returns : goal.returns
returns c =
    let head : AddsWords (codes "syncanswer" ∷ []) c.args.out.now.bytes.items c.word.new.self.bytes.items = cc (c.in_ok-word.ensures) in
    more_words (codes "syncanswer" ∷ []) (map kind_name (types_left c.args.types)) c.args.out.now.bytes.items c.word.new.self.bytes.items c.kinds.new.out.bytes.items
    head c.in_ok-kinds.ensures
