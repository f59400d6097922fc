use Rattle.std.proofs.Common.{[], ◌∷◌, ◌++◌, codes}
use Rattle.mt_show.specs.Words.{number_field}
use Rattle.mt_show.specs.Steps.{AddsWords}
use Rattle.mt_show.proofs.Joining.{more_words}
use Rattle.mt_show.proofs.channels.create.Goals as goal

pub returns : goal.returns
returns c =
    let head : AddsWords (codes "create" ∷ number_field (codes "id=") c.args.id ∷ []) c.args.out.now.bytes.items c.headed.new.out.bytes.items = cc (c.in_ok-headed.ensures) in
    more_words (codes "create" ∷ number_field (codes "id=") c.args.id ∷ []) ((codes "name=" ++ c.args.name.now) ∷ []) c.args.out.now.bytes.items c.headed.new.out.bytes.items c.named.new.out.bytes.items
    head c.in_ok-named.ensures
