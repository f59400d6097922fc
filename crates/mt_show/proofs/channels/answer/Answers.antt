use Rattle.std.proofs.Common.{[], ◌∷◌, codes}
use Rattle.mt_show.specs.Words.{number_field, wide_field}
use Rattle.mt_show.specs.Steps.{AddsWords}
use Rattle.mt_show.proofs.Joining.{more_words}
use Rattle.mt_show.proofs.channels.answer.Goals as goal

pub returns : goal.returns
returns c =
    let head : AddsWords (codes "answer" ∷ number_field (codes "id=") c.args.id ∷ []) c.args.out.now.bytes.items c.headed.new.out.bytes.items = cc (c.in_ok-headed.ensures) in
    let status : AddsWords (wide_field (codes "status=") c.args.status ∷ []) c.headed.new.out.bytes.items c.wide_digits.new.self.bytes.items = cc (c.in_ok-wide_digits.ensures) in
    more_words (codes "answer" ∷ number_field (codes "id=") c.args.id ∷ []) (wide_field (codes "status=") c.args.status ∷ []) c.args.out.now.bytes.items c.headed.new.out.bytes.items c.wide_digits.new.self.bytes.items
    head status
