use Rattle.std.proofs.Common.{[], ◌∷◌, codes, length}
use Rattle.mt_show.specs.Words.{number_field}
use Rattle.mt_show.specs.Steps.{AddsWords}
use Rattle.mt_show.proofs.Joining.{more_words}
use Rattle.mt_show.proofs.packets.bare.Goals as goal

pub returns : goal.returns
returns c =
    let h0 : AddsWords (codes "bare" ∷ []) c.args.out.now.bytes.items c.word.new.self.bytes.items = cc (c.in_ok-word.ensures) in
    let h1 : AddsWords (number_field (codes "rest=") (length c.args.rest.now) ∷ []) c.word.new.self.bytes.items c.number.new.self.bytes.items = cc (c.in_ok-number.ensures) in
    let m0 = more_words (codes "bare" ∷ []) (number_field (codes "rest=") (length c.args.rest.now) ∷ []) c.args.out.now.bytes.items c.word.new.self.bytes.items c.number.new.self.bytes.items h0 h1 in
    m0
