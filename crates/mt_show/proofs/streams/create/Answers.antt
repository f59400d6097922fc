use Rattle.std.proofs.Common.{[], ◌∷◌, ◌++◌, codes}
use Rattle.mt_show.specs.Words.{number_field, hex_field}
use Rattle.mt_show.specs.Steps.{AddsWords}
use Rattle.mt_show.proofs.Joining.{more_words}
use Rattle.mt_show.proofs.streams.create.Goals as goal

pub returns : goal.returns
returns c =
    let h0 : AddsWords (codes "create" ∷ []) c.args.out.now.bytes.items c.word.new.self.bytes.items = cc (c.in_ok-word.ensures) in
    let h1 : AddsWords (number_field (codes "id=") c.args.id ∷ []) c.word.new.self.bytes.items c.number.new.self.bytes.items = cc (c.in_ok-number.ensures, c.from.ensures) in
    let h2 : AddsWords (hex_field (codes "cookie=") c.args.cookie.now ∷ []) c.number.new.self.bytes.items c.hex.new.self.bytes.items = cc (c.in_ok-hex.ensures) in
    let m1 = more_words (number_field (codes "id=") c.args.id ∷ []) (hex_field (codes "cookie=") c.args.cookie.now ∷ []) c.word.new.self.bytes.items c.number.new.self.bytes.items c.hex.new.self.bytes.items h1 h2 in
    let m0 = more_words (codes "create" ∷ []) ((number_field (codes "id=") c.args.id ∷ []) ++ (hex_field (codes "cookie=") c.args.cookie.now ∷ [])) c.args.out.now.bytes.items c.word.new.self.bytes.items c.hex.new.self.bytes.items h0 m1 in
    m0
