use Rattle.std.proofs.Common.{[], ◌∷◌, ◌++◌, codes}
use Rattle.mt_show.specs.Words.{number_field, hex_field}
use Rattle.mt_show.specs.Steps.{AddsWords}
use Rattle.mt_show.proofs.Joining.{more_words}
use Rattle.mt_show.proofs.packets.fec.Goals as goal

pub returns : goal.returns
returns c =
    let h0 : AddsWords (codes "fec" ∷ []) c.args.out.now.bytes.items c.word.new.self.bytes.items = cc (c.in_ok-word.ensures) in
    let h1 : AddsWords (number_field (codes "coded=") c.args.coded ∷ []) c.word.new.self.bytes.items c.number.new.self.bytes.items = cc (c.in_ok-number.ensures, c.from.ensures) in
    let h2 : AddsWords (number_field (codes "start=") c.args.start ∷ []) c.number.new.self.bytes.items c.number-2.new.self.bytes.items = cc (c.in_ok-number-2.ensures, c.from-2.ensures) in
    let h3 : AddsWords (number_field (codes "range=") c.args.range ∷ []) c.number-2.new.self.bytes.items c.number-3.new.self.bytes.items = cc (c.in_ok-number-3.ensures, c.from-3.ensures) in
    let h4 : AddsWords (number_field (codes "index=") c.args.index ∷ []) c.number-3.new.self.bytes.items c.number-4.new.self.bytes.items = cc (c.in_ok-number-4.ensures, c.from-4.ensures) in
    let h5 : AddsWords (hex_field (codes "bytes=") c.args.bytes.now ∷ []) c.number-4.new.self.bytes.items c.hex.new.self.bytes.items = cc (c.in_ok-hex.ensures) in
    let m4 = more_words (number_field (codes "index=") c.args.index ∷ []) (hex_field (codes "bytes=") c.args.bytes.now ∷ []) c.number-3.new.self.bytes.items c.number-4.new.self.bytes.items c.hex.new.self.bytes.items h4 h5 in
    let m3 = more_words (number_field (codes "range=") c.args.range ∷ []) ((number_field (codes "index=") c.args.index ∷ []) ++ hex_field (codes "bytes=") c.args.bytes.now ∷ []) c.number-2.new.self.bytes.items c.number-3.new.self.bytes.items c.hex.new.self.bytes.items h3 m4 in
    let m2 = more_words (number_field (codes "start=") c.args.start ∷ []) ((number_field (codes "range=") c.args.range ∷ []) ++ (number_field (codes "index=") c.args.index ∷ []) ++ hex_field (codes "bytes=") c.args.bytes.now ∷ []) c.number.new.self.bytes.items c.number-2.new.self.bytes.items c.hex.new.self.bytes.items h2 m3 in
    let m1 = more_words (number_field (codes "coded=") c.args.coded ∷ []) ((number_field (codes "start=") c.args.start ∷ []) ++ (number_field (codes "range=") c.args.range ∷ []) ++ (number_field (codes "index=") c.args.index ∷ []) ++ hex_field (codes "bytes=") c.args.bytes.now ∷ []) c.word.new.self.bytes.items c.number.new.self.bytes.items c.hex.new.self.bytes.items h1 m2 in
    let m0 = more_words (codes "fec" ∷ []) ((number_field (codes "coded=") c.args.coded ∷ []) ++ (number_field (codes "start=") c.args.start ∷ []) ++ (number_field (codes "range=") c.args.range ∷ []) ++ (number_field (codes "index=") c.args.index ∷ []) ++ hex_field (codes "bytes=") c.args.bytes.now ∷ []) c.args.out.now.bytes.items c.word.new.self.bytes.items c.hex.new.self.bytes.items h0 m1 in
    m0
