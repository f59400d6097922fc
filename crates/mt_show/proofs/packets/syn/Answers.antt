use Rattle.std.proofs.Common.{[], ◌∷◌, ◌++◌, codes}
use Rattle.std.specs.Option.{option_copied, option_map}
use Rattle.udp1_packets.specs.Views.{extended_of}
use Rattle.mt_show.specs.Words.{where_there, number_field, hex_field, extension_words, opening_word}
use Rattle.mt_show.specs.Steps.{AddsWords}
use Rattle.mt_show.proofs.Joining.{more_words}
use Rattle.mt_show.proofs.packets.syn.Goals as goal

pub returns : goal.returns
returns c =
    let h0 : AddsWords (opening_word c.args.syn.answer ∷ []) c.args.out.now.bytes.items c.opening.new.out.bytes.items = cc (c.in_ok-opening.ensures) in
    let h1 : AddsWords (number_field (codes "initial=") c.args.syn.initial ∷ []) c.opening.new.out.bytes.items c.number.new.self.bytes.items = cc (c.in_ok-number.ensures, c.from.ensures) in
    let h2 : AddsWords (number_field (codes "up=") c.args.syn.up ∷ []) c.number.new.self.bytes.items c.number-2.new.self.bytes.items = cc (c.in_ok-number-2.ensures, c.from-2.ensures) in
    let h3 : AddsWords (number_field (codes "down=") c.args.syn.down ∷ []) c.number-2.new.self.bytes.items c.number-3.new.self.bytes.items = cc (c.in_ok-number-3.ensures, c.from-3.ensures) in
    let h4 : AddsWords (where_there (hex_field (codes "correlation=")) (option_copied c.args.syn.correlation)) c.number-3.new.self.bytes.items c.block.new.out.bytes.items = cc (c.in_ok-block.ensures) in
    let h5 : AddsWords (extension_words (option_map extended_of c.args.syn.extension)) c.block.new.out.bytes.items c.extension.new.out.bytes.items = cc (c.in_ok-extension.ensures) in
    let h6 : AddsWords (number_field (codes "padding=") c.args.syn.padding ∷ []) c.extension.new.out.bytes.items c.number-4.new.self.bytes.items = cc (c.in_ok-number-4.ensures) in
    let m5 = more_words (extension_words (option_map extended_of c.args.syn.extension)) (number_field (codes "padding=") c.args.syn.padding ∷ []) c.block.new.out.bytes.items c.extension.new.out.bytes.items c.number-4.new.self.bytes.items h5 h6 in
    let m4 = more_words (where_there (hex_field (codes "correlation=")) (option_copied c.args.syn.correlation)) ((extension_words (option_map extended_of c.args.syn.extension)) ++ (number_field (codes "padding=") c.args.syn.padding ∷ [])) c.number-3.new.self.bytes.items c.block.new.out.bytes.items c.number-4.new.self.bytes.items h4 m5 in
    let m3 = more_words (number_field (codes "down=") c.args.syn.down ∷ []) ((where_there (hex_field (codes "correlation=")) (option_copied c.args.syn.correlation)) ++ ((extension_words (option_map extended_of c.args.syn.extension)) ++ (number_field (codes "padding=") c.args.syn.padding ∷ []))) c.number-2.new.self.bytes.items c.number-3.new.self.bytes.items c.number-4.new.self.bytes.items h3 m4 in
    let m2 = more_words (number_field (codes "up=") c.args.syn.up ∷ []) ((number_field (codes "down=") c.args.syn.down ∷ []) ++ ((where_there (hex_field (codes "correlation=")) (option_copied c.args.syn.correlation)) ++ ((extension_words (option_map extended_of c.args.syn.extension)) ++ (number_field (codes "padding=") c.args.syn.padding ∷ [])))) c.number.new.self.bytes.items c.number-2.new.self.bytes.items c.number-4.new.self.bytes.items h2 m3 in
    let m1 = more_words (number_field (codes "initial=") c.args.syn.initial ∷ []) ((number_field (codes "up=") c.args.syn.up ∷ []) ++ ((number_field (codes "down=") c.args.syn.down ∷ []) ++ ((where_there (hex_field (codes "correlation=")) (option_copied c.args.syn.correlation)) ++ ((extension_words (option_map extended_of c.args.syn.extension)) ++ (number_field (codes "padding=") c.args.syn.padding ∷ []))))) c.opening.new.out.bytes.items c.number.new.self.bytes.items c.number-4.new.self.bytes.items h1 m2 in
    let m0 = more_words (opening_word c.args.syn.answer ∷ []) ((number_field (codes "initial=") c.args.syn.initial ∷ []) ++ ((number_field (codes "up=") c.args.syn.up ∷ []) ++ ((number_field (codes "down=") c.args.syn.down ∷ []) ++ ((where_there (hex_field (codes "correlation=")) (option_copied c.args.syn.correlation)) ++ ((extension_words (option_map extended_of c.args.syn.extension)) ++ (number_field (codes "padding=") c.args.syn.padding ∷ [])))))) c.args.out.now.bytes.items c.opening.new.out.bytes.items c.number-4.new.self.bytes.items h0 m1 in
    m0
