use Rattle.std.proofs.Common.{[], ◌∷◌, sym, ap, subst, ◌∙◌, string_bytes}
use Rattle.rdpmt_program.specs.Command.{IsOption, words_of}
use Rattle.rdpmt_program.proofs.Runs.{two_words, by_word}
use Rattle.rdpmt_program.proofs.words.read_words.Goals as goal

pub returns : goal.returns
returns c =
    let two = two_words c.as_slice.result.now c.args.words.now.items c.first-item.result c.name-item.result c.in-len2.len_at_least c.in-len2.len_below c.first-item.is c.name-item.is c.as_slice.ensures.value in
    let words = two ∙ ap (λ t. t ∷ string_bytes c.name-item.result ∷ []) (sym c.as_str-2.ensures.value) ∙ ap (λ t. c.as_str-2.result.now ∷ t ∷ []) (sym c.as_str-3.ensures.value) in
    by_word (words_of c.args.words.now.items) c.as_str-2.result.now c.as_str-3.result.now c.command_of.result words
    (λ o. let h = c.if-is_option.ensures.1 (subst IsOption (c.as_str-3.ensures.value ∙ sym c.as_str.ensures.value) o) in cc) c.command_of.ensures
