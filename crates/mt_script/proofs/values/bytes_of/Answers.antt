use Rattle.std.proofs.Common.{sym, ap, subst, ◌∙◌}
use Rattle.std.specs.Str.{bytes_eq}
use Rattle.mt_script.proofs.HexDigits.{hex_spelled, no_hex, SpelledBy, Unspelled, not_decoded}
use Rattle.mt_script.proofs.values.bytes_of.Goals as goal

pub returns-then-not-is_lower_hex : goal.returns-then-not-is_lower_hex
returns-then-not-is_lower_hex c = λ bytes h is.
    let other = sym c.eq.ensures ∙ c.if-eq.false in
    no_hex c.args.word.now bytes c.as_slice.result.now h is c.as_slice.ensures other (sym c.is_lower_hex.ensures ∙ c.if-not-is_lower_hex.true)

pub returns-in-Ok : goal.returns-in-Ok
returns-in-Ok c =
    let spelled = hex_spelled c.args.word.now c.in-Ok.kept.items (sym c.is_lower_hex.ensures ∙ c.if-not-is_lower_hex.false) c.in-Ok.ensures.ok in
    subst (SpelledBy c.args.word.now) (sym c.from_vec-in-Ok.ensures) spelled

pub returns-in-Err : goal.returns-in-Err
returns-in-Err c =
    let other = ap (bytes_eq c.args.word.now) (sym c.as_slice.ensures) ∙ (sym c.eq.ensures ∙ c.if-eq.false) in
    subst (Unspelled c.args.word.now) (sym c.decoding_fault.ensures) (not_decoded c.args.word.now c.in-Err.error other c.in-Err.ensures.err)
