use Rattle.std.proofs.Common.{sym, ◌∙◌, arith}
use Rattle.mt_script.proofs.Numbers.{number_parsed, number_reads}
use Rattle.mt_script.proofs.values.number_of.Goals as goal

pub returns-then-not-begins_as_number : goal.returns-then-not-begins_as_number
returns-then-not-begins_as_number c = λ id small is.
    let begins = (number_reads c.args.word.now id (omega (arith, small)) is).begins in
    let both = sym c.if-not-begins_as_number.true ∙ c.begins_as_number.ensures ∙ begins in cc

pub returns-in-Ok : goal.returns-in-Ok
returns-in-Ok c =
    number_parsed 32 (omega arith) c.args.word.now c.in-Ok.text.now c.parse.result c.ok.result c.in-Ok.ensures.cases.0
    (sym c.begins_as_number.ensures ∙ c.if-not-begins_as_number.false) c.parse.ensures.value.0 c.ok.ensures.value

pub returns-in-Err : goal.returns-in-Err
returns-in-Err c = λ id small is. c.in-Err.ensures.cases.0 (number_reads c.args.word.now id (omega (arith, small)) is).utf8
