use Rattle.std.proofs.Common.{Some, None, arith, rules}
use Rattle.std.proofs.lemmas.Str.Pattern.{rfind_char}
use Rattle.file_messages.proofs.PathParts.{found, not_found}
use Rattle.file_messages.proofs.names.last_part.Goals as goal

pub returns-in-Some : goal.returns-in-Some
returns-in-Some c =
    let at = c.in-Some.at in
    found c.args.path.now c.range_from.result.now at (rfind_char 47 c.args.path.now (Some at) c.in-Some.ensures.cases (omega arith)) (search rules)

pub returns-in-None : goal.returns-in-None
returns-in-None c = not_found c.args.path.now (rfind_char 47 c.args.path.now None c.in-None.ensures.cases (omega arith))
