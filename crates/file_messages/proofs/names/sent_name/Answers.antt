use Rattle.std.proofs.Common.{◌≡◌, subst, true, rules}
use Rattle.file_messages.specs.Files.{IsName}
use Rattle.file_messages.proofs.PathParts.{one_part}
use Rattle.file_messages.proofs.names.sent_name.Goals as goal

pub returns-else-is_file_name-clause-none : goal.returns-else-is_file_name-clause-none
returns-else-is_file_name-clause-none c name is good =
    let same = one_part c.args.path.now name c.last_part-name.result.now is c.last_part-name.ensures in
    let yes : c.is_file_name.result ≡ true = c.is_file_name.ensures.1 (subst IsName same good) in
    search rules
