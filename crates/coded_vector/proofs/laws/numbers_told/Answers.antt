use Rattle.coded_vector.proofs.FlagLemmas.{flag_told_at, flag_untold}
use Rattle.coded_vector.proofs.laws.numbers_told.Goals as goal

pub returns-clause-told : goal.returns-clause-told
returns-clause-told c before after flag base number is =
    flag_told_at before after flag base number is

pub returns-clause-untold : goal.returns-clause-untold
returns-clause-untold c flags base number off = flag_untold flags base number off
