use Rattle.coded_vector.proofs.FlagLemmas.{length-flags_of}
use Rattle.coded_vector.proofs.laws.few_flags.Goals as goal

pub returns : goal.returns
returns c cs = length-flags_of cs
