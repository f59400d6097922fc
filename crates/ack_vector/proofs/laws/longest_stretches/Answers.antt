use Rattle.ack_vector.proofs.LongestLemmas.{holds, holds_one}
use Rattle.ack_vector.proofs.laws.longest_stretches.Goals as goal

pub returns-clause-held : goal.returns-clause-held
returns-clause-held c flags = holds flags

pub returns-clause-only : goal.returns-clause-only
returns-clause-only c es flags h = holds_one es flags h
