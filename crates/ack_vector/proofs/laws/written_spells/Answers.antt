use Rattle.ack_vector.specs.Longest.{elements_of}
use Rattle.ack_vector.proofs.LongestLemmas.{holds, holds_spell, holds_length}
use Rattle.ack_vector.proofs.laws.written_spells.Goals as goal

pub returns-clause-spells : goal.returns-clause-spells
returns-clause-spells c flags = holds_spell (elements_of flags) flags (holds flags)

pub returns-clause-few : goal.returns-clause-few
returns-clause-few c flags = holds_length (elements_of flags) flags (holds flags)
