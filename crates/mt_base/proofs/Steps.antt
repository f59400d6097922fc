-- Lemmas under names that an attribute of the code can cite.
use Rattle.mt_base.proofs.Fill.{puts-append}
use Rattle.mt_base.proofs.Filled.{fills-append}

-- a list of fields that is written or put part by part
pub ruleset by_parts = (puts-append, fills-append)
