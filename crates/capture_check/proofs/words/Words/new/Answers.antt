use Rattle.std.proofs.Common.{refl}
use Rattle.capture_check.proofs.Speaking.{nothing_said}
use Rattle.capture_check.proofs.words.Words.new.Goals as goal

pub returns : goal.returns
returns c = nothing_said _ c.new.ensures.items refl c.in_ok-new.ensures c.in_ok-new-2.ensures
