use Rattle.capture_check.proofs.Framing.{nothing_streamed}
use Rattle.capture_check.proofs.main_streams.MainStreams.new.Goals as goal

pub returns : goal.returns
returns c = nothing_streamed _ c.new.ensures.items c.new-2.ensures.items c.in_ok-new.ensures
