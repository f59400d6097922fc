use Rattle.linked_ends.proofs.Staying.{none_yet}
use Rattle.linked_ends.proofs.laws.no_links_keep_any_settings.Goals as goal

pub returns : goal.returns
returns c settings pair suit p = none_yet settings pair suit p
