use Rattle.end_reader.proofs.Counting.{all_count, counted, stopped}
use Rattle.end_reader.proofs.laws.what_is_taken_counts.Goals as goal

pub returns-clause-taken : goal.returns-clause-taken
returns-clause-taken c role outset is_first p bytes count fine some within one held = counted role outset is_first p bytes count fine some within one held

pub returns-clause-stopped : goal.returns-clause-stopped
returns-clause-stopped c role outset is_first p bytes fine held = stopped role outset is_first p bytes fine held

pub returns-clause-broken : goal.returns-clause-broken
returns-clause-broken c role outset p bytes why e = all_count role outset p bytes why e
