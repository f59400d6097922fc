use Rattle.mt_session.proofs.Stepping.{on_calls}
use Rattle.mt_session.proofs.laws.called.Goals as goal

pub returns : goal.returns
returns g c = λ e later now first s act h over end. on_calls now first s act h over end
