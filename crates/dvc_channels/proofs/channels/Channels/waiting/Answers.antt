use Rattle.std.proofs.Common.{◌≡◌, sym, subst}
use Rattle.dvc_channels.specs.Table.{Stands}
use Rattle.dvc_channels.proofs.Standing.{waiting_is}
use Rattle.dvc_channels.proofs.channels.Channels.waiting.Goals as goal

pub returns : goal.returns
returns c t h =
    let m = c.self.inside in
    waiting_is m.channels.entries m.waiting t (c.self.invariant).0 (subst (λ s. Stands s t) (sym c.self.view_is) h)
