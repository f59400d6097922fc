use Rattle.std.proofs.Common.{sym, ap, length, ◌∙◌}
use Rattle.soft_sync.specs.Words.{Words}
use Rattle.soft_sync.proofs.Answering.{length-exchanges}
use Rattle.soft_sync.proofs.paths.Paths.requests_read.Goals as goal

pub returns : goal.returns
returns c =
    let s = c.self.inside.read in
    c.count.ensures ∙ sym (length-exchanges 0 s.rows.items s.listings.entries) ∙ ap (λ (w : Words). length w.read) c.self.view_is
