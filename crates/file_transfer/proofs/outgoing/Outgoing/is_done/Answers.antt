use Rattle.std.proofs.Common.{◌∙◌, ◌≤◌, length, sym, arith}
use Rattle.file_transfer.specs.declared.outgoing.Stage.TheVariants as stage
use Rattle.file_transfer.proofs.Made.{all_made}
use Rattle.file_transfer.proofs.Stages.{made_at, none_waits, not_true}
use Rattle.file_transfer.proofs.outgoing.Outgoing.is_done.Goals as goal

pub returns-in-Ended-clause-whole : goal.returns-in-Ended-clause-whole
returns-in-Ended-clause-whole c = λ done sent files h.
    let o = c.args.self.now in
    let few : length o.files.items ≤ 256 = omega arith in
    let none = none_waits o.draft (sym c.is_made.ensures ∙ not_true c.is_made.result done) in
    all_made o.files.items sent files few (made_at o.stage stage.Ended o.draft o.files.items o.made o.at sent files c.in-Ended.is none h)
