use Rattle.std.proofs.Common.{◌∙◌, sym, string_bytes}
use Rattle.file_transfer.proofs.Keeping.{finished_none, finished_some}
use Rattle.file_transfer.proofs.arrivals.Arrivals.finish.Goals as goal

pub returns-in_default-clause-came : goal.returns-in_default-clause-came
returns-in_default-clause-came c = λ files came.
    let a = c.args.self.now in
    finished_none (string_bytes a.prefix) a.whole.items a.coming c.take.new.self files (sym c.take.ensures.value ∙ c.in_default.is) c.take.ensures.after came

pub returns-clause-came : goal.returns-clause-came
returns-clause-came c = λ files came.
    let a = c.args.self.now in
    finished_some (string_bytes a.prefix) a.whole.items c.push.new.self.items a.coming c.take.new.self c.in-Some.coming c.finish.result files (sym c.take.ensures.value ∙ c.in-Some.is) c.take.ensures.after c.in_ok-push.ensures.items c.finish.ensures came
