use Rattle.std.proofs.Common.{◌++◌, Ok, sym, ap, ◌∙◌}
use Rattle.std.proofs.lemmas.List.{map-id}
use Rattle.std.proofs.lemmas.Iterator.Adapters.{fact_from_extend, YieldsList-from_vec}
use Rattle.std.specs.declared.alloc.AllocError.{AllocError}
use Rattle.mt_world.proofs.side.append.Goals as goal

pub returns : goal.returns
returns c =
    fact_from_extend {E = AllocError} (λ x. x) (Ok tt) c.in_ok-extend.ensures.ran (λ it b. YieldsList-from_vec {s = it} _ b.0 (b.1 ∙ c.args.messages.ok.0))
    (λ xs e h. h.0 ∙ ap (λ x. c.args.to.now.items ++ x) (sym (map-id xs) ∙ e))
