-- The runs of a vector, put one by one.
use Rattle.std.proofs.Common.{◌≡◌, ℕ, List, ◌∷◌, ◌++◌, map, sym, ap, ◌∙◌}
use Rattle.ack_vector.specs.declared.reader.Run.{Run}
use Rattle.mt_show.specs.Words.{run_word, runs_word}
use Rattle.mt_show.specs.Steps.{behind, Adds}
use Rattle.mt_show.proofs.Joining.{more, joined}

-- the first run, and the others behind commas
pub runs_put : (all rest : List Run) (first : Run) (old mid new : List ℕ) → all ≡ first ∷ rest → Adds (run_word first) old mid → Adds (behind 44 (map run_word rest)) mid new → Adds (runs_word all) old new
runs_put all rest first old mid new is one others =
    more (run_word first) (behind 44 (map run_word rest)) old mid new one others
    ∙ ap (λ t. old ++ t) (sym (joined 44 (run_word first) (map run_word rest)))
    ∙ ap (λ r. old ++ runs_word r) (sym is)
