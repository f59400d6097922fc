-- The numbers of a list, put one by one.
use Rattle.std.proofs.Common.{◌≡◌, ℕ, List, ◌∷◌, ◌++◌, map, sym, ap, ◌∙◌}
use Rattle.std.specs.Fmt.{decimal}
use Rattle.mt_show.specs.ChannelWords.{numbers_word}
use Rattle.mt_show.specs.Steps.{behind, Adds}
use Rattle.mt_show.proofs.Joining.{more, joined}

-- the first number, and the others behind commas
pub numbers_put : (all rest : List ℕ) (first : ℕ) (old mid new : List ℕ) → all ≡ first ∷ rest → Adds (decimal first) old mid → Adds (behind 44 (map decimal rest)) mid new → Adds (numbers_word all) old new
numbers_put all rest first old mid new is one others =
    more (decimal first) (behind 44 (map decimal rest)) old mid new one others
    ∙ ap (λ t. old ++ t) (sym (joined 44 (decimal first) (map decimal rest)))
    ∙ ap (λ ns. old ++ numbers_word ns) (sym is)
