use Rattle.std.proofs.Common.{◌≡◌, ◌+◌, ◌∷◌, None, drop, get_or, sym, ap, ◌∙◌}
use Rattle.std.proofs.lemmas.List.{drop_more}
use Rattle.std.specs.Map.{keys_of}
use Rattle.soft_sync.specs.Words.{first_repeated}
use Rattle.soft_sync.proofs.Finding.{not_seen, no_entry}
use Rattle.soft_sync.proofs.exchanges.Exchanges.list_all.Goals as goal

pub list-requires-clause-once : goal.list-requires-clause-once
list-requires-clause-once c =
    let es = c.loop-id.self.listings.entries in
    let ids = c.args.ids.now in
    let i = c.loop-id.id-index in
    let once : first_repeated (keys_of es) (get_or ids i 0 ∷ drop (i + 1) ids) ≡ None =
    sym (ap (λ t. first_repeated (keys_of es) t) (drop_more ids i 0 c.loop-id-test.true)) ∙ c.loop-id.invariant.once in
    no_entry (get_or ids i 0) es (not_seen (keys_of es) (drop (i + 1) ids) (get_or ids i 0) once).0
