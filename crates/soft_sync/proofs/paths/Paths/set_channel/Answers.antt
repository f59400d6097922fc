use Rattle.std.proofs.Common.{◌≡◌, List, Bool, ℕ, ◌∷◌, [], ◌++◌, None, nat_eq, is_some, cond, sym, ap, ◌∙◌, rules}
use Rattle.std.specs.Map.{lookup, set_value}
use Rattle.indexmap.proofs.CallerLemmas.{insert_entry-new}
use Rattle.soft_sync.specs.contracts.paths.Paths.{the_view}
use Rattle.soft_sync.specs.Words.{Words, told}
use Rattle.soft_sync.proofs.paths.Paths.set_channel.Goals as goal

pub returns : goal.returns
returns c =
    let m = c.self.inside in
    let es = m.channels.entries in
    let none : lookup (nat_eq c.args.id) es ≡ None = search rules in
    let left = c.get_mut.follows.lender-at-none in
    let same : left.entries ≡ es = search rules in
    let added : c.insert.new.self.entries ≡ es ++ ((c.args.id, c.args.is_open) ∷ []) =
    c.in-Ok.ensures.entries ∙ insert_entry-new nat_eq left c.args.id c.args.is_open (ap (λ (l : List (ℕ × Bool)). lookup (nat_eq c.args.id) l) same ∙ none)
    ∙ ap (λ (l : List (ℕ × Bool)). l ++ ((c.args.id, c.args.is_open) ∷ [])) same in
    let is : c.insert.new.self.entries ≡ told c.args.id c.args.is_open es =
    added ∙ sym (ap (λ o. cond (is_some o) (set_value (nat_eq c.args.id) es c.args.is_open) (es ++ ((c.args.id, c.args.is_open) ∷ []))) none) in
    ap (λ (x : List (ℕ × Bool)). let w = the_view m in record w { channels = x }) is ∙ ap (λ (w : Words). record w { channels = told c.args.id c.args.is_open w.channels }) c.self.view_is
