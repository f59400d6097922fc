use Rattle.std.proofs.Common.{◌≡◌, None, [], ◌∷◌, ◌++◌, rules, ap, ◌∙◌}
use Rattle.tunnel_cookies.specs.Entries.{entry_of, unspent}
use Rattle.tunnel_cookies.proofs.Tables.{added}
use Rattle.tunnel_cookies.proofs.issued.Issued.issue.Goals as goal

pub returns-clause-issued : goal.returns-clause-issued
returns-clause-issued c =
    let es = c.self.inside.entries.entries in
    let none : entry_of c.args.id es ≡ None = search rules in
    let is : es ≡ c.args.self.now = search rules in
    let entry = unspent c.args.kind c.args.cookie.now in
    c.in-Ok.ensures.entries ∙ added c.args.id entry es none ∙ ap (λ t. t ++ ((c.args.id, entry) ∷ [])) is
