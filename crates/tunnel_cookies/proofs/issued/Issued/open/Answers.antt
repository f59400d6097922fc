use Rattle.std.proofs.Common.{◌≡◌, None, Some, nat_eq, rules, sym, ap, ◌∙◌, subst}
use Rattle.std.specs.Map.{set_value}
use Rattle.tunnel_cookies.specs.contracts.issued.Issued.{the_view}
use Rattle.tunnel_cookies.specs.Entries
use Rattle.tunnel_cookies.specs.Entries.{IsVerdict, entry_of, spent_by}
use Rattle.tunnel_cookies.proofs.Tables.{open_changes, open_keeps}
use Rattle.tunnel_cookies.specs.declared.entry.Verdict.TheVariants.{Unknown}
use Rattle.tunnel_cookies.proofs.issued.Issued.open.Goals as goal
use Rattle.tunnel_cookies.proofs.issued.Issued.open.Goals.{in-Opened, in_default-verdict}

pub returns-in_default-clause-verdict : goal.returns-in_default-clause-verdict
returns-in_default-clause-verdict c =
    let none : entry_of c.args.id c.args.self.now ≡ None = search rules in
    subst (λ e. IsVerdict c.args.link c.args.kind c.args.cookie.now e Unknown) (sym none) Entries.unknown

pub returns-clause-table : goal.returns-clause-table
returns-clause-table c =
    let some : entry_of c.args.id c.args.self.now ≡ Some c.in-Some.entry.now = search rules in
    let same : c.self.inside.entries.entries ≡ c.args.self.now = search rules in
    elim c.match-verdict.branch [
      | in-Opened w ↦ (
          let held = c.get_mut.follows.holds (spent_by c.args.link c.in-Some.entry.now) in
          open_changes c.args.link c.args.id c.match-verdict.result c.in-Some.entry.now c.args.self.now _ some w.result-is
          (ap (λ s. the_view s) w.self-inside-is ∙ held.0 ∙ ap (λ es. set_value (nat_eq c.args.id) es (spent_by c.args.link c.in-Some.entry.now)) same)
          )
      | in_default-verdict w ↦ (
          let held = c.get_mut.follows.holds c.in-Some.entry.now in
          open_keeps c.args.link c.args.id c.verdict.result c.match-verdict.result c.in-Some.entry.now c.args.self.now _ some w.result-is w.in_default-verdict.not-Opened
          (ap (λ s. the_view s) w.self-inside-is ∙ held.0 ∙ ap (λ es. set_value (nat_eq c.args.id) es c.in-Some.entry.now) same)
          )
    ]
