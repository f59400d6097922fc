use Rattle.std.proofs.Common.{sym, ap, ◌∙◌}
use Rattle.std.specs.Option.{option_copied}
use Rattle.capture_check.proofs.Asking.{issued_by, issued_by_none}
use Rattle.capture_check.proofs.requests.Requests.has_issued.Goals as goal

pub returns-in-Some : goal.returns-in-Some
returns-in-Some c before are =
    issued_by before c.args.self.now.issued c.args.id c.args.cookie.now c.in-Some.issued.now c.is_for.result are (sym c.get.ensures ∙ ap option_copied c.in-Some.is) c.is_for.ensures

pub returns-in-None : goal.returns-in-None
returns-in-None c before are = issued_by_none before c.args.self.now.issued c.args.id c.args.cookie.now are (sym c.get.ensures ∙ ap option_copied c.in-None.is)
