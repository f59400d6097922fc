use Rattle.std.proofs.Common.{◌≡◌, All, false, not, get_or, sym, ap, ◌∙◌, subst}
use Rattle.std.proofs.lemmas.List.{take_all}
use Rattle.std.proofs.lemmas.Option.{slice_get-get_or}
use Rattle.soft_sync.proofs.Asking.{lacks_channel}
use Rattle.soft_sync.proofs.Finding.{found_at, none_found}
use Rattle.soft_sync.proofs.paths.Paths.first_unknown.Goals as goal

pub returns-then-not-is_open_channel : goal.returns-then-not-is_open_channel
returns-then-not-is_open_channel c =
    let i = c.loop-id.id-index in
    let passes = ap not (sym c.is_open_channel.ensures ∙ c.if-not-is_open_channel.true) in
    sym (found_at (lacks_channel c.args.self.now) c.args.ids.now i (get_or c.args.ids.now i 0) (slice_get-get_or c.args.ids.now i 0 c.loop-id-test.true) c.loop-id.invariant passes)

pub returns : goal.returns
returns c =
    let p = lacks_channel c.args.self.now in
    sym (none_found p c.args.ids.now (subst (λ t. All (λ x. p x ≡ false) t) (take_all c.loop-id.id-index c.args.ids.now c.loop-id-test.false) c.loop-id.invariant))
