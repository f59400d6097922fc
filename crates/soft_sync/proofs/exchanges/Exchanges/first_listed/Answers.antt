use Rattle.std.proofs.Common.{◌≡◌, ℕ, All, false, get_or, sym, ap, ◌∙◌, subst}
use Rattle.std.proofs.lemmas.List.{take_all}
use Rattle.std.proofs.lemmas.Option.{slice_get-get_or}
use Rattle.std.specs.Option.{is_some}
use Rattle.soft_sync.specs.Exchanges.{listed}
use Rattle.soft_sync.specs.Table.{exchanges_in}
use Rattle.soft_sync.proofs.Finding.{found_at, none_found, passes_more}
use Rattle.soft_sync.proofs.exchanges.Exchanges.first_listed.Goals as goal

pub returns-then-is_some : goal.returns-then-is_some
returns-then-is_some c =
    let s = c.args.self.now in
    let i = c.loop-id.id-index in
    let p = λ (id : ℕ). is_some (listed id (exchanges_in s.rows.items s.listings.entries)) in
    let passes = sym (ap is_some c.listed.ensures) ∙ sym c.is_some.ensures ∙ c.if-is_some.true in
    sym (found_at p c.args.ids.now i (get_or c.args.ids.now i 0) (slice_get-get_or c.args.ids.now i 0 c.loop-id-test.true) c.loop-id.invariant passes)

pub loop-id-preserved : goal.loop-id-preserved
loop-id-preserved c =
    let s = c.args.self.now in
    let i = c.loop-id.id-index in
    let p = λ (id : ℕ). is_some (listed id (exchanges_in s.rows.items s.listings.entries)) in
    let not = sym (ap is_some c.listed.ensures) ∙ sym c.is_some.ensures ∙ c.if-is_some.false in
    passes_more p c.args.ids.now i (get_or c.args.ids.now i 0) (slice_get-get_or c.args.ids.now i 0 c.loop-id-test.true) not c.loop-id.invariant

pub returns : goal.returns
returns c =
    let s = c.args.self.now in
    let p = λ (id : ℕ). is_some (listed id (exchanges_in s.rows.items s.listings.entries)) in
    sym (none_found p c.args.ids.now (subst (λ t. All (λ x. p x ≡ false) t) (take_all c.loop-id.id-index c.args.ids.now c.loop-id-test.false) c.loop-id.invariant))
