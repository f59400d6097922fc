use Rattle.std.proofs.Common.{◌≡◌, ℕ, List, ◌-◌, ◌∷◌, [], None, nat_eq, length, sym, ap, ◌∙◌, subst, arith}
use Rattle.std.specs.Map.{lookup}
use Rattle.std.specs.Option.{IsSome}
use Rattle.std.proofs.lemmas.List.Elements.{All-append, All-cons, All-nil}
use Rattle.soft_sync.specs.contracts.paths.Paths.{the_view}
use Rattle.soft_sync.specs.declared.row.Listing.{Listing}
use Rattle.soft_sync.specs.Exchanges.{Exchange, listed, with_channel}
use Rattle.soft_sync.specs.Table.{exchanges_in, under, AreAmong}
use Rattle.soft_sync.specs.Words.{Words}
use Rattle.soft_sync.proofs.Listed.{Listings}
use Rattle.soft_sync.proofs.Answering.{length-exchanges}
use Rattle.soft_sync.proofs.Growing.{more_listed}
use Rattle.soft_sync.proofs.Asking.{not_listed, one_fits, is_told, among_under}
use Rattle.soft_sync.proofs.paths.Paths.got_request.Goals as goal

pub list-requires-clause-once : goal.list-requires-clause-once
list-requires-clause-once c =
    let m = c.self.inside.read in
    let is = c.self.view_is ∙ c.tell_of.ensures in
    let read = ap (λ (w : Words). w.read) is in
    not_listed c.args.id m.rows.items m.listings.entries ((c.self.invariant).2).kept (subst (λ x. listed c.args.id x ≡ None) (sym read) c.requires.once)

pub list-requires-clause-fit : goal.list-requires-clause-fit
list-requires-clause-fit c =
    let m = c.self.inside.read in
    let is = c.self.view_is ∙ c.tell_of.ensures in
    let read = ap (λ (w : Words). w.read) is in
    let channels = ap (λ (w : Words). w.channels) is in
    let none = not_listed c.args.id m.rows.items m.listings.entries ((c.self.invariant).2).kept (subst (λ x. listed c.args.id x ≡ None) (sym read) c.requires.once) in
    let told = subst (λ x. IsSome (lookup (nat_eq c.args.id) x)) (sym channels) (is_told c.args.id c.args.self.now.channels) in
    one_fits c.args.id m.listings.entries c.self.inside.channels.entries (((c.self.invariant).2).kept).once none (c.self.invariant).4 told ((c.self.invariant).0).few

pub invariant_of-self : goal.invariant_of-self
invariant_of-self c =
    let m = c.self.inside.read in
    let i = c.self.invariant in
    let channels = ap (λ (w : Words). w.channels) (c.self.view_is ∙ c.tell_of.ensures) in
    let told = subst (λ x. IsSome (lookup (nat_eq c.args.id) x)) (sym channels) (is_told c.args.id c.args.self.now.channels) in
    let P = λ (l : ℕ × Listing). IsSome (lookup (nat_eq l.0) c.self.inside.channels.entries) in
    let Q = λ (id : ℕ). IsSome (lookup (nat_eq id) c.self.inside.channels.entries) in
    let new = under (length m.rows.items - 1) c.args.kind (c.args.id ∷ []) in (
      i.0,
      i.1,
      c.list.ensures.roomy,
      i.3,
      subst (λ (l : Listings). AreAmong l c.self.inside.channels.entries) (sym c.list.ensures.listings)
          (All-append P m.listings.entries new i.4 (among_under (length m.rows.items - 1) c.args.kind (c.args.id ∷ []) c.self.inside.channels.entries (All-cons Q c.args.id [] told (All-nil Q)))),
      i.5,
    )

pub returns : goal.returns
returns c =
    let m = c.self.inside.read in
    let is = c.self.view_is ∙ c.tell_of.ensures in
    let long = ap (λ (w : Words). length w.read) is in
    let count = length-exchanges 0 m.rows.items m.listings.entries in
    let begun = c.requires.begun in
    let n = length m.rows.items - 1 in
    let new = c.list.new.self in
    let read : exchanges_in new.rows.items new.listings.entries ≡ with_channel c.args.id c.args.kind (exchanges_in m.rows.items m.listings.entries) =
    ap (λ r. exchanges_in r.items new.listings.entries) c.list.ensures.rows ∙ ap (λ l. exchanges_in m.rows.items l) c.list.ensures.listings
    ∙ more_listed c.args.id n 0 c.args.kind m.rows.items m.listings.entries (omega (arith, long, count, begun)) in
    ap (λ (x : List Exchange). let w = the_view c.self.inside in record w { read = x }) read ∙ ap (λ (w : Words). record w { read = with_channel c.args.id c.args.kind w.read }) is
