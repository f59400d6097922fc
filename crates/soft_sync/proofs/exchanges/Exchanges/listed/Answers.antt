use Rattle.std.proofs.Common.{◌≡◌, Some, None, nat_eq, sym, rules}
use Rattle.std.specs.Map.{lookup}
use Rattle.soft_sync.proofs.Listed.{listed_is, number_of}
use Rattle.soft_sync.proofs.exchanges.Exchanges.listed.Goals as goal

pub returns-in-Some : goal.returns-in-Some
returns-in-Some c =
    let s = c.args.self.now in
    let is : lookup (nat_eq c.args.id) s.listings.entries ≡ Some c.in-Some.listing.now = search rules in
    let kept = c.requires.kept in
    sym (listed_is c.args.id 0 s.rows.items s.listings.entries (Some c.in-Some.listing.now) is kept.once (number_of c.args.id s.rows.items s.listings.entries c.in-Some.listing.now kept is))

pub returns-in-None : goal.returns-in-None
returns-in-None c =
    let s = c.args.self.now in
    let is : lookup (nat_eq c.args.id) s.listings.entries ≡ None = search rules in
    sym (listed_is c.args.id 0 s.rows.items s.listings.entries None is (c.requires.kept).once tt)
