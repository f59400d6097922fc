use Rattle.std.proofs.Common.{◌≡◌, ℕ, rules, ◌<◌, ◌-◌, ◌++◌, ◌∷◌, [], nat_eq, length, sym, ap, ◌∙◌, subst, arith}
use Rattle.std.proofs.lemmas.List.{length-append}
use Rattle.std.proofs.lemmas.List.Elements.{All-push}
use Rattle.indexmap.proofs.CallerLemmas.{insert_entry-new}
use Rattle.soft_sync.specs.declared.row.Listing.{Listing}
use Rattle.mt_base.specs.declared.kinds.Kind.{Kind}
use Rattle.soft_sync.proofs.Listed.{Listings}
use Rattle.soft_sync.proofs.Growing.{Below}
use Rattle.soft_sync.proofs.exchanges.Exchanges.list.Goals as goal

-- the listing that is added
abbrev listing : ℕ → Kind → Listing
listing n kind = record { number = n - 1; kind = kind }

pub returns-clause-listings : goal.returns-clause-listings
returns-clause-listings c =
    let s = c.args.self.now in
    let n : c.len.result ≡ length s.rows.items = search rules in
    c.in-Ok.ensures.entries ∙ insert_entry-new nat_eq s.listings c.args.id (listing c.len.result c.args.kind) c.requires.once
    ∙ ap (λ k. s.listings.entries ++ ((c.args.id, listing k c.args.kind) ∷ [])) n

pub returns-clause-roomy : goal.returns-clause-roomy
returns-clause-roomy c =
    let s = c.args.self.now in
    let e = c.in-Ok.ensures in
    let r = c.requires.roomy in
    let n : c.len.result ≡ length s.rows.items = search rules in
    let l : ℕ × Listing = (c.args.id, listing c.len.result c.args.kind) in
    let is : c.insert.new.self.entries ≡ s.listings.entries ++ (l ∷ []) = e.entries ∙ insert_entry-new nat_eq s.listings c.args.id (listing c.len.result c.args.kind) c.requires.once in
    let long = ap (λ (t : Listings). length t) is ∙ length-append s.listings.entries (l ∷ []) in
    let begun = c.requires.begun in
    let fit = r.listings_fit in
    let spare = e.spare in
    record {
      kept = record {
        few = (r.kept).few;
        numbered = subst (Below (length s.rows.items)) (sym is) (All-push (λ (l : ℕ × Listing). (l.1).number < length s.rows.items) s.listings.entries l (r.kept).numbered (omega (arith, begun, n)));
        once = e.unique;
      };
      rows_fit = r.rows_fit;
      listings_fit = omega (arith, long, fit, spare);
    }
