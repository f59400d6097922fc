use Rattle.std.proofs.Common.{◌≡◌, ℕ, List, ◌∷◌, [], ◌++◌, None, not, length, refl, sym, ap, ◌∙◌, subst, arith}
use Rattle.std.specs.Map.{keys_of}
use Rattle.std.proofs.lemmas.List.{length-append}
use Rattle.mt_base.specs.declared.kinds.Kind.TheVariants.{Reliable, Lossy}
use Rattle.soft_sync.specs.contracts.paths.Paths.{the_view}
use Rattle.soft_sync.specs.Exchanges.{Exchange, unanswered}
use Rattle.soft_sync.specs.Table.{exchanges_in, under, row_of, AreAmong}
use Rattle.soft_sync.specs.Words.{Words, why_not, first_repeated, request_of, is_empty}
use Rattle.soft_sync.proofs.Listed.{Listings}
use Rattle.soft_sync.proofs.Growing.{made_by, last_number, length-listed, keys_more}
use Rattle.soft_sync.proofs.Asking.{ready, among_both}
use Rattle.soft_sync.proofs.paths.Paths.request.Goals as goal

pub begin-requires-clause-few : goal.begin-requires-clause-few
begin-requires-clause-few c =
    let m = c.self.inside.made in
    let w = the_view c.self.inside in
    let i = c.self.invariant in
    let why : why_not c.args.reliable.now c.args.lossy.now w ≡ None = subst (λ v. why_not c.args.reliable.now c.args.lossy.now v ≡ None) (sym c.self.view_is) (sym c.refusal.ensures ∙ c.in_default.is) in
    let r = ready c.args.reliable.now c.args.lossy.now w m.rows.items m.listings.entries refl why (i.1).kept i.3 (i.0).few i.5 in
    r.few

pub list_all-requires-clause-fit : goal.list_all-requires-clause-fit
list_all-requires-clause-fit c =
    let m = c.self.inside.made in
    let w = the_view c.self.inside in
    let i = c.self.invariant in
    let why : why_not c.args.reliable.now c.args.lossy.now w ≡ None = subst (λ v. why_not c.args.reliable.now c.args.lossy.now v ≡ None) (sym c.self.view_is) (sym c.refusal.ensures ∙ c.in_default.is) in
    let r = ready c.args.reliable.now c.args.lossy.now w m.rows.items m.listings.entries refl why (i.1).kept i.3 (i.0).few i.5 in
    let es1 : c.begin.new.self.listings.entries ≡ m.listings.entries = ap (λ l. l.entries) c.begin.ensures.listings in
    let long = ap (λ (l : Listings). length l) es1 in
    let fit = r.fit in
    omega (arith, long, fit)

pub list_all-requires-clause-once : goal.list_all-requires-clause-once
list_all-requires-clause-once c =
    let m = c.self.inside.made in
    let w = the_view c.self.inside in
    let i = c.self.invariant in
    let why : why_not c.args.reliable.now c.args.lossy.now w ≡ None = subst (λ v. why_not c.args.reliable.now c.args.lossy.now v ≡ None) (sym c.self.view_is) (sym c.refusal.ensures ∙ c.in_default.is) in
    let r = ready c.args.reliable.now c.args.lossy.now w m.rows.items m.listings.entries refl why (i.1).kept i.3 (i.0).few i.5 in
    let es1 : c.begin.new.self.listings.entries ≡ m.listings.entries = ap (λ l. l.entries) c.begin.ensures.listings in
    subst (λ (l : Listings). first_repeated (keys_of l) c.args.reliable.now ≡ None) (sym es1) r.once

pub list_all-requires-2-clause-fit : goal.list_all-requires-2-clause-fit
list_all-requires-2-clause-fit c =
    let m = c.self.inside.made in
    let w = the_view c.self.inside in
    let i = c.self.invariant in
    let why : why_not c.args.reliable.now c.args.lossy.now w ≡ None = subst (λ v. why_not c.args.reliable.now c.args.lossy.now v ≡ None) (sym c.self.view_is) (sym c.refusal.ensures ∙ c.in_default.is) in
    let r = ready c.args.reliable.now c.args.lossy.now w m.rows.items m.listings.entries refl why (i.1).kept i.3 (i.0).few i.5 in
    let es1 : c.begin.new.self.listings.entries ≡ m.listings.entries = ap (λ l. l.entries) c.begin.ensures.listings in
    let rows1 = c.begin.ensures.rows in
    let es2 = c.list_all.ensures.listings in
    let long = ap (λ (l : Listings). length l) es1 in
    let longer = length-listed _ c.begin.new.self.listings.entries c.list_all.new.self.listings.entries Reliable c.args.reliable.now es2 in
    let fit = r.fit in
    omega (arith, long, longer, fit)

pub list_all-requires-2-clause-once : goal.list_all-requires-2-clause-once
list_all-requires-2-clause-once c =
    let m = c.self.inside.made in
    let w = the_view c.self.inside in
    let i = c.self.invariant in
    let why : why_not c.args.reliable.now c.args.lossy.now w ≡ None = subst (λ v. why_not c.args.reliable.now c.args.lossy.now v ≡ None) (sym c.self.view_is) (sym c.refusal.ensures ∙ c.in_default.is) in
    let r = ready c.args.reliable.now c.args.lossy.now w m.rows.items m.listings.entries refl why (i.1).kept i.3 (i.0).few i.5 in
    let es1 : c.begin.new.self.listings.entries ≡ m.listings.entries = ap (λ l. l.entries) c.begin.ensures.listings in
    let rows1 = c.begin.ensures.rows in
    let es2 = c.list_all.ensures.listings in
    let keys : keys_of c.list_all.new.self.listings.entries ≡ keys_of m.listings.entries ++ c.args.reliable.now =
    ap (λ (l : Listings). keys_of l) es2 ∙ keys_more _ Reliable c.begin.new.self.listings.entries c.args.reliable.now ∙ ap (λ (l : Listings). keys_of l ++ c.args.reliable.now) es1 in
    subst (λ (k : List ℕ). first_repeated k c.args.lossy.now ≡ None) (sym keys) r.once_more

pub invariant_of-self : goal.invariant_of-self
invariant_of-self c =
    let m = c.self.inside.made in
    let w = the_view c.self.inside in
    let i = c.self.invariant in
    let why : why_not c.args.reliable.now c.args.lossy.now w ≡ None = subst (λ v. why_not c.args.reliable.now c.args.lossy.now v ≡ None) (sym c.self.view_is) (sym c.refusal.ensures ∙ c.in_default.is) in
    let r = ready c.args.reliable.now c.args.lossy.now w m.rows.items m.listings.entries refl why (i.1).kept i.3 (i.0).few i.5 in
    let es1 : c.begin.new.self.listings.entries ≡ m.listings.entries = ap (λ l. l.entries) c.begin.ensures.listings in
    let rows1 = c.begin.ensures.rows in
    let es2 = c.list_all.ensures.listings in
    let n = length m.rows.items in
    let row = row_of (record { reliable = not c.is_empty.result; lossy = not c.is_empty-2.result }) in
    let rows2 : c.list_all.new.self.rows.items ≡ m.rows.items ++ (row ∷ []) = ap (λ r. r.items) c.list_all.ensures.rows ∙ rows1 in
    let rows3 : c.list_all-2.new.self.rows.items ≡ m.rows.items ++ (row ∷ []) = ap (λ r. r.items) c.list_all-2.ensures.rows ∙ rows2 in
    let es3 = c.list_all-2.ensures.listings in
    let listings : c.list_all-2.new.self.listings.entries ≡ (m.listings.entries ++ under n Reliable c.args.reliable.now) ++ under n Lossy c.args.lossy.now =
    es3 ∙ ap (λ k. c.list_all.new.self.listings.entries ++ under k Lossy c.args.lossy.now) (last_number m.rows.items c.list_all.new.self.rows.items row rows2)
    ∙ ap (λ l. l ++ under n Lossy c.args.lossy.now)
    (es2 ∙ ap (λ k. c.begin.new.self.listings.entries ++ under k Reliable c.args.reliable.now) (last_number m.rows.items c.begin.new.self.rows.items row rows1)
    ∙ ap (λ l. l ++ under n Reliable c.args.reliable.now) es1) in
    let long = ap (λ r. length r) rows3 ∙ length-append m.rows.items (row ∷ []) in
    let longer = length-listed _ c.list_all.new.self.listings.entries c.list_all-2.new.self.listings.entries Lossy c.args.lossy.now es3 in
    let less = length-listed _ c.begin.new.self.listings.entries c.list_all.new.self.listings.entries Reliable c.args.reliable.now es2 in
    let least = ap (λ (l : Listings). length l) es1 in
    let some = r.some in
    let fewer = i.5 in (
      i.0,
      c.list_all-2.ensures.roomy,
      i.2,
      subst (λ l. AreAmong l w.channels) (sym listings) (among_both n c.args.reliable.now c.args.lossy.now m.listings.entries w.channels i.3 r.told),
      i.4,
      omega (arith, long, longer, less, least, some, fewer),
    )

pub returns-clause-made : goal.returns-clause-made
returns-clause-made c =
    let m = c.self.inside.made in
    let w = the_view c.self.inside in
    let i = c.self.invariant in
    let why : why_not c.args.reliable.now c.args.lossy.now w ≡ None = subst (λ v. why_not c.args.reliable.now c.args.lossy.now v ≡ None) (sym c.self.view_is) (sym c.refusal.ensures ∙ c.in_default.is) in
    let r = ready c.args.reliable.now c.args.lossy.now w m.rows.items m.listings.entries refl why (i.1).kept i.3 (i.0).few i.5 in
    let es1 : c.begin.new.self.listings.entries ≡ m.listings.entries = ap (λ l. l.entries) c.begin.ensures.listings in
    let rows1 = c.begin.ensures.rows in
    let es2 = c.list_all.ensures.listings in
    let n = length m.rows.items in
    let row = row_of (record { reliable = not c.is_empty.result; lossy = not c.is_empty-2.result }) in
    let rows2 : c.list_all.new.self.rows.items ≡ m.rows.items ++ (row ∷ []) = ap (λ r. r.items) c.list_all.ensures.rows ∙ rows1 in
    let rows3 : c.list_all-2.new.self.rows.items ≡ m.rows.items ++ (row ∷ []) = ap (λ r. r.items) c.list_all-2.ensures.rows ∙ rows2 in
    let es3 = c.list_all-2.ensures.listings in
    let listings : c.list_all-2.new.self.listings.entries ≡ (m.listings.entries ++ under n Reliable c.args.reliable.now) ++ under n Lossy c.args.lossy.now =
    es3 ∙ ap (λ k. c.list_all.new.self.listings.entries ++ under k Lossy c.args.lossy.now) (last_number m.rows.items c.list_all.new.self.rows.items row rows2)
    ∙ ap (λ l. l ++ under n Lossy c.args.lossy.now)
    (es2 ∙ ap (λ k. c.begin.new.self.listings.entries ++ under k Reliable c.args.reliable.now) (last_number m.rows.items c.begin.new.self.rows.items row rows1)
    ∙ ap (λ l. l ++ under n Reliable c.args.reliable.now) es1) in
    let made : exchanges_in c.list_all-2.new.self.rows.items c.list_all-2.new.self.listings.entries
    ≡ exchanges_in m.rows.items m.listings.entries ++ (unanswered (request_of c.args.reliable.now c.args.lossy.now) ∷ []) =
    made_by m.rows.items _ row m.listings.entries _ c.args.reliable.now c.args.lossy.now ((i.1).kept).numbered (record { rows_are = rows3; listings_are = listings })
    ∙ ap (λ b. exchanges_in m.rows.items m.listings.entries ++ (unanswered (record { named = record { reliable = not b; lossy = not c.is_empty-2.result }; channels = (request_of c.args.reliable.now c.args.lossy.now).channels }) ∷ [])) c.is_empty.ensures
    ∙ ap (λ b. exchanges_in m.rows.items m.listings.entries ++ (unanswered (record { named = record { reliable = not (is_empty c.args.reliable.now); lossy = not b }; channels = (request_of c.args.reliable.now c.args.lossy.now).channels }) ∷ [])) c.is_empty-2.ensures in
    ap (λ (x : List Exchange). record w { made = x }) made
    ∙ ap (λ (v : Words). record v { made = v.made ++ (unanswered (request_of c.args.reliable.now c.args.lossy.now) ∷ []) }) c.self.view_is
