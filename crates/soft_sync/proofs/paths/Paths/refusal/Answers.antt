use Rattle.std.proofs.Common.{◌≡◌, ◌++◌, Some, None, false, nat_lt, refl, sym, ap, ◌∙◌, subst, arith}
use Rattle.std.specs.Prelude.{is_some}
use Rattle.std.specs.List.{find}
use Rattle.std.proofs.lemmas.Bool.{le-ltb}
use Rattle.soft_sync.specs.Exchanges.{listed}
use Rattle.soft_sync.specs.Words.{Words, is_empty, first_closed}
use Rattle.soft_sync.proofs.Asking.{why_is, lacks_channel, is_listed, found_either, repeated_either}
use Rattle.soft_sync.proofs.paths.Paths.refusal.Goals as goal

pub returns-in-Some : goal.returns-in-Some
returns-in-Some c =
    let w = c.args.self.now in
    let xs = c.args.reliable.now in
    let ys = c.args.lossy.now in
    let same = ap (λ (w : Words). w.version) c.self.view_is in
    let new = c.if-self-lt-VERSION.false in
    let old : nat_lt w.version 3 ≡ false = le-ltb w.version 3 (omega (arith, same, new)) in
    let empty : is_empty (xs ++ ys) ≡ false = sym c.are_empty.ensures ∙ c.if-are_empty.false in
    let unknown : find (lacks_channel w) (xs ++ ys) ≡ Some c.in-Some.id = found_either (lacks_channel w) xs ys _ _ _ c.first_unknown.ensures c.first_unknown-2.ensures c.or.ensures ∙ c.in-Some.is in
    sym (why_is xs ys w false false (Some c.in-Some.id) _ _ _ old empty unknown refl refl refl)

pub returns-in-Some-or : goal.returns-in-Some-or
returns-in-Some-or c =
    let w = c.args.self.now in
    let xs = c.args.reliable.now in
    let ys = c.args.lossy.now in
    let same = ap (λ (w : Words). w.version) c.self.view_is in
    let new = c.if-self-lt-VERSION.false in
    let old : nat_lt w.version 3 ≡ false = le-ltb w.version 3 (omega (arith, same, new)) in
    let empty : is_empty (xs ++ ys) ≡ false = sym c.are_empty.ensures ∙ c.if-are_empty.false in
    let unknown : find (lacks_channel w) (xs ++ ys) ≡ None = found_either (lacks_channel w) xs ys _ _ _ c.first_unknown.ensures c.first_unknown-2.ensures c.or.ensures ∙ c.in_default.is in
    let repeated = repeated_either xs ys _ _ _ c.first_repeated.ensures c.first_repeated-2.ensures c.or-2.ensures ∙ c.in-Some-or.is in
    sym (why_is xs ys w false false None (Some c.in-Some-or.id) _ _ old empty unknown repeated refl refl)

pub returns-in-Some-or-2 : goal.returns-in-Some-or-2
returns-in-Some-or-2 c =
    let w = c.args.self.now in
    let xs = c.args.reliable.now in
    let ys = c.args.lossy.now in
    let same = ap (λ (w : Words). w.version) c.self.view_is in
    let new = c.if-self-lt-VERSION.false in
    let old : nat_lt w.version 3 ≡ false = le-ltb w.version 3 (omega (arith, same, new)) in
    let empty : is_empty (xs ++ ys) ≡ false = sym c.are_empty.ensures ∙ c.if-are_empty.false in
    let unknown : find (lacks_channel w) (xs ++ ys) ≡ None = found_either (lacks_channel w) xs ys _ _ _ c.first_unknown.ensures c.first_unknown-2.ensures c.or.ensures ∙ c.in_default.is in
    let repeated = repeated_either xs ys _ _ _ c.first_repeated.ensures c.first_repeated-2.ensures c.or-2.ensures ∙ c.in_default-or.is in
    let made = ap (λ (w : Words). w.made) c.self.view_is in
    let first : c.first_listed.result ≡ find (is_listed w) xs = subst (λ m. c.first_listed.result ≡ find (λ id. is_some (listed id m)) xs) made c.first_listed.ensures in
    let second : c.first_listed-2.result ≡ find (is_listed w) ys = subst (λ m. c.first_listed-2.result ≡ find (λ id. is_some (listed id m)) ys) made c.first_listed-2.ensures in
    let again = found_either (is_listed w) xs ys _ _ _ first second c.or-3.ensures ∙ c.in-Some-or-2.is in
    sym (why_is xs ys w false false None None (Some c.in-Some-or-2.id) _ old empty unknown repeated again refl)

pub returns-in-Some-first_closed : goal.returns-in-Some-first_closed
returns-in-Some-first_closed c =
    let w = c.args.self.now in
    let xs = c.args.reliable.now in
    let ys = c.args.lossy.now in
    let same = ap (λ (w : Words). w.version) c.self.view_is in
    let new = c.if-self-lt-VERSION.false in
    let old : nat_lt w.version 3 ≡ false = le-ltb w.version 3 (omega (arith, same, new)) in
    let empty : is_empty (xs ++ ys) ≡ false = sym c.are_empty.ensures ∙ c.if-are_empty.false in
    let unknown : find (lacks_channel w) (xs ++ ys) ≡ None = found_either (lacks_channel w) xs ys _ _ _ c.first_unknown.ensures c.first_unknown-2.ensures c.or.ensures ∙ c.in_default.is in
    let repeated = repeated_either xs ys _ _ _ c.first_repeated.ensures c.first_repeated-2.ensures c.or-2.ensures ∙ c.in_default-or.is in
    let made = ap (λ (w : Words). w.made) c.self.view_is in
    let first : c.first_listed.result ≡ find (is_listed w) xs = subst (λ m. c.first_listed.result ≡ find (λ id. is_some (listed id m)) xs) made c.first_listed.ensures in
    let second : c.first_listed-2.result ≡ find (is_listed w) ys = subst (λ m. c.first_listed-2.result ≡ find (λ id. is_some (listed id m)) ys) made c.first_listed-2.ensures in
    let again = found_either (is_listed w) xs ys _ _ _ first second c.or-3.ensures ∙ c.in_default-or-2.is in
    let closed : first_closed xs ys w.opened ≡ c.first_closed.result = sym c.first_closed.ensures in
    sym (why_is xs ys w false false None None None (Some c.in-Some-first_closed.kind) old empty unknown repeated again (closed ∙ c.in-Some-first_closed.is))

pub returns : goal.returns
returns c =
    let w = c.args.self.now in
    let xs = c.args.reliable.now in
    let ys = c.args.lossy.now in
    let same = ap (λ (w : Words). w.version) c.self.view_is in
    let new = c.if-self-lt-VERSION.false in
    let old : nat_lt w.version 3 ≡ false = le-ltb w.version 3 (omega (arith, same, new)) in
    let empty : is_empty (xs ++ ys) ≡ false = sym c.are_empty.ensures ∙ c.if-are_empty.false in
    let unknown : find (lacks_channel w) (xs ++ ys) ≡ None = found_either (lacks_channel w) xs ys _ _ _ c.first_unknown.ensures c.first_unknown-2.ensures c.or.ensures ∙ c.in_default.is in
    let repeated = repeated_either xs ys _ _ _ c.first_repeated.ensures c.first_repeated-2.ensures c.or-2.ensures ∙ c.in_default-or.is in
    let made = ap (λ (w : Words). w.made) c.self.view_is in
    let first : c.first_listed.result ≡ find (is_listed w) xs = subst (λ m. c.first_listed.result ≡ find (λ id. is_some (listed id m)) xs) made c.first_listed.ensures in
    let second : c.first_listed-2.result ≡ find (is_listed w) ys = subst (λ m. c.first_listed-2.result ≡ find (λ id. is_some (listed id m)) ys) made c.first_listed-2.ensures in
    let again = found_either (is_listed w) xs ys _ _ _ first second c.or-3.ensures ∙ c.in_default-or-2.is in
    let closed : first_closed xs ys w.opened ≡ c.first_closed.result = sym c.first_closed.ensures in
    sym (why_is xs ys w false false None None None None old empty unknown repeated again (closed ∙ c.in_default-first_closed.is))
