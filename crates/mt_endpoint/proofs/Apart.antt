-- The tunnels of the two kinds are asked for under different ids.
use Rattle.std.proofs.Common.{◌≡◌, ◌≢◌, ℕ, Bool, true, false, cond, eqb, nat_eq, List, [], ◌∷◌, ◌++◌, Option, Some, None, is_some, refl, sym, ap, ◌∙◌, eq-eqb}
use Rattle.std.specs.Option.{option_or}
use Rattle.std.specs.Map.{lookup, set_value}
use Rattle.mt_base.specs.declared.kinds.Kind.{Kind}
use Rattle.mt_base.specs.declared.kinds.Kind.TheVariants.{Reliable, Lossy}
use Rattle.mt_base.specs.declared.kinds.Role.{Role}
use Rattle.mt_base.specs.declared.kinds.Role.TheVariants.{Server}
use Rattle.mt_base.specs.Trace.{Trace, Start, ◌▷◌}
use Rattle.tunnel_cookies.specs.declared.entry.Entry.{Entry}
use Rattle.tunnel_cookies.specs.declared.entry.Verdict.{Verdict}
use Rattle.tunnel_cookies.specs.declared.entry.Verdict.TheVariants as verdict
use Rattle.tunnel_cookies.specs.Entries.{Entries, entry_of, unspent, spent_by, after}
use Rattle.mt_endpoint.specs.Acts.{Act, Asks, Hears, Judges, TunnelAsked}
use Rattle.mt_endpoint.specs.Tunnels.{Request, asked, request_in, issued, link_of}
use Rattle.mt_base.specs.Ends.{same_kind}
use Rattle.mt_endpoint.specs.Faults.{Unexpected}
use Rattle.mt_endpoint.specs.World.{NetOfActs, side}
use Rattle.mt_endpoint.specs.Alone.{IsAct, EndOfActs}
use Rattle.mt_endpoint.proofs.Together.{together}

-- ---- an id that was issued stays so

found_more : (id : ℕ) (xs ys : Entries) → is_some (entry_of id xs) ≡ true → is_some (entry_of id (xs ++ ys)) ≡ true
found_more id [] ys h = absurd (let no : false ≡ true = h in cc)
found_more id ((x, y) ∷ xs) ys h = by_test (eqb id x) h (λ k. found_more id xs ys k) where
  by_test : (b : Bool) → is_some (cond b (Some y) (lookup (nat_eq id) xs)) ≡ true → (is_some (entry_of id xs) ≡ true → is_some (entry_of id (xs ++ ys)) ≡ true) → is_some (cond b (Some y) (lookup (nat_eq id) (xs ++ ys))) ≡ true
  by_test true k deeper = refl
  by_test false k deeper = deeper k

found_last : (id : ℕ) (xs : Entries) (e : Entry) → is_some (entry_of id (xs ++ (id, e) ∷ [])) ≡ true
found_last id [] e = ap (λ b. is_some (cond b (Some e) None)) (eq-eqb id id refl)
found_last id ((x, y) ∷ xs) e = by_test (eqb id x) (found_last id xs e) where
  by_test : (b : Bool) → is_some (entry_of id (xs ++ (id, e) ∷ [])) ≡ true → is_some (cond b (Some y) (lookup (nat_eq id) (xs ++ (id, e) ∷ []))) ≡ true
  by_test true h = refl
  by_test false h = h

found_set : (id made : ℕ) (xs : Entries) (e : Entry) → is_some (entry_of id xs) ≡ true → is_some (entry_of id (set_value (nat_eq made) xs e)) ≡ true
found_set id made [] e h = h
found_set id made ((x, y) ∷ xs) e h = by_test (eqb made x) (eqb id x) refl h (λ k. found_set id made xs e k) where
  by_test : (b c : Bool) → eqb id x ≡ c → is_some (cond c (Some y) (lookup (nat_eq id) xs)) ≡ true → (is_some (entry_of id xs) ≡ true → is_some (entry_of id (set_value (nat_eq made) xs e)) ≡ true)
      → is_some (lookup (nat_eq id) (cond b ((x, e) ∷ xs) ((x, y) ∷ set_value (nat_eq made) xs e))) ≡ true
  by_test true true q k deeper = ap (λ z. is_some (cond z (Some e) (lookup (nat_eq id) xs))) q
  by_test true false q k deeper = ap (λ z. is_some (cond z (Some e) (lookup (nat_eq id) xs))) q ∙ k
  by_test false true q k deeper = ap (λ z. is_some (cond z (Some y) (lookup (nat_eq id) (set_value (nat_eq made) xs e)))) q
  by_test false false q k deeper = ap (λ z. is_some (cond z (Some y) (lookup (nat_eq id) (set_value (nat_eq made) xs e)))) q ∙ deeper k

found_after : (id link made : ℕ) (v : Verdict) (o : Option Entry) (xs : Entries) → is_some (entry_of id xs) ≡ true → is_some (entry_of id (after link made v o xs)) ≡ true
found_after id link made verdict.Opened None xs h = h
found_after id link made verdict.Opened (Some e) xs h = found_set id made xs (spent_by link e) h
found_after id link made verdict.Again o xs h = h
found_after id link made verdict.Unknown o xs h = h
found_after id link made verdict.WrongCookie o xs h = h
found_after id link made verdict.WrongKind o xs h = h
found_after id link made (verdict.Spent other) o xs h = h

found_act : (id : ℕ) (t : Trace Act) (act : Act) → is_some (entry_of id (issued t)) ≡ true → is_some (entry_of id (issued (t ▷ act))) ≡ true
found_act id t (Asks kind made cookie) h = found_more id (issued t) ((made, unspent kind cookie) ∷ []) h
found_act id t (Judges kind at made cookie v is_full) h = found_after id (link_of kind) made v (entry_of made (issued t)) (issued t) h
found_act id t act h = h

-- ---- what was asked for was issued

asked_new : (t : Trace Act) (kind : Kind) (act : Act) (request : Request) → IsAct Server t act → request_in kind act ≡ Some request → is_some (entry_of request.id (issued (t ▷ act))) ≡ true
asked_new t kind (Asks made id cookie) request a h = by_kind (same_kind kind made) h where
  by_kind : (b : Bool) → cond {A = Option Request} b (Some (record { id = id; cookie = cookie })) None ≡ Some request → is_some (entry_of request.id (issued t ++ (id, unspent made cookie) ∷ [])) ≡ true
  by_kind true k =
      let same : record { id = id; cookie = cookie } ≡ request = cc in
      ap (λ (r : Request). is_some (entry_of r.id (issued t ++ (id, unspent made cookie) ∷ []))) (sym same) ∙ found_last id (issued t) (unspent made cookie)
  by_kind false k = absurd (let no : None ≡ Some request = k in cc)
asked_new t kind (Hears (TunnelAsked id made cookie)) request a h = absurd (let no : Some Unexpected ≡ None = a.1 in cc)
asked_new t kind act request a h = absurd (let no : None ≡ Some request = h in cc)

issued_case : (t : Trace Act) (kind : Kind) (act : Act) (request : Request) (o : Option Request) → IsAct Server t act → asked kind t ≡ o → option_or o (request_in kind act) ≡ Some request
    → (asked kind t ≡ Some request → is_some (entry_of request.id (issued t)) ≡ true) → is_some (entry_of request.id (issued (t ▷ act))) ≡ true
issued_case t kind act request None a e h before = asked_new t kind act request a h
issued_case t kind act request (Some x) a e h before = found_act request.id t act (before (e ∙ h))

asked_issued : (t : Trace Act) (kind : Kind) (request : Request) → EndOfActs Server t → asked kind t ≡ Some request → is_some (entry_of request.id (issued t)) ≡ true
asked_issued Start kind request e h = absurd (let no : None ≡ Some request = h in cc)
asked_issued (t ▷ act) kind request e h = issued_case t kind act request (asked kind t) e.1 refl h (λ k. asked_issued t kind request e.2 k)

-- ---- so a new request has a new id

no_request : (o : Option Request) → option_or o None ≡ o
no_request None = refl
no_request (Some x) = refl

-- `fresh` is asked for now, `old` was
new_id : (t : Trace Act) (id : ℕ) (cookie : List ℕ) (o : Option Request) (kind : Kind) (fresh old : Request) → EndOfActs Server t → entry_of id (issued t) ≡ None → o ≡ None → option_or o (Some (record { id = id; cookie = cookie })) ≡ Some fresh
    → option_or (asked kind t) None ≡ Some old → fresh.id ≢ old.id
new_id t id cookie o kind fresh old e unissued none h k same =
    let is : Some (record { id = id; cookie = cookie }) ≡ Some fresh = sym (ap (λ x. option_or x (Some (record { id = id; cookie = cookie }))) none) ∙ h in
    let it : record { id = id; cookie = cookie } ≡ fresh = cc in
    let found = asked_issued t kind old e (sym (no_request (asked kind t)) ∙ k) in
    let no : false ≡ true = sym (ap is_some unissued) ∙ ap (λ x. is_some (entry_of x (issued t))) (ap (λ (r : Request). r.id) it ∙ same) ∙ found in cc

abbrev pub AreApart : Trace Act → Type 0
AreApart t = (one second : Request) → asked Reliable t ≡ Some one → asked Lossy t ≡ Some second → one.id ≢ second.id

apart_act : (t : Trace Act) (act : Act) → EndOfActs Server (t ▷ act) → AreApart t → AreApart (t ▷ act)
apart_act t (Asks Reliable id cookie) e before one second h k same = new_id t id cookie (asked Reliable t) Lossy one second e.2 e.1.0.2 e.1.0.1 h k same
apart_act t (Asks Lossy id cookie) e before one second h k same = new_id t id cookie (asked Lossy t) Reliable second one e.2 e.1.0.2 e.1.0.1 k h (sym same)
apart_act t (Hears (TunnelAsked id kind cookie)) e before one second h k same = absurd (let no : Some Unexpected ≡ None = e.1.1 in cc)
apart_act t act e before one second h k same = before one second (sym (no_request (asked Reliable t)) ∙ h) (sym (no_request (asked Lossy t)) ∙ k) same

apart : (t : Trace Act) → EndOfActs Server t → AreApart t
apart Start e one second h k same = let no : None ≡ Some one = h in cc
apart (t ▷ act) e one second h k same = apart_act t act e (apart t e.2) one second h k same

pub apart_in_net : (w : Trace (Role × Act)) → NetOfActs w → AreApart (side Server w)
apart_in_net w n one second h k same = apart (side Server w) (together w n).place.here_acts one second h k same
