-- The table of issued requests: each entry is of a request that the server made, and the link that spent
-- its cookie opened the tunnel.
use Rattle.std.proofs.Common.{◌≡◌, ℕ, Bool, true, false, ◌&&◌, cond, eqb, nat_eq, List, [], ◌∷◌, ◌++◌, Option, Some, None, refl, sym, ap, subst, ◌∙◌}
use Rattle.std.proofs.lemmas.Bool.{eqb-true}
use Rattle.std.specs.Option.{option_or}
use Rattle.std.specs.Map.{lookup, set_value}
use Rattle.mt_base.specs.declared.kinds.Kind.{Kind}
use Rattle.mt_base.specs.declared.kinds.Role.TheVariants.{Server}
use Rattle.mt_base.specs.Trace.{Trace, Start, ◌▷◌}
use Rattle.tunnel_cookies.specs.declared.entry.Entry.{Entry}
use Rattle.tunnel_cookies.specs.declared.entry.Verdict.TheVariants as verdict
use Rattle.tunnel_cookies.specs.Entries.{Entries, entry_of, unspent, spent_by, IsVerdict, again, opened, after}
use Rattle.mt_endpoint.specs.Acts.{Act, Asks, Judges}
use Rattle.mt_endpoint.specs.Tunnels.{Request, asked, request_in, was_opened, opens, issued, link_of}
use Rattle.mt_base.specs.Ends.{same_kind}
use Rattle.mt_endpoint.specs.Alone.{IsAct, EndOfActs}
use Rattle.mt_endpoint.proofs.Known.{or_front}
use Rattle.mt_endpoint.proofs.Opening.{or_back}
use Rattle.mt_endpoint.proofs.Walking.{same_itself}

-- ---- what holds of each entry

abbrev pub EachEntry : (ℕ → Entry → Type 0) → Entries → Type 0
EachEntry P [] = Unit {0}
EachEntry P ((id, e) ∷ entries) = P id e × EachEntry P entries

entry_later : (P Q : ℕ → Entry → Type 0) → ((id : ℕ) (e : Entry) → P id e → Q id e) → (entries : Entries) → EachEntry P entries → EachEntry Q entries
entry_later P Q later [] h = tt
entry_later P Q later ((id, e) ∷ entries) h = (later id e h.0, entry_later P Q later entries h.1)

entry-push : (P : ℕ → Entry → Type 0) (entries : Entries) (id : ℕ) (e : Entry) → EachEntry P entries → P id e → EachEntry P (entries ++ (id, e) ∷ [])
entry-push P [] id e h k = (k, tt)
entry-push P ((x, y) ∷ entries) id e h k = (h.0, entry-push P entries id e h.1 k)

entry_set : (P : ℕ → Entry → Type 0) (id : ℕ) (entries : Entries) (e : Entry) → EachEntry P entries → P id e → EachEntry P (set_value (nat_eq id) entries e)
entry_set P id [] e h k = tt
entry_set P id ((x, y) ∷ entries) e h k = by_test (eqb id x) refl (entry_set P id entries e h.1 k) where
  by_test : (b : Bool) → eqb id x ≡ b → EachEntry P (set_value (nat_eq id) entries e) → EachEntry P (cond b ((x, e) ∷ entries) ((x, y) ∷ set_value (nat_eq id) entries e))
  by_test true s rest = (subst (λ i. P i e) (eqb-true id x s) k, h.1)
  by_test false s rest = (h.0, rest)

entry_found : (P : ℕ → Entry → Type 0) (id : ℕ) (entries : Entries) (e : Entry) → entry_of id entries ≡ Some e → EachEntry P entries → P id e
entry_found P id [] e found h = absurd (let no : None ≡ Some e = found in cc)
entry_found P id ((x, y) ∷ entries) e found h = by_test (eqb id x) refl found (λ k. entry_found P id entries e k h.1) where
  by_test : (b : Bool) → eqb id x ≡ b → cond b (Some y) (lookup (nat_eq id) entries) ≡ Some e → (entry_of id entries ≡ Some e → P id e) → P id e
  by_test true s k deeper =
      let same : y ≡ e = cc in
      let it : id ≡ x = eqb-true id x s in subst (P id) same (subst (λ i. P i y) (sym it) h.0)
  by_test false s k deeper = deeper k

-- ---- the table

pub record IsKept (t : Trace Act) (id : ℕ) (e : Entry) : Type 0 where
  pub is_asked : asked e.kind t ≡ Some (record { id = id; cookie = e.cookie })
  pub has_opened : e.spender ≡ Some (link_of e.kind) → was_opened e.kind t ≡ true

pub asked_later : (kind : Kind) (t : Trace Act) (act : Act) (request : Request) → asked kind t ≡ Some request → asked kind (t ▷ act) ≡ Some request
asked_later kind t act request h = ap (λ o. option_or o (request_in kind act)) h

kept_later : (t : Trace Act) (act : Act) (id : ℕ) (e : Entry) → IsKept t id e → IsKept (t ▷ act) id e
kept_later t act id e k = record { is_asked = asked_later e.kind t act (record { id = id; cookie = e.cookie }) k.is_asked; has_opened = λ s. or_front (was_opened e.kind t) (opens e.kind act) (k.has_opened s) }

all_later : (t : Trace Act) (act : Act) → EachEntry (IsKept t) (issued t) → EachEntry (IsKept (t ▷ act)) (issued t)
all_later t act h = entry_later (IsKept t) (IsKept (t ▷ act)) (kept_later t act) (issued t) h

asked_now : (t : Trace Act) (kind : Kind) (id : ℕ) (cookie : List ℕ) → asked kind t ≡ None → IsKept (t ▷ Asks kind id cookie) id (unspent kind cookie)
asked_now t kind id cookie none = record {
  is_asked = ap (λ o. option_or o (request_in kind (Asks kind id cookie))) none ∙ ap (λ b. cond b (Some (record { id = id; cookie = cookie })) None) (same_itself kind);
  has_opened = λ s. absurd (let no : None ≡ Some (link_of kind) = s in cc);
}

pub record HasFound (kind : Kind) (cookie : List ℕ) (o : Option Entry) : Type 0 where
  pub entry : Entry
  pub is_found : o ≡ Some entry
  pub cookie_is : cookie ≡ entry.cookie
  pub kind_is : kind ≡ entry.kind

pub opened_is : (link : ℕ) (kind : Kind) (cookie : List ℕ) (o : Option Entry) → IsVerdict link kind cookie o verdict.Opened → HasFound kind cookie o
opened_is link kind cookie _ (opened e c k s) = record { entry = e; is_found = refl; cookie_is = c; kind_is = k }

again_is : (link : ℕ) (kind : Kind) (cookie : List ℕ) (o : Option Entry) → IsVerdict link kind cookie o verdict.Again → (e : Entry) × (o ≡ Some e) × (kind ≡ e.kind) × (e.spender ≡ Some link)
again_is link kind cookie _ (again e c k s) = (e, refl, k, s)

opens_now : (t : Trace Act) (made kind : Kind) (at id : ℕ) (cookie : List ℕ) (is_full : Bool) → kind ≡ made → was_opened made (t ▷ Judges kind at id cookie verdict.Opened is_full) ≡ true
opens_now t made kind at id cookie is_full same = or_back (was_opened made t) (same_kind made kind && true) (ap (λ k. same_kind made k && true) same ∙ ap (λ b. b && true) (same_itself made))

spent_now : (t : Trace Act) (kind : Kind) (at id : ℕ) (cookie : List ℕ) (is_full : Bool) (e : Entry) → kind ≡ e.kind → IsKept t id e → IsKept (t ▷ Judges kind at id cookie verdict.Opened is_full) id (spent_by (link_of kind) e)
spent_now t kind at id cookie is_full e same k = record {
  is_asked = asked_later e.kind t (Judges kind at id cookie verdict.Opened is_full) (record { id = id; cookie = e.cookie }) k.is_asked;
  has_opened = λ s. opens_now t e.kind kind at id cookie is_full same;
}

kept_opened : (t : Trace Act) (kind : Kind) (at id : ℕ) (cookie : List ℕ) (is_full : Bool) → IsAct Server t (Judges kind at id cookie verdict.Opened is_full) → EachEntry (IsKept t) (issued t)
    → EachEntry (IsKept (t ▷ Judges kind at id cookie verdict.Opened is_full)) (issued (t ▷ Judges kind at id cookie verdict.Opened is_full))
kept_opened t kind at id cookie is_full a h =
    let act : Act = Judges kind at id cookie verdict.Opened is_full in
    let f = opened_is (link_of kind) kind cookie (entry_of id (issued t)) a.0.1 in
    let now = spent_now t kind at id cookie is_full f.entry f.kind_is (entry_found (IsKept t) id (issued t) f.entry f.is_found h) in
    subst (λ o. EachEntry (IsKept (t ▷ act)) (after (link_of kind) id verdict.Opened o (issued t))) (sym f.is_found)
    (entry_set (IsKept (t ▷ act)) id (issued t) (spent_by (link_of kind) f.entry) (all_later t act h) now)

kept_act : (t : Trace Act) (act : Act) → IsAct Server t act → EachEntry (IsKept t) (issued t) → EachEntry (IsKept (t ▷ act)) (issued (t ▷ act))
kept_act t (Asks kind id cookie) a h = entry-push (IsKept (t ▷ Asks kind id cookie)) (issued t) id (unspent kind cookie) (all_later t (Asks kind id cookie) h) (asked_now t kind id cookie a.0.1)
kept_act t (Judges kind at id cookie verdict.Opened is_full) a h = kept_opened t kind at id cookie is_full a h
kept_act t (Judges kind at id cookie verdict.Again is_full) a h = all_later t (Judges kind at id cookie verdict.Again is_full) h
kept_act t (Judges kind at id cookie verdict.Unknown is_full) a h = all_later t (Judges kind at id cookie verdict.Unknown is_full) h
kept_act t (Judges kind at id cookie verdict.WrongCookie is_full) a h = all_later t (Judges kind at id cookie verdict.WrongCookie is_full) h
kept_act t (Judges kind at id cookie verdict.WrongKind is_full) a h = all_later t (Judges kind at id cookie verdict.WrongKind is_full) h
kept_act t (Judges kind at id cookie (verdict.Spent link) is_full) a h = all_later t (Judges kind at id cookie (verdict.Spent link) is_full) h
kept_act t act a h = all_later t act h

pub kept : (t : Trace Act) → EndOfActs Server t → EachEntry (IsKept t) (issued t)
kept Start e = tt
kept (t ▷ act) e = kept_act t act e.1 (kept t e.2)

-- the link that asks again has opened the tunnel
pub again_opened : (t : Trace Act) (kind : Kind) (at id : ℕ) (cookie : List ℕ) (is_full : Bool) → EndOfActs Server t → IsAct Server t (Judges kind at id cookie verdict.Again is_full) → was_opened kind t ≡ true
again_opened t kind at id cookie is_full e a =
    let it = again_is (link_of kind) kind cookie (entry_of id (issued t)) a.0.1 in
    let k = entry_found (IsKept t) id (issued t) it.0 it.1 (kept t e) in
    ap (λ x. was_opened x t) it.2 ∙ k.has_opened (it.3 ∙ ap (λ x. Some (link_of x)) it.2)

-- the request of a cookie that opens a tunnel
pub opened_asked : (t : Trace Act) (kind : Kind) (at id : ℕ) (cookie : List ℕ) (is_full : Bool) → EndOfActs Server t → IsAct Server t (Judges kind at id cookie verdict.Opened is_full) → asked kind t ≡ Some (record { id = id; cookie = cookie })
opened_asked t kind at id cookie is_full e a =
    let f = opened_is (link_of kind) kind cookie (entry_of id (issued t)) a.0.1 in
    let k = entry_found (IsKept t) id (issued t) f.entry f.is_found (kept t e) in
    ap (λ x. asked x t) f.kind_is ∙ k.is_asked ∙ ap (λ c. Some (record { id = id; cookie = c })) (sym f.cookie_is)
