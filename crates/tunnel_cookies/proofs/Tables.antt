-- Lemmas on tables of entries.
use Rattle.std.proofs.Common.{◌≡◌, ◌≢◌, inl, inr, ℕ, zero, suc, ◌≤◌, ◌+◌, Bool, true, false, cond, nat_eq, List, [], ◌∷◌, ◌++◌, length, take, drop, slice_get, Option, Some, None, refl, sym, ap, ◌∙◌, subst, arith}
use Rattle.std.specs.Map.{set_value}
use Rattle.std.proofs.lemmas.Bool.{cases_eq, eq-eqb, ne_eqb}
use Rattle.std.proofs.lemmas.List.{take_all}
use Rattle.std.proofs.lemmas.List.Elements.{All-append, All-cons, All-nil}
use Rattle.indexmap.specs.IndexMap.{insert_entry}
use Rattle.sha2.specs.Sha256.{sha256}
use Rattle.mt_base.specs.declared.kinds.Kind.{Kind}
use Rattle.tunnel_cookies.specs.declared.entry.Entry.{Entry}
use Rattle.tunnel_cookies.specs.declared.entry.Verdict.{Verdict}
use Rattle.tunnel_cookies.specs.declared.entry.Verdict.TheVariants.{Opened, Again, Unknown, WrongCookie, WrongKind, Spent}
use Rattle.tunnel_cookies.specs.Entries.{Entries, entry_of, unspent, spent_by, IsVerdict, unknown, wrong_cookie, wrong_kind, again, spent, opened, after, NoneHas, FirstHas, Step, Steps, done, issued, asked}

-- an id that has no entry gets one at the end
pub added : (id : ℕ) (e : Entry) (es : Entries) → entry_of id es ≡ None → insert_entry nat_eq es id e ≡ es ++ ((id, e) ∷ [])
added id e [] none = refl
added id e (x ∷ es) none = by (nat_eq id x.0) none (added id e es)
  where
    by : (b : Bool) → cond b (Some x.1) (entry_of id es) ≡ None → (entry_of id es ≡ None → insert_entry nat_eq es id e ≡ es ++ ((id, e) ∷ []))
        → cond b ((x.0, e) ∷ es) (x ∷ insert_entry nat_eq es id e) ≡ x ∷ (es ++ ((id, e) ∷ []))
    by true h others = cc
    by false h others = ap (λ t. x ∷ t) (others h)

-- no verdict but Opened changes the table
pub unchanged : (link id : ℕ) (v : Verdict) (e : Option Entry) (es : Entries) → v ≢ Opened → after link id v e es ≡ es
unchanged link id Opened e es h = absurd (h refl)
unchanged link id Again e es h = refl
unchanged link id Unknown e es h = refl
unchanged link id WrongCookie e es h = refl
unchanged link id WrongKind e es h = refl
unchanged link id (Spent other) e es h = refl

-- the entry of the id that was written, where it had one
written : (id : ℕ) (w e : Entry) (es : Entries) → entry_of id es ≡ Some e → entry_of id (set_value (nat_eq id) es w) ≡ Some w
written id w e [] h = cc
written id w e (x ∷ es) h = by (nat_eq id x.0) refl h (written id w e es)
  where
    by : (b : Bool) → nat_eq id x.0 ≡ b → cond b (Some x.1) (entry_of id es) ≡ Some e → (entry_of id es ≡ Some e → entry_of id (set_value (nat_eq id) es w) ≡ Some w)
        → entry_of id (cond b ((x.0, w) ∷ es) (x ∷ set_value (nat_eq id) es w)) ≡ Some w
    by true is h others = ap (λ b. cond b (Some w) (entry_of id es)) is
    by false is h others = ap (λ b. cond b (Some x.1) (entry_of id (set_value (nat_eq id) es w))) is ∙ others h

-- the entry of an id stays where another one is added
kept_added : (id other : ℕ) (e w : Entry) (es : Entries) → entry_of id es ≡ Some e → entry_of id (es ++ ((other, w) ∷ [])) ≡ Some e
kept_added id other e w [] h = cc
kept_added id other e w (x ∷ es) h = by (nat_eq id x.0) h (kept_added id other e w es)
  where
    by : (b : Bool) → cond b (Some x.1) (entry_of id es) ≡ Some e → (entry_of id es ≡ Some e → entry_of id (es ++ ((other, w) ∷ [])) ≡ Some e)
        → cond b (Some x.1) (entry_of id (es ++ ((other, w) ∷ []))) ≡ Some e
    by true h others = h
    by false h others = others h

-- writing what an entry was changes nothing
same_value : (id : ℕ) (e : Entry) (es : Entries) → entry_of id es ≡ Some e → set_value (nat_eq id) es e ≡ es
same_value id e [] h = refl
same_value id e (x ∷ es) h = by (nat_eq id x.0) h (same_value id e es)
  where
    by : (b : Bool) → cond b (Some x.1) (entry_of id es) ≡ Some e → (entry_of id es ≡ Some e → set_value (nat_eq id) es e ≡ es)
        → cond b ((x.0, e) ∷ es) (x ∷ set_value (nat_eq id) es e) ≡ x ∷ es
    by true h others = let f : x.1 ≡ e = cc in ap (λ y. (x.0, y) ∷ es) (sym f)
    by false h others = ap (λ t. x ∷ t) (others h)

pub open_changes : (link id : ℕ) (v : Verdict) (e : Entry) (es new : Entries) → entry_of id es ≡ Some e → v ≡ Opened → new ≡ set_value (nat_eq id) es (spent_by link e) → new ≡ after link id v (entry_of id es) es
open_changes link id v e es new some is writes = writes ∙ sym (ap (λ o. after link id Opened o es) some) ∙ sym (ap (λ u. after link id u (entry_of id es) es) is)

pub open_keeps : (link id : ℕ) (v result : Verdict) (e : Entry) (es new : Entries) → entry_of id es ≡ Some e → result ≡ v → v ≢ Opened → new ≡ set_value (nat_eq id) es e
    → new ≡ after link id result (entry_of id es) es
open_keeps link id v result e es new some is not writes =
    writes ∙ same_value id e es some ∙ sym (unchanged link id v (entry_of id es) es not) ∙ sym (ap (λ u. after link id u (entry_of id es) es) is)

-- ---- the first cookie with a hash

split : {A : Type 0} (k : ℕ) (es : List A) (x : A) → slice_get es k ≡ Some x → es ≡ take k es ++ (x ∷ drop (suc k) es)
split k [] x h = cc
split zero (y ∷ es) x h = let f : y ≡ x = cc in ap (λ z. z ∷ es) f
split (suc k) (y ∷ es) x h = ap (λ t. y ∷ t) (split k es x h)

take_more : {A : Type 0} (k : ℕ) (es : List A) (x : A) → slice_get es k ≡ Some x → take (suc k) es ≡ take k es ++ (x ∷ [])
take_more k [] x h = cc
take_more zero (y ∷ es) x h = let f : y ≡ x = cc in ap (λ z. z ∷ []) f
take_more (suc k) (y ∷ es) x h = ap (λ t. y ∷ t) (take_more k es x h)

pub first_at : (hash : List ℕ) (es : Entries) (k id : ℕ) (e : Entry) → slice_get es k ≡ Some (id, e) → NoneHas hash (take k es) → sha256 e.cookie ≡ hash → FirstHas hash es id
first_at hash es k id e is none has = record {
  before = take k es;
  entry = e;
  rest = drop (suc k) es;
  entries_are = split k es (id, e) is;
  has = has;
  none_before = none;
}

pub none_more : (hash : List ℕ) (es : Entries) (k id : ℕ) (e : Entry) → slice_get es k ≡ Some (id, e) → NoneHas hash (take k es) → sha256 e.cookie ≢ hash → NoneHas hash (take (k + 1) es)
none_more hash es k id e is none not =
    let step : k + 1 ≡ suc k = omega arith in
    let lacks = λ (x : ℕ × Entry). sha256 (x.1).cookie ≢ hash in
    subst (NoneHas hash) (sym (ap (λ n. take n es) step ∙ take_more k es (id, e) is))
    (All-append lacks (take k es) ((id, e) ∷ []) none (All-cons lacks (id, e) [] not (All-nil lacks)))

pub none_all : (hash : List ℕ) (es : Entries) (k : ℕ) → length es ≤ k → NoneHas hash (take k es) → NoneHas hash es
none_all hash es k h none = subst (NoneHas hash) (take_all k es h) none

-- ---- an entry that is spent stays so

-- the id has an entry that this link spent
pub record IsSpent (link id : ℕ) (es : Entries) : Type 0 where
  pub entry : Entry
  pub is : entry_of id es ≡ Some entry
  pub by_link : entry.spender ≡ Some link

other_kept : (id other : ℕ) (w : Entry) (es : Entries) → id ≢ other → entry_of id (set_value (nat_eq other) es w) ≡ entry_of id es
other_kept id other w [] n = refl
other_kept id other w (x ∷ es) n = elim (cases_eq other x.0) [
  | inl e ↦ rw (eq-eqb other x.0 e, ne_eqb id x.0 (λ h. n (h ∙ sym e))) refl
  | inr m ↦ rw (ne_eqb other x.0 m) (ap (λ t. cond (nat_eq id x.0) (Some x.1) t) (other_kept id other w es n))
]

spent_differs : (a id other : ℕ) (f : Entry) (es : Entries) → IsSpent a id es → entry_of other es ≡ Some f → f.spender ≡ None → id ≢ other
spent_differs a id other f es s is none same =
    let both : entry_of id es ≡ Some f = ap (λ n. entry_of n es) same ∙ is in
    clash s.entry f (sym s.is ∙ both) s.by_link none
  where
    clash : (e f : Entry) → Some e ≡ Some f → e.spender ≡ Some a → f.spender ≡ None → ⊥
    clash e f h p q = let same : e ≡ f = cc in let both : Some a ≡ None = sym p ∙ ap (λ (x : Entry). x.spender) same ∙ q in cc

asked_kept : (a id link : ℕ) (kind : Kind) (other : ℕ) (cookie : List ℕ) (es : Entries) (o : Option Entry) (v : Verdict) → IsSpent a id es → entry_of other es ≡ o → IsVerdict link kind cookie o v
    → IsSpent a id (after link other v o es)
asked_kept a id link kind other cookie es _ _ s is unknown = s
asked_kept a id link kind other cookie es _ _ s is (wrong_cookie f h) = s
asked_kept a id link kind other cookie es _ _ s is (wrong_kind f h k) = s
asked_kept a id link kind other cookie es _ _ s is (again f h k l) = s
asked_kept a id link kind other cookie es _ _ s is (spent f l h k m n) = s
asked_kept a id link kind other cookie es _ _ s is (opened f h k none) = record {
  entry = s.entry;
  is = other_kept id other (spent_by link f) es (spent_differs a id other f es s is none) ∙ s.is;
  by_link = s.by_link;
}

pub steps_kept : (a id : ℕ) (es last : Entries) (steps : List Step) → Steps es steps last → IsSpent a id es → IsSpent a id last
steps_kept a id _ _ _ (done es) s = s
steps_kept a id _ _ _ (issued es last other kind cookie steps none rest) s =
    steps_kept a id (es ++ ((other, unspent kind cookie) ∷ [])) last steps rest (record { entry = s.entry; is = kept_added id other s.entry (unspent kind cookie) es s.is; by_link = s.by_link })
steps_kept a id _ _ _ (asked es last link kind other cookie v steps verdict rest) s =
    steps_kept a id (after link other v (entry_of other es) es) last steps rest (asked_kept a id link kind other cookie es (entry_of other es) v s refl verdict)

-- the entry that opened a tunnel is spent
pub opened_spends : (a id : ℕ) (kind : Kind) (cookie : List ℕ) (es : Entries) (o : Option Entry) (v : Verdict) → entry_of id es ≡ o → IsVerdict a kind cookie o v → v ≡ Opened → IsSpent a id (after a id v o es)
opened_spends a id kind cookie es _ _ is unknown h = cc
opened_spends a id kind cookie es _ _ is (wrong_cookie f c) h = cc
opened_spends a id kind cookie es _ _ is (wrong_kind f c k) h = cc
opened_spends a id kind cookie es _ _ is (again f c k l) h = cc
opened_spends a id kind cookie es _ _ is (spent f l c k m n) h = cc
opened_spends a id kind cookie es _ _ is (opened f c k none) h = record { entry = spent_by a f; is = written id (spent_by a f) f es is; by_link = refl }

-- what a link is told of a spent entry
pub told_spent : (a b : ℕ) (kind : Kind) (text : List ℕ) (e : Entry) (o : Option Entry) (v : Verdict) → e.spender ≡ Some a → o ≡ Some e → IsVerdict b kind text o v → (v ≢ Opened) × (v ≡ Again → b ≡ a)
told_spent a b kind text e _ _ by_link is unknown = (λ h. cc, λ h. cc)
told_spent a b kind text e _ _ by_link is (wrong_cookie f c) = (λ h. cc, λ h. cc)
told_spent a b kind text e _ _ by_link is (wrong_kind f c k) = (λ h. cc, λ h. cc)
told_spent a b kind text e _ _ by_link is (again f c k l) = (λ h. cc, λ h. same f e is l by_link)
  where
    same : (f d : Entry) → Some f ≡ Some d → f.spender ≡ Some b → d.spender ≡ Some a → b ≡ a
    same f d h l m = let g : f ≡ d = cc in let both : Some b ≡ Some a = sym l ∙ ap (λ (x : Entry). x.spender) g ∙ m in cc
told_spent a b kind text e _ _ by_link is (spent f l c k m n) = (λ h. cc, λ h. cc)
told_spent a b kind text e _ _ by_link is (opened f c k none) = absurd (clash f e is none by_link)
  where
    clash : (f e : Entry) → Some f ≡ Some e → f.spender ≡ None → e.spender ≡ Some a → ⊥
    clash f e h p q = let g : f ≡ e = cc in let both : None ≡ Some a = sym p ∙ ap (λ (x : Entry). x.spender) g ∙ q in cc

-- an entry opens one link
pub opens_one : (before last : Entries) (steps : List Step) (a b id : ℕ) (kind other : Kind) (cookie text : List ℕ) (v : Verdict) → IsVerdict a kind cookie (entry_of id before) Opened
    → Steps (after a id Opened (entry_of id before) before) steps last → IsVerdict b other text (entry_of id last) v → (v ≢ Opened) × (v ≡ Again → b ≡ a)
opens_one before last steps a b id kind other cookie text v first run then =
    let s = steps_kept a id (after a id Opened (entry_of id before) before) last steps run (opened_spends a id kind cookie before (entry_of id before) Opened refl first refl) in
    told_spent a b other text s.entry (entry_of id last) v s.by_link s.is then

-- ---- a verdict is one

-- what a verdict says of an entry
abbrev Says : ℕ → Kind → List ℕ → Entry → Verdict → Type 0
Says link kind cookie e Unknown = ⊥
Says link kind cookie e WrongCookie = cookie ≢ e.cookie
Says link kind cookie e WrongKind = (cookie ≡ e.cookie) × (kind ≢ e.kind)
Says link kind cookie e Again = (cookie ≡ e.cookie) × (kind ≡ e.kind) × (e.spender ≡ Some link)
Says link kind cookie e (Spent other) = (cookie ≡ e.cookie) × (kind ≡ e.kind) × (e.spender ≡ Some other) × (other ≢ link)
Says link kind cookie e Opened = (cookie ≡ e.cookie) × (kind ≡ e.kind) × (e.spender ≡ None)

abbrev SaysOf : ℕ → Kind → List ℕ → Option Entry → Verdict → Type 0
SaysOf link kind cookie None v = v ≡ Unknown
SaysOf link kind cookie (Some e) v = Says link kind cookie e v

says : (link : ℕ) (kind : Kind) (cookie : List ℕ) (o : Option Entry) (v : Verdict) → IsVerdict link kind cookie o v → SaysOf link kind cookie o v
says link kind cookie _ _ unknown = refl
says link kind cookie _ _ (wrong_cookie e c) = c
says link kind cookie _ _ (wrong_kind e c k) = (c, k)
says link kind cookie _ _ (again e c k l) = (c, k, l)
says link kind cookie _ _ (spent e other c k l n) = (c, k, l, n)
says link kind cookie _ _ (opened e c k l) = (c, k, l)

one_spender : {a b : ℕ} {o : Option ℕ} → o ≡ Some a → o ≡ Some b → a ≡ b
one_spender {a} {b} p q = let both : Some a ≡ Some b = sym p ∙ q in cc

no_spender : {P : Type 0} {a : ℕ} {o : Option ℕ} → o ≡ Some a → o ≡ None → P
no_spender {a = a} p q = absurd (let both : Some a ≡ None = sym p ∙ q in cc)

one_says : (link : ℕ) (kind : Kind) (cookie : List ℕ) (e : Entry) (v w : Verdict) → Says link kind cookie e v → Says link kind cookie e w → v ≡ w
one_says link kind cookie e Unknown Unknown s t = absurd s
one_says link kind cookie e Unknown WrongCookie s t = absurd s
one_says link kind cookie e Unknown WrongKind s t = absurd s
one_says link kind cookie e Unknown Again s t = absurd s
one_says link kind cookie e Unknown (Spent y) s t = absurd s
one_says link kind cookie e Unknown Opened s t = absurd s
one_says link kind cookie e WrongCookie Unknown s t = absurd t
one_says link kind cookie e WrongCookie WrongCookie s t = refl
one_says link kind cookie e WrongCookie WrongKind s t = absurd (s t.0)
one_says link kind cookie e WrongCookie Again s t = absurd (s t.0)
one_says link kind cookie e WrongCookie (Spent y) s t = absurd (s t.0)
one_says link kind cookie e WrongCookie Opened s t = absurd (s t.0)
one_says link kind cookie e WrongKind Unknown s t = absurd t
one_says link kind cookie e WrongKind WrongCookie s t = absurd (t s.0)
one_says link kind cookie e WrongKind WrongKind s t = refl
one_says link kind cookie e WrongKind Again s t = absurd (s.1 t.1)
one_says link kind cookie e WrongKind (Spent y) s t = absurd (s.1 t.1)
one_says link kind cookie e WrongKind Opened s t = absurd (s.1 t.1)
one_says link kind cookie e Again Unknown s t = absurd t
one_says link kind cookie e Again WrongCookie s t = absurd (t s.0)
one_says link kind cookie e Again WrongKind s t = absurd (t.1 s.1)
one_says link kind cookie e Again Again s t = refl
one_says link kind cookie e Again (Spent y) s t = absurd (t.3 (one_spender t.2 s.2))
one_says link kind cookie e Again Opened s t = no_spender s.2 t.2
one_says link kind cookie e (Spent x) Unknown s t = absurd t
one_says link kind cookie e (Spent x) WrongCookie s t = absurd (t s.0)
one_says link kind cookie e (Spent x) WrongKind s t = absurd (t.1 s.1)
one_says link kind cookie e (Spent x) Again s t = absurd (s.3 (one_spender s.2 t.2))
one_says link kind cookie e (Spent x) (Spent y) s t = ap Spent (one_spender s.2 t.2)
one_says link kind cookie e (Spent x) Opened s t = no_spender s.2 t.2
one_says link kind cookie e Opened Unknown s t = absurd t
one_says link kind cookie e Opened WrongCookie s t = absurd (t s.0)
one_says link kind cookie e Opened WrongKind s t = absurd (t.1 s.1)
one_says link kind cookie e Opened Again s t = no_spender t.2 s.2
one_says link kind cookie e Opened (Spent y) s t = no_spender t.2 s.2
one_says link kind cookie e Opened Opened s t = refl

pub one_verdict : (link : ℕ) (kind : Kind) (cookie : List ℕ) (o : Option Entry) (v w : Verdict) → IsVerdict link kind cookie o v → IsVerdict link kind cookie o w → v ≡ w
one_verdict link kind cookie None v w a b = says link kind cookie None v a ∙ sym (says link kind cookie None w b)
one_verdict link kind cookie (Some e) v w a b = one_says link kind cookie e v w (says link kind cookie (Some e) v a) (says link kind cookie (Some e) w b)
