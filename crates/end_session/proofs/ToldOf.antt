-- The channels that are told of, behind an act that makes one, or says of one whether it is open.
use Rattle.std.proofs.Common.{◌≡◌, ℕ, Bool, true, false, cond, ◌||◌, nat_eq, List, [], ◌∷◌, ◌++◌, Option, Some, None, is_some, IsSome, refl, sym, ap, ◌∙◌, eqb, eqb-true, eq-eqb, inl}
use Rattle.std.specs.Option.{unwrap_or}
use Rattle.std.specs.Map.{keys_of, lookup, set_value}
use Rattle.std.proofs.lemmas.Cmp.{nat_eq_equiv}
use Rattle.std.proofs.lemmas.Map.{lookup-set_value, keys-set_value}
use Rattle.mt_base.specs.declared.kinds.Role.{Role}
use Rattle.mt_base.specs.Trace.{Trace, ◌▷◌}
use Rattle.dvc_channels.specs.Acts.{ids}
use Rattle.soft_sync.specs.Words.{HasPlace, told}
use Rattle.mt_endpoint.specs.Acts.{Act}
use Rattle.mt_endpoint.specs.Channels.{is_open, table}
use Rattle.mt_endpoint.specs.Orders.{is_among}
use Rattle.mt_endpoint.proofs.Distinct.{other_way}
use Rattle.end_session.specs.Standing.{AreTold}

abbrev pub open_in : ℕ → List (ℕ × Bool) → Bool
open_in id es = unwrap_or (lookup (nat_eq id) es) false

-- it now says of this channel whether it is open
abbrev pub Says : Role → Trace Act → Act → ℕ → Bool → Type 0
Says role t act id b = (x : ℕ) → is_open role x (t ▷ act) ≡ cond (eqb id x) b (is_open role x t)

same_way : (a b : ℕ) (c : Bool) → eqb a b ≡ c → eqb b a ≡ c
same_way a b true h = eq-eqb b a (sym (eqb-true a b h))
same_way a b false h = other_way a b h

-- ---- a channel that was told of

pub some_at : (id : ℕ) (es : List (ℕ × Bool)) → is_among id (keys_of es) ≡ true → is_some (lookup (nat_eq id) es) ≡ true
some_at id [] h = h
some_at id ((k, b) ∷ es) h = by_test (eqb k id) refl h (some_at id es) where
  by_test : (c : Bool) → eqb k id ≡ c → c || is_among id (keys_of es) ≡ true → (is_among id (keys_of es) ≡ true → is_some (lookup (nat_eq id) es) ≡ true) → is_some (cond (eqb id k) (Some b) (lookup (nat_eq id) es)) ≡ true
  by_test true e r deeper = ap (λ c. is_some (cond c (Some b) (lookup (nat_eq id) es))) (same_way k id true e)
  by_test false e r deeper = ap (λ c. is_some (cond c (Some b) (lookup (nat_eq id) es))) (same_way k id false e) ∙ deeper r

pub some_is : (o : Option Bool) → is_some o ≡ true → IsSome o
some_is None h = absurd (let never : false ≡ true = h in cc)
some_is (Some b) h = refl

open_set : (id x : ℕ) (b : Bool) (es : List (ℕ × Bool)) → is_some (lookup (nat_eq id) es) ≡ true → open_in x (set_value (nat_eq id) es b) ≡ cond (eqb id x) b (open_in x es)
open_set id x b es h =
    ap (λ o. unwrap_or o false) (lookup-set_value nat_eq_equiv (nat_eq id) (nat_eq_equiv.congr id) x b es (some_is (lookup (nat_eq id) es) h)) ∙ by_test (eqb id x)
  where
    by_test : (c : Bool) → unwrap_or (cond c (Some b) (lookup (nat_eq x) es)) false ≡ cond c b (open_in x es)
    by_test true = refl
    by_test false = refl

pub told_again : (role : Role) (t : Trace Act) (act : Act) (id : ℕ) (b : Bool) (es : List (ℕ × Bool)) → AreTold role t es → is_among id (ids (table role t)) ≡ true
    → ids (table role (t ▷ act)) ≡ ids (table role t) → Says role t act id b → AreTold role (t ▷ act) (told id b es)
told_again role t act id b es a among same says =
    let some = some_at id es (ap (is_among id) a.ids_are ∙ among) in
    let is : told id b es ≡ set_value (nat_eq id) es b = ap (λ c. cond c (set_value (nat_eq id) es b) (es ++ (id, b) ∷ [])) some in record {
      ids_are = ap keys_of is ∙ keys-set_value (nat_eq id) es b ∙ a.ids_are ∙ sym same;
      open_are = λ x. ap (open_in x) is ∙ open_set id x b es some ∙ ap (cond (eqb id x) b) (a.open_are x) ∙ sym (says x);
    }

-- ---- a channel that is new

none_at : (id : ℕ) (es : List (ℕ × Bool)) → is_among id (keys_of es) ≡ false → lookup (nat_eq id) es ≡ None
none_at id [] h = refl
none_at id ((k, b) ∷ es) h = by_test (eqb k id) refl h (none_at id es) where
  by_test : (c : Bool) → eqb k id ≡ c → c || is_among id (keys_of es) ≡ false → (is_among id (keys_of es) ≡ false → lookup (nat_eq id) es ≡ None) → cond (eqb id k) (Some b) (lookup (nat_eq id) es) ≡ None
  by_test true e r deeper = absurd (let never : true ≡ false = r in cc)
  by_test false e r deeper = ap (λ c. cond c (Some b) (lookup (nat_eq id) es)) (other_way k id e) ∙ deeper r

keys_added : (id : ℕ) (b : Bool) (es : List (ℕ × Bool)) → keys_of (es ++ (id, b) ∷ []) ≡ keys_of es ++ id ∷ []
keys_added id b [] = refl
keys_added id b (e ∷ es) = ap (λ ks. e.0 ∷ ks) (keys_added id b es)

none_of : (o : Option Bool) (v : Bool) (c : Bool) → cond c (Some v) o ≡ None → (c ≡ false) × (o ≡ None)
none_of o v true h = absurd (let never : Some v ≡ None = h in cc)
none_of o v false h = (refl, h)

open_added : (id x : ℕ) (b : Bool) (es : List (ℕ × Bool)) → lookup (nat_eq id) es ≡ None → open_in x (es ++ (id, b) ∷ []) ≡ cond (eqb id x) b (open_in x es)
open_added id x b [] none = by_test (eqb id x) refl where
  by_test : (c : Bool) → eqb id x ≡ c → unwrap_or (cond (eqb x id) (Some b) None) false ≡ cond c b false
  by_test true e = ap (λ c. unwrap_or (cond c (Some b) None) false) (same_way id x true e)
  by_test false e = ap (λ c. unwrap_or (cond c (Some b) None) false) (same_way id x false e)
open_added id x b ((k, v) ∷ es) none = by_test (eqb x k) refl (none_of (lookup (nat_eq id) es) v (eqb id k) none) (open_added id x b es) where
  by_test : (c : Bool) → eqb x k ≡ c → (eqb id k ≡ false) × (lookup (nat_eq id) es ≡ None)
      → (lookup (nat_eq id) es ≡ None → open_in x (es ++ (id, b) ∷ []) ≡ cond (eqb id x) b (open_in x es))
      → unwrap_or (cond c (Some v) (lookup (nat_eq x) (es ++ (id, b) ∷ []))) false ≡ cond (eqb id x) b (unwrap_or (cond c (Some v) (lookup (nat_eq x) es)) false)
  by_test true e none deeper = sym (ap (λ c. cond c b v) (ap (eqb id) (eqb-true x k e) ∙ none.0))
  by_test false e none deeper = deeper none.1

pub told_new : (role : Role) (t : Trace Act) (act : Act) (id : ℕ) (b : Bool) (es : List (ℕ × Bool)) → AreTold role t es → is_among id (ids (table role t)) ≡ false
    → ids (table role (t ▷ act)) ≡ ids (table role t) ++ id ∷ [] → Says role t act id b → AreTold role (t ▷ act) (told id b es)
told_new role t act id b es a new more says =
    let none = none_at id es (ap (is_among id) a.ids_are ∙ new) in
    let is : told id b es ≡ es ++ (id, b) ∷ [] = ap (λ o. cond (is_some o) (set_value (nat_eq id) es b) (es ++ (id, b) ∷ [])) none in record {
      ids_are = ap keys_of is ∙ keys_added id b es ∙ ap (λ ks. ks ++ id ∷ []) a.ids_are ∙ sym more;
      open_are = λ x. ap (open_in x) is ∙ open_added id x b es none ∙ ap (cond (eqb id x) b) (a.open_are x) ∙ sym (says x);
    }

-- a channel that was told of has its place
pub has_place : (role : Role) (t : Trace Act) (id : ℕ) (es : List (ℕ × Bool)) → AreTold role t es → is_among id (ids (table role t)) ≡ true → HasPlace id es
has_place role t id es a among = inl (some_is (lookup (nat_eq id) es) (some_at id es (ap (is_among id) a.ids_are ∙ among)))
