-- A channel goes through a tunnel only where something was pulled from the tunnel's link.
use Rattle.std.proofs.Common.{◌≡◌, ◌⊎◌, inl, inr, ℕ, Bool, true, false, not, ◌&&◌, cond, List, [], ◌∷◌, ◌++◌, map, Option, Some, None, refl, sym, ap, subst, ◌∙◌}
use Rattle.std.specs.Option.{option_or}
use Rattle.mt_base.specs.Ends.{same_kind}
use Rattle.mt_base.specs.Prefix.{IsPickOf, none, taken, passed}
use Rattle.mt_base.specs.declared.kinds.Kind.{Kind}
use Rattle.mt_base.specs.declared.kinds.Kind.TheVariants.{Reliable, Lossy}
use Rattle.mt_base.specs.declared.kinds.Role.{Role}
use Rattle.mt_base.specs.declared.kinds.Role.TheVariants.{Server, Client}
use Rattle.mt_base.specs.Trace.{Trace, Start, ◌▷◌}
use Rattle.soft_sync.specs.declared.kinds.Kinds.{Kinds}
use Rattle.soft_sync.specs.declared.kinds.Path.TheVariants.{Tunnel}
use Rattle.soft_sync.specs.Exchanges.{Request, exchanges, has, if_among, kind_in, listed, moved}
use Rattle.mt_endpoint.specs.Acts.{Act, Answers, CreateAnswered, Drawn, Draws, Syncs}
use Rattle.mt_endpoint.specs.Alone.{EndOfActs, IsAct}
use Rattle.mt_endpoint.specs.Moving.{all_told, answer_made, answer_to, made_by, outward, read_by}
use Rattle.mt_endpoint.specs.Tunnels.{answer, answer_in, is_live, is_silent, is_zero, was_opened}
use Rattle.mt_endpoint.specs.World.{HasTunnel, drawn_in, draws}
use Rattle.mt_endpoint.proofs.AskedFor.{opened_for}
use Rattle.mt_endpoint.proofs.Late.{fitting}
use Rattle.mt_endpoint.proofs.Paths.{outward_is, path_said}
use Rattle.mt_endpoint.proofs.Ready.{EachIn, found_in, in-append}
use Rattle.mt_endpoint.proofs.Words.{moved-none}

-- something was pulled from the link of this kind
abbrev Drew : Kind → Trace Act → Type 0
Drew kind t = draws kind t ≡ [] → ⊥

first_empty : {A : Type 0} (xs ys : List A) → xs ++ ys ≡ [] → xs ≡ []
first_empty [] ys h = refl
first_empty (x ∷ xs) ys h = absurd (let bad : x ∷ (xs ++ ys) ≡ [] = h in cc)

second_empty : {A : Type 0} (xs ys : List A) → xs ++ ys ≡ [] → ys ≡ []
second_empty [] ys h = h
second_empty (x ∷ xs) ys h = absurd (let bad : x ∷ (xs ++ ys) ≡ [] = h in cc)

drew_later : (kind : Kind) (t : Trace Act) (act : Act) → Drew kind t → Drew kind (t ▷ act)
drew_later kind t act drew empty = drew (first_empty (draws kind t) (drawn_in kind act) empty)

-- ---- an open tunnel

drew_now : (kind : Kind) (act : Act) → is_zero (answer_in kind act) ≡ true → drawn_in kind act ≡ [] → ⊥
drew_now kind (Draws made at (CreateAnswered hr)) zero_is empty = by_test (same_kind kind made) zero_is empty where
  by_test : (b : Bool) → is_zero (cond b (Some hr) None) ≡ true → cond b (CreateAnswered hr ∷ []) [] ≡ [] → ⊥
  by_test true z e = let bad : CreateAnswered hr ∷ [] ≡ [] = e in cc
  by_test false z e = let bad : false ≡ true = z in cc
drew_now kind act zero_is empty = let bad : false ≡ true = zero_is in cc

zero_drew : (t : Trace Act) (kind : Kind) → is_zero (answer kind t) ≡ true → Drew kind t
zero_drew Start kind h empty = let bad : false ≡ true = h in cc
zero_drew (t ▷ act) kind h empty = by_answer t (answer kind t) refl h (λ old. zero_drew t kind old (first_empty (draws kind t) (drawn_in kind act) empty)) where
  by_answer : (u : Trace Act) (o : Option ℕ) → answer kind u ≡ o → is_zero (option_or o (answer_in kind act)) ≡ true → (is_zero (answer kind u) ≡ true → ⊥) → ⊥
  by_answer u None is z before = drew_now kind act z (second_empty (draws kind t) (drawn_in kind act) empty)
  by_answer u (Some hr) is z before = before (ap is_zero is ∙ z)

none_picked : (xs ys : List Drawn) → IsPickOf xs ys → (x : Drawn) → xs ≡ x ∷ [] → ys ≡ [] → ⊥
none_picked _ _ none x some empty = let bad : [] ≡ x ∷ [] = some in cc
none_picked _ _ (taken y xs ys p) x some empty = let bad : y ∷ ys ≡ [] = empty in cc
none_picked xs _ (passed y _ ys p) x some empty = let bad : y ∷ ys ≡ [] = empty in cc

opened_drew : (t : Trace Act) (kind : Kind) → EndOfActs Server t → was_opened kind t ≡ true → Drew kind t
opened_drew t kind e h empty = none_picked _ (draws kind t) (opened_for t kind e h).is_read _ refl empty

first_true : (b c : Bool) → b && c ≡ true → b ≡ true
first_true true c h = refl
first_true false c h = h

second_true : (b c : Bool) → b && c ≡ true → c ≡ true
second_true true c h = h
second_true false c h = absurd (let bad : false ≡ true = h in cc)

-- ---- what a server lists

either : (id : ℕ) (kind : Kind) (xs ys : List Request) → listed id (exchanges (xs ++ ys) []) ≡ Some kind → (listed id (exchanges xs []) ≡ Some kind) ⊎ (listed id (exchanges ys []) ≡ Some kind)
either id kind [] ys h = inr h
either id kind (x ∷ xs) ys h = by_kind (kind_in id x) h (either id kind xs ys) where
  by_kind : (o : Option Kind) → option_or o (listed id (exchanges (xs ++ ys) [])) ≡ Some kind → (listed id (exchanges (xs ++ ys) []) ≡ Some kind → (listed id (exchanges xs []) ≡ Some kind) ⊎ (listed id (exchanges ys []) ≡ Some kind))
      → (option_or o (listed id (exchanges xs [])) ≡ Some kind) ⊎ (listed id (exchanges ys []) ≡ Some kind)
  by_kind None h deeper = deeper h
  by_kind (Some made) h deeper = inl h

all_under : (t : Trace Act) (kind : Kind) (ids : List ℕ) → Drew kind t → EachIn (λ id made. Drew made t) (map (λ id. (id, kind)) ids)
all_under t kind [] drew = tt
all_under t kind (id ∷ ids) drew = (drew, all_under t kind ids drew)

under : (t : Trace Act) (kind : Kind) (ids : List ℕ) → EndOfActs Server t → HasTunnel t kind ids → EachIn (λ id made. Drew made t) (map (λ id. (id, kind)) ids)
under t kind [] e live = tt
under t kind (id ∷ ids) e live = all_under t kind (id ∷ ids) (opened_drew t kind e (first_true (was_opened kind t) (not (is_silent kind t)) live))

alone_in : (id : ℕ) (kind : Kind) (o : Option Kind) → option_or o None ≡ Some kind → o ≡ Some kind
alone_in id kind None h = h
alone_in id kind (Some made) h = h

listed_now : (t : Trace Act) (act : Act) (id : ℕ) (kind : Kind) → EndOfActs Server t → IsAct Server t act → listed id (exchanges (made_by act) []) ≡ Some kind → Drew kind t
listed_now t (Syncs reliable lossy) id kind e a h =
    let m = a.0.1 in
    found_in (λ id made. Drew made t) id kind (map (λ id. (id, Reliable)) reliable ++ map (λ id. (id, Lossy)) lossy) (alone_in id kind _ h)
    (in-append (λ id made. Drew made t) (map (λ id. (id, Reliable)) reliable) (map (λ id. (id, Lossy)) lossy) (under t Reliable reliable e m.reliable_is_open) (under t Lossy lossy e m.lossy_is_open))
listed_now t act id kind e a h = absurd (let bad : None ≡ Some kind = h in cc)

listed_drew : (t : Trace Act) (id : ℕ) (kind : Kind) → EndOfActs Server t → listed id (exchanges (all_told made_by t) []) ≡ Some kind → Drew kind t
listed_drew Start id kind e h = absurd (let bad : None ≡ Some kind = h in cc)
listed_drew (t ▷ act) id kind e h = by_part t act e (λ old. listed_drew t id kind e.2 old) (either id kind (all_told made_by t) (made_by act) h) where
  by_part : (t : Trace Act) (act : Act) → EndOfActs Server (t ▷ act) → (listed id (exchanges (all_told made_by t) []) ≡ Some kind → Drew kind t)
      → (listed id (exchanges (all_told made_by t) []) ≡ Some kind) ⊎ (listed id (exchanges (made_by act) []) ≡ Some kind) → Drew kind (t ▷ act)
  by_part t act e before (inl old) = drew_later kind t act (before old)
  by_part t act e before (inr now) = drew_later kind t act (listed_now t act id kind e.2 e.1 now)

-- ---- what a client names

abbrev EachNamed : (Kind → Type 0) → List Kinds → Type 0
EachNamed P [] = Unit {0}
EachNamed P (z ∷ zs) = ((kind : Kind) → has kind z ≡ true → P kind) × EachNamed P zs

named-append : (P : Kind → Type 0) (xs ys : List Kinds) → EachNamed P xs → EachNamed P ys → EachNamed P (xs ++ ys)
named-append P [] ys h k = k
named-append P (x ∷ xs) ys h k = (h.0, named-append P xs ys h.1 k)

named_later : (P Q : Kind → Type 0) → ((kind : Kind) → P kind → Q kind) → (zs : List Kinds) → EachNamed P zs → EachNamed Q zs
named_later P Q later [] h = tt
named_later P Q later (z ∷ zs) h = (λ kind k. later kind (h.0 kind k), named_later P Q later zs h.1)

found_named : (P : Kind → Type 0) (id : ℕ) (kind : Kind) (rs : List Request) (zs : List Kinds) → moved id (exchanges rs zs) ≡ Some kind → EachNamed P zs → P kind
found_named P id kind [] zs found h = absurd (let bad : None ≡ Some kind = found in cc)
found_named P id kind (r ∷ rs) [] found h = absurd (let bad : None ≡ Some kind = sym (moved-none id (r ∷ rs)) ∙ found in cc)
found_named P id kind (r ∷ rs) (z ∷ zs) found h = by_kind (kind_in id r) found (λ k. found_named P id kind rs zs k h.1) where
  by_test : (made : Kind) (b : Bool) → has made z ≡ b → option_or (cond b (Some made) None) (moved id (exchanges rs zs)) ≡ Some kind → (moved id (exchanges rs zs) ≡ Some kind → P kind) → P kind
  by_test made true e k deeper = let same : made ≡ kind = cc in subst P same (h.0 made e)
  by_test made false e k deeper = deeper k

  by_kind : (o : Option Kind) → option_or (if_among z o) (moved id (exchanges rs zs)) ≡ Some kind → (moved id (exchanges rs zs) ≡ Some kind → P kind) → P kind
  by_kind None k deeper = deeper k
  by_kind (Some made) k deeper = by_test made (has made z) refl k deeper

answer_drew : (t : Trace Act) (named : Kinds) (kind : Kind) → has kind (answer_to Client t named) ≡ true → Drew kind t
answer_drew t named Reliable h = zero_drew t Reliable (first_true (is_zero (answer Reliable t)) (not (is_silent Reliable t)) (second_true named.reliable (is_live Client Reliable t) h))
answer_drew t named Lossy h = zero_drew t Lossy (first_true (is_zero (answer Lossy t)) (not (is_silent Lossy t)) (second_true named.lossy (is_live Client Lossy t) h))

named_now : (t : Trace Act) (act : Act) → IsAct Client t act → EachNamed (λ kind. Drew kind t) (answer_made act)
named_now t (Answers named) a = (λ kind h. answer_drew t (a.request).named kind (sym (ap (has kind) a.is_answer) ∙ h), tt)
named_now t act a = tt

named_drew : (t : Trace Act) → EndOfActs Client t → EachNamed (λ kind. Drew kind t) (all_told answer_made t)
named_drew Start e = tt
named_drew (t ▷ act) e =
    named_later (λ kind. Drew kind t) (λ kind. Drew kind (t ▷ act)) (λ kind drew. drew_later kind t act drew) (all_told answer_made t ++ answer_made act)
    (named-append (λ kind. Drew kind t) (all_told answer_made t) (answer_made act) (named_drew t e.2) (named_now t act e.1))

-- ---- both

pub through_drew : (role : Role) (t : Trace Act) (id : ℕ) (kind : Kind) → EndOfActs role t → outward id t ≡ Tunnel kind → draws kind t ≡ [] → ⊥
through_drew Server t id kind e h = listed_drew t id kind e (path_said _ kind (sym (outward_is Server id t (fitting Server t e)) ∙ h))
through_drew Client t id kind e h = found_named (λ made. Drew made t) id kind (all_told read_by t) (all_told answer_made t) (path_said _ kind (sym (outward_is Client id t (fitting Client t e)) ∙ h)) (named_drew t e)
