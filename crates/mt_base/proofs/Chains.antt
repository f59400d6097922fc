-- Parts of a layout that are read one after the other: each has fields, is read where these stand,
-- is cut short in one of them, and does either at any bytes. Parts compose.
use Rattle.std.proofs.Common.{◌≡◌, ◌⊎◌, inl, inr, ℕ, ◌+◌, ◌<◌, Bool, true, false, List, [], ◌∷◌, ◌++◌, length, Option, Some, None, Result, Ok, Err, refl, sym, ap, ◌∙◌, subst, arith, append_assoc, append-nil, length-append}
use Rattle.std.specs.Option.{is_some, IfSome}
use Rattle.std.proofs.lemmas.Bool.{true≢false, false≢true}
use Rattle.mt_base.specs.declared.errors.Short.{Short}
use Rattle.mt_base.specs.Reading.{Left}
use Rattle.mt_base.specs.Writing.{joined}
use Rattle.mt_base.specs.Parts.{◌>>=◌, Cut, where_set, where_some}
use Rattle.mt_base.proofs.Lists.{heads}
use Rattle.mt_base.proofs.Fill.{joined-append}
use Rattle.mt_base.proofs.Numbers.{IsBytes}
use Rattle.mt_base.proofs.FrontFields.{left_at}
use Rattle.mt_base.proofs.Fields.{Field, Refuses, CutShort, Begins}

-- ---- where a list of fields is cut

pub data Split (xs ys front : List (List ℕ)) (field : List ℕ) (behind : List (List ℕ)) : Type 0 where
  in_first : (between : List (List ℕ)) → xs ≡ front ++ (field ∷ between) → Split xs ys front field behind
  in_second : (between : List (List ℕ)) → front ≡ xs ++ between → ys ≡ between ++ (field ∷ behind) → Split xs ys front field behind

both : {X : Type 0} (x y : X) (xs ys : List X) → x ≡ y → xs ≡ ys → x ∷ xs ≡ y ∷ ys
both x y xs ys e h = cc

pub split : (xs ys front : List (List ℕ)) (field : List ℕ) (behind : List (List ℕ)) → xs ++ ys ≡ front ++ (field ∷ behind) → Split xs ys front field behind
split [] ys front field behind is = in_second front refl is
split (x ∷ xs) ys [] field behind is = in_first xs (ap (λ f. f ∷ xs) (heads x field (xs ++ ys) behind is).0)
split (x ∷ xs) ys (g ∷ front) field behind is =
    let same = heads x g (xs ++ ys) (front ++ (field ∷ behind)) is in
    elim (split xs ys front field behind same.1) [
      | in_first between e ↦ in_first between (both x g xs (front ++ (field ∷ between)) same.0 e)
      | in_second between e h ↦ in_second between (both g x front (xs ++ between) (sym same.0) e) h
    ]

-- nothing is cut in no fields
none_cut : {P : Type 0} (front : List (List ℕ)) (field : List ℕ) (behind : List (List ℕ)) → [] ≡ front ++ (field ∷ behind) → P
none_cut [] field behind e = cc
none_cut (g ∷ front) field behind e = cc

-- what is cut in one field
pub only_cut : (f : List ℕ) (front : List (List ℕ)) (field : List ℕ) (behind : List (List ℕ)) → f ∷ [] ≡ front ++ (field ∷ behind) → (front ≡ []) × (f ≡ field)
only_cut f [] field behind e = (refl, (heads f field [] behind e).0)
only_cut f (g ∷ front) field behind e = none_cut front field behind (heads f g [] (front ++ (field ∷ behind)) e).1

-- ---- a part

pub data Decided {A E : Type 0} (wrap : Short → E) (fields : A → List (List ℕ)) (Good : A → Type 0) (at : ℕ) (bytes : List ℕ) : Type 0 where
  begins : (x : A) (rest : List ℕ) → Good x → bytes ≡ joined (fields x) ++ rest → IsBytes rest → Decided wrap fields Good at bytes
  cut_short : (x : A) (r : E) → Good x → Cut wrap (fields x) at bytes r → Decided wrap fields Good at bytes

pub record Part {A E : Type 0} (wrap : Short → E) (read : Left → Result (A × Left) E) (fields : A → List (List ℕ)) (Good : A → Type 0) : Type 0 where
  pub reads : (x : A) → Good x → (at : ℕ) (rest : List ℕ) → read (left_at at (joined (fields x) ++ rest)) ≡ Ok (x, left_at (at + length (joined (fields x))) rest)
  pub cuts : (x : A) → Good x → (at : ℕ) (bytes : List ℕ) (r : E) → Cut wrap (fields x) at bytes r → read (left_at at bytes) ≡ Err r
  pub some : A
  pub some_good : Good some
  pub decides : (at : ℕ) (bytes : List ℕ) → IsBytes bytes → Decided wrap fields Good at bytes

-- one field of n bytes
pub one_part : {A E : Type 0} {wrap : Short → E} (read : Left → Result (A × Left) E) (n : ℕ) (spelling : A → List ℕ) (Good : A → Type 0) → Field read spelling Good → Refuses read (CutShort wrap n)
    → ((bytes : List ℕ) → IsBytes bytes → (length bytes < n) ⊎ Begins spelling Good bytes) → ((x : A) → Good x → length (spelling x) ≡ n) → (x : A) → Good x
    → Part wrap read (λ x. spelling x ∷ []) Good
one_part {A} {E} {wrap} read n spelling Good law refuses or long some good = record {
  reads = λ x g at rest.
      let whole : joined (spelling x ∷ []) ++ rest ≡ spelling x ++ rest = ap (λ t. t ++ rest) (append-nil (spelling x)) in
      law.again x (spelling x) (g, refl) (left_at at (joined (spelling x ∷ []) ++ rest)) rest whole
      ∙ ap (λ t. Ok (x, left_at (at + length t) rest)) (sym (append-nil (spelling x)));
  cuts = λ x g at bytes r c.
      let only = only_cut (spelling x) c.front c.field c.behind c.fields_are in
      let need : length c.field ≡ n = ap length (sym only.1) ∙ long x g in
      let whole : bytes ≡ c.rest = c.bytes_are ∙ ap (λ t. joined t ++ c.rest) only.0 in
      let few : length bytes < n = omega (arith, ap length whole, c.few) in
      let place : at + length (joined c.front) ≡ at = ap (λ t. at + length (joined t)) only.0 ∙ (let e : at + 0 ≡ at = omega arith in e) in
      refuses.answer (left_at at bytes) r (few, c.refusal_is ∙ ap (λ m. wrap (record { at = m; need = length c.field })) place ∙ ap (λ m. wrap (record { at = at; need = m })) need);
  some = some;
  some_good = good;
  decides = λ at bytes good_bytes. elim (or bytes good_bytes) [
    | inr b ↦ begins b.value b.rest b.good (b.bytes_are ∙ ap (λ t. t ++ b.rest) (sym (append-nil (spelling b.value)))) b.bytes_behind
    | inl few ↦ cut_short some (wrap (record { at = at; need = n })) good (record {
      front = [];
      field = spelling some;
      behind = [];
      rest = bytes;
      fields_are = refl;
      bytes_are = refl;
      few = omega (arith, few, long some good);
      refusal_is = ap (λ m. wrap (record { at = at; need = m })) (sym (long some good)) ∙ ap (λ m. wrap (record { at = m; need = length (spelling some) })) (omega arith);
    })
  ];
}

-- a cut in the first of two lists of fields is one in both
pub cut_before : {E : Type 0} {wrap : Short → E} (xs ys : List (List ℕ)) (at : ℕ) (bytes : List ℕ) (r : E) → Cut wrap xs at bytes r → Cut wrap (xs ++ ys) at bytes r
cut_before {E} {wrap} xs ys at bytes r c = record {
  front = c.front;
  field = c.field;
  behind = c.behind ++ ys;
  rest = c.rest;
  fields_are = ap (λ t. t ++ ys) c.fields_are ∙ append_assoc c.front (c.field ∷ c.behind) ys;
  bytes_are = c.bytes_are;
  few = c.few;
  refusal_is = c.refusal_is;
}

-- and so is a cut in the second, where the first stand before it
pub cut_behind : {E : Type 0} {wrap : Short → E} (xs ys : List (List ℕ)) (at : ℕ) (bytes rest : List ℕ) (r : E) → bytes ≡ joined xs ++ rest → Cut wrap ys (at + length (joined xs)) rest r → Cut wrap (xs ++ ys) at bytes r
cut_behind {E} {wrap} xs ys at bytes rest r is c = record {
  front = xs ++ c.front;
  field = c.field;
  behind = c.behind;
  rest = c.rest;
  fields_are = ap (λ t. xs ++ t) c.fields_are ∙ sym (append_assoc xs c.front (c.field ∷ c.behind));
  bytes_are = is ∙ ap (λ t. joined xs ++ t) c.bytes_are ∙ sym (append_assoc (joined xs) (joined c.front) c.rest) ∙ ap (λ t. t ++ c.rest) (sym (joined-append xs c.front));
  few = c.few;
  refusal_is = c.refusal_is ∙ ap (λ m. wrap (record { at = m; need = length c.field })) (omega (arith, ap length (joined-append xs c.front), length-append (joined xs) (joined c.front)));
}

-- a cut of two lists, where the first stand whole
pub cut_second : {E : Type 0} {wrap : Short → E} (xs ys between : List (List ℕ)) (at : ℕ) (bytes : List ℕ) (r : E) (c : Cut wrap (xs ++ ys) at bytes r) → c.front ≡ xs ++ between → ys ≡ between ++ (c.field ∷ c.behind)
    → (bytes ≡ joined xs ++ (joined between ++ c.rest)) × Cut wrap ys (at + length (joined xs)) (joined between ++ c.rest) r
cut_second {E} {wrap} xs ys between at bytes r c front is = (
  c.bytes_are ∙ ap (λ t. joined t ++ c.rest) front ∙ ap (λ t. t ++ c.rest) (joined-append xs between) ∙ append_assoc (joined xs) (joined between) c.rest,
  record {
    front = between;
    field = c.field;
    behind = c.behind;
    rest = c.rest;
    fields_are = is;
    bytes_are = refl;
    few = c.few;
    refusal_is = c.refusal_is ∙ ap (λ m. wrap (record { at = m; need = length c.field })) (omega (arith, ap (λ t. length (joined t)) front, ap length (joined-append xs between), length-append (joined xs) (joined between)));
  },
)

-- a part, and what is read behind it
pub then_part : {A Y E : Type 0} {wrap : Short → E} {ra : Left → Result (A × Left) E} {fa : A → List (List ℕ)} {Ga : A → Type 0} {rb : A → Left → Result (Y × Left) E} {fb : A → Y → List (List ℕ)} {Gb : A → Y → Type 0}
    → (first : Y → A) → Part wrap ra fa Ga → ((a : A) → Ga a → Part wrap (rb a) (fb a) (Gb a)) → ((a : A) (y : Y) → Ga a → Gb a y → first y ≡ a)
    → Part wrap (λ s. ra s >>= λ x. rb x.0 x.1) (λ y. fa (first y) ++ fb (first y) y) (λ y. Ga (first y) × Gb (first y) y)
then_part {A} {Y} {E} {wrap} {ra} {fa} {Ga} {rb} {fb} {Gb} first pa pb same = record {
  reads = λ y good at rest.
      let a = first y in
      let whole : joined (fa a ++ fb a y) ++ rest ≡ joined (fa a) ++ (joined (fb a y) ++ rest) = ap (λ t. t ++ rest) (joined-append (fa a) (fb a y)) ∙ append_assoc (joined (fa a)) (joined (fb a y)) rest in
      let place : at + length (joined (fa a)) + length (joined (fb a y)) ≡ at + length (joined (fa a ++ fb a y)) = omega (arith, ap length (joined-append (fa a) (fb a y)), length-append (joined (fa a)) (joined (fb a y))) in
      ap (λ t. ra (left_at at t) >>= next) whole ∙ ap (λ q. q >>= next) (pa.reads a good.0 at (joined (fb a y) ++ rest))
      ∙ (pb a good.0).reads y good.1 (at + length (joined (fa a))) rest ∙ ap (λ n. Ok (y, left_at n rest)) place;
  cuts = λ y good at bytes r c. elim (split (fa (first y)) (fb (first y) y) c.front c.field c.behind c.fields_are) [
    | in_first between e ↦ ap (λ q. q >>= next) (pa.cuts (first y) good.0 at bytes r (record { front = c.front; field = c.field; behind = between; rest = c.rest; fields_are = e; bytes_are = c.bytes_are; few = c.few; refusal_is = c.refusal_is }))
    | in_second between e h ↦
        (let a = first y in
        let second = cut_second (fa a) (fb a y) between at bytes r c e h in
        ap (λ t. ra (left_at at t) >>= next) second.0 ∙ ap (λ q. q >>= next) (pa.reads a good.0 at (joined between ++ c.rest))
        ∙ (pb a good.0).cuts y good.1 (at + length (joined (fa a))) (joined between ++ c.rest) r second.1)
  ];
  some = (pb pa.some pa.some_good).some;
  some_good = back pa.some (pb pa.some pa.some_good).some pa.some_good (pb pa.some pa.some_good).some_good;
  decides = λ at bytes good. elim (pa.decides at bytes good) [
    | cut_short a r ga c ↦
        (let y = (pb a ga).some in
        let gb = (pb a ga).some_good in
        cut_short y r (back a y ga gb) (subst (λ b. Cut wrap (fa b ++ fb b y) at bytes r) (sym (same a y ga gb)) (cut_before (fa a) (fb a y) at bytes r c)))
    | begins a rest ga is behind ↦ elim ((pb a ga).decides (at + length (joined (fa a))) rest behind) [
      | begins y others gb then_is after ↦ begins y others (back a y ga gb)
          (subst (λ b. bytes ≡ joined (fa b ++ fb b y) ++ others) (sym (same a y ga gb))
          (is ∙ ap (λ t. joined (fa a) ++ t) then_is ∙ sym (append_assoc (joined (fa a)) (joined (fb a y)) others) ∙ ap (λ t. t ++ others) (sym (joined-append (fa a) (fb a y))))) after
      | cut_short y r gb c ↦ cut_short y r (back a y ga gb) (subst (λ b. Cut wrap (fa b ++ fb b y) at bytes r) (sym (same a y ga gb)) (cut_behind (fa a) (fb a y) at bytes rest r is c))
    ]
  ];
}
  where
    next : A × Left → Result (Y × Left) E
    next x = rb x.0 x.1

    back : (a : A) (y : Y) → Ga a → Gb a y → Ga (first y) × Gb (first y) y
    back a y ga gb = subst (λ b. Ga b × Gb b y) (sym (same a y ga gb)) (ga, gb)

-- the last part, of which a value is made
pub made_part : {A Y E : Type 0} {wrap : Short → E} {read : Left → Result (A × Left) E} {fields : A → List (List ℕ)} {Good : A → Type 0} (last : Y → A) (make : A → Y) → ((a : A) → last (make a) ≡ a) → Part wrap read fields Good
    → Part wrap (λ s. read s >>= λ x. Ok (make x.0, x.1)) (λ y. fields (last y)) (λ y. Good (last y) × (y ≡ make (last y)))
made_part {A} {Y} {E} {wrap} {read} {fields} {Good} last make same part = record {
  reads = λ y good at rest. ap (λ q. q >>= next) (part.reads (last y) good.0 at rest) ∙ ap (λ z. Ok (z, left_at (at + length (joined (fields (last y)))) rest)) (sym good.1);
  cuts = λ y good at bytes r c. ap (λ q. q >>= next) (part.cuts (last y) good.0 at bytes r c);
  some = make part.some;
  some_good = back part.some part.some_good;
  decides = λ at bytes good. elim (part.decides at bytes good) [
    | begins a rest ga is behind ↦ begins (make a) rest (back a ga) (is ∙ ap (λ b. joined (fields b) ++ rest) (sym (same a))) behind
    | cut_short a r ga c ↦ cut_short (make a) r (back a ga) (subst (λ b. Cut wrap (fields b) at bytes r) (sym (same a)) c)
  ];
}
  where
    next : A × Left → Result (Y × Left) E
    next x = Ok (make x.0, x.1)

    back : (a : A) → Good a → Good (last (make a)) × (make a ≡ make (last (make a)))
    back a ga = (subst Good (sym (same a)) ga, ap make (sym (same a)))

-- the same part in other words
pub as_part : {A E : Type 0} {wrap : Short → E} {read : Left → Result (A × Left) E} {fields : A → List (List ℕ)} {Good : A → Type 0} (Fine : A → Type 0) → ((x : A) → Fine x → Good x) → ((x : A) → Good x → Fine x)
    → Part wrap read fields Good → Part wrap read fields Fine
as_part Fine good fine part = record {
  reads = λ x f. part.reads x (good x f);
  cuts = λ x f. part.cuts x (good x f);
  some = part.some;
  some_good = fine part.some part.some_good;
  decides = λ at bytes b. elim (part.decides at bytes b) [
    | begins x rest g is behind ↦ begins x rest (fine x g) is behind
    | cut_short x r g c ↦ cut_short x r (fine x g) c
  ];
}

-- a value that is there exactly where something is so, and keeps its rules
abbrev pub IsWhere : {A : Type 0} → Bool → (A → Type 0) → Option A → Type 0
IsWhere there Good o = (is_some o ≡ there) × IfSome o Good

-- a part that is there or not
pub where_part : {A E : Type 0} {wrap : Short → E} {read : Left → Result (A × Left) E} {fields : A → List (List ℕ)} {Good : A → Type 0} → (there : Bool) → Part wrap read fields Good
    → Part wrap (λ s. where_set there read s) (where_some fields) (IsWhere there Good)
where_part {A} {E} {wrap} {read} {fields} {Good} false part = record {
  reads = reads_none;
  cuts = cuts_none;
  some = None;
  some_good = (refl, tt);
  decides = λ at bytes good. begins None bytes (refl, tt) refl good;
}
  where
    reads_none : (o : Option A) → IsWhere false Good o → (at : ℕ) (rest : List ℕ) → where_set false read (left_at at (joined (where_some fields o) ++ rest)) ≡ Ok (o, left_at (at + length (joined (where_some fields o))) rest)
    reads_none None good at rest = ap (λ n. Ok (None, left_at n rest)) (let e : at ≡ at + 0 = omega arith in e)
    reads_none (Some x) good at rest = absurd (true≢false good.0)

    cuts_none : (o : Option A) → IsWhere false Good o → (at : ℕ) (bytes : List ℕ) (r : E) → Cut wrap (where_some fields o) at bytes r → where_set false read (left_at at bytes) ≡ Err r
    cuts_none None good at bytes r c = none_cut c.front c.field c.behind c.fields_are
    cuts_none (Some x) good at bytes r c = absurd (true≢false good.0)
where_part {A} {E} {wrap} {read} {fields} {Good} true part = record {
  reads = reads_some;
  cuts = cuts_some;
  some = Some part.some;
  some_good = (refl, part.some_good);
  decides = λ at bytes good. elim (part.decides at bytes good) [
    | begins x rest g is behind ↦ begins (Some x) rest (refl, g) is behind
    | cut_short x r g c ↦ cut_short (Some x) r (refl, g) c
  ];
}
  where
    next : A × Left → Result (Option A × Left) E
    next x = Ok (Some x.0, x.1)

    reads_some : (o : Option A) → IsWhere true Good o → (at : ℕ) (rest : List ℕ) → where_set true read (left_at at (joined (where_some fields o) ++ rest)) ≡ Ok (o, left_at (at + length (joined (where_some fields o))) rest)
    reads_some None good at rest = absurd (false≢true good.0)
    reads_some (Some x) good at rest = ap (λ q. q >>= next) (part.reads x good.1 at rest)

    cuts_some : (o : Option A) → IsWhere true Good o → (at : ℕ) (bytes : List ℕ) (r : E) → Cut wrap (where_some fields o) at bytes r → where_set true read (left_at at bytes) ≡ Err r
    cuts_some None good at bytes r c = absurd (false≢true good.0)
    cuts_some (Some x) good at bytes r c = ap (λ q. q >>= next) (part.cuts x good.1 at bytes r c)
