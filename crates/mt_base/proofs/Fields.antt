-- Laws of fields: reading a field and spelling it fit together, at any refusal E of a layout.
-- A chain of reads is taken apart by `step` and `missed`, one field at a time, and put together
-- by `again`.
use Rattle.std.proofs.Common.{◌≡◌, ℕ, ◌+◌, ◌^◌, ◌<◌, ◌≤◌, ◌⊎◌, inl, inr, Bool, true, false, cond, ltb, List, [], ◌∷◌, ◌++◌, length, take, drop, Result, Ok, Err, refl, sym, ap, ◌∙◌, subst, arith}
use Rattle.std.proofs.lemmas.Bool.{cases_lt, ltb-true, ltb-false, lt-ltb, le-ltb}
use Rattle.std.proofs.lemmas.List.{drop_at, length-take, length-take-le, length-append, take-append-drop, take_at}
use Rattle.std.proofs.lemmas.List.Elements.{All-drop, All-take}
use Rattle.byteorder.specs.Endian.{big_bytes, little_bytes, big_number, little_number}
use Rattle.byteorder.specs.Numbers.{big_number-reads_back, little_number-reads_back, length-bytes_high_first, length-bytes_low_first}
use Rattle.mt_base.specs.declared.errors.Short.{Short}
use Rattle.mt_base.specs.Reading.{Left, past, field, block, big, little}
use Rattle.mt_base.specs.Writing.{Spot, puts, joined}
pub use Rattle.mt_base.specs.Parts.{◌>>=◌, cut_as}
use Rattle.mt_base.proofs.Fill.{finished}
use Rattle.mt_base.proofs.Numbers.{IsBytes, little_number-lt, big_number-lt, little_bytes-number, big_bytes-number}

-- what is left behind a text
abbrev pub behind : Left → List ℕ → List ℕ → Left
behind s text rest = record { at = s.at + length text; bytes = rest }

-- A read took a text from s, and t is left behind it.
pub record Taken (IsText : List ℕ → Type 0) (s t : Left) : Type 0 where
  pub text : List ℕ
  pub is_text : IsText text
  pub bytes_are : s.bytes ≡ text ++ t.bytes
  pub at_is : t.at ≡ s.at + length text
  pub bytes_behind : IsBytes t.bytes

-- A field that may be spelled in several ways, where `Spells x text` says that the text spells x:
-- what is read was spelled, and what is spelled is read.
pub record FreeField {A E : Type 0} (read : Left → Result (A × Left) E) (Spells : A → List ℕ → Type 0) : Type 0 where
  pub takes : (s : Left) (x : A × Left) → IsBytes s.bytes → read s ≡ Ok x → Taken (Spells x.0) s x.1
  pub again : (x : A) (text : List ℕ) → Spells x text → (s : Left) (rest : List ℕ) → s.bytes ≡ text ++ rest → read s ≡ Ok (x, behind s text rest)

-- a value that keeps its rules, in its one spelling
abbrev pub Plainly : {A : Type 0} → (A → List ℕ) → (A → Type 0) → A → List ℕ → Type 0
Plainly spelling Good x text = Good x × (text ≡ spelling x)

-- a field that is spelled in one way
abbrev pub Field : {A E : Type 0} → (Left → Result (A × Left) E) → (A → List ℕ) → (A → Type 0) → Type 0
Field read spelling Good = FreeField read (Plainly spelling Good)

-- the last part of a layout, which takes all that is left
pub record Ending {A E : Type 0} (read : Left → Result A E) (Spells : A → List ℕ → Type 0) : Type 0 where
  pub takes : (s : Left) (x : A) → IsBytes s.bytes → read s ≡ Ok x → Spells x s.bytes
  pub again : (x : A) (s : Left) → Spells x s.bytes → read s ≡ Ok x

-- The refusals of a part: which it is, by the place where the part begins and the bytes from there
-- on, and each such refusal is the answer.
pub record Refuses {A E : Type 0} (read : Left → Result A E) (Fault : ℕ → List ℕ → E → Type 0) : Type 0 where
  pub which : (s : Left) (e : E) → IsBytes s.bytes → read s ≡ Err e → Fault s.at s.bytes e
  pub answer : (s : Left) (e : E) → Fault s.at s.bytes e → read s ≡ Err e

-- a field of n bytes is cut short
abbrev pub CutShort : {E : Type 0} → (Short → E) → ℕ → ℕ → List ℕ → E → Type 0
CutShort wrap n at bytes e = (length bytes < n) × (e ≡ wrap (record { at = at; need = n }))

-- an answer is a value or a refusal
pub either : {A E : Type 0} (r : Result A E) → ((x : A) × (r ≡ Ok x)) ⊎ ((e : E) × (r ≡ Err e))
either (Ok x) = inl (x, refl)
either (Err e) = inr (e, refl)

-- where a chain ended well, its first read did
pub step : {A B E : Type 0} (r : Result A E) (next : A → Result B E) (y : B) → (r >>= next) ≡ Ok y → (x : A) × (r ≡ Ok x) × (next x ≡ Ok y)
step (Ok x) next y e = (x, refl, e)
step (Err d) next y e = cc

-- where a chain was refused, its first read was, or the rest of it
pub missed : {A B E : Type 0} (r : Result A E) (next : A → Result B E) (d : E) → (r >>= next) ≡ Err d → (r ≡ Err d) ⊎ ((x : A) × (r ≡ Ok x) × (next x ≡ Err d))
missed (Ok x) next d e = inr (x, refl, e)
missed (Err c) next d e = inl (cc)

-- a field of n bytes, where they are there
taken : {A E : Type 0} (wrap : Short → E) (n : ℕ) (f : List ℕ → A) (s : Left) → n ≤ length s.bytes → cut_as wrap (field n f s) ≡ Ok (f s.bytes, past n s)
taken wrap n f s enough =
    ap (λ b. cut_as wrap (cond b (Err (record { at = s.at; need = n })) (Ok (f s.bytes, past n s)))) (le-ltb (length s.bytes) n enough)

-- a field of n bytes, where they aren't
refused : {A E : Type 0} (wrap : Short → E) (n : ℕ) (f : List ℕ → A) (s : Left) → length s.bytes < n → cut_as {A = A} wrap (field n f s) ≡ Err (wrap (record { at = s.at; need = n }))
refused {A} wrap n f s few =
    ap (λ b. cut_as {A = A} wrap (cond b (Err (record { at = s.at; need = n })) (Ok (f s.bytes, past n s)))) (lt-ltb (length s.bytes) n few)

ok_or_short : {A E : Type 0} (wrap : Short → E) (n : ℕ) (f : List ℕ → A) (s : Left) (b : Bool) → (r : Result (A × Left) E)
    → cut_as wrap (cond b (Err (record { at = s.at; need = n })) (Ok (f s.bytes, past n s))) ≡ r
    → ((b ≡ true) × (r ≡ Err (wrap (record { at = s.at; need = n })))) ⊎ ((b ≡ false) × (r ≡ Ok (f s.bytes, past n s)))
ok_or_short wrap n f s true r e = inl (refl, sym e)
ok_or_short wrap n f s false r e = inr (refl, sym e)

-- the two ends of a field of n bytes
cases : {A E : Type 0} (wrap : Short → E) (n : ℕ) (f : List ℕ → A) (s : Left) (r : Result (A × Left) E) → cut_as wrap (field n f s) ≡ r
    → ((length s.bytes < n) × (r ≡ Err (wrap (record { at = s.at; need = n })))) ⊎ ((n ≤ length s.bytes) × (r ≡ Ok (f s.bytes, past n s)))
cases wrap n f s r e =
    elim (ok_or_short wrap n f s (ltb (length s.bytes) n) r e) [
      | inl h ↦ inl (ltb-true (length s.bytes) n h.0, h.1)
      | inr h ↦ inr (ltb-false (length s.bytes) n h.0, h.1)
    ]

-- an answer is at most one refusal, and no refusal where it is a value
pub as_err : {X E : Type 0} {r : Result X E} {d e : E} → r ≡ Err d → e ≡ d → r ≡ Err e
as_err is same = is ∙ ap Err (sym same)

pub not_both : {X E P : Type 0} {r : Result X E} (x : X) (e : E) → r ≡ Ok x → r ≡ Err e → P
not_both x e ok err = absurd (differ x e (sym ok ∙ err))
  where
    differ : {X E : Type 0} (x : X) (e : E) → Ok x ≡ Err e → ⊥
    differ x e h = cc

-- an answer is at most one value
pub ok_is : {X E : Type 0} {r : Result X E} (x y : X) → r ≡ Ok x → r ≡ Ok y → x ≡ y
ok_is {X} x y e f = same x y (sym e ∙ f)
  where
    same : {X E : Type 0} (x y : X) → (let ok : X → Result X E = λ z. Ok z in ok x ≡ ok y) → x ≡ y
    same x y e = cc

-- an answer is at most one refusal
pub err_is : {X E : Type 0} {r : Result X E} {d e : E} → r ≡ Err d → r ≡ Err e → d ≡ e
err_is {d = d} {e = e} h k = same d e (sym h ∙ k)
  where
    same : {X E : Type 0} (d e : E) → (let refuse : E → Result X E = λ z. Err z in refuse d ≡ refuse e) → d ≡ e
    same d e h = cc

-- a field of n bytes is refused where it is cut short, and only there
pub field_refuses : {A E : Type 0} (wrap : Short → E) (n : ℕ) (f : List ℕ → A) → Refuses (λ s. cut_as wrap (field n f s)) (CutShort wrap n)
field_refuses wrap n f = record {
  which = λ s e good is. elim (cases wrap n f s (Err e) is) [
    | inl h ↦ (h.0, cc)
    | inr h ↦ not_both (f s.bytes, past n s) e h.1 refl
  ];
  answer = λ s e h. as_err (refused wrap n f s h.0) h.1;
}

-- A field of n bytes: f sees a value in them, and spelling gives the bytes of a value back.
pub record Sees {A : Type 0} (n : ℕ) (f : List ℕ → A) (spelling : A → List ℕ) (Good : A → Type 0) : Type 0 where
  pub length_is : (x : A) → Good x → length (spelling x) ≡ n
  pub bytes_are : (xs : List ℕ) → n ≤ length xs → IsBytes xs → spelling (f xs) ≡ take n xs
  pub is_good : (xs : List ℕ) → n ≤ length xs → IsBytes xs → Good (f xs)
  pub seen : (x : A) (rest : List ℕ) → Good x → f (spelling x ++ rest) ≡ x

-- reading and spelling a field of n bytes fit together
pub field_law : {A E : Type 0} (wrap : Short → E) (n : ℕ) (f : List ℕ → A) (spelling : A → List ℕ) (Good : A → Type 0) → Sees n f spelling Good
    → Field (λ s. cut_as wrap (field n f s)) spelling Good
field_law {A} {E} wrap n f spelling Good sees = record {
  takes = λ s x good is. elim (cases wrap n f s (Ok x) is) [
    | inl h ↦ not_both x _ refl h.1
    | inr h ↦ fits s x good h.0 (ok_is x (f s.bytes, past n s) refl h.1)
  ];
  again = λ x text spells s rest is.
      let long : length text ≡ n = ap length spells.1 ∙ sees.length_is x spells.0 in
      let enough : n ≤ length s.bytes = omega (arith, ap length is, length-append text rest) in
      let value : f s.bytes ≡ x = ap f (is ∙ ap (λ t. t ++ rest) spells.1) ∙ sees.seen x rest spells.0 in
      let others : drop n s.bytes ≡ rest = ap (drop n) is ∙ drop_at text rest n long in
      taken wrap n f s enough ∙ same s (f s.bytes) x n (length text) (drop n s.bytes) rest value (sym long) others;
}
  where
    fits : (s : Left) (x : A × Left) → IsBytes s.bytes → n ≤ length s.bytes → x ≡ (f s.bytes, past n s) → Taken (Plainly spelling Good x.0) s x.1
    fits s x good enough is = subst (λ (y : A × Left). Taken (Plainly spelling Good y.0) s y.1) (sym is) (record {
      text = take n s.bytes;
      is_text = (sees.is_good s.bytes enough good, sym (sees.bytes_are s.bytes enough good));
      bytes_are = sym (take-append-drop n s.bytes);
      at_is = ap (λ m. s.at + m) (sym (length-take-le n s.bytes enough));
      bytes_behind = All-drop (λ b. b < 256) n s.bytes good;
    })

    same : (s : Left) (v x : A) (n m : ℕ) (left rest : List ℕ) → v ≡ x → n ≡ m → left ≡ rest
        → (let end : Result (A × Left) E = Ok (v, record { at = s.at + n; bytes = left }) in end ≡ Ok (x, record { at = s.at + m; bytes = rest }))
    same s v x n m left rest e f g = rw (e, f, g) refl

-- what stands behind a text is bytes, where all is
pub bytes_after : (front rest bytes : List ℕ) → bytes ≡ front ++ rest → IsBytes bytes → IsBytes rest
bytes_after front rest bytes is good =
    subst IsBytes (ap (drop (length front)) is ∙ drop_at front rest (length front) refl) (All-drop (λ b. b < 256) (length front) bytes good)

-- what a read took, where it is known how its bytes are spelled and that this is read
pub taken_by : {A E : Type 0} (read : Left → Result (A × Left) E) (Spells : A → List ℕ → Type 0) (s : Left) (x : A × Left) (v : A) (text rest : List ℕ) → IsBytes s.bytes
    → read s ≡ Ok x → Spells v text → s.bytes ≡ text ++ rest → read s ≡ Ok (v, behind s text rest) → Taken (Spells x.0) s x.1
taken_by {A} read Spells s x v text rest good is spells whole again =
    subst (λ (y : A × Left). Taken (Spells y.0) s y.1) (ok_is (v, behind s text rest) x again is)
    (record { text = text; is_text = spells; bytes_are = whole; at_is = refl; bytes_behind = bytes_after text rest s.bytes whole good })

pub bytes_seen : (n : ℕ) → Sees n (take n) (λ (x : List ℕ). x) (λ x. (length x ≡ n) × IsBytes x)
bytes_seen n = record {
  length_is = λ x good. good.0;
  bytes_are = λ xs long good. refl;
  is_good = λ xs long good. (length-take-le n xs long, All-take (λ b. b < 256) n xs good);
  seen = λ x rest good. take_at x rest n good.0;
}

pub little_seen : (n : ℕ) → Sees n (little_number n) (little_bytes n) (λ x. x < 256 ^ n)
little_seen n = record {
  length_is = λ x good. length-bytes_low_first 0 n x;
  bytes_are = λ xs long good. little_bytes-number n xs long good;
  is_good = λ xs long good. little_number-lt n xs good;
  seen = λ x rest good. little_number-reads_back n x rest good;
}

pub big_seen : (n : ℕ) → Sees n (big_number n) (big_bytes n) (λ x. x < 256 ^ n)
big_seen n = record {
  length_is = λ x good. length-bytes_high_first n x;
  bytes_are = λ xs long good. big_bytes-number n xs long good;
  is_good = λ xs long good. big_number-lt n xs good;
  seen = λ x rest good. big_number-reads_back n x rest good;
}

pub byte_seen : Sees 1 (big_number 1) (λ x. x ∷ []) (λ x. x < 256)
byte_seen = record {
  length_is = λ x good. refl;
  bytes_are = λ xs long good. first xs long;
  is_good = λ xs long good. big_number-lt 1 xs good;
  seen = λ x rest good. omega arith;
}
  where
    first : (xs : List ℕ) → 1 ≤ length xs → big_number 1 xs ∷ [] ≡ take 1 xs
    first [] long = absurd (omega arith)
    first (x ∷ xs) long = ap (λ n. n ∷ []) (omega arith)

-- bytes begin with a value of this spelling
pub record Begins {A : Type 0} (spelling : A → List ℕ) (Good : A → Type 0) (bytes : List ℕ) : Type 0 where
  pub value : A
  pub rest : List ℕ
  pub good : Good value
  pub bytes_are : bytes ≡ spelling value ++ rest
  pub bytes_behind : IsBytes rest

begins_or : {A : Type 0} (n : ℕ) (f : List ℕ → A) (spelling : A → List ℕ) (Good : A → Type 0) → Sees n f spelling Good
    → (bytes : List ℕ) → IsBytes bytes → (length bytes < n) ⊎ Begins spelling Good bytes
begins_or n f spelling Good sees bytes good =
    elim (cases_lt (length bytes) n) [
      | inl few ↦ inl few
      | inr enough ↦ inr (record {
        value = f bytes;
        rest = drop n bytes;
        good = sees.is_good bytes enough good;
        bytes_are = sym (take-append-drop n bytes) ∙ ap (λ t. t ++ drop n bytes) (sym (sees.bytes_are bytes enough good));
        bytes_behind = All-drop (λ b. b < 256) n bytes good;
      })
    ]

-- bytes are fewer than a field has, or begin with it: n bytes as they are, a byte, a number
pub block_or : (n : ℕ) (bytes : List ℕ) → IsBytes bytes → (length bytes < n) ⊎ Begins (λ x. x) (λ x. (length x ≡ n) × IsBytes x) bytes
block_or n = begins_or n (take n) (λ x. x) (λ x. (length x ≡ n) × IsBytes x) (bytes_seen n)

pub byte_or : (bytes : List ℕ) → IsBytes bytes → (length bytes < 1) ⊎ Begins (λ x. x ∷ []) (λ x. x < 256) bytes
byte_or = begins_or 1 (big_number 1) (λ x. x ∷ []) (λ x. x < 256) byte_seen

pub little_or : (n : ℕ) (bytes : List ℕ) → IsBytes bytes → (length bytes < n) ⊎ Begins (little_bytes n) (λ x. x < 256 ^ n) bytes
little_or n = begins_or n (little_number n) (little_bytes n) (λ x. x < 256 ^ n) (little_seen n)

pub big_or : (n : ℕ) (bytes : List ℕ) → IsBytes bytes → (length bytes < n) ⊎ Begins (big_bytes n) (λ x. x < 256 ^ n) bytes
big_or n = begins_or n (big_number n) (big_bytes n) (λ x. x < 256 ^ n) (big_seen n)

-- n bytes as they are
pub block_law : {E : Type 0} (wrap : Short → E) (n : ℕ) → Field (λ s. cut_as wrap (block n s)) (λ x. x) (λ x. (length x ≡ n) × IsBytes x)
block_law wrap n = field_law wrap n (take n) (λ x. x) (λ x. (length x ≡ n) × IsBytes x) (bytes_seen n)

-- a byte
pub byte_law : {E : Type 0} (wrap : Short → E) → Field (λ s. cut_as wrap (big 1 s)) (λ x. x ∷ []) (λ x. x < 256)
byte_law wrap = field_law wrap 1 (big_number 1) (λ x. x ∷ []) (λ x. x < 256) byte_seen

-- a number of n bytes, the lowest first
pub little_law : {E : Type 0} (wrap : Short → E) (n : ℕ) → Field (λ s. cut_as wrap (little n s)) (little_bytes n) (λ x. x < 256 ^ n)
little_law wrap n = field_law wrap n (little_number n) (little_bytes n) (λ x. x < 256 ^ n) (little_seen n)

-- a number of n bytes, the highest first
pub big_law : {E : Type 0} (wrap : Short → E) (n : ℕ) → Field (λ s. cut_as wrap (big n s)) (big_bytes n) (λ x. x < 256 ^ n)
big_law wrap n = field_law wrap n (big_number n) (big_bytes n) (λ x. x < 256 ^ n) (big_seen n)

-- What a writer hands back that began at a buffer's first byte and wrote these fields: their
-- length, which it told as the length of what stands before its place, and the buffer.
pub handed : (fs : List (List ℕ)) (from last whole : List ℕ) (at told : ℕ) (first : Spot) → at ≤ length last → told ≡ length (take at last) → whole ≡ last
    → first ≡ record { before = []; after = from } → puts fs first ≡ Ok (record { before = take at last; after = drop at last })
    → (told ≡ length (joined fs)) × (whole ≡ joined fs ++ drop told from)
handed fs from last whole at told first within tells is starts written =
    let done = finished fs (joined fs) from last at first within refl starts written in
    let same : told ≡ at = omega (arith, length-take at last) in
    (same ∙ done.0, is ∙ done.1 ∙ ap (λ n. joined fs ++ drop n from) (sym same))
