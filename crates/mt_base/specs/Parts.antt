-- Parts of a layout that are read one after the other, at any refusal E of a layout: `wrap` makes a
-- refusal of a field that is cut short.
use Rattle.std.specs.Prelude.{◌≡◌, ℕ, ◌+◌, ◌<◌, Bool, true, false, List, [], ◌∷◌, ◌++◌, length, Option, Some, None, Result, Ok, Err}
use Rattle.mt_base.specs.declared.errors.Short.{Short}
use Rattle.mt_base.specs.Reading.{Left}
use Rattle.mt_base.specs.Writing.{joined}

infixl 10 ◌>>=◌
-- the next part, where the one before it was read
abbrev pub ◌>>=◌ : {A B E : Type 0} → Result A E → (A → Result B E) → Result B E
(Ok x) >>= next = next x
(Err e) >>= next = Err e

-- a field that is cut short is a refusal of the layout
abbrev pub cut_as : {A E : Type 0} → (Short → E) → Result (A × Left) Short → Result (A × Left) E
cut_as wrap (Ok x) = Ok x
cut_as wrap (Err e) = Err (wrap e)

-- a part that is there or not, as a flag announces
abbrev pub where_set : {A E : Type 0} → Bool → (Left → Result (A × Left) E) → Left → Result (Option A × Left) E
where_set false read s = Ok (None, s)
where_set true read s = read s >>= λ x. Ok (Some x.0, x.1)

-- the fields of what is there
abbrev pub where_some : {A : Type 0} → (A → List (List ℕ)) → Option A → List (List ℕ)
where_some fields None = []
where_some fields (Some x) = fields x

-- Bytes from this place on begin with some of these fields, and the next field is cut short.
pub record Cut {E : Type 0} (wrap : Short → E) (fields : List (List ℕ)) (at : ℕ) (bytes : List ℕ) (r : E) : Type 0 where
  pub front : List (List ℕ)
  pub field : List ℕ
  pub behind : List (List ℕ)
  pub rest : List ℕ
  pub fields_are : fields ≡ front ++ (field ∷ behind)
  pub bytes_are : bytes ≡ joined front ++ rest
  pub few : length rest < length field
  pub refusal_is : r ≡ wrap (record { at = at + length (joined front); need = length field })
