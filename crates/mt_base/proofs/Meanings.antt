-- A layout and its reader: three facts of both give all that a contract says.
use Rattle.std.proofs.Common.{◌≡◌, ℕ, ◌⊎◌, inl, inr, List, Result, Ok, Err, subst}
use Rattle.mt_base.proofs.Numbers.{IsBytes}
use Rattle.mt_base.proofs.Fields.{ok_is, err_is, not_both}

-- What bytes mean. `Spells x bytes` says that the bytes spell x, `Fault bytes e` that e is their
-- first fault. What is spelled is read, a fault is the answer, and bytes are spelled or have a
-- fault: none of the three takes a chain of reads apart.
pub record Meaning {A E : Type 0} (read : List ℕ → Result A E) (Spells : A → List ℕ → Type 0) (Fault : List ℕ → E → Type 0) : Type 0 where
  pub reads : (x : A) (bytes : List ℕ) → Spells x bytes → read bytes ≡ Ok x
  pub refuses : (e : E) (bytes : List ℕ) → Fault bytes e → read bytes ≡ Err e
  pub decides : (bytes : List ℕ) → IsBytes bytes → ((x : A) × Spells x bytes) ⊎ ((e : E) × Fault bytes e)

-- what is read was spelled
pub was_spelled : {A E : Type 0} {read : List ℕ → Result A E} {Spells : A → List ℕ → Type 0} {Fault : List ℕ → E → Type 0} → Meaning read Spells Fault
    → (x : A) (bytes : List ℕ) → IsBytes bytes → read bytes ≡ Ok x → Spells x bytes
was_spelled {Spells = Spells} m x bytes good is =
    elim (m.decides bytes good) [
      | inl s ↦ subst (λ y. Spells y bytes) (ok_is s.0 x (m.reads s.0 bytes s.1) is) s.1
      | inr f ↦ not_both x f.0 is (m.refuses f.0 bytes f.1)
    ]

-- a refusal is the first fault
pub was_fault : {A E : Type 0} {read : List ℕ → Result A E} {Spells : A → List ℕ → Type 0} {Fault : List ℕ → E → Type 0} → Meaning read Spells Fault
    → (e : E) (bytes : List ℕ) → IsBytes bytes → read bytes ≡ Err e → Fault bytes e
was_fault {Fault = Fault} m e bytes good is =
    elim (m.decides bytes good) [
      | inl s ↦ not_both s.0 e (m.reads s.0 bytes s.1) is
      | inr f ↦ subst (Fault bytes) (err_is (m.refuses f.0 bytes f.1) is) f.1
    ]

-- bytes spell at most one value
pub one_value : {A E : Type 0} {read : List ℕ → Result A E} {Spells : A → List ℕ → Type 0} {Fault : List ℕ → E → Type 0} → Meaning read Spells Fault
    → (x y : A) (bytes : List ℕ) → Spells x bytes → Spells y bytes → x ≡ y
one_value m x y bytes s t = ok_is x y (m.reads x bytes s) (m.reads y bytes t)

-- bytes have at most one first fault
pub one_fault : {A E : Type 0} {read : List ℕ → Result A E} {Spells : A → List ℕ → Type 0} {Fault : List ℕ → E → Type 0} → Meaning read Spells Fault
    → (d e : E) (bytes : List ℕ) → Fault bytes d → Fault bytes e → d ≡ e
one_fault m d e bytes f g = err_is (m.refuses d bytes f) (m.refuses e bytes g)

-- bytes never do both
pub never_both : {A E : Type 0} {read : List ℕ → Result A E} {Spells : A → List ℕ → Type 0} {Fault : List ℕ → E → Type 0} → Meaning read Spells Fault
    → (x : A) (e : E) (bytes : List ℕ) → Spells x bytes → Fault bytes e → ⊥
never_both m x e bytes s f = not_both x e (m.reads x bytes s) (m.refuses e bytes f)
