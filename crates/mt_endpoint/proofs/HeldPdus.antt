-- The PDUs held for one channel, while others come and go.
use Rattle.std.proofs.Common.{◌≡◌, ℕ, Bool, true, false, eqb, cond, List, [], ◌∷◌, ◌++◌, map, Option, None, Some, refl, sym, ap, ◌∙◌}
use Rattle.std.proofs.lemmas.Bool.{eqb-true}
use Rattle.dvc_pdus.specs.Value.{Pdu}
use Rattle.mt_endpoint.specs.Said.{Said, Capable, Creates, Created, Brings, Ends, Moves, Moved}
use Rattle.mt_endpoint.specs.Holding.{Held, channel_of, is_of, only, without, without_first, unless_ended}

abbrev pub pdus : List Held → List Pdu
pdus queue = map (λ (h : Held). h.pdu) queue

abbrev pub held_of : ℕ → Held → Bool
held_of id h = is_of id (channel_of h.pdu)

cond-append : {A : Type 0} (b : Bool) (x : A) (xs ys : List A) → cond b (x ∷ (xs ++ ys)) (xs ++ ys) ≡ cond b (x ∷ xs) xs ++ ys
cond-append true x xs ys = refl
cond-append false x xs ys = refl

pub only-append : (id : ℕ) (xs ys : List Held) → only id (xs ++ ys) ≡ only id xs ++ only id ys
only-append id [] ys = refl
only-append id (h ∷ xs) ys =
    ap (λ l. cond (held_of id h) (h ∷ l) l) (only-append id xs ys) ∙ cond-append (held_of id h) h (only id xs) (only id ys)

apart : (id made : ℕ) (channel : Option ℕ) → eqb made id ≡ false → is_of made channel ≡ true → is_of id channel ≡ false
apart id made None e h = refl
apart id made (Some it) e h = let same : it ≡ made = eqb-true it made h in ap (λ x. eqb x id) same ∙ e

-- what is taken out of the queue is of another channel
skip : (c b : Bool) (x : Held) (l : List Held) → (c ≡ true → b ≡ false) → cond c l (cond b (x ∷ l) l) ≡ cond b (x ∷ l) l
skip false b x l h = refl
skip true b x l h = ap (λ b. cond b (x ∷ l) l) (sym (h refl))

only-cond : (c : Bool) (id : ℕ) (h : Held) (xs ys : List Held) → only id (cond c xs (h ∷ ys)) ≡ cond c (only id xs) (cond (held_of id h) (h ∷ only id ys) (only id ys))
only-cond true id h xs ys = refl
only-cond false id h xs ys = refl

pub only-without : (id made : ℕ) (queue : List Held) → eqb made id ≡ false → only id (without made queue) ≡ only id queue
only-without id made [] e = refl
only-without id made (h ∷ queue) e =
    only-cond (held_of made h) id h (without made queue) (without made queue)
    ∙ ap (λ l. cond (held_of made h) l (cond (held_of id h) (h ∷ l) l)) (only-without id made queue e)
    ∙ skip (held_of made h) (held_of id h) h (only id queue) (apart id made (channel_of h.pdu) e)

pub only-first : (id made : ℕ) (queue : List Held) → eqb made id ≡ false → only id (without_first (Some made) queue) ≡ only id queue
only-first id made [] e = refl
only-first id made (h ∷ queue) e =
    only-cond (held_of made h) id h queue (without_first (Some made) queue)
    ∙ ap (λ l. cond (held_of made h) (only id queue) (cond (held_of id h) (h ∷ l) l)) (only-first id made queue e)
    ∙ skip (held_of made h) (held_of id h) h (only id queue) (apart id made (channel_of h.pdu) e)

-- without the first of the channel its others are left
pub first_gone : (id : ℕ) (queue : List Held) (x : Held) (rest : List Held) → only id queue ≡ x ∷ rest → only id (without_first (Some id) queue) ≡ rest
first_gone id [] x rest e = cc
first_gone id (h ∷ queue) x rest e = by_test (held_of id h) refl e (first_gone id queue x rest) where
  by_test : (b : Bool) → held_of id h ≡ b → cond b (h ∷ only id queue) (only id queue) ≡ x ∷ rest → (only id queue ≡ x ∷ rest → only id (without_first (Some id) queue) ≡ rest)
      → only id (cond b queue (h ∷ without_first (Some id) queue)) ≡ rest
  by_test true e k deeper = cc
  by_test false e k deeper = ap (λ b. cond b (h ∷ only id (without_first (Some id) queue)) (only id (without_first (Some id) queue))) e ∙ deeper k

pub none_left : (id : ℕ) (queue : List Held) → only id (without id queue) ≡ []
none_left id [] = refl
none_left id (h ∷ queue) = by_test (held_of id h) refl (none_left id queue) where
  by_test : (b : Bool) → held_of id h ≡ b → only id (without id queue) ≡ [] → only id (cond b (without id queue) (h ∷ without id queue)) ≡ []
  by_test true e none = none
  by_test false e none = ap (λ b. cond b (h ∷ only id (without id queue)) (only id (without id queue))) e ∙ none

pub first_is_of : (id : ℕ) (queue : List Held) (x : Held) (rest : List Held) → only id queue ≡ x ∷ rest → held_of id x ≡ true
first_is_of id [] x rest e = cc
first_is_of id (h ∷ queue) x rest e = by_test (held_of id h) refl e (first_is_of id queue x rest) where
  by_test : (b : Bool) → held_of id h ≡ b → cond b (h ∷ only id queue) (only id queue) ≡ x ∷ rest → (only id queue ≡ x ∷ rest → held_of id x ≡ true) → held_of id x ≡ true
  by_test true e k deeper = let same : h ≡ x = cc in ap (held_of id) (sym same) ∙ e
  by_test false e k deeper = deeper k

-- where nothing of a channel is held, taking out leaves nothing
pub none_without : (id made : ℕ) (queue : List Held) → only id queue ≡ [] → only id (without made queue) ≡ []
none_without id made queue e = by_test (eqb made id) refl where
  by_test : (b : Bool) → eqb made id ≡ b → only id (without made queue) ≡ []
  by_test true k = let same : made ≡ id = eqb-true made id k in ap (λ x. only id (without x queue)) same ∙ none_left id queue
  by_test false k = only-without id made queue k ∙ e

none_first_of : (id made : ℕ) (queue : List Held) → only id queue ≡ [] → only id (without_first (Some made) queue) ≡ []
none_first_of id made [] e = refl
none_first_of id made (h ∷ queue) e = by_test (held_of id h) (held_of made h) refl e (none_first_of id made queue) where
  by_test : (b c : Bool) → held_of id h ≡ b → cond b (h ∷ only id queue) (only id queue) ≡ [] → (only id queue ≡ [] → only id (without_first (Some made) queue) ≡ [])
      → only id (cond c queue (h ∷ without_first (Some made) queue)) ≡ []
  by_test true c k e deeper = cc
  by_test false true k e deeper = e
  by_test false false k e deeper = ap (λ b. cond b (h ∷ only id (without_first (Some made) queue)) (only id (without_first (Some made) queue))) k ∙ deeper e

pub none_first : (id : ℕ) (channel : Option ℕ) (queue : List Held) → only id queue ≡ [] → only id (without_first channel queue) ≡ []
none_first id None queue e = e
none_first id (Some made) queue e = none_first_of id made queue e

pub none_ended : (id : ℕ) (what : Said) (queue : List Held) → only id queue ≡ [] → only id (unless_ended what queue) ≡ []
none_ended id (Capable version) queue e = e
none_ended id (Creates made name) queue e = e
none_ended id (Created made status) queue e = e
none_ended id (Brings made) queue e = e
none_ended id (Ends made) queue e = none_without id made queue e
none_ended id (Moves lists) queue e = e
none_ended id (Moved kinds) queue e = e

abbrev pub ends : ℕ → Said → Bool
ends id (Ends made) = eqb made id
ends id (Capable version) = false
ends id (Creates made name) = false
ends id (Created made status) = false
ends id (Brings made) = false
ends id (Moves lists) = false
ends id (Moved kinds) = false

-- the close of another channel
pub ended_apart : (id : ℕ) (what : Said) (queue : List Held) → ends id what ≡ false → only id (unless_ended what queue) ≡ only id queue
ended_apart id (Capable version) queue e = refl
ended_apart id (Creates made name) queue e = refl
ended_apart id (Created made status) queue e = refl
ended_apart id (Brings made) queue e = refl
ended_apart id (Ends made) queue e = only-without id made queue e
ended_apart id (Moves lists) queue e = refl
ended_apart id (Moved kinds) queue e = refl
