-- Soft-Sync words in lists of channel PDUs, and what they say of a channel.
use Rattle.std.proofs.Common.{◌≡◌, ℕ, ◌≤◌, List, [], ◌∷◌, ◌++◌, length, flat_map, Option, None, Some, refl, sym, ap, ◌∙◌, append-nil, arith}
use Rattle.std.specs.Option.{option_or}
use Rattle.std.proofs.lemmas.Grind.{flat_map-append}
use Rattle.mt_base.specs.declared.kinds.Role.{Role}
use Rattle.mt_base.specs.declared.kinds.Role.TheVariants.{Server, Client}
use Rattle.mt_base.specs.declared.kinds.Kind.{Kind}
use Rattle.mt_base.specs.declared.kinds.Kind.TheVariants.{Reliable, Lossy}
use Rattle.dvc_pdus.specs.Value.{Pdu, SyncRequest, SyncResponse}
use Rattle.soft_sync.specs.declared.kinds.Kinds.{Kinds}
use Rattle.soft_sync.specs.Exchanges.{Request, exchanges, no_kinds, if_among, kind_in, listed, moved}
use Rattle.mt_endpoint.specs.Moving.{request_read, kinds_of}

abbrev pub requests_of : Pdu → List Request
requests_of (SyncRequest flags tunnels lists) = request_read lists ∷ []
requests_of pdu = []

abbrev pub answers_of : Pdu → List Kinds
answers_of (SyncResponse types) = kinds_of types ∷ []
answers_of pdu = []

abbrev pub requests_in : List Pdu → List Request
requests_in pdus = flat_map requests_of pdus

abbrev pub answers_in : List Pdu → List Kinds
answers_in pdus = flat_map answers_of pdus

-- the word for a channel in what an end wrote on the main stream; `all` are the requests
abbrev pub word : Role → List Request → ℕ → List Pdu → Option Kind
word Server all id pdus = listed id (exchanges (requests_in pdus) [])
word Client all id pdus = moved id (exchanges all (answers_in pdus))

or_keep : (a b c : Option Kind) (kind : Kind) → option_or a b ≡ Some kind → (b ≡ Some kind → c ≡ Some kind) → option_or a c ≡ Some kind
or_keep None b c kind h k = k h
or_keep (Some made) b c kind h k = h

pub or_none : (a : Option Kind) → option_or a None ≡ a
or_none None = refl
or_none (Some kind) = refl

none_among : (o : Option Kind) → if_among no_kinds o ≡ None
none_among None = refl
none_among (Some Reliable) = refl
none_among (Some Lossy) = refl

-- what requests list does not depend on the answers
pub listed-plain : (id : ℕ) (requests : List Request) (answers : List Kinds) → listed id (exchanges requests answers) ≡ listed id (exchanges requests [])
listed-plain id [] answers = refl
listed-plain id (r ∷ requests) [] = refl
listed-plain id (r ∷ requests) (kinds ∷ answers) = ap (option_or (kind_in id r)) (listed-plain id requests answers)

-- requests without answers move nothing
pub moved-none : (id : ℕ) (requests : List Request) → moved id (exchanges requests []) ≡ None
moved-none id [] = refl
moved-none id (r ∷ requests) = ap (λ o. option_or o (moved id (exchanges requests []))) (none_among (kind_in id r)) ∙ moved-none id requests

-- more requests and more answers never take a word back
pub listed-more : (id : ℕ) (xs ys : List Request) (kind : Kind) → listed id (exchanges xs []) ≡ Some kind → listed id (exchanges (xs ++ ys) []) ≡ Some kind
listed-more id [] ys kind h = cc
listed-more id (r ∷ xs) ys kind h = or_keep (kind_in id r) (listed id (exchanges xs [])) (listed id (exchanges (xs ++ ys) [])) kind h (listed-more id xs ys kind)

pub moved-more : (id : ℕ) (xs ys : List Request) (zs bs : List Kinds) (kind : Kind) → moved id (exchanges xs zs) ≡ Some kind → moved id (exchanges (xs ++ ys) (zs ++ bs)) ≡ Some kind
moved-more id [] ys zs bs kind h = cc
moved-more id (r ∷ xs) ys [] bs kind h = let no : None ≡ Some kind = sym (moved-none id (r ∷ xs)) ∙ h in cc
moved-more id (r ∷ xs) ys (a ∷ zs) bs kind h =
    or_keep (if_among a (kind_in id r)) (moved id (exchanges xs zs)) (moved id (exchanges (xs ++ ys) (zs ++ bs))) kind h (moved-more id xs ys zs bs kind)

-- requests behind those that have an answer say nothing
pub moved-early : (id : ℕ) (xs ys : List Request) (zs : List Kinds) → length zs ≤ length xs → moved id (exchanges (xs ++ ys) zs) ≡ moved id (exchanges xs zs)
moved-early id xs ys [] h = moved-none id (xs ++ ys) ∙ sym (moved-none id xs)
moved-early id [] ys (a ∷ zs) h = absurd (omega (arith, h))
moved-early id (r ∷ xs) ys (a ∷ zs) h =
    let short : length zs ≤ length xs = omega (arith, h) in ap (option_or (if_among a (kind_in id r))) (moved-early id xs ys zs short)

pub requests-append : (xs ys : List Pdu) → requests_in (xs ++ ys) ≡ requests_in xs ++ requests_in ys
requests-append xs ys = flat_map-append requests_of xs ys

pub answers-append : (xs ys : List Pdu) → answers_in (xs ++ ys) ≡ answers_in xs ++ answers_in ys
answers-append xs ys = flat_map-append answers_of xs ys

-- a word that was said stays said
pub word-more : (role : Role) (all : List Request) (id : ℕ) (xs ys : List Pdu) (kind : Kind) → word role all id xs ≡ Some kind → word role all id (xs ++ ys) ≡ Some kind
word-more Server all id xs ys kind h =
    ap (λ l. listed id (exchanges l [])) (requests-append xs ys) ∙ listed-more id (requests_in xs) (requests_in ys) kind h
word-more Client all id xs ys kind h =
    ap (λ l. moved id (exchanges all l)) (answers-append xs ys) ∙ ap (λ l. moved id (exchanges l (answers_in xs ++ answers_in ys))) (sym (append-nil all))
    ∙ moved-more id all [] (answers_in xs) (answers_in ys) kind h

-- also where more requests are known
pub word-all : (role : Role) (all more : List Request) (id : ℕ) (xs : List Pdu) (kind : Kind) → word role all id xs ≡ Some kind → word role (all ++ more) id xs ≡ Some kind
word-all Server all more id xs kind h = h
word-all Client all more id xs kind h =
    ap (λ l. moved id (exchanges (all ++ more) l)) (sym (append-nil (answers_in xs))) ∙ moved-more id all more (answers_in xs) [] kind h

-- PDUs without words say none
pub word-less : (role : Role) (all : List Request) (id : ℕ) (xs ys : List Pdu) → requests_in ys ≡ [] → answers_in ys ≡ [] → word role all id (xs ++ ys) ≡ word role all id xs
word-less Server all id xs ys h k = ap (λ l. listed id (exchanges l [])) (requests-append xs ys ∙ ap (λ l. requests_in xs ++ l) h ∙ append-nil (requests_in xs))
word-less Client all id xs ys h k = ap (λ l. moved id (exchanges all l)) (answers-append xs ys ∙ ap (λ l. answers_in xs ++ l) k ∙ append-nil (answers_in xs))
