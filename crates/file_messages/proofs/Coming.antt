-- Lemmas on the messages of files: how a list of them grows, and with what it can't go on.
use Rattle.std.proofs.Common.{◌≡◌, ◌≢◌, ℕ, suc, ◌+◌, ◌≤◌, ◌<◌, Bool, true, false, cond, nat_eq, List, [], ◌∷◌, ◌++◌, length, map, All, refl, sym, ap, ◌∙◌, subst, arith, rules}
use Rattle.std.specs.Prelude.{flat_map, IsTrue, ◌↔◌}
use Rattle.std.specs.List.{concat}
use Rattle.std.proofs.lemmas.List.{map-append, append_assoc, append-nil, length-map}
use Rattle.std.proofs.lemmas.List.Folds.{concat-append}
use Rattle.std.proofs.lemmas.List.Elements.{All-append, All-cons, All-nil, All-head, All-tail}
use Rattle.std.proofs.lemmas.Grind.{flat_map-append}
use Rattle.file_messages.specs.Files.{Message, File, Carried, IsName, IsPiece, IsCarried, name_message, piece_message, messages_of, file_of, AreUnderWay, AreFiles, HaveCome}
use Rattle.file_messages.specs.Read.{added}

-- ---- no message

pub none : AreUnderWay [] []
none = record { carried = []; messages_are = refl; files_are = refl; are_good = All-nil IsCarried; are_few = omega arith }

pub count_of : (ms : List Message) (fs : List File) (w : AreUnderWay ms fs) → length fs ≡ length w.carried
count_of ms fs w = ap length w.files_are ∙ length-map w.carried file_of

-- ---- one name more

abbrev fresh : List ℕ → Carried
fresh name = record { name = name; pieces = [] }

pub length-more : {X : Type 0} (xs : List X) (x : X) → length (xs ++ (x ∷ [])) ≡ suc (length xs)
length-more [] x = refl
length-more (y ∷ xs) x = ap suc (length-more xs x)

pub begun_one : (ms : List Message) (fs : List File) (name : List ℕ) → AreUnderWay ms fs → IsName name → length fs < 256
    → AreUnderWay (ms ++ (name_message name ∷ [])) (fs ++ (record { name = name; content = [] } ∷ []))
begun_one ms fs name w good few =
    let count = count_of ms fs w in
    let more = length-more w.carried (fresh name) in
    record {
      carried = w.carried ++ (fresh name ∷ []);
      messages_are = ap (λ t. t ++ (name_message name ∷ [])) w.messages_are ∙ sym (flat_map-append messages_of w.carried (fresh name ∷ []));
      files_are = ap (λ t. t ++ (record { name = name; content = [] } ∷ [])) w.files_are ∙ sym (map-append file_of w.carried (fresh name ∷ []));
      are_good = All-append IsCarried w.carried (fresh name ∷ []) w.are_good (All-cons IsCarried (fresh name) [] (good, All-nil IsPiece) (All-nil IsCarried));
      are_few = omega (arith, count, more, few);
    }

-- ---- one piece more

abbrev longer : List ℕ → Carried → Carried
longer piece c = record { name = c.name; pieces = c.pieces ++ (piece ∷ []) }

abbrev last_longer : List ℕ → Carried → List Carried → List Carried
last_longer piece c [] = longer piece c ∷ []
last_longer piece c (d ∷ rest) = c ∷ last_longer piece d rest

longer_messages : (piece : List ℕ) (c : Carried) (cs : List Carried) → flat_map messages_of (last_longer piece c cs) ≡ flat_map messages_of (c ∷ cs) ++ (piece_message piece ∷ [])
longer_messages piece c [] = ap (λ t. name_message c.name ∷ (t ++ [])) (map-append piece_message c.pieces (piece ∷ []))
    ∙ ap (λ t. name_message c.name ∷ t) (append-nil (map piece_message c.pieces ++ (piece_message piece ∷ [])) ∙ ap (λ t. t ++ (piece_message piece ∷ [])) (sym (append-nil (map piece_message c.pieces))))
longer_messages piece c (d ∷ rest) =
    ap (λ t. messages_of c ++ t) (longer_messages piece d rest) ∙ sym (append_assoc (messages_of c) (flat_map messages_of (d ∷ rest)) (piece_message piece ∷ []))

abbrev with_content : List ℕ → List ℕ → File
with_content name content = record { name = name; content = content }

longer_files : (piece : List ℕ) (c : Carried) (cs : List Carried) → map file_of (last_longer piece c cs) ≡ added piece (map file_of (c ∷ cs))
longer_files piece c [] = ap (λ (t : List ℕ). with_content c.name t ∷ []) (concat-append c.pieces (piece ∷ []) ∙ ap (λ t. concat c.pieces ++ t) (append-nil piece))
longer_files piece c (d ∷ rest) = ap (λ t. file_of c ∷ t) (longer_files piece d rest)

longer_good : (piece : List ℕ) (c : Carried) (cs : List Carried) → IsPiece piece → All IsCarried (c ∷ cs) → All IsCarried (last_longer piece c cs)
longer_good piece c [] good all =
    let head = All-head IsCarried c [] all in
    All-cons IsCarried (longer piece c) [] (head.0, All-append IsPiece c.pieces (piece ∷ []) head.1 (All-cons IsPiece piece [] good (All-nil IsPiece))) (All-nil IsCarried)
longer_good piece c (d ∷ rest) good all =
    All-cons IsCarried c (last_longer piece d rest) (All-head IsCarried c (d ∷ rest) all) (longer_good piece d rest good (All-tail IsCarried c (d ∷ rest) all))

longer_length : (piece : List ℕ) (c : Carried) (cs : List Carried) → length (last_longer piece c cs) ≡ suc (length cs)
longer_length piece c [] = refl
longer_length piece c (d ∷ rest) = ap suc (longer_length piece d rest)

added_to : (piece : List ℕ) (ms : List Message) (fs : List File) (cs : List Carried) → ms ≡ flat_map messages_of cs → fs ≡ map file_of cs → All IsCarried cs → length cs ≤ 256
    → IsPiece piece → 1 ≤ length cs → AreUnderWay (ms ++ (piece_message piece ∷ [])) (added piece fs)
added_to piece ms fs [] m f good few is some = absurd (omega (arith, some))
added_to piece ms fs (c ∷ cs) m f good few is some = let l = longer_length piece c cs in record {
  carried = last_longer piece c cs;
  messages_are = ap (λ t. t ++ (piece_message piece ∷ [])) m ∙ sym (longer_messages piece c cs);
  files_are = ap (added piece) f ∙ sym (longer_files piece c cs);
  are_good = longer_good piece c cs is good;
  are_few = omega (arith, l, few);
}

pub added_one : (ms : List Message) (fs : List File) (piece : List ℕ) → AreUnderWay ms fs → IsPiece piece → 1 ≤ length fs → AreUnderWay (ms ++ (piece_message piece ∷ [])) (added piece fs)
added_one ms fs piece w is some = let count = count_of ms fs w in added_to piece ms fs w.carried w.messages_are w.files_are w.are_good w.are_few is (omega (arith, count, some))

longer_count : (piece : List ℕ) (f : File) (fs : List File) → length (added piece (f ∷ fs)) ≡ suc (length fs)
longer_count piece f [] = refl
longer_count piece f (g ∷ fs) = ap suc (longer_count piece g fs)

pub added_count : (piece : List ℕ) (fs : List File) → length (added piece fs) ≡ length fs
added_count piece [] = refl
added_count piece (f ∷ fs) = longer_count piece f fs

-- ---- with what the messages go on

-- a message by which messages that carry so many files go on
pub data Fits (n : ℕ) (message : Message) : Type 0 where
  begins : (name : List ℕ) → message ≡ name_message name → IsName name → n < 256 → Fits n message
  adds : (piece : List ℕ) → message ≡ piece_message piece → IsPiece piece → 1 ≤ n → Fits n message

-- the names among messages and a message, counted on from n
abbrev count_on : Message → ℕ → ℕ
count_on [] n = n
count_on (first ∷ rest) n = cond (nat_eq first 78) (suc n) n

abbrev names : ℕ → List Message → ℕ
names n [] = n
names n (m ∷ ms) = names (count_on m n) ms

abbrev Run : ℕ → List Message → Type 0
Run n [] = ℕ
Run n (m ∷ ms) = Fits n m × Run (count_on m n) ms

run_pieces : (n : ℕ) (pieces : List (List ℕ)) (ms : List Message) → 1 ≤ n → All IsPiece pieces → Run n ms → Run n (map piece_message pieces ++ ms)
run_pieces n [] ms some good run = run
run_pieces n (p ∷ pieces) ms some good run =
    (adds p refl (All-head IsPiece p pieces good) some, run_pieces n pieces ms some (All-tail IsPiece p pieces good) run)

run_all : (n : ℕ) (cs : List Carried) → All IsCarried cs → n + length cs ≤ 256 → Run n (flat_map messages_of cs)
run_all n [] good few = n
run_all n (c ∷ cs) good few =
    let head = All-head IsCarried c cs good in (
      begins c.name refl head.0 (omega (arith, few)),
      run_pieces (suc n) c.pieces (flat_map messages_of cs) (omega arith) head.1 (run_all (suc n) cs (All-tail IsCarried c cs good) (omega (arith, few))),
    )

names_pieces : (n : ℕ) (pieces : List (List ℕ)) (ms : List Message) → names n (map piece_message pieces ++ ms) ≡ names n ms
names_pieces n [] ms = refl
names_pieces n (p ∷ pieces) ms = names_pieces n pieces ms

names_all : (n : ℕ) (cs : List Carried) → names n (flat_map messages_of cs) ≡ n + length cs
names_all n [] = omega arith
names_all n (c ∷ cs) = names_pieces (suc n) c.pieces (flat_map messages_of cs) ∙ names_all (suc n) cs ∙ omega arith

run_last : (n : ℕ) (ms : List Message) (m : Message) → Run n (ms ++ (m ∷ [])) → Fits (names n ms) m
run_last n [] m run = run.0
run_last n (x ∷ ms) m run = run_last (count_on x n) ms m run.1

goes_on : (ms : List Message) (fs gs : List File) (m : Message) → AreUnderWay ms fs → AreUnderWay (ms ++ (m ∷ [])) gs → Fits (length fs) m
goes_on ms fs gs m w v =
    let few = v.are_few in
    let run = run_all 0 v.carried v.are_good (omega (arith, few)) in
    let fits : Fits (names 0 ms) m = run_last 0 ms m (subst (Run 0) (sym v.messages_are) run) in
    let count : length fs ≡ length w.carried = count_of ms fs w in
    let named : names 0 ms ≡ 0 + length w.carried = ap (names 0) w.messages_are ∙ names_all 0 w.carried in
    subst (λ k. Fits k m) (omega (arith, count, named)) fits

-- ---- the empty message stands at the end alone

full_pieces : (pieces : List (List ℕ)) (ms : List Message) → All (λ (m : Message). m ≢ []) ms → All (λ (m : Message). m ≢ []) (map piece_message pieces ++ ms)
full_pieces [] ms all = all
full_pieces (p ∷ pieces) ms all = All-cons (λ (m : Message). m ≢ []) (piece_message p) (map piece_message pieces ++ ms) (λ h. cc) (full_pieces pieces ms all)

full_all : (cs : List Carried) → All (λ (m : Message). m ≢ []) (flat_map messages_of cs)
full_all [] = All-nil (λ (m : Message). m ≢ [])
full_all (c ∷ cs) = All-cons (λ (m : Message). m ≢ []) (name_message c.name) (map piece_message c.pieces ++ flat_map messages_of cs) (λ h. cc) (full_pieces c.pieces (flat_map messages_of cs) (full_all cs))

full_at : (xs : List Message) (m : Message) (ys : List Message) → All (λ (m : Message). m ≢ []) (xs ++ (m ∷ ys)) → m ≢ []
full_at [] m ys all = All-head (λ (m : Message). m ≢ []) m ys all
full_at (x ∷ xs) m ys all = full_at xs m ys (All-tail (λ (m : Message). m ≢ []) x (xs ++ (m ∷ ys)) all)

full : (ms : List Message) (fs : List File) → AreUnderWay ms fs → All (λ (m : Message). m ≢ []) ms
full ms fs w = subst (All (λ (m : Message). m ≢ [])) (sym w.messages_are) (full_all w.carried)

pub snoc_same : {X : Type 0} (xs ys : List X) (x y : X) → xs ++ (x ∷ []) ≡ ys ++ (y ∷ []) → (xs ≡ ys) × (x ≡ y)
snoc_same [] [] x y e = (refl, cc)
snoc_same [] (b ∷ []) x y e = cc
snoc_same [] (b ∷ c ∷ ys) x y e = cc
snoc_same (a ∷ []) [] x y e = cc
snoc_same (a ∷ c ∷ xs) [] x y e = cc
snoc_same (a ∷ xs) (b ∷ ys) x y e =
    let both : (a ≡ b) × (xs ++ (x ∷ []) ≡ ys ++ (y ∷ [])) = (cc, cc) in
    let rest = snoc_same xs ys x y both.1 in
    (ap (λ t. t ∷ xs) both.0 ∙ ap (λ t. b ∷ t) rest.0, rest.1)

pub ended_stops : (ms : List Message) (fs gs : List File) (m : Message) (ended : Bool) → AreFiles ms fs → HaveCome ended (ms ++ (m ∷ [])) gs → ⊥
ended_stops ms fs gs m true w v =
    let same = snoc_same ms v.before m [] v.messages_are in
    full_at w.before [] [] (subst (All (λ (m : Message). m ≢ [])) (sym same.0 ∙ w.messages_are) (full v.before gs v.are_under_way)) refl
ended_stops ms fs gs m false w v =
    let all = full (ms ++ (m ∷ [])) gs v in
    full_at w.before [] (m ∷ []) (subst (All (λ (m : Message). m ≢ [])) (ap (λ t. t ++ (m ∷ [])) w.messages_are ∙ append_assoc w.before ([] ∷ []) (m ∷ [])) all) refl

pub unfit_stops : (ms : List Message) (fs gs : List File) (m : Message) (ended : Bool) → AreUnderWay ms fs → m ≢ [] → (Fits (length fs) m → ⊥) → HaveCome ended (ms ++ (m ∷ [])) gs → ⊥
unfit_stops ms fs gs m true w some unfit v = some (snoc_same ms v.before m [] v.messages_are).1
unfit_stops ms fs gs m false w some unfit v = unfit (goes_on ms fs gs m w v)

pub under_way_is_open : (ms : List Message) (fs gs : List File) → AreUnderWay ms fs → AreFiles ms gs → ⊥
under_way_is_open ms fs gs w v = full_at v.before [] [] (subst (All (λ (m : Message). m ≢ [])) v.messages_are (full ms fs w)) refl

pub ended_by : (ended : Bool) (ms : List Message) (fs : List File) → HaveCome ended ms fs → IsTrue ended ↔ AreFiles ms fs
ended_by true ms fs w = (λ h. w, λ h. search rules)
ended_by false ms fs w = (λ h. absurd (search rules), λ v. absurd (under_way_is_open ms fs fs w v))
