-- Lemmas on the messages that are made of files: one name, one piece or one whole file more.
use Rattle.std.proofs.Common.{◌≡◌, ℕ, zero, suc, ◌+◌, ◌<◌, ◌≤◌, List, [], ◌∷◌, ◌++◌, length, map, take, drop, All, Option, Some, refl, sym, ap, ◌∙◌, subst, arith, length-take, length-drop, length-append}
use Rattle.std.specs.Prelude.{flat_map, slice_index_or}
use Rattle.std.specs.List.{concat}
use Rattle.std.proofs.lemmas.List.{append_assoc, append-nil, map-append, length-map, take_all, take_more}
use Rattle.std.proofs.lemmas.List.Folds.{concat-append}
use Rattle.std.proofs.lemmas.List.Elements.{All-append, All-cons, All-nil, All-head, All-tail}
use Rattle.std.proofs.lemmas.Grind.{flat_map-append}
use Rattle.std.proofs.Math.Seq.{take-add}
use Rattle.file_messages.specs.Files.{Message, File, Carried, IsName, IsPiece, messages_of, file_of, name_message, piece_message}
use Rattle.file_messages.specs.Written.{AreFull, IsInFull, AreWritten}
use Rattle.mt_outside.specs.Files.{Contents, Holds}
use Rattle.file_messages.proofs.Coming.{snoc_same}
use Rattle.file_transfer.specs.Own.{Own}
use Rattle.file_transfer.specs.Reading.{drafted}
use Rattle.file_transfer.specs.Sending.{AreMade, AreMadeWithin, AreMadeAll, AreHeld, none, more, contents_of, waiting}

abbrev pub IsWhole : List ℕ → Type 0
IsWhole piece = length piece ≡ 65536

-- ---- pieces

pub full_alone : (pieces : List (List ℕ)) → All IsWhole pieces → AreFull pieces
full_alone [] all = tt
full_alone (p ∷ []) all = let whole = All-head IsWhole p [] all in (omega (arith, whole), omega (arith, whole))
full_alone (p ∷ q ∷ rest) all = (All-head IsWhole p (q ∷ rest) all, full_alone (q ∷ rest) (All-tail IsWhole p (q ∷ rest) all))

pub full_more : (pieces : List (List ℕ)) (piece : List ℕ) → All IsWhole pieces → IsPiece piece → AreFull (pieces ++ piece ∷ [])
full_more [] piece all good = good
full_more (p ∷ []) piece all good = (All-head IsWhole p [] all, good)
full_more (p ∷ q ∷ rest) piece all good = (All-head IsWhole p (q ∷ rest) all, full_more (q ∷ rest) piece (All-tail IsWhole p (q ∷ rest) all) good)

pub concat_more : (pieces : List (List ℕ)) (piece : List ℕ) → concat (pieces ++ piece ∷ []) ≡ concat pieces ++ piece
concat_more pieces piece = concat-append pieces (piece ∷ []) ∙ ap (λ p. concat pieces ++ p) (append-nil piece)

abbrev longer : Carried → List ℕ → Carried
longer c piece = record { name = c.name; pieces = c.pieces ++ piece ∷ [] }

longer_messages : (c : Carried) (piece : List ℕ) → messages_of (longer c piece) ≡ messages_of c ++ piece_message piece ∷ []
longer_messages c piece = ap (λ t. name_message c.name ∷ t) (map-append piece_message c.pieces (piece ∷ []))

-- ---- one file more

pub closed : (owns : List Own) (own : Own) (messages : List Message) (files : List File) (c : Carried) → AreMade owns messages files → c.name ≡ own.name → IsInFull c
    → AreMade (owns ++ own ∷ []) (messages ++ messages_of c) (files ++ file_of c ∷ [])
closed owns own messages files c m named good = record {
  carried = m.carried ++ c ∷ [];
  messages_are = ap (λ t. t ++ messages_of c) m.messages_are ∙ ap (λ t. flat_map messages_of m.carried ++ t) (sym (append-nil (messages_of c))) ∙ sym (flat_map-append messages_of m.carried (c ∷ []));
  files_are = ap (λ t. t ++ file_of c ∷ []) m.files_are ∙ sym (map-append file_of m.carried (c ∷ []));
  names_are = map-append (λ (c : Carried). c.name) m.carried (c ∷ []) ∙ ap (λ t. map (λ (c : Carried). c.name) m.carried ++ t ∷ []) named
      ∙ ap (λ t. t ++ own.name ∷ []) m.names_are ∙ sym (map-append (λ (own : Own). own.name) owns (own ∷ []));
  are_good = All-append IsInFull m.carried (c ∷ []) m.are_good (All-cons IsInFull c [] good (All-nil IsInFull));
}

-- a file without a further piece is whole
pub over : (owns : List Own) (own : Own) (at : ℕ) (messages : List Message) (files : List File) → AreMadeWithin owns own at messages files → AreMade (owns ++ own ∷ []) messages files
over owns own at messages files w =
    let whole = closed owns own w.whole w.before w.last w.are_made w.name_is (w.is_name, full_alone w.last.pieces w.are_full) in
    subst (λ m. AreMade (owns ++ own ∷ []) m files) (sym w.messages_are) (subst (λ f. AreMade (owns ++ own ∷ []) (w.whole ++ messages_of w.last) f) (sym w.files_are) whole)

-- ---- what the store tells

pub held_length : (told : Option Contents) (owns : List Own) (contents : List (List ℕ)) → AreHeld told owns contents → length contents ≡ length owns
held_length told _ _ none = refl
held_length told _ _ (more own owns content contents held rest) = ap suc (held_length told owns contents rest)

pub held_at : (told : Option Contents) (owns : List Own) (contents : List (List ℕ)) (made : ℕ) (own : Own) (rest : List Own) → AreHeld told owns contents → drop made owns ≡ own ∷ rest
    → Holds told own.path (slice_index_or contents made []) × (made < length contents)
held_at told _ _ zero own rest none at = cc
held_at told _ _ (suc made) own rest none at = cc
held_at told _ _ zero own rest (more first owns content contents held others) at =
    let same : first ≡ own = cc in
    (subst (λ (o : Own). Holds told o.path content) same held, omega arith)
held_at told _ _ (suc made) own rest (more first owns content contents held others) at =
    let later = held_at told owns contents made own rest others at in
    let few = later.1 in
    (later.0, omega (arith, few))

-- ---- the name of a file

pub begun : (owns : List Own) (own : Own) (sent : List Message) (files : List File) (draft : Option Message) → IsName own.name → draft ≡ Some (name_message own.name) → AreMade owns (sent ++ []) files
    → AreMadeWithin owns own 0 (sent ++ waiting draft) (files ++ record { name = own.name; content = [] } ∷ [])
begun owns own sent files draft good is m = record {
  whole = sent ++ [];
  before = files;
  are_made = m;
  last = record { name = own.name; pieces = [] };
  messages_are = ap (λ d. sent ++ waiting d) is ∙ ap (λ t. t ++ name_message own.name ∷ []) (sym (append-nil sent));
  files_are = refl;
  name_is = refl;
  is_name = good;
  are_full = All-nil IsWhole;
  at_is = refl;
}

pub begun_follows : (made : ℕ) (contents : List (List ℕ)) (files : List File) (name : List ℕ) → contents_of files ≡ take made contents
    → contents_of (files ++ record { name = name; content = [] } ∷ []) ≡ take made contents ++ take 0 (slice_index_or contents made []) ∷ []
begun_follows made contents files name f = map-append (λ (file : File). file.content) files (record { name = name; content = [] } ∷ []) ∙ ap (λ t. t ++ [] ∷ []) f

-- ---- the empty message

pub ended : (owns : List Own) (made : ℕ) (sent : List Message) (files : List File) (draft : Option Message) → length owns ≤ made → draft ≡ Some [] → AreMade (take made owns) (sent ++ []) files
    → AreMadeAll owns (sent ++ waiting draft) files
ended owns made sent files draft all is m = record {
  before = sent ++ [];
  are_made = subst (λ o. AreMade o (sent ++ []) files) (take_all made owns all) m;
  messages_are = ap (λ d. sent ++ waiting d) is ∙ ap (λ t. t ++ [] ∷ []) (sym (append-nil sent));
}

pub ended_follows : (told : Option Contents) (owns : List Own) (made : ℕ) (contents : List (List ℕ)) (files : List File) → length owns ≤ made → AreHeld told owns contents → contents_of files ≡ take made contents → contents_of files ≡ contents
ended_follows told owns made contents files all held f =
    let size = held_length told owns contents held in
    let few : length contents ≤ made = omega (arith, size, all) in
    f ∙ take_all made contents few

-- ---- a piece

-- the own files, one more of which is whole
next_own : (owns : List Own) (made : ℕ) (own : Own) (rest : List Own) → drop made owns ≡ own ∷ rest → take (made + 1) owns ≡ take made owns ++ own ∷ []
next_own owns made own rest at = take-add made 1 owns ∙ ap (λ t. take made owns ++ take 1 t) at

grown : (owns : List Own) (own : Own) (at : ℕ) (sent : List Message) (files : List File) (w : AreMadeWithin owns own at (sent ++ []) files) (piece : List ℕ) (draft : Option Message) → draft ≡ Some (piece_message piece)
    → sent ++ waiting draft ≡ w.whole ++ messages_of (longer w.last piece)
grown owns own at sent files w piece draft is =
    ap (λ d. sent ++ waiting d) is ∙ ap (λ t. t ++ piece_message piece ∷ []) (sym (append-nil sent) ∙ w.messages_are)
    ∙ append_assoc w.whole (messages_of w.last) (piece_message piece ∷ []) ∙ ap (λ t. w.whole ++ t) (sym (longer_messages w.last piece))

-- the contents of files with one behind them
contents_more : (before : List File) (c : Carried) → contents_of (before ++ file_of c ∷ []) ≡ contents_of before ++ concat c.pieces ∷ []
contents_more before c = map-append (λ (file : File). file.content) before (file_of c ∷ [])

-- what the files so far follow, once more is read of the last
grown_follows : (owns : List Own) (own : Own) (at made n : ℕ) (sent : List Message) (files : List File) (w : AreMadeWithin owns own at (sent ++ []) files) (piece : List ℕ) (contents : List (List ℕ))
    → piece ≡ take n (drop at (slice_index_or contents made [])) → contents_of files ≡ take made contents ++ take at (slice_index_or contents made []) ∷ []
    → contents_of (w.before ++ file_of (longer w.last piece) ∷ []) ≡ take made contents ++ take (at + n) (slice_index_or contents made []) ∷ []
grown_follows owns own at made n sent files w piece contents is f =
    let c = slice_index_or contents made [] in
    let parts = snoc_same (contents_of w.before) (take made contents) (concat w.last.pieces) (take at c) (sym (contents_more w.before w.last) ∙ ap contents_of (sym w.files_are) ∙ f) in
    let content : concat (w.last.pieces ++ piece ∷ []) ≡ take (at + n) c = concat_more w.last.pieces piece ∙ ap (λ t. t ++ piece) parts.1 ∙ ap (λ t. take at c ++ t) is ∙ sym (take-add at n c) in
    contents_more w.before (longer w.last piece) ∙ ap (λ t. t ++ concat (w.last.pieces ++ piece ∷ []) ∷ []) parts.0 ∙ ap (λ t. take made contents ++ t ∷ []) content

-- where less came than was asked for, it is the rest
rest_is : (content piece : List ℕ) (at : ℕ) → piece ≡ take 65536 (drop at content) → length piece < 65536 → take (at + 65536) content ≡ content
rest_is content piece at is short =
    let size : length piece ≡ length (take 65536 (drop at content)) = ap length is in
    let few : length content ≤ at + 65536 = omega (arith, size, short, length-take 65536 (drop at content), length-drop at content) in
    take_all (at + 65536) content few

drafted_some : (piece : List ℕ) → 0 < length piece → drafted piece ≡ Some (piece_message piece)
drafted_some [] some = absurd (omega (arith, some))
drafted_some (p ∷ piece) some = refl

-- a full piece more
pub within_on : (owns : List Own) (made at n : ℕ) (told : Option Contents) (own : Own) (rest : List Own) (draft : Option Message) (sent : List Message) (files : List File) (piece : List ℕ)
    → drop made owns ≡ own ∷ rest → AreMadeWithin (take made owns) own at (sent ++ []) files → length piece ≡ n → n ≡ 65536 → draft ≡ drafted piece
    → ((content : List ℕ) → Holds told own.path content → piece ≡ take 65536 (drop at content))
    → (later : List File) × AreMadeWithin (take made owns) own (at + n) (sent ++ waiting draft) later
    × ((contents : List (List ℕ)) → AreHeld told owns contents → contents_of files ≡ take made contents ++ take at (slice_index_or contents made []) ∷ []
    → contents_of later ≡ take made contents ++ take (at + n) (slice_index_or contents made []) ∷ [])
within_on owns made at n told own rest draft sent files piece here w size full is tells =
    let some : 0 < length piece = omega (arith, size, full) in
    let all : length (concat (w.last.pieces ++ piece ∷ [])) ≡ at + n = ap length (concat_more w.last.pieces piece) ∙ length-append (concat w.last.pieces) piece ∙ ap (λ k. k + length piece) w.at_is ∙ ap (λ k. at + k) size in (
      w.before ++ file_of (longer w.last piece) ∷ [],
      record {
        whole = w.whole;
        before = w.before;
        are_made = w.are_made;
        last = longer w.last piece;
        messages_are = grown (take made owns) own at sent files w piece draft (is ∙ drafted_some piece some);
        files_are = refl;
        name_is = w.name_is;
        is_name = w.is_name;
        are_full = All-append IsWhole w.last.pieces (piece ∷ []) w.are_full (All-cons IsWhole piece [] (size ∙ full) (All-nil IsWhole));
        at_is = all;
      },
      λ contents held f. grown_follows (take made owns) own at made n sent files w piece contents (tells (slice_index_or contents made []) (held_at told owns contents made own rest held here).0 ∙ ap (λ k. take k (drop at (slice_index_or contents made []))) (sym full)) f,
    )

-- the rest of a file
rest_follows : (owns : List Own) (own : Own) (at made : ℕ) (sent : List Message) (files : List File) (w : AreMadeWithin owns own at (sent ++ []) files) (piece : List ℕ) (contents : List (List ℕ))
    → piece ≡ take 65536 (drop at (slice_index_or contents made [])) → length piece < 65536 → made < length contents → contents_of files ≡ take made contents ++ take at (slice_index_or contents made []) ∷ []
    → contents_of (w.before ++ file_of (longer w.last piece) ∷ []) ≡ take (made + 1) contents
rest_follows owns own at made sent files w piece contents is short few f =
    grown_follows owns own at made 65536 sent files w piece contents is f ∙ ap (λ t. take made contents ++ t ∷ []) (rest_is (slice_index_or contents made []) piece at is short) ∙ sym (take_more contents made [] few)

-- a piece of no bytes more is none
longer_none : (c : Carried) → file_of (longer c []) ≡ file_of c
longer_none c = ap (λ (t : List ℕ). let f : File = record { name = c.name; content = t } in f) (concat_more c.pieces [] ∙ append-nil (concat c.pieces))

pub within_over : (owns : List Own) (made at n : ℕ) (told : Option Contents) (own : Own) (rest : List Own) (draft : Option Message) (sent : List Message) (files : List File) (piece : List ℕ)
    → drop made owns ≡ own ∷ rest → AreMadeWithin (take made owns) own at (sent ++ []) files → length piece ≡ n → n < 65536 → draft ≡ drafted piece
    → ((content : List ℕ) → Holds told own.path content → piece ≡ take 65536 (drop at content))
    → (later : List File) × AreMade (take (made + 1) owns) (sent ++ waiting draft) later
    × ((contents : List (List ℕ)) → AreHeld told owns contents → contents_of files ≡ take made contents ++ take at (slice_index_or contents made []) ∷ []
    → contents_of later ≡ take (made + 1) contents)
within_over owns made at n told own rest draft sent files [] here w size short is tells = (
  files,
  subst (λ m. AreMade (take (made + 1) owns) m files) (ap (λ d. sent ++ waiting d) (sym is)) (subst (λ o. AreMade o (sent ++ []) files) (sym (next_own owns made own rest here)) (over (take made owns) own at (sent ++ []) files w)),
  λ contents held f.
      let there = held_at told owns contents made own rest held here in
      ap contents_of (w.files_are ∙ ap (λ t. w.before ++ t ∷ []) (sym (longer_none w.last))) ∙ rest_follows (take made owns) own at made sent files w [] contents (tells (slice_index_or contents made []) there.0) (omega arith) there.1 f,
)
within_over owns made at n told own rest draft sent files (p ∷ piece) here w size short is tells =
    let few : length (p ∷ piece) ≤ 65536 = omega (arith, size, short) in
    let good : IsPiece (p ∷ piece) = (omega arith, few) in
    let less : length (p ∷ piece) < 65536 = omega (arith, size, short) in
    let whole = closed (take made owns) own w.whole w.before (longer w.last (p ∷ piece)) w.are_made w.name_is (w.is_name, full_more w.last.pieces (p ∷ piece) w.are_full good) in
    let later : List File = w.before ++ file_of (longer w.last (p ∷ piece)) ∷ [] in (
      later,
      subst (λ m. AreMade (take (made + 1) owns) m later) (sym (grown (take made owns) own at sent files w (p ∷ piece) draft is)) (subst (λ o. AreMade o (w.whole ++ messages_of (longer w.last (p ∷ piece))) later) (sym (next_own owns made own rest here)) whole),
      λ contents held f.
          let there = held_at told owns contents made own rest held here in
          rest_follows (take made owns) own at made sent files w (p ∷ piece) contents (tells (slice_index_or contents made []) there.0) less there.1 f,
    )

-- ---- all is made

names_of : (cs : List Carried) → map (λ (file : File). file.name) (map file_of cs) ≡ map (λ (c : Carried). c.name) cs
names_of [] = refl
names_of (c ∷ cs) = ap (λ t. c.name ∷ t) (names_of cs)

pub all_made : (owns : List Own) (sent : List Message) (files : List File) → length owns ≤ 256 → AreMadeAll owns (sent ++ []) files → AreWritten sent files × (map (λ (file : File). file.name) files ≡ map (λ (own : Own). own.name) owns)
all_made owns sent files few m =
    let made = m.are_made in
    let size : length made.carried ≡ length owns = sym (length-map made.carried (λ (c : Carried). c.name)) ∙ ap length made.names_are ∙ length-map owns (λ (own : Own). own.name) in (
      record {
        carried = made.carried;
        messages_are = sym (append-nil sent) ∙ m.messages_are ∙ ap (λ t. t ++ [] ∷ []) made.messages_are;
        files_are = made.files_are;
        are_good = made.are_good;
        are_few = omega (arith, size, few);
      },
      ap (λ t. map (λ (file : File). file.name) t) made.files_are ∙ names_of made.carried ∙ made.names_are,
    )
