-- Lemmas on what lists of file messages mean: at most one list of files, and the files of those that are written.
use Rattle.std.proofs.Common.{◌≡◌, ℕ, cond, nat_eq, List, [], ◌∷◌, ◌++◌, map, All, refl, sym, ap, ◌∙◌, subst, arith}
use Rattle.std.specs.Prelude.{flat_map}
use Rattle.std.specs.List.{concat}
use Rattle.std.proofs.lemmas.List.{append_assoc, append-nil}
use Rattle.std.proofs.lemmas.List.Elements.{All-cons, All-nil, All-weaker}
use Rattle.file_messages.specs.Files.{Message, File, Carried, IsPiece, IsCarried, piece_message, messages_of, file_of, AreUnderWay, AreFiles}
use Rattle.file_messages.specs.Written.{AreFull, IsInFull, AreWritten}
use Rattle.file_messages.proofs.Coming.{snoc_same}

-- ---- at most one list of files

-- what messages add to a file that began before them, and the files that begin in them
record Content : Type 0 where
  more : List ℕ
  files : List File

abbrev content_of : List ℕ → List File → Content
content_of more files = record { more = more; files = files }

abbrev onto : Message → Content → Content
onto [] c = c
onto (first ∷ rest) c = cond (nat_eq first 78) (content_of [] (record { name = rest; content = c.more } ∷ c.files)) (content_of (rest ++ c.more) c.files)

abbrev content : List Message → Content
content [] = content_of [] []
content (m ∷ ms) = onto m (content ms)

content_pieces : (pieces : List (List ℕ)) (ms : List Message) → content (map piece_message pieces ++ ms) ≡ content_of (concat pieces ++ (content ms).more) (content ms).files
content_pieces [] ms = refl
content_pieces (p ∷ pieces) ms =
    ap (λ t. content_of (p ++ t.more) t.files) (content_pieces pieces ms) ∙ ap (λ t. content_of t (content ms).files) (sym (append_assoc p (concat pieces) (content ms).more))

content_all : (cs : List Carried) → content (flat_map messages_of cs) ≡ content_of [] (map file_of cs)
content_all [] = refl
content_all (c ∷ cs) =
    let rest = content_all cs in
    let pieces = content_pieces c.pieces (flat_map messages_of cs) ∙ ap (λ t. content_of (concat c.pieces ++ t.more) t.files) rest ∙ ap (λ t. content_of t (map file_of cs)) (append-nil (concat c.pieces)) in
    ap (λ t. content_of [] (record { name = c.name; content = t.more } ∷ t.files)) pieces

files_of : (ms : List Message) (fs : List File) → AreUnderWay ms fs → (content ms).files ≡ fs
files_of ms fs w = ap (λ t. (content t).files) w.messages_are ∙ ap (λ t. t.files) (content_all w.carried) ∙ sym w.files_are

pub one_under_way : (ms : List Message) (fs gs : List File) → AreUnderWay ms fs → AreUnderWay ms gs → fs ≡ gs
one_under_way ms fs gs w v = sym (files_of ms fs w) ∙ files_of ms gs v

pub one_whole : (ms : List Message) (fs gs : List File) → AreFiles ms fs → AreFiles ms gs → fs ≡ gs
one_whole ms fs gs w v =
    let same = snoc_same w.before v.before [] [] (sym w.messages_are ∙ v.messages_are) in
    one_under_way w.before fs gs w.are_under_way (subst (λ t. AreUnderWay t gs) (sym same.0) v.are_under_way)

-- ---- what is written is read

pieces_good : (pieces : List (List ℕ)) → AreFull pieces → All IsPiece pieces
pieces_good [] h = All-nil IsPiece
pieces_good (p ∷ []) h = All-cons IsPiece p [] h (All-nil IsPiece)
pieces_good (p ∷ q ∷ rest) h = let full = h.0 in All-cons IsPiece p (q ∷ rest) (omega (arith, full), omega (arith, full)) (pieces_good (q ∷ rest) h.1)

pub written_read : (ms : List Message) (fs : List File) → AreWritten ms fs → AreFiles ms fs
written_read ms fs w = record {
  before = flat_map messages_of w.carried;
  messages_are = w.messages_are;
  are_under_way = record {
    carried = w.carried;
    messages_are = refl;
    files_are = w.files_are;
    are_good = All-weaker IsInFull IsCarried (λ c good. (good.0, pieces_good c.pieces good.1)) w.carried w.are_good;
    are_few = w.are_few;
  };
}
