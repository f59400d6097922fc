-- What pieces make: of one message, of messages one behind the other, and of a message under way.
use Rattle.std.proofs.Common.{◌≡◌, eqb, ℕ, ◌<◌, true, false, List, [], ◌∷◌, ◌++◌, length, map, Option, Some, None, refl, sym, ap, ◌∙◌, subst, subst₂, arith}
use Rattle.std.proofs.lemmas.Bool.{ne_eqb, eq-eqb}
use Rattle.std.proofs.lemmas.List.{append_assoc, append-nil, map-append, length-append}
use Rattle.mt_base.specs.Writing.{joined}
use Rattle.dvc_channels.specs.Pieces.{Piece, First, Next, Part, part_of, whole_of, under_way_from, messages_from}
use Rattle.dvc_channels.specs.Cutting.{IsCut, lone, at_once, filled, AreCut, none, more, IsBegun, nothing, begun, Are, InOrder}
use Rattle.dvc_channels.proofs.Further.{messages_behind, under_way_behind, both_in_order}

-- behind this message under way pieces are in order, and make these messages and that one under way
pub record Makes (part : Option Part) (pieces : List Piece) (whole : List (List ℕ)) (after : Option Part) : Type 0 where
  pub in_order : InOrder part pieces
  pub messages_are : messages_from part pieces ≡ whole
  pub after_is : under_way_from part pieces ≡ after

-- pieces behind pieces
pub behind : (part between after : Option Part) (pieces next : List Piece) (whole added : List (List ℕ))
    → Makes part pieces whole between → Makes between next added after → Makes part (pieces ++ next) (whole ++ added) after
behind part between after pieces next whole added m n = record {
  in_order = both_in_order part pieces next m.in_order (subst (λ p. InOrder p next) (sym m.after_is) n.in_order);
  messages_are = messages_behind part pieces next ∙ rw (m.messages_are, m.after_is, n.messages_are) refl;
  after_is = under_way_behind part pieces next ∙ rw m.after_is n.after_is;
}

-- a message under way
abbrev pub going : ℕ → List ℕ → Option Part
going total bytes = Some (record { total = total; bytes = bytes })

-- bytes short of a message's length are no message
pub short_part : (total : ℕ) (bytes : List ℕ) → length bytes < total → part_of total bytes ≡ going total bytes
short_part total bytes h =
    let e : eqb total (length bytes) ≡ false = ne_eqb total (length bytes) (λ e. omega arith) in rw e refl

pub short_whole : (total : ℕ) (bytes : List ℕ) → length bytes < total → whole_of total bytes ≡ []
short_whole total bytes h =
    let e : eqb total (length bytes) ≡ false = ne_eqb total (length bytes) (λ e. omega arith) in rw e refl

-- all bytes of a message are it
pub full_part : (total : ℕ) (bytes : List ℕ) → total ≡ length bytes → part_of total bytes ≡ None
full_part total bytes h = let e : eqb total (length bytes) ≡ true = eq-eqb total (length bytes) h in rw e refl

pub full_whole : (total : ℕ) (bytes : List ℕ) → total ≡ length bytes → whole_of total bytes ≡ bytes ∷ []
full_whole total bytes h = let e : eqb total (length bytes) ≡ true = eq-eqb total (length bytes) h in rw e refl

-- first bytes of a message, but not all
first_makes : (total : ℕ) (bytes : List ℕ) → length bytes < total → Makes None (First total bytes ∷ []) [] (going total bytes)
first_makes total bytes h = record {
  in_order = (omega arith, tt);
  messages_are = rw (short_whole total bytes h) refl;
  after_is = short_part total bytes h;
}

-- further bytes, but not all
next_makes : (total : ℕ) (bytes next : List ℕ) → length (bytes ++ next) < total → Makes (going total bytes) (Next next ∷ []) [] (going total (bytes ++ next))
next_makes total bytes next h = record {
  in_order = (omega (arith, length-append bytes next), tt);
  messages_are = rw (short_whole total (bytes ++ next) h) refl;
  after_is = short_part total (bytes ++ next) h;
}

-- the last bytes
last_makes : (total : ℕ) (bytes next : List ℕ) → total ≡ length (bytes ++ next) → Makes (going total bytes) (Next next ∷ []) ((bytes ++ next) ∷ []) None
last_makes total bytes next h = record {
  in_order = (omega (arith, length-append bytes next), tt);
  messages_are = rw (full_whole total (bytes ++ next) h) refl;
  after_is = full_part total (bytes ++ next) h;
}

-- further bytes in pieces, but not all
further_make : (total : ℕ) (bytes : List ℕ) (further : List (List ℕ)) → length (bytes ++ joined further) < total
    → Makes (going total bytes) (map Next further) [] (going total (bytes ++ joined further))
further_make total bytes [] h =
    record { in_order = tt; messages_are = refl; after_is = ap (going total) (sym (append-nil bytes)) }
further_make total bytes (f ∷ fs) h =
    let same : (bytes ++ f) ++ joined fs ≡ bytes ++ (f ++ joined fs) = append_assoc bytes f (joined fs) in
    let less : length (bytes ++ f) < total = omega (arith, ap length same, length-append (bytes ++ f) (joined fs)) in
    let others = further_make total (bytes ++ f) fs (omega (arith, ap length same)) in
    let all = behind (going total bytes) (going total (bytes ++ f)) (going total ((bytes ++ f) ++ joined fs)) (Next f ∷ []) (map Next fs) [] [] (next_makes total bytes f less) others in
    subst (λ t. Makes (going total bytes) (map Next (f ∷ fs)) [] (going total t)) same all

-- the pieces of a message that is not whole yet
begun_make : (total : ℕ) (first : List ℕ) (further : List (List ℕ)) → length (first ++ joined further) < total
    → Makes None (First total first ∷ map Next further) [] (going total (first ++ joined further))
begun_make total first further h =
    let less : length first < total = omega (arith, length-append first (joined further)) in
    behind None (going total first) (going total (first ++ joined further)) (First total first ∷ []) (map Next further) [] []
    (first_makes total first less) (further_make total first further h)

filled_make : (first : List ℕ) (middle : List (List ℕ)) (last : List ℕ) → 0 < length last → (total : ℕ) → total ≡ length (first ++ joined middle ++ last)
    → Makes None (First total first ∷ map Next (middle ++ last ∷ [])) ((first ++ joined middle ++ last) ∷ []) None
filled_make first middle last some total is =
    let less : length (first ++ joined middle) < total = omega (arith, length-append (first ++ joined middle) last) in
    let all = behind None (going total (first ++ joined middle)) None (First total first ∷ map Next middle) (Next last ∷ []) [] ((first ++ joined middle ++ last) ∷ [])
    (begun_make total first middle less) (last_makes total (first ++ joined middle) last is) in
    subst (λ t. Makes None (First total first ∷ t) ((first ++ joined middle ++ last) ∷ []) None) (sym (map-append Next middle (last ∷ []))) all

-- a message in pieces
pub cut_makes : (pieces : List Piece) (message : List ℕ) → IsCut pieces message → Makes None pieces (message ∷ []) None
cut_makes _ _ (lone bytes) = record { in_order = (tt, tt); messages_are = refl; after_is = refl }
cut_makes _ _ (at_once bytes) = record {
  in_order = (omega arith, tt);
  messages_are = rw (full_whole (length bytes) bytes refl) refl;
  after_is = full_part (length bytes) bytes refl;
}
cut_makes _ _ (filled first middle last some) = filled_make first middle last some (length (first ++ joined middle ++ last)) refl

-- messages in pieces
pub cuts_make : (pieces : List Piece) (whole : List (List ℕ)) → AreCut pieces whole → Makes None pieces whole None
cuts_make _ _ none = record { in_order = tt; messages_are = refl; after_is = refl }
cuts_make _ _ (more pieces rest message messages cut cuts) =
    behind None None None pieces rest (message ∷ []) messages (cut_makes pieces message cut) (cuts_make rest messages cuts)

rest_makes : (rest : List Piece) (part : Option Part) → IsBegun rest part → Makes None rest [] part
rest_makes _ _ nothing = record { in_order = tt; messages_are = refl; after_is = refl }
rest_makes _ _ (begun total first further less) = begun_make total first further less

-- pieces of whole messages and of one under way
pub all_make : (pieces : List Piece) (whole : List (List ℕ)) (part : Option Part) → Are pieces whole part → Makes None pieces whole part
all_make pieces whole part a =
    let all = behind None None part a.cut a.rest whole [] (cuts_make a.cut whole a.whole) (rest_makes a.rest part a.begun) in
    subst₂ (λ p w. Makes None p w part) (sym a.pieces_are) (append-nil whole) all
