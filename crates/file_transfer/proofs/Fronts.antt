-- Lemmas on messages that go on: what was made of files is the beginning of all that is made of them.
use Rattle.std.proofs.Common.{◌≡◌, ℕ, zero, suc, ◌+◌, ◌-◌, ◌<◌, ◌≤◌, List, [], ◌∷◌, ◌++◌, length, map, take, drop, All, Option, refl, sym, ap, ◌∙◌, subst, append_assoc, arith, length-drop, length-append}
use Rattle.std.specs.Prelude.{flat_map, slice_index_or}
use Rattle.std.specs.List.{concat}
use Rattle.std.proofs.lemmas.List.{append-nil, map-append, length-map, take-append-drop, drop_more, drop_all}
use Rattle.std.proofs.lemmas.List.Folds.{concat-append}
use Rattle.std.proofs.lemmas.List.Elements.{All-append, All-cons, All-nil, All-head, All-tail}
use Rattle.std.proofs.lemmas.Grind.{flat_map-append}
use Rattle.file_messages.specs.Files.{Message, File, Carried, IsName, messages_of, file_of, name_message, piece_message}
use Rattle.file_messages.specs.Written.{AreFull, IsInFull, AreWritten}
use Rattle.file_messages.proofs.Coming.{snoc_same}
use Rattle.file_messages.proofs.EachCut.{each_written, cut, cut_joins, cut_full}
use Rattle.file_transfer.specs.Own.{Own}
use Rattle.file_transfer.specs.Sending.{AreMade, AreMadeWithin, AreMadeAll, MadeAt, FollowAt, IsFront, contents_of, waiting}
use Rattle.file_transfer.specs.declared.outgoing.Stage.{Stage}
use Rattle.file_transfer.specs.declared.outgoing.Stage.TheVariants.{Between, Within, Ended}
use Rattle.file_transfer.proofs.Made.{IsWhole, all_made, closed}

abbrev Named : Own → Type 0
Named own = IsName own.name

-- own files with contents
abbrev paired : List Own → List (List ℕ) → List File
paired [] contents = []
paired (own ∷ owns) [] = []
paired (own ∷ owns) (content ∷ contents) = record { name = own.name; content = content } ∷ paired owns contents

paired_names : (owns : List Own) (contents : List (List ℕ)) → length contents ≡ length owns → map (λ (f : File). f.name) (paired owns contents) ≡ map (λ (own : Own). own.name) owns
paired_names [] contents size = refl
paired_names (own ∷ owns) [] size = absurd (omega (arith, size))
paired_names (own ∷ owns) (content ∷ contents) size = ap (λ t. own.name ∷ t) (paired_names owns contents (omega (arith, size)))

paired_contents : (owns : List Own) (contents : List (List ℕ)) → length contents ≡ length owns → contents_of (paired owns contents) ≡ contents
paired_contents [] [] size = refl
paired_contents [] (content ∷ contents) size = absurd (omega (arith, size))
paired_contents (own ∷ owns) [] size = refl
paired_contents (own ∷ owns) (content ∷ contents) size = ap (λ t. content ∷ t) (paired_contents owns contents (omega (arith, size)))

paired_good : (owns : List Own) (contents : List (List ℕ)) → All Named owns → All (λ (f : File). IsName f.name) (paired owns contents)
paired_good [] contents all = All-nil (λ (f : File). IsName f.name)
paired_good (own ∷ owns) [] all = All-nil (λ (f : File). IsName f.name)
paired_good (own ∷ owns) (content ∷ contents) all =
    All-cons (λ (f : File). IsName f.name) (record { name = own.name; content = content }) (paired owns contents) (All-head Named own owns all) (paired_good owns contents (All-tail Named own owns all))

dropped_good : (n : ℕ) (owns : List Own) → All Named owns → All Named (drop n owns)
dropped_good zero owns all = all
dropped_good (suc n) [] all = all
dropped_good (suc n) (own ∷ owns) all = dropped_good n owns (All-tail Named own owns all)

-- what goes on behind whole files
behind_whole : (owns later : List Own) (messages : List Message) (files : List File) (contents : List (List ℕ)) → length owns + length later ≤ 256 → AreMade owns messages files → All Named later → length contents ≡ length later
    → (rest : List Message) × (others : List File) × AreWritten (messages ++ rest) (files ++ others) × (contents_of others ≡ contents) × (map (λ (f : File). f.name) (files ++ others) ≡ map (λ (own : Own). own.name) (owns ++ later))
behind_whole owns later messages files contents few m good size =
    let others = paired later contents in
    let count : length others ≡ length later = sym (length-map others (λ (f : File). f.name)) ∙ ap length (paired_names later contents size) ∙ length-map later (λ (own : Own). own.name) in
    let written = each_written others (paired_good later contents good) (omega (arith, few, count)) in
    let w = written.1 in
    let made : length m.carried ≡ length owns = sym (length-map m.carried (λ (c : Carried). c.name)) ∙ ap length m.names_are ∙ length-map owns (λ (own : Own). own.name) in
    let next : length w.carried ≡ length later = sym (length-map w.carried file_of) ∙ sym (ap length w.files_are) ∙ count in
    let all : length (m.carried ++ w.carried) ≡ length m.carried + length w.carried = length-append m.carried w.carried in (
      written.0,
      others,
      record {
        carried = m.carried ++ w.carried;
        messages_are = ap (λ t. t ++ written.0) m.messages_are ∙ ap (λ t. flat_map messages_of m.carried ++ t) w.messages_are ∙ sym (append_assoc (flat_map messages_of m.carried) (flat_map messages_of w.carried) ([] ∷ []))
            ∙ ap (λ t. t ++ ([] ∷ [])) (sym (flat_map-append messages_of m.carried w.carried));
        files_are = ap (λ t. t ++ others) m.files_are ∙ ap (λ t. map file_of m.carried ++ t) w.files_are ∙ sym (map-append file_of m.carried w.carried);
        are_good = All-append IsInFull m.carried w.carried m.are_good w.are_good;
        are_few = omega (arith, all, made, next, few);
      },
      paired_contents later contents size,
      map-append (λ (f : File). f.name) files others ∙ ap (λ t. t ++ map (λ (f : File). f.name) others) (ap (map (λ (f : File). f.name)) m.files_are ∙ names_of m.carried ∙ m.names_are)
          ∙ ap (λ t. map (λ (own : Own). own.name) owns ++ t) (paired_names later contents size) ∙ sym (map-append (λ (own : Own). own.name) owns later),
    )
  where
    names_of : (cs : List Carried) → map (λ (f : File). f.name) (map file_of cs) ≡ map (λ (c : Carried). c.name) cs
    names_of [] = refl
    names_of (c ∷ cs) = ap (λ t. c.name ∷ t) (names_of cs)

full_append : (ps qs : List (List ℕ)) → All IsWhole ps → AreFull qs → AreFull (ps ++ qs)
full_append [] qs all full = full
full_append (p ∷ []) [] all full = let whole = All-head IsWhole p [] all in (omega (arith, whole), omega (arith, whole))
full_append (p ∷ []) (q ∷ qs) all full = (All-head IsWhole p [] all, full)
full_append (p ∷ r ∷ ps) qs all full = (All-head IsWhole p (r ∷ ps) all, full_append (r ∷ ps) qs (All-tail IsWhole p (r ∷ ps) all) full)

rest_of : List ℕ → List (List ℕ)
rest_of bytes = cut 65536 (length bytes) bytes

rest_joins : (bytes : List ℕ) → concat (rest_of bytes) ≡ bytes
unfolding rest_of
rest_joins bytes = cut_joins 65536 (length bytes) bytes refl (omega arith)

rest_full : (bytes : List ℕ) → AreFull (rest_of bytes)
unfolding rest_of
rest_full bytes = cut_full 65536 (length bytes) bytes refl (omega arith)

-- whole files, and what goes on behind them
front_whole : (owns first later : List Own) (messages : List Message) (files : List File) (contents before behind : List (List ℕ)) → owns ≡ first ++ later → length owns ≤ 256 → All Named later
    → AreMade first messages files → contents ≡ before ++ behind → contents_of files ≡ before → length behind ≡ length later → IsFront owns contents messages
front_whole owns first later messages files contents before behind parts few good m both follow size =
    let count : length owns ≡ length first + length later = ap length parts ∙ length-append first later in
    let on = behind_whole first later messages files behind (omega (arith, count, few)) m good size in
    record {
      files = files ++ on.1;
      rest = on.0;
      are_written = on.2;
      names_are = on.4 ∙ ap (map (λ (own : Own). own.name)) (sym parts);
      contents_are = map-append (λ (f : File). f.content) files on.1 ∙ ap (λ t. t ++ contents_of on.1) follow ∙ ap (λ t. before ++ t) on.3 ∙ sym both;
    }

-- a front of a front
shorter : (owns : List Own) (contents : List (List ℕ)) (sent more : List Message) → IsFront owns contents (sent ++ more) → IsFront owns contents sent
shorter owns contents sent more f = record {
  files = f.files;
  rest = more ++ f.rest;
  are_written = subst (λ m. AreWritten m f.files) (append_assoc sent more f.rest) f.are_written;
  names_are = f.names_are;
  contents_are = f.contents_are;
}

pub front : (stage : Stage) (owns : List Own) (made at : ℕ) (contents : List (List ℕ)) (sent : List Message) (draft : Option Message) (files : List File) → length owns ≤ 256 → All Named owns → length contents ≡ length owns
    → MadeAt stage owns made at (sent ++ waiting draft) files → FollowAt stage made at contents files → IsFront owns contents sent
front Between owns made at contents sent draft files few good size m follow =
    let rest : length (drop made contents) ≡ length (drop made owns) = length-drop made contents ∙ ap (λ k. k - made) size ∙ sym (length-drop made owns) in
    shorter owns contents sent (waiting draft) (front_whole owns (take made owns) (drop made owns) (sent ++ waiting draft) files contents (take made contents) (drop made contents) (sym (take-append-drop made owns)) few (dropped_good made owns good) m
    (sym (take-append-drop made contents)) follow rest)
front Within owns made at contents sent draft files few good size (own, later, here, w) follow =
    let c = slice_index_or contents made [] in
    let parts = snoc_same (contents_of w.before) (take made contents) (concat w.last.pieces) (take at c) (sym (map-append (λ (f : File). f.content) w.before (file_of w.last ∷ [])) ∙ ap contents_of (sym w.files_are) ∙ follow) in
    let pieces = rest_of (drop at c) in
    let long : Carried = record { name = w.last.name; pieces = w.last.pieces ++ pieces } in
    let content : concat long.pieces ≡ c = concat-append w.last.pieces pieces ∙ ap (λ t. t ++ concat pieces) parts.1 ∙ ap (λ t. take at c ++ t) (rest_joins (drop at c)) ∙ take-append-drop at c in
    let whole = closed (take made owns) own w.whole w.before long w.are_made w.name_is (w.is_name, full_append w.last.pieces pieces w.are_full (rest_full (drop at c))) in
    let messages : w.whole ++ messages_of long ≡ (sent ++ waiting draft) ++ map piece_message pieces =
    ap (λ t. w.whole ++ name_message w.last.name ∷ t) (map-append piece_message w.last.pieces pieces) ∙ sym (append_assoc w.whole (messages_of w.last) (map piece_message pieces)) ∙ ap (λ t. t ++ map piece_message pieces) (sym w.messages_are) in
    let sized : length owns - made ≡ suc (length later) = sym (length-drop made owns) ∙ ap length here in
    let there : made < length contents = omega (arith, sized, size) in
    let owns_are : owns ≡ (take made owns ++ own ∷ []) ++ later = sym (take-append-drop made owns) ∙ ap (λ t. take made owns ++ t) here ∙ sym (append_assoc (take made owns) (own ∷ []) later) in
    let contents_are : contents ≡ (take made contents ++ c ∷ []) ++ drop (made + 1) contents =
    sym (take-append-drop made contents) ∙ ap (λ t. take made contents ++ t) (drop_more contents made [] there) ∙ sym (append_assoc (take made contents) (c ∷ []) (drop (made + 1) contents)) in
    let rest : length (drop (made + 1) contents) ≡ length later = let l = length-drop (made + 1) contents in omega (arith, l, sized, size) in
    let follows : contents_of (w.before ++ file_of long ∷ []) ≡ take made contents ++ c ∷ [] = map-append (λ (f : File). f.content) w.before (file_of long ∷ []) ∙ ap (λ t. t ++ concat long.pieces ∷ []) parts.0 ∙ ap (λ t. take made contents ++ t ∷ []) content in
    let all = front_whole owns (take made owns ++ own ∷ []) later (w.whole ++ messages_of long) (w.before ++ file_of long ∷ []) contents (take made contents ++ c ∷ []) (drop (made + 1) contents) owns_are few (All-tail Named own later (subst (All Named) here (dropped_good made owns good))) whole contents_are follows rest in
    shorter owns contents sent (waiting draft) (shorter owns contents (sent ++ waiting draft) (map piece_message pieces) (subst (IsFront owns contents) messages all))
front Ended owns made at contents sent draft files few good size m follow =
    let all = all_made owns (sent ++ waiting draft) files few (subst (λ t. AreMadeAll owns t files) (sym (append-nil (sent ++ waiting draft))) m) in
    record {
      files = files;
      rest = waiting draft;
      are_written = all.0;
      names_are = all.1;
      contents_are = follow;
    }
