-- Lemmas on the files that come and are kept.
use Rattle.std.proofs.Common.{◌≡◌, ◌≢◌, ℕ, suc, ◌+◌, ◌<◌, ◌≤◌, Bool, true, false, cond, List, [], ◌∷◌, ◌++◌, length, All, Option, Some, None, option_map, refl, sym, ap, ◌∙◌, subst, append_assoc, arith}
use Rattle.std.specs.Str.{bytes_eq}
use Rattle.std.specs.Prelude.{flat_map, string_bytes}
use Rattle.std.proofs.Math.Path.{fun_ext}
use Rattle.std.proofs.lemmas.Slice.Eq.{bytes_eq-Decides}
use Rattle.std.proofs.lemmas.List.Elements.{All-head, All-tail, All-weaker}
use Rattle.mt_outside.specs.Files.{Contents, replaced, emptied, grown}
use Rattle.file_messages.specs.Files.{Message, File, AreFiles, HaveCome}
use Rattle.file_messages.specs.Kept.{IsLast}
use Rattle.file_messages.proofs.Coming.{under_way_is_open}
use Rattle.file_messages.specs.Read.{added}
use Rattle.file_transfer.specs.Keeping.{IsKept, IsComing, AreKept, none, more, CameSo, CameAs, HasKept, shown, with_bytes, with_files}
use Rattle.file_transfer.specs.Lines.{line_of, kept_line, got_line}
use Rattle.file_transfer.specs.declared.incoming.Incoming.{Incoming}
use Rattle.file_transfer.specs.declared.coming.KeptFile.{KeptFile}
use Rattle.file_transfer.specs.declared.coming.Coming.{Coming}

-- ---- what is known of files

pub kept_more : (whole : List KeptFile) (files : List File) (kept : KeptFile) (file : File) → AreKept whole files → IsKept kept file → AreKept (whole ++ kept ∷ []) (files ++ file ∷ [])
kept_more _ _ kept file none is = more kept [] file [] is none
kept_more _ _ kept file (more first others head files known rest) is = more first (others ++ kept ∷ []) head (files ++ file ∷ []) known (kept_more others files kept file rest is)

pub finished_none : (prefix : List ℕ) (whole : List KeptFile) (before after : Option Coming) (files : List File) → before ≡ None → after ≡ None → CameSo false prefix whole before files → CameSo true prefix whole after files
finished_none prefix whole before after files was is came =
    let parts : (files ≡ []) × (whole ≡ []) = subst (λ c. CameSo false prefix whole c files) was came in
    subst (λ c. CameSo true prefix whole c files) (sym is) (subst (λ f. AreKept whole f) (sym parts.0) (subst (λ w. AreKept w []) (sym parts.1) none))

-- what is known of a file that comes still
pub going : (prefix : List ℕ) (whole : List KeptFile) (before : Option Coming) (coming : Coming) (files : List File) → before ≡ Some coming → CameSo false prefix whole before files
    → (others : List File) × (last : File) × (files ≡ others ++ last ∷ []) × AreKept whole others × IsComing prefix coming last
going prefix whole before coming files was came = subst (λ c. CameSo false prefix whole c files) was came

pub finished_some : (prefix : List ℕ) (whole now : List KeptFile) (before after : Option Coming) (coming : Coming) (kept : KeptFile) (files : List File) → before ≡ Some coming → after ≡ None → now ≡ whole ++ kept ∷ []
    → ((prefix : List ℕ) (file : File) → IsComing prefix coming file → IsKept kept file) → CameSo false prefix whole before files → CameSo true prefix now after files
finished_some prefix whole now before after coming kept files was is more_is known came =
    let parts = going prefix whole before coming files was came in
    subst (λ c. CameSo true prefix now c files) (sym is)
    (subst (λ w. AreKept w files) (sym more_is) (subst (AreKept (whole ++ kept ∷ [])) (sym parts.2) (kept_more whole parts.0 kept parts.1 parts.3 (known prefix parts.1 parts.4))))

pub all_kept : (prefix : List ℕ) (whole : List KeptFile) (coming : Option Coming) (files : List File) → CameSo true prefix whole coming files → AreKept whole files
all_kept prefix whole None files came = came
all_kept prefix whole (Some c) files came = absurd came

-- ---- the last of them

pub added_last : (bytes : List ℕ) (before : List File) (last : File) → added bytes (before ++ last ∷ []) ≡ before ++ with_bytes bytes last ∷ []
added_last bytes [] last = refl
added_last bytes (f ∷ []) last = refl
added_last bytes (f ∷ g ∷ before) last = ap (λ t. f ∷ t) (added_last bytes (g ∷ before) last)

-- ---- the store

pub with_one_more : (prefix : List ℕ) (files : List File) (file : File) (contents : Contents) → with_files prefix (files ++ file ∷ []) contents ≡ replaced (prefix ++ file.name) file.content (with_files prefix files contents)
with_one_more prefix [] file contents = refl
with_one_more prefix (f ∷ files) file contents = with_one_more prefix files file (replaced (prefix ++ f.name) f.content contents)

pub told_begun : (prefix : List ℕ) (files : List File) (name path : List ℕ) (first old new : Option Contents) → path ≡ prefix ++ name → old ≡ option_map (with_files prefix files) first → new ≡ option_map (emptied path) old
    → new ≡ option_map (with_files prefix (files ++ record { name = name; content = [] } ∷ [])) first
told_begun prefix files name path None old new is was made = made ∙ ap (option_map (emptied path)) was
told_begun prefix files name path (Some contents) old new is was made =
    made ∙ ap (option_map (emptied path)) was ∙ ap (λ p. Some (emptied p (with_files prefix files contents))) is ∙ ap Some (sym (with_one_more prefix files (record { name = name; content = [] }) contents))

grown_at : (b : Bool) (content bytes : List ℕ) (old : Option (List ℕ)) → cond b (option_map (λ content. content ++ bytes) (cond b (Some content) old)) (cond b (Some content) old) ≡ cond b (Some (content ++ bytes)) old
grown_at true content bytes old = refl
grown_at false content bytes old = refl

grown_replaced : (path content bytes : List ℕ) (contents : Contents) → grown path bytes (replaced path content contents) ≡ replaced path (content ++ bytes) contents
grown_replaced path content bytes contents = fun_ext (λ other. grown_at (bytes_eq path other) content bytes (contents other))

pub told_grown : (prefix : List ℕ) (before : List File) (last : File) (bytes path : List ℕ) (first old new : Option Contents) → path ≡ prefix ++ last.name → old ≡ option_map (with_files prefix (before ++ last ∷ [])) first → new ≡ option_map (grown path bytes) old
    → new ≡ option_map (with_files prefix (before ++ with_bytes bytes last ∷ [])) first
told_grown prefix before last bytes path None old new is was made = made ∙ ap (option_map (grown path bytes)) was
told_grown prefix before last bytes path (Some contents) old new is was made =
    let old_is = with_one_more prefix before last contents in
    let new_is = with_one_more prefix before (with_bytes bytes last) contents in
    made ∙ ap (option_map (grown path bytes)) was ∙ ap (λ p. Some (grown p bytes (with_files prefix (before ++ last ∷ []) contents))) is ∙ ap (λ t. Some (grown (prefix ++ last.name) bytes t)) old_is
    ∙ ap Some (grown_replaced (prefix ++ last.name) last.content bytes (with_files prefix before contents)) ∙ ap Some (sym new_is)

-- ---- what is kept

no_test : (b : Bool) → (b ≡ true → ⊥) → b ≡ false
no_test true h = absurd (h refl)
no_test false h = refl

unchanged : (path content name : List ℕ) (contents : Contents) → name ≢ path → replaced path content contents name ≡ contents name
unchanged path content name contents differs =
    ap (λ b. cond b (Some content) (contents name)) (no_test (bytes_eq path name) (λ same. differs (sym ((bytes_eq-Decides path name).0 same))))

pub others_stay : (prefix : List ℕ) (files : List File) (contents : Contents) (name : List ℕ) → All (λ (file : File). name ≢ prefix ++ file.name) files → with_files prefix files contents name ≡ contents name
others_stay prefix [] contents name all = refl
others_stay prefix (f ∷ files) contents name all =
    others_stay prefix files (replaced (prefix ++ f.name) f.content contents) name (All-tail (λ (file : File). name ≢ prefix ++ file.name) f files all)
    ∙ unchanged (prefix ++ f.name) f.content name contents (All-head (λ (file : File). name ≢ prefix ++ file.name) f files all)

same_back : (prefix a b : List ℕ) → prefix ++ a ≡ prefix ++ b → a ≡ b
same_back [] a b e = e
same_back (x ∷ prefix) a b e = let rest : prefix ++ a ≡ prefix ++ b = cc in same_back prefix a b rest

put_there : (path content : List ℕ) (contents : Contents) → replaced path content contents path ≡ Some content
put_there path content contents = ap (λ b. cond b (Some content) (contents path)) ((bytes_eq-Decides path path).1 refl)

kept_behind : (prefix : List ℕ) (before behind : List File) (contents : Contents) (file : File) → All (λ (other : File). file.name ≢ other.name) behind
    → with_files prefix (before ++ file ∷ behind) contents (prefix ++ file.name) ≡ Some file.content
kept_behind prefix [] behind contents file differ =
    others_stay prefix behind (replaced (prefix ++ file.name) file.content contents) (prefix ++ file.name) (All-weaker (λ (other : File). file.name ≢ other.name) (λ (other : File). prefix ++ file.name ≢ prefix ++ other.name) (λ other differs same. differs (same_back prefix file.name other.name same)) behind differ)
    ∙ put_there (prefix ++ file.name) file.content contents
kept_behind prefix (f ∷ before) behind contents file differ = kept_behind prefix before behind (replaced (prefix ++ f.name) f.content contents) file differ

pub last_is_kept : (prefix : List ℕ) (files : List File) (contents : Contents) (file : File) → IsLast files file → with_files prefix files contents (prefix ++ file.name) ≡ Some file.content
last_is_kept prefix files contents file last =
    ap (λ f. with_files prefix f contents (prefix ++ file.name)) last.files_are ∙ kept_behind prefix last.before last.behind contents file last.none_behind

-- ---- the lines

pub lines_are : (mark : List ℕ) (whole : List KeptFile) (files : List File) → AreKept whole files → flat_map (kept_line mark) whole ≡ flat_map (got_line mark) files
lines_are mark _ _ none = refl
lines_are mark _ _ (more kept others file files is rest) =
    let line : kept_line mark kept ≡ got_line mark file = ap (λ n. line_of mark n kept.size kept.digest) is.name_is ∙ ap (λ n. line_of mark file.name n kept.digest) is.size_is ∙ ap (line_of mark file.name (shown (length file.content))) is.digest_is in
    ap (λ l. l ++ flat_map (kept_line mark) others) line ∙ ap (λ l. got_line mark file ++ l) (lines_are mark others files rest)

-- the files of whole messages are whole
pub whole_at_end : (i : Incoming) (messages : List Message) (files : List File) → HasKept i messages files → AreFiles messages files → AreKept i.arrivals.whole.items files
whole_at_end i messages files h are =
    let ended : i.reader.is_ended ≡ true = at_end i.reader.is_ended messages files h.read.have_come are in
    all_kept (string_bytes i.arrivals.prefix) i.arrivals.whole.items i.arrivals.coming files (subst (λ b. CameAs b i.arrivals files) ended h.came)
  where
    at_end : (ended : Bool) (messages : List Message) (files : List File) → HaveCome ended messages files → AreFiles messages files → ended ≡ true
    at_end true messages files come are = refl
    at_end false messages files come are = absurd (under_way_is_open messages files files come are)
