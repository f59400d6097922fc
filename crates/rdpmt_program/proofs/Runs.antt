-- From what the parts of a command came to, to what the command came to.
use Rattle.std.proofs.Common.{◌≡◌, ◌≢◌, ℕ, ◌<◌, ◌≤◌, inl, inr, not, false, List, [], ◌∷◌, length, get_or, replicate, codes, map, string_bytes, Option, Some, None, Result, Ok, Err, refl, sym, ap, ◌∙◌, subst, append-nil, arith}
use Rattle.std.specs.Global.{Global}
use Rattle.std.specs.declared.string.String.{String}
use Rattle.std.proofs.lemmas.List.Elements.{All-nil, All-replicate}
use Rattle.std.specs.Str.{bytes_eq}
use Rattle.std.proofs.lemmas.Bool.{not-false}
use Rattle.std.proofs.lemmas.Slice.Eq.{bytes_eq-Decides}
use Rattle.mt_script.specs.Lines.{lines_of}
use Rattle.mt_script.specs.Meaning.{ReadsAs, line_limit}
use Rattle.mt_script.specs.declared.event.Line.{Line}
use Rattle.mt_base.specs.declared.kinds.Role.{Role}
use Rattle.mt_base.specs.Trace.{Trace}
use Rattle.mt_world.specs.Acts.{Entry}
use Rattle.mt_world.specs.Net.{Safe}
use Rattle.mt_world.specs.Play.{start, play, Ending, Done}
use Rattle.mt_world.specs.Report.{report}
use Rattle.mt_outside.specs.Files.{Contents}
use Rattle.mt_outside.specs.Told.{added}
use Rattle.rdpmt_program.specs.declared.fault.Fault.{Fault}
use Rattle.rdpmt_program.specs.declared.fault.Fault.TheVariants.{Usage, Refused, Broken, File, Limit, NoMemory}
use Rattle.mt_show.specs.declared.refusal.ShowRefusal.TheVariants.{BadLine}
use Rattle.mt_show.specs.Answer.{ShownAs}
use Rattle.capture_check.specs.declared.entry.Entry.{Entry as CaptureEntry}
use Rattle.capture_check.specs.declared.entry.CaptureRefusal.TheVariants as capture
use Rattle.capture_check.specs.declared.judgement.Judgement.{Judgement}
use Rattle.capture_check.specs.Meaning.{ReadsAs as ReadsAsCapture}
use Rattle.capture_check.specs.Rules.{Judged}
use Rattle.rdpmt_program.specs.declared.words.Command.{Command}
use Rattle.rdpmt_program.specs.declared.words.Command.TheVariants.{Play, Show, Check}
use Rattle.rdpmt_program.specs.Command.{words_of, IsOption, IsPlay, IsShow, IsCheck, AsksFor, IsCommand}
use Rattle.rdpmt_program.specs.Script.{PlaysTo, IsRefused, refused_line}
use Rattle.rdpmt_program.specs.Table.{IsTextOf, PassesLimit, script_report, show_answers, capture_holds, script_line, show_line, capture_line, AskedFor}
use Rattle.rdpmt_program.specs.Fate.{IsRead, IsReadOf, ReadsText, Gives, GivesShown, GivesChecked, Judges, Says, Runs, Refuses}

-- two words
pub two_words : (xs ws : List (String Global)) (a b : String Global) → 2 ≤ length xs → length xs < 3 → a ≡ get_or xs 0 a → b ≡ get_or xs 1 b
    → xs ≡ ws → words_of ws ≡ string_bytes a ∷ string_bytes b ∷ []
two_words [] ws a b long short first second is = absurd (omega arith)
two_words (x ∷ []) ws a b long short first second is = absurd (omega arith)
two_words (x ∷ y ∷ []) ws a b long short first second is =
    sym (ap (map string_bytes) is) ∙ ap (λ t. t ∷ string_bytes y ∷ []) (sym (ap string_bytes first)) ∙ ap (λ t. string_bytes a ∷ t ∷ []) (sym (ap string_bytes second))
two_words (x ∷ y ∷ z ∷ zs) ws a b long short first second is = absurd (omega arith)

heads : (a b x y : List ℕ) → a ∷ b ∷ [] ≡ x ∷ y ∷ [] → (a ≡ x) × (b ≡ y)
heads a b x y e = (cc, cc)

no_command : (words : List (List ℕ)) (first name : List ℕ) → words ≡ first ∷ name ∷ [] → (first ≢ codes "play") × (first ≢ codes "show") × (first ≢ codes "check") → ¬ IsCommand words
no_command words first name is other (k, inl play) = other.0 (heads first name (codes "play") k (sym is ∙ play.words_are)).0
no_command words first name is other (k, inr (inl show)) = other.1 (heads first name (codes "show") k (sym is ∙ show.words_are)).0
no_command words first name is other (k, inr (inr check)) = other.2 (heads first name (codes "check") k (sym is ∙ check.words_are)).0

-- a second word that is an option is no name
pub only_option : (words : List (List ℕ)) (first name : List ℕ) → words ≡ first ∷ name ∷ [] → IsOption name → ¬ IsCommand words
only_option words first name is option (k, inl play) = play.no_option (subst IsOption (heads first name (codes "play") k (sym is ∙ play.words_are)).1 option)
only_option words first name is option (k, inr (inl show)) = show.no_option (subst IsOption (heads first name (codes "show") k (sym is ∙ show.words_are)).1 option)
only_option words first name is option (k, inr (inr check)) = check.no_option (subst IsOption (heads first name (codes "check") k (sym is ∙ check.words_are)).1 option)

-- two words of which the second is no option
pub by_word : (words : List (List ℕ)) (first name : List ℕ) (command : Option Command) → words ≡ first ∷ name ∷ [] → ¬ IsOption name → IsReadOf first name command → IsRead words command
by_word words first name None is plain h = no_command words first name is h
by_word words first name (Some (Play script)) is plain h =
    record { words_are = is ∙ ap (λ w. w ∷ name ∷ []) h.0 ∙ ap (λ w. codes "play" ∷ w ∷ []) (sym h.1); no_option = λ o. plain (subst IsOption h.1 o) }
by_word words first name (Some (Show file)) is plain h =
    record { words_are = is ∙ ap (λ w. w ∷ name ∷ []) h.0 ∙ ap (λ w. codes "show" ∷ w ∷ []) (sym h.1); no_option = λ o. plain (subst IsOption h.1 o) }
by_word words first name (Some (Check capture)) is plain h =
    record { words_are = is ∙ ap (λ w. w ∷ name ∷ []) h.0 ∙ ap (λ w. codes "check" ∷ w ∷ []) (sym h.1); no_option = λ o. plain (subst IsOption h.1 o) }

-- a line that is refused
pub gives_refusal : (text line : List ℕ) (fault : Fault) → Refuses fault line → IsRefused text line → Gives text (Err fault)
gives_refusal text line (Refused told) is why = subst (IsRefused text) (sym is) why
gives_refusal text line NoMemory is why = tt
gives_refusal text line Usage is why = absurd is
gives_refusal text line (Broken told) is why = absurd is
gives_refusal text line File is why = absurd is
gives_refusal text line Limit is why = absurd is

-- a line of a show file that is refused
pub shows_refusal : (text : List ℕ) (line : ℕ) (fault : Fault) → Refuses fault (refused_line line (codes "BadLine")) → ShownAs text (Err (BadLine line)) → GivesShown text (Err fault)
shows_refusal text line (Refused told) is why = (line, why, is)
shows_refusal text line NoMemory is why = tt
shows_refusal text line Usage is why = absurd is
shows_refusal text line (Broken told) is why = absurd is
shows_refusal text line File is why = absurd is
shows_refusal text line Limit is why = absurd is

-- a line of a capture that is refused
pub checks_refusal : (text : List ℕ) (line : ℕ) (fault : Fault) → Refuses fault (refused_line line (codes "BadLine")) → ReadsAsCapture text (Err (capture.BadLine line)) → GivesChecked text (Err fault)
checks_refusal text line (Refused told) is why = (line, why, is)
checks_refusal text line NoMemory is why = tt
checks_refusal text line Usage is why = absurd is
checks_refusal text line (Broken told) is why = absurd is
checks_refusal text line File is why = absurd is
checks_refusal text line Limit is why = absurd is

-- a capture that was read is judged, and what that came to is said
pub judges : (entries : List CaptureEntry) (judgement : Judgement) (result : Result (List ℕ) Fault) → Judged 8 entries judgement → Says judgement result → Judges entries result
judges entries judgement (Ok output) judged says = (subst (Judged 8 entries) says.0 judged, says.1)
judges entries judgement (Err (Broken printed)) judged says = (says.0, says.1, subst (Judged 8 entries) says.2 judged, says.3)
judges entries judgement (Err NoMemory) judged says = tt
judges entries judgement (Err Usage) judged says = absurd says
judges entries judgement (Err (Refused line)) judged says = absurd says
judges entries judgement (Err File) judged says = absurd says
judges entries judgement (Err Limit) judged says = absurd says

pub checks_capture : (text : List ℕ) (entries : List CaptureEntry) (result : Result (List ℕ) Fault) → ReadsAsCapture text (Ok entries) → Judges entries result → GivesChecked text result
checks_capture text entries (Ok output) reads h = (record { entries = entries; reads = reads; judged = h.0 }, h.1)
checks_capture text entries (Err (Broken printed)) reads h = (h.0, h.1, record { entries = entries; reads = reads; judged = h.2 }, h.3)
checks_capture text entries (Err NoMemory) reads h = tt
checks_capture text entries (Err Usage) reads h = absurd h
checks_capture text entries (Err (Refused line)) reads h = absurd h
checks_capture text entries (Err File) reads h = absurd h
checks_capture text entries (Err Limit) reads h = absurd h

-- a file has more lines than it may have
many_lines : (words : List (List ℕ)) (told : Option Contents) (name text : List ℕ) → AsksFor words name → IsTextOf told name text → line_limit < length (lines_of text) → PassesLimit words told
many_lines words told name text named is many =
    let P : List ℕ → Type 0 = λ t. line_limit < length (lines_of t) in
    record { name = name; named = named; too_long = λ content holds. inr (subst P (is.content content holds) many); there = is.there }

-- the text of the named script was played
pub by_play : (words : List (List ℕ)) (told : Option Contents) (before after : ℕ) (name text : List ℕ) (result : Result (List ℕ) Fault) → IsPlay words name → IsTextOf told name text → Gives text result → Runs words told before after result
by_play words told before after name text (Ok output) named is plays = script_report text (record { name = name; named = named; is_text = is }) plays
by_play words told before after name text (Err Usage) named is plays = absurd plays
by_play words told before after name text (Err (Refused line)) named is plays = script_line text (record { name = name; named = named; is_text = is }) plays
by_play words told before after name text (Err (Broken line)) named is plays = absurd plays
by_play words told before after name text (Err File) named is plays = absurd plays
by_play words told before after name text (Err Limit) named is plays = many_lines words told name text (inl named) is plays
by_play words told before after name text (Err NoMemory) named is plays = (name, inl named)

-- the text of the named show file was shown
pub by_show : (words : List (List ℕ)) (told : Option Contents) (before after : ℕ) (name text : List ℕ) (result : Result (List ℕ) Fault) → IsShow words name → IsTextOf told name text → GivesShown text result → Runs words told before after result
by_show words told before after name text (Ok output) named is shows = show_answers text (record { name = name; named = named; is_text = is }) shows
by_show words told before after name text (Err Usage) named is shows = absurd shows
by_show words told before after name text (Err (Refused line)) named is shows = show_line text shows.0 (record { name = name; named = named; is_text = is }) shows.1 shows.2
by_show words told before after name text (Err (Broken line)) named is shows = absurd shows
by_show words told before after name text (Err File) named is shows = absurd shows
by_show words told before after name text (Err Limit) named is shows = many_lines words told name text (inr (inl named)) is shows
by_show words told before after name text (Err NoMemory) named is shows = (name, inr (inl named))

-- the text of the named capture was checked
pub by_check : (words : List (List ℕ)) (told : Option Contents) (before after : ℕ) (name text : List ℕ) (result : Result (List ℕ) Fault) → IsCheck words name → IsTextOf told name text → GivesChecked text result → Runs words told before after result
by_check words told before after name text (Ok output) named is checks = capture_holds text (record { name = name; named = named; is_text = is }) checks.0 checks.1
by_check words told before after name text (Err Usage) named is checks = absurd checks
by_check words told before after name text (Err (Refused line)) named is checks = capture_line text checks.0 (record { name = name; named = named; is_text = is }) checks.1 checks.2
by_check words told before after name text (Err (Broken printed)) named is checks = record {
  text = text;
  line = checks.0;
  rule = checks.1;
  is_capture = record { name = name; named = named; is_text = is };
  judged = checks.2;
  output_is = checks.3;
}
by_check words told before after name text (Err File) named is checks = absurd checks
by_check words told before after name text (Err Limit) named is checks = many_lines words told name text (inr (inr named)) is checks
by_check words told before after name text (Err NoMemory) named is checks = (name, inr (inr named))

-- the named file was not read
pub by_fault : (words : List (List ℕ)) (told : Option Contents) (before after : ℕ) (name : List ℕ) (fault : Fault) → AsksFor words name → ReadsText told name before after (Err fault) → Runs words told before after (Err fault)
by_fault words told before after name Usage named h = absurd h
by_fault words told before after name (Refused line) named h = absurd h
by_fault words told before after name (Broken line) named h = absurd h
by_fault words told before after name File named h = ((name, named), h)
by_fault words told before after name Limit named h = record { name = name; named = named; too_long = λ content holds. inl (h.too_long content holds); there = h.there }
by_fault words told before after name NoMemory named h = (name, named)

-- no name was told
pub asked_none : (words : List (List ℕ)) (told : Option (List (List ℕ))) → AskedFor words told told
asked_none words None = ([], All-nil (AsksFor words), refl)
asked_none words (Some names) = ([], All-nil (AsksFor words), ap Some (sym (append-nil names)))

-- copies of the file's name were told
pub asked_copies : (words : List (List ℕ)) (old new : Option (List (List ℕ))) (name : List ℕ) (k : ℕ) → AsksFor words name → new ≡ added old (replicate k name) → AskedFor words old new
asked_copies words old new name k named is = (replicate k name, All-replicate (AsksFor words) k name named, is)

-- the test of two texts found them equal
pub same_text : (a b : List ℕ) → not (bytes_eq a b) ≡ false → a ≡ b
same_text a b e = (bytes_eq-Decides a b).0 (not-false (bytes_eq a b) e)

-- lines that were played to their end, and their report
pub plays_to : (text output : List ℕ) (script lines : List Line) (list : Trace (Role × Entry)) → lines ≡ script → ReadsAs text (Ok script) → play start lines ≡ (list, Done) → output ≡ report list
    → Safe (play start script).0 → PlaysTo text output
plays_to text output script lines list same reads played reported safe =
    let at : play start script ≡ (list, Done) = sym (ap (play start) same) ∙ played in
    record { lines = script; list = list; reads = reads; played = at; reported = reported; safe = subst Safe (ap (λ (x : Trace (Role × Entry) × Ending). x.0) at) safe }
