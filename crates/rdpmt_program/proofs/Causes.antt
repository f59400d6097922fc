-- What the words and the named file say of the status.
use Rattle.std.proofs.Common.{◌≡◌, ◌≢◌, ℕ, ◌≤◌, ◌⊎◌, inl, inr, List, [], ◌∷◌, length, codes, Option, Result, Ok, Err, sym, ap, ◌∙◌, subst, arith}
use Rattle.std.specs.List.{All}
use Rattle.std.proofs.lemmas.Slice.Eq.{bytes_eq-Decides}
use Rattle.mt_base.specs.declared.kinds.Role.{Role}
use Rattle.mt_base.specs.Trace.{Trace}
use Rattle.mt_script.specs.declared.event.Line.{Line}
use Rattle.mt_script.specs.declared.event.ScriptRefusal.{ScriptRefusal}
use Rattle.mt_script.specs.declared.event.ScriptRefusal.TheVariants.{BadCommand, BadWords}
use Rattle.mt_script.specs.Lines.{lines_of}
use Rattle.mt_script.specs.Meaning.{ReadsAs, IsShort, line_limit}
use Rattle.mt_world.specs.declared.refusal.StepRefusal.{StepRefusal}
use Rattle.mt_world.specs.Acts.{Entry}
use Rattle.mt_world.specs.Play.{start, play, Ending, Done, RefusedAt}
use Rattle.mt_outside.specs.Faults.{Counts, Rose}
use Rattle.mt_outside.specs.Files.{Contents, Holds}
use Rattle.mt_show.specs.declared.refusal.ShowRefusal.{ShowRefusal}
use Rattle.mt_show.specs.declared.refusal.ShowRefusal.TheVariants.{BadLine}
use Rattle.mt_show.specs.Grammar.{Keeps}
use Rattle.mt_show.specs.Answer.{ShownAs}
use Rattle.capture_check.specs.declared.entry.Entry.{Entry as CaptureEntry}
use Rattle.capture_check.specs.declared.entry.CaptureRefusal.{CaptureRefusal}
use Rattle.capture_check.specs.declared.entry.CaptureRefusal.TheVariants as capture
use Rattle.capture_check.specs.declared.judgement.Judgement.{Judgement}
use Rattle.capture_check.specs.declared.judgement.Judgement.TheVariants as verdict
use Rattle.capture_check.specs.Meaning.{ReadsAs as ReadsAsCapture}
use Rattle.capture_check.specs.Rules.{Judged}
use Rattle.rdpmt_program.specs.Captures.{IsJudged}
use Rattle.rdpmt_program.specs.Command.{IsPlay, IsShow, IsCheck, AsksFor, IsCommand}
use Rattle.rdpmt_program.specs.Script.{PlaysTo, IsRefused, command, words, step, IsTooLong, byte_limit}
use Rattle.rdpmt_program.specs.Table.{IsTextOf, PassesLimit, script_report, show_answers, capture_holds, RefusesLine, script_line, show_line, capture_line, BreaksRule, Row, done, usage, refused, broken, file_fault, no_memory, limit, Names, IsPlayable, IsRefusable, IsShowable, IsUnshowable, IsHolding, IsBreaking, IsUnreadable, Reports}
use Rattle.rdpmt_program.specs.Outcome.{Outcome}
use Rattle.rdpmt_program.proofs.Rows.{Ended, answered, not_printed, front_printed, calm_sink, either}

-- words that report are those of a command, and so are words of which a line is refused
command_reports : {ws : List (List ℕ)} {told : Option Contents} {output : List ℕ} → Reports ws told output → IsCommand ws
command_reports (script_report text is plays) = (is.name, inl is.named)
command_reports (show_answers text is shows) = (is.name, inr (inl is.named))
command_reports (capture_holds text is judged out) = (is.name, inr (inr is.named))

command_refuses : {ws : List (List ℕ)} {told : Option Contents} {output : List ℕ} → RefusesLine ws told output → IsCommand ws
command_refuses (script_line text is why) = (is.name, inl is.named)
command_refuses (show_line text line is why out) = (is.name, inr (inl is.named))
command_refuses (capture_line text line is why out) = (is.name, inr (inr is.named))

command_breaks : {ws : List (List ℕ)} {told : Option Contents} {output : List ℕ} → BreaksRule ws told output → IsCommand ws
command_breaks b = (b.is_capture.name, inr (inr b.is_capture.named))

-- words that are no command's
pub of_usage : {ws : List (List ℕ)} {told : Option Contents} {before after : Counts} → ¬ IsCommand ws → (status : ℕ) (output : List ℕ) → Row ws told before after status output → (status ≡ 1) ⊎ (status ≡ 4)
of_usage foreign status output (done reports s) = absurd (foreign (command_reports reports))
of_usage foreign status output (usage none out s) = inl s
of_usage foreign status output (refused why s) = absurd (foreign (command_refuses why))
of_usage foreign status output (broken why s) = absurd (foreign (command_breaks why))
of_usage foreign status output (file_fault is rose out s) = absurd (foreign is)
of_usage foreign status output (no_memory is out s) = absurd (foreign is)
of_usage foreign status output (limit passes out s) = absurd (foreign (passes.name, passes.named))

-- words are those of one command, and name one file
seconds : (v w a b : List ℕ) → v ∷ a ∷ [] ≡ w ∷ b ∷ [] → a ≡ b
seconds v w a b e = cc

firsts : (v w a b : List ℕ) → v ∷ a ∷ [] ≡ w ∷ b ∷ [] → v ≡ w
firsts v w a b e = cc

not_two : (ws : List (List ℕ)) (a b : List ℕ) → IsPlay ws a → IsShow ws b → ⊥
not_two ws a b p q =
    let same : codes "play" ≡ codes "show" = firsts (codes "play") (codes "show") a b (sym p.words_are ∙ q.words_are) in
    let equal = (bytes_eq-Decides (codes "play") (codes "show")).1 same in cc

not_play_check : (ws : List (List ℕ)) (a b : List ℕ) → IsPlay ws a → IsCheck ws b → ⊥
not_play_check ws a b p q =
    let same : codes "play" ≡ codes "check" = firsts (codes "play") (codes "check") a b (sym p.words_are ∙ q.words_are) in
    let equal = (bytes_eq-Decides (codes "play") (codes "check")).1 same in cc

not_show_check : (ws : List (List ℕ)) (a b : List ℕ) → IsShow ws a → IsCheck ws b → ⊥
not_show_check ws a b p q =
    let same : codes "show" ≡ codes "check" = firsts (codes "show") (codes "check") a b (sym p.words_are ∙ q.words_are) in
    let equal = (bytes_eq-Decides (codes "show") (codes "check")).1 same in cc

one_name : (ws : List (List ℕ)) (a b : List ℕ) → AsksFor ws a → AsksFor ws b → a ≡ b
one_name ws a b (inl p) (inl q) = seconds (codes "play") (codes "play") a b (sym p.words_are ∙ q.words_are)
one_name ws a b (inl p) (inr (inl q)) = absurd (not_two ws a b p q)
one_name ws a b (inl p) (inr (inr q)) = absurd (not_play_check ws a b p q)
one_name ws a b (inr (inl p)) (inl q) = absurd (not_two ws b a q p)
one_name ws a b (inr (inl p)) (inr (inl q)) = seconds (codes "show") (codes "show") a b (sym p.words_are ∙ q.words_are)
one_name ws a b (inr (inl p)) (inr (inr q)) = absurd (not_show_check ws a b p q)
one_name ws a b (inr (inr p)) (inl q) = absurd (not_play_check ws b a q p)
one_name ws a b (inr (inr p)) (inr (inl q)) = absurd (not_show_check ws b a q p)
one_name ws a b (inr (inr p)) (inr (inr q)) = seconds (codes "check") (codes "check") a b (sym p.words_are ∙ q.words_are)

-- the text of a row is the content that the store tells
told_text : (ws : List (List ℕ)) (told : Option Contents) (name text content : List ℕ) → AsksFor ws name → IsTextOf told name text → Names (AsksFor ws) told content → text ≡ content
told_text ws told name text content named is names =
    is.content content (subst (λ (n : List ℕ). Holds told n content) (one_name ws names.name name names.named named) names.content)

passes_text : (ws : List (List ℕ)) (told : Option Contents) (content : List ℕ) → PassesLimit ws told → Names (AsksFor ws) told content → IsTooLong content
passes_text ws told content passes names =
    passes.too_long content (subst (λ (name : List ℕ). Holds told name content) (one_name ws names.name passes.name names.named passes.named) names.content)

-- a text that was read has no more lines than it may have
refused_short : (text output : List ℕ) → IsRefused text output → length (lines_of text) ≤ line_limit
refused_short text output (command line reads out) = reads.0
refused_short text output (words line reads out) = reads.0
refused_short text output (step lines list line why reads played out) = reads.0

within : (text : List ℕ) → length text ≤ byte_limit → length (lines_of text) ≤ line_limit → ¬ IsTooLong text
within text bytes lines (inl long) = omega (arith, bytes, long)
within text bytes lines (inr long) = omega (arith, lines, long)

-- the text of a file that does not pass a limit
short_text : (ws : List (List ℕ)) (told : Option Contents) (name text content : List ℕ) → AsksFor ws name → IsTextOf told name text → Names (AsksFor ws) told content
    → length (lines_of text) ≤ line_limit → ¬ IsTooLong content
short_text ws told name text content named is names lines long =
    within text is.fits lines (subst IsTooLong (sym (told_text ws told name text content named is names)) long)

short_reports : {ws : List (List ℕ)} {told : Option Contents} {output : List ℕ} (content : List ℕ) → Names (AsksFor ws) told content → Reports ws told output → ¬ IsTooLong content
short_reports content names (script_report text is plays) = short_text _ _ is.name text content (inl is.named) is.is_text names plays.reads.0
short_reports content names (show_answers text is shows) = short_text _ _ is.name text content (inr (inl is.named)) is.is_text names shows.0
short_reports content names (capture_holds text is judged out) = short_text _ _ is.name text content (inr (inr is.named)) is.is_text names judged.reads.0

short_refuses : {ws : List (List ℕ)} {told : Option Contents} {output : List ℕ} (content : List ℕ) → Names (AsksFor ws) told content → RefusesLine ws told output → ¬ IsTooLong content
short_refuses content names (script_line text is why) = short_text _ _ is.name text content (inl is.named) is.is_text names (refused_short text _ why)
short_refuses content names (show_line text line is why out) = short_text _ _ is.name text content (inr (inl is.named)) is.is_text names why.0
short_refuses content names (capture_line text line is why out) = short_text _ _ is.name text content (inr (inr is.named)) is.is_text names why.0

short_breaks : {ws : List (List ℕ)} {told : Option Contents} {output : List ℕ} (content : List ℕ) → Names (AsksFor ws) told content → BreaksRule ws told output → ¬ IsTooLong content
short_breaks content names b = short_text _ _ b.is_capture.name b.text content (inr (inr b.is_capture.named)) b.is_capture.is_text names b.judged.reads.0

-- a file that passes a limit
pub of_limit : {ws : List (List ℕ)} {told : Option Contents} {before after : Counts} (content : List ℕ) → Names (AsksFor ws) told content → IsTooLong content → (status : ℕ) (output : List ℕ)
    → Row ws told before after status output → (status ≡ 11) ⊎ (status ≡ 3) ⊎ (status ≡ 4) ⊎ (status ≡ 9)
of_limit content names long status output (done reports s) = absurd (short_reports content names reports long)
of_limit content names long status output (usage none out s) = absurd (none (names.name, names.named))
of_limit content names long status output (refused why s) = absurd (short_refuses content names why long)
of_limit content names long status output (broken why s) = absurd (short_breaks content names why long)
of_limit content names long status output (file_fault is rose out s) = inr (inl s)
of_limit content names long status output (no_memory is out s) = inr (inr (inr s))
of_limit content names long status output (limit passes out s) = inl s

-- Play ends in one way
ended_once : {v w : Trace (Role × Entry)} {line : ℕ} {cause : StepRefusal} {a : Trace (Role × Entry) × Ending} → a ≡ (v, Done) → a ≡ (w, RefusedAt line cause) → ⊥
ended_once {v} {w} {line} {cause} {a} one two =
    let e : Done ≡ RefusedAt line cause = ap (λ (x : Trace (Role × Entry) × Ending). x.1) (sym one ∙ two) in cc

-- a text is one script, or has one refusal
abbrev pub OneScript : Type 0
OneScript = (text : List ℕ) (a b : Result (List Line) ScriptRefusal) → ReadsAs text a → ReadsAs text b → a ≡ b

-- a text that is played to its end is not refused
not_refused : OneScript → (text output : List ℕ) → IsPlayable text → ¬ IsRefused text output
not_refused one text output p (command line reads out) = let e = one text (Ok p.lines) (Err (BadCommand line)) p.reads reads in cc
not_refused one text output p (words line reads out) = let e = one text (Ok p.lines) (Err (BadWords line)) p.reads reads in cc
not_refused one text output p (step lines list line why reads played out) =
    let e = one text (Ok p.lines) (Ok lines) p.reads reads in
    let same : p.lines ≡ lines = cc in
    ended_once p.played (ap (play start) same ∙ played)

-- where the named file is within its limits and no line of it is refused
complete : {ws : List (List ℕ)} {told : Option Contents} {before after : Counts} (content : List ℕ) → Names (AsksFor ws) told content → ¬ IsTooLong content → ¬ Rose before.store after.store
    → ((output : List ℕ) → ¬ RefusesLine ws told output) → ((output : List ℕ) → ¬ BreaksRule ws told output) → (status : ℕ) (output : List ℕ) → Row ws told before after status output → (status ≡ 0) ⊎ (status ≡ 9)
complete content names short calm good whole status output (done reports s) = inl s
complete content names short calm good whole status output (usage none out s) = absurd (none (names.name, names.named))
complete content names short calm good whole status output (refused why s) = absurd (good output why)
complete content names short calm good whole status output (broken why s) = absurd (whole output why)
complete content names short calm good whole status output (file_fault is rose out s) = absurd (calm rose)
complete content names short calm good whole status output (no_memory is out s) = inr s
complete content names short calm good whole status output (limit passes out s) = absurd (short (passes_text _ _ content passes names))

names_script : {ws : List (List ℕ)} {told : Option Contents} {content : List ℕ} → Names (IsPlay ws) told content → Names (AsksFor ws) told content
names_script names = record { name = names.name; named = inl names.named; content = names.content }

names_file : {ws : List (List ℕ)} {told : Option Contents} {content : List ℕ} → Names (IsShow ws) told content → Names (AsksFor ws) told content
names_file names = record { name = names.name; named = inr (inl names.named); content = names.content }

good_script : {ws : List (List ℕ)} {told : Option Contents} → OneScript → (content : List ℕ) → Names (IsPlay ws) told content → IsPlayable content → (output : List ℕ) → ¬ RefusesLine ws told output
good_script one content names p output (script_line text is why) =
    not_refused one content output p (subst (λ t. IsRefused t output) (told_text _ _ is.name text content (inl is.named) is.is_text (names_script names)) why)
good_script one content names p output (show_line text line is why out) = not_two _ names.name is.name names.named is.named
good_script one content names p output (capture_line text line is why out) = not_play_check _ names.name is.name names.named is.named

-- a file that is no capture breaks no rule
whole_script : {ws : List (List ℕ)} {told : Option Contents} {content : List ℕ} → Names (IsPlay ws) told content → (output : List ℕ) → ¬ BreaksRule ws told output
whole_script names output b = not_play_check _ names.name b.is_capture.name names.named b.is_capture.named

whole_file : {ws : List (List ℕ)} {told : Option Contents} {content : List ℕ} → Names (IsShow ws) told content → (output : List ℕ) → ¬ BreaksRule ws told output
whole_file names output b = not_show_check _ names.name b.is_capture.name names.named b.is_capture.named

-- a script that is played to its end
of_complete : {ws : List (List ℕ)} {told : Option Contents} {before after : Counts} → OneScript → (content : List ℕ) → Names (IsPlay ws) told content → IsPlayable content → ¬ Rose before.store after.store
    → (status : ℕ) (output : List ℕ) → Row ws told before after status output → (status ≡ 0) ⊎ (status ≡ 9)
of_complete one content names p calm status output row =
    complete content (names_script names) (within content p.fits p.reads.0) calm (good_script one content names p) (whole_script names) status output row

-- what is printed of a text is one thing, and is answers where the lines keep the grammar
pub record OneOutput : Type 0 where
  pub one : (text : List ℕ) (a b : Result (List ℕ) ShowRefusal) → ShownAs text a → ShownAs text b → a ≡ b
  pub kept : (text : List ℕ) → IsShort text → All Keeps (lines_of text) → (output : List ℕ) × ShownAs text (Ok output)

no_bad_line : OneOutput → (text : List ℕ) (line : ℕ) → IsShowable text → ShownAs text (Err (BadLine line)) → ⊥
no_bad_line laws text line s bad =
    let good = laws.kept text s.short s.keeps in
    let both = laws.one text (Ok good.0) (Err (BadLine line)) good.1 bad in cc

good_file : {ws : List (List ℕ)} {told : Option Contents} → OneOutput → (content : List ℕ) → Names (IsShow ws) told content → IsShowable content → (output : List ℕ) → ¬ RefusesLine ws told output
good_file laws content names s output (script_line text is why) = not_two _ is.name names.name is.named names.named
good_file laws content names s output (show_line text line is why out) =
    no_bad_line laws content line s (subst (λ t. ShownAs t (Err (BadLine line))) (told_text _ _ is.name text content (inr (inl is.named)) is.is_text (names_file names)) why)
good_file laws content names s output (capture_line text line is why out) = not_show_check _ names.name is.name names.named is.named

-- a show file whose lines keep the grammar
of_complete_show : {ws : List (List ℕ)} {told : Option Contents} {before after : Counts} → OneOutput → (content : List ℕ) → Names (IsShow ws) told content → IsShowable content → ¬ Rose before.store after.store
    → (status : ℕ) (output : List ℕ) → Row ws told before after status output → (status ≡ 0) ⊎ (status ≡ 9)
of_complete_show laws content names s calm status output row =
    complete content (names_file names) (within content s.fits s.short) calm (good_file laws content names s) (whole_file names) status output row

-- where the named file is within its limits and has no output
refuses : {ws : List (List ℕ)} {told : Option Contents} {before after : Counts} (content : List ℕ) → Names (AsksFor ws) told content → ¬ IsTooLong content
    → ((output : List ℕ) → ¬ Reports ws told output) → ((output : List ℕ) → ¬ BreaksRule ws told output) → (status : ℕ) (output : List ℕ) → Row ws told before after status output → (status ≡ 2) ⊎ (status ≡ 3) ⊎ (status ≡ 4) ⊎ (status ≡ 9)
refuses content names short bad whole status output (done reports s) = absurd (bad output reports)
refuses content names short bad whole status output (usage none out s) = absurd (none (names.name, names.named))
refuses content names short bad whole status output (refused why s) = inl s
refuses content names short bad whole status output (broken why s) = absurd (whole output why)
refuses content names short bad whole status output (file_fault is rose out s) = inr (inl s)
refuses content names short bad whole status output (no_memory is out s) = inr (inr (inr s))
refuses content names short bad whole status output (limit passes out s) = absurd (short (passes_text _ _ content passes names))

bad_script : {ws : List (List ℕ)} {told : Option Contents} → OneScript → (content : List ℕ) → Names (IsPlay ws) told content → IsRefusable content → (output : List ℕ) → ¬ Reports ws told output
bad_script one content names r output (script_report text is plays) =
    let same : text ≡ content = told_text _ _ is.name text content (inl is.named) is.is_text (names_script names) in
    let p : PlaysTo content output = subst (λ t. PlaysTo t output) same plays in
    not_refused one content r.output (record { fits = r.fits; lines = p.lines; list = p.list; reads = p.reads; played = p.played }) r.refused
bad_script one content names r output (show_answers text is shows) = not_two _ names.name is.name names.named is.named
bad_script one content names r output (capture_holds text is judged out) = not_play_check _ names.name is.name names.named is.named

-- a script of which a line is refused
pub of_refusable : {ws : List (List ℕ)} {told : Option Contents} {before after : Counts} → OneScript → (content : List ℕ) → Names (IsPlay ws) told content → IsRefusable content
    → (status : ℕ) (output : List ℕ) → Row ws told before after status output → (status ≡ 2) ⊎ (status ≡ 3) ⊎ (status ≡ 4) ⊎ (status ≡ 9)
of_refusable one content names r status output row =
    refuses content (names_script names) (within content r.fits (refused_short content r.output r.refused)) (bad_script one content names r) (whole_script names) status output row

bad_file : {ws : List (List ℕ)} {told : Option Contents} → OneOutput → (content : List ℕ) → Names (IsShow ws) told content → IsUnshowable content → (output : List ℕ) → ¬ Reports ws told output
bad_file laws content names u output (script_report text is plays) = not_two _ is.name names.name is.named names.named
bad_file laws content names u output (show_answers text is shows) =
    let same : text ≡ content = told_text _ _ is.name text content (inr (inl is.named)) is.is_text (names_file names) in
    let both = laws.one content (Ok output) (Err (BadLine u.line)) (subst (λ t. ShownAs t (Ok output)) same shows) u.broken in cc
bad_file laws content names u output (capture_holds text is judged out) = not_show_check _ names.name is.name names.named is.named

-- a show file of which a line breaks the grammar
pub of_unshowable : {ws : List (List ℕ)} {told : Option Contents} {before after : Counts} → OneOutput → (content : List ℕ) → Names (IsShow ws) told content → IsUnshowable content
    → (status : ℕ) (output : List ℕ) → Row ws told before after status output → (status ≡ 2) ⊎ (status ≡ 3) ⊎ (status ≡ 4) ⊎ (status ≡ 9)
of_unshowable laws content names u status output row =
    refuses content (names_file names) (within content u.fits u.broken.0) (bad_file laws content names u) (whole_file names) status output row

-- a text is one capture, or has one refusal, and entries are judged in one way
pub record OneCapture : Type 0 where
  pub one : (text : List ℕ) (a b : Result (List CaptureEntry) CaptureRefusal) → ReadsAsCapture text a → ReadsAsCapture text b → a ≡ b
  pub judged : (most : ℕ) (entries : List CaptureEntry) (a b : Judgement) → Judged most entries a → Judged most entries b → a ≡ b

one_verdict : OneCapture → (text : List ℕ) (a b : Judgement) → IsJudged text a → IsJudged text b → a ≡ b
one_verdict laws text a b x y =
    let e = laws.one text (Ok x.entries) (Ok y.entries) x.reads y.reads in
    let same : x.entries ≡ y.entries = cc in
    laws.judged 8 y.entries a b (subst (λ l. Judged 8 l a) same x.judged) y.judged

not_unreadable : OneCapture → (text : List ℕ) (a : Judgement) (line : ℕ) → IsJudged text a → ReadsAsCapture text (Err (capture.BadLine line)) → ⊥
not_unreadable laws text a line x bad = let e = laws.one text (Ok x.entries) (Err (capture.BadLine line)) x.reads bad in cc

not_both : (line rule : ℕ) → verdict.Holds ≡ verdict.Breaks line rule → ⊥
not_both line rule e = cc

names_capture : {ws : List (List ℕ)} {told : Option Contents} {content : List ℕ} → Names (IsCheck ws) told content → Names (AsksFor ws) told content
names_capture names = record { name = names.name; named = inr (inr names.named); content = names.content }

-- the capture that was read is the named one
that_capture : {ws : List (List ℕ)} {told : Option Contents} (content : List ℕ) → Names (IsCheck ws) told content → (name text : List ℕ) → IsCheck ws name → IsTextOf told name text → text ≡ content
that_capture content names name text named is = told_text _ _ name text content (inr (inr named)) is (names_capture names)

-- a text that is judged has no line that is refused
good_capture : {ws : List (List ℕ)} {told : Option Contents} → OneCapture → (content : List ℕ) → Names (IsCheck ws) told content → (a : Judgement) → IsJudged content a → (output : List ℕ) → ¬ RefusesLine ws told output
good_capture laws content names a x output (script_line text is why) = not_play_check _ is.name names.name is.named names.named
good_capture laws content names a x output (show_line text line is why out) = not_show_check _ is.name names.name is.named names.named
good_capture laws content names a x output (capture_line text line is why out) =
    not_unreadable laws content a line x (subst (λ t. ReadsAsCapture t (Err (capture.BadLine line))) (that_capture content names is.name text is.named is.is_text) why)

-- a capture that keeps its rules
of_complete_check : {ws : List (List ℕ)} {told : Option Contents} {before after : Counts} → OneCapture → (content : List ℕ) → Names (IsCheck ws) told content → IsHolding content → ¬ Rose before.store after.store
    → (status : ℕ) (output : List ℕ) → Row ws told before after status output → (status ≡ 0) ⊎ (status ≡ 9)
of_complete_check laws content names h calm status output row =
    complete content (names_capture names) (within content h.fits h.judged.reads.0) calm (good_capture laws content names verdict.Holds h.judged)
    (λ out b.
    not_both b.line b.rule (one_verdict laws content verdict.Holds (verdict.Breaks b.line b.rule) h.judged
    (subst (λ t. IsJudged t (verdict.Breaks b.line b.rule)) (that_capture content names b.is_capture.name b.text b.is_capture.named b.is_capture.is_text) b.judged)))
    status output row

-- a capture of which an output is printed keeps its rules
only_holds : {ws : List (List ℕ)} {told : Option Contents} (content : List ℕ) → Names (IsCheck ws) told content → (output : List ℕ) → Reports ws told output → IsJudged content verdict.Holds
only_holds content names output (script_report text is plays) = absurd (not_play_check _ is.name names.name is.named names.named)
only_holds content names output (show_answers text is shows) = absurd (not_show_check _ is.name names.name is.named names.named)
only_holds content names output (capture_holds text is judged out) = subst (λ t. IsJudged t verdict.Holds) (that_capture content names is.name text is.named is.is_text) judged

-- a capture of which a line is none
pub of_unreadable : {ws : List (List ℕ)} {told : Option Contents} {before after : Counts} → OneCapture → (content : List ℕ) → Names (IsCheck ws) told content → IsUnreadable content
    → (status : ℕ) (output : List ℕ) → Row ws told before after status output → (status ≡ 2) ⊎ (status ≡ 3) ⊎ (status ≡ 4) ⊎ (status ≡ 9)
of_unreadable laws content names u status output row =
    refuses content (names_capture names) (within content u.fits u.broken.0) (λ out reports. not_unreadable laws content verdict.Holds u.line (only_holds content names out reports) u.broken)
    (λ out b. not_unreadable laws content (verdict.Breaks b.line b.rule) u.line
    (subst (λ t. IsJudged t (verdict.Breaks b.line b.rule)) (that_capture content names b.is_capture.name b.text b.is_capture.named b.is_capture.is_text) b.judged) u.broken)
    status output row

-- a capture that breaks a rule
pub of_breaking : {ws : List (List ℕ)} {told : Option Contents} {before after : Counts} → OneCapture → (content : List ℕ) → Names (IsCheck ws) told content → IsBreaking content
    → (status : ℕ) (output : List ℕ) → Row ws told before after status output → (status ≡ 8) ⊎ (status ≡ 3) ⊎ (status ≡ 4) ⊎ (status ≡ 9)
of_breaking laws content names b status output (done reports s) =
    absurd (not_both b.line b.rule (one_verdict laws content verdict.Holds (verdict.Breaks b.line b.rule) (only_holds content names output reports) b.judged))
of_breaking laws content names b status output (usage none out s) = absurd (none (names.name, inr (inr names.named)))
of_breaking laws content names b status output (refused why s) = absurd (good_capture laws content names (verdict.Breaks b.line b.rule) b.judged output why)
of_breaking laws content names b status output (broken why s) = inl s
of_breaking laws content names b status output (file_fault is rose out s) = inr (inl s)
of_breaking laws content names b status output (no_memory is out s) = inr (inr (inr s))
of_breaking laws content names b status output (limit passes out s) = absurd (within content b.fits b.judged.reads.0 (passes_text _ _ content passes (names_capture names)))

-- what a call comes to
pub outcome : OneScript → OneOutput → OneCapture → {ws : List (List ℕ)} {told : Option Contents} {before after : Counts} {answer : ℕ} {old new : Option (List ℕ)} → Ended ws told before after answer old new
    → (answer ≢ 3 → answer ≢ 4 → after.store ≡ before.store) → Outcome ws told before after old new answer
outcome scripts outputs captures {ws} {told} {before} {after} {answer} e kept =
    record {
      row = answered e;
      sink_failed = not_printed e;
      front = front_printed e;
      no_file_fault_is_overcome = kept;
      no_sink_fault_is_overcome = calm_sink e;
      complete = λ text names playable calm.
          either e (λ s. (s ≡ 0) ⊎ (s ≡ 9)) (of_complete scripts text names playable calm.store) (λ rose. absurd (calm.sink rose));
      complete_show = λ text names showable calm.
          either e (λ s. (s ≡ 0) ⊎ (s ≡ 9)) (of_complete_show outputs text names showable calm.store) (λ rose. absurd (calm.sink rose));
      complete_check = λ text names holding calm.
          either e (λ s. (s ≡ 0) ⊎ (s ≡ 9)) (of_complete_check captures text names holding calm.store) (λ rose. absurd (calm.sink rose));
    }
