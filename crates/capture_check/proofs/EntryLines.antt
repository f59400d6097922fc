-- A line and its words; what the words tell, the line tells.
use Rattle.std.proofs.Common.{◌≡◌, ◌≢◌, ℕ, ◌<◌, ◌^◌, List, [], ◌∷◌, ◌++◌, None, Result, Ok, Err, refl, sym, ap, subst, ◌∙◌, codes, arith}
use Rattle.std.proofs.lemmas.List.Elements.{All-tail}
use Rattle.std.proofs.lemmas.List.Splits.{join_with_byte-slice_split}
use Rattle.std.specs.List.{join_with_byte}
use Rattle.std.specs.Fmt.{decimal}
use Rattle.mt_script.specs.declared.fault.LineFault.{LineFault}
use Rattle.mt_script.specs.declared.fault.LineFault.TheVariants as fault
use Rattle.mt_script.specs.Lines.{Lacks}
use Rattle.mt_script.specs.Spelling.{IsWord}
use Rattle.mt_script.specs.Reading.{split_at_blanks}
use Rattle.mt_script.proofs.LineMeaning.{NoBlanks, tested, split_joined, side_no_blank, kind_no_blank, decimal_no_blank, hex_no_blank}
use Rattle.capture_check.specs.declared.entry.Entry.{Entry}
use Rattle.capture_check.specs.declared.entry.Entry.TheVariants.{Issue, Open, Sent, Got, Main, Word, Out, In}
use Rattle.capture_check.specs.declared.first.First.{First}
use Rattle.capture_check.specs.declared.first.First.TheVariants as first
use Rattle.capture_check.specs.Spelling.{words_of, spelled, IsEntry}
use Rattle.capture_check.specs.Meaning.{Tells}
use Rattle.capture_check.specs.Reading.{first_name, Completes, TellsAs}

-- ---- a name behind an id

behind : (byte : ℕ) (front back : List ℕ) → Lacks byte (front ++ back) → Lacks byte back
behind byte [] back h = h
behind byte (x ∷ xs) back h = behind byte xs back (All-tail (λ b. b ≢ byte) x (xs ++ back) h)

-- an id and a name behind `open` are an entry, where the line has no byte 10
pub opens : (words middle after : List (List ℕ)) (id : ℕ) (name : List ℕ) → (id < 2 ^ 32) × (words ≡ decimal id ∷ middle) → IsWord name × (middle ≡ name ∷ after) → after ≡ []
    → (codes "open" ∷ words ≡ words_of (Open id name)) × (Lacks 10 (spelled (Open id name)) → IsEntry (Open id name))
opens words middle after id name number named none = (
  ap (λ ws. codes "open" ∷ ws) (number.1 ∙ ap (λ ws. decimal id ∷ ws) (named.1 ∙ ap (λ ws. name ∷ ws) none)),
  λ h. (number.0, named.0, behind 10 (32 ∷ []) name (behind 10 (decimal id) (32 ∷ name) (behind 10 (codes "open ") (decimal id ++ 32 ∷ name) h))),
)

-- ---- the words of an entry

-- no word has a blank
no_blanks : (entry : Entry) → IsEntry entry → NoBlanks (words_of entry)
no_blanks (Issue id kind cookie) h = (tested (codes "issue") refl, (decimal_no_blank id (omega (arith, h.0)), (kind_no_blank kind, (hex_no_blank cookie h.1.0, tt))))
no_blanks (Open id name) h = (tested (codes "open") refl, (decimal_no_blank id (omega (arith, h.0)), (h.1.no_blank, tt)))
no_blanks (Sent side id message) h = (tested (codes "sent") refl, (side_no_blank side, (decimal_no_blank id (omega (arith, h.0)), (hex_no_blank message h.1, tt))))
no_blanks (Got side id message) h = (tested (codes "got") refl, (side_no_blank side, (decimal_no_blank id (omega (arith, h.0)), (hex_no_blank message h.1, tt))))
no_blanks (Main side bytes) h = (tested (codes "main") refl, (side_no_blank side, (hex_no_blank bytes h, tt)))
no_blanks (Word side kind id) h = (tested (codes "word") refl, (side_no_blank side, (kind_no_blank kind, (decimal_no_blank id (omega (arith, h)), tt))))
no_blanks (Out side kind number datagram) h =
    (tested (codes "out") refl, (side_no_blank side, (kind_no_blank kind, (decimal_no_blank number h.0, (hex_no_blank datagram h.1, tt)))))
no_blanks (In side kind number) h = (tested (codes "in") refl, (side_no_blank side, (kind_no_blank kind, (decimal_no_blank number h, tt))))

-- the words begin with a first word
pub begins : (entry : Entry) → (first : First) × (rest : List (List ℕ)) × (words_of entry ≡ first_name first ∷ rest)
begins (Issue id kind cookie) = (first.Issue, _, refl)
begins (Open id name) = (first.Open, _, refl)
begins (Sent side id message) = (first.Sent, _, refl)
begins (Got side id message) = (first.Got, _, refl)
begins (Main side bytes) = (first.Main, _, refl)
begins (Word side kind id) = (first.Word, _, refl)
begins (Out side kind number datagram) = (first.Out, _, refl)
begins (In side kind number) = (first.In, _, refl)

-- the line of an entry is cut into its words
pub split_spelled : (entry : Entry) → IsEntry entry → split_at_blanks (spelled entry) ≡ words_of entry
split_spelled entry h =
    let words = begins entry in
    ap (λ ws. split_at_blanks (join_with_byte 32 ws)) words.2 ∙ split_joined (first_name words.0) words.1 (subst NoBlanks words.2 (no_blanks entry h)) ∙ sym words.2

-- a line that is cut into the words of an entry is its line
pub spelled_by_words : (line : List ℕ) (entry : Entry) → split_at_blanks line ≡ words_of entry → line ≡ spelled entry
spelled_by_words line entry e = sym (join_with_byte-slice_split 32 line) ∙ ap (join_with_byte 32) e

-- ---- what reading answered of the words, of the line

pub no_entry : (line : List ℕ) (words : List (List ℕ)) → split_at_blanks line ≡ words → ((entry : Entry) → IsEntry entry → words ≢ words_of entry) → Tells line None
no_entry line words cut none entry h is = none entry h (sym cut ∙ ap split_at_blanks is ∙ split_spelled entry h)

pub line_read : (line : List ℕ) (first : First) (words : List (List ℕ)) (read : Result Entry LineFault) → Lacks 10 line → split_at_blanks line ≡ first_name first ∷ words
    → Completes (first_name first) words read → TellsAs line read
line_read line first words (Ok entry) lacks cut completes =
    let is = spelled_by_words line entry (cut ∙ completes.0) in
    (completes.1 (subst (Lacks 10) is lacks), is)
line_read line first words (Err fault.BadWords) lacks cut none = no_entry line (first_name first ∷ words) cut none
line_read line first words (Err fault.BadCommand) lacks cut none = absurd none
line_read line first words (Err fault.NoMemory) lacks cut none = tt

-- a line whose words begin with no first word
pub no_first : (line : List ℕ) → ((first : First) (rest : List (List ℕ)) → split_at_blanks line ≢ first_name first ∷ rest) → Tells line None
no_first line none entry h is =
    let words = begins entry in
    none words.0 words.1 (ap split_at_blanks is ∙ split_spelled entry h ∙ words.2)
