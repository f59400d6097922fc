-- Each entry has a spelling of its own; and it can be told whether a line is that of an entry. Both
-- by a function that reads the words of an entry back.
use Rattle.std.proofs.Common.{◌≡◌, ◌≢◌, ℕ, ◌<◌, ◌^◌, cond, ◌⊎◌, inl, inr, List, [], ◌∷◌, length, All, Option, Some, None, refl, sym, ap, subst, ◌∙◌, codes, arith}
use Rattle.std.proofs.lemmas.Bool.{cases_lt, cases_eq}
use Rattle.std.proofs.lemmas.List.Elements.{All-nil, All-cons, All-head, All-tail, All-weaker}
use Rattle.std.specs.List.{AllByRecursion}
use Rattle.std.specs.Fmt.{decimal}
use Rattle.std.specs.Str.{bytes_eq}
use Rattle.std.specs.Str.Parse.{digits_value}
use Rattle.mt_base.specs.declared.kinds.Role.{Role}
use Rattle.mt_base.specs.declared.kinds.Kind.{Kind}
use Rattle.mt_script.specs.Lines.{Lacks}
use Rattle.mt_script.specs.Spelling.{side_name, kind_name, hex_text, IsBytes, IsWord}
use Rattle.mt_script.specs.Reading.{split_at_blanks}
use Rattle.mt_script.proofs.Spellings.{side_of, kind_of, bytes_of, side_back, kind_back, number_back, bytes_back, same_or_not, Plain, plain_text, plain_side, plain_kind, plain_decimal, plain_hex, plain_joined}
use Rattle.capture_check.specs.declared.entry.Entry.{Entry}
use Rattle.capture_check.specs.declared.entry.Entry.TheVariants.{Issue, Open, Sent, Got, Main, Word, Out, In}
use Rattle.capture_check.specs.Spelling.{words_of, spelled, IsEntry}
use Rattle.capture_check.specs.Meaning.{Tells}
use Rattle.capture_check.proofs.EntryLines.{split_spelled, spelled_by_words, no_entry}

-- ---- entries read back

abbrev read_issue : List (List ℕ) → Option Entry
read_issue (id ∷ kind ∷ cookie ∷ []) = Some (Issue (digits_value 10 id) (kind_of kind) (bytes_of cookie))
read_issue other = None

abbrev read_open : List (List ℕ) → Option Entry
read_open (id ∷ name ∷ []) = Some (Open (digits_value 10 id) name)
read_open other = None

abbrev read_message : (Role → ℕ → List ℕ → Entry) → List (List ℕ) → Option Entry
read_message made (side ∷ id ∷ message ∷ []) = Some (made (side_of side) (digits_value 10 id) (bytes_of message))
read_message made other = None

abbrev read_main : List (List ℕ) → Option Entry
read_main (side ∷ bytes ∷ []) = Some (Main (side_of side) (bytes_of bytes))
read_main other = None

abbrev read_numbered : (Role → Kind → ℕ → Entry) → List (List ℕ) → Option Entry
read_numbered made (side ∷ kind ∷ number ∷ []) = Some (made (side_of side) (kind_of kind) (digits_value 10 number))
read_numbered made other = None

abbrev read_out : List (List ℕ) → Option Entry
read_out (side ∷ kind ∷ number ∷ datagram ∷ []) =
    Some (Out (side_of side) (kind_of kind) (digits_value 10 number) (bytes_of datagram))
read_out other = None

abbrev read_words : List (List ℕ) → Option Entry
read_words [] = None
read_words (first ∷ rest) =
    cond (bytes_eq first (codes "issue")) (read_issue rest) (
    cond (bytes_eq first (codes "open")) (read_open rest) (
    cond (bytes_eq first (codes "sent")) (read_message Sent rest) (
    cond (bytes_eq first (codes "got")) (read_message Got rest) (
    cond (bytes_eq first (codes "main")) (read_main rest) (
    cond (bytes_eq first (codes "word")) (read_numbered Word rest) (
    cond (bytes_eq first (codes "out")) (read_out rest) (read_numbered In rest)))))))

message_back : (made : Role → ℕ → List ℕ → Entry) (side : Role) (id : ℕ) (message : List ℕ) → (id < 2 ^ 32) × IsBytes message
    → Some (made (side_of (side_name side)) (digits_value 10 (decimal id)) (bytes_of (hex_text message))) ≡ Some (made side id message)
message_back made side id message h =
    ap (λ s. Some (made s (digits_value 10 (decimal id)) (bytes_of (hex_text message)))) (side_back side)
    ∙ ap (λ n. Some (made side n (bytes_of (hex_text message)))) (number_back id (omega (arith, h.0)))
    ∙ ap (λ m. Some (made side id m)) (bytes_back message h.1)

numbered_back : (made : Role → Kind → ℕ → Entry) (side : Role) (kind : Kind) (number : ℕ) → number < 2 ^ 64
    → Some (made (side_of (side_name side)) (kind_of (kind_name kind)) (digits_value 10 (decimal number))) ≡ Some (made side kind number)
numbered_back made side kind number small =
    ap (λ s. Some (made s (kind_of (kind_name kind)) (digits_value 10 (decimal number)))) (side_back side)
    ∙ ap (λ k. Some (made side k (digits_value 10 (decimal number)))) (kind_back kind)
    ∙ ap (λ n. Some (made side kind n)) (number_back number small)

-- the words of an entry are read back as that entry
read_back : (entry : Entry) → IsEntry entry → read_words (words_of entry) ≡ Some entry
read_back (Issue id kind cookie) h =
    ap (λ n. Some (Issue n (kind_of (kind_name kind)) (bytes_of (hex_text cookie)))) (number_back id (omega (arith, h.0)))
    ∙ ap (λ k. Some (Issue id k (bytes_of (hex_text cookie)))) (kind_back kind)
    ∙ ap (λ c. Some (Issue id kind c)) (bytes_back cookie h.1.0)
read_back (Open id name) h = ap (λ n. Some (Open n name)) (number_back id (omega (arith, h.0)))
read_back (Sent side id message) h = message_back Sent side id message h
read_back (Got side id message) h = message_back Got side id message h
read_back (Main side bytes) h = ap (λ s. Some (Main s (bytes_of (hex_text bytes)))) (side_back side) ∙ ap (λ b. Some (Main side b)) (bytes_back bytes h)
read_back (Word side kind id) h = numbered_back Word side kind id (omega (arith, h))
read_back (Out side kind number datagram) h =
    ap (λ s. Some (Out s (kind_of (kind_name kind)) (digits_value 10 (decimal number)) (bytes_of (hex_text datagram)))) (side_back side)
    ∙ ap (λ k. Some (Out side k (digits_value 10 (decimal number)) (bytes_of (hex_text datagram)))) (kind_back kind)
    ∙ ap (λ n. Some (Out side kind n (bytes_of (hex_text datagram)))) (number_back number h.0)
    ∙ ap (λ d. Some (Out side kind number d)) (bytes_back datagram h.1)
read_back (In side kind number) h = numbered_back In side kind number h

one_entry : (a b : Entry) → Some a ≡ Some b → a ≡ b
one_entry a b e = cc

same_words : (words : List (List ℕ)) (a b : Entry) → IsEntry a → IsEntry b → words ≡ words_of a → words ≡ words_of b → a ≡ b
same_words words a b ha hb ea eb = one_entry a b (sym (read_back a ha) ∙ ap read_words (sym ea ∙ eb) ∙ read_back b hb)

-- no two entries have one spelling
pub spelled-injective : (a b : Entry) → IsEntry a → IsEntry b → spelled a ≡ spelled b → a ≡ b
spelled-injective a b ha hb e =
    same_words (words_of a) a b ha hb refl (sym (split_spelled a ha) ∙ ap split_at_blanks e ∙ split_spelled b hb)

-- ---- a spelling is a line

plain_words : (entry : Entry) → IsEntry entry → AllByRecursion (All Plain) (words_of entry)
plain_words (Issue id kind cookie) h = (plain_text (codes "issue") refl, (plain_decimal id (omega (arith, h.0)), (plain_kind kind, (plain_hex cookie h.1.0, tt))))
plain_words (Open id name) h =
    (plain_text (codes "open") refl, (plain_decimal id (omega (arith, h.0)), ((λ k d within. (h.1.bytes k d within, h.2 k d within)), tt)))
plain_words (Sent side id message) h = (plain_text (codes "sent") refl, (plain_side side, (plain_decimal id (omega (arith, h.0)), (plain_hex message h.1, tt))))
plain_words (Got side id message) h = (plain_text (codes "got") refl, (plain_side side, (plain_decimal id (omega (arith, h.0)), (plain_hex message h.1, tt))))
plain_words (Main side bytes) h = (plain_text (codes "main") refl, (plain_side side, (plain_hex bytes h, tt)))
plain_words (Word side kind id) h = (plain_text (codes "word") refl, (plain_side side, (plain_kind kind, (plain_decimal id (omega (arith, h)), tt))))
plain_words (Out side kind number datagram) h =
    (plain_text (codes "out") refl, (plain_side side, (plain_kind kind, (plain_decimal number h.0, (plain_hex datagram h.1, tt)))))
plain_words (In side kind number) h = (plain_text (codes "in") refl, (plain_side side, (plain_kind kind, (plain_decimal number h, tt))))

-- the spelling of an entry is a line
pub spelled_line : (entry : Entry) → IsEntry entry → IsBytes (spelled entry) × Lacks 10 (spelled entry)
spelled_line entry h =
    let plain = plain_joined (words_of entry) (plain_words entry h) in
    (All-weaker Plain (λ b. b < 256) (λ b p. p.0) (spelled entry) plain, All-weaker Plain (λ b. b ≢ 10) (λ b p. p.1) (spelled entry) plain)

-- ---- what can be told

abbrev Known : Type 0 → Type 0
Known P = P ⊎ (P → ⊥)

below : (n limit : ℕ) → Known (n < limit)
below n limit =
    elim (cases_lt n limit) [
      | inl low ↦ inl low
      | inr high ↦ inr (λ low. omega arith)
    ]

both : {P Q : Type 0} → Known P → Known Q → Known (P × Q)
both (inl p) (inl q) = inl (p, q)
both (inl p) (inr q) = inr (λ h. q h.1)
both (inr p) q = inr (λ h. p h.0)

each : (P : ℕ → Type 0) → ((x : ℕ) → Known (P x)) → (xs : List ℕ) → Known (All P xs)
each P known [] = inl (All-nil P)
each P known (x ∷ xs) =
    elim (both (known x) (each P known xs)) [
      | inl good ↦ inl (All-cons P x xs good.0 good.1)
      | inr bad ↦ inr (λ h. bad (All-head P x xs h, All-tail P x xs h))
    ]

known_bytes : (xs : List ℕ) → Known (IsBytes xs)
known_bytes xs = each (λ b. b < 256) (λ b. below b 256) xs

other_than : (byte x : ℕ) → Known (x ≢ byte)
other_than byte x =
    elim (cases_eq x byte) [
      | inl same ↦ inr (λ other. other same)
      | inr other ↦ inl other
    ]

known_lack : (byte : ℕ) (xs : List ℕ) → Known (Lacks byte xs)
known_lack byte xs = each (λ b. b ≢ byte) (other_than byte) xs

known_name : (name : List ℕ) → Known (IsWord name × Lacks 10 name)
known_name name =
    elim (both (both (known_bytes name) (below 0 (length name))) (both (known_lack 32 name) (known_lack 10 name))) [
      | inl good ↦ inl (record { bytes = good.0.0; not_empty = good.0.1; no_blank = good.1.0 }, good.1.1)
      | inr bad ↦ inr (λ h. bad ((h.0.bytes, h.0.not_empty), (h.0.no_blank, h.1)))
    ]

known_open : (id : ℕ) (name : List ℕ) → Known ((id < 2 ^ 32) × (IsWord name × Lacks 10 name)) → Known (IsEntry (Open id name))
known_open id name (inl good) = inl (good.0, good.1.0, good.1.1)
known_open id name (inr bad) = inr (λ h. bad (h.0, (h.1, h.2)))

-- whether a line can hold an entry
known_entry : (entry : Entry) → Known (IsEntry entry)
known_entry (Issue id kind cookie) = both (below id (2 ^ 32)) (both (known_bytes cookie) (cases_eq (length cookie) 16))
known_entry (Open id name) = known_open id name (both (below id (2 ^ 32)) (known_name name))
known_entry (Sent side id message) = both (below id (2 ^ 32)) (known_bytes message)
known_entry (Got side id message) = both (below id (2 ^ 32)) (known_bytes message)
known_entry (Main side bytes) = known_bytes bytes
known_entry (Word side kind id) = below id (2 ^ 32)
known_entry (Out side kind number datagram) = both (below number (2 ^ 64)) (known_bytes datagram)
known_entry (In side kind number) = below number (2 ^ 64)

known_words : (a b : List (List ℕ)) → Known (a ≡ b)
known_words [] [] = inl refl
known_words [] (y ∷ ys) = inr (λ e. cc)
known_words (x ∷ xs) [] = inr (λ e. cc)
known_words (x ∷ xs) (y ∷ ys) =
    elim (both (same_or_not x y) (known_words xs ys)) [
      | inl same ↦ inl (ap (λ z. z ∷ xs) same.0 ∙ ap (λ zs. y ∷ zs) same.1)
      | inr other ↦ inr (λ e. other (cc, cc))
    ]

tell_read : (words : List (List ℕ)) (o : Option Entry) → read_words words ≡ o
    → ((entry : Entry) × IsEntry entry × (words ≡ words_of entry)) ⊎ ((entry : Entry) → IsEntry entry → words ≢ words_of entry)
tell_read words None is =
    inr (λ entry h e.
    let back = sym is ∙ ap read_words e ∙ read_back entry h in cc)
tell_read words (Some read) is =
    elim (both (known_entry read) (known_words words (words_of read))) [
      | inl good ↦ inl (read, good.0, good.1)
      | inr bad ↦ inr (λ entry h e.
          let same : read ≡ entry = one_entry read entry (sym is ∙ ap read_words e ∙ read_back entry h) in
          bad (subst IsEntry (sym same) h, e ∙ ap words_of (sym same)))
    ]

-- a line is that of an entry, or of none
pub tell_line : (line : List ℕ) → (o : Option Entry) × Tells line o
tell_line line =
    elim (tell_read (split_at_blanks line) (read_words (split_at_blanks line)) refl) [
      | inl entry ↦ (Some entry.0, (entry.1, spelled_by_words line entry.0 entry.2))
      | inr none ↦ (None, no_entry line (split_at_blanks line) refl none)
    ]
