-- Each text has exactly one answer.
use Rattle.std.proofs.Common.{◌≡◌, ◌≢◌, ℕ, suc, ◌+◌, ◌≤◌, ◌⊎◌, inl, inr, List, [], ◌∷◌, ◌++◌, length, take, drop, codes, Result, Ok, Err, refl, sym, ap, ◌∙◌, subst, arith}
use Rattle.std.specs.List.{All, join_with_byte}
use Rattle.std.specs.Str.{bytes_eq}
use Rattle.std.proofs.lemmas.Bool.{cases_lt}
use Rattle.std.proofs.lemmas.List.Elements.{All-nil, All-cons, All-head, All-tail}
use Rattle.std.proofs.lemmas.Slice.Eq.{bytes_eq-Decides}
use Rattle.carrier.specs.declared.first_layout.Refusal1.{Refusal1}
use Rattle.carrier.specs.declared.second_layout.Refusal2.{Refusal2}
use Rattle.mt_base.proofs.Lists.{heads}
use Rattle.mt_base.proofs.Deciding.{holds_or_not}
use Rattle.mt_script.specs.Lines.{lines_of, ended}
use Rattle.mt_script.specs.Spelling.{IsBytes, hex_text}
use Rattle.mt_script.specs.Meaning.{IsShort, line_limit}
use Rattle.mt_script.proofs.Spellings.{Told, tell_bytes, hex_text-injective}
use Rattle.udp1_packets.specs.Value.{Packet}
use Rattle.udp1_packets.specs.Layout.{Spells}
use Rattle.udp1_packets.specs.Faults.{Refused}
use Rattle.udp2_packets.specs.Value.{Packet as SecondPacket}
use Rattle.udp2_packets.specs.Layout.{Spells as SpellsSecond}
use Rattle.udp2_packets.specs.Faults.{Refused as RefusedSecond}
use Rattle.tunnel_pdus.specs.declared.part.Part.{Part}
use Rattle.tunnel_pdus.specs.Layout.{Spells as SpellsPdu, SpellsFrame}
use Rattle.tunnel_pdus.specs.Faults.{Refused as RefusedPdu, RefusedFrame}
use Rattle.tunnel_pdus.specs.Streams.{Front}
use Rattle.tunnel_pdus.specs.Reading.{reading, frame_reading}
use Rattle.mt_base.specs.declared.kinds.Role.{Role}
use Rattle.mt_base.specs.declared.kinds.Role.TheVariants.{Server, Client}
use Rattle.dvc_pdus.specs.declared.pdu.DvcRefusal.{DvcRefusal}
use Rattle.dvc_pdus.specs.Value.{Pdu as ChannelPdu}
use Rattle.dvc_pdus.specs.Layout.{Encodes}
use Rattle.dvc_pdus.specs.Faults.{Refused as RefusedChannel}
use Rattle.mt_show.specs.declared.asked.Asked.{Asked}
use Rattle.mt_show.specs.declared.asked.Asked.TheVariants.{FirstLayout, SecondLayout, Tunnel, MainStream, Channel}
use Rattle.mt_show.specs.declared.refusal.ShowRefusal.{ShowRefusal}
use Rattle.mt_show.specs.declared.refusal.ShowRefusal.TheVariants.{BadLine, TooManyLines, NoMemory}
use Rattle.mt_show.specs.Grammar.{first_word, spelled, IsAsked, Keeps, Breaks}
use Rattle.mt_show.specs.Words.{packet_words, refusal_words}
use Rattle.mt_show.specs.SecondWords.{second_words, second_refusal_words}
use Rattle.mt_show.specs.StreamWords.{pdu_words, frame_words, front_words}
use Rattle.mt_show.specs.ChannelWords.{channel_words, channel_refusal_words}
use Rattle.mt_show.specs.Answer.{ShownFirst, packet, refused, ShownSecond, second_packet, second_refused, ShownChannel, channel, channel_refused, Shown, Answers, AreAnswered, FirstBroken, ShownAs}
use Rattle.mt_show.proofs.Lines.{kept_before}
use Rattle.mt_show.proofs.FirstWords.{behind_first, behind_second, behind_tunnel, behind_frame, channel_start, behind_channel, channel_parts, end_is, no_channel, letter_is, in_parts, no_kind, no_first, no_second, no_tunnel, no_frame, long_second}

-- ---- a line keeps the grammar or breaks it

-- a line that begins with a kind's word
tell_first : (line : List ℕ) → take 3 line ≡ codes "v1 " → Told {A = List ℕ} IsBytes hex_text (drop 3 line) → Keeps line ⊎ Breaks line
tell_first line start (inl word) = inl (FirstLayout word.0, word.1, in_parts line (codes "v1 ") (hex_text word.0) start word.2)
tell_first line start (inr none) = inr (no_first line start none)

tell_second : (line : List ℕ) → take 3 line ≡ codes "v2 " → Told {A = List ℕ} IsBytes hex_text (drop 3 line) → Keeps line ⊎ Breaks line
tell_second line start (inl word) =
    elim (cases_lt 1232 (length word.0)) [
      | inl long ↦ inr (long_second line word.0 start word.1 word.2 long)
      | inr few ↦ inl (SecondLayout word.0, (word.1, few), in_parts line (codes "v2 ") (hex_text word.0) start word.2)
    ]
tell_second line start (inr none) = inr (no_second line start (λ bytes is. none bytes is.0))

tell_tunnel : (line : List ℕ) → take 7 line ≡ codes "tunnel " → Told {A = List ℕ} IsBytes hex_text (drop 7 line) → Keeps line ⊎ Breaks line
tell_tunnel line start (inl word) = inl (Tunnel word.0, word.1, in_parts line (codes "tunnel ") (hex_text word.0) start word.2)
tell_tunnel line start (inr none) = inr (no_tunnel line start none)

tell_frame : (line : List ℕ) → take 6 line ≡ codes "frame " → Told {A = List ℕ} IsBytes hex_text (drop 6 line) → Keeps line ⊎ Breaks line
tell_frame line start (inl word) = inl (MainStream word.0, word.1, in_parts line (codes "frame ") (hex_text word.0) start word.2)
tell_frame line start (inr none) = inr (no_frame line start none)

tell_channel : (from : Role) (line : List ℕ) → take 11 line ≡ channel_start from → Told {A = List ℕ} IsBytes hex_text (drop 11 line) → Keeps line ⊎ Breaks line
tell_channel from line start (inl word) = inl (Channel from word.0, word.1, channel_parts from line word.0 start word.2)
tell_channel from line start (inr none) = inr (no_channel from line start none)

begins : (n : ℕ) (line start : List ℕ) → (take n line ≡ start) ⊎ (take n line ≢ start)
begins n line start = holds_or_not (bytes_eq (take n line) start) (bytes_eq-Decides (take n line) start)

neither : (line : List ℕ) → take 11 line ≢ channel_start Server → take 11 line ≢ channel_start Client → (from : Role) → take 11 line ≢ channel_start from
neither line e f Server = e
neither line e f Client = f

tell_stream : (line : List ℕ) → take 3 line ≢ codes "v1 " → take 3 line ≢ codes "v2 " → Keeps line ⊎ Breaks line
tell_stream line a b =
    elim (begins 7 line (codes "tunnel ")) [
      | inl start ↦ tell_tunnel line start (tell_bytes (drop 7 line))
      | inr c ↦ elim (begins 6 line (codes "frame ")) [
        | inl start ↦ tell_frame line start (tell_bytes (drop 6 line))
        | inr d ↦ elim (begins 11 line (channel_start Server)) [
          | inl start ↦ tell_channel Server line start (tell_bytes (drop 11 line))
          | inr e ↦ elim (begins 11 line (channel_start Client)) [
            | inl start ↦ tell_channel Client line start (tell_bytes (drop 11 line))
            | inr f ↦ inr (no_kind line a b c d (neither line e f))
          ]
        ]
      ]
    ]

tell_line : (line : List ℕ) → Keeps line ⊎ Breaks line
tell_line line =
    elim (begins 3 line (codes "v1 ")) [
      | inl start ↦ tell_first line start (tell_bytes (drop 3 line))
      | inr a ↦ elim (begins 3 line (codes "v2 ")) [
        | inl start ↦ tell_second line start (tell_bytes (drop 3 line))
        | inr b ↦ tell_stream line a b
      ]
    ]

-- all lines keep it, or there is a first that breaks it
abbrev ToldLines : List (List ℕ) → Type 0
ToldLines lines = All Keeps lines ⊎ ((number : ℕ) × FirstBroken lines number)

one_more : (line : List ℕ) (lines : List (List ℕ)) → Keeps line → ToldLines lines → ToldLines (line ∷ lines)
one_more line lines keeps (inl all) = inl (All-cons Keeps line lines keeps all)
one_more line lines keeps (inr f) =
    let place = f.1.number_is in
    inr (
      f.0 + 1,
      record {
        before = line ∷ f.1.before;
        line = f.1.line;
        after = f.1.after;
        parts = ap (λ ls. line ∷ ls) f.1.parts;
        kept = All-cons Keeps line f.1.before keeps f.1.kept;
        broken = f.1.broken;
        number_is = omega arith;
      },
    )

first_line : (line : List ℕ) (lines : List (List ℕ)) → Keeps line ⊎ Breaks line → ToldLines lines → ToldLines (line ∷ lines)
first_line line lines (inl keeps) rest = one_more line lines keeps rest
first_line line lines (inr breaks) rest =
    inr (1, record { before = []; line = line; after = lines; parts = refl; kept = All-nil Keeps; broken = breaks; number_is = refl })

tell : (lines : List (List ℕ)) → ToldLines lines
tell [] = inl (All-nil Keeps)
tell (line ∷ lines) = first_line line lines (tell_line line) (tell lines)

-- ---- lines that keep the grammar have one list of answers

-- What a layout says of bytes that fit it: one value or one first fault, and not both.
pub record Layout {V R : Type 0} (Fits : List ℕ → Type 0) (Spells : List ℕ → V → Type 0) (Refused : List ℕ → R → Type 0) : Type 0 where
  pub value : (bytes : List ℕ) (p q : V) → Spells bytes p → Spells bytes q → p ≡ q
  pub fault : (bytes : List ℕ) (r q : R) → Refused bytes r → Refused bytes q → r ≡ q
  pub one_of_both : (bytes : List ℕ) → Fits bytes → ((p : V) × Spells bytes p) ⊎ ((r : R) × Refused bytes r)
  pub never_both : (bytes : List ℕ) (p : V) (r : R) → Spells bytes p → Refused bytes r → ⊥

-- what a layout of streams says of bytes: one front, which `reading` gives
pub record Stream {V R : Type 0} (Spells : List ℕ → V → Type 0) (Refused : List ℕ → R → Type 0) (reading : List ℕ → Result (Part V) R) : Type 0 where
  pub read : (bytes : List ℕ) → IsBytes bytes → Front Spells Refused bytes (reading bytes)
  pub one : (bytes : List ℕ) (a b : Result (Part V) R) → IsBytes bytes → Front Spells Refused bytes a → Front Spells Refused bytes b → a ≡ b

-- what is known of the layouts
pub record OneMeaning : Type 0 where
  pub first : Layout IsBytes Spells Refused
  pub second : Layout (λ bytes. IsBytes bytes × (length bytes ≤ 1232)) SpellsSecond RefusedSecond
  pub tunnel : Stream SpellsPdu RefusedPdu reading
  pub frame : Stream SpellsFrame RefusedFrame frame_reading
  pub channel_of : (from : Role) → Layout IsBytes (Encodes from) (RefusedChannel from)

by_first : (bytes : List ℕ) → ((p : Packet) × Spells bytes p) ⊎ ((r : Refusal1) × Refused bytes r) → (words : List (List ℕ)) × ShownFirst bytes words
by_first bytes (inl p) = (packet_words p.0, packet p.0 p.1 refl)
by_first bytes (inr r) = (refusal_words r.0, refused r.0 r.1 refl)

by_second : (bytes : List ℕ) → ((p : SecondPacket) × SpellsSecond bytes p) ⊎ ((r : Refusal2) × RefusedSecond bytes r) → (words : List (List ℕ)) × ShownSecond bytes words
by_second bytes (inl p) = (second_words p.0, second_packet p.0 p.1 refl)
by_second bytes (inr r) = (second_refusal_words r.0, second_refused r.0 r.1 refl)

by_channel : (from : Role) (bytes : List ℕ) → ((p : ChannelPdu) × Encodes from bytes p) ⊎ ((r : DvcRefusal) × RefusedChannel from bytes r) → (words : List (List ℕ)) × ShownChannel from bytes words
by_channel from bytes (inl p) = (channel_words p.0, channel p.0 p.1 refl)
by_channel from bytes (inr r) = (channel_refusal_words r.0, channel_refused r.0 r.1 refl)

some_words : OneMeaning → (asked : Asked) → IsAsked asked → (words : List (List ℕ)) × Shown asked words
some_words m (FirstLayout bytes) is = by_first bytes ((m.first).one_of_both bytes is)
some_words m (SecondLayout bytes) is = by_second bytes ((m.second).one_of_both bytes is)
some_words m (Tunnel bytes) is = (front_words pdu_words (length bytes) (reading bytes), (reading bytes, (m.tunnel).read bytes is, refl))
some_words m (MainStream bytes) is = (front_words frame_words (length bytes) (frame_reading bytes), (frame_reading bytes, (m.frame).read bytes is, refl))
some_words m (Channel from bytes) is = by_channel from bytes ((m.channel_of from).one_of_both bytes is)

line_answer : OneMeaning → (line : List ℕ) → Keeps line → (answer : List ℕ) × Answers line answer
line_answer m line keeps =
    let shown = some_words m keeps.0 keeps.1 in
    (join_with_byte 32 (first_word keeps.0 ∷ shown.0), record { asked = keeps.0; words = shown.0; is_asked = keeps.1; line_is = keeps.2; shown = shown.1; answer_is = refl })

lines_answers : OneMeaning → (lines : List (List ℕ)) → All Keeps lines → (answers : List (List ℕ)) × AreAnswered lines answers
lines_answers m [] h = ([], tt)
lines_answers m (line ∷ lines) h =
    let first = line_answer m line (All-head Keeps line lines h) in
    let rest = lines_answers m lines (All-tail Keeps line lines h) in
    (first.0 ∷ rest.0, (first.1, rest.1))

same_first : OneMeaning → (bytes : List ℕ) (xs ys : List (List ℕ)) → ShownFirst bytes xs → ShownFirst bytes ys → xs ≡ ys
same_first m bytes xs ys (packet p s e) (packet q t f) = e ∙ ap packet_words ((m.first).value bytes p q s t) ∙ sym f
same_first m bytes xs ys (packet p s e) (refused r t f) = absurd ((m.first).never_both bytes p r s t)
same_first m bytes xs ys (refused r s e) (packet q t f) = absurd ((m.first).never_both bytes q r t s)
same_first m bytes xs ys (refused r s e) (refused q t f) = e ∙ ap refusal_words ((m.first).fault bytes r q s t) ∙ sym f

same_second : OneMeaning → (bytes : List ℕ) (xs ys : List (List ℕ)) → ShownSecond bytes xs → ShownSecond bytes ys → xs ≡ ys
same_second m bytes xs ys (second_packet p s e) (second_packet q t f) = e ∙ ap second_words ((m.second).value bytes p q s t) ∙ sym f
same_second m bytes xs ys (second_packet p s e) (second_refused r t f) = absurd ((m.second).never_both bytes p r s t)
same_second m bytes xs ys (second_refused r s e) (second_packet q t f) = absurd ((m.second).never_both bytes q r t s)
same_second m bytes xs ys (second_refused r s e) (second_refused q t f) = e ∙ ap second_refusal_words ((m.second).fault bytes r q s t) ∙ sym f

same_channel : OneMeaning → (from : Role) (bytes : List ℕ) (xs ys : List (List ℕ)) → ShownChannel from bytes xs → ShownChannel from bytes ys → xs ≡ ys
same_channel m from bytes xs ys (channel p s e) (channel q t f) = e ∙ ap channel_words ((m.channel_of from).value bytes p q s t) ∙ sym f
same_channel m from bytes xs ys (channel p s e) (channel_refused r t f) = absurd ((m.channel_of from).never_both bytes p r s t)
same_channel m from bytes xs ys (channel_refused r s e) (channel q t f) = absurd ((m.channel_of from).never_both bytes q r t s)
same_channel m from bytes xs ys (channel_refused r s e) (channel_refused q t f) = e ∙ ap channel_refusal_words ((m.channel_of from).fault bytes r q s t) ∙ sym f

same_shown : OneMeaning → (asked : Asked) → IsAsked asked → (xs ys : List (List ℕ)) → Shown asked xs → Shown asked ys → xs ≡ ys
same_shown m (FirstLayout bytes) is xs ys s t = same_first m bytes xs ys s t
same_shown m (SecondLayout bytes) is xs ys s t = same_second m bytes xs ys s t
same_shown m (Tunnel bytes) is xs ys s t = s.2 ∙ ap (front_words pdu_words (length bytes)) ((m.tunnel).one bytes s.0 t.0 is s.1 t.1) ∙ sym t.2
same_shown m (MainStream bytes) is xs ys s t = s.2 ∙ ap (front_words frame_words (length bytes)) ((m.frame).one bytes s.0 t.0 is s.1 t.1) ∙ sym t.2
same_shown m (Channel from bytes) is xs ys s t = same_channel m from bytes xs ys s t

same_channels : (line : List ℕ) (from to : Role) (xs ys : List ℕ) → IsBytes xs → IsBytes ys → line ≡ spelled (Channel from xs) → line ≡ spelled (Channel to ys) → Channel from xs ≡ Channel to ys
same_channels line Server Server xs ys ha hb e f = ap (Channel Server) (hex_text-injective xs ys ha hb (sym (behind_channel Server line xs e) ∙ behind_channel Server line ys f))
same_channels line Client Client xs ys ha hb e f = ap (Channel Client) (hex_text-injective xs ys ha hb (sym (behind_channel Client line xs e) ∙ behind_channel Client line ys f))
same_channels line Server Client xs ys ha hb e f = absurd (omega (arith, end_is Server line xs e, end_is Client line ys f))
same_channels line Client Server xs ys ha hb e f = absurd (omega (arith, end_is Client line xs e, end_is Server line ys f))

same_asked : (line : List ℕ) (a b : Asked) → IsAsked a → IsAsked b → line ≡ spelled a → line ≡ spelled b → a ≡ b
same_asked line (FirstLayout xs) (FirstLayout ys) ha hb e f =
    ap FirstLayout (hex_text-injective xs ys ha hb (sym (behind_first line xs e) ∙ behind_first line ys f))
same_asked line (FirstLayout xs) (SecondLayout ys) ha hb e f = absurd (omega (arith, letter_is line (FirstLayout xs) e, letter_is line (SecondLayout ys) f))
same_asked line (FirstLayout xs) (Tunnel ys) ha hb e f = absurd (omega (arith, letter_is line (FirstLayout xs) e, letter_is line (Tunnel ys) f))
same_asked line (FirstLayout xs) (MainStream ys) ha hb e f = absurd (omega (arith, letter_is line (FirstLayout xs) e, letter_is line (MainStream ys) f))
same_asked line (FirstLayout xs) (Channel to ys) ha hb e f = absurd (omega (arith, letter_is line (FirstLayout xs) e, letter_is line (Channel to ys) f))
same_asked line (SecondLayout xs) (FirstLayout ys) ha hb e f = absurd (omega (arith, letter_is line (SecondLayout xs) e, letter_is line (FirstLayout ys) f))
same_asked line (SecondLayout xs) (SecondLayout ys) ha hb e f =
    ap SecondLayout (hex_text-injective xs ys ha.0 hb.0 (sym (behind_second line xs e) ∙ behind_second line ys f))
same_asked line (SecondLayout xs) (Tunnel ys) ha hb e f = absurd (omega (arith, letter_is line (SecondLayout xs) e, letter_is line (Tunnel ys) f))
same_asked line (SecondLayout xs) (MainStream ys) ha hb e f = absurd (omega (arith, letter_is line (SecondLayout xs) e, letter_is line (MainStream ys) f))
same_asked line (SecondLayout xs) (Channel to ys) ha hb e f = absurd (omega (arith, letter_is line (SecondLayout xs) e, letter_is line (Channel to ys) f))
same_asked line (Tunnel xs) (FirstLayout ys) ha hb e f = absurd (omega (arith, letter_is line (Tunnel xs) e, letter_is line (FirstLayout ys) f))
same_asked line (Tunnel xs) (SecondLayout ys) ha hb e f = absurd (omega (arith, letter_is line (Tunnel xs) e, letter_is line (SecondLayout ys) f))
same_asked line (Tunnel xs) (Tunnel ys) ha hb e f =
    ap Tunnel (hex_text-injective xs ys ha hb (sym (behind_tunnel line xs e) ∙ behind_tunnel line ys f))
same_asked line (Tunnel xs) (MainStream ys) ha hb e f = absurd (omega (arith, letter_is line (Tunnel xs) e, letter_is line (MainStream ys) f))
same_asked line (Tunnel xs) (Channel to ys) ha hb e f = absurd (omega (arith, letter_is line (Tunnel xs) e, letter_is line (Channel to ys) f))
same_asked line (MainStream xs) (FirstLayout ys) ha hb e f = absurd (omega (arith, letter_is line (MainStream xs) e, letter_is line (FirstLayout ys) f))
same_asked line (MainStream xs) (SecondLayout ys) ha hb e f = absurd (omega (arith, letter_is line (MainStream xs) e, letter_is line (SecondLayout ys) f))
same_asked line (MainStream xs) (Tunnel ys) ha hb e f = absurd (omega (arith, letter_is line (MainStream xs) e, letter_is line (Tunnel ys) f))
same_asked line (MainStream xs) (MainStream ys) ha hb e f =
    ap MainStream (hex_text-injective xs ys ha hb (sym (behind_frame line xs e) ∙ behind_frame line ys f))
same_asked line (MainStream xs) (Channel to ys) ha hb e f = absurd (omega (arith, letter_is line (MainStream xs) e, letter_is line (Channel to ys) f))
same_asked line (Channel from xs) (FirstLayout ys) ha hb e f = absurd (omega (arith, letter_is line (Channel from xs) e, letter_is line (FirstLayout ys) f))
same_asked line (Channel from xs) (SecondLayout ys) ha hb e f = absurd (omega (arith, letter_is line (Channel from xs) e, letter_is line (SecondLayout ys) f))
same_asked line (Channel from xs) (Tunnel ys) ha hb e f = absurd (omega (arith, letter_is line (Channel from xs) e, letter_is line (Tunnel ys) f))
same_asked line (Channel from xs) (MainStream ys) ha hb e f = absurd (omega (arith, letter_is line (Channel from xs) e, letter_is line (MainStream ys) f))
same_asked line (Channel from xs) (Channel to ys) ha hb e f = same_channels line from to xs ys ha hb e f

same_line : OneMeaning → (line x y : List ℕ) → Answers line x → Answers line y → x ≡ y
same_line m line x y a b =
    let asked = same_asked line a.asked b.asked a.is_asked b.is_asked a.line_is b.line_is in
    let words = same_shown m b.asked b.is_asked a.words b.words (subst (λ k. Shown k a.words) asked a.shown) b.shown in
    a.answer_is ∙ ap (λ k. join_with_byte 32 (first_word k ∷ a.words)) asked ∙ ap (λ w. join_with_byte 32 (first_word b.asked ∷ w)) words ∙ sym b.answer_is

same_lines : OneMeaning → (lines xs ys : List (List ℕ)) → AreAnswered lines xs → AreAnswered lines ys → xs ≡ ys
same_lines m [] [] [] a b = refl
same_lines m [] [] (y ∷ ys) a b = absurd b
same_lines m [] (x ∷ xs) ys a b = absurd a
same_lines m (line ∷ lines) [] ys a b = absurd a
same_lines m (line ∷ lines) (x ∷ xs) [] a b = absurd b
same_lines m (line ∷ lines) (x ∷ xs) (y ∷ ys) a b =
    ap (λ t. t ∷ xs) (same_line m line x y a.0 b.0) ∙ ap (λ t. y ∷ t) (same_lines m lines xs ys a.1 b.1)

-- ---- the first line that breaks it is one

not_both : (line : List ℕ) → Keeps line → Breaks line → ⊥
not_both line keeps breaks = breaks keeps.0 keeps.1 keeps.2

in_the_middle : (before : List (List ℕ)) (line : List ℕ) (after : List (List ℕ)) → All Keeps (before ++ line ∷ after) → Keeps line
in_the_middle [] line after h = All-head Keeps line after h
in_the_middle (x ∷ before) line after h = in_the_middle before line after (All-tail Keeps x (before ++ line ∷ after) h)

-- where all lines keep the grammar none is the first that breaks it
pub none_broken : (lines : List (List ℕ)) (number : ℕ) → All Keeps lines → FirstBroken lines number → ⊥
none_broken lines number h f = not_both f.line (in_the_middle f.before f.line f.after (subst (All Keeps) f.parts h)) f.broken

same_place : (b c : List (List ℕ)) (x y : List ℕ) (xs ys : List (List ℕ)) → b ++ x ∷ xs ≡ c ++ y ∷ ys → All Keeps b → All Keeps c → Breaks x → Breaks y → length b ≡ length c
same_place [] [] x y xs ys is hb hc hx hy = refl
same_place [] (z ∷ c) x y xs ys is hb hc hx hy =
    let parts = heads x z xs (c ++ y ∷ ys) is in
    absurd (not_both z (All-head Keeps z c hc) (subst Breaks parts.0 hx))
same_place (z ∷ b) [] x y xs ys is hb hc hx hy =
    let parts = heads z y (b ++ x ∷ xs) ys is in
    absurd (not_both z (All-head Keeps z b hb) (subst Breaks (sym parts.0) hy))
same_place (z ∷ b) (w ∷ c) x y xs ys is hb hc hx hy =
    let parts = heads z w (b ++ x ∷ xs) (c ++ y ∷ ys) is in
    ap suc (same_place b c x y xs ys parts.1 (All-tail Keeps z b hb) (All-tail Keeps w c hc) hx hy)

same_number : (lines : List (List ℕ)) (m n : ℕ) → FirstBroken lines m → FirstBroken lines n → m ≡ n
same_number lines m n a b =
    let same = same_place a.before b.before a.line b.line a.after b.after (sym a.parts ∙ b.parts) a.kept b.kept a.broken b.broken in
    a.number_is ∙ ap (λ k. k + 1) same ∙ sym b.number_is

-- ---- whole texts

-- lines that keep the grammar have answers
pub kept_answer : OneMeaning → (text : List ℕ) → IsShort text → All Keeps (lines_of text) → (output : List ℕ) × ShownAs text (Ok output)
kept_answer m text short keeps = let a = lines_answers m (lines_of text) keeps in (ended a.0, (short, a.0, a.1, refl))

answered : OneMeaning → (text : List ℕ) → IsShort text → ToldLines (lines_of text) → (answer : Result (List ℕ) ShowRefusal) × ShownAs text answer
answered m text short (inl keeps) =
    let a = kept_answer m text short keeps in (Ok a.0, a.1)
answered m text short (inr f) = (Err (BadLine f.0), (short, f.1))

-- each text has an answer
pub some_answer : OneMeaning → (text : List ℕ) → (answer : Result (List ℕ) ShowRefusal) × ShownAs text answer
some_answer m text =
    elim (cases_lt line_limit (length (lines_of text))) [
      | inl many ↦ (Err (TooManyLines line_limit), (refl, many))
      | inr few ↦ answered m text few (tell (lines_of text))
    ]

no_bad : (text : List ℕ) (answers : List (List ℕ)) (number : ℕ) → AreAnswered (lines_of text) answers → FirstBroken (lines_of text) number → ⊥
no_bad text answers number a f = none_broken (lines_of text) number (kept_before (lines_of text) answers a) f

-- and no other
pub one_answer : OneMeaning → (text : List ℕ) (a b : Result (List ℕ) ShowRefusal) → ShownAs text a → ShownAs text b → a ≡ b
one_answer m text (Ok x) (Ok y) a b = ap Ok (a.3 ∙ ap ended (same_lines m (lines_of text) a.1 b.1 a.2 b.2) ∙ sym b.3)
one_answer m text (Ok x) (Err (BadLine n)) a b = absurd (no_bad text a.1 n a.2 b.1)
one_answer m text (Ok x) (Err (TooManyLines l)) a b = absurd (omega (arith, a.0, b.1))
one_answer m text (Ok x) (Err NoMemory) a b = absurd b
one_answer m text (Err (BadLine n)) (Ok y) a b = absurd (no_bad text b.1 n b.2 a.1)
one_answer m text (Err (BadLine n)) (Err (BadLine k)) a b = ap (λ i. Err (BadLine i)) (same_number (lines_of text) n k a.1 b.1)
one_answer m text (Err (BadLine n)) (Err (TooManyLines l)) a b = absurd (omega (arith, a.0, b.1))
one_answer m text (Err (BadLine n)) (Err NoMemory) a b = absurd b
one_answer m text (Err (TooManyLines l)) (Ok y) a b = absurd (omega (arith, b.0, a.1))
one_answer m text (Err (TooManyLines l)) (Err (BadLine k)) a b = absurd (omega (arith, b.0, a.1))
one_answer m text (Err (TooManyLines l)) (Err (TooManyLines k)) a b = ap (λ i. Err (TooManyLines i)) (a.0 ∙ sym b.0)
one_answer m text (Err (TooManyLines l)) (Err NoMemory) a b = absurd b
one_answer m text (Err NoMemory) b ha hb = absurd ha
