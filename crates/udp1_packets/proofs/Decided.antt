-- The whole packet: what is spelled is read, each fault is the answer, and bytes are spelled or have
-- a fault.
use Rattle.std.proofs.Common.{◌≡◌, ◌⊎◌, inl, inr, ℕ, ◌+◌, ◌^◌, ◌<◌, true, false, bit_and, List, ◌++◌, length, Option, Ok, Err, refl, sym, ap, ◌∙◌}
use Rattle.std.specs.Option.{is_some}
use Rattle.std.proofs.lemmas.Bool.{cases_Bool}
use Rattle.byteorder.specs.Endian.{big_bytes}
use Rattle.mt_base.specs.Reading.{Left}
use Rattle.mt_base.specs.Writing.{joined}
use Rattle.mt_base.proofs.Fields.{Begins, big_or, as_err}
use Rattle.carrier.specs.declared.first_layout.Refusal1.{Refusal1}
use Rattle.carrier.specs.declared.first_layout.Refusal1.TheVariants as refusal
use Rattle.udp1_packets.specs.Value.{Syn, Body, SynBody, DataBody, FecBody, BareBody, Packet}
use Rattle.udp1_packets.specs.Layout.{has, flag_if, announced, mark_mask, IsBytes, IsBody, Allows, Choice, Spells, body_fields, zeros}
use Rattle.mt_base.specs.Parts.{◌>>=◌}
use Rattle.udp1_packets.specs.Reading.{syn_at, opening_at, told_at, marks_in, body_at, packet_at}
use Rattle.udp1_packets.specs.Faults.{RefusedSyn, RefusedTold, Headed, Refused, ack_cut, window_cut, word_cut, with_data, syn_wrong, told_wrong}
use Rattle.udp1_packets.proofs.Words.{syn_word, data_word, fec_word, bare_word, no_fec, with_fec, syn_is, data_is, fec_is, bare_is, under_mask}
use Rattle.mt_base.proofs.FrontFields.{left_at as at}
use Rattle.udp1_packets.proofs.Pieces.{number_reads, number_cut}
use Rattle.udp1_packets.proofs.SynLemmas.{syn_reads, syn_answer, syn_or, IsOpening}
use Rattle.udp1_packets.proofs.ToldLemmas
use Rattle.udp1_packets.proofs.ToldLemmas.{data_body, fec_body, bare_body, told_answer, IsBehind, Kind, told_or}

-- behind the header the body is read
headed_reads : (bytes : List ℕ) (ack window word : ℕ) (rest : List ℕ) → Headed bytes ack window word rest
    → packet_at (at 0 bytes) ≡ (body_at word (at 8 rest) >>= λ body. Ok (record { ack = ack; window = window; marks = marks_in word; body = body }))
unfolding packet_at
headed_reads bytes ack window word rest (a, w, f, is) =
    rw (
      is,
      number_reads 4 ack a 0 (big_bytes 2 window ++ (big_bytes 2 word ++ rest)),
      number_reads 2 window w 4 (big_bytes 2 word ++ rest),
      number_reads 2 word f 6 rest,
    ) refl

opens_with : (word : ℕ) (s : Left) → has word 0x0001 ≡ true → has word 0x01FA ≡ true → body_at word s ≡ Err (refusal.SynWithData 6)
unfolding body_at opening_at
opens_with word s on others = rw (on, others) refl

opens : (word : ℕ) (s : Left) → has word 0x0001 ≡ true → has word 0x01FA ≡ false → body_at word s ≡ (syn_at word s >>= λ syn. Ok (SynBody syn))
unfolding body_at opening_at
opens word s on others = rw (on, others) refl

tells : (word : ℕ) (s : Left) → has word 0x0001 ≡ false → body_at word s ≡ told_at word s
unfolding body_at
tells word s off = rw off refl

-- ---- what is spelled is read

body_reads : (bytes : List ℕ) (ack window marks word : ℕ) (body : Body) (rest : List ℕ) → Headed bytes ack window word rest → marks_in word ≡ marks → body_at word (at 8 rest) ≡ Ok body
    → packet_at (at 0 bytes) ≡ Ok (record { ack = ack; window = window; marks = marks; body = body })
body_reads bytes ack window marks word body rest headed same is =
    headed_reads bytes ack window word rest headed ∙ ap (λ r. r >>= λ b. Ok (record { ack = ack; window = window; marks = marks_in word; body = b })) is
    ∙ ap (λ m. Ok (record { ack = ack; window = window; marks = m; body = body })) same

-- a packet by its parts
abbrev packet : ℕ → ℕ → ℕ → Body → Packet
packet ack window marks body = record { ack = ack; window = window; marks = marks; body = body }

headed : (bytes : List ℕ) (ack window marks : ℕ) (body : Body) (s : Spells bytes (packet ack window marks body)) → marks + announced body < 2 ^ 16
    → Headed bytes ack window (marks + announced body) (joined (body_fields body s.choice))
headed bytes ack window marks body s fits = (s.is.ack_fits, s.is.window_fits, fits, s.bytes_are)

parts_read : (bytes : List ℕ) (ack window marks : ℕ) (body : Body) → Spells bytes (packet ack window marks body) → packet_at (at 0 bytes) ≡ Ok (packet ack window marks body)
parts_read bytes ack window marks (SynBody syn) s =
    let w = syn_word marks syn.answer (is_some syn.correlation) (is_some syn.extension) s.is.marks_within in
    let word = marks + announced (SynBody syn) in
    body_reads bytes ack window marks word (SynBody syn) (joined (body_fields (SynBody syn) s.choice)) (headed bytes ack window marks (SynBody syn) s w.fits) w.marks_are
    (opens word (at 8 (joined (body_fields (SynBody syn) s.choice))) w.syn w.others
    ∙ ap (λ r. r >>= λ syn. Ok (SynBody syn)) (syn_reads word syn s.is.body_is (record { answer_is = w.answer_is; correlation_is = w.correlation_is; extension_is = w.extension_is })))
parts_read bytes ack window marks (DataBody vector aoa coded start content) s =
    let body = DataBody vector aoa coded start content in
    let w = data_word marks (is_some vector) (is_some aoa) s.is.marks_within in
    let word = marks + announced body in
    body_reads bytes ack window marks word body (joined (body_fields body s.choice)) (headed bytes ack window marks body s w.fits) w.marks_are
    (tells word (at 8 (joined (body_fields body s.choice))) w.syn
    ∙ data_body word vector aoa coded start content s.choice s.is.body_is s.allowed (record { vector_there = sym w.vector_is; aoa_there = sym w.aoa_is }) w.data_is
    (no_fec marks (is_some vector) (is_some aoa) s.is.marks_within))
parts_read bytes ack window marks (FecBody vector aoa coded start range index content) s =
    let body = FecBody vector aoa coded start range index content in
    let w = fec_word marks (is_some vector) (is_some aoa) s.is.marks_within in
    let word = marks + announced body in
    body_reads bytes ack window marks word body (joined (body_fields body s.choice)) (headed bytes ack window marks body s w.fits) w.marks_are
    (tells word (at 8 (joined (body_fields body s.choice))) w.syn
    ∙ fec_body word vector aoa coded start range index content s.choice s.is.body_is s.allowed (record { vector_there = sym w.vector_is; aoa_there = sym w.aoa_is }) w.data_is
    (with_fec marks (is_some vector) (is_some aoa) s.is.marks_within))
parts_read bytes ack window marks (BareBody vector aoa content) s =
    let body = BareBody vector aoa content in
    let w = bare_word marks (is_some vector) (is_some aoa) s.is.marks_within in
    let word = marks + announced body in
    body_reads bytes ack window marks word body (joined (body_fields body s.choice)) (headed bytes ack window marks body s w.fits) w.marks_are
    (tells word (at 8 (joined (body_fields body s.choice))) w.syn
    ∙ bare_body word vector aoa content s.choice s.is.body_is s.allowed (record { vector_there = sym w.vector_is; aoa_there = sym w.aoa_is }) w.data_is)

pub spelled_reads : (bytes : List ℕ) (p : Packet) → Spells bytes p → packet_at (at 0 bytes) ≡ Ok p
spelled_reads bytes p s = parts_read bytes p.ack p.window p.marks p.body s

-- ---- each fault is the answer

body_answer : (bytes : List ℕ) (ack window word : ℕ) (rest : List ℕ) (r : Refusal1) → Headed bytes ack window word rest → body_at word (at 8 rest) ≡ Err r → packet_at (at 0 bytes) ≡ Err r
body_answer bytes ack window word rest r headed is =
    headed_reads bytes ack window word rest headed ∙ ap (λ r. r >>= λ b. Ok (record { ack = ack; window = window; marks = marks_in word; body = b })) is

pub fault_answer : (bytes : List ℕ) (r : Refusal1) → Refused bytes r → packet_at (at 0 bytes) ≡ Err r
unfolding packet_at
fault_answer bytes r (ack_cut fault) = rw (number_cut 4 0 bytes r fault) refl
fault_answer bytes r (window_cut ack rest a is fault) = rw (is, number_reads 4 ack a 0 rest, number_cut 2 4 rest r fault) refl
fault_answer bytes r (word_cut ack window rest a w is fault) =
    rw (is, number_reads 4 ack a 0 (big_bytes 2 window ++ rest), number_reads 2 window w 4 rest, number_cut 2 6 rest r fault) refl
fault_answer bytes r (with_data ack window word rest headed on others is) =
    body_answer bytes ack window word rest r headed (as_err (opens_with word (at 8 rest) on others) is)
fault_answer bytes r (syn_wrong ack window word rest headed on others fault) =
    body_answer bytes ack window word rest r headed (opens word (at 8 rest) on others ∙ ap (λ r. r >>= λ syn. Ok (SynBody syn)) (syn_answer word rest r fault))
fault_answer bytes r (told_wrong ack window word rest headed off fault) =
    body_answer bytes ack window word rest r headed (tells word (at 8 rest) off ∙ told_answer word rest r fault)

-- ---- bytes are spelled or have a fault

abbrev pub Decided : List ℕ → Type 0
Decided bytes = ((p : Packet) × Spells bytes p) ⊎ ((r : Refusal1) × Refused bytes r)

-- a header whose word is the marks and what the body announces
spelled_by : (bytes : List ℕ) (ack window marks word : ℕ) (body : Body) (choice : Choice) (rest : List ℕ) → Headed bytes ack window word rest → word ≡ marks + announced body
    → bit_and marks (mark_mask body) ≡ marks → IsBody body → Allows body choice → rest ≡ joined (body_fields body choice) → Decided bytes
spelled_by bytes ack window marks word body choice rest headed is within good allowed rest_is = inl (
  packet ack window marks body,
  record {
    choice = choice;
    allowed = allowed;
    is = record { ack_fits = headed.0; window_fits = headed.1; marks_within = within; body_is = good };
    bytes_are = headed.3 ∙ ap (λ w. big_bytes 4 ack ++ (big_bytes 2 window ++ (big_bytes 2 w ++ rest))) is
        ∙ ap (λ t. big_bytes 4 ack ++ (big_bytes 2 window ++ (big_bytes 2 (marks + announced body) ++ t))) rest_is;
  },
)

-- the flags of a word by what is there
syn_flags : (word : ℕ) (s : Syn) → s.answer ≡ has word 0x0004 → is_some s.correlation ≡ has word 0x0800 → is_some s.extension ≡ has word 0x1000
    → 0x0001 + flag_if (has word 0x0004) 0x0004 + flag_if (has word 0x0800) 0x0800 + flag_if (has word 0x1000) 0x1000 ≡ announced (SynBody s)
syn_flags word s a c e = rw (← a, ← c, ← e) refl

told_flags : (base word : ℕ) (vector : Option (List ℕ)) (aoa : Option ℕ) → ToldLemmas.Says word vector aoa
    → base + flag_if (has word 0x0004) 0x0004 + flag_if (has word 0x0100) 0x0100 ≡ base + flag_if (is_some vector) 0x0004 + flag_if (is_some aoa) 0x0100
told_flags base word vector aoa says = rw (says.vector_there, says.aoa_there) refl

bare_flags : (word : ℕ) (vector : Option (List ℕ)) (aoa : Option ℕ) → ToldLemmas.Says word vector aoa
    → flag_if (has word 0x0004) 0x0004 + flag_if (has word 0x0100) 0x0100 ≡ flag_if (is_some vector) 0x0004 + flag_if (is_some aoa) 0x0100
bare_flags word vector aoa says = rw (says.vector_there, says.aoa_there) refl

opening_or : (bytes : List ℕ) (ack window word : ℕ) (rest : List ℕ) → Headed bytes ack window word rest → has word 0x0001 ≡ true → has word 0x01FA ≡ false
    → ((r : Refusal1) × RefusedSyn (has word 0x0004) (has word 0x0800) (has word 0x1000) rest r) ⊎ IsOpening (has word 0x0004) (has word 0x0800) (has word 0x1000) rest → Decided bytes
opening_or bytes ack window word rest headed on others (inl fault) = inr (fault.0, syn_wrong ack window word rest headed on others fault.1)
opening_or bytes ack window word rest headed on others (inr o) =
    spelled_by bytes ack window (bit_and word 0xE600) word (SynBody o.syn) (zeros (SynBody o.syn)) rest headed
    (syn_is word headed.2 on others ∙ ap (λ n. bit_and word 0xE600 + n) (syn_flags word o.syn o.answer_is o.correlation_is o.extension_is))
    (under_mask word 0xE600) o.good (refl, refl) o.bytes_are

behind_by : (bytes : List ℕ) (ack window word : ℕ) (rest : List ℕ) (body : Body) (choice : Choice) → Headed bytes ack window word rest → has word 0x0001 ≡ false → Kind word body → IsBody body → Allows body choice
    → rest ≡ joined (body_fields body choice) → Decided bytes
behind_by bytes ack window word rest (SynBody s) choice headed off kind good allowed is = absurd kind
behind_by bytes ack window word rest (DataBody vector aoa coded start content) choice headed off kind good allowed is =
    spelled_by bytes ack window (bit_and word 0xFEE2) word (DataBody vector aoa coded start content) choice rest headed
    (data_is word headed.2 off kind.1 kind.2 ∙ ap (λ n. bit_and word 0xFEE2 + n) (told_flags 0x0008 word vector aoa kind.0)) (under_mask word 0xFEE2) good allowed is
behind_by bytes ack window word rest (FecBody vector aoa coded start range index content) choice headed off kind good allowed is =
    spelled_by bytes ack window (bit_and word 0xFEE2) word (FecBody vector aoa coded start range index content) choice rest headed
    (fec_is word headed.2 off kind.1 kind.2 ∙ ap (λ n. bit_and word 0xFEE2 + n) (told_flags 0x0018 word vector aoa kind.0)) (under_mask word 0xFEE2) good allowed is
behind_by bytes ack window word rest (BareBody vector aoa content) choice headed off kind good allowed is =
    spelled_by bytes ack window (bit_and word 0xFEF2) word (BareBody vector aoa content) choice rest headed
    (bare_is word headed.2 off kind.1 ∙ ap (λ n. bit_and word 0xFEF2 + n) (bare_flags word vector aoa kind.0)) (under_mask word 0xFEF2) good allowed is

pub decided : (bytes : List ℕ) → IsBytes bytes → Decided bytes
decided bytes good = by_ack (big_or 4 bytes good)
  where
    by_told : (ack window word : ℕ) (rest : List ℕ) → Headed bytes ack window word rest → has word 0x0001 ≡ false → ((r : Refusal1) × RefusedTold word rest r) ⊎ IsBehind word rest → Decided bytes
    by_told ack window word rest headed off (inl fault) = inr (fault.0, told_wrong ack window word rest headed off fault.1)
    by_told ack window word rest headed off (inr b) = behind_by bytes ack window word rest b.body b.choice headed off b.kind_is b.good b.allowed b.bytes_are

    by_others : (ack window word : ℕ) (rest : List ℕ) → Headed bytes ack window word rest → IsBytes rest → has word 0x0001 ≡ true → (has word 0x01FA ≡ true) ⊎ (has word 0x01FA ≡ false) → Decided bytes
    by_others ack window word rest headed behind on (inl others) = inr (_, with_data ack window word rest headed on others refl)
    by_others ack window word rest headed behind on (inr none) = opening_or bytes ack window word rest headed on none (syn_or (has word 0x0004) (has word 0x0800) (has word 0x1000) rest behind)

    by_syn : (ack window word : ℕ) (rest : List ℕ) → Headed bytes ack window word rest → IsBytes rest → (has word 0x0001 ≡ true) ⊎ (has word 0x0001 ≡ false) → Decided bytes
    by_syn ack window word rest headed behind (inl on) = by_others ack window word rest headed behind on (cases_Bool (has word 0x01FA))
    by_syn ack window word rest headed behind (inr off) = by_told ack window word rest headed off (told_or word rest behind)

    by_word : (ack window : ℕ) (rest : List ℕ) → ack < 2 ^ 32 → window < 2 ^ 16 → bytes ≡ big_bytes 4 ack ++ (big_bytes 2 window ++ rest)
        → (length rest < 2) ⊎ Begins (big_bytes 2) (λ x. x < 256 ^ 2) rest → Decided bytes
    by_word ack window rest a w is (inl few) = inr (_, word_cut ack window rest a w is (few, refl))
    by_word ack window rest a w is (inr f) =
        by_syn ack window f.value f.rest (a, w, f.good, is ∙ ap (λ t. big_bytes 4 ack ++ (big_bytes 2 window ++ t)) f.bytes_are) f.bytes_behind (cases_Bool (has f.value 0x0001))

    by_window : (ack : ℕ) (rest : List ℕ) → ack < 2 ^ 32 → bytes ≡ big_bytes 4 ack ++ rest → (length rest < 2) ⊎ Begins (big_bytes 2) (λ x. x < 256 ^ 2) rest → Decided bytes
    by_window ack rest a is (inl few) = inr (_, window_cut ack rest a is (few, refl))
    by_window ack rest a is (inr w) = by_word ack w.value w.rest a w.good (is ∙ ap (λ t. big_bytes 4 ack ++ t) w.bytes_are) (big_or 2 w.rest w.bytes_behind)

    by_ack : (length bytes < 4) ⊎ Begins (big_bytes 4) (λ x. x < 256 ^ 4) bytes → Decided bytes
    by_ack (inl few) = inr (_, ack_cut (few, refl))
    by_ack (inr a) = by_window a.value a.rest a.good a.bytes_are (big_or 2 a.rest a.bytes_behind)
