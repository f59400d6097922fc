-- The flag SYN of the datagrams that come and are sent.
use Rattle.std.proofs.Common.{◌≡◌, ℕ, ◌+◌, ◌*◌, ◌%◌, ◌<◌, ◌≤◌, Bool, true, false, ◌&&◌, not, bit_and, List, length, drop, get_or, slice_index, Option, Some, None, Result, Ok, Err, refl, sym, ap, ◌∙◌, subst, length-drop, arith}
use Rattle.std.specs.Prelude.{nat_le, nat_lt, ◌==◌, if◌then◌else◌}
use Rattle.std.specs.Option.{option_map, is_some}
use Rattle.std.proofs.lemmas.Bool.{ltb-false}
use Rattle.std.proofs.lemmas.Bool.Decides.{nat_tests}
use Rattle.std.proofs.lemmas.List.{get_or-drop}
use Rattle.std.proofs.lemmas.Nat.{and_mask}
use Rattle.byteorder.specs.Endian.{big_number}
use Rattle.mt_base.specs.declared.errors.Short.{Short}
use Rattle.mt_base.specs.declared.kinds.Kind.{Kind}
use Rattle.mt_base.specs.declared.kinds.Kind.TheVariants.{Reliable, Lossy}
use Rattle.mt_base.specs.declared.kinds.Role.{Role}
use Rattle.mt_base.specs.declared.kinds.Role.TheVariants.{Server, Client}
use Rattle.mt_base.specs.Parts.{◌>>=◌}
use Rattle.mt_base.specs.Reading.{Left, past, block, big}
use Rattle.mt_windows.specs.declared.limits.TheConstants.{DATAGRAM, WINDOW}
use Rattle.carrier.specs.declared.first_layout.Refusal1.{Refusal1}
use Rattle.carrier.specs.declared.first_layout.Refusal1.TheVariants as refusal
use Rattle.carrier.specs.declared.state.Reason.TheVariants as reason
use Rattle.carrier.specs.Layout.{Datagram, Carried, named_in}
use Rattle.udp1_core.specs.FirstLayout.{body_of, packet_with, vector_in, low}
use Rattle.udp1_packets.specs.Layout.{flag_if, has, spelled, announced}
use Rattle.udp1_packets.specs.Reading.{cut, packet_at, body_at, told_at, opening_at, rest_at, fec_at, data_at, vector_where, number_where}
use Rattle.udp1_packets.specs.Value.{Body, DataBody, FecBody, BareBody, Packet}
use Rattle.udp_open.specs.declared.settings.OpenSettings.{OpenSettings}
use Rattle.udp_open.specs.declared.agreement.Agreement.{Agreement}
use Rattle.udp_open.specs.declared.timer.Timer.{Timer}
use Rattle.udp_open.specs.Handshake.{packet_or, opening, marks_of, names, syn, syn_ack, sent, is_time, row}
use Rattle.udp_open.specs.Agreeing.{is_syn, shows_syn, is_opening, IsHash}
use Rattle.udp_open.specs.LinkTrace.{has_syn, is_low}
use Rattle.udp_open.proofs.Agreeing.{hash_named, none_shown}
use Rattle.udp_open.proofs.OpeningPackets.{Hashes, is_whole}

-- ---- what is read where the flag is not set

-- what was read has this
record IfRead {A : Type 0} (P : A → Type 0) (r : Result A Refusal1) : Type 0 where
  holds : (x : A) → r ≡ Ok x → P x

ok_read : {A : Type 0} (P : A → Type 0) (x : A) → P x → IfRead P (Ok x)
ok_read {A = A} P x h = record { holds = λ y is. subst P (ok_same is) h }
  where
    ok_same : {x y : A} → ◌≡◌ {A = Result A Refusal1} (Ok x) (Ok y) → x ≡ y
    ok_same e = cc

err_read : {A : Type 0} (P : A → Type 0) (e : Refusal1) → IfRead P (Err e)
err_read {A = A} P e = record { holds = λ y is. absurd (none is) }
  where
    none : {y : A} → ◌≡◌ {A = Result A Refusal1} (Err e) (Ok y) → ⊥
    none e = cc

then_read : {A B : Type 0} (P : B → Type 0) (r : Result A Refusal1) (next : A → Result B Refusal1)
    → ((x : A) → IfRead P (next x)) → IfRead P (r >>= next)
then_read P (Ok x) next h = h x
then_read P (Err e) next h = err_read P e

either_read : {A : Type 0} (P : A → Type 0) (b : Bool) (one two : Result A Refusal1)
    → (b ≡ true → IfRead P one) → (b ≡ false → IfRead P two) → IfRead P (if b then one else two)
either_read P true one two f g = f refl
either_read P false one two f g = g refl

field_by : {A B : Type 0} (P : B → Type 0) (short : Bool) (e : Short) (x : A × Left) (next : A × Left → Result B Refusal1)
    → (short ≡ false → IfRead P (next x)) → IfRead P (cut (if short then Err e else Ok x) >>= next)
field_by P true e x next h = err_read P (refusal.Short e)
field_by P false e x next h = h refl

-- a number that was read was there
then_big : {B : Type 0} (P : B → Type 0) (n : ℕ) (s : Left) (next : ℕ × Left → Result B Refusal1)
    → (n ≤ length s.bytes → IfRead P (next (big_number n s.bytes, past n s))) → IfRead P (cut (big n s) >>= next)
then_big P n s next h =
    field_by P (nat_lt (length s.bytes) n) (record { at = s.at; need = n }) (big_number n s.bytes, past n s) next
    (λ enough. h (ltb-false (length s.bytes) n enough))

abbrev IsPlain : Body → Type 0
IsPlain b = is_syn b ≡ false

data_plain : (vector : Option (List ℕ)) (aoa : Option ℕ) (s : Left) → IfRead IsPlain (data_at vector aoa s)
unfolding data_at
data_plain vector aoa s =
    then_read {A = ℕ × Left} IsPlain (cut (big 4 s)) _ (λ coded. then_read {A = ℕ × Left} IsPlain (cut (big 4 coded.1)) _ (λ start.
    ok_read IsPlain (DataBody vector aoa coded.0 start.0 (start.1).bytes) refl))

fec_plain : (vector : Option (List ℕ)) (aoa : Option ℕ) (s : Left) → IfRead IsPlain (fec_at vector aoa s)
unfolding fec_at
fec_plain vector aoa s =
    then_read {A = ℕ × Left} IsPlain (cut (big 4 s)) _ (λ coded. then_read {A = ℕ × Left} IsPlain (cut (big 4 coded.1)) _ (λ start.
    then_read {A = ℕ × Left} IsPlain (cut (big 1 start.1)) _ (λ range. then_read {A = ℕ × Left} IsPlain (cut (big 1 range.1)) _ (λ index.
    then_read {A = List ℕ × Left} IsPlain (cut (block 2 index.1)) _ (λ padding.
    ok_read IsPlain (FecBody vector aoa coded.0 start.0 range.0 index.0 (padding.1).bytes) refl)))))

rest_plain : (word : ℕ) (vector : Option (List ℕ)) (aoa : Option ℕ) (s : Left) → IfRead IsPlain (rest_at word vector aoa s)
unfolding rest_at
rest_plain word vector aoa s =
    either_read IsPlain (has word 0x0008) (if has word 0x0010 then fec_at vector aoa s else data_at vector aoa s) (Ok (BareBody vector aoa s.bytes))
    (λ e. either_read IsPlain (has word 0x0010) (fec_at vector aoa s) (data_at vector aoa s) (λ e. fec_plain vector aoa s) (λ e. data_plain vector aoa s))
    (λ e. ok_read IsPlain (BareBody vector aoa s.bytes) refl)

told_plain : (word : ℕ) (s : Left) → IfRead IsPlain (told_at word s)
unfolding told_at
told_plain word s =
    then_read {A = Option (List ℕ) × Left} IsPlain (vector_where (has word 0x0004) s) _ (λ vector.
    then_read {A = Option ℕ × Left} IsPlain (number_where (has word 0x0100) vector.1) _ (λ aoa. rest_plain word vector.0 aoa.0 aoa.1))

-- a SYN is read where the word has the flag
abbrev Marked : ℕ → Body → Type 0
Marked word b = is_syn b ≡ true → has word 0x0001 ≡ true

plain_marked : (word : ℕ) (r : Result Body Refusal1) → IfRead IsPlain r → IfRead (Marked word) r
plain_marked word r h = record { holds = λ b is syn. (let plain = h.holds b is in cc) }

any_marked : (word : ℕ) (r : Result Body Refusal1) → has word 0x0001 ≡ true → IfRead (Marked word) r
any_marked word r h = record { holds = λ b is syn. h }

body_marked : (word : ℕ) (s : Left) → IfRead (Marked word) (body_at word s)
unfolding body_at
body_marked word s =
    either_read (Marked word) (has word 0x0001) (opening_at word s) (told_at word s) (any_marked word (opening_at word s)) (λ e. plain_marked word (told_at word s) (told_plain word s))

-- ---- the flag

low_bit : (high low word : ℕ) → word ≡ high * 256 + low → has word 0x0001 ≡ true → (low % 2 == 1) ≡ true
low_bit high low word is set =
    let odd : bit_and word 1 ≡ word % 2 = and_mask word 1 in
    let same : word % 2 ≡ low % 2 = omega (arith, is) in
    by_value (low % 2) (omega arith) (ap (λ n. not (n == 0)) (sym (odd ∙ same)) ∙ set)
  where
    by_value : (n : ℕ) → n < 2 → not (n == 0) ≡ true → (n == 1) ≡ true
    by_value n less h = grind (arith, nat_tests)

-- the lowest bit of the word behind six bytes is that of the eighth byte
word_flag : (d : List ℕ) → has (big_number 2 (drop 2 (drop 4 d))) 0x0001 ≡ true → has_syn d ≡ true
word_flag d h =
    let eighth : slice_index (drop 2 (drop 4 d)) 1 ≡ get_or d 7 0 = get_or-drop 2 (drop 4 d) 1 0 ∙ get_or-drop 4 d 3 0 in
    low_bit (slice_index (drop 2 (drop 4 d)) 0) (get_or d 7 0) (big_number 2 (drop 2 (drop 4 d))) (omega (arith, eighth)) h

-- a SYN that is read has the flag
abbrev Flagged : List ℕ → Packet → Type 0
Flagged d p = is_syn p.body ≡ true → (has_syn d ≡ true) × (8 ≤ length d)

with_body : (d : List ℕ) (word : ℕ) (r : Result Body Refusal1) (f : Body → Packet) → ((b : Body) → (f b).body ≡ b)
    → (has word 0x0001 ≡ true → has_syn d ≡ true) → 8 ≤ length d → IfRead (Marked word) r → IfRead (Flagged d) (r >>= λ b. Ok (f b))
with_body d word (Ok b) f keeps flag long h = ok_read (Flagged d) (f b) (λ syn. (flag (h.holds b refl (ap is_syn (sym (keeps b)) ∙ syn)), long))
with_body d word (Err e) f keeps flag long h = err_read (Flagged d) e

packet_flag : (d : List ℕ) → IfRead (Flagged d) (packet_at (record { at = 0; bytes = d }))
unfolding packet_at
packet_flag d =
    let start : Left = record { at = 0; bytes = d } in
    then_big (Flagged d) 4 start _ (λ four. then_big (Flagged d) 2 (past 4 start) _ (λ six. then_big (Flagged d) 2 (past 2 (past 4 start)) _ (λ eight.
    let word = big_number 2 (drop 2 (drop 4 d)) in
    with_body d word (body_at word (past 2 (past 2 (past 4 start)))) _ (λ b. refl) (word_flag d)
    (omega (arith, eight, length-drop 2 (drop 4 d), length-drop 4 d)) (body_marked word (past 2 (past 2 (past 4 start)))))))

-- so has what shows an opening
pub opening_flag : (d : List ℕ) → is_opening d ≡ true → (has_syn d ≡ true) × (8 ≤ length d)
opening_flag d h = by_length (nat_lt DATAGRAM (length d)) h
  where
    by_packet : (r : Result Packet Refusal1) → IfRead (Flagged d) r → shows_syn (packet_or r) ≡ true → (has_syn d ≡ true) × (8 ≤ length d)
    by_packet (Ok p) flagged syn = flagged.holds p refl syn
    by_packet (Err e) flagged syn = cc

    by_length : (long : Bool) → shows_syn (if long then Err reason.TooLong else packet_or (packet_at (record { at = 0; bytes = d }))) ≡ true → (has_syn d ≡ true) × (8 ≤ length d)
    by_length true syn = cc
    by_length false syn = by_packet (packet_at (record { at = 0; bytes = d })) (packet_flag d) syn

-- ---- what is sent

-- the datagrams of a machine have no such flag
pub machine_plain : (d : Datagram) → has_syn (spelled (packet_with d)) ≡ false
machine_plain d = by_load d.load
  where
    even_data : (v a : Bool) → (0 + (0x0008 + flag_if v 0x0004 + flag_if a 0x0100)) % 256 % 2 ≡ 0
    even_data true true = refl
    even_data true false = refl
    even_data false true = refl
    even_data false false = refl

    even_bare : (v a : Bool) → (0 + (flag_if v 0x0004 + flag_if a 0x0100)) % 256 % 2 ≡ 0
    even_bare true true = refl
    even_bare true false = refl
    even_bare false true = refl
    even_bare false false = refl

    even : (load : Option Carried) → (0 + announced (body_of d load)) % 256 % 2 ≡ 0
    even None = even_bare (is_some (vector_in d.tells d.telling)) (is_some (option_map low d.floor))
    even (Some c) = even_data (is_some (vector_in d.tells d.telling)) (is_some (option_map low d.floor))

    by_load : (load : Option Carried) → has_syn (spelled (record { ack = low (named_in d.telling); window = WINDOW; marks = 0; body = body_of d load })) ≡ false
    by_load load = ap (λ n. n == 1) (even load)

-- the low byte of the flags of an opening, or of one that answers
opening_byte : (s : OpenSettings) (answer : Bool) (ack : ℕ) (version : Option ℕ)
    → get_or (spelled (opening s answer ack version)) 7 0 ≡ (if answer then 0x05 else 0x01)
opening_byte s answer ack version = by_marks s.kind answer version
  where
    by_marks : (kind : Kind) (answer : Bool) (version : Option ℕ) → (marks_of kind + (0x0001 + flag_if answer 0x0004 + 0 + flag_if (is_some (option_map (names answer s.cookie_hash) version)) 0x1000)) % 256 ≡ (if answer then 0x05 else 0x01)
    by_marks Reliable true None = refl
    by_marks Reliable true (Some v) = refl
    by_marks Reliable false None = refl
    by_marks Reliable false (Some v) = refl
    by_marks Lossy true None = refl
    by_marks Lossy true (Some v) = refl
    by_marks Lossy false None = refl
    by_marks Lossy false (Some v) = refl

-- so it has the flag
opening_has : (s : OpenSettings) (answer : Bool) (ack : ℕ) (version : Option ℕ) → has_syn (spelled (opening s answer ack version)) ≡ true
opening_has s answer ack version = ap (λ n. n % 2 == 1) (opening_byte s answer ack version) ∙ by_answer answer
  where
    by_answer : (answer : Bool) → ((if answer then 0x05 else 0x01) % 2 == 1) ≡ true
    by_answer true = refl
    by_answer false = refl

-- and is no packet of the second layout
opening_low : (s : OpenSettings) (answer : Bool) (ack : ℕ) (version : Option ℕ) → Hashes s answer version → is_low (spelled (opening s answer ack version)) ≡ true
opening_low s answer ack version hash =
    ap (λ n. nat_le 8 n && (nat_le n DATAGRAM && nat_lt (get_or (spelled (opening s answer ack version)) 7 0) 0x40)) (is_whole s answer ack version hash)
    ∙ ap (λ n. nat_lt n 0x40) (opening_byte s answer ack version) ∙ by_answer answer
  where
    by_answer : (answer : Bool) → nat_lt (if answer then 0x05 else 0x01) 0x40 ≡ true
    by_answer true = refl
    by_answer false = refl

some_is : {A B : Type 0} (f : A → B) (b : Bool) (x : A) (out : B) → option_map f (if b then Some x else None) ≡ Some out → out ≡ f x
some_is f true x out h = cc
some_is f false x out h = cc

-- what an opening sends is one of its two packets
record IsSent (s : OpenSettings) (out : List ℕ) : Type 0 where
  answer : Bool
  ack : ℕ
  version : Option ℕ
  shows_hash : (s.version ≡ 0x0101 → IsHash s.cookie_hash) → Hashes s answer version
  out_is : out ≡ spelled (opening s answer ack version)

sent_is : (s : OpenSettings) (role : Role) (a : Option Agreement) (timer : Option Timer) (owed at : ℕ) (out : List ℕ)
    → option_map spelled (sent s role a timer owed at) ≡ Some out → IsSent s out
sent_is s Server None timer owed at out h = cc
sent_is s Server (Some a) timer owed at out h = record {
  answer = true;
  ack = a.peer_initial;
  version = if a.extended then Some a.version else None;
  shows_hash = λ hash. none_shown (IsHash s.cookie_hash) (if a.extended then Some a.version else None);
  out_is = some_is spelled (nat_lt 0 owed) (syn_ack s a) out h;
}
sent_is s Client None timer owed at out h = record {
  answer = false;
  ack = 0xFFFFFFFF;
  version = if s.version == 0x0001 then None else Some s.version;
  shows_hash = λ hash. hash_named (IsHash s.cookie_hash) s.version hash;
  out_is = some_is spelled (is_time timer at && nat_lt (row timer) 16) (syn s) out h;
}
sent_is s Client (Some a) timer owed at out h = cc

pub sent_has : (s : OpenSettings) (role : Role) (a : Option Agreement) (timer : Option Timer) (owed at : ℕ) (out : List ℕ)
    → option_map spelled (sent s role a timer owed at) ≡ Some out → has_syn out ≡ true
sent_has s role a timer owed at out h =
    let i = sent_is s role a timer owed at out h in
    ap has_syn i.out_is ∙ opening_has s i.answer i.ack i.version

pub sent_low : (s : OpenSettings) (role : Role) (a : Option Agreement) (timer : Option Timer) (owed at : ℕ) (out : List ℕ)
    → (s.version ≡ 0x0101 → IsHash s.cookie_hash)
    → option_map spelled (sent s role a timer owed at) ≡ Some out → is_low out ≡ true
sent_low s role a timer owed at out hash h =
    let i = sent_is s role a timer owed at out h in
    ap is_low i.out_is ∙ opening_low s i.answer i.ack i.version (i.shows_hash hash)
