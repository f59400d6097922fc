-- Main frames at the front of a stream: what is spelled is read, each fault is the answer, and bytes
-- begin a frame, have a fault, or want more.
use Rattle.std.proofs.Common.{◌≡◌, ◌≢◌, ◌⊎◌, inl, inr, ℕ, ◌+◌, ◌-◌, ◌^◌, ◌<◌, ◌≤◌, cond, ltb, List, [], ◌∷◌, ◌++◌, length, take, drop, replicate, Some, None, Result, Ok, Err, refl, sym, ap, ◌∙◌, subst, arith, append_assoc, append-nil, length-append}
use Rattle.std.proofs.lemmas.Bool.{cases_lt, cases_eq, lt-ltb, le-ltb, eq-eqb, ne_eqb}
use Rattle.std.proofs.lemmas.List.{take-append-drop, length-take-le, length-replicate, drop_at}
use Rattle.std.proofs.lemmas.List.Elements.{All-append, All-cons, All-nil, All-head, All-tail, All-take}
use Rattle.byteorder.specs.Endian.{little_bytes, little_number}
use Rattle.byteorder.specs.Numbers.{little_number-reads_back}
use Rattle.mt_base.specs.declared.kinds.Kind.{Kind}
use Rattle.mt_base.specs.declared.kinds.Kind.TheVariants.{Reliable, Lossy}
use Rattle.mt_base.specs.Writing.{joined}
use Rattle.mt_base.proofs.Numbers.{IsBytes, zero_bytes}
use Rattle.mt_base.proofs.Fields.{little_or, block_or}
use Rattle.tunnel_pdus.specs.declared.kind.FrameKind.{FrameKind}
use Rattle.tunnel_pdus.specs.declared.kind.FrameKind.TheVariants as frame
use Rattle.tunnel_pdus.specs.declared.part.Part.TheVariants.{Whole, More}
use Rattle.tunnel_pdus.specs.declared.part.TunnelReason.{TunnelReason}
use Rattle.tunnel_pdus.specs.declared.part.TunnelReason.TheVariants as reason
use Rattle.tunnel_pdus.specs.declared.part.TunnelRefusal.{TunnelRefusal}
use Rattle.tunnel_pdus.specs.declared.stop.Stop.{Stop}
use Rattle.tunnel_pdus.specs.declared.stop.Stop.TheVariants as stop
use Rattle.tunnel_pdus.specs.Value.{Frame, Request, Response, Channel, AreBytes, IsFrameLength, FitsFrame, kind_code, protocol_code, frame_layout, frame_fields}
use Rattle.mt_base.specs.Parts.{◌>>=◌}
use Rattle.tunnel_pdus.specs.Reading.{refused, told, kind_of, named_kind, kind_at, checked_body, frame_length_at, protocol_of, cookie_at, request_at, response_at, channel_at, body_at, frame_at, frame_reading}
use Rattle.tunnel_pdus.specs.Layout.{SpellsFrame}
use Rattle.tunnel_pdus.specs.Faults.{WrongBody, body_long, request_body, response_body, channel_body, RefusedFrame, bad_kind, bad_body_length, bad_protocol}
use Rattle.tunnel_pdus.specs.Streams.{Begins}
use Rattle.tunnel_pdus.proofs.Grammars.{Grammar, Decided, whole, faulty, waiting}
use Rattle.tunnel_pdus.proofs.Windows.{window_of, window_cut, byte_of, byte_cut, number_of, number_cut}
use Rattle.tunnel_pdus.proofs.Headers.{high}

-- ---- what a chain of reads tells

more_at : (bytes : List ℕ) (need : ℕ) → frame_at bytes ≡ Err (stop.More need) → frame_reading bytes ≡ Ok (More need)
unfolding frame_reading
more_at bytes need is = ap told is

fault_at : (bytes : List ℕ) (at : ℕ) (why : TunnelReason) (r : TunnelRefusal) → frame_at bytes ≡ Err (refused at why) → r ≡ record { at = at; reason = why } → frame_reading bytes ≡ Err r
unfolding frame_reading
fault_at bytes at why r is names = ap told is ∙ ap (λ e. Err e) (sym names)

whole_at : (bytes : List ℕ) (f : Frame) (used : ℕ) → frame_at bytes ≡ Ok (f, used) → frame_reading bytes ≡ Ok (Whole f used)
unfolding frame_reading
whole_at bytes f used is = ap told is

-- ---- kind and length

kind_reads : (k : FrameKind) (rest : List ℕ) → kind_at (kind_code k ∷ rest) ≡ Ok k
unfolding kind_at
kind_reads frame.Request rest = ap (λ r. r >>= λ first. named_kind (kind_of first)) (byte_of [] 1 rest (1 ∷ rest) 0 refl refl)
kind_reads frame.Response rest = ap (λ r. r >>= λ first. named_kind (kind_of first)) (byte_of [] 2 rest (2 ∷ rest) 0 refl refl)
kind_reads frame.Channel rest = ap (λ r. r >>= λ first. named_kind (kind_of first)) (byte_of [] 3 rest (3 ∷ rest) 0 refl refl)

kind_unknown : (x : ℕ) (rest : List ℕ) → x ≢ 1 → x ≢ 2 → x ≢ 3 → kind_at (x ∷ rest) ≡ Err (refused 0 reason.BadKind)
unfolding kind_at
kind_unknown x rest a b c = rw (byte_of [] x rest (x ∷ rest) 0 refl refl, ne_eqb x 1 a, ne_eqb x 2 b, ne_eqb x 3 c) refl

-- a length, where it is one of the kind
abbrev checked : FrameKind → ℕ → Result ℕ Stop
checked k n = cond (ltb 1600 n) (Err (refused 1 reason.TooLong)) (checked_body k n)

checked_good : (k : FrameKind) (n : ℕ) → IsFrameLength k n → checked k n ≡ Ok n
checked_good frame.Request n h = rw (le-ltb 1600 n (omega arith), eq-eqb n 24 h) refl
checked_good frame.Response n h = rw (le-ltb 1600 n (omega arith), eq-eqb n 8 h) refl
checked_good frame.Channel n h = rw (le-ltb 1600 n h.1, ne_eqb n 0 (λ e. omega (arith, h.0))) refl

checked_wrong : (k : FrameKind) (n : ℕ) (why : TunnelReason) → WrongBody k n why → checked k n ≡ Err (refused 1 why)
checked_wrong _ _ _ (body_long k n h) = rw (lt-ltb 1600 n h) refl
checked_wrong _ _ _ (request_body n few h) = rw (le-ltb 1600 n few, ne_eqb n 24 h) refl
checked_wrong _ _ _ (response_body n few h) = rw (le-ltb 1600 n few, ne_eqb n 8 h) refl
checked_wrong _ _ _ (channel_body n h) = rw (le-ltb 1600 n (omega arith), eq-eqb n 0 h) refl

length_or : (k : FrameKind) (n : ℕ) → IsFrameLength k n ⊎ ((why : TunnelReason) × WrongBody k n why)
length_or k n = elim (cases_lt 1600 n) [
  | inl h ↦ inr (reason.TooLong, body_long k n h)
  | inr few ↦ of_kind k few
]
  where
    of_kind : (k : FrameKind) → n ≤ 1600 → IsFrameLength k n ⊎ ((why : TunnelReason) × WrongBody k n why)
    of_kind frame.Request few = elim (cases_eq n 24) [ inl e ↦ inl e | inr h ↦ inr (reason.WrongLength, request_body n few h) ]
    of_kind frame.Response few = elim (cases_eq n 8) [ inl e ↦ inl e | inr h ↦ inr (reason.WrongLength, response_body n few h) ]
    of_kind frame.Channel few = elim (cases_eq n 0) [ inl e ↦ inr (reason.WrongLength, channel_body n e) | inr h ↦ inl (omega arith, few) ]

length_small : (k : FrameKind) (n : ℕ) → IsFrameLength k n → n ≤ 1600
length_small frame.Request n h = omega arith
length_small frame.Response n h = omega arith
length_small frame.Channel n h = h.1

length_reads : (k : FrameKind) (x n : ℕ) (rest : List ℕ) → n < 2 ^ 16 → frame_length_at k (x ∷ (little_bytes 2 n ++ rest)) ≡ checked k n
unfolding frame_length_at
length_reads k x n rest small = ap (λ r. r >>= checked k) (number_of (x ∷ []) n rest (x ∷ (little_bytes 2 n ++ rest)) 1 small refl refl)

length_cut : (k : FrameKind) (bytes : List ℕ) → length bytes < 3 → frame_length_at k bytes ≡ Err (stop.More 3)
unfolding frame_length_at
length_cut k bytes few = ap (λ r. r >>= checked k) (number_cut bytes 1 few)

at_first : (bytes : List ℕ) (r : Result FrameKind Stop) → kind_at bytes ≡ r → frame_at bytes ≡ (r >>= λ k. frame_length_at k bytes >>= λ n. body_at k n bytes)
unfolding frame_at
at_first bytes r is = ap (λ q. q >>= λ k. frame_length_at k bytes >>= λ n. body_at k n bytes) is

at_length : (k : FrameKind) (rest bytes : List ℕ) (r : Result ℕ Stop) → bytes ≡ kind_code k ∷ rest → frame_length_at k bytes ≡ r → frame_at bytes ≡ (r >>= λ n. body_at k n bytes)
at_length k rest bytes r is then = at_first bytes (Ok k) (ap kind_at is ∙ kind_reads k rest) ∙ ap (λ q. q >>= λ n. body_at k n bytes) then

at_body : (k : FrameKind) (n : ℕ) (rest bytes : List ℕ) → IsFrameLength k n → bytes ≡ kind_code k ∷ (little_bytes 2 n ++ rest) → frame_at bytes ≡ body_at k n bytes
at_body k n rest bytes good is =
    let small = length_small k n good in
    at_length k (little_bytes 2 n ++ rest) bytes (Ok n) is (ap (frame_length_at k) is ∙ length_reads k (kind_code k) n rest (omega arith) ∙ checked_good k n good)

-- ---- the bodies

-- a request up to its protocol
abbrev asked : ℕ → ℕ → List ℕ → List ℕ
asked id protocol rest = 1 ∷ (little_bytes 2 24 ++ (little_bytes 4 id ++ (little_bytes 2 protocol ++ rest)))

past_protocol : (id protocol : ℕ) (rest bytes : List ℕ) → id < 2 ^ 32 → protocol < 2 ^ 16 → bytes ≡ asked id protocol rest → request_at bytes ≡ cookie_at id (protocol_of protocol) bytes
unfolding request_at
past_protocol id protocol rest bytes small fits is =
    let field = little_bytes 4 id ++ little_bytes 2 protocol in
    let first : little_number 4 field ≡ id = little_number-reads_back 4 id (little_bytes 2 protocol) small in
    let second : little_number 2 (drop 4 field) ≡ protocol = ap (little_number 2) (sym (append-nil (little_bytes 2 protocol))) ∙ little_number-reads_back 2 protocol [] fits in
    ap (λ r. r >>= λ front. cookie_at (little_number 4 front) (protocol_of (little_number 2 (drop 4 front))) bytes) (window_of (1 ∷ little_bytes 2 24) field rest bytes 3 6 is refl refl)
    ∙ ap (λ x. cookie_at x (protocol_of (little_number 2 (drop 4 field))) bytes) first ∙ ap (λ x. cookie_at id (protocol_of x) bytes) second

protocol_is : (k : Kind) → protocol_of (protocol_code k) ≡ Some k
protocol_is Reliable = refl
protocol_is Lossy = refl

protocol_small : (k : Kind) → protocol_code k < 2 ^ 16
protocol_small Reliable = omega arith
protocol_small Lossy = omega arith

request_front : (id : ℕ) (k : Kind) (rest bytes : List ℕ) → id < 2 ^ 32 → bytes ≡ asked id (protocol_code k) rest → frame_at bytes ≡ cookie_at id (Some k) bytes
request_front id k rest bytes small is =
    at_body frame.Request 24 (little_bytes 4 id ++ (little_bytes 2 (protocol_code k) ++ rest)) bytes refl is
    ∙ past_protocol id (protocol_code k) rest bytes small (protocol_small k) is ∙ ap (λ o. cookie_at id o bytes) (protocol_is k)

request_reads : (id : ℕ) (k : Kind) (reserved cookie rest bytes : List ℕ) → id < 2 ^ 32 → length reserved ≡ 2 → length cookie ≡ 16
    → bytes ≡ asked id (protocol_code k) (reserved ++ (cookie ++ rest)) → frame_at bytes ≡ Ok (Request id k cookie, 27)
request_reads id k reserved cookie rest bytes small two long is =
    let front = asked id (protocol_code k) [] in
    let field : List ℕ = reserved ++ cookie in
    let place : bytes ≡ front ++ (field ++ rest) = is ∙ ap (λ t. asked id (protocol_code k) t) (sym (append_assoc reserved cookie rest)) in
    request_front id k (reserved ++ (cookie ++ rest)) bytes small is
    ∙ ap (λ r. r >>= λ f. Ok (Request id k (drop 2 f), 27)) (window_of front field rest bytes 9 18 place refl (omega (arith, length-append reserved cookie)))
    ∙ ap (λ xs. Ok (Request id k xs, 27)) (drop_at reserved cookie 2 two)

response_reads : (id hr : ℕ) (rest bytes : List ℕ) → id < 2 ^ 32 → hr < 2 ^ 32 → bytes ≡ 2 ∷ (little_bytes 2 8 ++ (little_bytes 4 id ++ (little_bytes 4 hr ++ rest)))
    → frame_at bytes ≡ Ok (Response id hr, 11)
unfolding response_at
response_reads id hr rest bytes small fits is =
    let field = little_bytes 4 id ++ little_bytes 4 hr in
    let first : little_number 4 field ≡ id = little_number-reads_back 4 id (little_bytes 4 hr) small in
    let second : little_number 4 (drop 4 field) ≡ hr = ap (little_number 4) (sym (append-nil (little_bytes 4 hr))) ∙ little_number-reads_back 4 hr [] fits in
    at_body frame.Response 8 (little_bytes 4 id ++ (little_bytes 4 hr ++ rest)) bytes refl is
    ∙ ap (λ r. r >>= λ f. Ok (Response (little_number 4 f) (little_number 4 (drop 4 f)), 11)) (window_of (2 ∷ little_bytes 2 8) field rest bytes 3 8 is refl refl)
    ∙ ap (λ x. Ok (Response x (little_number 4 (drop 4 field)), 11)) first ∙ ap (λ x. Ok (Response id x, 11)) second

channel_reads : (n : ℕ) (pdu rest bytes : List ℕ) → IsFrameLength frame.Channel n → length pdu ≡ n → bytes ≡ 3 ∷ (little_bytes 2 n ++ (pdu ++ rest)) → frame_at bytes ≡ Ok (Channel pdu, 3 + n)
unfolding channel_at
channel_reads n pdu rest bytes known long is =
    at_body frame.Channel n (pdu ++ rest) bytes known is
    ∙ ap (λ r. r >>= λ f. Ok (Channel f, 3 + n)) (window_of (3 ∷ little_bytes 2 n) pdu rest bytes 3 n is refl long)

-- ---- what is spelled is read

reads : (f : Frame) (text rest : List ℕ) → SpellsFrame text f → frame_reading (text ++ rest) ≡ Ok (Whole f (length text))
reads (Request id k cookie) text rest s =
    let is : text ++ rest ≡ asked id (protocol_code k) (s.reserved ++ (cookie ++ rest)) =
    ap (λ t. t ++ rest) s.text_is ∙ ap (λ t. asked id (protocol_code k) t) (append_assoc s.reserved (cookie ++ []) rest ∙ ap (λ t. s.reserved ++ t) (append_assoc cookie [] rest)) in
    let used : 27 ≡ length text = omega (arith, ap length s.text_is, length-append s.reserved (cookie ++ []), length-append cookie [], s.reserved_are.0, s.fits.1.0) in
    whole_at (text ++ rest) (Request id k cookie) (length text)
    (request_reads id k s.reserved cookie rest (text ++ rest) s.fits.0 s.reserved_are.0 s.fits.1.0 is ∙ ap (λ u. Ok (Request id k cookie, u)) used)
reads (Response id hr) text rest s =
    let used : 11 ≡ length text = omega (arith, ap length s.text_is) in
    whole_at (text ++ rest) (Response id hr) (length text)
    (response_reads id hr rest (text ++ rest) s.fits.0 s.fits.1 (ap (λ t. t ++ rest) s.text_is) ∙ ap (λ u. Ok (Response id hr, u)) used)
reads (Channel pdu) text rest s =
    let is : text ++ rest ≡ 3 ∷ (little_bytes 2 (length pdu) ++ (pdu ++ rest)) =
    ap (λ t. t ++ rest) s.text_is ∙ ap (λ t. 3 ∷ (little_bytes 2 (length pdu) ++ t)) (append_assoc pdu [] rest) in
    let used : 3 + length pdu ≡ length text = omega (arith, ap length s.text_is, length-append pdu []) in
    whole_at (text ++ rest) (Channel pdu) (length text)
    (channel_reads (length pdu) pdu rest (text ++ rest) (s.fits.0, s.fits.1) refl is ∙ ap (λ u. Ok (Channel pdu, u)) used)

some : (f : Frame) (text : List ℕ) → SpellsFrame text f → 0 < length text
some f text s = omega (arith, ap length s.text_is)

-- ---- each fault is the answer

protocol_unknown : (protocol : ℕ) → protocol ≢ 1 → protocol ≢ 2 → protocol_of protocol ≡ None
protocol_unknown protocol a b = rw (ne_eqb protocol 1 a, ne_eqb protocol 2 b) refl

refuses : (r : TunnelRefusal) (bytes : List ℕ) → RefusedFrame bytes r → frame_reading bytes ≡ Err r
refuses r bytes (bad_kind first rest is a b c names) = fault_at bytes 0 reason.BadKind r (at_first bytes (Err (refused 0 reason.BadKind)) (ap kind_at is ∙ kind_unknown first rest a b c)) names
refuses r bytes (bad_body_length k n why rest small is wrong names) =
    fault_at bytes 1 why r (at_length k (little_bytes 2 n ++ rest) bytes (Err (refused 1 why)) is
    (ap (frame_length_at k) is ∙ length_reads k (kind_code k) n rest small ∙ checked_wrong k n why wrong)) names
refuses r bytes (bad_protocol id protocol rest small fits a b is names) =
    fault_at bytes 7 reason.BadProtocol r
    (at_body frame.Request 24 (little_bytes 4 id ++ (little_bytes 2 protocol ++ rest)) bytes refl is ∙ past_protocol id protocol rest bytes small fits is
    ∙ ap (λ o. cookie_at id o bytes) (protocol_unknown protocol a b)) names

stays : (r : TunnelRefusal) (bytes more : List ℕ) → RefusedFrame bytes r → RefusedFrame (bytes ++ more) r
stays r bytes more (bad_kind first rest is a b c names) = bad_kind first (rest ++ more) (ap (λ t. t ++ more) is) a b c names
stays r bytes more (bad_body_length k n why rest small is wrong names) = bad_body_length k n why (rest ++ more) small (ap (λ t. t ++ more) is) wrong names
stays r bytes more (bad_protocol id protocol rest small fits a b is names) = bad_protocol id protocol (rest ++ more) small fits a b (ap (λ t. t ++ more) is) names

-- ---- bytes begin a frame, have a fault, or want more

abbrev D : List ℕ → Type 0
D bytes = Decided frame_reading SpellsFrame RefusedFrame bytes

abbrev B : List ℕ → Type 0
B bytes = (f : Frame) × (used : ℕ) × Begins SpellsFrame bytes f used

begins : (f : Frame) (reserved rest bytes : List ℕ) → AreBytes 2 reserved → FitsFrame f → bytes ≡ joined (frame_layout reserved f) ++ rest → B bytes
begins f reserved rest bytes two fits is = (
  f,
  length (joined (frame_layout reserved f)),
  record {
    text = joined (frame_layout reserved f);
    rest = rest;
    spells = record { reserved = reserved; reserved_are = two; fits = fits; text_is = refl };
    bytes_are = is;
    used_is = refl;
  },
)

-- a request with all its bytes
begins_request : (id : ℕ) (k : Kind) (rest bytes : List ℕ) → id < 2 ^ 32 → 18 ≤ length rest → IsBytes rest → bytes ≡ asked id (protocol_code k) rest → B bytes
begins_request id k rest bytes small enough good is = elim (block_or 2 rest good) [
  | inl few ↦ absurd (omega arith)
  | inr reserved ↦ elim (block_or 16 reserved.rest reserved.bytes_behind) [
    | inl few ↦ absurd (omega (arith, ap length reserved.bytes_are, length-append reserved.value reserved.rest, reserved.good.0))
    | inr cookie ↦ begins (Request id k cookie.value) reserved.value cookie.rest bytes reserved.good (small, cookie.good)
        (is ∙ ap (λ t. asked id (protocol_code k) t)
        (reserved.bytes_are ∙ ap (λ t. reserved.value ++ t) (cookie.bytes_are ∙ sym (append_assoc cookie.value [] cookie.rest)) ∙ sym (append_assoc reserved.value (cookie.value ++ []) cookie.rest)))
  ]
]

begins_response : (rest bytes : List ℕ) → 8 ≤ length rest → IsBytes rest → bytes ≡ 2 ∷ (little_bytes 2 8 ++ rest) → B bytes
begins_response rest bytes enough good is = elim (little_or 4 rest good) [
  | inl few ↦ absurd (omega arith)
  | inr id ↦ elim (little_or 4 id.rest id.bytes_behind) [
    | inl few ↦ absurd (omega (arith, ap length id.bytes_are))
    | inr hr ↦ begins (Response id.value hr.value) (0 ∷ 0 ∷ []) hr.rest bytes (refl, zero_bytes 2) (id.good, hr.good)
        (is ∙ ap (λ t. 2 ∷ (little_bytes 2 8 ++ t)) (id.bytes_are ∙ ap (λ t. little_bytes 4 id.value ++ t) hr.bytes_are))
  ]
]

begins_channel : (n : ℕ) (pdu rest bytes : List ℕ) → IsFrameLength frame.Channel n → length pdu ≡ n → IsBytes pdu → bytes ≡ 3 ∷ (little_bytes 2 n ++ (pdu ++ rest)) → B bytes
begins_channel n pdu rest bytes known long good is =
    begins (Channel pdu) (0 ∷ 0 ∷ []) rest bytes (refl, zero_bytes 2) (omega (arith, known.0), omega (arith, known.1), good)
    (is ∙ ap (λ m. 3 ∷ (little_bytes 2 m ++ (pdu ++ rest))) (sym long) ∙ ap (λ t. 3 ∷ (little_bytes 2 (length pdu) ++ t)) (sym (append_assoc pdu [] rest)))

-- the rest of a request is wanted
wait_cookie : (id : ℕ) (k : Kind) (rest bytes : List ℕ) → id < 2 ^ 32 → length rest < 18 → IsBytes rest → bytes ≡ asked id (protocol_code k) rest → D bytes
wait_cookie id k rest bytes small few good is =
    let zeros : List ℕ = replicate (18 - length rest) 0 in
    let all : bytes ++ zeros ≡ asked id (protocol_code k) (rest ++ zeros) = ap (λ t. t ++ zeros) is in
    let long : length (rest ++ zeros) ≡ 18 = omega (arith, length-append rest zeros, length-replicate {A = ℕ} (18 - length rest) 0) in
    waiting 27 (record {
      longer = omega (arith, ap length is);
      more_is = λ more less. more_at (bytes ++ more) 27
          (request_front id k (rest ++ more) (bytes ++ more) small (ap (λ t. t ++ more) is) ∙ ap (λ r. r >>= λ f. Ok (Request id k (drop 2 f), 27)) (window_cut (bytes ++ more) 9 18 less));
      possible = (
        zeros,
        zero_bytes (18 - length rest),
        omega (arith, ap length all, long),
        inl (begins_request id k (rest ++ zeros) (bytes ++ zeros) small (omega arith) (All-append (λ b. b < 256) rest zeros good (zero_bytes (18 - length rest))) all),
      );
    })

by_protocol : (id protocol : ℕ) (rest bytes : List ℕ) → id < 2 ^ 32 → protocol < 2 ^ 16 → IsBytes rest → bytes ≡ asked id protocol rest → D bytes
by_protocol id protocol rest bytes small fits good is = elim (cases_eq protocol 1) [
  | inl e ↦ of_kind Reliable (is ∙ ap (λ p. asked id p rest) e)
  | inr a ↦ elim (cases_eq protocol 2) [
    | inl e ↦ of_kind Lossy (is ∙ ap (λ p. asked id p rest) e)
    | inr b ↦ faulty _ (bad_protocol id protocol rest small fits a b is refl)
  ]
]
  where
    of_kind : (k : Kind) → bytes ≡ asked id (protocol_code k) rest → D bytes
    of_kind k same = elim (cases_lt (length rest) 18) [
      | inl few ↦ wait_cookie id k rest bytes small few good same
      | inr enough ↦ (let b = begins_request id k rest bytes small enough good same in whole b.0 b.1 b.2)
    ]

-- five bytes and a sixth that no protocol has
wrong_protocol : (five bytes : List ℕ) → length five ≡ 5 → IsBytes five → bytes ≡ 1 ∷ (little_bytes 2 24 ++ (five ++ (255 ∷ []))) → (r : TunnelRefusal) × RefusedFrame bytes r
wrong_protocol five bytes long good is = elim (little_or 4 five good) [
  | inl few ↦ absurd (omega arith)
  | inr id ↦ of_last id.value id.good id.rest (omega (arith, ap length id.bytes_are)) id.bytes_behind id.bytes_are
]
  where
    of_last : (id : ℕ) → id < 2 ^ 32 → (last : List ℕ) → length last ≡ 1 → IsBytes last → five ≡ little_bytes 4 id ++ last → (r : TunnelRefusal) × RefusedFrame bytes r
    of_last id small [] one last_good same = absurd (omega arith)
    of_last id small (y ∷ []) one last_good same =
        let y_small = All-head (λ b. b < 256) y [] last_good in
        let protocol : y ∷ 255 ∷ [] ≡ little_bytes 2 (65280 + y) ++ [] = sym (append-nil (little_bytes 2 (65280 + y)) ∙ high y y_small) in (
          record { at = 7; reason = reason.BadProtocol },
          bad_protocol id (65280 + y) [] small (omega arith) (λ e. omega arith) (λ e. omega arith)
              (is ∙ ap (λ t. 1 ∷ (little_bytes 2 24 ++ (t ++ (255 ∷ [])))) same ∙ ap (λ t. 1 ∷ (little_bytes 2 24 ++ (little_bytes 4 id ++ t))) protocol) refl,
        )
    of_last id small (x ∷ y ∷ last) one last_good same = absurd (omega arith)

request_cut : (bytes : List ℕ) → length bytes < 9 → request_at bytes ≡ Err (stop.More 9)
unfolding request_at
request_cut bytes few = rw (window_cut bytes 3 6 few) refl

by_request : (rest bytes : List ℕ) → IsBytes rest → bytes ≡ 1 ∷ (little_bytes 2 24 ++ rest) → D bytes
by_request rest bytes good is = elim (cases_lt (length rest) 6) [
  | inl few ↦ wait few
  | inr enough ↦ elim (little_or 4 rest good) [
    | inl few ↦ absurd (omega arith)
    | inr id ↦ elim (little_or 2 id.rest id.bytes_behind) [
      | inl few ↦ absurd (omega (arith, ap length id.bytes_are))
      | inr protocol ↦ by_protocol id.value protocol.value protocol.rest bytes id.good protocol.good protocol.bytes_behind
          (is ∙ ap (λ t. 1 ∷ (little_bytes 2 24 ++ t)) (id.bytes_are ∙ ap (λ t. little_bytes 4 id.value ++ t) protocol.bytes_are))
    ]
  ]
]
  where
    wait : length rest < 6 → D bytes
    wait few =
        let zeros : List ℕ = replicate (5 - length rest) 0 in
        let more : List ℕ = zeros ++ (255 ∷ []) in
        let five : List ℕ = rest ++ zeros in
        let long : length five ≡ 5 = omega (arith, length-append rest zeros, length-replicate {A = ℕ} (5 - length rest) 0) in
        let all : bytes ++ more ≡ 1 ∷ (little_bytes 2 24 ++ (five ++ (255 ∷ []))) = ap (λ t. t ++ more) is ∙ ap (λ t. 1 ∷ (little_bytes 2 24 ++ t)) (sym (append_assoc rest zeros (255 ∷ []))) in
        waiting 9 (record {
          longer = omega (arith, ap length is);
          more_is = λ more less. more_at (bytes ++ more) 9 (at_body frame.Request 24 (rest ++ more) (bytes ++ more) refl (ap (λ t. t ++ more) is) ∙ request_cut (bytes ++ more) less);
          possible = (
            more,
            All-append (λ b. b < 256) zeros (255 ∷ []) (zero_bytes (5 - length rest)) (All-cons (λ b. b < 256) 255 [] (omega arith) (All-nil (λ b. b < 256))),
            omega (arith, ap length all, length-append five (255 ∷ []), long),
            inr (wrong_protocol five (bytes ++ more) long (All-append (λ b. b < 256) rest zeros good (zero_bytes (5 - length rest))) all),
          );
        })

response_cut : (bytes : List ℕ) → length bytes < 11 → response_at bytes ≡ Err (stop.More 11)
unfolding response_at
response_cut bytes few = rw (window_cut bytes 3 8 few) refl

by_response : (rest bytes : List ℕ) → IsBytes rest → bytes ≡ 2 ∷ (little_bytes 2 8 ++ rest) → D bytes
by_response rest bytes good is = elim (cases_lt (length rest) 8) [
  | inr enough ↦ (let b = begins_response rest bytes enough good is in whole b.0 b.1 b.2)
  | inl few ↦ (
      let zeros : List ℕ = replicate (8 - length rest) 0 in
      let all : bytes ++ zeros ≡ 2 ∷ (little_bytes 2 8 ++ (rest ++ zeros)) = ap (λ t. t ++ zeros) is in
      let long : length (rest ++ zeros) ≡ 8 = omega (arith, length-append rest zeros, length-replicate {A = ℕ} (8 - length rest) 0) in
      waiting 11 (record {
        longer = omega (arith, ap length is);
        more_is = λ more less. more_at (bytes ++ more) 11 (at_body frame.Response 8 (rest ++ more) (bytes ++ more) refl (ap (λ t. t ++ more) is) ∙ response_cut (bytes ++ more) less);
        possible = (
          zeros,
          zero_bytes (8 - length rest),
          omega (arith, ap length all, long),
          inl (begins_response (rest ++ zeros) (bytes ++ zeros) (omega arith) (All-append (λ b. b < 256) rest zeros good (zero_bytes (8 - length rest))) all),
        );
      })
      )
]

channel_cut : (n : ℕ) (bytes : List ℕ) → length bytes < 3 + n → channel_at n bytes ≡ Err (stop.More (3 + n))
unfolding channel_at
channel_cut n bytes few = ap (λ r. r >>= λ f. Ok (Channel f, 3 + n)) (window_cut bytes 3 n few)

by_channel : (n : ℕ) (rest bytes : List ℕ) → IsFrameLength frame.Channel n → IsBytes rest → bytes ≡ 3 ∷ (little_bytes 2 n ++ rest) → D bytes
by_channel n rest bytes known good is = elim (cases_lt (length rest) n) [
  | inr enough ↦ (
      let b = begins_channel n (take n rest) (drop n rest) bytes known (length-take-le n rest enough) (All-take (λ b. b < 256) n rest good)
      (is ∙ ap (λ t. 3 ∷ (little_bytes 2 n ++ t)) (sym (take-append-drop n rest))) in
      whole b.0 b.1 b.2
      )
  | inl few ↦ (
      let zeros : List ℕ = replicate (n - length rest) 0 in
      let all : bytes ++ zeros ≡ 3 ∷ (little_bytes 2 n ++ (rest ++ zeros)) = ap (λ t. t ++ zeros) is in
      let long : length (rest ++ zeros) ≡ n = omega (arith, length-append rest zeros, length-replicate {A = ℕ} (n - length rest) 0) in
      waiting (3 + n) (record {
        longer = omega (arith, ap length is);
        more_is = λ more less. more_at (bytes ++ more) (3 + n) (at_body frame.Channel n (rest ++ more) (bytes ++ more) known (ap (λ t. t ++ more) is) ∙ channel_cut n (bytes ++ more) less);
        possible = (
          zeros,
          zero_bytes (n - length rest),
          omega (arith, ap length all, long),
          inl (begins_channel n (rest ++ zeros) [] (bytes ++ zeros) known long (All-append (λ b. b < 256) rest zeros good (zero_bytes (n - length rest)))
              (all ∙ ap (λ t. 3 ∷ (little_bytes 2 n ++ t)) (sym (append-nil (rest ++ zeros))))),
        );
      })
      )
]

by_body : (k : FrameKind) (n : ℕ) (rest bytes : List ℕ) → IsFrameLength k n → IsBytes rest → bytes ≡ kind_code k ∷ (little_bytes 2 n ++ rest) → D bytes
by_body frame.Request n rest bytes known good is = by_request rest bytes good (is ∙ ap (λ m. 1 ∷ (little_bytes 2 m ++ rest)) known)
by_body frame.Response n rest bytes known good is = by_response rest bytes good (is ∙ ap (λ m. 2 ∷ (little_bytes 2 m ++ rest)) known)
by_body frame.Channel n rest bytes known good is = by_channel n rest bytes known good is

-- the body's length is wanted
wait_length : (k : FrameKind) (rest : List ℕ) → length rest < 2 → IsBytes rest → D (kind_code k ∷ rest)
wait_length k rest few good = by_rest rest few good
  where
    wrong : (y : ℕ) → y < 256 → (bytes : List ℕ) → bytes ≡ kind_code k ∷ y ∷ 255 ∷ [] → (r : TunnelRefusal) × RefusedFrame bytes r
    wrong y small bytes is = (
      record { at = 1; reason = reason.TooLong },
      bad_body_length k (65280 + y) reason.TooLong [] (omega arith)
          (is ∙ ap (λ t. kind_code k ∷ t) (sym (append-nil (little_bytes 2 (65280 + y)) ∙ high y small))) (body_long k (65280 + y) (omega arith)) refl,
    )

    wants : (rest more : List ℕ) → length ((kind_code k ∷ rest) ++ more) < 3 → frame_reading ((kind_code k ∷ rest) ++ more) ≡ Ok (More 3)
    wants rest more few = more_at (kind_code k ∷ (rest ++ more)) 3
        (at_length k (rest ++ more) (kind_code k ∷ (rest ++ more)) (Err (stop.More 3)) refl (length_cut k (kind_code k ∷ (rest ++ more)) few))

    by_rest : (rest : List ℕ) → length rest < 2 → IsBytes rest → D (kind_code k ∷ rest)
    by_rest [] few good = waiting 3 (record {
      longer = omega arith;
      more_is = wants [];
      possible = (255 ∷ 255 ∷ [], All-cons (λ b. b < 256) 255 (255 ∷ []) (omega arith) (All-cons (λ b. b < 256) 255 [] (omega arith) (All-nil (λ b. b < 256))), refl, inr (wrong 255 (omega arith) _ refl));
    })
    by_rest (y ∷ []) few good = waiting 3 (record {
      longer = omega arith;
      more_is = wants (y ∷ []);
      possible = (255 ∷ [], All-cons (λ b. b < 256) 255 [] (omega arith) (All-nil (λ b. b < 256)), refl, inr (wrong y (All-head (λ b. b < 256) y [] good) _ refl));
    })
    by_rest (x ∷ y ∷ rest) few good = absurd (omega arith)

by_kind : (k : FrameKind) (rest bytes : List ℕ) → bytes ≡ kind_code k ∷ rest → IsBytes rest → D bytes
by_kind k rest bytes is good = elim (little_or 2 rest good) [
  | inl few ↦ subst D (sym is) (wait_length k rest few good)
  | inr b ↦ (
      let all : bytes ≡ kind_code k ∷ (little_bytes 2 b.value ++ b.rest) = is ∙ ap (λ t. kind_code k ∷ t) b.bytes_are in
      elim (length_or k b.value) [
        | inl known ↦ by_body k b.value b.rest bytes known b.bytes_behind all
        | inr wrong ↦ faulty _ (bad_body_length k b.value wrong.0 b.rest b.good all wrong.1 refl)
      ]
      )
]

first_cut : (bytes : List ℕ) → length bytes < 1 → kind_at bytes ≡ Err (stop.More 1)
unfolding kind_at
first_cut bytes few = rw (byte_cut bytes 0 few) refl

decides : (bytes : List ℕ) → IsBytes bytes → D bytes
decides [] good = waiting 1 (record {
  longer = omega arith;
  more_is = λ more few. more_at more 1 (at_first more (Err (stop.More 1)) (first_cut more few));
  possible = (0 ∷ [], zero_bytes 1, refl, inr (record { at = 0; reason = reason.BadKind }, bad_kind 0 [] refl (λ e. omega arith) (λ e. omega arith) (λ e. omega arith) refl));
})
decides (x ∷ rest) good =
    let behind = All-tail (λ b. b < 256) x rest good in
    elim (cases_eq x 1) [
      | inl e ↦ by_kind frame.Request rest (x ∷ rest) (ap (λ y. y ∷ rest) e) behind
      | inr a ↦ elim (cases_eq x 2) [
        | inl e ↦ by_kind frame.Response rest (x ∷ rest) (ap (λ y. y ∷ rest) e) behind
        | inr b ↦ elim (cases_eq x 3) [
          | inl e ↦ by_kind frame.Channel rest (x ∷ rest) (ap (λ y. y ∷ rest) e) behind
          | inr c ↦ faulty _ (bad_kind x rest refl a b c refl)
        ]
      ]
    ]

pub grammar : Grammar frame_reading SpellsFrame RefusedFrame
grammar = record { reads = reads; refuses = refuses; stays = stays; some = some; decides = decides }

-- ---- what a writer spells

pub written_spells : (f : Frame) → FitsFrame f → SpellsFrame (joined (frame_fields f)) f
written_spells f fits = record { reserved = 0 ∷ 0 ∷ []; reserved_are = (refl, zero_bytes 2); fits = fits; text_is = refl }

pub written_read : (f : Frame) (rest : List ℕ) → FitsFrame f → frame_reading (joined (frame_fields f) ++ rest) ≡ Ok (Whole f (length (joined (frame_fields f))))
written_read f rest fits = reads f (joined (frame_fields f)) rest (written_spells f fits)

-- no spelling is shorter
pub shortest : (text : List ℕ) (f : Frame) → SpellsFrame text f → length (joined (frame_fields f)) ≤ length text
shortest text (Request id k cookie) s = omega (arith, ap length s.text_is, length-append s.reserved (cookie ++ []), s.reserved_are.0)
shortest text (Response id hr) s = omega (arith, ap length s.text_is)
shortest text (Channel pdu) s = omega (arith, ap length s.text_is)
