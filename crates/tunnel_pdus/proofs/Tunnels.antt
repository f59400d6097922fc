-- Tunnel PDUs at the front of a stream: what is spelled is read, each fault is the answer, and bytes
-- begin a PDU, have a fault, or want more.
use Rattle.std.proofs.Common.{◌≡◌, inl, inr, ℕ, zero, suc, ◌+◌, ◌-◌, ◌^◌, ◌<◌, ◌≤◌, cond, List, [], ◌∷◌, ◌++◌, length, take, drop, replicate, Ok, Err, refl, sym, ap, ◌∙◌, subst, arith, append_assoc, append-nil, length-append}
use Rattle.std.specs.List.{All}
use Rattle.std.proofs.lemmas.Bool.{cases_lt, lt-ltb}
use Rattle.std.proofs.lemmas.List.{take-append-drop, length-take-le, length-replicate}
use Rattle.std.proofs.lemmas.List.Elements.{All-append, All-cons, All-nil, All-head, All-tail, All-take, All-drop}
use Rattle.byteorder.specs.Endian.{little_bytes}
use Rattle.mt_base.specs.Writing.{joined}
use Rattle.mt_base.proofs.Numbers.{IsBytes, zero_bytes}
use Rattle.mt_base.proofs.Fields.{little_or}
use Rattle.mt_base.proofs.Fill.{joined-append}
use Rattle.tunnel_pdus.specs.declared.action.Action.{Action}
use Rattle.tunnel_pdus.specs.declared.part.Part.TheVariants.{Whole, More}
use Rattle.tunnel_pdus.specs.declared.part.TunnelReason.{TunnelReason}
use Rattle.tunnel_pdus.specs.declared.part.TunnelReason.TheVariants as reason
use Rattle.tunnel_pdus.specs.declared.part.TunnelRefusal.{TunnelRefusal}
use Rattle.tunnel_pdus.specs.declared.stop.Stop.TheVariants as stop
use Rattle.tunnel_pdus.specs.Value.{Pdu, IsLengthOf, FitsPdu, pdu_fields, action_code, pdu_action, payload, payload_length}
use Rattle.mt_base.specs.Parts.{◌>>=◌}
use Rattle.tunnel_pdus.specs.Reading.{refused, told, action_at, length_at, header_at, sub_headers_at, pdu_in, pdu_at, reading}
use Rattle.tunnel_pdus.specs.Layout.{Spells, IsSubHeader, headed}
use Rattle.tunnel_pdus.specs.Faults.{Refused, bad_action, bad_flags, bad_length, bad_header, bad_sub_header, WrongSubHeader, sub_length, sub_type}
use Rattle.tunnel_pdus.specs.Streams.{Begins}
use Rattle.tunnel_pdus.proofs.Grammars.{Grammar, Decided, whole, faulty, waiting}
use Rattle.tunnel_pdus.proofs.Windows.{window_of, window_cut, byte_cut}
use Rattle.tunnel_pdus.proofs.SubHeaders.{sub_done, sub_pass, sub_stop, sub_reads, sub_type_cut, sub_length_cut, sub_wrong, subs_pass}
use Rattle.tunnel_pdus.proofs.Headers.{action_unknown, action_flags, is_action, no_action, has_flags, first_or, length_or, length_reads, length_cut, checked_wrong, too_big, header_reads, header_cut, from_header, at_first, at_length, at_header, past_header, payload_or, payload_reads, payload_long, payload_known, high}

-- ---- what a chain of reads tells

more_at : (bytes : List ℕ) (need : ℕ) → pdu_at bytes ≡ Err (stop.More need) → reading bytes ≡ Ok (More need)
unfolding reading
more_at bytes need is = ap told is

fault_at : (bytes : List ℕ) (at : ℕ) (why : TunnelReason) (r : TunnelRefusal) → pdu_at bytes ≡ Err (refused at why) → r ≡ record { at = at; reason = why } → reading bytes ≡ Err r
unfolding reading
fault_at bytes at why r is names = ap told is ∙ ap (λ e. Err e) (sym names)

whole_at : (bytes : List ℕ) (pdu : Pdu) (used : ℕ) → pdu_at bytes ≡ Ok (pdu, used) → reading bytes ≡ Ok (Whole pdu used)
unfolding reading
whole_at bytes pdu used is = ap told is

same_headed : (a b n m e f : ℕ) (xs ys : List ℕ) → a ≡ b → n ≡ m → e ≡ f → xs ≡ ys → headed a n e xs ≡ headed b m f ys
same_headed a b n m e f xs ys p q r s = rw (p, q, r, s) refl

-- ---- what is spelled is read

reads : (pdu : Pdu) (text rest : List ℕ) → Spells text pdu → reading (text ++ rest) ≡ Ok (Whole pdu (length text))
reads pdu text rest s =
    let a = pdu_action pdu in
    let n = payload_length pdu in
    let end = 4 + length (joined s.subs) in
    let field : List ℕ = joined (payload s.reserved pdu) in
    let bytes = text ++ rest in
    let long : length field ≡ n = payload_long s.reserved pdu s.reserved_are s.fits in
    let is : bytes ≡ headed (action_code a) n end (joined s.subs ++ (field ++ rest)) =
    ap (λ t. t ++ rest) s.text_is ∙ ap (λ t. headed (action_code a) n end t) (append_assoc (joined s.subs) field rest) in
    let front = headed (action_code a) n end [] in
    let passed = subs_pass s.subs s.subs_are front (field ++ rest) bytes 4 end is refl (omega arith) ∙ sub_done end end bytes (omega arith) in
    let value = window_of (front ++ joined s.subs) field rest bytes end n is (omega (arith, length-append front (joined s.subs))) long in
    let used : end + n ≡ length text = omega (arith, ap length s.text_is, length-append (joined s.subs) field, long) in
    whole_at bytes pdu (length text)
    (past_header a n end (joined s.subs ++ (field ++ rest)) bytes (payload_known pdu s.fits) (omega arith) is ∙ ap (from_header bytes a n) passed
    ∙ ap (λ r. r >>= λ f. Ok (pdu_in a f, end + n)) value ∙ ap (λ v. Ok (v, end + n)) (payload_reads s.reserved pdu s.reserved_are s.fits) ∙ ap (λ u. Ok (pdu, u)) used)

some : (pdu : Pdu) (text : List ℕ) → Spells text pdu → 0 < length text
some pdu text s = omega (arith, ap length s.text_is)

-- ---- each fault is the answer

refuses : (r : TunnelRefusal) (bytes : List ℕ) → Refused bytes r → reading bytes ≡ Err r
refuses r bytes (bad_action first rest is h names) = fault_at bytes 0 reason.BadAction r (at_first bytes (Err (refused 0 reason.BadAction)) (ap action_at is ∙ action_unknown first rest h)) names
refuses r bytes (bad_flags first rest is h big names) = fault_at bytes 0 reason.BadFlags r (at_first bytes (Err (refused 0 reason.BadFlags)) (ap action_at is ∙ action_flags first rest h big)) names
refuses r bytes (bad_length a n why rest small is wrong names) =
    fault_at bytes 1 why r (at_length a (little_bytes 2 n ++ rest) bytes (Err (refused 1 why)) is
    (ap (length_at a) is ∙ length_reads a (action_code a) n rest small ∙ checked_wrong a n why wrong)) names
refuses r bytes (bad_header a n end rest known few is names) =
    fault_at bytes 3 reason.BadHeaderLength r (at_header a n (end ∷ rest) bytes (Err (refused 3 reason.BadHeaderLength)) known is
    (ap header_at is ∙ header_reads (action_code a) n end rest ∙ ap (λ b. cond b (Err (refused 3 reason.BadHeaderLength)) (Ok end)) (lt-ltb end 4 few))) names
refuses r bytes (bad_sub_header a n end subs rest known good within is wrong names) =
    let front = headed (action_code a) n end [] in
    let at = 4 + length (joined subs) in
    let stopped = subs_pass subs good front rest bytes 4 end is refl (omega arith)
    ∙ sub_stop at end bytes (refused at reason.BadSubHeader) within (sub_wrong (front ++ joined subs) rest bytes at end wrong is (omega (arith, length-append front (joined subs)))) in
    fault_at bytes at reason.BadSubHeader r (past_header a n end (joined subs ++ rest) bytes known (omega arith) is ∙ ap (from_header bytes a n) stopped) names

wrong_stays : (left : ℕ) (bytes more : List ℕ) → WrongSubHeader left bytes → WrongSubHeader left (bytes ++ more)
wrong_stays left bytes more (sub_length n rest is wrong) = sub_length n (rest ++ more) (ap (λ t. t ++ more) is) wrong
wrong_stays left bytes more (sub_type n type rest is few fits unknown) = sub_type n type (rest ++ more) (ap (λ t. t ++ more) is) few fits unknown

stays : (r : TunnelRefusal) (bytes more : List ℕ) → Refused bytes r → Refused (bytes ++ more) r
stays r bytes more (bad_action first rest is h names) = bad_action first (rest ++ more) (ap (λ t. t ++ more) is) h names
stays r bytes more (bad_flags first rest is h big names) = bad_flags first (rest ++ more) (ap (λ t. t ++ more) is) h big names
stays r bytes more (bad_length a n why rest small is wrong names) = bad_length a n why (rest ++ more) small (ap (λ t. t ++ more) is) wrong names
stays r bytes more (bad_header a n end rest known few is names) = bad_header a n end (rest ++ more) known few (ap (λ t. t ++ more) is) names
stays r bytes more (bad_sub_header a n end subs rest known good within is wrong names) =
    bad_sub_header a n end subs (rest ++ more) known good within
    (ap (λ t. t ++ more) is ∙ ap (λ t. headed (action_code a) n end t) (append_assoc (joined subs) rest more)) (wrong_stays _ rest more wrong) names

-- ---- bytes begin a PDU, have a fault, or want more

abbrev D : List ℕ → Type 0
D bytes = Decided reading Spells Refused bytes

-- Every extension of these bytes comes to the place behind these sub-headers. Of the last of them
-- some bytes may not be there: `fill` stands for them.
record Walked (a : Action) (n end : ℕ) (subs : List (List ℕ)) (bytes part : List ℕ) : Type 0 where
  known : IsLengthOf a n
  header_fits : end < 2 ^ 8
  subs_are : All IsSubHeader subs
  fits : 4 + length (joined subs) ≤ end
  comes : (more : List ℕ) → pdu_at (bytes ++ more) ≡ from_header (bytes ++ more) a n (sub_headers_at (4 + length (joined subs)) end (bytes ++ more))
  fill : List ℕ
  fill_are : IsBytes fill
  filled : bytes ++ fill ≡ headed (action_code a) n end (joined subs ++ part)

longer_is : (a : Action) (n end : ℕ) (subs : List (List ℕ)) (bytes rest more : List ℕ) → bytes ≡ headed (action_code a) n end (joined subs ++ rest)
    → bytes ++ more ≡ headed (action_code a) n end (joined subs ++ (rest ++ more))
longer_is a n end subs bytes rest more is = ap (λ t. t ++ more) is ∙ ap (λ t. headed (action_code a) n end t) (append_assoc (joined subs) rest more)

walked : (a : Action) (n end : ℕ) (subs : List (List ℕ)) (bytes rest : List ℕ) → IsLengthOf a n → end < 2 ^ 8 → All IsSubHeader subs → 4 + length (joined subs) ≤ end
    → bytes ≡ headed (action_code a) n end (joined subs ++ rest) → Walked a n end subs bytes rest
walked a n end subs bytes rest known small good fits is = record {
  known = known;
  header_fits = small;
  subs_are = good;
  fits = fits;
  comes = λ more.
      let longer = longer_is a n end subs bytes rest more is in
      past_header a n end (joined subs ++ (rest ++ more)) (bytes ++ more) known (omega arith) longer
      ∙ ap (from_header (bytes ++ more) a n) (subs_pass subs good (headed (action_code a) n end []) (rest ++ more) (bytes ++ more) 4 end longer refl fits);
  fill = [];
  fill_are = All-nil (λ b. b < 256);
  filled = append-nil bytes ∙ is;
}

-- one more sub-header
joined_more : (subs : List (List ℕ)) (sub : List ℕ) → joined (subs ++ (sub ∷ [])) ≡ joined subs ++ sub
joined_more subs sub = joined-append subs (sub ∷ []) ∙ ap (λ t. joined subs ++ t) (append-nil sub)

more_long : (subs : List (List ℕ)) (sub : List ℕ) → length (joined (subs ++ (sub ∷ []))) ≡ length (joined subs) + length sub
more_long subs sub = ap length (joined_more subs sub) ∙ length-append (joined subs) sub

sub_is : (k type : ℕ) (content : List ℕ) → length content ≡ k → type < 2 → IsBytes content → IsSubHeader ((k + 2) ∷ type ∷ content)
sub_is k type content long known good = record {
  type = type;
  rest = content;
  known = known;
  are_bytes = good;
  bytes_are = ap (λ m. (m + 2) ∷ type ∷ content) (sym long);
}

more_subs : (subs : List (List ℕ)) (sub : List ℕ) → All IsSubHeader subs → IsSubHeader sub → All IsSubHeader (subs ++ (sub ∷ []))
more_subs subs sub good one = All-append IsSubHeader subs (sub ∷ []) good (All-cons IsSubHeader sub [] one (All-nil IsSubHeader))

-- a last sub-header of which some bytes aren't there
walked_part : (a : Action) (n end : ℕ) (subs : List (List ℕ)) (bytes : List ℕ) (k type : ℕ) (content : List ℕ) → IsLengthOf a n → end < 2 ^ 8 → All IsSubHeader subs
    → bytes ≡ headed (action_code a) n end (joined subs ++ ((k + 2) ∷ type ∷ content)) → type < 2 → 4 + length (joined subs) + (k + 2) ≤ end → length content ≤ k → IsBytes content
    → Walked a n end (subs ++ (((k + 2) ∷ type ∷ (content ++ replicate (k - length content) 0)) ∷ [])) bytes []
walked_part a n end subs bytes k type content known small good is type_known fits few good_content =
    let fill : List ℕ = replicate (k - length content) 0 in
    let inside : List ℕ = content ++ fill in
    let long : length inside ≡ k = omega (arith, length-append content fill, length-replicate {A = ℕ} (k - length content) 0) in
    let sub : List ℕ = (k + 2) ∷ type ∷ inside in
    let place : 4 + length (joined subs) + (k + 2) ≡ 4 + length (joined (subs ++ (sub ∷ []))) = omega (arith, more_long subs sub, long) in
    let before = walked a n end subs bytes ((k + 2) ∷ type ∷ content) known small good (omega arith) is in
    record {
      known = known;
      header_fits = small;
      subs_are = more_subs subs sub good (sub_is k type inside long type_known (All-append (λ b. b < 256) content fill good_content (zero_bytes (k - length content))));
      fits = omega arith;
      comes = λ more.
          let longer = longer_is a n end subs bytes ((k + 2) ∷ type ∷ content) more is in
          let front = headed (action_code a) n end [] in
          let at = 4 + length (joined subs) in
          before.comes more ∙ ap (from_header (bytes ++ more) a n)
          (sub_pass at end (bytes ++ more) (k + 2) (omega arith)
          (sub_reads (front ++ joined subs) (content ++ more) (bytes ++ more) at end (k + 2) type longer (omega (arith, length-append front (joined subs))) type_known (omega arith) fits)
          ∙ ap (λ p. sub_headers_at p end (bytes ++ more)) place);
      fill = fill;
      fill_are = zero_bytes (k - length content);
      filled = longer_is a n end subs bytes ((k + 2) ∷ type ∷ content) fill is
          ∙ ap (λ t. headed (action_code a) n end t) (sym (joined_more subs sub) ∙ sym (append-nil (joined (subs ++ (sub ∷ [])))));
    }

-- the length of the next sub-header is wanted
wait_sub : (a : Action) (n end : ℕ) (subs : List (List ℕ)) (bytes : List ℕ) → Walked a n end subs bytes [] → 4 + length (joined subs) < end → D bytes
wait_sub a n end subs bytes w within =
    let at = 4 + length (joined subs) in
    let all : bytes ++ (w.fill ++ (0 ∷ [])) ≡ headed (action_code a) n end (joined subs ++ (0 ∷ [])) =
    sym (append_assoc bytes w.fill (0 ∷ [])) ∙ ap (λ t. t ++ (0 ∷ [])) w.filled ∙ ap (λ t. headed (action_code a) n end t) (append_assoc (joined subs) [] (0 ∷ [])) in
    waiting (at + 1) (record {
      longer = omega (arith, ap length all, length-append bytes (w.fill ++ (0 ∷ [])), length-append w.fill (0 ∷ []), length-append (joined subs) (0 ∷ []));
      more_is = λ more few. more_at (bytes ++ more) (at + 1)
          (w.comes more ∙ ap (from_header (bytes ++ more) a n) (sub_stop at end (bytes ++ more) (stop.More (at + 1)) within (sub_length_cut (bytes ++ more) at end few)));
      possible = (
        w.fill ++ (0 ∷ []),
        All-append (λ b. b < 256) w.fill (0 ∷ []) w.fill_are (zero_bytes 1),
        omega (arith, ap length all, length-append (joined subs) (0 ∷ [])),
        inr (record { at = at; reason = reason.BadSubHeader }, bad_sub_header a n end subs (0 ∷ []) w.known w.subs_are within all (sub_length 0 [] refl (inl (omega arith))) refl),
      );
    })

-- the type of the next sub-header is wanted
wait_type : (a : Action) (n end k : ℕ) (subs : List (List ℕ)) (bytes : List ℕ) → Walked a n end subs bytes (k ∷ []) → bytes ≡ headed (action_code a) n end (joined subs ++ (k ∷ []))
    → 2 ≤ k → 4 + length (joined subs) + k ≤ end → D bytes
wait_type a n end k subs bytes w is some fits =
    let at = 4 + length (joined subs) in
    let front = headed (action_code a) n end [] in
    let all = longer_is a n end subs bytes (k ∷ []) (2 ∷ []) is in
    waiting (at + 1 + 1) (record {
      longer = omega (arith, ap length is, length-append (joined subs) (k ∷ []));
      more_is = λ more few. more_at (bytes ++ more) (at + 1 + 1)
          (w.comes more ∙ ap (from_header (bytes ++ more) a n) (sub_stop at end (bytes ++ more) (stop.More (at + 1 + 1)) (omega arith)
          (sub_type_cut (front ++ joined subs) more (bytes ++ more) at end k (longer_is a n end subs bytes (k ∷ []) more is) (omega (arith, length-append front (joined subs))) some fits few)));
      possible = (
        2 ∷ [],
        All-cons (λ b. b < 256) 2 [] (omega arith) (All-nil (λ b. b < 256)),
        omega (arith, ap length all, length-append (joined subs) (k ∷ 2 ∷ [])),
        inr (record { at = at; reason = reason.BadSubHeader }, bad_sub_header a n end subs (k ∷ 2 ∷ []) w.known w.subs_are (omega arith) all (sub_type k 2 [] refl some (omega arith) (omega arith)) refl),
      );
    })

-- a payload that is there
begin_at : (a : Action) (n end : ℕ) (subs : List (List ℕ)) (bytes field rest : List ℕ) → IsLengthOf a n → end < 2 ^ 8 → All IsSubHeader subs → 4 + length (joined subs) ≡ end
    → length field ≡ n → IsBytes field → bytes ≡ headed (action_code a) n end (joined subs ++ (field ++ rest)) → (pdu : Pdu) × (used : ℕ) × Begins Spells bytes pdu used
begin_at a n end subs bytes field rest known small good ends long are_bytes is =
    let p = payload_or a n field known long are_bytes in
    let text = headed (action_code a) n end (joined subs ++ field) in (
      p.pdu,
      length text,
      record {
        text = text;
        rest = rest;
        spells = record {
          subs = subs;
          reserved = p.reserved;
          subs_are = good;
          header_fits = omega arith;
          reserved_are = p.reserved_are;
          fits = p.fits;
          text_is = same_headed (action_code a) (action_code (pdu_action p.pdu)) n (payload_length p.pdu) end (4 + length (joined subs)) (joined subs ++ field) (joined subs ++ joined (payload p.reserved p.pdu))
              (sym p.is_action) (sym p.is_length) (sym ends) (ap (λ t. joined subs ++ t) p.bytes_are);
        };
        bytes_are = is ∙ ap (λ t. headed (action_code a) n end t) (sym (append_assoc (joined subs) field rest));
        used_is = refl;
      },
    )

-- the rest of the payload is wanted
wait_payload : (a : Action) (n end : ℕ) (subs : List (List ℕ)) (bytes part : List ℕ) → Walked a n end subs bytes part → IsBytes part → end ≤ 4 + length (joined subs)
    → length part ≤ n → length bytes < end + n → D bytes
wait_payload a n end subs bytes part w good ends few short =
    let at = 4 + length (joined subs) in
    let same : at ≡ end = omega (arith, w.fits) in
    let zeros : List ℕ = replicate (n - length part) 0 in
    let field : List ℕ = part ++ zeros in
    let long : length field ≡ n = omega (arith, length-append part zeros, length-replicate {A = ℕ} (n - length part) 0) in
    let all : bytes ++ (w.fill ++ zeros) ≡ headed (action_code a) n end (joined subs ++ field) =
    sym (append_assoc bytes w.fill zeros) ∙ ap (λ t. t ++ zeros) w.filled ∙ ap (λ t. headed (action_code a) n end t) (append_assoc (joined subs) part zeros) in
    waiting (at + n) (record {
      longer = omega arith;
      more_is = λ more less. more_at (bytes ++ more) (at + n)
          (w.comes more ∙ ap (from_header (bytes ++ more) a n) (sub_done at end (bytes ++ more) ends) ∙ ap (λ r. r >>= λ f. Ok (pdu_in a f, at + n)) (window_cut (bytes ++ more) at n less));
      possible = (
        w.fill ++ zeros,
        All-append (λ b. b < 256) w.fill zeros w.fill_are (zero_bytes (n - length part)),
        omega (arith, ap length all, length-append (joined subs) field, long),
        inl (begin_at a n end subs (bytes ++ (w.fill ++ zeros)) field [] w.known w.header_fits w.subs_are same long
            (All-append (λ b. b < 256) part zeros good (zero_bytes (n - length part))) (all ∙ ap (λ t. headed (action_code a) n end (joined subs ++ t)) (sym (append-nil field)))),
      );
    })

-- the payload, behind the header's end
at_payload : (a : Action) (n end : ℕ) (subs : List (List ℕ)) (bytes rest : List ℕ) → Walked a n end subs bytes rest → bytes ≡ headed (action_code a) n end (joined subs ++ rest)
    → IsBytes rest → end ≤ 4 + length (joined subs) → D bytes
at_payload a n end subs bytes rest w is good ends = elim (cases_lt (length rest) n) [
  | inl few ↦ wait_payload a n end subs bytes rest w good ends (omega arith) (omega (arith, ap length is, length-append (joined subs) rest, w.fits))
  | inr enough ↦ (
      let b = begin_at a n end subs bytes (take n rest) (drop n rest) w.known w.header_fits w.subs_are (omega (arith, w.fits)) (length-take-le n rest enough) (All-take (λ b. b < 256) n rest good)
      (is ∙ ap (λ t. headed (action_code a) n end (joined subs ++ t)) (sym (take-append-drop n rest))) in
      whole b.0 b.1 b.2
      )
]

-- a sub-header with a whole first half: it is passed over, or some of its bytes aren't there
passed_over : (a : Action) (n end : ℕ) (subs : List (List ℕ)) (bytes : List ℕ) → IsLengthOf a n → end < 2 ^ 8 → All IsSubHeader subs
    → (j type : ℕ) (content : List ℕ) → IsBytes content → bytes ≡ headed (action_code a) n end (joined subs ++ ((j + 2) ∷ type ∷ content)) → type < 2
    → 4 + length (joined subs) + (j + 2) ≤ end
    → ((more : List (List ℕ)) (rest : List ℕ) → All IsSubHeader more → 4 + length (joined more) ≤ end → bytes ≡ headed (action_code a) n end (joined more ++ rest) → IsBytes rest
    → 4 + length (joined subs) + 1 ≤ 4 + length (joined more) → D bytes)
    → D bytes
passed_over a n end subs bytes known small good j type content behind same type_known room next = elim (cases_lt (length content) j) [
  | inl few ↦ (
      let sub : List ℕ = (j + 2) ∷ type ∷ (content ++ replicate (j - length content) 0) in
      let w = walked_part a n end subs bytes j type content known small good same type_known room (omega arith) behind in
      elim (cases_lt (4 + length (joined (subs ++ (sub ∷ [])))) end) [
        | inl within ↦ wait_sub a n end (subs ++ (sub ∷ [])) bytes w within
        | inr ends ↦ wait_payload a n end (subs ++ (sub ∷ [])) bytes [] w (All-nil (λ b. b < 256)) ends (omega arith)
            (omega (arith, ap length same, length-append (joined subs) ((j + 2) ∷ type ∷ content)))
      ]
      )
  | inr full ↦ (
      let inside : List ℕ = take j content in
      let long : length inside ≡ j = length-take-le j content full in
      let sub : List ℕ = (j + 2) ∷ type ∷ inside in
      let more = more_long subs sub in
      next (subs ++ (sub ∷ [])) (drop j content)
      (more_subs subs sub good (sub_is j type inside long type_known (All-take (λ b. b < 256) j content behind))) (omega arith)
      (same ∙ ap (λ t. headed (action_code a) n end (joined subs ++ ((j + 2) ∷ type ∷ t))) (sym (take-append-drop j content))
      ∙ ap (λ t. headed (action_code a) n end t) (sym (append_assoc (joined subs) sub (drop j content)) ∙ ap (λ t. t ++ drop j content) (sym (joined_more subs sub))))
      (All-drop (λ b. b < 256) j content behind) (omega arith)
      )
]

-- the sub-headers and what follows; `most` are enough
walk : (most : ℕ) (a : Action) (n end : ℕ) (subs : List (List ℕ)) (bytes rest : List ℕ) → IsLengthOf a n → end < 2 ^ 8 → All IsSubHeader subs → 4 + length (joined subs) ≤ end
    → bytes ≡ headed (action_code a) n end (joined subs ++ rest) → IsBytes rest → end ≤ 4 + length (joined subs) + most → D bytes
walk zero a n end subs bytes rest known small good fits is are_bytes enough = at_payload a n end subs bytes rest (walked a n end subs bytes rest known small good fits is) is are_bytes (omega arith)
walk (suc most) a n end subs bytes [] known small good fits is are_bytes enough = elim (cases_lt (4 + length (joined subs)) end) [
  | inl within ↦ wait_sub a n end subs bytes (walked a n end subs bytes [] known small good fits is) within
  | inr ends ↦ at_payload a n end subs bytes [] (walked a n end subs bytes [] known small good fits is) is are_bytes ends
]
walk (suc most) a n end subs bytes (k ∷ []) known small good fits is are_bytes enough = elim (cases_lt (4 + length (joined subs)) end) [
  | inr ends ↦ at_payload a n end subs bytes (k ∷ []) (walked a n end subs bytes (k ∷ []) known small good fits is) is are_bytes ends
  | inl within ↦ elim (cases_lt k 2) [
    | inl few ↦ faulty _ (bad_sub_header a n end subs (k ∷ []) known good within is (sub_length k [] refl (inl few)) refl)
    | inr two ↦ elim (cases_lt (end - (4 + length (joined subs))) k) [
      | inl many ↦ faulty _ (bad_sub_header a n end subs (k ∷ []) known good within is (sub_length k [] refl (inr many)) refl)
      | inr within_end ↦ wait_type a n end k subs bytes (walked a n end subs bytes (k ∷ []) known small good fits is) is two (omega arith)
    ]
  ]
]
walk (suc most) a n end subs bytes (k ∷ type ∷ content) known small good fits is are_bytes enough = elim (cases_lt (4 + length (joined subs)) end) [
  | inr ends ↦ at_payload a n end subs bytes (k ∷ type ∷ content) (walked a n end subs bytes (k ∷ type ∷ content) known small good fits is) is are_bytes ends
  | inl within ↦ elim (cases_lt k 2) [
    | inl few ↦ faulty _ (bad_sub_header a n end subs (k ∷ type ∷ content) known good within is (sub_length k (type ∷ content) refl (inl few)) refl)
    | inr two ↦ elim (cases_lt (end - (4 + length (joined subs))) k) [
      | inl many ↦ faulty _ (bad_sub_header a n end subs (k ∷ type ∷ content) known good within is (sub_length k (type ∷ content) refl (inr many)) refl)
      | inr within_end ↦ elim (cases_lt 1 type) [
        | inl unknown ↦ faulty _ (bad_sub_header a n end subs (k ∷ type ∷ content) known good within is (sub_type k type content refl two within_end unknown) refl)
        | inr type_known ↦ (
            let behind = All-tail (λ b. b < 256) type content (All-tail (λ b. b < 256) k (type ∷ content) are_bytes) in
            let k_is : k ≡ k - 2 + 2 = omega arith in
            let same : bytes ≡ headed (action_code a) n end (joined subs ++ ((k - 2 + 2) ∷ type ∷ content)) = is ∙ ap (λ m. headed (action_code a) n end (joined subs ++ (m ∷ type ∷ content))) k_is in
            passed_over a n end subs bytes known small good (k - 2) type content behind same (omega arith) (omega arith)
            (λ more rest subs_good fits whole rest_good further. walk most a n end more bytes rest known small subs_good fits whole rest_good (omega arith))
            )
      ]
    ]
  ]
]

-- the payload's length is wanted
wait_length : (a : Action) (rest : List ℕ) → length rest < 2 → IsBytes rest → D (action_code a ∷ rest)
wait_length a rest few good = by_rest rest few good
  where
    wrong : (y : ℕ) → y < 256 → (bytes : List ℕ) → bytes ≡ action_code a ∷ y ∷ 255 ∷ [] → (r : TunnelRefusal) × Refused bytes r
    wrong y small bytes is =
        let w = too_big a (65280 + y) (omega arith) in (
          record { at = 1; reason = w.0 },
          bad_length a (65280 + y) w.0 [] (omega arith)
              (is ∙ ap (λ t. action_code a ∷ t) (sym (append-nil (little_bytes 2 (65280 + y)) ∙ high y small))) w.1 refl,
        )

    wants : (rest more : List ℕ) → length ((action_code a ∷ rest) ++ more) < 3 → reading ((action_code a ∷ rest) ++ more) ≡ Ok (More 3)
    wants rest more few = more_at (action_code a ∷ (rest ++ more)) 3
        (at_length a (rest ++ more) (action_code a ∷ (rest ++ more)) (Err (stop.More 3)) refl (length_cut a (action_code a ∷ (rest ++ more)) few))

    by_rest : (rest : List ℕ) → length rest < 2 → IsBytes rest → D (action_code a ∷ rest)
    by_rest [] few good = waiting 3 (record {
      longer = omega arith;
      more_is = wants [];
      possible = (255 ∷ 255 ∷ [], All-cons (λ b. b < 256) 255 (255 ∷ []) (omega arith) (All-cons (λ b. b < 256) 255 [] (omega arith) (All-nil (λ b. b < 256))), refl, inr (wrong 255 (omega arith) _ refl));
    })
    by_rest (y ∷ []) few good = waiting 3 (record {
      longer = omega arith;
      more_is = wants (y ∷ []);
      possible = (255 ∷ [], All-cons (λ b. b < 256) 255 [] (omega arith) (All-nil (λ b. b < 256)), refl, inr (wrong y (All-head (λ b. b < 256) y [] good) _ refl));
    })
    by_rest (x ∷ y ∷ rest) few good = absurd (omega arith)

-- the header's length and what follows
by_header : (a : Action) (n : ℕ) (rest bytes : List ℕ) → IsLengthOf a n → bytes ≡ action_code a ∷ (little_bytes 2 n ++ rest) → IsBytes rest → D bytes
by_header a n [] bytes known is good =
    let all : bytes ++ (0 ∷ []) ≡ headed (action_code a) n 0 [] = ap (λ t. t ++ (0 ∷ [])) is in
    waiting 4 (record {
      longer = omega (arith, ap length is);
      more_is = λ more few. more_at (bytes ++ more) 4
          (at_header a n more (bytes ++ more) (Err (stop.More 4)) known (ap (λ t. t ++ more) is) (header_cut (bytes ++ more) few));
      possible = (0 ∷ [], zero_bytes 1, ap length all, inr (record { at = 3; reason = reason.BadHeaderLength }, bad_header a n 0 [] known (omega arith) all refl));
    })
by_header a n (end ∷ rest) bytes known is good = elim (cases_lt end 4) [
  | inl few ↦ faulty _ (bad_header a n end rest known few is refl)
  | inr long ↦ walk end a n end [] bytes rest known (All-head (λ b. b < 256) end rest good) (All-nil IsSubHeader) (omega arith) is (All-tail (λ b. b < 256) end rest good) (omega arith)
]

by_action : (a : Action) (rest bytes : List ℕ) → bytes ≡ action_code a ∷ rest → IsBytes rest → D bytes
by_action a rest bytes is good = elim (little_or 2 rest good) [
  | inl few ↦ subst D (sym is) (wait_length a rest few good)
  | inr b ↦ (
      let whole : bytes ≡ action_code a ∷ (little_bytes 2 b.value ++ b.rest) = is ∙ ap (λ t. action_code a ∷ t) b.bytes_are in
      elim (length_or a b.value) [
        | inl known ↦ by_header a b.value b.rest bytes known whole b.bytes_behind
        | inr wrong ↦ faulty _ (bad_length a b.value wrong.0 b.rest b.good whole wrong.1 refl)
      ]
      )
]

first_cut : (bytes : List ℕ) → length bytes < 1 → action_at bytes ≡ Err (stop.More 1)
unfolding action_at
first_cut bytes few = rw (byte_cut bytes 0 few) refl

decides : (bytes : List ℕ) → IsBytes bytes → D bytes
decides [] good = waiting 1 (record {
  longer = omega arith;
  more_is = λ more few. more_at more 1 (at_first more (Err (stop.More 1)) (first_cut more few));
  possible = (3 ∷ [], All-cons (λ b. b < 256) 3 [] (omega arith) (All-nil (λ b. b < 256)), refl, inr (record { at = 0; reason = reason.BadAction }, bad_action 3 [] refl (omega arith) refl));
})
decides (x ∷ rest) good = elim (first_or x) [
  | is_action a is ↦ by_action a rest (x ∷ rest) (ap (λ y. y ∷ rest) is) (All-tail (λ b. b < 256) x rest good)
  | no_action h ↦ faulty _ (bad_action x rest refl h refl)
  | has_flags h big ↦ faulty _ (bad_flags x rest refl h big refl)
]

pub grammar : Grammar reading Spells Refused
grammar = record { reads = reads; refuses = refuses; stays = stays; some = some; decides = decides }

-- ---- what a writer spells

pub written_spells : (pdu : Pdu) → FitsPdu pdu → Spells (joined (pdu_fields pdu)) pdu
written_spells pdu fits = record {
  subs = [];
  reserved = 0 ∷ 0 ∷ 0 ∷ 0 ∷ [];
  subs_are = All-nil IsSubHeader;
  header_fits = omega arith;
  reserved_are = (refl, zero_bytes 4);
  fits = fits;
  text_is = refl;
}

pub written_read : (pdu : Pdu) (rest : List ℕ) → FitsPdu pdu → reading (joined (pdu_fields pdu) ++ rest) ≡ Ok (Whole pdu (length (joined (pdu_fields pdu))))
written_read pdu rest fits = reads pdu (joined (pdu_fields pdu)) rest (written_spells pdu fits)

-- no spelling is shorter
pub shortest : (text : List ℕ) (pdu : Pdu) → Spells text pdu → length (joined (pdu_fields pdu)) ≤ length text
shortest text pdu s =
    let written = payload_long (0 ∷ 0 ∷ 0 ∷ 0 ∷ []) pdu (refl, zero_bytes 4) s.fits in
    let field : List ℕ = joined (payload s.reserved pdu) in
    omega (arith, ap length s.text_is, written, payload_long s.reserved pdu s.reserved_are s.fits, length-append (joined s.subs) field)
