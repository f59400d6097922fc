-- What the bytes of the reliable link under way are, and what comes of them; and of a part of the lossy link.
use Rattle.std.proofs.Common.{◌≡◌, ◌⊎◌, inl, inr, ℕ, ◌+◌, ◌-◌, ◌<◌, ◌≤◌, min, Bool, List, [], ◌∷◌, ◌++◌, length, take, append-nil, None, Ok, refl, sym, ap, subst, ◌∙◌, arith, length-append}
use Rattle.std.specs.List.{fold}
use Rattle.std.proofs.lemmas.List.{take_all}
use Rattle.mt_base.specs.declared.kinds.Role.{Role}
use Rattle.mt_base.specs.Trace.{Trace}
use Rattle.tunnel_pdus.specs.declared.part.Part.TheVariants.{Whole, More}
use Rattle.tunnel_pdus.specs.Reading.{reading}
use Rattle.tunnel_pdus.specs.Value.{Pdu}
use Rattle.mt_endpoint.specs.Acts.{Act}
use Rattle.end_calls.specs.Stops.{wanted, wants}
use Rattle.end_calls.specs.Streams.{Past, Under, drawn_by, grows, if_whole, missed_or, reads_drawn, told_place, tunnel_reads, with_part, with_tunnel}
use Rattle.end_session.specs.Coming.{CameTo, past_of}
use Rattle.end_session.specs.Standing.{Gone, Stands}
use Rattle.end_session.specs.Store.{Store}
use Rattle.end_reader.specs.declared.reader.Reader.{Reader}
use Rattle.end_reader.specs.Standing.{GoesTo, IsTold, KeepsTunnel, Reads, came}
use Rattle.end_reader.specs.Wanting.{GoesOn}
use Rattle.end_reader.proofs.Alike.{Alike, comes, drawn_alike, goes_from, part_opened, told_on}
use Rattle.end_reader.proofs.Begun.{no_pdu_yet}
use Rattle.end_reader.proofs.Cutting.{pull_ends, with_pulled}
use Rattle.end_reader.proofs.Quiet.{drawn_calm, part_calm}

pub more_pulled : (r : Reader) (p : Past) (gone : Gone) (need : ℕ) → KeepsTunnel r p gone → (r.session).broken ≡ None → reading (r.tunnel).bytes ≡ Ok (More need)
    → GoesTo p (tunnel_reads (r.session).role (r.tunnel).bytes (reading (r.tunnel).bytes) p) gone r
more_pulled r p gone need k fine is =
    subst (λ x. GoesTo p (tunnel_reads (r.session).role (r.tunnel).bytes x p) gone r) (sym is)
    (came (record {
      stands = k.stands;
      broken_is = fine ∙ sym k.unbroken;
      main_is = λ w. k.main_is;
      tunnel_is = λ w. record { at_is = k.at_is; bytes_are = refl };
      main_waits = λ w. k.main_waits;
      tunnel_waits = λ w. (need, is);
      rests = λ w. k.rests;
      quiet = λ w. k.quiet;
    }))

pub whole_pulled : (r : Reader) (s : Store) (tunnel : Under) (at : ℕ) (p : Past) (gone : Gone) (pdu : Pdu) (used : ℕ) → KeepsTunnel r p gone → reading (r.tunnel).bytes ≡ Ok (Whole pdu used) → at ≡ (r.tunnel).at
    → ((t : Trace Act) (gone : Gone) (place : ℕ) → at ≡ told_place place → Stands r.session t gone → CameTo (past_of t) (reads_drawn (r.session).role place (drawn_by (r.session).role pdu) (past_of t)) gone s)
    → tunnel ≡ record { at = told_place ((r.tunnel).at + length (r.tunnel).bytes); bytes = [] } → s.role ≡ (r.session).role
    → GoesTo p (tunnel_reads (r.session).role (r.tunnel).bytes (reading (r.tunnel).bytes) p) gone (record { session = s; main = r.main; tunnel = tunnel })
whole_pulled r s tunnel at p gone pdu used k is at_is draw tunnel_is role_is =
    let role = (r.session).role in
    let place = p.tunnel.at in
    let size = length (r.tunnel).bytes in
    let now : Reader = record { session = s; main = r.main; tunnel = tunnel } in
    let passed : Past = record p { tunnel = record { at = place + size; bytes = [] } } in
    let drawn = drawn_by role pdu in
    let q = reads_drawn role place drawn passed in
    let told : IsTold tunnel passed.tunnel = record { at_is = ap (λ (u : Under). u.at) tunnel_is ∙ told_on (r.tunnel).at place size k.at_is; bytes_are = ap (λ (u : Under). u.bytes) tunnel_is } in
    subst (λ x. GoesTo p (tunnel_reads role (r.tunnel).bytes x p) gone now) (sym is)
    (comes now role p passed q (reads_drawn role place drawn (past_of p.acts)) gone role_is (drawn_alike role place drawn passed)
    (record { main_is = k.main_is; tunnel_is = told; main_waits = k.main_waits; tunnel_waits = (1, no_pdu_yet) }) (λ w. drawn_calm role place drawn passed (k.stands).knows.lawful (k.stands).knows.begun k.rests w)
    (draw p.acts gone place (at_is ∙ k.at_is) k.stands))

-- ---- bytes are pulled

pub last_or : (bytes : List ℕ) → (bytes ≡ []) ⊎ ((front : List ℕ) × (last : ℕ) × (bytes ≡ front ++ last ∷ []))
last_or [] = inl refl
last_or (x ∷ bytes) = by_rest (last_or bytes) where
  by_rest : (bytes ≡ []) ⊎ ((front : List ℕ) × (last : ℕ) × (bytes ≡ front ++ last ∷ [])) → (x ∷ bytes ≡ []) ⊎ ((front : List ℕ) × (last : ℕ) × (x ∷ bytes ≡ front ++ last ∷ []))
  by_rest (inl none) = inr ([], x, ap (λ l. x ∷ l) none)
  by_rest (inr some) = inr (x ∷ some.0, some.1, ap (λ l. x ∷ l) some.2)

-- the reader as the bytes were taken and not looked at
abbrev pub with_drawn : Reader → Under → Reader
with_drawn r tunnel = record { session = r.session; main = r.main; tunnel = tunnel }

pub pulled : (r now : Reader) (tunnel : Under) (p : Past) (gone : Gone) (bytes : List ℕ) (count most : ℕ) → Reads r p gone → (r.session).broken ≡ None → length bytes ≤ wants (r.tunnel).bytes → most ≡ wants (r.tunnel).bytes
    → ((need : ℕ) → reading (r.tunnel).bytes ≡ Ok (More need) → (length (r.tunnel).bytes < need) × GoesOn reading (r.tunnel).bytes need)
    → count ≡ min (length bytes) most → tunnel ≡ record r.tunnel { bytes = (r.tunnel).bytes ++ take count bytes }
    → ((p : Past) (gone : Gone) → KeepsTunnel (with_drawn r tunnel) p gone → GoesTo p (tunnel_reads (r.session).role tunnel.bytes (reading tunnel.bytes) p) gone now)
    → GoesTo p (fold (with_tunnel (r.session).role) p bytes) gone now
pulled r now tunnel p gone bytes count most rd fine few most_is way count_is tunnel_is look = by_last (last_or bytes) where
  role : Role
  role = (r.session).role

  unbroken : p.broken ≡ None
  unbroken = sym rd.broken_is ∙ fine

  before : (r.tunnel).bytes ≡ p.tunnel.bytes
  before = (rd.tunnel_is unbroken).bytes_are

  all : take count bytes ≡ bytes
  all = take_all count bytes (omega (arith, few, most_is, count_is))

  kept : tunnel.bytes ≡ p.tunnel.bytes ++ bytes
  kept = ap (λ (u : Under). u.bytes) tunnel_is ∙ ap (λ l. l ++ take count bytes) before ∙ ap (λ l. p.tunnel.bytes ++ l) all

  keeps : (front : List ℕ) → KeepsTunnel (with_drawn r tunnel) (with_pulled p front) gone
  keeps front = record {
    stands = rd.stands;
    unbroken = unbroken;
    at_is = ap (λ (u : Under). u.at) tunnel_is ∙ (rd.tunnel_is unbroken).at_is;
    main_is = rd.main_is unbroken;
    main_waits = rd.main_waits unbroken;
    rests = rd.rests unbroken;
    quiet = rd.quiet unbroken;
  }

  by_last : (bytes ≡ []) ⊎ ((front : List ℕ) × (last : ℕ) × (bytes ≡ front ++ last ∷ [])) → GoesTo p (fold (with_tunnel role) p bytes) gone now
  by_last (inl none) =
      let waits = rd.tunnel_waits unbroken in
      let same : tunnel.bytes ≡ p.tunnel.bytes = kept ∙ ap (λ l. p.tunnel.bytes ++ l) none ∙ append-nil p.tunnel.bytes in
      let after : tunnel_reads role tunnel.bytes (reading tunnel.bytes) p ≡ p = ap (λ l. tunnel_reads role l (reading l) p) same ∙ ap (λ x. tunnel_reads role p.tunnel.bytes x p) waits.1 in
      subst (λ l. GoesTo p (fold (with_tunnel role) p l) gone now) (sym none) (subst (λ q. GoesTo p q gone now) after (look p gone (keeps p.tunnel.bytes)))
  by_last (inr some) =
      let waits = rd.tunnel_waits unbroken in
      let known : reading (r.tunnel).bytes ≡ Ok (More waits.0) = ap reading before ∙ waits.1 in
      let under = way waits.0 known in
      let value : wants (r.tunnel).bytes ≡ waits.0 - length (r.tunnel).bytes = ap (wanted (length (r.tunnel).bytes)) known in
      let on : GoesOn reading p.tunnel.bytes waits.0 = subst (λ l. GoesOn reading l waits.0) before under.1 in
      let front = some.0 in
      let less : length (p.tunnel.bytes ++ front) < waits.0 = omega (arith, length-append p.tunnel.bytes front, few, value, under.0, ap (λ l. length l) before, ap (λ l. length l) some.2, length-append front (some.1 ∷ [])) in
      let first = with_pulled p (p.tunnel.bytes ++ front) in
      let after : fold (with_tunnel role) p bytes ≡ tunnel_reads role tunnel.bytes (reading tunnel.bytes) first =
      ap (fold (with_tunnel role) p) some.2 ∙ pull_ends role p waits.0 front some.1 unbroken on less ∙ ap (λ l. tunnel_reads role l (reading l) first) (sym (kept ∙ ap (λ l. p.tunnel.bytes ++ l) some.2)) in
      subst (λ q. GoesTo p q gone now) (sym after) (goes_from p first _ gone now refl (look first gone (keeps (p.tunnel.bytes ++ front))))

-- ---- a part of the lossy link

pub part_came : (r : Reader) (s : Store) (p : Past) (gone : Gone) (bytes : List ℕ) (is_full : Bool) → Reads r p gone → (r.session).broken ≡ None → s.role ≡ (r.session).role
    → ((t : Trace Act) (gone : Gone) → Stands r.session t gone → CameTo (past_of t) (with_part (r.session).role (past_of t) bytes is_full) gone s)
    → GoesTo p (with_part (r.session).role p bytes is_full) gone (record { session = s; main = r.main; tunnel = r.tunnel })
part_came r s p gone bytes is_full rd fine role_is draw =
    let role = (r.session).role in
    let unbroken : p.broken ≡ None = sym rd.broken_is ∙ fine in
    let o = if_whole role (length bytes) (reading bytes) in
    let alike : Alike p (grows role (missed_or role p.acts is_full o) p) (grows role (missed_or role p.acts is_full o) (past_of p.acts)) = record { acts_are = refl; broken_is = refl; main_is = refl; tunnel_is = refl } in
    let now : Reader = record { session = s; main = r.main; tunnel = r.tunnel } in
    subst (λ q. GoesTo p q gone now) (sym (part_opened role p bytes is_full unbroken))
    (comes now role p p (grows role (missed_or role p.acts is_full o) p) (grows role (missed_or role p.acts is_full o) (past_of p.acts)) gone role_is alike
    (record { main_is = rd.main_is unbroken; tunnel_is = rd.tunnel_is unbroken; main_waits = rd.main_waits unbroken; tunnel_waits = rd.tunnel_waits unbroken })
    (λ w. part_calm role is_full o p (rd.stands).knows.lawful (rd.stands).knows.begun (rd.rests unbroken) w)
    (subst (λ u. CameTo (past_of p.acts) u gone s) (part_opened role (past_of p.acts) bytes is_full refl) (draw p.acts gone rd.stands)))
