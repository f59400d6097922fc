-- What the bytes of the main stream under way are, and what comes of them.
use Rattle.std.proofs.Common.{◌≡◌, ℕ, zero, suc, ◌+◌, ◌-◌, ◌<◌, ◌≤◌, min, List, [], ◌∷◌, ◌++◌, length, take, None, Ok, refl, sym, ap, subst, ◌∙◌, arith, length-append}
use Rattle.std.proofs.lemmas.List.{length-take-le}
use Rattle.mt_base.specs.declared.kinds.Role.{Role}
use Rattle.mt_base.specs.Trace.{Trace}
use Rattle.tunnel_pdus.specs.declared.part.Part.TheVariants.{Whole, More}
use Rattle.tunnel_pdus.specs.Reading.{frame_reading}
use Rattle.tunnel_pdus.specs.Value.{Frame}
use Rattle.mt_endpoint.specs.Acts.{Act}
use Rattle.end_calls.specs.Calls.{after_bytes}
use Rattle.end_calls.specs.Streams.{Past, Under, heard_by, main_reads, reads_heard, told_place}
use Rattle.end_session.specs.Coming.{CameTo, past_of}
use Rattle.end_session.specs.Standing.{Gone, Stands}
use Rattle.end_session.specs.Store.{Store}
use Rattle.end_reader.specs.declared.reader.Reader.{Reader}
use Rattle.end_reader.specs.Standing.{GoesTo, IsTold, KeepsMain, Reads, came}
use Rattle.end_reader.specs.Taking.{OneFrame, TookMain}
use Rattle.end_reader.specs.Wanting.{GoesOn, frame_wants, more_wanted}
use Rattle.end_reader.proofs.Alike.{comes, heard_alike, told_on}
use Rattle.end_reader.proofs.Begun.{no_frame_yet}
use Rattle.end_reader.proofs.Cutting.{ends, goes_on, with_bytes}
use Rattle.end_reader.proofs.Quiet.{heard_calm}

-- ---- the beginning of a frame

pub more_came : (r : Reader) (p : Past) (gone : Gone) (need : ℕ) → KeepsMain r p gone → (r.session).broken ≡ None → frame_reading (r.main).bytes ≡ Ok (More need)
    → GoesTo p (main_reads (r.session).role (r.main).bytes (frame_reading (r.main).bytes) p) gone r
more_came r p gone need k fine is =
    subst (λ x. GoesTo p (main_reads (r.session).role (r.main).bytes x p) gone r) (sym is)
    (came (record {
      stands = k.stands;
      broken_is = fine ∙ sym k.unbroken;
      main_is = λ w. record { at_is = k.at_is; bytes_are = refl };
      tunnel_is = λ w. k.tunnel_is;
      main_waits = λ w. (need, is);
      tunnel_waits = λ w. k.tunnel_waits;
      rests = λ w. k.rests;
      quiet = λ w. k.quiet;
    }))

-- ---- a frame

pub whole_came : (r : Reader) (s : Store) (main : Under) (at : ℕ) (p : Past) (gone : Gone) (frame : Frame) (used : ℕ) → KeepsMain r p gone → frame_reading (r.main).bytes ≡ Ok (Whole frame used) → at ≡ (r.main).at
    → ((t : Trace Act) (gone : Gone) (place : ℕ) → at ≡ told_place place → Stands r.session t gone → CameTo (past_of t) (reads_heard (r.session).role place (heard_by (r.session).role frame) (past_of t)) gone s)
    → main ≡ record { at = told_place ((r.main).at + length (r.main).bytes); bytes = [] } → s.role ≡ (r.session).role
    → GoesTo p (main_reads (r.session).role (r.main).bytes (frame_reading (r.main).bytes) p) gone (record { session = s; main = main; tunnel = r.tunnel })
whole_came r s main at p gone frame used k is at_is hear main_is role_is =
    let role = (r.session).role in
    let place = p.main.at in
    let size = length (r.main).bytes in
    let now : Reader = record { session = s; main = main; tunnel = r.tunnel } in
    let passed : Past = record p { main = record { at = place + size; bytes = [] } } in
    let heard = heard_by role frame in
    let q = reads_heard role place heard passed in
    let told : IsTold main passed.main = record { at_is = ap (λ (u : Under). u.at) main_is ∙ told_on (r.main).at place size k.at_is; bytes_are = ap (λ (u : Under). u.bytes) main_is } in
    subst (λ x. GoesTo p (main_reads role (r.main).bytes x p) gone now) (sym is)
    (comes now role p passed q (reads_heard role place heard (past_of p.acts)) gone role_is (heard_alike role place heard passed)
    (record { main_is = told; tunnel_is = k.tunnel_is; main_waits = (1, no_frame_yet); tunnel_waits = k.tunnel_waits }) (λ w. heard_calm role place heard passed (k.stands).knows.lawful (k.stands).knows.begun k.rests w)
    (hear p.acts gone place (at_is ∙ k.at_is) k.stands))

-- ---- bytes are taken

take_last : (count : ℕ) (bytes : List ℕ) → count < length bytes → (last : ℕ) × (take (suc count) bytes ≡ take count bytes ++ last ∷ [])
take_last count [] h = absurd (omega (arith, h))
take_last zero (x ∷ bytes) h = (x, refl)
take_last (suc count) (x ∷ bytes) h = let deeper = take_last count bytes (omega (arith, h)) in (deeper.0, ap (λ l. x ∷ l) deeper.1)

-- what is known of the frame under way before bytes are taken, and how many are
pub record Takes (r : Reader) (p : Past) (bytes : List ℕ) (count need : ℕ) : Type 0 where
  pub unbroken : p.broken ≡ None
  pub kept : (r.main).bytes ≡ p.main.bytes
  pub on : GoesOn frame_reading p.main.bytes need
  pub some : 0 < count
  pub within : count ≤ length bytes
  pub few : length p.main.bytes + count ≤ need

pub takes : (r : Reader) (p : Past) (gone : Gone) (bytes : List ℕ) (wanted count : ℕ) → Reads r p gone → (r.session).broken ≡ None → 0 < length bytes → wanted ≡ frame_wants (r.main).bytes
    → ((need : ℕ) → frame_reading (r.main).bytes ≡ Ok (More need) → (length (r.main).bytes < need) × GoesOn frame_reading (r.main).bytes need) → count ≡ min (length bytes) wanted → (need : ℕ) × Takes r p bytes count need
takes r p gone bytes wanted count rd fine some wanted_is way count_is =
    let unbroken : p.broken ≡ None = sym rd.broken_is ∙ fine in
    let kept : (r.main).bytes ≡ p.main.bytes = (rd.main_is unbroken).bytes_are in
    let waits = rd.main_waits unbroken in
    let known : frame_reading (r.main).bytes ≡ Ok (More waits.0) = ap frame_reading kept ∙ waits.1 in
    let under = way waits.0 known in
    let value : wanted ≡ waits.0 - length (r.main).bytes = wanted_is ∙ ap (more_wanted (length (r.main).bytes)) known in
    let size : length (r.main).bytes ≡ length p.main.bytes = ap (λ l. length l) kept in (
      waits.0,
      record {
        unbroken = unbroken;
        kept = kept;
        on = subst (λ l. GoesOn frame_reading l waits.0) kept under.1;
        some = omega (arith, some, value, under.0, count_is);
        within = omega (arith, count_is);
        few = omega (arith, value, under.0, count_is, size);
      },
    )

pub one_frame : (r : Reader) (role : Role) (p : Past) (bytes : List ℕ) (count need : ℕ) → Takes r p bytes count need → OneFrame role p bytes count
one_frame r role p bytes count need t m some less =
    let size : length (take m bytes) ≡ m = length-take-le m bytes (omega (arith, t.within, less)) in
    let after : after_bytes role p (take m bytes) ≡ with_bytes p (p.main.bytes ++ take m bytes) = goes_on role p need (take m bytes) t.unbroken t.on (omega (arith, length-append p.main.bytes (take m bytes), size, less, t.few)) in
    (ap (λ (q : Past). q.broken) after ∙ t.unbroken, λ none. absurd (omega (arith, some, size, length-append p.main.bytes (take m bytes), ap (λ l. length l) (sym (ap (λ (q : Past). q.main.bytes) after) ∙ none))))

-- the reader as the bytes were taken and not looked at
abbrev pub with_taken : Reader → Under → Reader
with_taken r main = record { session = r.session; main = main; tunnel = r.tunnel }

pub took : (r now : Reader) (main : Under) (p : Past) (gone : Gone) (bytes : List ℕ) (count need : ℕ) → Reads r p gone → Takes r p bytes count need → main ≡ record r.main { bytes = (r.main).bytes ++ take count bytes }
    → ((p : Past) (gone : Gone) → KeepsMain (with_taken r main) p gone → GoesTo p (main_reads (r.session).role main.bytes (frame_reading main.bytes) p) gone now)
    → TookMain (r.session).role p bytes count gone now
took r now main p gone bytes zero need rd t main_is look = absurd (omega (arith, t.some))
took r now main p gone bytes (suc most) need rd t main_is look =
    let role = (r.session).role in
    let last = take_last most bytes (omega (arith, t.within)) in
    let front = take most bytes in
    let few : length (p.main.bytes ++ front) < need = omega (arith, length-append p.main.bytes front, length-take-le most bytes (omega (arith, t.within)), t.few) in
    let before : after_bytes role p front ≡ with_bytes p (p.main.bytes ++ front) = goes_on role p need front t.unbroken t.on few in
    let kept : main.bytes ≡ p.main.bytes ++ (front ++ last.0 ∷ []) = ap (λ (u : Under). u.bytes) main_is ∙ ap (λ l. l ++ take (suc most) bytes) t.kept ∙ ap (λ l. p.main.bytes ++ l) last.1 in
    let after : after_bytes role p (take (suc most) bytes) ≡ main_reads role main.bytes (frame_reading main.bytes) (with_bytes p (p.main.bytes ++ front)) =
    ap (after_bytes role p) last.1 ∙ ends role p need front last.0 t.unbroken t.on few ∙ ap (λ l. main_reads role l (frame_reading l) (with_bytes p (p.main.bytes ++ front))) (sym kept) in
    let keeps : KeepsMain (with_taken r main) (with_bytes p (p.main.bytes ++ front)) gone = record {
      stands = rd.stands;
      unbroken = t.unbroken;
      at_is = ap (λ (u : Under). u.at) main_is ∙ (rd.main_is t.unbroken).at_is;
      tunnel_is = rd.tunnel_is t.unbroken;
      tunnel_waits = rd.tunnel_waits t.unbroken;
      rests = rd.rests t.unbroken;
      quiet = rd.quiet t.unbroken;
    } in
    let one_less : suc most - 1 ≡ most = omega arith in
    subst (λ n. GoesTo (after_bytes role p (take n bytes)) (after_bytes role p (take (suc most) bytes)) gone now) (sym one_less)
    (subst (λ q. GoesTo q (after_bytes role p (take (suc most) bytes)) gone now) (sym before)
    (subst (λ q. GoesTo (with_bytes p (p.main.bytes ++ front)) q gone now) (sym after) (look (with_bytes p (p.main.bytes ++ front)) gone keeps)))
