-- The main streams of both sides with more bytes, and the rule of main frames.
use Rattle.std.proofs.Common.{◌≡◌, ◌≢◌, ℕ, ◌<◌, ◌+◌, ◌^◌, inl, inr, true, cond, List, [], ◌∷◌, ◌++◌, length, take, drop, get_or, drop-cons, suc, is_ok, All, Result, Ok, refl, sym, ap, subst, ◌∙◌, append_assoc, append-nil, arith}
use Rattle.std.proofs.lemmas.List.{map-append, append_cancel_left, take-append-drop}
use Rattle.std.proofs.lemmas.List.Concat.{flat_map-append}
use Rattle.std.proofs.lemmas.List.Elements.{filter_map-append, All-nil, All-cons, All-append, All-push}
use Rattle.mt_base.proofs.Fields.{not_both}
use Rattle.mt_base.specs.declared.kinds.Role.{Role}
use Rattle.mt_base.specs.declared.kinds.Role.TheVariants.{Server, Client}
use Rattle.mt_base.specs.Ends.{other, same_role}
use Rattle.tunnel_pdus.specs.declared.part.Part.TheVariants.{Whole}
use Rattle.tunnel_pdus.specs.declared.part.TunnelRefusal.{TunnelRefusal}
use Rattle.tunnel_pdus.specs.Value.{Frame}
use Rattle.tunnel_pdus.specs.Layout.{SpellsFrame}
use Rattle.tunnel_pdus.specs.Faults.{RefusedFrame, bad_kind, bad_body_length, bad_protocol}
use Rattle.tunnel_pdus.specs.Streams.{Begins, Wants, Stream, none, next}
use Rattle.tunnel_pdus.proofs.Grammars.{begins_read, some_stream, one_stream, pieces}
use Rattle.tunnel_pdus.proofs.Frames.{grammar}
use Rattle.capture_check.specs.declared.entry.Entry.{Entry}
use Rattle.capture_check.specs.declared.entry.Entry.TheVariants.{Issue, Open, Sent, Got, Main, Word, Out, In}
use Rattle.capture_check.specs.declared.words.Words.{Words}
use Rattle.capture_check.specs.declared.main_streams.MainStreams.{MainStreams}
use Rattle.capture_check.specs.Sayings.{Saying, saying_of, KeepsWords}
use Rattle.capture_check.specs.WordsSoFar.{AreWords, MaySay}
use Rattle.capture_check.specs.MainFrames.{Sided, from, frame_of, frames_of, said_of, main_in, main_of, Came, at_start, no_main, adds, AreFrames, FramesMain}
use Rattle.capture_check.specs.FramesSoFar.{IsRead, AreHeard, Breaks, left_of, AreStreams}
use Rattle.capture_check.proofs.Stepping.{snoc, last_same, not_empty}
use Rattle.capture_check.proofs.Speaking.{keeps_more, broken_by}

-- ---- frames of a side

same_side : (side : Role) → same_role side side ≡ true
same_side Server = refl
same_side Client = refl

frames_of_from : (side : Role) (frames : List Frame) → frames_of side (from side frames) ≡ frames
frames_of_from side [] = refl
frames_of_from Server (f ∷ frames) = ap (λ l. f ∷ l) (frames_of_from Server frames)
frames_of_from Client (f ∷ frames) = ap (λ l. f ∷ l) (frames_of_from Client frames)

none_of_other : (side : Role) (frames : List Frame) → frames_of (other side) (from side frames) ≡ []
none_of_other side [] = refl
none_of_other Server (f ∷ frames) = none_of_other Server frames
none_of_other Client (f ∷ frames) = none_of_other Client frames

frames_more : (side : Role) (came : List Sided) (frames : List Frame) → frames_of side (came ++ from side frames) ≡ frames_of side came ++ frames
frames_more side came frames = filter_map-append (frame_of side) came (from side frames) ∙ ap (λ l. frames_of side came ++ l) (frames_of_from side frames)

frames_of_other : (side : Role) (came : List Sided) (frames : List Frame) → frames_of (other side) (came ++ from side frames) ≡ frames_of (other side) came
frames_of_other side came frames = filter_map-append (frame_of (other side)) came (from side frames) ∙ ap (λ l. frames_of (other side) came ++ l) (none_of_other side frames) ∙ append-nil (frames_of (other side) came)

from_more : (side : Role) (xs ys : List Frame) → from side (xs ++ ys) ≡ from side xs ++ from side ys
from_more side xs ys = map-append (λ f. record { side = side; frame = f }) xs ys

came_more : (side : Role) (came : List Sided) (xs ys : List Frame) → came ++ from side (xs ++ ys) ≡ (came ++ from side xs) ++ from side ys
came_more side came xs ys = ap (λ l. came ++ l) (from_more side xs ys) ∙ sym (append_assoc came (from side xs) (from side ys))

said_more : (side : Role) (came : List Sided) (frames : List Frame) → said_of (came ++ from side frames) ≡ said_of came ++ said_of (from side frames)
said_more side came frames = map-append (λ f. saying_of f.side f.frame) came (from side frames)

-- ---- the front of what is left

no_fault_in_none : (r : TunnelRefusal) → ¬ RefusedFrame [] r
no_fault_in_none r (bad_kind first rest is _ _ _ _) = cc
no_fault_in_none r (bad_body_length k n why rest _ is _ _) = cc
no_fault_in_none r (bad_protocol id protocol rest _ _ _ _ is _) = cc

fault_or_value : (bytes : List ℕ) (r : TunnelRefusal) (v : Frame) (used : ℕ) → RefusedFrame bytes r → Begins SpellsFrame bytes v used → ⊥
fault_or_value bytes r v used fault begins = not_both (Whole v used) r (begins_read grammar bytes v used begins) (grammar.refuses r bytes fault)

no_value_in_none : (v : Frame) (used : ℕ) → Begins SpellsFrame [] v used → ⊥
no_value_in_none v used b = empty b.text b.rest (sym b.bytes_are) (grammar.some v b.text b.spells)
  where
    empty : (text rest : List ℕ) → text ++ rest ≡ [] → 0 < length text → ⊥
    empty [] rest e long = omega (arith, long)
    empty (x ∷ text) rest e long = cc

wants_no_value : (bytes : List ℕ) (need : ℕ) → Wants SpellsFrame RefusedFrame bytes need → (v : Frame) (used : ℕ) → Begins SpellsFrame bytes v used → ⊥
wants_no_value bytes need w v used b =
    let here = append-nil bytes in
    w.not_before [] (subst (λ t. length t < need) (sym here) w.longer) (inl (v, used, subst (λ t. Begins SpellsFrame t v used) (sym here) b))

wants_no_fault : (bytes : List ℕ) (need : ℕ) → Wants SpellsFrame RefusedFrame bytes need → (r : TunnelRefusal) → ¬ RefusedFrame bytes r
wants_no_fault bytes need w r f =
    let here = append-nil bytes in
    w.not_before [] (subst (λ t. length t < need) (sym here) w.longer) (inr (r, subst (λ t. RefusedFrame t r) (sym here) f))

-- ---- streams with more bytes

-- a stream with more bytes begins with the same frames
stream_extends : (bytes left more end : List ℕ) (vs ws : List Frame) → Stream SpellsFrame bytes vs left → All (λ b. b < 2 ^ 8) left → All (λ b. b < 2 ^ 8) more → Stream SpellsFrame (bytes ++ more) ws end → (new : List Frame) × (ws ≡ vs ++ new)
stream_extends bytes left more end vs ws s good_left good_more t =
    let rest = some_stream grammar (left ++ more) (All-append (λ b. b < 2 ^ 8) left more good_left good_more) in
    let whole = pieces bytes more vs rest.0 left rest.1 s rest.2 in
    (rest.0, (one_stream grammar (bytes ++ more) ws (vs ++ rest.0) end rest.1 t whole).0)

-- what is left goes on, and begins no frame
stream_waits : (bytes left more : List ℕ) (vs : List Frame) → Stream SpellsFrame bytes vs left → ((v : Frame) (used : ℕ) → Begins SpellsFrame (left ++ more) v used → ⊥) → Stream SpellsFrame (bytes ++ more) vs (left ++ more)
stream_waits bytes left more vs s no_value = record {
  front = s.front;
  spell = s.spell;
  bytes_are = ap (λ l. l ++ more) s.bytes_are ∙ append_assoc s.front left more;
  no_next = no_value;
}

-- one frame and no more
one_frame : (text : List ℕ) (v : Frame) → SpellsFrame text v → Stream SpellsFrame text (v ∷ []) []
one_frame text v spelled = record {
  front = text ++ [];
  spell = next text [] v [] spelled none;
  bytes_are = sym (append-nil text) ∙ sym (append-nil (text ++ []));
  no_next = no_value_in_none;
}

-- a frame that is whole with its last byte has all bytes
whole_is_all : (fewer : List ℕ) (byte : ℕ) (v : Frame) (used : ℕ) → ((w : Frame) (n : ℕ) → Begins SpellsFrame fewer w n → ⊥) → Begins SpellsFrame (fewer ++ byte ∷ []) v used → SpellsFrame (fewer ++ byte ∷ []) v
whole_is_all fewer byte v used no_next b = by_rest b.rest b.bytes_are
  where
    begins_fewer : (rest : List ℕ) → fewer ≡ b.text ++ rest → ⊥
    begins_fewer rest is = no_next v (length b.text) (record { text = b.text; rest = rest; spells = b.spells; bytes_are = is; used_is = refl })

    by_rest : (rest : List ℕ) → fewer ++ byte ∷ [] ≡ b.text ++ rest → SpellsFrame (fewer ++ byte ∷ []) v
    by_rest [] is = subst (λ t. SpellsFrame t v) (sym (is ∙ append-nil b.text)) b.spells
    by_rest (r ∷ rest) is =
        elim (snoc fewer b.text byte r rest is) [
          | inl end ↦ absurd (begins_fewer [] (end.0 ∙ sym (append-nil b.text)))
          | inr longer ↦ absurd (begins_fewer (r ∷ longer.0) longer.1)
        ]

-- ---- one byte more

module _ (side : Role) (main fewer : List ℕ) (byte : ℕ) (came : List Sided) (read : IsRead side main came fewer) (fits : byte < 2 ^ 8) where
  abbrev now : List ℕ
  now = fewer ++ byte ∷ []

  good_now : All (λ b. b < 2 ^ 8) now
  good_now = All-push (λ b. b < 2 ^ 8) fewer byte read.are_bytes fits

  abbrev frames_before : List Frame
  frames_before = frames_of side came

  -- a frame is whole
  stream_whole : (v : Frame) (used : ℕ) → Begins SpellsFrame now v used → Stream SpellsFrame (main ++ byte ∷ []) (frames_before ++ v ∷ []) []
  stream_whole v used b =
      let s = read.are_frames.stream in
      pieces main (byte ∷ []) frames_before (v ∷ []) fewer [] s (one_frame now v (whole_is_all fewer byte v used s.no_next b))

  one_said : (v : Frame) → said_of (came ++ from side (v ∷ [])) ≡ said_of came ++ saying_of side v ∷ []
  one_said v = said_more side came (v ∷ [])

  pub heard_whole : (v : Frame) (used : ℕ) (words new : Words) (left : List ℕ) → Begins SpellsFrame now v used → AreHeard came words → left ≡ []
      → MaySay (said_of came) (saying_of side v) → AreWords (said_of came ++ saying_of side v ∷ []) new
      → (frames : List Frame) × IsRead side (main ++ byte ∷ []) (came ++ from side frames) left × AreHeard (came ++ from side frames) new
  heard_whole v used words new left b heard none_left may are = (
    v ∷ [],
    subst (λ l. IsRead side (main ++ byte ∷ []) (came ++ from side (v ∷ [])) l) (sym none_left) (record {
      are_frames = record {
        stream = subst (λ fs. Stream SpellsFrame (main ++ byte ∷ []) fs []) (sym (frames_more side came (v ∷ []))) (stream_whole v used b);
        no_fault = no_fault_in_none;
      };
      are_bytes = All-nil (λ b. b < 2 ^ 8);
    }),
    record {
      are_words = subst (λ l. AreWords l new) (sym (one_said v)) are;
      keeps = subst KeepsWords (sym (one_said v)) (keeps_more (said_of came) (saying_of side v) heard.keeps may);
    },
  )

  pub late_breaks : (v : Frame) (used : ℕ) → Begins SpellsFrame now v used → ¬ MaySay (said_of came) (saying_of side v) → Breaks side (main ++ byte ∷ []) came
  late_breaks v used b late more left frames good are keeps =
      let extends = stream_extends (main ++ byte ∷ []) [] more left (frames_before ++ v ∷ []) (frames_before ++ frames) (stream_whole v used b) (All-nil (λ b. b < 2 ^ 8)) good are.stream in
      let parts : frames ≡ v ∷ extends.0 = append_cancel_left frames_before frames (v ∷ extends.0) (extends.1 ∙ append_assoc frames_before (v ∷ []) extends.0) in
      broken_by (said_of came) (saying_of side v) (said_of (from side extends.0)) late (subst KeepsWords (ap (λ fs. said_of (came ++ from side fs)) parts ∙ said_more side came (v ∷ extends.0)) keeps)

  -- none is
  pub heard_more : (need : ℕ) (words : Words) (left : List ℕ) → Wants SpellsFrame RefusedFrame now need → AreHeard came words → left ≡ now
      → (frames : List Frame) × IsRead side (main ++ byte ∷ []) (came ++ from side frames) left × AreHeard (came ++ from side frames) words
  heard_more need words left wants heard left_is = (
    [],
    subst (λ l. IsRead side (main ++ byte ∷ []) l left) (sym (append-nil came)) (subst (IsRead side (main ++ byte ∷ []) came) (sym left_is) (record {
      are_frames = record {
        stream = stream_waits main fewer (byte ∷ []) frames_before read.are_frames.stream (wants_no_value now need wants);
        no_fault = wants_no_fault now need wants;
      };
      are_bytes = good_now;
    })),
    subst (λ l. AreHeard l words) (sym (append-nil came)) heard,
  )

  -- it has a fault
  pub fault_breaks : (r : TunnelRefusal) → RefusedFrame now r → Breaks side (main ++ byte ∷ []) came
  fault_breaks r fault more left frames good are keeps =
      let stays = grammar.stays r now more fault in
      let first = stream_waits main fewer (byte ∷ []) frames_before read.are_frames.stream (λ v used b. fault_or_value now r v used fault b) in
      let waits = stream_waits (main ++ byte ∷ []) now more frames_before first (λ v used b. fault_or_value (now ++ more) r v used stays b) in
      let same = (one_stream grammar ((main ++ byte ∷ []) ++ more) (frames_before ++ frames) frames_before left (now ++ more) are.stream waits).1 in
      are.no_fault r (subst (λ l. RefusedFrame l r) (sym same) stays)

-- ---- more bytes

pub reads_on : (side : Role) (main first second left : List ℕ) (came : List Sided) (fs gs : List Frame) (words : Words) → IsRead side ((main ++ first) ++ second) ((came ++ from side fs) ++ from side gs) left → AreHeard ((came ++ from side fs) ++ from side gs) words
    → (frames : List Frame) × IsRead side (main ++ (first ++ second)) (came ++ from side frames) left × AreHeard (came ++ from side frames) words
reads_on side main first second left came fs gs words read heard = (
  fs ++ gs,
  subst (λ l. IsRead side (main ++ (first ++ second)) l left) (sym (came_more side came fs gs)) (subst (λ l. IsRead side l ((came ++ from side fs) ++ from side gs) left) (append_assoc main first second) read),
  subst (λ l. AreHeard l words) (sym (came_more side came fs gs)) heard,
)

pub reads_none : (side : Role) (main left : List ℕ) (came : List Sided) (words : Words) → IsRead side main came left → AreHeard came words
    → (frames : List Frame) × IsRead side (main ++ []) (came ++ from side frames) left × AreHeard (came ++ from side frames) words
reads_none side main left came words read heard = (
  [],
  subst (λ l. IsRead side (main ++ []) l left) (sym (append-nil came)) (subst (λ l. IsRead side l came left) (sym (append-nil main)) read),
  subst (λ l. AreHeard l words) (sym (append-nil came)) heard,
)

-- what breaks with a byte breaks with all bytes
pub breaks_on : (side : Role) (main first left : List ℕ) (byte : ℕ) (rest : List ℕ) (came : List Sided) (fs : List Frame) → IsRead side (main ++ first) (came ++ from side fs) left → byte < 2 ^ 8 → All (λ b. b < 2 ^ 8) rest
    → Breaks side ((main ++ first) ++ byte ∷ []) (came ++ from side fs) → Breaks side (main ++ (first ++ byte ∷ rest)) came
breaks_on side main first left byte rest came fs read fits good_rest breaks more end frames good are keeps =
    let behind = rest ++ more in
    let good_behind = All-append (λ b. b < 2 ^ 8) rest more good_rest good in
    let cut : (main ++ (first ++ byte ∷ rest)) ++ more ≡ (main ++ first) ++ (byte ∷ behind) = ap (λ l. l ++ more) (sym (append_assoc main first (byte ∷ rest))) ∙ append_assoc (main ++ first) (byte ∷ rest) more in
    let stream = subst (λ l. Stream SpellsFrame l (frames_of side came ++ frames) end) cut are.stream in
    let extends = stream_extends (main ++ first) left (byte ∷ behind) end (frames_of side (came ++ from side fs)) (frames_of side came ++ frames) read.are_frames.stream read.are_bytes (All-cons (λ b. b < 2 ^ 8) byte behind fits good_behind) stream in
    let parts : frames ≡ fs ++ extends.0 = append_cancel_left (frames_of side came) frames (fs ++ extends.0) (extends.1 ∙ ap (λ l. l ++ extends.0) (frames_more side came fs) ∙ append_assoc (frames_of side came) fs extends.0) in
    let same : (main ++ (first ++ byte ∷ rest)) ++ more ≡ ((main ++ first) ++ byte ∷ []) ++ behind = cut ∙ sym (append_assoc (main ++ first) (byte ∷ []) behind) in
    breaks behind end extends.0 good_behind
    (record { stream = subst (λ l. Stream SpellsFrame l (frames_of side (came ++ from side fs) ++ extends.0) end) same (subst (λ l. Stream SpellsFrame ((main ++ (first ++ byte ∷ rest)) ++ more) l end) extends.1 are.stream); no_fault = are.no_fault })
    (subst (λ l. KeepsWords (said_of l)) (ap (λ l. came ++ from side l) parts ∙ came_more side came fs extends.0) keeps)

-- ---- a byte in the midst of bytes

pub cut_at : (bytes : List ℕ) (i : ℕ) → i < length bytes → bytes ≡ take i bytes ++ get_or bytes i 0 ∷ drop (i + 1) bytes
cut_at bytes i few =
    let one : i + 1 ≡ suc i = omega arith in
    sym (take-append-drop i bytes) ∙ ap (λ l. take i bytes ++ l) (drop-cons bytes i 0 few) ∙ ap (λ n. take i bytes ++ get_or bytes i 0 ∷ drop n bytes) (sym one)

pub pushed_byte : {T E : Type 0} (r : Result T E) (old new : List ℕ) (byte : ℕ) → is_ok r ≡ true → new ≡ cond (is_ok r) (old ++ byte ∷ []) old → new ≡ old ++ byte ∷ []
pushed_byte r old new byte ok is = is ∙ ap (λ b. cond b (old ++ byte ∷ []) old) ok

pub was_ok : {T E U F : Type 0} (r : Result T E) (q : Result U F) (x : T) → r ≡ Ok x → is_ok r ≡ is_ok q → is_ok q ≡ true
was_ok r q x was same = sym same ∙ ap is_ok was

-- ---- the frames of entries

same_main : (side s : Role) (bytes bs : List ℕ) → Main side bytes ≡ Main s bs → (side ≡ s) × (bytes ≡ bs)
same_main side s bytes bs e = (cc, cc)

-- what a `main` line adds
abbrev pub Added : List Entry → Role → List ℕ → List Sided → Type 0
Added before side bytes came = (earlier : List Sided) × (frames : List Frame) × Came before earlier × (came ≡ earlier ++ from side frames)

pub added : (before : List Entry) (side : Role) (bytes : List ℕ) (came : List Sided) (entries : List Entry) → entries ≡ before ++ Main side bytes ∷ [] → Came entries came → Added before side bytes came
added before side bytes came entries is (at_start _ _ empty _) = absurd (not_empty before (Main side bytes) (sym is ∙ empty))
added before side bytes came entries is (no_main _ xs e _ parts other earlier) =
    absurd (other side bytes (sym (last_same before xs (Main side bytes) e (sym is ∙ parts)).1))
added before side bytes came entries is (adds _ xs s bs left earlier _ frames parts came_is stream before_it) =
    let same = last_same before xs (Main side bytes) (Main s bs) (sym is ∙ parts) in
    let sides : side ≡ s = (same_main side s bytes bs same.1).0 in
    (earlier, frames, subst (λ l. Came l earlier) (sym same.0) before_it, came_is ∙ ap (λ x. earlier ++ from x frames) (sym sides))

-- frames that an entry of no bytes adds
not_main : (xs before : List Entry) (e : Entry) (came : List Sided) → xs ≡ before ++ e ∷ [] → ((side : Role) (bytes : List ℕ) → e ≢ Main side bytes) → Came xs came → Came before came
not_main xs before e came is other (at_start _ _ empty _) = absurd (not_empty before e (sym is ∙ empty))
not_main xs before e came is other (no_main _ ys f _ parts _ earlier) =
    subst (λ l. Came l came) (sym (last_same before ys e f (sym is ∙ parts)).0) earlier
not_main xs before e came is other (adds _ ys s bs left earlier _ frames parts came_is stream before_it) =
    absurd (other s bs (last_same before ys e (Main s bs) (sym is ∙ parts)).1)

same_frames : (xs : List Entry) (side : Role) (earlier : List Sided) (fs gs : List Frame) (left right : List ℕ) → Stream SpellsFrame (main_of side xs) (frames_of side (earlier ++ from side fs)) left
    → Stream SpellsFrame (main_of side xs) (frames_of side (earlier ++ from side gs)) right → fs ≡ gs
same_frames xs side earlier fs gs left right s t =
    let same = (one_stream grammar (main_of side xs) (frames_of side (earlier ++ from side fs)) (frames_of side (earlier ++ from side gs)) left right s t).0 in
    append_cancel_left (frames_of side earlier) fs gs (sym (frames_more side earlier fs) ∙ same ∙ frames_more side earlier gs)

-- the same frames come
pub one_came : (xs : List Entry) (a b : List Sided) → Came xs a → Came xs b → a ≡ b
one_came xs a b (at_start _ _ empty a_is) (at_start _ _ also b_is) = a_is ∙ sym b_is
one_came xs a b (at_start _ _ empty a_is) (no_main _ before e _ parts other earlier) = absurd (not_empty before e (sym parts ∙ empty))
one_came xs a b (at_start _ _ empty a_is) (adds _ before side bytes left earlier _ frames parts b_is stream came) = absurd (not_empty before (Main side bytes) (sym parts ∙ empty))
one_came xs a b (no_main _ before e _ parts other earlier) second = one_came before a b earlier (not_main xs before e b parts other second)
one_came xs a b (adds _ before side bytes left earlier _ frames parts a_is stream came) second =
    let there = added before side bytes b xs parts second in
    let same : earlier ≡ there.0 = one_came before earlier there.0 came there.2 in
    a_is ∙ ap (λ l. l ++ from side frames) same ∙ ap (λ fs. there.0 ++ from side fs) (frames_now there same second there.3) ∙ sym there.3
  where
    frames_now : (there : Added before side bytes b) → earlier ≡ there.0 → Came xs b → b ≡ there.0 ++ from side there.1 → frames ≡ there.1
    frames_now there same second b_is = of_second second
      where
        of_second : Came xs b → frames ≡ there.1
        of_second (at_start _ _ empty _) = absurd (not_empty before (Main side bytes) (sym parts ∙ empty))
        of_second (no_main _ ys e _ also other _) = absurd (other side bytes (sym (last_same before ys (Main side bytes) e (sym parts ∙ also)).1))
        of_second (adds _ ys s bs right _ _ gs also _ stream_b _) =
            let sides : side ≡ s = (same_main side s bytes bs (last_same before ys (Main side bytes) (Main s bs) (sym parts ∙ also)).1).0 in
            let t = subst (λ x. Stream SpellsFrame (main_of x xs) (frames_of x b) right) (sym sides) stream_b in
            same_frames xs side there.0 frames there.1 left right (subst (λ l. Stream SpellsFrame (main_of side xs) (frames_of side l) left) (a_is ∙ ap (λ l. l ++ from side frames) same) stream)
            (subst (λ l. Stream SpellsFrame (main_of side xs) (frames_of side l) right) b_is t)

-- ---- the main streams of entries

main_here : (side : Role) (before : List Entry) (bytes : List ℕ) → main_of side (before ++ Main side bytes ∷ []) ≡ main_of side before ++ bytes
main_here Server before bytes = flat_map-append (main_in Server) before (Main Server bytes ∷ []) ∙ ap (λ l. main_of Server before ++ l) (append-nil bytes)
main_here Client before bytes = flat_map-append (main_in Client) before (Main Client bytes ∷ []) ∙ ap (λ l. main_of Client before ++ l) (append-nil bytes)

main_of_other : (side : Role) (before : List Entry) (bytes : List ℕ) → main_of (other side) (before ++ Main side bytes ∷ []) ≡ main_of (other side) before
main_of_other Server before bytes = flat_map-append (main_in Client) before (Main Server bytes ∷ []) ∙ append-nil (main_of Client before)
main_of_other Client before bytes = flat_map-append (main_in Server) before (Main Client bytes ∷ []) ∙ append-nil (main_of Server before)

-- what holds of a side and of the other holds of both
both_sides : (P : Role → Type 0) (side : Role) → P side → P (other side) → (s : Role) → P s
both_sides P Server here there Server = here
both_sides P Server here there Client = there
both_sides P Client here there Client = here
both_sides P Client here there Server = there

nothing_read : (side : Role) → IsRead side [] [] []
nothing_read side = record {
  are_frames = record {
    stream = record { front = []; spell = none; bytes_are = refl; no_next = no_value_in_none };
    no_fault = no_fault_in_none;
  };
  are_bytes = All-nil (λ b. b < 2 ^ 8);
}

nothing_late : (front : List Saying) (s : Saying) (back : List Saying) → [] ≢ front ++ s ∷ back
nothing_late [] s back e = cc
nothing_late (x ∷ front) s back e = cc

pub nothing_streamed : (streams : MainStreams) → streams.server.items ≡ [] → streams.client.items ≡ [] → AreWords [] streams.words → AreStreams [] streams
nothing_streamed streams no_server no_client are = record {
  came = [];
  they_came = at_start [] [] refl refl;
  read = each;
  heard = record { are_words = are; keeps = λ front side id back parts. absurd (nothing_late front _ back parts) };
}
  where
    each : (side : Role) → IsRead side [] [] (left_of streams side)
    each Server = subst (IsRead Server [] []) (sym no_server) (nothing_read Server)
    each Client = subst (IsRead Client [] []) (sym no_client) (nothing_read Client)

module _ (before : List Entry) (side : Role) (bytes : List ℕ) (streams : MainStreams) (are : AreStreams before streams) where
  abbrev the_main : Entry
  the_main = Main side bytes

  -- what the frames of a line make of the streams
  pub streams_on : (new : MainStreams) (frames : List Frame) → IsRead side (main_of side before ++ bytes) (are.came ++ from side frames) (left_of new side) → left_of new (other side) ≡ left_of streams (other side)
      → AreHeard (are.came ++ from side frames) new.words → FramesMain before the_main × AreStreams (before ++ the_main ∷ []) new
  streams_on new frames read same heard = (
    record { came = came; left = left_of new side; they_came = they; are_frames = here.are_frames; keeps = heard.keeps },
    record { came = came; they_came = they; read = both_sides (λ s. IsRead s (main_of s (before ++ the_main ∷ [])) came (left_of new s)) side here there; heard = heard },
  )
    where
      came : List Sided
      came = are.came ++ from side frames

      here : IsRead side (main_of side (before ++ the_main ∷ [])) (are.came ++ from side frames) (left_of new side)
      here = subst (λ l. IsRead side l (are.came ++ from side frames) (left_of new side)) (sym (main_here side before bytes)) read

      there_frames : AreFrames (main_of (other side) before) (frames_of (other side) (are.came ++ from side frames)) (left_of new (other side))
      there_frames =
          subst (λ l. AreFrames (main_of (other side) before) l (left_of new (other side))) (sym (frames_of_other side are.came frames))
          (subst (AreFrames (main_of (other side) before) (frames_of (other side) are.came)) (sym same) (are.read (other side)).are_frames)

      there : IsRead (other side) (main_of (other side) (before ++ the_main ∷ [])) (are.came ++ from side frames) (left_of new (other side))
      there = subst (λ l. IsRead (other side) l (are.came ++ from side frames) (left_of new (other side))) (sym (main_of_other side before bytes))
          (record { are_frames = there_frames; are_bytes = subst (All (λ b. b < 2 ^ 8)) (sym same) (are.read (other side)).are_bytes })

      they : Came (before ++ the_main ∷ []) (are.came ++ from side frames)
      they = adds (before ++ the_main ∷ []) before side bytes (left_of new side) are.came (are.came ++ from side frames) frames refl refl here.are_frames.stream are.they_came

  -- what breaks is no frames of the side, or holds data behind a word
  pub streams_break : Breaks side (main_of side before ++ bytes) are.came → ¬ FramesMain before the_main
  streams_break breaks f =
      let a = added before side bytes f.came (before ++ the_main ∷ []) refl f.they_came in
      let same : a.0 ≡ are.came = one_came before a.0 are.came a.2 are.they_came in
      let came_is : f.came ≡ are.came ++ from side a.1 = a.3 ∙ ap (λ l. l ++ from side a.1) same in
      let frames = subst (λ l. AreFrames (main_of side (before ++ the_main ∷ [])) (frames_of side l) f.left) came_is f.are_frames in
      let of_side = subst (λ l. AreFrames (main_of side (before ++ the_main ∷ [])) l f.left) (frames_more side are.came a.1) frames in
      breaks [] f.left a.1 (All-nil (λ b. b < 2 ^ 8))
      (subst (λ l. AreFrames l (frames_of side are.came ++ a.1) f.left) (main_here side before bytes ∙ sym (append-nil (main_of side before ++ bytes))) of_side)
      (subst (λ l. KeepsWords (said_of l)) came_is f.keeps)

-- an entry without main stream bytes
module _ (before : List Entry) (streams : MainStreams) (are : AreStreams before streams) where
  streams_still : (e : Entry) → ((side : Role) (bytes : List ℕ) → e ≢ Main side bytes) → ((side : Role) → main_in side e ≡ []) → AreStreams (before ++ e ∷ []) streams
  streams_still e other_one nothing_in = record {
    came = are.came;
    they_came = no_main (before ++ e ∷ []) before e are.came refl other_one are.they_came;
    read = λ side. subst (λ l. IsRead side l are.came (left_of streams side)) (sym (same side)) (are.read side);
    heard = are.heard;
  }
    where
      same : (side : Role) → main_of side (before ++ e ∷ []) ≡ main_of side before
      same side = flat_map-append (main_in side) before (e ∷ []) ∙ ap (λ l. main_of side before ++ (l ++ [])) (nothing_in side) ∙ append-nil (main_of side before)

  pub no_bytes : (e : Entry) → ((side : Role) (bytes : List ℕ) → e ≢ Main side bytes) → FramesMain before e × AreStreams (before ++ e ∷ []) streams
  no_bytes (Issue id k cookie) other_one = (tt, streams_still (Issue id k cookie) other_one (λ side. refl))
  no_bytes (Open id name) other_one = (tt, streams_still (Open id name) other_one (λ side. refl))
  no_bytes (Sent side id message) other_one = (tt, streams_still (Sent side id message) other_one (λ s. refl))
  no_bytes (Got side id message) other_one = (tt, streams_still (Got side id message) other_one (λ s. refl))
  no_bytes (Main side bytes) other_one = absurd (other_one side bytes refl)
  no_bytes (Word side kind id) other_one = (tt, streams_still (Word side kind id) other_one (λ s. refl))
  no_bytes (Out side k number datagram) other_one = (tt, streams_still (Out side k number datagram) other_one (λ s. refl))
  no_bytes (In side k number) other_one = (tt, streams_still (In side k number) other_one (λ s. refl))
