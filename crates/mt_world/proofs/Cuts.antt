-- What an end reads of a stream is its longest list of whole frames, and there is one such list.
use Rattle.std.proofs.Common.{◌≡◌, ℕ, zero, suc, ◌+◌, ◌*◌, ◌<◌, ◌≤◌, ◌⊎◌, inl, inr, Bool, true, false, eqb, cond, ◌&&◌, List, [], ◌∷◌, ◌++◌, length, take, fold, Option, None, Some, refl, sym, ap, ◌∙◌, subst, append_assoc, append-nil, arith}
use Rattle.std.proofs.lemmas.Bool.{cases_lt, eqb-true}
use Rattle.std.proofs.lemmas.List.{take_all, take-append-le, take_at, append_cancel_left, length_push}
use Rattle.mt_base.specs.declared.kinds.Role.{Role}
use Rattle.mt_base.specs.Ends.{other}
use Rattle.mt_base.specs.Trace.{Trace}
use Rattle.mt_base.specs.Writing.{joined}
use Rattle.mt_base.proofs.Fill.{joined-append}
use Rattle.dvc_pdus.specs.Value.{Pdu}
use Rattle.dvc_pdus.specs.Reading.{reading}
use Rattle.mt_world.specs.Frames.{frame_of, read_pdu}
use Rattle.mt_world.specs.Stream.{AreFrames, IsCut}
use Rattle.mt_world.specs.Acts.{Entry, past, reads, taken}
use Rattle.mt_world.proofs.Hearing.{Heard, ends_in, hear, heard-past}

frames_push : (from : Role) (frames : List (List ℕ)) (pdus : List Pdu) (frame : List ℕ) (pdu : Pdu) → AreFrames from frames pdus → frame_of from frame ≡ Some pdu
    → AreFrames from (frames ++ frame ∷ []) (pdus ++ pdu ∷ [])
frames_push from [] [] frame pdu h is = (is, tt)
frames_push from [] (p ∷ ps) frame pdu h is = absurd h
frames_push from (f ∷ fs) [] frame pdu h is = absurd h
frames_push from (f ∷ fs) (p ∷ ps) frame pdu h is = (h.0, frames_push from fs ps frame pdu h.1 is)

no_bytes : (from : Role) (k : ℕ) → frame_of from (take k []) ≡ None
unfolding frame_of
no_bytes from zero = refl
no_bytes from (suc k) = refl

still_partial : (from : Role) (part : List ℕ) (byte : ℕ) → ((k : ℕ) → frame_of from (take k part) ≡ None) → frame_of from (part ++ byte ∷ []) ≡ None
    → (k : ℕ) → (length part < k) ⊎ (k ≤ length part) → frame_of from (take k (part ++ byte ∷ [])) ≡ None
still_partial from part byte h none k (inl more) =
    ap (frame_of from) (take_all k (part ++ byte ∷ []) (omega (arith, more, length_push part byte))) ∙ none
still_partial from part byte h none k (inr less) = ap (frame_of from) (take-append-le k part (byte ∷ []) less) ∙ h k

cut_with : (from : Role) (stream : List ℕ) (pdus : List Pdu) (part : List ℕ) (byte : ℕ) (read : Option Pdu) → frame_of from (part ++ byte ∷ []) ≡ read
    → IsCut from stream pdus part → IsCut from (stream ++ byte ∷ []) (ends_in pdus (part ++ byte ∷ []) read).0 (ends_in pdus (part ++ byte ∷ []) read).1
cut_with from stream pdus part byte None is c = record {
  frames = c.frames;
  whole = c.whole;
  parts = ap (λ x. x ++ byte ∷ []) c.parts ∙ append_assoc (joined c.frames) part (byte ∷ []);
  partial = λ k. still_partial from part byte c.partial is k (cases_lt (length part) k);
}
cut_with from stream pdus part byte (Some pdu) is c = record {
  frames = c.frames ++ (part ++ byte ∷ []) ∷ [];
  whole = frames_push from c.frames pdus (part ++ byte ∷ []) pdu c.whole is;
  parts =
      ap (λ x. x ++ byte ∷ []) c.parts ∙ append_assoc (joined c.frames) part (byte ∷ [])
      ∙ ap (λ x. joined c.frames ++ x) (sym (append-nil (part ++ byte ∷ [])))
      ∙ sym (joined-append c.frames ((part ++ byte ∷ []) ∷ [])) ∙ sym (append-nil (joined (c.frames ++ (part ++ byte ∷ []) ∷ [])));
  partial = λ k. no_bytes from k;
}

cut_byte : (from : Role) (stream : List ℕ) (h : Heard) (byte : ℕ) → IsCut from stream h.0 h.1 → IsCut from (stream ++ byte ∷ []) (hear from h byte).0 (hear from h byte).1
unfolding hear
cut_byte from stream h byte c = cut_with from stream h.0 h.1 byte (frame_of from (h.1 ++ byte ∷ [])) refl c

cut_bytes : (from : Role) (stream : List ℕ) (h : Heard) (bytes : List ℕ) → IsCut from stream h.0 h.1 → IsCut from (stream ++ bytes) (fold (hear from) h bytes).0 (fold (hear from) h bytes).1
cut_bytes from stream h [] c =
    let P : List ℕ → Type 0 = λ x. IsCut from x h.0 h.1 in
    subst P (sym (append-nil stream)) c
cut_bytes from stream h (b ∷ bs) c =
    let after = fold (hear from) (hear from h b) bs in
    let P : List ℕ → Type 0 = λ x. IsCut from x after.0 after.1 in
    subst P (append_assoc stream (b ∷ []) bs) (cut_bytes from (stream ++ b ∷ []) (hear from h b) bs (cut_byte from stream h b c))

nothing_cut : (from : Role) → IsCut from [] [] []
nothing_cut from = record { frames = []; whole = tt; parts = refl; partial = λ k. no_bytes from k }

-- what an end has read is what its stream is
pub stream_is_read : (role : Role) (t : Trace Entry) → IsCut (other role) (taken t) (reads (past role t).acts) (past role t).part
stream_is_read role t =
    let P : Heard → Type 0 = λ h. IsCut (other role) (taken t) h.0 h.1 in
    subst P (sym (heard-past role t)) (cut_bytes (other role) [] ([], []) (taken t) (nothing_cut (other role)))

-- a frame by its parts
record Framed (bytes : List ℕ) : Type 0 where
  low : ℕ
  high : ℕ
  text : List ℕ
  kind : ℕ
  bytes_are : bytes ≡ kind ∷ low ∷ high ∷ text
  long : length bytes ≡ low + 256 * high + 3

both_true : (a b : Bool) (x : Option Pdu) (pdu : Pdu) → cond (a && b) x None ≡ Some pdu → b ≡ true
both_true true true x pdu h = refl
both_true true false x pdu h = cc
both_true false b x pdu h = cc

framed : (from : Role) (bytes : List ℕ) (pdu : Pdu) → frame_of from bytes ≡ Some pdu → Framed bytes
unfolding frame_of
framed from [] pdu h = cc
framed from (a ∷ []) pdu h = cc
framed from (a ∷ b ∷ []) pdu h = cc
framed from (kind ∷ low ∷ high ∷ text) pdu h =
    let same : low + 256 * high ≡ length text = eqb-true (low + 256 * high) (length text) (both_true (eqb kind 3) (eqb (low + 256 * high) (length text)) (read_pdu (reading from text)) pdu h) in
    record { low = low; high = high; text = text; kind = kind; bytes_are = refl; long = omega (arith, same) }

-- no frame is a proper front of another
same_length : (f g x y : List ℕ) (m : Framed f) (n : Framed g) → f ++ x ≡ g ++ y → length f ≡ length g
same_length f g x y m n h =
    let e : (m.kind ∷ m.low ∷ m.high ∷ m.text) ++ x ≡ (n.kind ∷ n.low ∷ n.high ∷ n.text) ++ y = ap (λ z. z ++ x) (sym m.bytes_are) ∙ h ∙ ap (λ z. z ++ y) n.bytes_are in
    let low : m.low ≡ n.low = cc in
    let high : m.high ≡ n.high = cc in
    omega (arith, m.long, n.long, low, high)

one_front : (f g x y : List ℕ) → length f ≡ length g → f ++ x ≡ g ++ y → f ≡ g
one_front f g x y same h = sym (take_at f x (length f) refl) ∙ ap (take (length f)) h ∙ take_at g y (length f) (sym same)

-- a rest that begins with no frame does not begin with this one
no_front : (from : Role) (rest frame more : List ℕ) (pdu : Pdu) → ((k : ℕ) → frame_of from (take k rest) ≡ None) → frame_of from frame ≡ Some pdu → rest ≡ frame ++ more → ⊥
no_front from rest frame more pdu partial is begins =
    let none : frame_of from frame ≡ None = ap (frame_of from) (sym (ap (take (length frame)) begins ∙ take_at frame more (length frame) refl)) ∙ partial (length frame) in
    let both : None ≡ Some pdu = sym none ∙ is in
    cc

cut_again : (from : Role) (fs gs : List (List ℕ)) (p q : List Pdu) (r s : List ℕ) → AreFrames from fs p → AreFrames from gs q
    → ((k : ℕ) → frame_of from (take k r) ≡ None) → ((k : ℕ) → frame_of from (take k s) ≡ None) → joined fs ++ r ≡ joined gs ++ s → (p ≡ q) × (r ≡ s)
cut_again from [] [] [] [] r s a b u v h = (refl, h)
cut_again from [] [] (x ∷ p) q r s a b u v h = absurd a
cut_again from [] [] [] (y ∷ q) r s a b u v h = absurd b
cut_again from [] (g ∷ gs) (x ∷ p) q r s a b u v h = absurd a
cut_again from [] (g ∷ gs) [] [] r s a b u v h = absurd b
cut_again from [] (g ∷ gs) [] (y ∷ q) r s a b u v h =
    absurd (no_front from r g (joined gs ++ s) y u b.0 (h ∙ append_assoc g (joined gs) s))
cut_again from (f ∷ fs) [] [] q r s a b u v h = absurd a
cut_again from (f ∷ fs) [] (x ∷ p) (y ∷ q) r s a b u v h = absurd b
cut_again from (f ∷ fs) [] (x ∷ p) [] r s a b u v h =
    absurd (no_front from s f (joined fs ++ r) x v a.0 (sym h ∙ append_assoc f (joined fs) r))
cut_again from (f ∷ fs) (g ∷ gs) [] q r s a b u v h = absurd a
cut_again from (f ∷ fs) (g ∷ gs) (x ∷ p) [] r s a b u v h = absurd b
cut_again from (f ∷ fs) (g ∷ gs) (x ∷ p) (y ∷ q) r s a b u v h =
    let e : f ++ (joined fs ++ r) ≡ g ++ (joined gs ++ s) = sym (append_assoc f (joined fs) r) ∙ h ∙ append_assoc g (joined gs) s in
    let same : f ≡ g = one_front f g (joined fs ++ r) (joined gs ++ s) (same_length f g (joined fs ++ r) (joined gs ++ s) (framed from f x a.0) (framed from g y b.0) e) e in
    let rest : joined fs ++ r ≡ joined gs ++ s = append_cancel_left g (joined fs ++ r) (joined gs ++ s) (ap (λ z. z ++ (joined fs ++ r)) (sym same) ∙ e) in
    let pdus : Some x ≡ Some y = sym a.0 ∙ ap (frame_of from) same ∙ b.0 in
    let one : x ≡ y = cc in
    let more = cut_again from fs gs p q r s a.1 b.1 u v rest in
    (ap (λ z. z ∷ p) one ∙ ap (λ z. y ∷ z) more.0, more.1)

-- a stream is cut in one way
pub one_cut : (from : Role) (stream : List ℕ) (p q : List Pdu) (r s : List ℕ) → IsCut from stream p r → IsCut from stream q s → (p ≡ q) × (r ≡ s)
one_cut from stream p q r s h k = cut_again from h.frames k.frames p q r s h.whole k.whole h.partial k.partial (sym h.parts ∙ k.parts)
