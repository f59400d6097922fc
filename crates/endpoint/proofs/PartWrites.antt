-- What a part of the lossy link makes an end write for it: nothing, or one answer to a create request.
use Rattle.std.proofs.Common.{◌≡◌, ℕ, ◌≤◌, ◌<◌, Bool, true, false, cond, List, [], ◌∷◌, ◌++◌, length, drop, Option, Some, None, refl, sym, ap, subst, ◌∙◌, arith, append-nil}
use Rattle.std.specs.List.{flat_map}
use Rattle.std.proofs.Math.Seq.{drop-append_seam, drop-length}
use Rattle.mt_base.specs.declared.kinds.Kind.TheVariants.{Lossy}
use Rattle.mt_base.specs.declared.kinds.Role.{Role}
use Rattle.mt_base.specs.declared.kinds.Role.TheVariants.{Server, Client}
use Rattle.mt_base.specs.Trace.{Trace, ◌▷◌}
use Rattle.mt_windows.specs.declared.limits.TheConstants.{WINDOW}
use Rattle.carrier.specs.declared.state.LinkState.{LinkState}
use Rattle.carrier.specs.Entries as link
use Rattle.tunnel_cookies.specs.Entries.{entry_of}
use Rattle.tunnel_cookies.specs.declared.entry.Verdict.{Verdict}
use Rattle.tunnel_pdus.specs.Reading.{reading}
use Rattle.mt_endpoint.specs.Acts.{Act, Answers, Carried, CreateAnswered, CreateAsked, Discards, Drawn, Draws, Judges, Misses, Nothing, Releases}
use Rattle.mt_endpoint.specs.Tunnels.{Request, answer, asked, is_silent, issued}
use Rattle.mt_endpoint.specs.Writing.{adds, carried, create_code, into, told_first, told_of, tunneled}
use Rattle.end_calls.specs.Calls.{lacking}
use Rattle.end_calls.specs.Law.{IsFront, shorter, whole}
use Rattle.end_calls.specs.Links.{gives_all, gives_joined}
use Rattle.end_calls.specs.Streams.{Past, drawing, grows, if_whole, is_broken, missed_or, verdict_by, with_part, written}
use Rattle.end_calls.proofs.Fronts.{Lasts, grown_lasts}
use Rattle.end_calls.proofs.Onward.{front_then}
use Rattle.endpoint.specs.Attached.{is_closed, posts_bytes}
use Rattle.endpoint.specs.Pulled.{IsReadLack}
use Rattle.endpoint.proofs.FrameActs.{count, no_fewer}
use Rattle.endpoint.proofs.FrameWrites.{adds_lossy}

-- behind the acts t nothing was written for the lossy link, or one answer, where it is neither full nor silent
pub data Wrote (role : Role) (is_full : Bool) (t w : Trace Act) : Type 0 where
  nothing : carried Lossy role w ≡ carried Lossy role t → Wrote role is_full t w
  answered : (code : ℕ) → carried Lossy role w ≡ carried Lossy role t ++ CreateAnswered code ∷ [] → is_silent Lossy t ≡ false → is_full ≡ false → Wrote role is_full t w

wrote_on : (role : Role) (is_full : Bool) (t w : Trace Act) (act : Act) → into Lossy (is_silent Lossy w) (adds role w act) ≡ [] → Wrote role is_full t w → Wrote role is_full t (w ▷ act)
wrote_on role is_full t w act none (nothing same) = nothing (ap (λ ds. carried Lossy role w ++ ds) none ∙ append-nil (carried Lossy role w) ∙ same)
wrote_on role is_full t w act none (answered code is loud free) = answered code (ap (λ ds. carried Lossy role w ++ ds) none ∙ append-nil (carried Lossy role w) ∙ is) loud free

-- ---- the part itself

wrote_none : (role : Role) (is_full : Bool) (t : Trace Act) (act : Act) → into Lossy (is_silent Lossy t) (adds role t act) ≡ [] → Wrote role is_full t (t ▷ act)
wrote_none role is_full t act none = wrote_on role is_full t t act none (nothing refl)

wrote_judged : (t : Trace Act) (id : ℕ) (cookie : List ℕ) (verdict : Verdict) (is_full : Bool) → Wrote Server is_full t (t ▷ Judges Lossy 0 id cookie verdict is_full)
wrote_judged t id cookie verdict true = wrote_none Server true t (Judges Lossy 0 id cookie verdict true) refl
wrote_judged t id cookie verdict false = by_silent (is_silent Lossy t) refl where
  by_silent : (b : Bool) → is_silent Lossy t ≡ b → Wrote Server false t (t ▷ Judges Lossy 0 id cookie verdict false)
  by_silent true is = wrote_none Server false t (Judges Lossy 0 id cookie verdict false) (ap (λ b. into Lossy b (adds Server t (Judges Lossy 0 id cookie verdict false))) is)
  by_silent false loud =
      answered (create_code verdict) (ap (λ b. carried Lossy Server t ++ into Lossy b (adds Server t (Judges Lossy 0 id cookie verdict false))) loud) loud refl

told_none : (role : Role) (t : Trace Act) (before : Option ℕ) (hr : ℕ) (silent : Bool) → into Lossy silent (told_first role Lossy t before hr) ≡ []
told_none Server t before hr silent = refl
told_none Client t (Some before) hr silent = refl
told_none Client t None hr silent = by_request (asked Lossy t) refl where
  by_request : (o : Option Request) → asked Lossy t ≡ o → into Lossy silent (told_first Client Lossy t None hr) ≡ []
  by_request None is = ap (λ o. into Lossy silent (told_of o hr)) is
  by_request (Some request) is = ap (λ o. into Lossy silent (told_of o hr)) is

wrote_drawn : (role : Role) (t : Trace Act) (is_full : Bool) (drawn : Drawn) → Wrote role is_full t (t ▷ drawing role Lossy 0 t is_full drawn)
wrote_drawn Server t is_full (CreateAsked id cookie) = wrote_judged t id cookie (verdict_by Lossy cookie (entry_of id (issued t))) is_full
wrote_drawn Client t is_full (CreateAsked id cookie) = wrote_none Client is_full t (Draws Lossy 0 (CreateAsked id cookie)) refl
wrote_drawn role t is_full (CreateAnswered hr) = wrote_none role is_full t (Draws Lossy 0 (CreateAnswered hr)) (told_none role t (answer Lossy t) hr (is_silent Lossy t))
wrote_drawn role t is_full Nothing = wrote_none role is_full t (Draws Lossy 0 Nothing) refl
wrote_drawn role t is_full (Carried bytes pdu) = wrote_none role is_full t (Draws Lossy 0 (Carried bytes pdu)) refl

wrote_part : (role : Role) (t : Trace Act) (is_full : Bool) (o : Option Drawn) → Wrote role is_full t (t ▷ missed_or role t is_full o)
wrote_part role t is_full None = wrote_none role is_full t Misses refl
wrote_part role t is_full (Some drawn) = wrote_drawn role t is_full drawn

-- ---- at each place from t on

abbrev Writes : Role → Bool → Trace Act → Trace Act → Type 0
Writes role is_full t v = IsFront t v × ((w : Trace Act) → IsFront t w → IsFront w v → Wrote role is_full t w)

writes_here : (role : Role) (is_full : Bool) (t : Trace Act) → Writes role is_full t t
writes_here role is_full t = (whole t, λ w f g. by_front w t f g refl) where
  by_front : (w v : Trace Act) → IsFront t w → IsFront w v → v ≡ t → Wrote role is_full t w
  by_front _ _ f (whole v) e = subst (Wrote role is_full t) (sym e) (nothing refl)
  by_front _ _ f (shorter w v act g) e = absurd (omega (arith, no_fewer t w f, no_fewer w v g, ap count e))

writes_on : (role : Role) (is_full : Bool) (t v : Trace Act) (act : Act) → Wrote role is_full t (v ▷ act) → Writes role is_full t v → Writes role is_full t (v ▷ act)
writes_on role is_full t v act last s = (shorter t v act s.0, λ w f g. by_front w (v ▷ act) f g refl) where
  by_front : (w x : Trace Act) → IsFront t w → IsFront w x → x ≡ v ▷ act → Wrote role is_full t w
  by_front _ _ f (whole x) e = subst (Wrote role is_full t) (sym e) last
  by_front _ _ f (shorter w u more g) e = let same : u ≡ v = cc in s.1 w f (subst (IsFront w) same g)

writes_due : (role : Role) (is_full : Bool) (t v : Trace Act) (act : Act) → into Lossy (is_silent Lossy v) (adds role v act) ≡ [] → Writes role is_full t v → Writes role is_full t (v ▷ act)
writes_due role is_full t v act none s = writes_on role is_full t v act (wrote_on role is_full t v act none (s.1 v s.0 (whole v))) s

writes_last : (role : Role) (is_full : Bool) (t : Trace Act) → Lasts (λ v. Writes role is_full t v)
writes_last role is_full t = record {
  answers = λ v named s. writes_due role is_full t v (Answers named) (adds_lossy role v (Answers named) (is_silent Lossy v) tt) s;
  releases = λ v kind at bytes pdu s. writes_due role is_full t v (Releases kind at bytes pdu) (adds_lossy role v (Releases kind at bytes pdu) (is_silent Lossy v) tt) s;
  discards = λ v at bytes pdu s. writes_due role is_full t v (Discards at bytes pdu) (adds_lossy role v (Discards at bytes pdu) (is_silent Lossy v) tt) s;
}

writes_part : (role : Role) (p : Past) (bytes : List ℕ) (is_full : Bool) → Writes role is_full p.acts (with_part role p bytes is_full).acts
unfolding with_part
writes_part role p bytes is_full = by_broken (is_broken p) where
  by_broken : (b : Bool) → Writes role is_full p.acts (cond b p (grows role (missed_or role p.acts is_full (if_whole role (length bytes) (reading bytes))) p)).acts
  by_broken true = writes_here role is_full p.acts
  by_broken false =
      let act = missed_or role p.acts is_full (if_whole role (length bytes) (reading bytes)) in
      grown_lasts (λ v. Writes role is_full p.acts v) (writes_last role is_full p.acts) role p.acts act
      (writes_on role is_full p.acts p.acts act (wrote_part role p.acts is_full (if_whole role (length bytes) (reading bytes))) (writes_here role is_full p.acts))

-- where memory was wanting on the way, too
pub part_wrote : (role : Role) (p : Past) (bytes : List ℕ) (is_full : Bool) (lack : Option (Trace Act)) → IsReadLack p (with_part role p bytes is_full) lack → Wrote role is_full p.acts (lacking lack (with_part role p bytes is_full)).acts
part_wrote role p bytes is_full None h =
    let s = writes_part role p bytes is_full in s.1 (with_part role p bytes is_full).acts s.0 (whole (with_part role p bytes is_full).acts)
part_wrote role p bytes is_full (Some reached) h =
    let s = writes_part role p bytes is_full in
    s.1 reached h.begun (front_then reached (reached ▷ h.next) (with_part role p bytes is_full).acts (shorter reached reached h.next (whole reached)) h.due)

-- ---- the bytes, and their posting

written_none : (role : Role) (p q : Past) → carried Lossy role q.acts ≡ carried Lossy role p.acts → written Lossy role p q ≡ []
written_none role p q same = ap (drop (length (carried Lossy role p.acts))) same ∙ drop-length (carried Lossy role p.acts)

written_one : (role : Role) (p q : Past) (code : ℕ) → carried Lossy role q.acts ≡ carried Lossy role p.acts ++ CreateAnswered code ∷ [] → written Lossy role p q ≡ CreateAnswered code ∷ []
written_one role p q code is = ap (drop (length (carried Lossy role p.acts))) is ∙ drop-append_seam (carried Lossy role p.acts) (CreateAnswered code ∷ [])

pub few_bytes : (role : Role) (is_full : Bool) (p q : Past) → Wrote role is_full p.acts q.acts → length (flat_map tunneled (written Lossy role p q)) ≤ 1000
few_bytes role is_full p q (nothing same) = omega (arith, ap (λ ds. length (flat_map tunneled ds)) (written_none role p q same))
few_bytes role is_full p q (answered code is loud free) = omega (arith, ap (λ ds. length (flat_map tunneled ds)) (written_one role p q code is))

-- a link that takes them where it is open and has room, and stays as it is where there are none, was called so
pub part_posted : {L : Type 0} (stands : L → Trace link.Entry → Type 0) (condition : L → LinkState) (load : L → ℕ) (role : Role) (is_full : Bool) (p q : Past) (m : Trace link.Entry) (old new : L) (bytes : List ℕ)
    → Wrote role is_full p.acts q.acts → bytes ≡ flat_map tunneled (written Lossy role p q) → stands old m → (is_silent Lossy p.acts ≡ false → is_closed (condition old) ≡ false) → (is_full ≡ false → load old < WINDOW)
    → ((t : Trace link.Entry) → stands old t → is_closed (condition old) ≡ false → load old < WINDOW → stands new (posts_bytes bytes t)) → (bytes ≡ [] → new ≡ old)
    → stands new (gives_all Lossy role p q m)
part_posted stands condition load role is_full p q m old new bytes (nothing same) are called free room trace none =
    let nothing_new = written_none role p q same in
    subst (λ ds. stands new (gives_joined Lossy ds m)) (sym nothing_new) (subst (λ x. stands x m) (sym (none (are ∙ ap (flat_map tunneled) nothing_new))) called)
part_posted stands condition load role is_full p q m old new bytes (answered code is loud roomy) are called free room trace none =
    let one = written_one role p q code is in
    subst (λ ds. stands new (gives_joined Lossy ds m)) (sym one)
    (subst (λ b. stands new (posts_bytes b m)) (are ∙ ap (flat_map tunneled) one ∙ append-nil (tunneled (CreateAnswered code))) (trace m called (free loud) (room roomy)))
