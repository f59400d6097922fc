-- The acts of what is pulled from a link, with what they make due: what they leave as it was.
use Rattle.std.proofs.Common.{◌≡◌, ℕ, ◌+◌, Bool, true, false, cond, List, [], ◌∷◌, ◌++◌, length, Option, Some, None, Result, Ok, Err, refl, sym, ap, subst, ◌∙◌, arith, append-nil}
use Rattle.std.specs.List.{fold}
use Rattle.mt_base.specs.declared.kinds.Kind.{Kind}
use Rattle.mt_base.specs.declared.kinds.Kind.TheVariants.{Reliable, Lossy}
use Rattle.mt_base.specs.declared.kinds.Role.{Role}
use Rattle.mt_base.specs.declared.kinds.Role.TheVariants.{Server, Client}
use Rattle.mt_base.specs.Ends.{same_kind}
use Rattle.mt_base.specs.Trace.{Trace, ◌▷◌}
use Rattle.dvc_pdus.specs.declared.pdu.DvcRefusal.{DvcRefusal}
use Rattle.tunnel_pdus.specs.declared.part.Part.{Part}
use Rattle.tunnel_pdus.specs.declared.part.Part.TheVariants.{Whole, More}
use Rattle.tunnel_pdus.specs.declared.part.TunnelRefusal.{TunnelRefusal}
use Rattle.tunnel_pdus.specs.Reading.{reading}
use Rattle.tunnel_pdus.specs.Value.{Pdu}
use Rattle.mt_endpoint.specs.Acts.{Act, Answers, Carried, CreateAnswered, CreateAsked, Discards, Drawn, Nothing, Releases}
use Rattle.mt_endpoint.specs.Faults.{Why, tunnel_fault}
use Rattle.mt_endpoint.specs.Tunnels.{attaches, is_attached, is_silent, silence_in}
use Rattle.mt_endpoint.specs.World.{drawn_in, draws}
use Rattle.mt_endpoint.specs.Writing.{Written, OnMain, Into, adds, carried, into, unless}
use Rattle.end_calls.specs.Law.{IsFront, IsLack, shorter, whole}
use Rattle.end_calls.specs.Calls.{lacking}
use Rattle.end_calls.specs.Streams.{Past, drawing, drawn_by, grows, if_whole, in_tunnel, is_broken, missed_or, reads, reads_drawn, tunnel_reads, with_part, with_tunnel}
use Rattle.end_calls.proofs.Fronts.{Lasts, grown_lasts}
use Rattle.end_calls.proofs.Onward.{front_then}
use Rattle.endpoint.specs.Pulled.{IsReadLack}
use Rattle.endpoint.proofs.FrameActs.{count, no_fewer}
use Rattle.endpoint.proofs.Links.{attached_same, silent_same}

-- behind acts of the link of this kind no link was attached or found closed, nothing was drawn from the
-- other one, and nothing was written for one that is silent
pub record IsStill (kind : Kind) (role : Role) (t w : Trace Act) : Type 0 where
  pub attached : (k : Kind) → is_attached k w ≡ is_attached k t
  pub silent : (k : Kind) → is_silent k w ≡ is_silent k t
  pub undrawn : (k : Kind) → same_kind k kind ≡ false → draws k w ≡ draws k t
  pub unwritten : (k : Kind) → is_silent k t ≡ true → carried k role w ≡ carried k role t

still_here : (kind : Kind) (role : Role) (t : Trace Act) → IsStill kind role t t
still_here kind role t = record { attached = λ k. refl; silent = λ k. refl; undrawn = λ k other. refl; unwritten = λ k is. refl }

-- ---- one act

record IsAside (kind : Kind) (act : Act) : Type 0 where
  no_link : (k : Kind) → attaches k act ≡ false
  no_silence : (k : Kind) → silence_in k act ≡ None
  none_drawn : (k : Kind) → same_kind k kind ≡ false → drawn_in k act ≡ []

into_silent : (kind : Kind) (written : List Written) → into kind true written ≡ []
into_silent kind [] = refl
into_silent kind (OnMain heard ∷ written) = into_silent kind written
into_silent kind (Into made drawn ∷ written) = by_kind (same_kind kind made) (into_silent kind written) where
  by_kind : (b : Bool) → into kind true written ≡ [] → cond b (unless true (drawn ∷ []) ++ into kind true written) (into kind true written) ≡ []
  by_kind true none = none
  by_kind false none = none

still_on : (kind : Kind) (role : Role) (t w : Trace Act) (act : Act) → IsStill kind role t w → IsAside kind act → IsStill kind role t (w ▷ act)
still_on kind role t w act s a = record {
  attached = λ k. attached_same k w act (a.no_link k) ∙ s.attached k;
  silent = λ k. silent_same k w act (a.no_silence k) ∙ s.silent k;
  undrawn = λ k other. ap (λ xs. draws k w ++ xs) (a.none_drawn k other) ∙ append-nil (draws k w) ∙ s.undrawn k other;
  unwritten = λ k is.
      ap (λ b. carried k role w ++ into k b (adds role w act)) (s.silent k ∙ is)
      ∙ ap (λ xs. carried k role w ++ xs) (into_silent k (adds role w act))
      ∙ append-nil (carried k role w)
      ∙ s.unwritten k is;
}

-- ---- at each place from t on

abbrev pub Stays : Kind → Role → Trace Act → Trace Act → Type 0
Stays kind role t v = IsFront t v × ((w : Trace Act) → IsFront t w → IsFront w v → IsStill kind role t w)

stays_here : (kind : Kind) (role : Role) (t : Trace Act) → Stays kind role t t
stays_here kind role t = (whole t, λ w f g. by_front w t f g refl) where
  by_front : (w v : Trace Act) → IsFront t w → IsFront w v → v ≡ t → IsStill kind role t w
  by_front _ _ f (whole v) e = subst (IsStill kind role t) (sym e) (still_here kind role t)
  by_front _ _ f (shorter w v act g) e = absurd (omega (arith, no_fewer t w f, no_fewer w v g, ap count e))

stays_on : (kind : Kind) (role : Role) (t v : Trace Act) (act : Act) → IsAside kind act → Stays kind role t v → Stays kind role t (v ▷ act)
stays_on kind role t v act a s = (shorter t v act s.0, λ w f g. by_front w (v ▷ act) f g refl) where
  by_front : (w x : Trace Act) → IsFront t w → IsFront w x → x ≡ v ▷ act → IsStill kind role t w
  by_front _ _ f (whole x) e = subst (IsStill kind role t) (sym e) (still_on kind role t v act (s.1 v s.0 (whole v)) a)
  by_front _ _ f (shorter w u last g) e = let same : u ≡ v = cc in s.1 w f (subst (IsFront w) same g)

-- ---- what a link brings

aside_drawn : (role : Role) (kind : Kind) (at : ℕ) (t : Trace Act) (is_full : Bool) (drawn : Drawn) → IsAside kind (drawing role kind at t is_full drawn)
aside_drawn Server kind at t is_full (CreateAsked id cookie) =
    record { no_link = λ k. refl; no_silence = λ k. refl; none_drawn = λ k other. ap (λ b. cond b (CreateAsked id cookie ∷ []) []) other }
aside_drawn Client kind at t is_full (CreateAsked id cookie) =
    record { no_link = λ k. refl; no_silence = λ k. refl; none_drawn = λ k other. ap (λ b. cond b (CreateAsked id cookie ∷ []) []) other }
aside_drawn role kind at t is_full (CreateAnswered hr) =
    record { no_link = λ k. refl; no_silence = λ k. refl; none_drawn = λ k other. ap (λ b. cond b (CreateAnswered hr ∷ []) []) other }
aside_drawn role kind at t is_full Nothing =
    record { no_link = λ k. refl; no_silence = λ k. refl; none_drawn = λ k other. ap (λ b. cond b (Nothing ∷ []) []) other }
aside_drawn role kind at t is_full (Carried bytes pdu) =
    record { no_link = λ k. refl; no_silence = λ k. refl; none_drawn = λ k other. ap (λ b. cond b (Carried bytes pdu ∷ []) []) other }

stays_last : (kind : Kind) (role : Role) (t : Trace Act) → Lasts (λ v. Stays kind role t v)
stays_last kind role t = record {
  answers = λ v named s. stays_on kind role t v (Answers named) (record { no_link = λ k. refl; no_silence = λ k. refl; none_drawn = λ k other. refl }) s;
  releases = λ v made at bytes pdu s. stays_on kind role t v (Releases made at bytes pdu) (record { no_link = λ k. refl; no_silence = λ k. refl; none_drawn = λ k other. refl }) s;
  discards = λ v at bytes pdu s. stays_on kind role t v (Discards at bytes pdu) (record { no_link = λ k. refl; no_silence = λ k. refl; none_drawn = λ k other. refl }) s;
}

stays_grown : (kind : Kind) (role : Role) (t : Trace Act) (act : Act) (p : Past) → IsAside kind act → Stays kind role t p.acts → Stays kind role t (grows role act p).acts
stays_grown kind role t act p a s = grown_lasts (λ v. Stays kind role t v) (stays_last kind role t) role p.acts act (stays_on kind role t p.acts act a s)

stays_read : (role : Role) (t : Trace Act) (at : ℕ) (r : Result Drawn DvcRefusal) (p : Past) → Stays Reliable role t p.acts → Stays Reliable role t (reads_drawn role at r p).acts
stays_read role t at (Err refusal) p s = s
stays_read role t at (Ok drawn) p s = by_fault (tunnel_fault role p.acts drawn) where
  by_fault : (w : Option Why) → Stays Reliable role t (reads role (in_tunnel at) w (drawing role Reliable at p.acts false drawn) p).acts
  by_fault (Some w) = s
  by_fault None = stays_grown Reliable role t (drawing role Reliable at p.acts false drawn) p (aside_drawn role Reliable at p.acts false drawn) s

stays_tunnel : (role : Role) (t : Trace Act) (bytes : List ℕ) (r : Result (Part Pdu) TunnelRefusal) (p : Past) → Stays Reliable role t p.acts → Stays Reliable role t (tunnel_reads role bytes r p).acts
stays_tunnel role t bytes (Ok (More need)) p s = s
stays_tunnel role t bytes (Ok (Whole pdu used)) p s = stays_read role t p.tunnel.at (drawn_by role pdu) (record p { tunnel = record { at = p.tunnel.at + length bytes; bytes = [] } }) s
stays_tunnel role t bytes (Err refusal) p s = s

stays_byte : (role : Role) (t : Trace Act) (p : Past) (byte : ℕ) → Stays Reliable role t p.acts → Stays Reliable role t (with_tunnel role p byte).acts
unfolding with_tunnel
stays_byte role t p byte s = by_broken (is_broken p) where
  by_broken : (b : Bool) → Stays Reliable role t (cond b p (tunnel_reads role (p.tunnel.bytes ++ byte ∷ []) (reading (p.tunnel.bytes ++ byte ∷ [])) p)).acts
  by_broken true = s
  by_broken false = stays_tunnel role t (p.tunnel.bytes ++ byte ∷ []) (reading (p.tunnel.bytes ++ byte ∷ [])) p s

stays_run : (role : Role) (t : Trace Act) (bytes : List ℕ) (p : Past) → Stays Reliable role t p.acts → Stays Reliable role t (fold (with_tunnel role) p bytes).acts
stays_run role t [] p s = s
stays_run role t (byte ∷ bytes) p s = stays_run role t bytes (with_tunnel role p byte) (stays_byte role t p byte s)

-- where memory was wanting on the way, too
stays_lack : (kind : Kind) (role : Role) (t : Trace Act) (p q : Past) (reached : Trace Act) → IsFront t p.acts → IsLack p q reached → Stays kind role t q.acts → IsStill kind role t reached
stays_lack kind role t p q reached f lack s =
    s.1 reached (front_then t p.acts reached f lack.begun) (front_then reached (reached ▷ lack.next) q.acts (shorter reached reached lack.next (whole reached)) lack.due)

-- ---- bytes that are pulled, and a part that is handed out

pub behind_lack : (p q : Past) (lack : Option (Trace Act)) → IsReadLack p q lack → IsFront p.acts q.acts → IsFront p.acts (lacking lack q).acts
behind_lack p q None h f = f
behind_lack p q (Some reached) h f = h.begun

still_lack : (kind : Kind) (role : Role) (p q : Past) (lack : Option (Trace Act)) → IsReadLack p q lack → Stays kind role p.acts q.acts → IsStill kind role p.acts (lacking lack q).acts
still_lack kind role p q None h s = s.1 q.acts s.0 (whole q.acts)
still_lack kind role p q (Some reached) h s = stays_lack kind role p.acts p q reached (whole p.acts) h s

pub still_pulled : (role : Role) (p : Past) (bytes : List ℕ) (lack : Option (Trace Act)) → IsReadLack p (fold (with_tunnel role) p bytes) lack → IsStill Reliable role p.acts (lacking lack (fold (with_tunnel role) p bytes)).acts
still_pulled role p bytes lack h = still_lack Reliable role p (fold (with_tunnel role) p bytes) lack h (stays_run role p.acts bytes p (stays_here Reliable role p.acts))

stays_part : (role : Role) (p : Past) (bytes : List ℕ) (is_full : Bool) → Stays Lossy role p.acts (with_part role p bytes is_full).acts
unfolding with_part
stays_part role p bytes is_full = by_broken (is_broken p) where
  aside : (o : Option Drawn) → IsAside Lossy (missed_or role p.acts is_full o)
  aside None = record { no_link = λ k. refl; no_silence = λ k. refl; none_drawn = λ k other. refl }
  aside (Some drawn) = aside_drawn role Lossy 0 p.acts is_full drawn

  by_broken : (b : Bool) → Stays Lossy role p.acts (cond b p (grows role (missed_or role p.acts is_full (if_whole role (length bytes) (reading bytes))) p)).acts
  by_broken true = stays_here Lossy role p.acts
  by_broken false = stays_grown Lossy role p.acts (missed_or role p.acts is_full (if_whole role (length bytes) (reading bytes))) p (aside (if_whole role (length bytes) (reading bytes))) (stays_here Lossy role p.acts)

pub still_part : (role : Role) (p : Past) (bytes : List ℕ) (is_full : Bool) (lack : Option (Trace Act)) → IsReadLack p (with_part role p bytes is_full) lack → IsStill Lossy role p.acts (lacking lack (with_part role p bytes is_full)).acts
still_part role p bytes is_full lack h = still_lack Lossy role p (with_part role p bytes is_full) lack h (stays_part role p bytes is_full)
