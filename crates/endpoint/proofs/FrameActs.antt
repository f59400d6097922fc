-- The acts that frames of the main stream make, with what they make due: what they leave as it was.
use Rattle.std.proofs.Common.{◌≡◌, ℕ, ◌+◌, ◌≤◌, Bool, true, false, cond, List, [], ◌∷◌, ◌++◌, length, Option, Some, None, Result, Ok, Err, refl, ap, subst, ◌∙◌, arith, append-nil}
use Rattle.mt_base.specs.declared.kinds.Kind.{Kind}
use Rattle.mt_base.specs.declared.kinds.Kind.TheVariants.{Lossy}
use Rattle.mt_base.specs.declared.kinds.Role.{Role}
use Rattle.mt_base.specs.Ends.{same_kind}
use Rattle.mt_base.specs.Trace.{Trace, Start, ◌▷◌}
use Rattle.dvc_pdus.specs.declared.pdu.DvcRefusal.{DvcRefusal}
use Rattle.dvc_pdus.specs.Value.{Pdu}
use Rattle.tunnel_pdus.specs.declared.part.Part.{Part}
use Rattle.tunnel_pdus.specs.declared.part.Part.TheVariants.{Whole, More}
use Rattle.tunnel_pdus.specs.declared.part.TunnelRefusal.{TunnelRefusal}
use Rattle.tunnel_pdus.specs.Reading.{frame_reading}
use Rattle.tunnel_pdus.specs.Value.{Frame}
use Rattle.mt_endpoint.specs.Acts.{Act, Answers, Discards, Heard, Hears, Releases}
use Rattle.mt_endpoint.specs.Channels.{came}
use Rattle.mt_endpoint.specs.Faults.{Why, main_fault}
use Rattle.mt_endpoint.specs.Holding.{Held, channel_of, held, held_after, is_of, unless_ended, weight, without, without_closed, without_first}
use Rattle.mt_endpoint.specs.Said.{Said, Capable, Creates, Created, Brings, Ends, Moves, Moved, said}
use Rattle.mt_endpoint.specs.Tunnels.{attaches, is_attached, is_silent, silence_in}
use Rattle.mt_endpoint.specs.World.{drawn_in, draws}
use Rattle.end_calls.specs.Calls.{after_bytes}
use Rattle.end_calls.specs.Law.{IsFront, shorter, whole}
use Rattle.end_calls.specs.Streams.{Past, heard_by, is_broken, main_reads, on_main, reads, reads_heard, with_main}
use Rattle.end_calls.proofs.Fronts.{Lasts, grown_lasts}
use Rattle.end_calls.proofs.Onward.{front_then}
use Rattle.endpoint.proofs.Links.{attached_same, silent_same}

-- an act of a frame, or one that it makes due
abbrev pub IsOfFrame : Act → Type 0
IsOfFrame (Hears heard) = Unit {0}
IsOfFrame (Answers named) = Unit {0}
IsOfFrame (Releases kind at bytes pdu) = Unit {0}
IsOfFrame (Discards at bytes pdu) = Unit {0}
IsOfFrame act = ⊥

-- from the acts t to the acts u there are only such ones
pub data OfFrames : Trace Act → Trace Act → Type 0 where
  none_more : (t : Trace Act) → OfFrames t t
  one_more : (t u : Trace Act) (act : Act) → IsOfFrame act → OfFrames t u → OfFrames t (u ▷ act)

pub frames_then : (t u v : Trace Act) → OfFrames t u → OfFrames u v → OfFrames t v
frames_then t _ _ f (none_more u) = f
frames_then t _ _ f (one_more u v act h g) = one_more t v act h (frames_then t u v f g)

pub frames_front : (t u : Trace Act) → OfFrames t u → IsFront t u
frames_front _ _ (none_more t) = whole t
frames_front _ _ (one_more t u act h f) = shorter t u act (frames_front t u f)

-- ---- up to a place between

abbrev pub count : Trace Act → ℕ
count Start = 0
count (t ▷ act) = count t + 1

pub no_fewer : (t u : Trace Act) → IsFront t u → count t ≤ count u
no_fewer _ _ (whole t) = omega arith
no_fewer _ _ (shorter t u act f) = omega (arith, no_fewer t u f)

one_back : (t u v : Trace Act) (act : Act) → v ≡ u ▷ act → OfFrames t v → IsFront t u → OfFrames t u
one_back _ u _ act e (none_more t) f = absurd (omega (arith, ap count e, no_fewer t u f))
one_back _ u _ act e (one_more t v last h o) f = let same : v ≡ u = cc in subst (OfFrames t) same o

pub frames_between : (t u v : Trace Act) → IsFront t u → IsFront u v → OfFrames t v → OfFrames t u
frames_between t _ _ f (whole u) o = o
frames_between t _ _ f (shorter u v act g) o = frames_between t u v f g (one_back t v (v ▷ act) act refl o (front_then t u v f g))

-- ---- what bytes of the main stream make

frames_last : (t : Trace Act) → Lasts (λ v. OfFrames t v)
frames_last t = record {
  answers = λ v named f. one_more t v (Answers named) tt f;
  releases = λ v kind at bytes pdu f. one_more t v (Releases kind at bytes pdu) tt f;
  discards = λ v at bytes pdu f. one_more t v (Discards at bytes pdu) tt f;
}

frames_heard : (role : Role) (at : ℕ) (r : Result Heard DvcRefusal) (p : Past) → OfFrames p.acts (reads_heard role at r p).acts
frames_heard role at (Err refusal) p = none_more p.acts
frames_heard role at (Ok heard) p = by_fault (main_fault role p.acts heard) where
  by_fault : (w : Option Why) → OfFrames p.acts (reads role (on_main at) w (Hears heard) p).acts
  by_fault (Some w) = none_more p.acts
  by_fault None = grown_lasts (λ v. OfFrames p.acts v) (frames_last p.acts) role p.acts (Hears heard) (one_more p.acts p.acts (Hears heard) tt (none_more p.acts))

frames_main : (role : Role) (bytes : List ℕ) (r : Result (Part Frame) TunnelRefusal) (p : Past) → OfFrames p.acts (main_reads role bytes r p).acts
frames_main role bytes (Ok (More need)) p = none_more p.acts
frames_main role bytes (Ok (Whole frame used)) p = frames_heard role p.main.at (heard_by role frame) (record p { main = record { at = p.main.at + length bytes; bytes = [] } })
frames_main role bytes (Err refusal) p = none_more p.acts

frames_byte : (role : Role) (p : Past) (byte : ℕ) → OfFrames p.acts (with_main role p byte).acts
unfolding with_main
frames_byte role p byte = by_broken (is_broken p) where
  by_broken : (b : Bool) → OfFrames p.acts (cond b p (main_reads role (p.main.bytes ++ byte ∷ []) (frame_reading (p.main.bytes ++ byte ∷ [])) p)).acts
  by_broken true = none_more p.acts
  by_broken false = frames_main role (p.main.bytes ++ byte ∷ []) (frame_reading (p.main.bytes ++ byte ∷ [])) p

pub frames_bytes : (role : Role) (bytes : List ℕ) (p : Past) → OfFrames p.acts (after_bytes role p bytes).acts
frames_bytes role [] p = none_more p.acts
frames_bytes role (byte ∷ bytes) p =
    frames_then p.acts (with_main role p byte).acts (after_bytes role (with_main role p byte) bytes).acts (frames_byte role p byte) (frames_bytes role bytes (with_main role p byte))

-- ---- they attach no link, find none closed, and draw nothing

record IsAside (act : Act) : Type 0 where
  no_link : (kind : Kind) → attaches kind act ≡ false
  no_silence : (kind : Kind) → silence_in kind act ≡ None
  none_drawn : (kind : Kind) → drawn_in kind act ≡ []

aside : (act : Act) → IsOfFrame act → IsAside act
aside (Hears heard) h = record { no_link = λ kind. refl; no_silence = λ kind. refl; none_drawn = λ kind. refl }
aside (Answers named) h = record { no_link = λ kind. refl; no_silence = λ kind. refl; none_drawn = λ kind. refl }
aside (Releases made at bytes pdu) h = record { no_link = λ kind. refl; no_silence = λ kind. refl; none_drawn = λ kind. refl }
aside (Discards at bytes pdu) h = record { no_link = λ kind. refl; no_silence = λ kind. refl; none_drawn = λ kind. refl }
aside act h = absurd h

pub attached_still : (kind : Kind) (t u : Trace Act) → OfFrames t u → is_attached kind u ≡ is_attached kind t
attached_still kind _ _ (none_more t) = refl
attached_still kind _ _ (one_more t u act h f) = attached_same kind u act ((aside act h).no_link kind) ∙ attached_still kind t u f

pub silent_still : (kind : Kind) (t u : Trace Act) → OfFrames t u → is_silent kind u ≡ is_silent kind t
silent_still kind _ _ (none_more t) = refl
silent_still kind _ _ (one_more t u act h f) = silent_same kind u act ((aside act h).no_silence kind) ∙ silent_still kind t u f

pub draws_still : (kind : Kind) (t u : Trace Act) → OfFrames t u → draws kind u ≡ draws kind t
draws_still kind _ _ (none_more t) = refl
draws_still kind _ _ (one_more t u act h f) = ap (λ xs. draws kind u ++ xs) ((aside act h).none_drawn kind) ∙ append-nil (draws kind u) ∙ draws_still kind t u f

-- ---- and of what is held they only release

light_without : (id : ℕ) (queue : List Held) → weight (without id queue) ≤ weight queue
light_without id [] = omega arith
light_without id (h ∷ queue) = by_test (is_of id (channel_of h.pdu)) (light_without id queue) where
  by_test : (b : Bool) → weight (without id queue) ≤ weight queue → weight (cond b (without id queue) (h ∷ without id queue)) ≤ weight (h ∷ queue)
  by_test true less = omega (arith, less)
  by_test false less = omega (arith, less)

light_first : (o : Option ℕ) (queue : List Held) → weight (without_first o queue) ≤ weight queue
light_first None queue = omega arith
light_first (Some id) [] = omega arith
light_first (Some id) (h ∷ queue) = by_test (is_of id (channel_of h.pdu)) (light_first (Some id) queue) where
  by_test : (b : Bool) → weight (without_first (Some id) queue) ≤ weight queue → weight (cond b queue (h ∷ without_first (Some id) queue)) ≤ weight (h ∷ queue)
  by_test true less = omega arith
  by_test false less = omega (arith, less)

light_ended : (what : Said) (queue : List Held) → weight (unless_ended what queue) ≤ weight queue
light_ended (Capable version) queue = omega arith
light_ended (Creates id name) queue = omega arith
light_ended (Created id status) queue = omega arith
light_ended (Brings id) queue = omega arith
light_ended (Ends id) queue = light_without id queue
light_ended (Moves lists) queue = omega arith
light_ended (Moved kinds) queue = omega arith

light_closed : (pdus : List Pdu) (queue : List Held) → weight (without_closed pdus queue) ≤ weight queue
light_closed [] queue = omega arith
light_closed (pdu ∷ pdus) queue = omega (arith, light_closed pdus (unless_ended (said pdu) queue), light_ended (said pdu) queue)

light_of : (b : Bool) (o : Option ℕ) (queue : List Held) → weight (cond b (without_first o queue) queue) ≤ weight queue
light_of true o queue = light_first o queue
light_of false o queue = omega arith

no_heavier : (role : Role) (kind : Kind) (t : Trace Act) (act : Act) (queue : List Held) → IsOfFrame act → weight (held_after role kind t act queue) ≤ weight queue
no_heavier role kind t (Hears heard) queue h = light_closed (came (Hears heard)) queue
no_heavier role kind t (Answers named) queue h = light_closed (came (Answers named)) queue
no_heavier role kind t (Releases made at bytes pdu) queue h =
    omega (arith, light_closed (pdu ∷ []) (cond (same_kind kind made) (without_first (channel_of pdu) queue) queue), light_of (same_kind kind made) (channel_of pdu) queue)
no_heavier role kind t (Discards at bytes pdu) queue h = light_of (same_kind kind Lossy) (channel_of pdu) queue
no_heavier role kind t act queue h = absurd h

pub held_still : (role : Role) (kind : Kind) (t u : Trace Act) → OfFrames t u → weight (held role kind u) ≤ weight (held role kind t)
held_still role kind _ _ (none_more t) = omega arith
held_still role kind _ _ (one_more t u act h f) = omega (arith, no_heavier role kind u act (held role kind u) h, held_still role kind t u f)
