-- Where no cause is against a step, each cause that is looked at is none.
use Rattle.std.proofs.Common.{◌≡◌, ℕ, ◌+◌, ◌≤◌, Bool, true, false, List, Option, Some, None, refl}
use Rattle.std.proofs.lemmas.Bool.{ltb-false}
use Rattle.std.specs.Option.{option_or}
use Rattle.mt_base.specs.declared.kinds.Kind.{Kind}
use Rattle.mt_base.specs.Trace.{Trace}
use Rattle.dvc_pdus.specs.Value.{CreateRequest, sync_request}
use Rattle.mt_endpoint.specs.Acts.{Act, Spoken, TunnelAsked}
use Rattle.end_calls.specs.declared.fault.Fault.{Fault}
use Rattle.end_calls.specs.declared.refusal.OpenRefusal.TheVariants as opening
use Rattle.end_calls.specs.declared.refusal.AskRefusal.TheVariants as ask
use Rattle.end_calls.specs.declared.refusal.MoveRefusal.TheVariants as move
use Rattle.end_calls.specs.Refusing.{frame_size, main_limit, next_id, passes, when, why_not_asked, why_not_moved, why_not_opened}

pub last_none : {A : Type 0} (first last : Option A) → option_or first last ≡ None → last ≡ None
last_none None last h = h
last_none (Some x) last h = absurd (let no : Some x ≡ None = h in cc)

pub when_none : {A : Type 0} (b : Bool) (cause : A) → when b cause ≡ None → b ≡ false
when_none true cause h = absurd (let no : Some cause ≡ None = h in cc)
when_none false cause h = refl

-- so many bytes more fit the limit
pub room_in : {A : Type 0} (first : Option A) (queued size limit : ℕ) (cause : A) → option_or first (when (passes queued size limit) cause) ≡ None → queued + size ≤ limit
room_in first queued size limit cause h = ltb-false limit (queued + size) (when_none (passes queued size limit) cause (last_none first (when (passes queued size limit) cause) h))

pub opened_whole : (broken : Option Fault) (t : Trace Act) (queued : ℕ) (name : List ℕ) → why_not_opened broken t queued name ≡ None → broken ≡ None
opened_whole None t queued name h = refl
opened_whole (Some fault) t queued name h = absurd (let no : Some (opening.Broken fault) ≡ None = h in cc)

pub opened_room : (broken : Option Fault) (t : Trace Act) (queued : ℕ) (name : List ℕ) → why_not_opened broken t queued name ≡ None → queued + frame_size (Spoken (CreateRequest (next_id t) 0 name)) ≤ main_limit t
opened_room broken t queued name h = room_in _ queued (frame_size (Spoken (CreateRequest (next_id t) 0 name))) (main_limit t) (opening.QueueFull queued (main_limit t)) h

pub asked_whole : (broken : Option Fault) (t : Trace Act) (queued : ℕ) (kind : Kind) (id : ℕ) (cookie : List ℕ) → why_not_asked broken t queued kind id cookie ≡ None → broken ≡ None
asked_whole None t queued kind id cookie h = refl
asked_whole (Some fault) t queued kind id cookie h = absurd (let no : Some (ask.Broken fault) ≡ None = h in cc)

pub asked_room : (broken : Option Fault) (t : Trace Act) (queued : ℕ) (kind : Kind) (id : ℕ) (cookie : List ℕ) → why_not_asked broken t queued kind id cookie ≡ None → queued + frame_size (TunnelAsked id kind cookie) ≤ main_limit t
asked_room broken t queued kind id cookie h = room_in _ queued (frame_size (TunnelAsked id kind cookie)) (main_limit t) (ask.QueueFull queued (main_limit t)) h

pub moved_whole : (broken : Option Fault) (t : Trace Act) (queued : ℕ) (reliable lossy : List ℕ) → why_not_moved broken t queued reliable lossy ≡ None → broken ≡ None
moved_whole None t queued reliable lossy h = refl
moved_whole (Some fault) t queued reliable lossy h = absurd (let no : Some (move.Broken fault) ≡ None = h in cc)

pub moved_room : (broken : Option Fault) (t : Trace Act) (queued : ℕ) (reliable lossy : List ℕ) → why_not_moved broken t queued reliable lossy ≡ None → queued + frame_size (Spoken (sync_request reliable lossy)) ≤ main_limit t
moved_room broken t queued reliable lossy h = room_in _ queued (frame_size (Spoken (sync_request reliable lossy))) (main_limit t) (move.QueueFull queued (main_limit t)) h
