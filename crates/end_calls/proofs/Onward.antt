-- The acts of an end only go on.
use Rattle.std.proofs.Common.{ℕ, ◌+◌, Bool, true, false, cond, List, [], ◌∷◌, ◌++◌, length, take, Option, Some, None, option_map, Result, Ok, Err, sym, subst}
use Rattle.std.specs.List.{fold}
use Rattle.mt_base.specs.declared.kinds.Kind.{Kind}
use Rattle.mt_base.specs.declared.kinds.Kind.TheVariants.{Reliable, Lossy}
use Rattle.mt_base.specs.declared.kinds.Role.{Role}
use Rattle.mt_base.specs.Trace.{Trace, Start, ◌▷◌}
use Rattle.carrier.specs.declared.state.LinkState.{LinkState}
use Rattle.carrier.specs.declared.state.Took.{Took}
use Rattle.dvc_pdus.specs.declared.pdu.DvcRefusal.{DvcRefusal}
use Rattle.tunnel_pdus.specs.declared.part.Part.{Part}
use Rattle.tunnel_pdus.specs.declared.part.Part.TheVariants.{Whole, More}
use Rattle.tunnel_pdus.specs.declared.part.TunnelRefusal.{TunnelRefusal}
use Rattle.tunnel_pdus.specs.Value as tunnel
use Rattle.tunnel_pdus.specs.Reading.{reading, frame_reading}
use Rattle.mt_endpoint.specs.Acts.{Act, Takes, Silences, Hears, Heard, Drawn}
use Rattle.mt_endpoint.specs.Faults.{Why, main_fault, tunnel_fault}
use Rattle.mt_endpoint.specs.Tunnels.{is_attached, is_silent}
use Rattle.end_calls.specs.Streams.{Past, is_broken, on_main, in_tunnel, grows, reads, reads_heard, reads_drawn, main_reads, tunnel_reads, with_main, with_tunnel, with_part, heard_by, drawn_by, drawing, missed_or, if_whole}
use Rattle.end_calls.specs.Calls.{Entry, Own, MainIn, MainOut, WireIn, WireOut, Pull, Handed, Came, lacking, after_bytes, after_pulls, after_parts, read_count, bare, steps, if_steps, before_poll, closed_act, polled, story, past, acts}
use Rattle.end_calls.specs.Law.{IsFront, whole, shorter, IsMainLack, IsLinkLack, IsCall, IsWireIn}
use Rattle.end_calls.proofs.Fronts.{Lasts, grown_lasts}

-- the one past is a front of the other
abbrev pub Goes : Past → Past → Type 0
Goes p q = IsFront p.acts q.acts

pub front_then : (t u v : Trace Act) → IsFront t u → IsFront u v → IsFront t v
front_then t _ _ f (whole u) = f
front_then t _ _ f (shorter u v act g) = shorter t v act (front_then t u v f g)

front_lasts : (t : Trace Act) → Lasts (λ v. IsFront t v)
front_lasts t = record {
  answers = λ v named f. shorter t v _ f;
  releases = λ v kind at bytes pdu f. shorter t v _ f;
  discards = λ v at bytes pdu f. shorter t v _ f;
}

goes_grown : (role : Role) (act : Act) (p : Past) → Goes p (grows role act p)
goes_grown role act p = grown_lasts (λ v. IsFront p.acts v) (front_lasts p.acts) role p.acts act (shorter p.acts p.acts act (whole p.acts))

pub goes_same : (p : Past) → Goes p p
goes_same p = whole p.acts

goes_then : (p q r : Past) → Goes p q → Goes q r → Goes p r
goes_then p q r f g = front_then p.acts q.acts r.acts f g

goes_heard : (role : Role) (at : ℕ) (r : Result Heard DvcRefusal) (p : Past) → Goes p (reads_heard role at r p)
goes_heard role at (Err refusal) p = goes_same p
goes_heard role at (Ok heard) p = by_fault (main_fault role p.acts heard) where
  by_fault : (w : Option Why) → Goes p (reads role (on_main at) w (Hears heard) p)
  by_fault (Some w) = goes_same p
  by_fault None = goes_grown role (Hears heard) p

goes_main : (role : Role) (bytes : List ℕ) (r : Result (Part tunnel.Frame) TunnelRefusal) (p : Past) → Goes p (main_reads role bytes r p)
goes_main role bytes (Ok (More need)) p = goes_same p
goes_main role bytes (Ok (Whole frame used)) p = goes_heard role p.main.at (heard_by role frame) (record p { main = record { at = p.main.at + length bytes; bytes = [] } })
goes_main role bytes (Err refusal) p = goes_same p

pub goes_byte : (role : Role) (p : Past) (byte : ℕ) → Goes p (with_main role p byte)
unfolding with_main
goes_byte role p byte = by_broken (is_broken p) where
  by_broken : (b : Bool) → Goes p (cond b p (main_reads role (p.main.bytes ++ byte ∷ []) (frame_reading (p.main.bytes ++ byte ∷ [])) p))
  by_broken true = goes_same p
  by_broken false = goes_main role (p.main.bytes ++ byte ∷ []) (frame_reading (p.main.bytes ++ byte ∷ [])) p

pub goes_bytes : (role : Role) (bytes : List ℕ) (p : Past) → Goes p (after_bytes role p bytes)
goes_bytes role [] p = goes_same p
goes_bytes role (byte ∷ bytes) p = goes_then p (with_main role p byte) (after_bytes role (with_main role p byte) bytes) (goes_byte role p byte) (goes_bytes role bytes (with_main role p byte))

goes_drawn : (role : Role) (at : ℕ) (r : Result Drawn DvcRefusal) (p : Past) → Goes p (reads_drawn role at r p)
goes_drawn role at (Err refusal) p = goes_same p
goes_drawn role at (Ok drawn) p = by_fault (tunnel_fault role p.acts drawn) where
  by_fault : (w : Option Why) → Goes p (reads role (in_tunnel at) w (drawing role Reliable at p.acts false drawn) p)
  by_fault (Some w) = goes_same p
  by_fault None = goes_grown role (drawing role Reliable at p.acts false drawn) p

goes_tunnel : (role : Role) (bytes : List ℕ) (r : Result (Part tunnel.Pdu) TunnelRefusal) (p : Past) → Goes p (tunnel_reads role bytes r p)
goes_tunnel role bytes (Ok (More need)) p = goes_same p
goes_tunnel role bytes (Ok (Whole pdu used)) p = goes_drawn role p.tunnel.at (drawn_by role pdu) (record p { tunnel = record { at = p.tunnel.at + length bytes; bytes = [] } })
goes_tunnel role bytes (Err refusal) p = goes_same p

goes_pulled : (role : Role) (p : Past) (byte : ℕ) → Goes p (with_tunnel role p byte)
unfolding with_tunnel
goes_pulled role p byte = by_broken (is_broken p) where
  by_broken : (b : Bool) → Goes p (cond b p (tunnel_reads role (p.tunnel.bytes ++ byte ∷ []) (reading (p.tunnel.bytes ++ byte ∷ [])) p))
  by_broken true = goes_same p
  by_broken false = goes_tunnel role (p.tunnel.bytes ++ byte ∷ []) (reading (p.tunnel.bytes ++ byte ∷ [])) p

pub goes_run : (role : Role) (bytes : List ℕ) (p : Past) → Goes p (fold (with_tunnel role) p bytes)
goes_run role [] p = goes_same p
goes_run role (byte ∷ bytes) p = goes_then p (with_tunnel role p byte) (fold (with_tunnel role) (with_tunnel role p byte) bytes) (goes_pulled role p byte) (goes_run role bytes (with_tunnel role p byte))

pub goes_pulls : (role : Role) (pulls : Trace Pull) (p : Past) → Goes p (after_pulls role p pulls)
goes_pulls role Start p = goes_same p
goes_pulls role (pulls ▷ pull) p = goes_then p (after_pulls role p pulls) (after_pulls role p (pulls ▷ pull)) (goes_pulls role pulls p) (goes_run role pull.bytes (after_pulls role p pulls))

pub goes_part : (role : Role) (p : Past) (bytes : List ℕ) (is_full : Bool) → Goes p (with_part role p bytes is_full)
unfolding with_part
goes_part role p bytes is_full = by_broken (is_broken p) where
  by_broken : (b : Bool) → Goes p (cond b p (grows role (missed_or role p.acts is_full (if_whole role (length bytes) (reading bytes))) p))
  by_broken true = goes_same p
  by_broken false = goes_grown role (missed_or role p.acts is_full (if_whole role (length bytes) (reading bytes))) p

pub goes_parts : (role : Role) (parts : Trace Handed) (p : Past) → Goes p (after_parts role p parts)
goes_parts role Start p = goes_same p
goes_parts role (parts ▷ part) p = goes_then p (after_parts role p parts) (after_parts role p (parts ▷ part)) (goes_parts role parts p) (goes_part role (after_parts role p parts) part.bytes part.is_full)

goes_bare : (act : Act) (p : Past) → Goes p (bare act p)
goes_bare (Takes id message) p = shorter p.acts p.acts (Takes id message) (whole p.acts)
goes_bare (Silences made expiries) p = shorter p.acts p.acts (Silences made expiries) (whole p.acts)
goes_bare act p = goes_same p

pub goes_steps : (role : Role) (act : Act) (p : Past) → Goes p (steps role act p)
goes_steps role act p = by_broken (is_broken p) where
  by_broken : (b : Bool) → Goes p (cond b (bare act p) (grows role act p))
  by_broken true = goes_bare act p
  by_broken false = goes_grown role act p

pub goes_if : (role : Role) (o : Option Act) (p : Past) → Goes p (if_steps role o p)
goes_if role None p = goes_same p
goes_if role (Some act) p = goes_steps role act p

-- ---- one call

goes_both : (role : Role) (pulls : Trace Pull) (parts : Trace Handed) (p : Past) → Goes p (after_parts role (after_pulls role p pulls) parts)
goes_both role pulls parts p = goes_then p (after_pulls role p pulls) (after_parts role (after_pulls role p pulls) parts) (goes_pulls role pulls p) (goes_parts role parts (after_pulls role p pulls))

goes_linked : (role : Role) (pulls : Trace Pull) (parts : Trace Handed) (lack : Option (Trace Act)) (p : Past) → IsLinkLack role p pulls parts lack → Goes p (lacking lack (after_parts role (after_pulls role p pulls) parts))
goes_linked role pulls parts None p h = goes_both role pulls parts p
goes_linked role Start Start (Some reached) p h = absurd h
goes_linked role (pulls ▷ pull) Start (Some reached) p h = front_then p.acts (after_pulls role p pulls).acts reached (goes_pulls role pulls p) h.begun
goes_linked role pulls (parts ▷ part) (Some reached) p h = front_then p.acts (after_parts role (after_pulls role p pulls) parts).acts reached (goes_both role pulls parts p) h.begun

goes_wire : (role : Role) (t : Trace Entry) (made : Kind) (took : Took) (load : ℕ) (came : Came) (pulls : Trace Pull) (parts : Trace Handed) (lack : Option (Trace Act)) (b : Bool) → IsWireIn b role t made took load came pulls parts lack
    → Goes (past role t) (lacking lack (after_parts role (after_pulls role (past role t) pulls) parts))
goes_wire role t made took load came pulls parts lack true h = goes_linked role pulls parts lack (past role t) h.lacking
goes_wire role t made took load came pulls parts lack false h =
    subst (λ (o : Option (Trace Act)). Goes (past role t) (lacking o (after_parts role (after_pulls role (past role t) pulls) parts))) (sym h.none_lacking) (goes_both role pulls parts (past role t))

goes_lacking : (role : Role) (p : Past) (offered : List ℕ) (count : ℕ) (lack : Option (ℕ × Trace Act)) → IsMainLack role p offered lack
    → Goes p (lacking (option_map (λ (l : ℕ × Trace Act). l.1) lack) (after_bytes role p (take (read_count count lack) offered)))
goes_lacking role p offered count None h = goes_bytes role (take count offered) p
goes_lacking role p offered count (Some (most, reached)) h = front_then p.acts (after_bytes role p (take h.0 offered)).acts reached (goes_bytes role (take h.0 offered) p) h.3.begun

goes_poll : (role : Role) (kind : Kind) (t : Trace Entry) (now : ℕ) (is_full : Bool) (state : LinkState) → Goes (past role t) (polled role kind (story role t).postings now is_full state (past role t))
goes_poll role kind t now is_full state =
    let p = past role t in
    let o = before_poll kind p.acts (story role t).postings now is_full in
    let q = if_steps role o p in
    goes_then p q (if_steps role (closed_act kind (is_silent kind q.acts) state) q) (goes_if role o p) (goes_if role (closed_act kind (is_silent kind q.acts) state) q)

pub goes_call : (role : Role) (t : Trace Entry) (entry : Entry) → IsCall role t entry → Goes (past role t) (past role (t ▷ entry))
goes_call role t (Own act) c = goes_steps role act (past role t)
goes_call role t (MainIn offered count load lack) c = goes_lacking role (past role t) offered count lack c.2
goes_call role t (MainOut room bytes) c = goes_same (past role t)
goes_call role t (WireIn made now datagram took load came pulls parts lack) c = goes_wire role t made took load came pulls parts lack (is_attached made (acts role t)) c
goes_call role t (WireOut Reliable now is_full out state) c = goes_poll role Reliable t now is_full state
goes_call role t (WireOut Lossy now is_full out state) c = goes_poll role Lossy t now is_full state
