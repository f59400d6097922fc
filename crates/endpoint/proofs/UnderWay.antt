-- Bytes that leave a tunnel PDU under way make no act.
use Rattle.std.proofs.Common.{◌≡◌, ◌⊎◌, inl, inr, ℕ, ◌+◌, ◌-◌, ◌<◌, ◌≤◌, true, false, List, [], ◌∷◌, ◌++◌, length, Option, Some, None, Result, Ok, Err, refl, sym, ap, ◌∙◌, arith, length-append}
use Rattle.std.specs.List.{fold}
use Rattle.mt_base.specs.declared.kinds.Kind.TheVariants.{Reliable}
use Rattle.mt_base.specs.declared.kinds.Role.{Role}
use Rattle.dvc_pdus.specs.declared.pdu.DvcRefusal.{DvcRefusal}
use Rattle.tunnel_pdus.specs.declared.part.Part.{Part}
use Rattle.tunnel_pdus.specs.declared.part.Part.TheVariants.{Whole, More}
use Rattle.tunnel_pdus.specs.declared.part.TunnelRefusal.{TunnelRefusal}
use Rattle.tunnel_pdus.specs.Reading.{reading}
use Rattle.tunnel_pdus.specs.Value.{Pdu}
use Rattle.mt_endpoint.specs.Acts.{Drawn}
use Rattle.mt_endpoint.specs.Faults.{Why, tunnel_fault}
use Rattle.end_calls.specs.declared.fault.Fault.TheVariants as fault
use Rattle.end_calls.specs.Stops.{is_empty, wanted, wants}
use Rattle.end_calls.specs.Streams.{Past, drawing, drawn_by, in_tunnel, reads, reads_drawn, tunnel_reads, with_tunnel}
use Rattle.end_reader.specs.Wanting.{GoesOn}
use Rattle.end_reader.proofs.Cutting.{pull_ends, with_pulled}
use Rattle.end_reader.proofs.TunnelRead.{last_or}

drawn_tunnel : (role : Role) (at : ℕ) (r : Result Drawn DvcRefusal) (p : Past) → (reads_drawn role at r p).tunnel.bytes ≡ p.tunnel.bytes
drawn_tunnel role at (Err refusal) p = refl
drawn_tunnel role at (Ok drawn) p = by_fault (tunnel_fault role p.acts drawn) where
  by_fault : (w : Option Why) → (reads role (in_tunnel at) w (drawing role Reliable at p.acts false drawn) p).tunnel.bytes ≡ p.tunnel.bytes
  by_fault (Some w) = refl
  by_fault None = refl

reads_none : (role : Role) (bytes : List ℕ) (r : Result (Part Pdu) TunnelRefusal) (p : Past) → (tunnel_reads role bytes r p).broken ≡ None → is_empty (tunnel_reads role bytes r p).tunnel.bytes ≡ false → (tunnel_reads role bytes r p).acts ≡ p.acts
reads_none role bytes (Ok (More need)) p fine some = refl
reads_none role bytes (Ok (Whole pdu used)) p fine some =
    absurd (let bad : true ≡ false = ap is_empty (sym (drawn_tunnel role p.tunnel.at (drawn_by role pdu) (record p { tunnel = record { at = p.tunnel.at + length bytes; bytes = [] } }))) ∙ some in cc)
reads_none role bytes (Err refusal) p fine some = absurd (let bad : Some (fault.Stream (in_tunnel p.tunnel.at) refusal) ≡ None = fine in cc)

pub none_made : (role : Role) (p : Past) (need : ℕ) (bytes : List ℕ) → p.broken ≡ None → reading p.tunnel.bytes ≡ Ok (More need) → length p.tunnel.bytes < need → GoesOn reading p.tunnel.bytes need → length bytes ≤ wants p.tunnel.bytes
    → (fold (with_tunnel role) p bytes).broken ≡ None → is_empty (fold (with_tunnel role) p bytes).tunnel.bytes ≡ false → (fold (with_tunnel role) p bytes).acts ≡ p.acts
none_made role p need bytes whole known less on few = by_last (last_or bytes) where
  by_last : (bytes ≡ []) ⊎ ((front : List ℕ) × (last : ℕ) × (bytes ≡ front ++ last ∷ [])) → (fold (with_tunnel role) p bytes).broken ≡ None → is_empty (fold (with_tunnel role) p bytes).tunnel.bytes ≡ false → (fold (with_tunnel role) p bytes).acts ≡ p.acts
  by_last (inl none) fine some = ap (λ l. (fold (with_tunnel role) p l).acts) none
  by_last (inr w) fine some =
      let before = p.tunnel.bytes in
      let all = before ++ (w.0 ++ w.1 ∷ []) in
      let value : wants before ≡ need - length before = ap (wanted (length before)) known in
      let short : length (before ++ w.0) < need = omega (arith, length-append before w.0, few, value, less, ap (λ (l : List ℕ). length l) w.2, length-append w.0 (w.1 ∷ [])) in
      let first = with_pulled p (before ++ w.0) in
      let is : fold (with_tunnel role) p bytes ≡ tunnel_reads role all (reading all) first = ap (fold (with_tunnel role) p) w.2 ∙ pull_ends role p need w.0 w.1 whole on short in
      ap (λ (q : Past). q.acts) is ∙ reads_none role all (reading all) first (sym (ap (λ (q : Past). q.broken) is) ∙ fine) (sym (ap (λ (q : Past). is_empty q.tunnel.bytes) is) ∙ some)
