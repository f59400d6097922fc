-- An end that a datagram came for.
use Rattle.std.specs.Prelude.{◌≡◌, ℕ, ◌+◌, List, length, Option, Some, None}
use Rattle.std.specs.List.{flat_map}
use Rattle.mt_base.specs.declared.kinds.Kind.{Kind}
use Rattle.mt_base.specs.declared.kinds.Kind.TheVariants.{Reliable}
use Rattle.mt_base.specs.declared.kinds.Role.{Role}
use Rattle.mt_base.specs.Trace.{Trace, ◌▷◌}
use Rattle.carrier.specs.declared.state.LinkState.{LinkState}
use Rattle.carrier.specs.declared.state.Took.{Took}
use Rattle.carrier.specs.Entries as link
use Rattle.mt_endpoint.specs.Acts.{Act}
use Rattle.mt_endpoint.specs.Writing.{tunneled}
use Rattle.end_calls.specs.Calls.{Came, Entry, Handed, Pull, WireIn, past}
use Rattle.end_calls.specs.Stops.{Outset}
use Rattle.end_calls.specs.Streams.{Past, written}
use Rattle.end_reader.specs.declared.reader.Reader.{Reader}
use Rattle.endpoint.specs.Attached.{load_in}
use Rattle.endpoint.specs.Handed.{AllHanded, FullFrom, LoadAt, PartWay}
use Rattle.endpoint.specs.Kept.{Kept}
use Rattle.endpoint.specs.Standing.{EndStands}

-- the lossy link that an end may have handed out what it had, where the reliable one has this load
abbrev pub HandedIf : {L : Type 0} → (L → Trace link.Entry → Type 0) → (L → List (List ℕ)) → (L → LinkState) → (L → ℕ) → ℕ → Reader → Reader → Option L → Option L → Type 0
HandedIf stands left condition load queued r now None None = now ≡ r
HandedIf stands left condition load queued r now (Some old) (Some new) =
    (unhanded : List (List ℕ)) (sent : List ℕ) (role : Role) (outset : Outset) (p : Past) (m : Trace link.Entry)
    → PartWay stands left condition unhanded sent role p m r old → LoadAt role outset sent p queued → AllHanded stands left condition load old unhanded sent role outset p m now new
HandedIf stands left condition load queued r now None (Some new) = ⊥
HandedIf stands left condition load queued r now (Some old) None = ⊥

-- It stands for the calls before and this one, by which the links brought something, and it read that. The reliable
-- link had this load, to which what the end wrote for it came. A part counts as full only where what the lossy link
-- held before the call, and the parts before it, fill its window.
pub record WiredIn {C P : Type 0} (carrier_stands : C → Trace link.Entry → Type 0) (carrier_left : C → List ℕ) (carrier_condition : C → LinkState) (carrier_load : C → ℕ) (post_stands : P → Trace link.Entry → Type 0) (post_left : P → List (List ℕ)) (post_condition : P → LinkState) (post_load : P → ℕ) (role : Role) (t : Trace Entry) (kind : Kind) (now : ℕ) (datagram : List ℕ) (took : Took) (old kept : Kept C P) : Type 0 where
  pub load : ℕ
  pub came : Came
  pub pulls : Trace Pull
  pub parts : Trace Handed
  pub lack : Option (Trace Act)
  pub stands : EndStands carrier_stands carrier_left carrier_condition post_stands post_left post_condition kept role (t ▷ WireIn kind now datagram took load came pulls parts lack)
  pub load_is : load_in carrier_load kept.reliable ≡ load + length (flat_map tunneled (written Reliable role (past role t) (past role (t ▷ WireIn kind now datagram took load came pulls parts lack))))
  pub full_from : FullFrom (load_in post_load old.lossy) parts
