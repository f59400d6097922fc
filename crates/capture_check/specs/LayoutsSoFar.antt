-- The layouts that links agreed on so far.
use Rattle.std.specs.Prelude.{◌⊎◌, ℕ, List, All, Option, Some, None}
use Rattle.mt_base.specs.declared.kinds.Kind.{Kind}
use Rattle.mt_base.specs.declared.kinds.Kind.TheVariants.{Reliable, Lossy}
use Rattle.capture_check.specs.declared.agreed.AgreedLayouts.{AgreedLayouts}
use Rattle.capture_check.specs.declared.layout.Layout.{Layout}
use Rattle.capture_check.specs.declared.entry.Entry.{Entry}
use Rattle.udp1_packets.specs.Value.{Syn}
use Rattle.capture_check.specs.Layouts.{IsOpening, IsReadBy, ChoosesNone, Agreed}

abbrev pub layout_of : AgreedLayouts → Kind → Option Layout
layout_of agreed Reliable = agreed.reliable
layout_of agreed Lossy = agreed.lossy

-- a link of this kind agreed on this layout, or on none
abbrev pub AgreedOn : Kind → List Entry → Option Layout → Type 0
AgreedOn kind entries None = All (ChoosesNone kind) entries
AgreedOn kind entries (Some layout) = Agreed kind entries layout

-- the layouts are those that the entries agreed on
abbrev pub AreAgreed : AgreedLayouts → List Entry → Type 0
AreAgreed agreed entries = (kind : Kind) → AgreedOn kind entries (layout_of agreed kind)

-- a datagram is an opening, or is read by its link's layout
abbrev pub ReadsNow : Option Layout → List ℕ → Type 0
ReadsNow None datagram = (syn : Syn) × IsOpening datagram syn
ReadsNow (Some layout) datagram = ((syn : Syn) × IsOpening datagram syn) ⊎ IsReadBy layout datagram
