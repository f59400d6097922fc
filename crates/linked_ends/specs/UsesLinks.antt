-- The settings by whose law the links of a pair of ends keep.
use Rattle.std.specs.Prelude.{◌≡◌, ℕ, ◌^◌, ◌<◌, List, IfSome}
use Rattle.mt_base.specs.declared.kinds.Kind.{Kind}
use Rattle.mt_base.specs.declared.kinds.Kind.TheVariants.{Reliable, Lossy}
use Rattle.mt_base.specs.declared.kinds.Role.{Role}
use Rattle.mt_base.specs.declared.kinds.Role.TheVariants.{Server}
use Rattle.mt_base.specs.Trace.{Trace}
use Rattle.carrier.specs.Entries as link
use Rattle.udp_open.specs.declared.settings.OpenSettings.{OpenSettings}
use Rattle.udp_open.specs.Agreeing.{IsHash}
use Rattle.udp_open.specs.LinkTrace.{LinkFaithful}
use Rattle.udp_open.specs.LinkView.{Link}
use Rattle.udp_open.specs.OpeningView.{IsFirst, IsOffered}
use Rattle.lossy_mode.specs.LossyView as lossy
use Rattle.lossy_mode.specs.Thin.{Thin}
use Rattle.end_pair.specs.Joined.{Joined, end_of}

-- the parts of a lossy link that were not handed out
abbrev pub parts_left : lossy.Lossy → List (List ℕ)
parts_left l = l.link.arrivals.parts

-- the laws that such links keep: those of the settings with which they were made
abbrev pub link_law : Link → Trace link.Entry → Type 0
link_law l t = LinkFaithful (l.opening).settings t

abbrev pub lossy_law : lossy.Lossy → Trace link.Entry → Type 0
lossy_law l t = Thin (l.opening).settings t

-- The settings of each kind and side are what such links ask for.
pub record SuitLinks (settings : Kind → Role → OpenSettings) : Type 0 where
  pub roles : (kind : Kind) (side : Role) → (settings kind side).role ≡ side
  pub reliable_kind : (side : Role) → (settings Reliable side).kind ≡ Reliable
  pub lossy_kind : (settings Lossy Server).kind ≡ Lossy
  pub reliable_version : (side : Role) → IsOffered (settings Reliable side).version
  pub lossy_version : (side : Role) → IsFirst (settings Lossy side).version
  pub initials : (kind : Kind) (side : Role) → (settings kind side).initial < 2 ^ 32
  pub hashes : (side : Role) → (settings Reliable side).version ≡ 0x0101 → IsHash (settings Reliable side).cookie_hash

-- what keeps the law of a link keeps that of a link with these settings
abbrev pub KeepsTo : OpenSettings → Link → Type 0
KeepsTo settings l = (t : Trace link.Entry) → link_law l t → LinkFaithful settings t

abbrev pub KeepsToLossy : OpenSettings → lossy.Lossy → Type 0
KeepsToLossy settings l = (t : Trace link.Entry) → lossy_law l t → Thin settings t

-- Each link that an end has keeps the law of the settings of its kind and side.
pub record UsesLinks (settings : Kind → Role → OpenSettings) (pair : Joined Link lossy.Lossy) : Type 0 where
  pub suit : SuitLinks settings
  pub reliable_keeps : (side : Role) → IfSome (end_of side pair).reliable (KeepsTo (settings Reliable side))
  pub lossy_keeps : (side : Role) → IfSome (end_of side pair).lossy (KeepsToLossy (settings Lossy side))
