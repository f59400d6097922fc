-- The links of a pair of ends keep their laws, from call to call.
use Rattle.std.proofs.Common.{◌≡◌, List, Option, Some, None, IfSome, true, false, refl, sym, subst, ◌∙◌}
use Rattle.mt_base.specs.declared.kinds.Kind.{Kind}
use Rattle.mt_base.specs.declared.kinds.Kind.TheVariants.{Reliable, Lossy}
use Rattle.mt_base.specs.declared.kinds.Role.{Role}
use Rattle.mt_base.specs.declared.kinds.Role.TheVariants.{Server, Client}
use Rattle.mt_base.specs.Ends.{other}
use Rattle.mt_base.specs.Trace.{Trace}
use Rattle.carrier.specs.declared.state.LinkState.{LinkState}
use Rattle.carrier.specs.Entries as link
use Rattle.udp_open.specs.declared.settings.OpenSettings.{OpenSettings}
use Rattle.udp_open.specs.LinkTrace.{LinkFaithful}
use Rattle.udp_open.specs.LinkView.{Link, StandsLink, condition_in, left_in}
use Rattle.lossy_mode.specs.LossyView.{StandsThin, condition_of}
use Rattle.lossy_mode.specs.LossyView as lossy
use Rattle.lossy_mode.specs.Thin.{Thin}
use Rattle.mt_endpoint.specs.Tunnels.{is_attached}
use Rattle.end_calls.specs.Calls.{Entry, acts}
use Rattle.end_calls.specs.Law.{unhanded, unpulled}
use Rattle.end_calls.specs.Net.{at}
use Rattle.endpoint.specs.Attached.{HasLink}
use Rattle.endpoint.specs.Kept.{Kept}
use Rattle.endpoint.specs.Laws.{HasLawOf, KeepsLaw}
use Rattle.end_pair.specs.Joined.{Joined, PairStands, end_of, made}
use Rattle.end_pair.specs.Laws.{PairKeepsLaws}
use Rattle.linked_ends.specs.UsesLinks.{KeepsTo, KeepsToLossy, SuitLinks, UsesLinks, link_law, lossy_law, parts_left}

-- ---- one link

stays : {L : Type 0} (law : L → Trace link.Entry → Type 0) (goal : Trace link.Entry → Type 0) (old new : Option L) → KeepsLaw law old new → IfSome old (λ l. (t : Trace link.Entry) → law l t → goal t) → IfSome new (λ l. (t : Trace link.Entry) → law l t → goal t)
stays law goal None None kept keeps = tt
stays law goal (Some old) (Some new) kept keeps = λ t h. keeps t ((kept t).0 h)
stays law goal None (Some new) kept keeps = absurd kept
stays law goal (Some old) None kept keeps = absurd kept

attached : {L : Type 0} (law : L → Trace link.Entry → Type 0) (goal : Trace link.Entry → Type 0) (given : L) (new : Option L) → HasLawOf law given new → ((t : Trace link.Entry) → law given t → goal t) → IfSome new (λ l. (t : Trace link.Entry) → law l t → goal t)
attached law goal given None has keeps = absurd has
attached law goal given (Some l) has keeps = λ t h. keeps t ((has t).0 h)

-- a link that was made with these settings
pub made_with : (settings : OpenSettings) (l : Link) → (l.opening).settings ≡ settings → KeepsTo settings l
made_with settings l is t h = subst (λ s. LinkFaithful s t) is h

pub made_lossy_with : (settings : OpenSettings) (l : lossy.Lossy) → (l.opening).settings ≡ settings → KeepsToLossy settings l
made_lossy_with settings l is t h = subst (λ s. Thin s t) is h

-- ---- both ends

pub all_stay : (settings : Kind → Role → OpenSettings) (old new : Joined Link lossy.Lossy) → PairKeepsLaws link_law lossy_law old new → UsesLinks settings old → UsesLinks settings new
all_stay settings old new kept u = record {
  suit = u.suit;
  reliable_keeps = λ side. stays link_law (LinkFaithful (settings Reliable side)) (end_of side old).reliable (end_of side new).reliable (kept side).reliable (u.reliable_keeps side);
  lossy_keeps = λ side. stays lossy_law (Thin (settings Lossy side)) (end_of side old).lossy (end_of side new).lossy (kept side).lossy (u.lossy_keeps side);
}

-- what holds of each end, where it holds of one anew, and the other is as it was
at_each : {C P : Type 0} (A : Role → Kept C P → Type 0) (side : Role) (old new : Joined C P) → A side (end_of side new) → end_of (other side) new ≡ end_of (other side) old → ((role : Role) → A role (end_of role old)) → (role : Role) → A role (end_of role new)
at_each A Server old new here is all Server = here
at_each A Server old new here is all Client = let e : new.client ≡ old.client = is in subst (λ k. A Client k) (sym e) (all Client)
at_each A Client old new here is all Server = let e : new.server ≡ old.server = is in subst (λ k. A Server k) (sym e) (all Server)
at_each A Client old new here is all Client = here

pub with_reliable : (settings : Kind → Role → OpenSettings) (side : Role) (l : Link) (old new : Joined Link lossy.Lossy) → KeepsTo (settings Reliable side) l → HasLawOf link_law l (end_of side new).reliable → KeepsLaw lossy_law (end_of side old).lossy (end_of side new).lossy → end_of (other side) new ≡ end_of (other side) old → UsesLinks settings old → UsesLinks settings new
with_reliable settings side l old new keeps has same is u = record {
  suit = u.suit;
  reliable_keeps = at_each (λ s k. IfSome k.reliable (KeepsTo (settings Reliable s))) side old new (attached link_law (LinkFaithful (settings Reliable side)) l (end_of side new).reliable has keeps) is u.reliable_keeps;
  lossy_keeps = at_each (λ s k. IfSome k.lossy (KeepsToLossy (settings Lossy s))) side old new (stays lossy_law (Thin (settings Lossy side)) (end_of side old).lossy (end_of side new).lossy same (u.lossy_keeps side)) is u.lossy_keeps;
}

pub with_lossy : (settings : Kind → Role → OpenSettings) (side : Role) (l : lossy.Lossy) (old new : Joined Link lossy.Lossy) → KeepsToLossy (settings Lossy side) l → HasLawOf lossy_law l (end_of side new).lossy → KeepsLaw link_law (end_of side old).reliable (end_of side new).reliable → end_of (other side) new ≡ end_of (other side) old → UsesLinks settings old → UsesLinks settings new
with_lossy settings side l old new keeps has same is u = record {
  suit = u.suit;
  reliable_keeps = at_each (λ s k. IfSome k.reliable (KeepsTo (settings Reliable s))) side old new (stays link_law (LinkFaithful (settings Reliable side)) (end_of side old).reliable (end_of side new).reliable same (u.reliable_keeps side)) is u.reliable_keeps;
  lossy_keeps = at_each (λ s k. IfSome k.lossy (KeepsToLossy (settings Lossy s))) side old new (attached lossy_law (Thin (settings Lossy side)) l (end_of side new).lossy has keeps) is u.lossy_keeps;
}

-- ---- two ends that were made have no link

none_there : {L A : Type 0} (stands : L → Trace link.Entry → Type 0) (left : L → List A) (condition : L → LinkState) (kind : Kind) (unread : List A) (role : Role) (t : Trace Entry) (B : L → Type 0) (l : Option L) → is_attached kind (acts role t) ≡ false → HasLink stands left condition kind unread role t l → IfSome l B
none_there stands left condition kind unread role t B None off h = tt
none_there stands left condition kind unread role t B (Some l) off h = absurd (let no : false ≡ true = sym off ∙ h.attached in cc)

unattached : (kind : Kind) (role : Role) → is_attached kind (acts role (at role made)) ≡ false
unattached Reliable Server = refl
unattached Reliable Client = refl
unattached Lossy Server = refl
unattached Lossy Client = refl

pub none_yet : (settings : Kind → Role → OpenSettings) (pair : Joined Link lossy.Lossy) → SuitLinks settings → PairStands StandsLink left_in condition_in StandsThin parts_left condition_of pair made → UsesLinks settings pair
none_yet settings pair suit p = record {
  suit = suit;
  reliable_keeps = λ side. none_there StandsLink left_in condition_in Reliable (unpulled (at side made)) side (at side made) (KeepsTo (settings Reliable side)) (end_of side pair).reliable (unattached Reliable side) (p.ends side).has_reliable;
  lossy_keeps = λ side. none_there StandsThin parts_left condition_of Lossy (unhanded (at side made)) side (at side made) (KeepsToLossy (settings Lossy side)) (end_of side pair).lossy (unattached Lossy side) (p.ends side).has_lossy;
}
