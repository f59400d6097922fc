-- Two ends with links over UDP are two ends over a network.
use Rattle.std.proofs.Common.{◌≡◌, ℕ, ◌+◌, ◌≤◌, inl, inr, min, List, Option, Some, None, IfSome, sym, subst, arith}
use Rattle.mt_base.specs.declared.kinds.Kind.{Kind}
use Rattle.mt_base.specs.declared.kinds.Kind.TheVariants.{Reliable, Lossy}
use Rattle.mt_base.specs.declared.kinds.Role.{Role}
use Rattle.mt_base.specs.declared.kinds.Role.TheVariants.{Server, Client}
use Rattle.mt_base.specs.Trace.{Trace}
use Rattle.carrier.specs.Joined.{Timely}
use Rattle.link_core.specs.JoinedCores.{ahead, room}
use Rattle.udp_open.specs.declared.settings.OpenSettings.{OpenSettings}
use Rattle.udp_open.specs.LinkTrace.{LinkFaithful}
use Rattle.udp_open.specs.LinkView.{Link, StandsLink, condition_in, left_in}
use Rattle.udp_open.specs.OpeningView.{IsOffered}
use Rattle.lossy_mode.specs.LossyView.{StandsThin, condition_of}
use Rattle.lossy_mode.specs.LossyView as lossy
use Rattle.lossy_mode.specs.Thin.{Thin}
use Rattle.end_calls.specs.Calls.{Entry}
use Rattle.end_calls.specs.Law.{unhanded, unpulled}
use Rattle.end_calls.specs.Links.{linked}
use Rattle.end_calls.specs.Net.{at}
use Rattle.endpoint.specs.Attached.{HasLink}
use Rattle.end_net.specs.Network.{Network, steps}
use Rattle.end_net.proofs.Halves.{half_at}
use Rattle.end_pair.specs.declared.pair.TheConstants.{LATE}
use Rattle.end_pair.specs.Joined.{Joined, PairStands, end_of}
use Rattle.linked_ends.specs.UsesLinks.{KeepsTo, KeepsToLossy, UsesLinks, parts_left}

-- ---- a link that an end may have

faithful_of : (settings : OpenSettings) (role : Role) (t : Trace Entry) (unread : List ℕ) (l : Option Link) → HasLink StandsLink left_in condition_in Reliable unread role t l → IfSome l (KeepsTo settings) → LinkFaithful settings (linked Reliable role t)
faithful_of settings role t unread None h keeps = subst (λ x. LinkFaithful settings x) (sym h.uncalled) tt
faithful_of settings role t unread (Some l) h keeps = keeps (linked Reliable role t) h.called.faithful

thin_of : (settings : OpenSettings) (role : Role) (t : Trace Entry) (unread : List (List ℕ)) (l : Option lossy.Lossy) → HasLink StandsThin parts_left condition_of Lossy unread role t l → IfSome l (KeepsToLossy settings) → Thin settings (linked Lossy role t)
thin_of settings role t unread None h keeps = subst (λ x. Thin settings x) (sym h.uncalled) tt
thin_of settings role t unread (Some l) h keeps = keeps (linked Lossy role t) h.called.thin

-- ---- the versions

abbrev Fits : ℕ → ℕ → Type 0
Fits a b = ahead (min a b) + LATE ≤ room (min a b)

moved : (a b c d : ℕ) → a ≡ c → b ≡ d → Fits c d → Fits a b
moved a b c d first second h = subst (λ x. Fits x b) (sym first) (subst (λ y. Fits c y) (sym second) h)

fits : (a b : ℕ) → IsOffered a → IsOffered b → Fits a b
fits a b (inl x) (inl y) = moved a b 0x0001 0x0001 x y (omega arith)
fits a b (inl x) (inr (inl y)) = moved a b 0x0001 0x0002 x y (omega arith)
fits a b (inl x) (inr (inr y)) = moved a b 0x0001 0x0101 x y (omega arith)
fits a b (inr (inl x)) (inl y) = moved a b 0x0002 0x0001 x y (omega arith)
fits a b (inr (inl x)) (inr (inl y)) = moved a b 0x0002 0x0002 x y (omega arith)
fits a b (inr (inl x)) (inr (inr y)) = moved a b 0x0002 0x0101 x y (omega arith)
fits a b (inr (inr x)) (inl y) = moved a b 0x0101 0x0001 x y (omega arith)
fits a b (inr (inr x)) (inr (inl y)) = moved a b 0x0101 0x0002 x y (omega arith)
fits a b (inr (inr x)) (inr (inr y)) = moved a b 0x0101 0x0101 x y (omega arith)

-- ---- both

pub network_of : (pair : Joined Link lossy.Lossy) (settings : Kind → Role → OpenSettings) (w : Trace (Role × Entry)) → PairStands StandsLink left_in condition_in StandsThin parts_left condition_of pair w → UsesLinks settings pair → ((kind : Kind) → Timely LATE (steps kind w)) → Network LATE settings w
network_of pair settings w p u timely = record {
  ends = λ role. (p.ends role).tells.law;
  main = p.main;
  reliable = record {
    roles = u.suit.roles Reliable;
    kinds = u.suit.reliable_kind;
    versions = u.suit.reliable_version;
    initials = u.suit.initials Reliable;
    hashes = u.suit.hashes;
    in_time = fits (settings Reliable Server).version (settings Reliable Client).version (u.suit.reliable_version Server) (u.suit.reliable_version Client);
    faithful = λ s. subst (λ x. LinkFaithful (settings Reliable s) x) (sym (half_at Reliable w s))
        (faithful_of (settings Reliable s) s (at s w) (unpulled (at s w)) (end_of s pair).reliable (p.ends s).has_reliable (u.reliable_keeps s));
    timely = timely Reliable;
  };
  lossy = record {
    roles = u.suit.roles Lossy;
    kind = u.suit.lossy_kind;
    versions = u.suit.lossy_version;
    initials = u.suit.initials Lossy;
    in_time = omega arith;
    thin = λ s. subst (λ x. Thin (settings Lossy s) x) (sym (half_at Lossy w s))
        (thin_of (settings Lossy s) s (at s w) (unhanded (at s w)) (end_of s pair).lossy (p.ends s).has_lossy (u.lossy_keeps s));
    timely = timely Lossy;
  };
}
