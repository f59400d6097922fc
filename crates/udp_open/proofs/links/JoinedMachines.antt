-- The machines of two joined links are two joined machines, and what holds of them holds of the links.
use Rattle.std.proofs.Common.{◌≡◌, ℕ, ◌++◌, List, [], ◌∷◌, Option, Some, None, refl, sym, ap, ◌∙◌, subst}
use Rattle.mt_base.specs.declared.kinds.Role.{Role}
use Rattle.mt_base.specs.declared.kinds.Role.TheVariants.{Server, Client}
use Rattle.mt_base.specs.Ends.{other}
use Rattle.mt_base.specs.Trace.{Trace}
use Rattle.mt_windows.specs.Arrived.{passed}
use Rattle.carrier.specs.Entries.{Entry, given, pulled}
use Rattle.carrier.specs.Law.{Faithful}
use Rattle.carrier.specs.Joined.{Step, half}
use Rattle.carrier.specs.TwoLinks.{PassedWasGiven, PulledWasGiven, arrived_from}
use Rattle.link_core.specs.CoreView.{link_layout}
use Rattle.link_core.specs.JoinedCores.{OneLink}
use Rattle.link_core.proofs.Links.{client_is, server_is}
use Rattle.udp_open.specs.declared.settings.OpenSettings.{OpenSettings}
use Rattle.udp_open.specs.declared.agreement.Agreement.{Agreement}
use Rattle.udp_open.specs.Handshake.{agreed}
use Rattle.udp_open.specs.Agreeing.{AgreesWith}
use Rattle.udp_open.specs.LinkTrace.{machine_layout, machine}
use Rattle.udp_open.specs.TwoLinks.{LinkNet, LinkPassed, LinkPulled, layouts_of, lower_version, machines}
use Rattle.udp_open.proofs.links.Opened.{link_agrees}
use Rattle.udp_open.proofs.links.Machines.{machine_faithful, not_begun, given_same, pulled_same, halves}
use Rattle.udp_open.proofs.links.Network.{machines_timely}

-- the layout of a machine is the one that the ends agreed on
layout_agreed : (settings : Role → OpenSettings) (s : Role) (a : Agreement) → AgreesWith settings s a → machine_layout (settings s) a ≡ layouts_of settings s
layout_agreed settings Server a h =
    let own = (settings Server).initial in
    ap (λ peer. link_layout own peer a.version) h.peer_is
    ∙ ap (link_layout own (settings Client).initial) h.version_is
    ∙ server_is own (settings Client).initial (lower_version settings)
layout_agreed settings Client a h =
    let own = (settings Client).initial in
    ap (λ peer. link_layout own peer a.version) h.peer_is
    ∙ ap (link_layout own (settings Server).initial) h.version_is
    ∙ client_is (settings Server).initial own (lower_version settings)

pub joined_machines : (late : ℕ) (settings : Role → OpenSettings) (w : Trace Step) → LinkNet late settings w
    → OneLink late (settings Server).initial (settings Client).initial (lower_version settings) (machines settings w)
joined_machines late settings w h = record {
  server_number = h.initials Server;
  client_number = h.initials Client;
  in_time = h.in_time;
  faithful = faithful;
  timely = machines_timely late settings h.hashes w h.faithful h.timely;
}
  where
    faithful : (s : Role) → Faithful (layouts_of settings s) (half s (machines settings w))
    faithful s =
        subst (Faithful (layouts_of settings s)) (sym (halves settings w s))
        (machine_faithful (settings s) (half s w) (layouts_of settings s) (h.faithful s)
        (λ a is. layout_agreed settings s a (link_agrees late settings w s a h is)))

-- what is the beginning of what was given to a machine, is that of what was given to its link
nothing_front : (front more all : List ℕ) → [] ≡ front ++ more → (rest : List ℕ) × (all ≡ front ++ rest)
nothing_front [] more all h = (all, refl)
nothing_front (x ∷ front) more all h = cc

given_front : (s : OpenSettings) (t : Trace Entry) (front more : List ℕ) → given (machine s t) ≡ front ++ more → (rest : List ℕ) × (given t ≡ front ++ rest)
given_front s t front more h = by_agreement (agreed s t) refl
  where
    by_agreement : (a : Option Agreement) → agreed s t ≡ a → (rest : List ℕ) × (given t ≡ front ++ rest)
    by_agreement None is = nothing_front front more (given t) (sym (ap given (not_begun s t is)) ∙ h)
    by_agreement (Some a) is = (more, sym (given_same s t a is) ∙ h)

pub link_passed : (settings : Role → OpenSettings) (w : Trace Step) (s : Role) → PassedWasGiven (layouts_of settings) (machines settings w) s → LinkPassed settings w s
link_passed settings w s h =
    given_front (settings s) (half s w) (passed (arrived_from (layouts_of settings) (machines settings w) s)) h.0 (sym (ap given (halves settings w s)) ∙ h.1)

pub link_pulled : (late : ℕ) (settings : Role → OpenSettings) (w : Trace Step) (s : Role) → LinkNet late settings w
    → PulledWasGiven (layouts_of settings) (machines settings w) s → LinkPulled w s
link_pulled late settings w s net h =
    let same : pulled (half (other s) (machines settings w)) ≡ pulled (half (other s) w) =
    ap pulled (halves settings w (other s)) ∙ pulled_same (settings (other s)) (half (other s) w) (net.faithful (other s)) in
    given_front (settings s) (half s w) (pulled (half (other s) w)) h.0 (sym (ap given (halves settings w s)) ∙ h.1 ∙ ap (λ xs. xs ++ h.0) same)
