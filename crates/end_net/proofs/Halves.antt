-- One end of a link of both: its calls are those that its end makes.
use Rattle.std.proofs.Common.{◌≡◌, List, [], ◌∷◌, refl, ap, ◌∙◌}
use Rattle.mt_base.specs.declared.kinds.Kind.{Kind}
use Rattle.mt_base.specs.declared.kinds.Role.{Role}
use Rattle.mt_base.specs.declared.kinds.Role.TheVariants.{Server, Client}
use Rattle.mt_base.specs.Ends.{other}
use Rattle.mt_base.specs.Trace.{Trace, Start, ◌▷◌}
use Rattle.carrier.specs.Entries as link
use Rattle.carrier.specs.Joined.{Step, At, half}
use Rattle.udp_open.specs.LinkTrace.{with_entries}
use Rattle.udp_open.specs.TwoLinks.{with_steps}
use Rattle.end_calls.specs.Calls.{Entry}
use Rattle.end_calls.specs.Links.{linked}
use Rattle.end_calls.specs.Net.{at}
use Rattle.end_net.specs.Network.{made_by, steps}
use Rattle.end_net.proofs.Adding.{with_made}

half_same : (side : Role) (v : Trace Step) (es : List link.Entry) → half side (with_steps v side es) ≡ with_entries (half side v) es
half_same side v [] = refl
half_same Server v (e ∷ es) = half_same Server (v ▷ At Server e) es
half_same Client v (e ∷ es) = half_same Client (v ▷ At Client e) es

half_other : (side : Role) (v : Trace Step) (es : List link.Entry) → half (other side) (with_steps v side es) ≡ half (other side) v
half_other side v [] = refl
half_other Server v (e ∷ es) = half_other Server (v ▷ At Server e) es
half_other Client v (e ∷ es) = half_other Client (v ▷ At Client e) es

pub half_at : (kind : Kind) (w : Trace (Role × Entry)) (side : Role) → half side (steps kind w) ≡ linked kind side (at side w)
half_at kind Start side = refl
half_at kind (w ▷ (Server, entry)) Server =
    let es = made_by kind Server (at Server w) entry in
    half_same Server (steps kind w) es ∙ ap (λ t. with_entries t es) (half_at kind w Server) ∙ with_made kind Server (at Server w) entry
half_at kind (w ▷ (Client, entry)) Client =
    let es = made_by kind Client (at Client w) entry in
    half_same Client (steps kind w) es ∙ ap (λ t. with_entries t es) (half_at kind w Client) ∙ with_made kind Client (at Client w) entry
half_at kind (w ▷ (Server, entry)) Client = half_other Server (steps kind w) (made_by kind Server (at Server w) entry) ∙ half_at kind w Client
half_at kind (w ▷ (Client, entry)) Server = half_other Client (steps kind w) (made_by kind Client (at Client w) entry) ∙ half_at kind w Server
