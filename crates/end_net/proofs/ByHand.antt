-- The two ends by hand, of which no link was opened.
use Rattle.std.proofs.Common.{◌≡◌, ℕ, refl, sym, subst, ◌∙◌}
use Rattle.mt_base.specs.declared.kinds.Kind.{Kind}
use Rattle.mt_base.specs.declared.kinds.Kind.TheVariants.{Reliable, Lossy}
use Rattle.mt_base.specs.declared.kinds.Role.{Role}
use Rattle.mt_base.specs.declared.kinds.Role.TheVariants.{Server, Client}
use Rattle.mt_base.specs.Trace.{Trace, Start, ◌▷◌}
use Rattle.carrier.specs.Joined.{Step, At, half}
use Rattle.udp_open.specs.declared.settings.OpenSettings.{OpenSettings}
use Rattle.udp_open.specs.OneLink.{one_link, one_settings}
use Rattle.udp_open.specs.TwoLinks.{LinkNet}
use Rattle.lossy_mode.specs.OneLossy.{lossy_settings, one_lossy}
use Rattle.lossy_mode.specs.TwoLossy.{LossyNet}
use Rattle.end_calls.specs.Calls.{Entry}
use Rattle.end_calls.specs.Law.{EndTrace}
use Rattle.end_calls.specs.Links.{linked}
use Rattle.end_calls.specs.Net.{IsJoined, Net, at}
use Rattle.end_calls.specs.Session.{capable}
use Rattle.end_net.specs.Example.{settings_by_hand}
use Rattle.end_net.specs.Network.{Network, steps}
use Rattle.end_wires.specs.MainStreams.{MainInOrder}
use Rattle.end_net.proofs.Halves.{half_at}

-- ---- links without a call

link_start : (late : ℕ) (settings : Role → OpenSettings) (v : Trace Step) → LinkNet late settings v → LinkNet late settings Start
link_start late settings v n = record {
  roles = n.roles;
  kinds = n.kinds;
  versions = n.versions;
  initials = n.initials;
  hashes = n.hashes;
  in_time = n.in_time;
  faithful = λ s. tt;
  timely = tt;
}

lossy_start : (late : ℕ) (settings : Role → OpenSettings) (v : Trace Step) → LossyNet late settings v → LossyNet late settings Start
lossy_start late settings v n = record {
  roles = n.roles;
  kind = n.kind;
  versions = n.versions;
  initials = n.initials;
  in_time = n.in_time;
  thin = λ s. tt;
  timely = tt;
}

none_at : (v : Trace Step) → half Server v ≡ Start → half Client v ≡ Start → v ≡ Start
none_at Start s c = refl
none_at (v ▷ At Server e) s c = absurd (let no : half Server v ▷ e ≡ Start = s in cc)
none_at (v ▷ At Client e) s c = absurd (let no : half Client v ▷ e ≡ Start = c in cc)

linked_none : (kind : Kind) (side : Role) → linked kind side (at side capable) ≡ Start
unfolding Rattle.end_calls.specs.Streams.with_main Rattle.end_calls.specs.Streams.with_tunnel Rattle.tunnel_pdus.specs.Reading.frame_reading Rattle.tunnel_pdus.specs.Reading.frame_at Rattle.tunnel_pdus.specs.Reading.kind_at Rattle.tunnel_pdus.specs.Reading.frame_length_at Rattle.tunnel_pdus.specs.Reading.request_at Rattle.tunnel_pdus.specs.Reading.response_at Rattle.tunnel_pdus.specs.Reading.channel_at Rattle.tunnel_pdus.specs.Reading.reading Rattle.tunnel_pdus.specs.Reading.pdu_at Rattle.tunnel_pdus.specs.Reading.action_at Rattle.tunnel_pdus.specs.Reading.length_at Rattle.tunnel_pdus.specs.Reading.header_at Rattle.tunnel_pdus.specs.Reading.sub_headers_at Rattle.tunnel_pdus.specs.Reading.sub_headers_within Rattle.tunnel_pdus.specs.Reading.pdu_in Rattle.dvc_pdus.specs.Reading.reading Rattle.dvc_pdus.specs.Reading.pdu_at Rattle.dvc_pdus.specs.Reading.body_at Rattle.dvc_pdus.specs.Reading.capabilities_at Rattle.dvc_pdus.specs.Reading.charges_at Rattle.dvc_pdus.specs.Reading.ended Rattle.dvc_pdus.specs.Reading.id_at Rattle.dvc_pdus.specs.Reading.create_request_at Rattle.dvc_pdus.specs.Reading.create_response_at Rattle.dvc_pdus.specs.Reading.name_at Rattle.dvc_pdus.specs.Reading.name_to Rattle.dvc_pdus.specs.Reading.data_at Rattle.dvc_pdus.specs.Reading.sync_request_at Rattle.dvc_pdus.specs.Reading.sync_length_at Rattle.dvc_pdus.specs.Reading.items_at Rattle.dvc_pdus.specs.Reading.list_at Rattle.dvc_pdus.specs.Reading.kind_at Rattle.dvc_pdus.specs.Reading.number_at
linked_none Reliable Server = refl
linked_none Reliable Client = refl
linked_none Lossy Server = refl
linked_none Lossy Client = refl

steps_none : (kind : Kind) → steps kind capable ≡ Start
steps_none kind = none_at (steps kind capable) (half_at kind capable Server ∙ linked_none kind Server) (half_at kind capable Client ∙ linked_none kind Client)

-- ---- the ends

main_of : (w : Trace (Role × Entry)) → Net w → MainInOrder w
main_of Start n = tt
main_of (w ▷ call) n = (n.0.main, main_of w n.1)

end_of : (role : Role) → IsJoined capable → EndTrace role (at role capable)
end_of Server j = j.server
end_of Client j = j.client

pub by_hand : Net capable → LinkNet 1024 one_settings one_link → LossyNet 1024 lossy_settings one_lossy → Network 1024 settings_by_hand capable
by_hand n reliable lossy = record {
  ends = λ role. end_of role n.0;
  main = main_of capable n;
  reliable = subst (λ v. LinkNet 1024 one_settings v) (sym (steps_none Reliable)) (link_start 1024 one_settings one_link reliable);
  lossy = subst (λ v. LossyNet 1024 lossy_settings v) (sym (steps_none Lossy)) (lossy_start 1024 lossy_settings one_lossy lossy);
}
