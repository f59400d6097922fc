-- The two ends by hand, place by place.
use Rattle.std.proofs.Common.{[], take, drop, None, refl, arith}
use Rattle.mt_base.specs.declared.kinds.Kind.TheVariants.{Reliable, Lossy}
use Rattle.mt_base.specs.declared.kinds.Role.{Role}
use Rattle.mt_base.specs.declared.kinds.Role.TheVariants.{Server, Client}
use Rattle.mt_base.specs.Ends.{other}
use Rattle.mt_base.specs.Prefix.{IsPrefixOf, IsPickOf, none}
use Rattle.mt_base.specs.Trace.{Trace, Start, ◌▷◌}
use Rattle.carrier.specs.Entries.{given, pulled, posted}
use Rattle.mt_endpoint.specs.Acts.{Began}
use Rattle.end_calls.specs.Calls.{Entry, Own, MainIn, MainOut}
use Rattle.end_calls.specs.Law.{EndTrace, IsCall, IsWithin}
use Rattle.end_calls.specs.Net.{at, handed_out, main_in, main_out, link_of_side, IsJoined, Net}
use Rattle.end_calls.specs.Session.{capabilities, capabilities_back, capable, Shown}

-- the law of an end, unopened
Law : Role → Trace Entry → Type 0
Law role t = EndTrace role t

law_start : (role : Role) → Law role Start
unfolding Law
law_start role = tt

law_more : (role : Role) (t : Trace Entry) (entry : Entry) → IsCall role t entry → IsWithin role (t ▷ entry) → Law role t → Law role (t ▷ entry)
unfolding Law
law_more role t entry c w l = (c, w, l)

law_is : (role : Role) (t : Trace Entry) → Law role t → EndTrace role t
unfolding Law
law_is role t l = l

joined : (w : Trace (Role × Entry)) → Law Server (at Server w) → Law Client (at Client w) → IsPrefixOf (main_in Server w) (main_out Client w) → IsPrefixOf (main_in Client w) (main_out Server w)
    → IsPrefixOf (pulled (link_of_side Reliable Server w)) (given (link_of_side Reliable Client w)) → IsPrefixOf (pulled (link_of_side Reliable Client w)) (given (link_of_side Reliable Server w))
    → IsPickOf (handed_out (link_of_side Lossy Server w)) (posted (link_of_side Lossy Client w)) → IsPickOf (handed_out (link_of_side Lossy Client w)) (posted (link_of_side Lossy Server w)) → IsJoined w
joined w s c a b d e f g = record { server = law_is Server (at Server w) s; client = law_is Client (at Client w) c; main = by_main; reliable = by_reliable; lossy = by_lossy } where
  by_main : (role : Role) → IsPrefixOf (main_in role w) (main_out (other role) w)
  by_main Server = a
  by_main Client = b

  by_reliable : (role : Role) → IsPrefixOf (pulled (link_of_side Reliable role w)) (given (link_of_side Reliable (other role) w))
  by_reliable Server = d
  by_reliable Client = e

  by_lossy : (role : Role) → IsPickOf (handed_out (link_of_side Lossy role w)) (posted (link_of_side Lossy (other role) w))
  by_lossy Server = f
  by_lossy Client = g

-- the law of two ends, unopened
Kept : Trace (Role × Entry) → Type 0
Kept w = Net w

kept_more : (w : Trace (Role × Entry)) (call : Role × Entry) → IsJoined (w ▷ call) → Kept w → Kept (w ▷ call)
unfolding Kept
kept_more w call j k = (j, k)

kept_is : (w : Trace (Role × Entry)) → Kept w → Net w
unfolding Kept
kept_is w k = k

net_0 : Kept Start
unfolding Kept
net_0 = joined Start (law_start Server) (law_start Client) ([], refl) ([], refl) ([], refl) ([], refl) none none

law_1 : Law Server (at Server (Start ▷ (Server, Own Began)))
unfolding Rattle.end_calls.specs.Streams.with_main Rattle.end_calls.specs.Streams.with_tunnel Rattle.tunnel_pdus.specs.Reading.frame_reading Rattle.tunnel_pdus.specs.Reading.frame_at Rattle.tunnel_pdus.specs.Reading.kind_at Rattle.tunnel_pdus.specs.Reading.frame_length_at Rattle.tunnel_pdus.specs.Reading.request_at Rattle.tunnel_pdus.specs.Reading.response_at Rattle.tunnel_pdus.specs.Reading.channel_at Rattle.tunnel_pdus.specs.Reading.reading Rattle.tunnel_pdus.specs.Reading.pdu_at Rattle.tunnel_pdus.specs.Reading.action_at Rattle.tunnel_pdus.specs.Reading.length_at Rattle.tunnel_pdus.specs.Reading.header_at Rattle.tunnel_pdus.specs.Reading.sub_headers_at Rattle.tunnel_pdus.specs.Reading.sub_headers_within Rattle.tunnel_pdus.specs.Reading.pdu_in Rattle.dvc_pdus.specs.Reading.reading Rattle.dvc_pdus.specs.Reading.pdu_at Rattle.dvc_pdus.specs.Reading.body_at Rattle.dvc_pdus.specs.Reading.capabilities_at Rattle.dvc_pdus.specs.Reading.charges_at Rattle.dvc_pdus.specs.Reading.ended Rattle.dvc_pdus.specs.Reading.id_at Rattle.dvc_pdus.specs.Reading.create_request_at Rattle.dvc_pdus.specs.Reading.create_response_at Rattle.dvc_pdus.specs.Reading.name_at Rattle.dvc_pdus.specs.Reading.name_to Rattle.dvc_pdus.specs.Reading.data_at Rattle.dvc_pdus.specs.Reading.sync_request_at Rattle.dvc_pdus.specs.Reading.sync_length_at Rattle.dvc_pdus.specs.Reading.items_at Rattle.dvc_pdus.specs.Reading.list_at Rattle.dvc_pdus.specs.Reading.kind_at Rattle.dvc_pdus.specs.Reading.number_at
law_1 = law_more Server (at Server Start) (Own Began) ((tt, refl, tt, refl, tt)) (record { unsent_fits = omega arith; reliable_fits = omega arith; lossy_fits = omega arith }) (law_start Server)

net_1 : Kept (Start ▷ (Server, Own Began))
unfolding Rattle.end_calls.specs.Streams.with_main Rattle.end_calls.specs.Streams.with_tunnel Rattle.tunnel_pdus.specs.Reading.frame_reading Rattle.tunnel_pdus.specs.Reading.frame_at Rattle.tunnel_pdus.specs.Reading.kind_at Rattle.tunnel_pdus.specs.Reading.frame_length_at Rattle.tunnel_pdus.specs.Reading.request_at Rattle.tunnel_pdus.specs.Reading.response_at Rattle.tunnel_pdus.specs.Reading.channel_at Rattle.tunnel_pdus.specs.Reading.reading Rattle.tunnel_pdus.specs.Reading.pdu_at Rattle.tunnel_pdus.specs.Reading.action_at Rattle.tunnel_pdus.specs.Reading.length_at Rattle.tunnel_pdus.specs.Reading.header_at Rattle.tunnel_pdus.specs.Reading.sub_headers_at Rattle.tunnel_pdus.specs.Reading.sub_headers_within Rattle.tunnel_pdus.specs.Reading.pdu_in Rattle.dvc_pdus.specs.Reading.reading Rattle.dvc_pdus.specs.Reading.pdu_at Rattle.dvc_pdus.specs.Reading.body_at Rattle.dvc_pdus.specs.Reading.capabilities_at Rattle.dvc_pdus.specs.Reading.charges_at Rattle.dvc_pdus.specs.Reading.ended Rattle.dvc_pdus.specs.Reading.id_at Rattle.dvc_pdus.specs.Reading.create_request_at Rattle.dvc_pdus.specs.Reading.create_response_at Rattle.dvc_pdus.specs.Reading.name_at Rattle.dvc_pdus.specs.Reading.name_to Rattle.dvc_pdus.specs.Reading.data_at Rattle.dvc_pdus.specs.Reading.sync_request_at Rattle.dvc_pdus.specs.Reading.sync_length_at Rattle.dvc_pdus.specs.Reading.items_at Rattle.dvc_pdus.specs.Reading.list_at Rattle.dvc_pdus.specs.Reading.kind_at Rattle.dvc_pdus.specs.Reading.number_at
net_1 = kept_more Start (Server, Own Began) (joined (Start ▷ (Server, Own Began)) (law_1) (law_start Client) (_, refl) (_, refl) (_, refl) (_, refl) none none) net_0

law_2 : Law Client (at Client (Start ▷ (Server, Own Began) ▷ (Client, Own Began)))
unfolding Rattle.end_calls.specs.Streams.with_main Rattle.end_calls.specs.Streams.with_tunnel Rattle.tunnel_pdus.specs.Reading.frame_reading Rattle.tunnel_pdus.specs.Reading.frame_at Rattle.tunnel_pdus.specs.Reading.kind_at Rattle.tunnel_pdus.specs.Reading.frame_length_at Rattle.tunnel_pdus.specs.Reading.request_at Rattle.tunnel_pdus.specs.Reading.response_at Rattle.tunnel_pdus.specs.Reading.channel_at Rattle.tunnel_pdus.specs.Reading.reading Rattle.tunnel_pdus.specs.Reading.pdu_at Rattle.tunnel_pdus.specs.Reading.action_at Rattle.tunnel_pdus.specs.Reading.length_at Rattle.tunnel_pdus.specs.Reading.header_at Rattle.tunnel_pdus.specs.Reading.sub_headers_at Rattle.tunnel_pdus.specs.Reading.sub_headers_within Rattle.tunnel_pdus.specs.Reading.pdu_in Rattle.dvc_pdus.specs.Reading.reading Rattle.dvc_pdus.specs.Reading.pdu_at Rattle.dvc_pdus.specs.Reading.body_at Rattle.dvc_pdus.specs.Reading.capabilities_at Rattle.dvc_pdus.specs.Reading.charges_at Rattle.dvc_pdus.specs.Reading.ended Rattle.dvc_pdus.specs.Reading.id_at Rattle.dvc_pdus.specs.Reading.create_request_at Rattle.dvc_pdus.specs.Reading.create_response_at Rattle.dvc_pdus.specs.Reading.name_at Rattle.dvc_pdus.specs.Reading.name_to Rattle.dvc_pdus.specs.Reading.data_at Rattle.dvc_pdus.specs.Reading.sync_request_at Rattle.dvc_pdus.specs.Reading.sync_length_at Rattle.dvc_pdus.specs.Reading.items_at Rattle.dvc_pdus.specs.Reading.list_at Rattle.dvc_pdus.specs.Reading.kind_at Rattle.dvc_pdus.specs.Reading.number_at
law_2 = law_more Client (at Client (Start ▷ (Server, Own Began))) (Own Began) ((tt, refl, tt, refl, tt)) (record { unsent_fits = omega arith; reliable_fits = omega arith; lossy_fits = omega arith }) (law_start Client)

net_2 : Kept (Start ▷ (Server, Own Began) ▷ (Client, Own Began))
unfolding Rattle.end_calls.specs.Streams.with_main Rattle.end_calls.specs.Streams.with_tunnel Rattle.tunnel_pdus.specs.Reading.frame_reading Rattle.tunnel_pdus.specs.Reading.frame_at Rattle.tunnel_pdus.specs.Reading.kind_at Rattle.tunnel_pdus.specs.Reading.frame_length_at Rattle.tunnel_pdus.specs.Reading.request_at Rattle.tunnel_pdus.specs.Reading.response_at Rattle.tunnel_pdus.specs.Reading.channel_at Rattle.tunnel_pdus.specs.Reading.reading Rattle.tunnel_pdus.specs.Reading.pdu_at Rattle.tunnel_pdus.specs.Reading.action_at Rattle.tunnel_pdus.specs.Reading.length_at Rattle.tunnel_pdus.specs.Reading.header_at Rattle.tunnel_pdus.specs.Reading.sub_headers_at Rattle.tunnel_pdus.specs.Reading.sub_headers_within Rattle.tunnel_pdus.specs.Reading.pdu_in Rattle.dvc_pdus.specs.Reading.reading Rattle.dvc_pdus.specs.Reading.pdu_at Rattle.dvc_pdus.specs.Reading.body_at Rattle.dvc_pdus.specs.Reading.capabilities_at Rattle.dvc_pdus.specs.Reading.charges_at Rattle.dvc_pdus.specs.Reading.ended Rattle.dvc_pdus.specs.Reading.id_at Rattle.dvc_pdus.specs.Reading.create_request_at Rattle.dvc_pdus.specs.Reading.create_response_at Rattle.dvc_pdus.specs.Reading.name_at Rattle.dvc_pdus.specs.Reading.name_to Rattle.dvc_pdus.specs.Reading.data_at Rattle.dvc_pdus.specs.Reading.sync_request_at Rattle.dvc_pdus.specs.Reading.sync_length_at Rattle.dvc_pdus.specs.Reading.items_at Rattle.dvc_pdus.specs.Reading.list_at Rattle.dvc_pdus.specs.Reading.kind_at Rattle.dvc_pdus.specs.Reading.number_at
net_2 = kept_more (Start ▷ (Server, Own Began)) (Client, Own Began) (joined (Start ▷ (Server, Own Began) ▷ (Client, Own Began)) (law_1) (law_2) (_, refl) (_, refl) (_, refl) (_, refl) none none) net_1

law_3 : Law Server (at Server (Start ▷ (Server, Own Began) ▷ (Client, Own Began) ▷ (Server, MainOut 15 capabilities)))
unfolding Rattle.end_calls.specs.Streams.with_main Rattle.end_calls.specs.Streams.with_tunnel Rattle.tunnel_pdus.specs.Reading.frame_reading Rattle.tunnel_pdus.specs.Reading.frame_at Rattle.tunnel_pdus.specs.Reading.kind_at Rattle.tunnel_pdus.specs.Reading.frame_length_at Rattle.tunnel_pdus.specs.Reading.request_at Rattle.tunnel_pdus.specs.Reading.response_at Rattle.tunnel_pdus.specs.Reading.channel_at Rattle.tunnel_pdus.specs.Reading.reading Rattle.tunnel_pdus.specs.Reading.pdu_at Rattle.tunnel_pdus.specs.Reading.action_at Rattle.tunnel_pdus.specs.Reading.length_at Rattle.tunnel_pdus.specs.Reading.header_at Rattle.tunnel_pdus.specs.Reading.sub_headers_at Rattle.tunnel_pdus.specs.Reading.sub_headers_within Rattle.tunnel_pdus.specs.Reading.pdu_in Rattle.dvc_pdus.specs.Reading.reading Rattle.dvc_pdus.specs.Reading.pdu_at Rattle.dvc_pdus.specs.Reading.body_at Rattle.dvc_pdus.specs.Reading.capabilities_at Rattle.dvc_pdus.specs.Reading.charges_at Rattle.dvc_pdus.specs.Reading.ended Rattle.dvc_pdus.specs.Reading.id_at Rattle.dvc_pdus.specs.Reading.create_request_at Rattle.dvc_pdus.specs.Reading.create_response_at Rattle.dvc_pdus.specs.Reading.name_at Rattle.dvc_pdus.specs.Reading.name_to Rattle.dvc_pdus.specs.Reading.data_at Rattle.dvc_pdus.specs.Reading.sync_request_at Rattle.dvc_pdus.specs.Reading.sync_length_at Rattle.dvc_pdus.specs.Reading.items_at Rattle.dvc_pdus.specs.Reading.list_at Rattle.dvc_pdus.specs.Reading.kind_at Rattle.dvc_pdus.specs.Reading.number_at
law_3 = law_more Server (at Server (Start ▷ (Server, Own Began) ▷ (Client, Own Began))) (MainOut 15 capabilities) (refl) (record { unsent_fits = omega arith; reliable_fits = omega arith; lossy_fits = omega arith }) (law_1)

net_3 : Kept (Start ▷ (Server, Own Began) ▷ (Client, Own Began) ▷ (Server, MainOut 15 capabilities))
unfolding Rattle.end_calls.specs.Streams.with_main Rattle.end_calls.specs.Streams.with_tunnel Rattle.tunnel_pdus.specs.Reading.frame_reading Rattle.tunnel_pdus.specs.Reading.frame_at Rattle.tunnel_pdus.specs.Reading.kind_at Rattle.tunnel_pdus.specs.Reading.frame_length_at Rattle.tunnel_pdus.specs.Reading.request_at Rattle.tunnel_pdus.specs.Reading.response_at Rattle.tunnel_pdus.specs.Reading.channel_at Rattle.tunnel_pdus.specs.Reading.reading Rattle.tunnel_pdus.specs.Reading.pdu_at Rattle.tunnel_pdus.specs.Reading.action_at Rattle.tunnel_pdus.specs.Reading.length_at Rattle.tunnel_pdus.specs.Reading.header_at Rattle.tunnel_pdus.specs.Reading.sub_headers_at Rattle.tunnel_pdus.specs.Reading.sub_headers_within Rattle.tunnel_pdus.specs.Reading.pdu_in Rattle.dvc_pdus.specs.Reading.reading Rattle.dvc_pdus.specs.Reading.pdu_at Rattle.dvc_pdus.specs.Reading.body_at Rattle.dvc_pdus.specs.Reading.capabilities_at Rattle.dvc_pdus.specs.Reading.charges_at Rattle.dvc_pdus.specs.Reading.ended Rattle.dvc_pdus.specs.Reading.id_at Rattle.dvc_pdus.specs.Reading.create_request_at Rattle.dvc_pdus.specs.Reading.create_response_at Rattle.dvc_pdus.specs.Reading.name_at Rattle.dvc_pdus.specs.Reading.name_to Rattle.dvc_pdus.specs.Reading.data_at Rattle.dvc_pdus.specs.Reading.sync_request_at Rattle.dvc_pdus.specs.Reading.sync_length_at Rattle.dvc_pdus.specs.Reading.items_at Rattle.dvc_pdus.specs.Reading.list_at Rattle.dvc_pdus.specs.Reading.kind_at Rattle.dvc_pdus.specs.Reading.number_at
net_3 = kept_more (Start ▷ (Server, Own Began) ▷ (Client, Own Began)) (Server, MainOut 15 capabilities) (joined (Start ▷ (Server, Own Began) ▷ (Client, Own Began) ▷ (Server, MainOut 15 capabilities)) (law_3) (law_2) (_, refl) (_, refl) (_, refl) (_, refl) none none) net_2

law_4 : Law Client (at Client (Start ▷ (Server, Own Began) ▷ (Client, Own Began) ▷ (Server, MainOut 15 capabilities) ▷ (Client, MainIn (take 4 capabilities) 4 0 None)))
unfolding Rattle.end_calls.specs.Streams.with_main Rattle.end_calls.specs.Streams.with_tunnel Rattle.tunnel_pdus.specs.Reading.frame_reading Rattle.tunnel_pdus.specs.Reading.frame_at Rattle.tunnel_pdus.specs.Reading.kind_at Rattle.tunnel_pdus.specs.Reading.frame_length_at Rattle.tunnel_pdus.specs.Reading.request_at Rattle.tunnel_pdus.specs.Reading.response_at Rattle.tunnel_pdus.specs.Reading.channel_at Rattle.tunnel_pdus.specs.Reading.reading Rattle.tunnel_pdus.specs.Reading.pdu_at Rattle.tunnel_pdus.specs.Reading.action_at Rattle.tunnel_pdus.specs.Reading.length_at Rattle.tunnel_pdus.specs.Reading.header_at Rattle.tunnel_pdus.specs.Reading.sub_headers_at Rattle.tunnel_pdus.specs.Reading.sub_headers_within Rattle.tunnel_pdus.specs.Reading.pdu_in Rattle.dvc_pdus.specs.Reading.reading Rattle.dvc_pdus.specs.Reading.pdu_at Rattle.dvc_pdus.specs.Reading.body_at Rattle.dvc_pdus.specs.Reading.capabilities_at Rattle.dvc_pdus.specs.Reading.charges_at Rattle.dvc_pdus.specs.Reading.ended Rattle.dvc_pdus.specs.Reading.id_at Rattle.dvc_pdus.specs.Reading.create_request_at Rattle.dvc_pdus.specs.Reading.create_response_at Rattle.dvc_pdus.specs.Reading.name_at Rattle.dvc_pdus.specs.Reading.name_to Rattle.dvc_pdus.specs.Reading.data_at Rattle.dvc_pdus.specs.Reading.sync_request_at Rattle.dvc_pdus.specs.Reading.sync_length_at Rattle.dvc_pdus.specs.Reading.items_at Rattle.dvc_pdus.specs.Reading.list_at Rattle.dvc_pdus.specs.Reading.kind_at Rattle.dvc_pdus.specs.Reading.number_at
law_4 = law_more Client (at Client (Start ▷ (Server, Own Began) ▷ (Client, Own Began) ▷ (Server, MainOut 15 capabilities))) (MainIn (take 4 capabilities) 4 0 None) ((refl, refl, tt)) (record { unsent_fits = omega arith; reliable_fits = omega arith; lossy_fits = omega arith }) (law_2)

net_4 : Kept (Start ▷ (Server, Own Began) ▷ (Client, Own Began) ▷ (Server, MainOut 15 capabilities) ▷ (Client, MainIn (take 4 capabilities) 4 0 None))
unfolding Rattle.end_calls.specs.Streams.with_main Rattle.end_calls.specs.Streams.with_tunnel Rattle.tunnel_pdus.specs.Reading.frame_reading Rattle.tunnel_pdus.specs.Reading.frame_at Rattle.tunnel_pdus.specs.Reading.kind_at Rattle.tunnel_pdus.specs.Reading.frame_length_at Rattle.tunnel_pdus.specs.Reading.request_at Rattle.tunnel_pdus.specs.Reading.response_at Rattle.tunnel_pdus.specs.Reading.channel_at Rattle.tunnel_pdus.specs.Reading.reading Rattle.tunnel_pdus.specs.Reading.pdu_at Rattle.tunnel_pdus.specs.Reading.action_at Rattle.tunnel_pdus.specs.Reading.length_at Rattle.tunnel_pdus.specs.Reading.header_at Rattle.tunnel_pdus.specs.Reading.sub_headers_at Rattle.tunnel_pdus.specs.Reading.sub_headers_within Rattle.tunnel_pdus.specs.Reading.pdu_in Rattle.dvc_pdus.specs.Reading.reading Rattle.dvc_pdus.specs.Reading.pdu_at Rattle.dvc_pdus.specs.Reading.body_at Rattle.dvc_pdus.specs.Reading.capabilities_at Rattle.dvc_pdus.specs.Reading.charges_at Rattle.dvc_pdus.specs.Reading.ended Rattle.dvc_pdus.specs.Reading.id_at Rattle.dvc_pdus.specs.Reading.create_request_at Rattle.dvc_pdus.specs.Reading.create_response_at Rattle.dvc_pdus.specs.Reading.name_at Rattle.dvc_pdus.specs.Reading.name_to Rattle.dvc_pdus.specs.Reading.data_at Rattle.dvc_pdus.specs.Reading.sync_request_at Rattle.dvc_pdus.specs.Reading.sync_length_at Rattle.dvc_pdus.specs.Reading.items_at Rattle.dvc_pdus.specs.Reading.list_at Rattle.dvc_pdus.specs.Reading.kind_at Rattle.dvc_pdus.specs.Reading.number_at
net_4 = kept_more (Start ▷ (Server, Own Began) ▷ (Client, Own Began) ▷ (Server, MainOut 15 capabilities)) (Client, MainIn (take 4 capabilities) 4 0 None) (joined (Start ▷ (Server, Own Began) ▷ (Client, Own Began) ▷ (Server, MainOut 15 capabilities) ▷ (Client, MainIn (take 4 capabilities) 4 0 None)) (law_3) (law_4) (_, refl) (_, refl) (_, refl) (_, refl) none none) net_3

law_5 : Law Client (at Client (Start ▷ (Server, Own Began) ▷ (Client, Own Began) ▷ (Server, MainOut 15 capabilities) ▷ (Client, MainIn (take 4 capabilities) 4 0 None) ▷ (Client, MainIn (drop 4 capabilities) 11 0 None)))
unfolding Rattle.end_calls.specs.Streams.with_main Rattle.end_calls.specs.Streams.with_tunnel Rattle.tunnel_pdus.specs.Reading.frame_reading Rattle.tunnel_pdus.specs.Reading.frame_at Rattle.tunnel_pdus.specs.Reading.kind_at Rattle.tunnel_pdus.specs.Reading.frame_length_at Rattle.tunnel_pdus.specs.Reading.request_at Rattle.tunnel_pdus.specs.Reading.response_at Rattle.tunnel_pdus.specs.Reading.channel_at Rattle.tunnel_pdus.specs.Reading.reading Rattle.tunnel_pdus.specs.Reading.pdu_at Rattle.tunnel_pdus.specs.Reading.action_at Rattle.tunnel_pdus.specs.Reading.length_at Rattle.tunnel_pdus.specs.Reading.header_at Rattle.tunnel_pdus.specs.Reading.sub_headers_at Rattle.tunnel_pdus.specs.Reading.sub_headers_within Rattle.tunnel_pdus.specs.Reading.pdu_in Rattle.dvc_pdus.specs.Reading.reading Rattle.dvc_pdus.specs.Reading.pdu_at Rattle.dvc_pdus.specs.Reading.body_at Rattle.dvc_pdus.specs.Reading.capabilities_at Rattle.dvc_pdus.specs.Reading.charges_at Rattle.dvc_pdus.specs.Reading.ended Rattle.dvc_pdus.specs.Reading.id_at Rattle.dvc_pdus.specs.Reading.create_request_at Rattle.dvc_pdus.specs.Reading.create_response_at Rattle.dvc_pdus.specs.Reading.name_at Rattle.dvc_pdus.specs.Reading.name_to Rattle.dvc_pdus.specs.Reading.data_at Rattle.dvc_pdus.specs.Reading.sync_request_at Rattle.dvc_pdus.specs.Reading.sync_length_at Rattle.dvc_pdus.specs.Reading.items_at Rattle.dvc_pdus.specs.Reading.list_at Rattle.dvc_pdus.specs.Reading.kind_at Rattle.dvc_pdus.specs.Reading.number_at
law_5 = law_more Client (at Client (Start ▷ (Server, Own Began) ▷ (Client, Own Began) ▷ (Server, MainOut 15 capabilities) ▷ (Client, MainIn (take 4 capabilities) 4 0 None))) (MainIn (drop 4 capabilities) 11 0 None) ((refl, refl, tt)) (record { unsent_fits = omega arith; reliable_fits = omega arith; lossy_fits = omega arith }) (law_4)

net_5 : Kept (Start ▷ (Server, Own Began) ▷ (Client, Own Began) ▷ (Server, MainOut 15 capabilities) ▷ (Client, MainIn (take 4 capabilities) 4 0 None) ▷ (Client, MainIn (drop 4 capabilities) 11 0 None))
unfolding Rattle.end_calls.specs.Streams.with_main Rattle.end_calls.specs.Streams.with_tunnel Rattle.tunnel_pdus.specs.Reading.frame_reading Rattle.tunnel_pdus.specs.Reading.frame_at Rattle.tunnel_pdus.specs.Reading.kind_at Rattle.tunnel_pdus.specs.Reading.frame_length_at Rattle.tunnel_pdus.specs.Reading.request_at Rattle.tunnel_pdus.specs.Reading.response_at Rattle.tunnel_pdus.specs.Reading.channel_at Rattle.tunnel_pdus.specs.Reading.reading Rattle.tunnel_pdus.specs.Reading.pdu_at Rattle.tunnel_pdus.specs.Reading.action_at Rattle.tunnel_pdus.specs.Reading.length_at Rattle.tunnel_pdus.specs.Reading.header_at Rattle.tunnel_pdus.specs.Reading.sub_headers_at Rattle.tunnel_pdus.specs.Reading.sub_headers_within Rattle.tunnel_pdus.specs.Reading.pdu_in Rattle.dvc_pdus.specs.Reading.reading Rattle.dvc_pdus.specs.Reading.pdu_at Rattle.dvc_pdus.specs.Reading.body_at Rattle.dvc_pdus.specs.Reading.capabilities_at Rattle.dvc_pdus.specs.Reading.charges_at Rattle.dvc_pdus.specs.Reading.ended Rattle.dvc_pdus.specs.Reading.id_at Rattle.dvc_pdus.specs.Reading.create_request_at Rattle.dvc_pdus.specs.Reading.create_response_at Rattle.dvc_pdus.specs.Reading.name_at Rattle.dvc_pdus.specs.Reading.name_to Rattle.dvc_pdus.specs.Reading.data_at Rattle.dvc_pdus.specs.Reading.sync_request_at Rattle.dvc_pdus.specs.Reading.sync_length_at Rattle.dvc_pdus.specs.Reading.items_at Rattle.dvc_pdus.specs.Reading.list_at Rattle.dvc_pdus.specs.Reading.kind_at Rattle.dvc_pdus.specs.Reading.number_at
net_5 = kept_more (Start ▷ (Server, Own Began) ▷ (Client, Own Began) ▷ (Server, MainOut 15 capabilities) ▷ (Client, MainIn (take 4 capabilities) 4 0 None)) (Client, MainIn (drop 4 capabilities) 11 0 None) (joined (Start ▷ (Server, Own Began) ▷ (Client, Own Began) ▷ (Server, MainOut 15 capabilities) ▷ (Client, MainIn (take 4 capabilities) 4 0 None) ▷ (Client, MainIn (drop 4 capabilities) 11 0 None)) (law_3) (law_5) (_, refl) (_, refl) (_, refl) (_, refl) none none) net_4

law_6 : Law Client (at Client (Start ▷ (Server, Own Began) ▷ (Client, Own Began) ▷ (Server, MainOut 15 capabilities) ▷ (Client, MainIn (take 4 capabilities) 4 0 None) ▷ (Client, MainIn (drop 4 capabilities) 11 0 None) ▷ (Client, MainOut 100 capabilities_back)))
unfolding Rattle.end_calls.specs.Streams.with_main Rattle.end_calls.specs.Streams.with_tunnel Rattle.tunnel_pdus.specs.Reading.frame_reading Rattle.tunnel_pdus.specs.Reading.frame_at Rattle.tunnel_pdus.specs.Reading.kind_at Rattle.tunnel_pdus.specs.Reading.frame_length_at Rattle.tunnel_pdus.specs.Reading.request_at Rattle.tunnel_pdus.specs.Reading.response_at Rattle.tunnel_pdus.specs.Reading.channel_at Rattle.tunnel_pdus.specs.Reading.reading Rattle.tunnel_pdus.specs.Reading.pdu_at Rattle.tunnel_pdus.specs.Reading.action_at Rattle.tunnel_pdus.specs.Reading.length_at Rattle.tunnel_pdus.specs.Reading.header_at Rattle.tunnel_pdus.specs.Reading.sub_headers_at Rattle.tunnel_pdus.specs.Reading.sub_headers_within Rattle.tunnel_pdus.specs.Reading.pdu_in Rattle.dvc_pdus.specs.Reading.reading Rattle.dvc_pdus.specs.Reading.pdu_at Rattle.dvc_pdus.specs.Reading.body_at Rattle.dvc_pdus.specs.Reading.capabilities_at Rattle.dvc_pdus.specs.Reading.charges_at Rattle.dvc_pdus.specs.Reading.ended Rattle.dvc_pdus.specs.Reading.id_at Rattle.dvc_pdus.specs.Reading.create_request_at Rattle.dvc_pdus.specs.Reading.create_response_at Rattle.dvc_pdus.specs.Reading.name_at Rattle.dvc_pdus.specs.Reading.name_to Rattle.dvc_pdus.specs.Reading.data_at Rattle.dvc_pdus.specs.Reading.sync_request_at Rattle.dvc_pdus.specs.Reading.sync_length_at Rattle.dvc_pdus.specs.Reading.items_at Rattle.dvc_pdus.specs.Reading.list_at Rattle.dvc_pdus.specs.Reading.kind_at Rattle.dvc_pdus.specs.Reading.number_at
law_6 = law_more Client (at Client (Start ▷ (Server, Own Began) ▷ (Client, Own Began) ▷ (Server, MainOut 15 capabilities) ▷ (Client, MainIn (take 4 capabilities) 4 0 None) ▷ (Client, MainIn (drop 4 capabilities) 11 0 None))) (MainOut 100 capabilities_back) (refl) (record { unsent_fits = omega arith; reliable_fits = omega arith; lossy_fits = omega arith }) (law_5)

net_6 : Kept (Start ▷ (Server, Own Began) ▷ (Client, Own Began) ▷ (Server, MainOut 15 capabilities) ▷ (Client, MainIn (take 4 capabilities) 4 0 None) ▷ (Client, MainIn (drop 4 capabilities) 11 0 None) ▷ (Client, MainOut 100 capabilities_back))
unfolding Rattle.end_calls.specs.Streams.with_main Rattle.end_calls.specs.Streams.with_tunnel Rattle.tunnel_pdus.specs.Reading.frame_reading Rattle.tunnel_pdus.specs.Reading.frame_at Rattle.tunnel_pdus.specs.Reading.kind_at Rattle.tunnel_pdus.specs.Reading.frame_length_at Rattle.tunnel_pdus.specs.Reading.request_at Rattle.tunnel_pdus.specs.Reading.response_at Rattle.tunnel_pdus.specs.Reading.channel_at Rattle.tunnel_pdus.specs.Reading.reading Rattle.tunnel_pdus.specs.Reading.pdu_at Rattle.tunnel_pdus.specs.Reading.action_at Rattle.tunnel_pdus.specs.Reading.length_at Rattle.tunnel_pdus.specs.Reading.header_at Rattle.tunnel_pdus.specs.Reading.sub_headers_at Rattle.tunnel_pdus.specs.Reading.sub_headers_within Rattle.tunnel_pdus.specs.Reading.pdu_in Rattle.dvc_pdus.specs.Reading.reading Rattle.dvc_pdus.specs.Reading.pdu_at Rattle.dvc_pdus.specs.Reading.body_at Rattle.dvc_pdus.specs.Reading.capabilities_at Rattle.dvc_pdus.specs.Reading.charges_at Rattle.dvc_pdus.specs.Reading.ended Rattle.dvc_pdus.specs.Reading.id_at Rattle.dvc_pdus.specs.Reading.create_request_at Rattle.dvc_pdus.specs.Reading.create_response_at Rattle.dvc_pdus.specs.Reading.name_at Rattle.dvc_pdus.specs.Reading.name_to Rattle.dvc_pdus.specs.Reading.data_at Rattle.dvc_pdus.specs.Reading.sync_request_at Rattle.dvc_pdus.specs.Reading.sync_length_at Rattle.dvc_pdus.specs.Reading.items_at Rattle.dvc_pdus.specs.Reading.list_at Rattle.dvc_pdus.specs.Reading.kind_at Rattle.dvc_pdus.specs.Reading.number_at
net_6 = kept_more (Start ▷ (Server, Own Began) ▷ (Client, Own Began) ▷ (Server, MainOut 15 capabilities) ▷ (Client, MainIn (take 4 capabilities) 4 0 None) ▷ (Client, MainIn (drop 4 capabilities) 11 0 None)) (Client, MainOut 100 capabilities_back) (joined (Start ▷ (Server, Own Began) ▷ (Client, Own Began) ▷ (Server, MainOut 15 capabilities) ▷ (Client, MainIn (take 4 capabilities) 4 0 None) ▷ (Client, MainIn (drop 4 capabilities) 11 0 None) ▷ (Client, MainOut 100 capabilities_back)) (law_3) (law_6) (_, refl) (_, refl) (_, refl) (_, refl) none none) net_5

law_7 : Law Server (at Server capable)
unfolding Rattle.end_calls.specs.Streams.with_main Rattle.end_calls.specs.Streams.with_tunnel Rattle.tunnel_pdus.specs.Reading.frame_reading Rattle.tunnel_pdus.specs.Reading.frame_at Rattle.tunnel_pdus.specs.Reading.kind_at Rattle.tunnel_pdus.specs.Reading.frame_length_at Rattle.tunnel_pdus.specs.Reading.request_at Rattle.tunnel_pdus.specs.Reading.response_at Rattle.tunnel_pdus.specs.Reading.channel_at Rattle.tunnel_pdus.specs.Reading.reading Rattle.tunnel_pdus.specs.Reading.pdu_at Rattle.tunnel_pdus.specs.Reading.action_at Rattle.tunnel_pdus.specs.Reading.length_at Rattle.tunnel_pdus.specs.Reading.header_at Rattle.tunnel_pdus.specs.Reading.sub_headers_at Rattle.tunnel_pdus.specs.Reading.sub_headers_within Rattle.tunnel_pdus.specs.Reading.pdu_in Rattle.dvc_pdus.specs.Reading.reading Rattle.dvc_pdus.specs.Reading.pdu_at Rattle.dvc_pdus.specs.Reading.body_at Rattle.dvc_pdus.specs.Reading.capabilities_at Rattle.dvc_pdus.specs.Reading.charges_at Rattle.dvc_pdus.specs.Reading.ended Rattle.dvc_pdus.specs.Reading.id_at Rattle.dvc_pdus.specs.Reading.create_request_at Rattle.dvc_pdus.specs.Reading.create_response_at Rattle.dvc_pdus.specs.Reading.name_at Rattle.dvc_pdus.specs.Reading.name_to Rattle.dvc_pdus.specs.Reading.data_at Rattle.dvc_pdus.specs.Reading.sync_request_at Rattle.dvc_pdus.specs.Reading.sync_length_at Rattle.dvc_pdus.specs.Reading.items_at Rattle.dvc_pdus.specs.Reading.list_at Rattle.dvc_pdus.specs.Reading.kind_at Rattle.dvc_pdus.specs.Reading.number_at
law_7 = law_more Server (at Server (Start ▷ (Server, Own Began) ▷ (Client, Own Began) ▷ (Server, MainOut 15 capabilities) ▷ (Client, MainIn (take 4 capabilities) 4 0 None) ▷ (Client, MainIn (drop 4 capabilities) 11 0 None) ▷ (Client, MainOut 100 capabilities_back))) (MainIn capabilities_back 7 0 None) ((refl, refl, tt)) (record { unsent_fits = omega arith; reliable_fits = omega arith; lossy_fits = omega arith }) (law_3)

net_7 : Kept capable
unfolding Rattle.end_calls.specs.Streams.with_main Rattle.end_calls.specs.Streams.with_tunnel Rattle.tunnel_pdus.specs.Reading.frame_reading Rattle.tunnel_pdus.specs.Reading.frame_at Rattle.tunnel_pdus.specs.Reading.kind_at Rattle.tunnel_pdus.specs.Reading.frame_length_at Rattle.tunnel_pdus.specs.Reading.request_at Rattle.tunnel_pdus.specs.Reading.response_at Rattle.tunnel_pdus.specs.Reading.channel_at Rattle.tunnel_pdus.specs.Reading.reading Rattle.tunnel_pdus.specs.Reading.pdu_at Rattle.tunnel_pdus.specs.Reading.action_at Rattle.tunnel_pdus.specs.Reading.length_at Rattle.tunnel_pdus.specs.Reading.header_at Rattle.tunnel_pdus.specs.Reading.sub_headers_at Rattle.tunnel_pdus.specs.Reading.sub_headers_within Rattle.tunnel_pdus.specs.Reading.pdu_in Rattle.dvc_pdus.specs.Reading.reading Rattle.dvc_pdus.specs.Reading.pdu_at Rattle.dvc_pdus.specs.Reading.body_at Rattle.dvc_pdus.specs.Reading.capabilities_at Rattle.dvc_pdus.specs.Reading.charges_at Rattle.dvc_pdus.specs.Reading.ended Rattle.dvc_pdus.specs.Reading.id_at Rattle.dvc_pdus.specs.Reading.create_request_at Rattle.dvc_pdus.specs.Reading.create_response_at Rattle.dvc_pdus.specs.Reading.name_at Rattle.dvc_pdus.specs.Reading.name_to Rattle.dvc_pdus.specs.Reading.data_at Rattle.dvc_pdus.specs.Reading.sync_request_at Rattle.dvc_pdus.specs.Reading.sync_length_at Rattle.dvc_pdus.specs.Reading.items_at Rattle.dvc_pdus.specs.Reading.list_at Rattle.dvc_pdus.specs.Reading.kind_at Rattle.dvc_pdus.specs.Reading.number_at
net_7 = kept_more (Start ▷ (Server, Own Began) ▷ (Client, Own Began) ▷ (Server, MainOut 15 capabilities) ▷ (Client, MainIn (take 4 capabilities) 4 0 None) ▷ (Client, MainIn (drop 4 capabilities) 11 0 None) ▷ (Client, MainOut 100 capabilities_back)) (Server, MainIn capabilities_back 7 0 None) (joined capable (law_7) (law_6) (_, refl) (_, refl) (_, refl) (_, refl) none none) net_6

pub shown : Shown
unfolding Rattle.end_calls.specs.Streams.with_main Rattle.end_calls.specs.Streams.with_tunnel Rattle.tunnel_pdus.specs.Reading.frame_reading Rattle.tunnel_pdus.specs.Reading.frame_at Rattle.tunnel_pdus.specs.Reading.kind_at Rattle.tunnel_pdus.specs.Reading.frame_length_at Rattle.tunnel_pdus.specs.Reading.request_at Rattle.tunnel_pdus.specs.Reading.response_at Rattle.tunnel_pdus.specs.Reading.channel_at Rattle.tunnel_pdus.specs.Reading.reading Rattle.tunnel_pdus.specs.Reading.pdu_at Rattle.tunnel_pdus.specs.Reading.action_at Rattle.tunnel_pdus.specs.Reading.length_at Rattle.tunnel_pdus.specs.Reading.header_at Rattle.tunnel_pdus.specs.Reading.sub_headers_at Rattle.tunnel_pdus.specs.Reading.sub_headers_within Rattle.tunnel_pdus.specs.Reading.pdu_in Rattle.dvc_pdus.specs.Reading.reading Rattle.dvc_pdus.specs.Reading.pdu_at Rattle.dvc_pdus.specs.Reading.body_at Rattle.dvc_pdus.specs.Reading.capabilities_at Rattle.dvc_pdus.specs.Reading.charges_at Rattle.dvc_pdus.specs.Reading.ended Rattle.dvc_pdus.specs.Reading.id_at Rattle.dvc_pdus.specs.Reading.create_request_at Rattle.dvc_pdus.specs.Reading.create_response_at Rattle.dvc_pdus.specs.Reading.name_at Rattle.dvc_pdus.specs.Reading.name_to Rattle.dvc_pdus.specs.Reading.data_at Rattle.dvc_pdus.specs.Reading.sync_request_at Rattle.dvc_pdus.specs.Reading.sync_length_at Rattle.dvc_pdus.specs.Reading.items_at Rattle.dvc_pdus.specs.Reading.list_at Rattle.dvc_pdus.specs.Reading.kind_at Rattle.dvc_pdus.specs.Reading.number_at
shown = record { at_server = refl; at_client = refl }

pub net_capable : Net capable
net_capable = kept_is capable net_7
