-- At each place of a list of calls the premises hold, and so two ends are joined there.
use Rattle.std.proofs.Common.{◌≡◌, ℕ, List, [], ◌∷◌, ◌++◌, Some, None, refl, sym, ap, ◌∙◌, append-nil}
use Rattle.mt_base.specs.declared.kinds.Kind.{Kind}
use Rattle.mt_base.specs.declared.kinds.Kind.TheVariants.{Reliable, Lossy}
use Rattle.mt_base.specs.declared.kinds.Role.{Role}
use Rattle.mt_base.specs.declared.kinds.Role.TheVariants.{Server, Client}
use Rattle.mt_base.specs.Ends.{other}
use Rattle.mt_base.specs.Prefix.{IsPrefixOf, IsPickOf}
use Rattle.mt_base.specs.Trace.{Trace, Start, ◌▷◌}
use Rattle.mt_base.proofs.Prefixes.{front-at, pick-at}
use Rattle.carrier.specs.Entries.{Gave, In, Polled, Pulled, Owed, Posted, Next, given, pulled, posted}
use Rattle.carrier.specs.Entries as link
use Rattle.carrier.specs.Joined.{Step, At, half, Timely}
use Rattle.carrier.specs.PerfectThin.{handed}
use Rattle.udp_open.specs.declared.settings.OpenSettings.{OpenSettings}
use Rattle.udp_open.specs.LinkTrace.{LinkFaithful}
use Rattle.udp_open.specs.TwoLinks.{LinkNet, LinkPulled, with_steps}
use Rattle.lossy_mode.specs.Thin.{Thin}
use Rattle.lossy_mode.specs.TwoLossy.{LossyNet, HandedPicked}
use Rattle.end_calls.specs.Calls.{Entry}
use Rattle.end_calls.specs.Law.{EndTrace}
use Rattle.end_calls.specs.Net.{at, handed_out, link_of_side, main_in, main_out, IsJoined, Net}
use Rattle.end_net.specs.Network.{Network, made_by, steps}
use Rattle.end_wires.specs.MainStreams.{MainInOrder}
use Rattle.end_net.proofs.Halves.{half_at}

-- ---- the calls of a link before

timely_before : (late : ℕ) (v : Trace Step) (side : Role) (e : link.Entry) → Timely late (v ▷ At side e) → Timely late v
timely_before late v side (In now datagram took) h = h.1
timely_before late v side e h = h

faithful_before : (settings : Role → OpenSettings) (v : Trace Step) (side : Role) (e : link.Entry) (s : Role) → LinkFaithful (settings s) (half s (v ▷ At side e)) → LinkFaithful (settings s) (half s v)
faithful_before settings v Server e Server h = h.2
faithful_before settings v Server e Client h = h
faithful_before settings v Client e Server h = h
faithful_before settings v Client e Client h = h.2

thin_before : (settings : Role → OpenSettings) (v : Trace Step) (side : Role) (e : link.Entry) (s : Role) → Thin (settings s) (half s (v ▷ At side e)) → Thin (settings s) (half s v)
thin_before settings v Server e Server h = h.1
thin_before settings v Server e Client h = h
thin_before settings v Client e Server h = h
thin_before settings v Client e Client h = h.1

link_before : (late : ℕ) (settings : Role → OpenSettings) (v : Trace Step) (side : Role) (e : link.Entry) → LinkNet late settings (v ▷ At side e) → LinkNet late settings v
link_before late settings v side e n = record {
  roles = n.roles;
  kinds = n.kinds;
  versions = n.versions;
  initials = n.initials;
  hashes = n.hashes;
  in_time = n.in_time;
  faithful = λ s. faithful_before settings v side e s (n.faithful s);
  timely = timely_before late v side e n.timely;
}

lossy_before : (late : ℕ) (settings : Role → OpenSettings) (v : Trace Step) (side : Role) (e : link.Entry) → LossyNet late settings (v ▷ At side e) → LossyNet late settings v
lossy_before late settings v side e n = record {
  roles = n.roles;
  kind = n.kind;
  versions = n.versions;
  initials = n.initials;
  in_time = n.in_time;
  thin = λ s. thin_before settings v side e s (n.thin s);
  timely = timely_before late v side e n.timely;
}

links_before : (late : ℕ) (settings : Role → OpenSettings) (v : Trace Step) (side : Role) (es : List link.Entry) → LinkNet late settings (with_steps v side es) → LinkNet late settings v
links_before late settings v side [] n = n
links_before late settings v side (e ∷ es) n = link_before late settings v side e (links_before late settings (v ▷ At side e) side es n)

lossies_before : (late : ℕ) (settings : Role → OpenSettings) (v : Trace Step) (side : Role) (es : List link.Entry) → LossyNet late settings (with_steps v side es) → LossyNet late settings v
lossies_before late settings v side [] n = n
lossies_before late settings v side (e ∷ es) n = lossy_before late settings v side e (lossies_before late settings (v ▷ At side e) side es n)

-- ---- the calls of the ends before

end_before : (w : Trace (Role × Entry)) (side : Role) (entry : Entry) (role : Role) → EndTrace role (at role (w ▷ (side, entry))) → EndTrace role (at role w)
end_before w Server entry Server h = h.2
end_before w Server entry Client h = h
end_before w Client entry Server h = h
end_before w Client entry Client h = h.2

before : (late : ℕ) (settings : Kind → Role → OpenSettings) (w : Trace (Role × Entry)) (side : Role) (entry : Entry) → Network late settings (w ▷ (side, entry)) → Network late settings w
before late settings w side entry n = record {
  ends = λ role. end_before w side entry role (n.ends role);
  main = n.main.1;
  reliable = links_before late (settings Reliable) (steps Reliable w) side (made_by Reliable side (at side w) entry) n.reliable;
  lossy = lossies_before late (settings Lossy) (steps Lossy w) side (made_by Lossy side (at side w) entry) n.lossy;
}

-- ---- what the links bring

-- the laws of two links, of one kind and the other
abbrev pub Brings : ℕ → (Kind → Role → OpenSettings) → Type 0
Brings late settings =
    ((v : Trace Step) → LinkNet late (settings Reliable) v → (s : Role) → LinkPulled v s)
    × ((v : Trace Step) → LossyNet late (settings Lossy) v → (s : Role) → HandedPicked v s)

handed_is : (t : Trace link.Entry) → handed t ≡ handed_out t
handed_is Start = refl
handed_is (t ▷ Next (Some bytes)) = ap (λ l. l ++ bytes ∷ []) (handed_is t)
handed_is (t ▷ Next None) = handed_is t ∙ sym (append-nil (handed_out t))
handed_is (t ▷ Gave bytes) = handed_is t
handed_is (t ▷ In now datagram took) = handed_is t
handed_is (t ▷ Polled now out) = handed_is t
handed_is (t ▷ Pulled room bytes) = handed_is t
handed_is (t ▷ Owed count) = handed_is t
handed_is (t ▷ Posted bytes) = handed_is t

pulled_front : (w : Trace (Role × Entry)) (s : Role) → LinkPulled (steps Reliable w) s → IsPrefixOf (pulled (link_of_side Reliable (other s) w)) (given (link_of_side Reliable s w))
pulled_front w s h =
    front-at (pulled (half (other s) (steps Reliable w))) (pulled (link_of_side Reliable (other s) w)) (given (half s (steps Reliable w))) (given (link_of_side Reliable s w))
    (ap pulled (half_at Reliable w (other s))) (ap given (half_at Reliable w s)) h

handed_pick : (w : Trace (Role × Entry)) (s : Role) → HandedPicked (steps Lossy w) s → IsPickOf (handed_out (link_of_side Lossy (other s) w)) (posted (link_of_side Lossy s w))
handed_pick w s h =
    pick-at (handed (half (other s) (steps Lossy w))) (handed_out (link_of_side Lossy (other s) w)) (posted (half s (steps Lossy w))) (posted (link_of_side Lossy s w))
    (handed_is (half (other s) (steps Lossy w)) ∙ ap handed_out (half_at Lossy w (other s))) (ap posted (half_at Lossy w s)) h

by_role : (P : Role → Type 0) → P Server → P Client → (role : Role) → P role
by_role P s c Server = s
by_role P s c Client = c

main_now : (w : Trace (Role × Entry)) → MainInOrder w → (role : Role) → IsPrefixOf (main_in role w) (main_out (other role) w)
main_now Start m role = ([], refl)
main_now (w ▷ call) m role = m.0 role

joined : (late : ℕ) (settings : Kind → Role → OpenSettings) → Brings late settings → (w : Trace (Role × Entry)) → Network late settings w → IsJoined w
joined late settings b w n = record {
  server = n.ends Server;
  client = n.ends Client;
  main = main_now w n.main;
  reliable = by_role (λ role. IsPrefixOf (pulled (link_of_side Reliable role w)) (given (link_of_side Reliable (other role) w))) (pulled_front w Client (b.0 (steps Reliable w) n.reliable Client)) (pulled_front w Server (b.0 (steps Reliable w) n.reliable Server));
  lossy = by_role (λ role. IsPickOf (handed_out (link_of_side Lossy role w)) (posted (link_of_side Lossy (other role) w))) (handed_pick w Client (b.1 (steps Lossy w) n.lossy Client)) (handed_pick w Server (b.1 (steps Lossy w) n.lossy Server));
}

pub net_of : (late : ℕ) (settings : Kind → Role → OpenSettings) → Brings late settings → (w : Trace (Role × Entry)) → Network late settings w → Net w
net_of late settings b Start n = joined late settings b Start n
net_of late settings b (w ▷ (side, entry)) n = (joined late settings b (w ▷ (side, entry)) n, net_of late settings b w (before late settings w side entry n))
