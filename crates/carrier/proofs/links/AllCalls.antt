-- The law, by induction over the calls at both ends.
use Rattle.std.proofs.Common.{◌≡◌, ℕ, ◌<◌, length, Some, None, refl}
use Rattle.mt_base.specs.declared.kinds.Role.{Role}
use Rattle.mt_base.specs.declared.kinds.Role.TheVariants.{Server, Client}
use Rattle.mt_base.specs.Ends.{other}
use Rattle.mt_base.specs.Trace.{Trace, Start, ◌▷◌}
use Rattle.carrier.specs.Entries.{Entry, Gave, In, Polled, Pulled, Owed, Posted, Next, given, pulled}
use Rattle.carrier.specs.Layout.{Layout, Datagram}
use Rattle.carrier.specs.Law.{Faithful}
use Rattle.carrier.specs.Receiving.{received}
use Rattle.carrier.specs.Sending.{acts}
use Rattle.carrier.specs.Joined.{Step, At, half, SentAgo, MeantAgo, Timely}
use Rattle.carrier.specs.TwoLinks.{Margins, Reads, AllRead, SettledArrive, PassedWasGiven, PulledWasGiven, LowestArrived, CutsNear, SeenWereMade, KnownWereSeen}
use Rattle.carrier.proofs.links.Facing.{Facing, facing}
use Rattle.carrier.proofs.links.Ends.{Both, both_start, swap, gives, pulls, same_ends, polls, settled_arrived, passed_given}
use Rattle.carrier.proofs.links.Comes.{comes, came}
use Rattle.carrier.proofs.links.Pulled.{pulled_then}
use Rattle.carrier.proofs.links.Steps.{lowest_arrived}
use Rattle.carrier.proofs.links.Reading.{cut_near}
use Rattle.carrier.proofs.links.Meant.{meant_is}

server_client : Server ≡ Client → ⊥
server_client e = cc

client_server : Client ≡ Server → ⊥
client_server e = cc

module _ (late : ℕ) (layouts : Role → Layout) (margins : Margins late layouts) where
  -- the two ends after these calls
  abbrev pub Ends : Trace Step → Type 0
  Ends w = Both (layouts Server) (layouts Client) (half Server w) (half Client w) (MeantAgo layouts Server w) (MeantAgo layouts Client w) (SentAgo Server w) (SentAgo Client w)

  front : Facing late (layouts Server) (layouts Client)
  front = facing late layouts Server margins

  rear : Facing late (layouts Client) (layouts Server)
  rear = facing late layouts Client margins

  pub starts : Ends Start
  starts = both_start late (layouts Server) (layouts Client) (MeantAgo layouts Server Start) (MeantAgo layouts Client Start) (SentAgo Server Start) (SentAgo Client Start) front rear
      (λ k f s. s) (λ k f s. s) (λ k d s. s) (λ k d s. s)

  pub server_step : (w : Trace Step) (e : Entry) → Faithful (layouts Server) (half Server w ▷ e) → Timely late (w ▷ At Server e) → Ends w → Ends (w ▷ At Server e)
  server_step w (Gave bytes) law timely h = gives (layouts Server) (layouts Client) (half Server w) (half Client w) (MeantAgo layouts Server w) (MeantAgo layouts Client w) (SentAgo Server w) (SentAgo Client w) bytes law.1 h
  server_step w (In now datagram took) law timely h =
      comes late (layouts Server) (layouts Client) (half Server w) (half Client w) now datagram took (MeantAgo layouts Server w) (MeantAgo layouts Client w) (SentAgo Server w) (SentAgo Client w) front rear
      (came late (layouts Server) (layouts Client) took datagram (MeantAgo layouts Client w) (SentAgo Client w) rear h.means_there timely.0) h
  server_step w (Polled now None) law timely h =
      same_ends (layouts Server) (layouts Client) (half Server w) (half Server w ▷ Polled now None) (half Client w) (MeantAgo layouts Server w) (MeantAgo layouts Client w) (SentAgo Server w) (SentAgo Client w) refl refl refl refl refl h
  server_step w (Polled now (Some out)) law timely h =
      polls late (layouts Server) (layouts Client) (half Server w) (half Client w) now out (MeantAgo layouts Server w) (MeantAgo layouts Client w)
      (MeantAgo layouts Server (w ▷ At Server (Polled now (Some out)))) (MeantAgo layouts Client (w ▷ At Server (Polled now (Some out))))
      (SentAgo Server w) (SentAgo Client w) (SentAgo Server (w ▷ At Server (Polled now (Some out)))) (SentAgo Client (w ▷ At Server (Polled now (Some out)))) front rear law.0
      (record {
        sent = λ f s. s.1;
        sends_now = λ f is. (refl, is);
        older = λ k f s. s;
        old = λ k f s. s;
        none = λ f s. server_client s.0;
        older_there = λ k f s. s;
        old_there = λ k f s. s;
        bytes = λ d s. s.1;
        older_bytes = λ k d s. s;
        no_bytes = λ d s. server_client s.0;
        older_bytes_there = λ k d s. s;
      }) h
  server_step w (Pulled room bytes) law timely h = pulls (layouts Server) (layouts Client) (half Server w) (half Client w) (MeantAgo layouts Server w) (MeantAgo layouts Client w) (SentAgo Server w) (SentAgo Client w) room bytes h
  server_step w (Owed count) law timely h =
      same_ends (layouts Server) (layouts Client) (half Server w) (half Server w ▷ Owed count) (half Client w) (MeantAgo layouts Server w) (MeantAgo layouts Client w) (SentAgo Server w) (SentAgo Client w) refl refl refl refl refl h
  server_step w (Posted bytes) law timely h = absurd law
  server_step w (Next bytes) law timely h = absurd law

  -- the same from the other side
  abbrev pub Turned : Trace Step → Type 0
  Turned w = Both (layouts Client) (layouts Server) (half Client w) (half Server w) (MeantAgo layouts Client w) (MeantAgo layouts Server w) (SentAgo Client w) (SentAgo Server w)

  pub client_turn : (w : Trace Step) (e : Entry) → Faithful (layouts Client) (half Client w ▷ e) → Timely late (w ▷ At Client e) → Turned w → Turned (w ▷ At Client e)
  client_turn w (Gave bytes) law timely h = gives (layouts Client) (layouts Server) (half Client w) (half Server w) (MeantAgo layouts Client w) (MeantAgo layouts Server w) (SentAgo Client w) (SentAgo Server w) bytes law.1 h
  client_turn w (In now datagram took) law timely h =
      comes late (layouts Client) (layouts Server) (half Client w) (half Server w) now datagram took (MeantAgo layouts Client w) (MeantAgo layouts Server w) (SentAgo Client w) (SentAgo Server w) rear front
      (came late (layouts Client) (layouts Server) took datagram (MeantAgo layouts Server w) (SentAgo Server w) front h.means_there timely.0) h
  client_turn w (Polled now None) law timely h =
      same_ends (layouts Client) (layouts Server) (half Client w) (half Client w ▷ Polled now None) (half Server w) (MeantAgo layouts Client w) (MeantAgo layouts Server w) (SentAgo Client w) (SentAgo Server w) refl refl refl refl refl h
  client_turn w (Polled now (Some out)) law timely h =
      polls late (layouts Client) (layouts Server) (half Client w) (half Server w) now out (MeantAgo layouts Client w) (MeantAgo layouts Server w)
      (MeantAgo layouts Client (w ▷ At Client (Polled now (Some out)))) (MeantAgo layouts Server (w ▷ At Client (Polled now (Some out))))
      (SentAgo Client w) (SentAgo Server w) (SentAgo Client (w ▷ At Client (Polled now (Some out)))) (SentAgo Server (w ▷ At Client (Polled now (Some out)))) rear front law.0
      (record {
        sent = λ f s. s.1;
        sends_now = λ f is. (refl, is);
        older = λ k f s. s;
        old = λ k f s. s;
        none = λ f s. client_server s.0;
        older_there = λ k f s. s;
        old_there = λ k f s. s;
        bytes = λ d s. s.1;
        older_bytes = λ k d s. s;
        no_bytes = λ d s. client_server s.0;
        older_bytes_there = λ k d s. s;
      }) h
  client_turn w (Pulled room bytes) law timely h = pulls (layouts Client) (layouts Server) (half Client w) (half Server w) (MeantAgo layouts Client w) (MeantAgo layouts Server w) (SentAgo Client w) (SentAgo Server w) room bytes h
  client_turn w (Owed count) law timely h =
      same_ends (layouts Client) (layouts Server) (half Client w) (half Client w ▷ Owed count) (half Server w) (MeantAgo layouts Client w) (MeantAgo layouts Server w) (SentAgo Client w) (SentAgo Server w) refl refl refl refl refl h
  client_turn w (Posted bytes) law timely h = absurd law
  client_turn w (Next bytes) law timely h = absurd law

  turn : (w : Trace Step) → Ends w → Turned w
  turn w h = swap (layouts Server) (layouts Client) (half Server w) (half Client w) (MeantAgo layouts Server w) (MeantAgo layouts Client w) (SentAgo Server w) (SentAgo Client w) h

  turn_back : (w : Trace Step) → Turned w → Ends w
  turn_back w h = swap (layouts Client) (layouts Server) (half Client w) (half Server w) (MeantAgo layouts Client w) (MeantAgo layouts Server w) (SentAgo Client w) (SentAgo Server w) h

  -- ---- one call less

  faithful_before : (l : Layout) (t : Trace Entry) (e : Entry) → Faithful l (t ▷ e) → Faithful l t
  faithful_before l t (Gave bytes) h = h.2
  faithful_before l t (In now datagram took) h = h.1
  faithful_before l t (Polled now out) h = h.1
  faithful_before l t (Pulled room bytes) h = h.1
  faithful_before l t (Owed count) h = h
  faithful_before l t (Posted bytes) h = absurd h
  faithful_before l t (Next bytes) h = absurd h

  laws_before : (w : Trace Step) (side : Role) (e : Entry) → ((s : Role) → Faithful (layouts s) (half s (w ▷ At side e))) → (s : Role) → Faithful (layouts s) (half s w)
  laws_before w Server e laws Server = faithful_before (layouts Server) (half Server w) e (laws Server)
  laws_before w Server e laws Client = laws Client
  laws_before w Client e laws Server = laws Server
  laws_before w Client e laws Client = faithful_before (layouts Client) (half Client w) e (laws Client)

  timely_before : (w : Trace Step) (side : Role) (e : Entry) → Timely late (w ▷ At side e) → Timely late w
  timely_before w side (Gave bytes) h = h
  timely_before w side (In now datagram took) h = h.1
  timely_before w side (Polled now out) h = h
  timely_before w side (Pulled room bytes) h = h
  timely_before w side (Owed count) h = h
  timely_before w side (Posted bytes) h = h
  timely_before w side (Next bytes) h = h

  -- ---- all calls

  pub ends : (w : Trace Step) → ((s : Role) → Faithful (layouts s) (half s w)) → Timely late w → Ends w
  ends Start laws timely = starts
  ends (w ▷ At Server e) laws timely = server_step w e (laws Server) timely (ends w (laws_before w Server e laws) (timely_before w Server e timely))
  ends (w ▷ At Client e) laws timely =
      turn_back (w ▷ At Client e) (client_turn w e (laws Client) timely (turn w (ends w (laws_before w Client e laws) (timely_before w Client e timely))))

  -- what comes now was meant so
  abbrev pub NowRead : Trace Step → Role → Entry → Type 0
  NowRead w side (In now datagram took) =
      (k : ℕ) → k < late → SentAgo (other side) w k datagram → (f : Datagram) × MeantAgo layouts (other side) w k f × Reads late (layouts side) (half side w) datagram f
  NowRead w side e = Unit {0}

  read_more : (w : Trace Step) (side : Role) (e : Entry) → NowRead w side e → AllRead late layouts w → AllRead late layouts (w ▷ At side e)
  read_more w side (Gave bytes) now all = all
  read_more w side (In at datagram took) now all = (now, all)
  read_more w side (Polled at out) now all = all
  read_more w side (Pulled room bytes) now all = all
  read_more w side (Owed count) now all = all
  read_more w side (Posted bytes) now all = all
  read_more w side (Next bytes) now all = all

  now_read : (w : Trace Step) (side : Role) (e : Entry) → Ends w → NowRead w side e
  now_read w Server (In now datagram took) h = λ k soon sent.
      meant_is late (layouts Server) (layouts Client) (half Server w) (half Client w) (MeantAgo layouts Server w) (MeantAgo layouts Client w) (SentAgo Server w) (SentAgo Client w) k front rear h soon datagram sent
  now_read w Client (In now datagram took) h = λ k soon sent.
      meant_is late (layouts Client) (layouts Server) (half Client w) (half Server w) (MeantAgo layouts Client w) (MeantAgo layouts Server w) (SentAgo Client w) (SentAgo Server w) k rear front (turn w h) soon datagram sent
  now_read w side (Gave bytes) h = tt
  now_read w side (Polled now out) h = tt
  now_read w side (Pulled room bytes) h = tt
  now_read w side (Owed count) h = tt
  now_read w side (Posted bytes) h = tt
  now_read w side (Next bytes) h = tt

  pub all_read : (w : Trace Step) → ((s : Role) → Faithful (layouts s) (half s w)) → Timely late w → AllRead late layouts w
  all_read Start laws timely = tt
  all_read (w ▷ At side e) laws timely =
      let old_laws = laws_before w side e laws in
      let old_timely = timely_before w side e timely in
      read_more w side e (now_read w side e (ends w old_laws old_timely)) (all_read w old_laws old_timely)

  -- ---- what follows at each end

  pub arrive : (w : Trace Step) → Ends w → (s : Role) → SettledArrive layouts w s
  arrive w h Server = λ p is. settled_arrived (layouts Server) (layouts Client) (half Server w) (half Client w) (MeantAgo layouts Server w) (MeantAgo layouts Client w) (SentAgo Server w) (SentAgo Client w) p h is
  arrive w h Client = λ p is. settled_arrived (layouts Client) (layouts Server) (half Client w) (half Server w) (MeantAgo layouts Client w) (MeantAgo layouts Server w) (SentAgo Client w) (SentAgo Server w) p (turn w h) is

  pub prefix : (w : Trace Step) → Ends w → (s : Role) → PassedWasGiven layouts w s
  prefix w h Server = passed_given (layouts Server) (layouts Client) (half Server w) (half Client w) (MeantAgo layouts Server w) (MeantAgo layouts Client w) (SentAgo Server w) (SentAgo Client w) h
  prefix w h Client = passed_given (layouts Client) (layouts Server) (half Client w) (half Server w) (MeantAgo layouts Client w) (MeantAgo layouts Server w) (SentAgo Client w) (SentAgo Server w) (turn w h)

  pub pulled_too : (w : Trace Step) → ((s : Role) → Faithful (layouts s) (half s w)) → Ends w → (s : Role) → PulledWasGiven layouts w s
  pulled_too w laws h Server = let front = prefix w h Server in pulled_then (layouts Client) (half Client w) (given (half Server w)) front.0 (laws Client) front.1
  pulled_too w laws h Client = let front = prefix w h Client in pulled_then (layouts Server) (half Server w) (given (half Client w)) front.0 (laws Server) front.1

  pub apart : (w : Trace Step) → Ends w → (s : Role) → LowestArrived layouts w s
  apart w h Server = λ p less. lowest_arrived (layouts Server).tells_parts (layouts Server).bounds.windows (layouts Server).own (acts (layouts Server) (half Server w)) (received (layouts Client) (half Client w)) (length (pulled (half Client w))) p h.out.now less
  apart w h Client = λ p less. lowest_arrived (layouts Client).tells_parts (layouts Client).bounds.windows (layouts Client).own (acts (layouts Client) (half Client w)) (received (layouts Server) (half Server w)) (length (pulled (half Server w))) p h.back.now less

  pub ahead : (w : Trace Step) → Ends w → (s : Role) → CutsNear layouts w s
  ahead w h Server = cut_near late (layouts Server) (layouts Client) front (acts (layouts Server) (half Server w)) (received (layouts Client) (half Client w)) (length (pulled (half Client w))) h.here h.out.now
  ahead w h Client = cut_near late (layouts Client) (layouts Server) rear (acts (layouts Client) (half Client w)) (received (layouts Server) (half Server w)) (length (pulled (half Server w))) h.there h.back.now

  pub seen_made : (w : Trace Step) → Ends w → (s : Role) → SeenWereMade layouts w s
  seen_made w h Server = h.out.now.seen
  seen_made w h Client = h.back.now.seen

  pub known_seen : (w : Trace Step) → Ends w → (s : Role) → KnownWereSeen layouts w s
  known_seen w h Server = h.out.now.known
  known_seen w h Client = h.back.now.known
