-- Two ends, step by step: each keeps the law of an end, neither meets a fault, and what is delivered was sent.
use Rattle.std.proofs.Common.{◌≡◌, ℕ, true, not, [], None, refl, sym}
use Rattle.mt_base.specs.declared.kinds.Role.{Role}
use Rattle.mt_base.specs.declared.kinds.Role.TheVariants.{Server, Client}
use Rattle.mt_base.specs.declared.kinds.Kind.TheVariants.{Reliable, Lossy}
use Rattle.mt_base.specs.Trace.{Trace, Start, ◌▷◌}
use Rattle.mt_endpoint.specs.Acts.{Act, Hears, Draws}
use Rattle.mt_endpoint.specs.Growing.{grown}
use Rattle.mt_endpoint.specs.World.{IsStep, HasCome, NetOfActs, Faultless, Safe, SafeWay, begins, draws, fault_of, hears, is_begun, side}
use Rattle.mt_endpoint.specs.Tunnels.{is_silent}
use Rattle.mt_endpoint.specs.Writing.{adds, carried, into, on_main, spoken}
use Rattle.mt_endpoint.specs.Alone.{EndOfActs}
use Rattle.mt_endpoint.specs.Meeting.{HasLeft, Meet}
use Rattle.mt_base.specs.Ends.{other}
use Rattle.mt_base.proofs.Prefixes.{front-append, front-at, front-trans, pick-at, pick-same}
use Rattle.mt_endpoint.proofs.MainData.{frame_fine}
use Rattle.mt_endpoint.proofs.BothWays.{both_ways}
use Rattle.mt_endpoint.proofs.Growth.{Keeps, pick_front}
use Rattle.mt_endpoint.proofs.Carrying.{tunnel_fine}
use Rattle.mt_endpoint.proofs.Released.{release_fine}
use Rattle.mt_endpoint.proofs.Walking.{StaysCalm, acts_next, grown_walk}

-- two ends at one moment, of which this one acts
pub record Place (role : Role) (here there : Trace Act) : Type 0 where
  pub here_acts : EndOfActs role here
  pub there_acts : EndOfActs (other role) there
  pub came : HasLeft (other role) there here
  pub left : HasLeft role here there

pub meet_at : (role : Role) (here there : Trace Act) → Place role here there → Meet role here there
meet_at role here there p = record { here_acts = p.here_acts; there_acts = p.there_acts; to_here = p.came.main; to_there = p.left.main }

-- what this end leaves only grows
pub left_more : (role : Role) (here there : Trace Act) (act : Act) → HasLeft role here there → HasLeft role (here ▷ act) there
left_more role here there act h = record {
  main = front-trans (hears there) (spoken role here) (spoken role (here ▷ act)) h.main (front-append (spoken role here) (on_main (adds role here act)));
  reliable = front-trans (draws Reliable there) (carried Reliable role here) (carried Reliable role (here ▷ act)) h.reliable (front-append (carried Reliable role here) (into Reliable (is_silent Reliable here) (adds role here act)));
  lossy = pick_front (draws Lossy there) (carried Lossy role here) (carried Lossy role (here ▷ act)) h.lossy (front-append (carried Lossy role here) (into Lossy (is_silent Lossy here) (adds role here act)));
}

-- acts that read nothing and only write more
place_later : (role : Role) (t v there : Trace Act) → EndOfActs role v → Keeps role t v → Place role t there → Place role v there
place_later role t v there e k p = record {
  here_acts = e;
  there_acts = p.there_acts;
  came = record {
    main = front-at (hears t) (hears v) (spoken (other role) there) (spoken (other role) there) (sym k.hears_are) refl p.came.main;
    reliable = front-at (draws Reliable t) (draws Reliable v) (carried Reliable (other role) there) (carried Reliable (other role) there) (sym (k.draws_are Reliable)) refl p.came.reliable;
    lossy = pick-at (draws Lossy t) (draws Lossy v) (carried Lossy (other role) there) (carried Lossy (other role) there) (sym (k.draws_are Lossy)) refl p.came.lossy;
  };
  left = record {
    main = front-trans (hears there) (spoken role t) (spoken role v) p.left.main k.spoken_more;
    reliable = front-trans (draws Reliable there) (carried Reliable role t) (carried Reliable role v) p.left.reliable (k.carried_more Reliable);
    lossy = pick_front (draws Lossy there) (carried Lossy role t) (carried Lossy role v) p.left.lossy (k.carried_more Lossy);
  };
}

-- what is held at one of two ends is taken
calm_at : (role : Role) (here there : Trace Act) → Place role here there → StaysCalm role here
calm_at role here there p v e k id first rest through live queue =
    let q = place_later role here v there e k p in release_fine role v there id first rest (meet_at role v there q) q.came through live queue

fault_free : (role : Role) (here there : Trace Act) (act : Act) → Place role here there → HasCome role here there act → fault_of role here act
fault_free role here there (Hears heard) p c = frame_fine role here there heard (meet_at role here there p) c.0
fault_free role here there (Draws Reliable at drawn) p c = tunnel_fine role here there drawn (meet_at role here there p) p.left.reliable c.1
fault_free role here there act p c = tt

-- what one step leaves
pub record Stepped (role : Role) (here there : Trace Act) (act : Act) : Type 0 where
  pub place : Place role (grown role here act).acts there
  pub begun : is_begun (grown role here act).acts ≡ true
  pub faultless : fault_of role here act
  pub fine : (grown role here act).fault ≡ None
  pub keeps : Keeps role (here ▷ act) (grown role here act).acts

pub stepped : (role : Role) (here there : Trace Act) (act : Act) → begins act ≡ not (is_begun here) → IsStep role here act → HasCome role here there act → Place role here there → Stepped role here there act
stepped role here there act b s c p =
    let faultless = fault_free role here there act p c in
    let first : Place role (here ▷ act) there =
    record { here_acts = acts_next role here act p.here_acts (b, s, faultless); there_acts = p.there_acts; came = record { main = c.0; reliable = c.1; lossy = c.2 }; left = left_more role here there act p.left } in
    let out = grown_walk role here act p.here_acts (b, s, faultless) in
    let w = out.walked in
    record { place = place_later role (here ▷ act) (grown role here act).acts there w.acts w.keeps first; begun = w.begun; faultless = faultless; fine = out.fine (calm_at role (here ▷ act) there first); keeps = w.keeps }

pub turned : (s c : Trace Act) → Place Server s c → Place Client c s
turned s c p = record { here_acts = p.there_acts; there_acts = p.here_acts; came = p.left; left = p.came }

turned_back : (s c : Trace Act) → Place Client c s → Place Server s c
turned_back s c p = record { here_acts = p.there_acts; there_acts = p.here_acts; came = p.left; left = p.came }

pub record Together (w : Trace (Role × Act)) : Type 0 where
  pub place : Place Server (side Server w) (side Client w)
  pub faultless : Faultless w

pub together : (w : Trace (Role × Act)) → NetOfActs w → Together w
together Start n = record {
  place = record { here_acts = tt; there_acts = tt; came = record { main = ([], refl); reliable = ([], refl); lossy = pick-same [] }; left = record { main = ([], refl); reliable = ([], refl); lossy = pick-same [] } };
  faultless = tt;
}
together (w ▷ (Server, act)) n =
    let before = together w n.3 in
    let after = stepped Server (side Server w) (side Client w) act n.0 n.1 n.2 before.place in record { place = after.place; faultless = (after.faultless, after.fine, before.faultless) }
together (w ▷ (Client, act)) n =
    let before = together w n.3 in
    let after = stepped Client (side Client w) (side Server w) act n.0 n.1 n.2 (turned (side Server w) (side Client w) before.place) in
    record { place = turned_back (side Server w) (grown Client (side Client w) act).acts after.place; faultless = (after.faultless, after.fine, before.faultless) }

pub safe_at : (s c : Trace Act) → Place Server s c → (id : ℕ) → SafeWay Client id s c × SafeWay Server id c s
safe_at s c p id = both_ways s c (record { server_acts = p.here_acts; client_acts = p.there_acts; to_client = p.left; to_server = p.came }) id

pub net_is_safe : (w : Trace (Role × Act)) → NetOfActs w → Safe w
net_is_safe w n =
    let t = together w n in
    let s = side Server w in
    let c = side Client w in
    record { to_client = λ id. (safe_at s c t.place id).0; to_server = λ id. (safe_at s c t.place id).1; faultless = t.faultless }

pub both_keep : (w : Trace (Role × Act)) → NetOfActs w → EndOfActs Server (side Server w) × EndOfActs Client (side Client w)
both_keep w n = let t = together w n in (t.place.here_acts, t.place.there_acts)
