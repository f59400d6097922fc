-- Two ends, call by call.
use Rattle.std.proofs.Common.{◌≡◌, ℕ, Bool, true, false, cond, List, [], ◌++◌, map, length, take, drop, Option, Some, None, refl, sym, ap, subst, ◌∙◌, append-nil}
use Rattle.std.specs.List.{flat_map}
use Rattle.std.proofs.lemmas.List.{take_at}
use Rattle.mt_base.specs.declared.kinds.Kind.{Kind}
use Rattle.mt_base.specs.declared.kinds.Kind.TheVariants.{Reliable, Lossy}
use Rattle.mt_base.specs.declared.kinds.Role.{Role}
use Rattle.mt_base.specs.declared.kinds.Role.TheVariants.{Server, Client}
use Rattle.mt_base.specs.Ends.{other}
use Rattle.mt_base.specs.Prefix.{IsPrefixOf, IsPickOf}
use Rattle.mt_base.specs.Trace.{Trace, Start, ◌▷◌}
use Rattle.mt_base.proofs.Prefixes.{front-trans, front-at, front-next, front-flat_map, pick-at, pick-same}
use Rattle.carrier.specs.declared.state.LinkState.{LinkState}
use Rattle.carrier.specs.declared.state.Took.{Took}
use Rattle.carrier.specs.Entries.{given, pulled, posted}
use Rattle.carrier.specs.Entries as link
use Rattle.mt_endpoint.specs.Acts.{Act}
use Rattle.mt_endpoint.specs.Tunnels.{is_attached}
use Rattle.mt_endpoint.specs.Writing.{spoken, carried, framed, tunneled}
use Rattle.mt_endpoint.specs.World.{hears, draws}
use Rattle.mt_endpoint.proofs.Together.{Place, turned, safe_at}
use Rattle.end_calls.specs.declared.fault.Fault.{Fault}
use Rattle.end_calls.specs.declared.fault.Fault.TheVariants as fault
use Rattle.end_calls.specs.Streams.{Past}
use Rattle.end_calls.specs.Calls.{Entry, Own, MainIn, MainOut, WireIn, WireOut, Pull, Handed, Came, lacking, after_pulls, after_parts, past, acts}
use Rattle.end_calls.specs.Stops.{pulled_bytes, handed_parts}
use Rattle.end_calls.specs.Law.{IsCall, IsWireIn, IsWithin, outset, taken_main, given_main}
use Rattle.end_calls.specs.Links.{reads_in, takes_in, linked}
use Rattle.end_calls.specs.Net.{at, handed_out, IsJoined, Net, IsFine, acts_of, Safe}
use Rattle.end_calls.proofs.Within.{within}
use Rattle.end_calls.proofs.Each.{Each, each_first, each_picked}
use Rattle.end_calls.proofs.Fitting.{EachGiven, FitsHeard, FitsDrawn}
use Rattle.end_calls.proofs.Writes.{fit}
use Rattle.end_calls.proofs.Fronts.{front_spoken}
use Rattle.end_calls.proofs.Onward.{goes_call}
use Rattle.end_calls.proofs.Back.{no_frame, no_pdu}
use Rattle.end_calls.proofs.Standing.{Spelled}
use Rattle.end_calls.proofs.Running.{State, reads_on, stopped, state_at, state_place, state_given, main_in as reads_main, main_lacks, main_stopped, link_in, link_stopped}
use Rattle.end_calls.proofs.Stepping.{own_quiet, own_step, poll_state, attached_begun}
use Rattle.end_calls.proofs.Given.{Wrote, wrote_call}
use Rattle.end_calls.proofs.Taken.{own_same, main_same, poll_same, reads_took}

-- an end with these calls, facing an end with these acts
pub record Sound (role : Role) (there : Trace Act) (t : Trace Entry) : Type 0 where
  pub state : State role there (past role t) (taken_main t) (pulled (linked Reliable role t)) (handed_out (linked Lossy role t))
  pub wrote : (kind : Kind) → Wrote kind role (acts role t) (linked kind role t)
  pub gave : IsPrefixOf (given_main t) (flat_map framed (spoken role (acts role t)))
  pub spelled : Spelled role (acts role t)

-- what an end wrote fits, where what the other wrote does
spelled_of : (role : Role) (here there : Trace Act) → Place role here there → EachGiven here → Spelled (other role) there → Spelled role here
spelled_of role here there p g f =
    let all : Each (FitsHeard (other role)) (hears here) = each_first (FitsHeard (other role)) (hears here) p.came.main.0 (subst (Each (FitsHeard (other role))) p.came.main.1 f.frames) in
    let reliable : Each (FitsDrawn (other role)) (draws Reliable here) = each_first (FitsDrawn (other role)) (draws Reliable here) p.came.reliable.0 (subst (Each (FitsDrawn (other role))) p.came.reliable.1 (f.pdus Reliable)) in
    let lossy : Each (FitsDrawn (other role)) (draws Lossy here) = each_picked (FitsDrawn (other role)) (draws Lossy here) (carried Lossy (other role) there) p.came.lossy (f.pdus Lossy) in
    let w = fit role here p.here_acts g all (of_kind reliable lossy) in record { frames = w.spoken_fit; pdus = w.carried_fit } where
      of_kind : Each (FitsDrawn (other role)) (draws Reliable here) → Each (FitsDrawn (other role)) (draws Lossy here) → (kind : Kind) → Each (FitsDrawn (other role)) (draws kind here)
      of_kind reliable lossy Reliable = reliable
      of_kind reliable lossy Lossy = lossy

-- ---- what a call leaves

-- what has come by this call left the other end
pub record Comes (role : Role) (there : Trace Act) (t : Trace Entry) : Type 0 where
  pub main : IsPrefixOf (taken_main t) (flat_map framed (spoken (other role) there))
  pub reliable : IsPrefixOf (pulled (linked Reliable role t)) (flat_map tunneled (carried Reliable (other role) there))
  pub lossy : IsPickOf (handed_out (linked Lossy role t)) (map tunneled (carried Lossy (other role) there))

abbrev StateOf : Role → Trace Act → Trace Entry → Type 0
StateOf role there t = State role there (past role t) (taken_main t) (pulled (linked Reliable role t)) (handed_out (linked Lossy role t))

take_all : (n : ℕ) (xs : List ℕ) → n ≡ length xs → take n xs ≡ xs
take_all n xs e = ap (take n) (sym (append-nil xs)) ∙ take_at xs [] n (sym e)

main_call : (role : Role) (there : Trace Act) (t : Trace Entry) (offered : List ℕ) (count load : ℕ) (lack : Option (ℕ × Trace Act)) → Spelled (other role) there → IsCall role t (MainIn offered count load lack)
    → IsPrefixOf (taken_main t ++ take count offered) (flat_map framed (spoken (other role) there)) → StateOf role there t
    → State role there (past role (t ▷ MainIn offered count load lack)) (taken_main t ++ take count offered) (pulled (linked Reliable role t)) (handed_out (linked Lossy role t))
main_call role there t offered count load None f c front (reads_on a) =
    reads_main role there (past role t) (taken_main t) (pulled (linked Reliable role t)) (handed_out (linked Lossy role t)) offered count f (record { at_end = a; begun = c.0 }) front
main_call role there t offered count load (Some (most, reached)) f c front (reads_on a) =
    let out : List ℕ = flat_map framed (spoken (other role) there) in
    main_lacks role there (past role t) (taken_main t) (pulled (linked Reliable role t)) (taken_main t ++ take count offered) (handed_out (linked Lossy role t)) offered most reached f (record { at_end = a; begun = c.0 }) c.2
    (front-at (taken_main t ++ take count offered) (taken_main t ++ offered) out out (ap (λ l. taken_main t ++ l) (take_all count offered c.1.0)) refl front)
main_call role there t offered count load None f c front (stopped place given broken) =
    main_stopped role there (past role t) (pulled (linked Reliable role t)) (taken_main t ++ take count offered) (handed_out (linked Lossy role t)) offered (take count offered) None place given broken c.2
main_call role there t offered count load (Some (most, reached)) f c front (stopped place given broken) =
    main_stopped role there (past role t) (pulled (linked Reliable role t)) (taken_main t ++ take count offered) (handed_out (linked Lossy role t)) offered (take most offered) (Some (most, reached)) place given broken c.2

abbrev after_both : Role → Trace Entry → Trace Pull → Trace Handed → Past
after_both role t pulls parts = after_parts role (after_pulls role (past role t) pulls) parts

-- the calls that a datagram makes of a link
abbrev wired : Kind → Role → Trace Entry → Kind → ℕ → List ℕ → Took → ℕ → Trace Pull → Trace Handed → Option (Trace Act) → Trace link.Entry
wired kind role t made now datagram took load pulls parts lack = reads_in kind role (outset role t load) pulls parts lack (takes_in kind made now datagram took (linked kind role t))

wire_call : (role : Role) (there : Trace Act) (t : Trace Entry) (made : Kind) (now : ℕ) (datagram : List ℕ) (took : Took) (load : ℕ) (came : Came) (pulls : Trace Pull) (parts : Trace Handed) (lack : Option (Trace Act)) (b : Bool)
    → Spelled (other role) there → is_attached made (acts role t) ≡ b → IsWireIn b role t made took load came pulls parts lack
    → IsPrefixOf (pulled (cond b (wired Reliable role t made now datagram took load pulls parts lack) (linked Reliable role t))) (flat_map tunneled (carried Reliable (other role) there))
    → IsPickOf (handed_out (cond b (wired Lossy role t made now datagram took load pulls parts lack) (linked Lossy role t))) (map tunneled (carried Lossy (other role) there))
    → StateOf role there t
    → State role there (lacking lack (after_both role t pulls parts)) (taken_main t) (pulled (cond b (wired Reliable role t made now datagram took load pulls parts lack) (linked Reliable role t)))
    (handed_out (cond b (wired Lossy role t made now datagram took load pulls parts lack) (linked Lossy role t)))
wire_call role there t made now datagram took load came pulls parts lack true f e h front pick s =
    let out : List ℕ = flat_map tunneled (carried Reliable (other role) there) in
    let posts : List (List ℕ) = map tunneled (carried Lossy (other role) there) in
    let bytes = (reads_took Reliable role t made now datagram took load pulls parts lack).pulled_is in
    let handed = (reads_took Lossy role t made now datagram took load pulls parts lack).handed_is in
    state_at role there (lacking lack (after_both role t pulls parts)) (taken_main t) (taken_main t) (pulled (linked Reliable role t) ++ pulled_bytes pulls) (pulled (wired Reliable role t made now datagram took load pulls parts lack))
    (handed_out (linked Lossy role t) ++ handed_parts parts) (handed_out (wired Lossy role t made now datagram took load pulls parts lack)) refl (sym bytes) (sym handed)
    (by_state (front-at (pulled (wired Reliable role t made now datagram took load pulls parts lack)) (pulled (linked Reliable role t) ++ pulled_bytes pulls) out out bytes refl front)
    (pick-at (handed_out (wired Lossy role t made now datagram took load pulls parts lack)) (handed_out (linked Lossy role t) ++ handed_parts parts) posts posts handed refl pick) s) where
      by_state : IsPrefixOf (pulled (linked Reliable role t) ++ pulled_bytes pulls) (flat_map tunneled (carried Reliable (other role) there)) → IsPickOf (handed_out (linked Lossy role t) ++ handed_parts parts) (map tunneled (carried Lossy (other role) there))
          → StateOf role there t → State role there (lacking lack (after_both role t pulls parts)) (taken_main t) (pulled (linked Reliable role t) ++ pulled_bytes pulls) (handed_out (linked Lossy role t) ++ handed_parts parts)
      by_state front pick (reads_on a) =
          link_in role there pulls parts lack (past role t) (taken_main t) (pulled (linked Reliable role t)) (handed_out (linked Lossy role t)) f (record { at_end = a; begun = attached_begun made (acts role t) e }) h.lacking front pick
      by_state front pick (stopped place given broken) =
          link_stopped role there pulls parts lack (past role t) (taken_main t) (pulled (linked Reliable role t) ++ pulled_bytes pulls) (handed_out (linked Lossy role t) ++ handed_parts parts) place given broken h.lacking
wire_call role there t made now datagram took load came pulls parts lack false f e h front pick s =
    let P : Past → Type 0 = λ q. State role there q (taken_main t) (pulled (linked Reliable role t)) (handed_out (linked Lossy role t)) in
    subst P (ap (λ (o : Option (Trace Act)). lacking o (after_both role t pulls parts)) (sym h.none_lacking))
    (subst P (ap (λ (ps : Trace Handed). after_parts role (after_pulls role (past role t) pulls) ps) (sym h.none_handed)) (subst P (ap (after_pulls role (past role t)) (sym h.none_pulled)) s))

poll_call : (role : Role) (there : Trace Act) (t : Trace Entry) (made : Kind) (now : ℕ) (is_full : Bool) (out : Option (List ℕ)) (p : Past) (kept : LinkState)
    → State role there p (taken_main t) (pulled (linked Reliable role t)) (handed_out (linked Lossy role t))
    → State role there p (taken_main t) (pulled (linked Reliable role (t ▷ WireOut made now is_full out kept))) (handed_out (linked Lossy role (t ▷ WireOut made now is_full out kept)))
poll_call role there t made now is_full out p kept s =
    state_at role there p (taken_main t) (taken_main t) (pulled (linked Reliable role t)) (pulled (linked Reliable role (t ▷ WireOut made now is_full out kept))) (handed_out (linked Lossy role t)) (handed_out (linked Lossy role (t ▷ WireOut made now is_full out kept))) refl
    (sym (poll_same Reliable role t made now is_full out kept).pulled_same) (sym (poll_same Lossy role t made now is_full out kept).handed_same) s

state_call : (role : Role) (there : Trace Act) (t : Trace Entry) (entry : Entry) → Spelled (other role) there → IsCall role t entry → Comes role there (t ▷ entry) → StateOf role there t → StateOf role there (t ▷ entry)
state_call role there t (Own act) f c come s =
    state_at role there (past role (t ▷ Own act)) (taken_main t) (taken_main t) (pulled (linked Reliable role t)) (pulled (linked Reliable role (t ▷ Own act))) (handed_out (linked Lossy role t)) (handed_out (linked Lossy role (t ▷ Own act))) refl
    (sym (own_same Reliable role t act).pulled_same) (sym (own_same Lossy role t act).handed_same)
    (own_step role there (past role t) act (taken_main t) (pulled (linked Reliable role t)) (handed_out (linked Lossy role t)) (own_quiet act c.0) c.3 c.4 c.2 s)
state_call role there t (MainIn offered count load lack) f c come s =
    state_at role there (past role (t ▷ MainIn offered count load lack)) (taken_main t ++ take count offered) (taken_main t ++ take count offered) (pulled (linked Reliable role t)) (pulled (linked Reliable role (t ▷ MainIn offered count load lack)))
    (handed_out (linked Lossy role t)) (handed_out (linked Lossy role (t ▷ MainIn offered count load lack))) refl
    (sym (main_same Reliable role t offered count load lack).pulled_same) (sym (main_same Lossy role t offered count load lack).handed_same)
    (main_call role there t offered count load lack f c come.main s)
state_call role there t (MainOut room bytes) f c come s = s
state_call role there t (WireIn made now datagram took load came pulls parts lack) f c come s =
    wire_call role there t made now datagram took load came pulls parts lack (is_attached made (acts role t)) f refl c come.reliable come.lossy s
state_call role there t (WireOut Reliable now is_full out kept) f c come s =
    poll_call role there t Reliable now is_full out (past role (t ▷ WireOut Reliable now is_full out kept)) kept (poll_state role there Reliable t now is_full kept (taken_main t) (pulled (linked Reliable role t)) (handed_out (linked Lossy role t)) c s)
state_call role there t (WireOut Lossy now is_full out kept) f c come s =
    poll_call role there t Lossy now is_full out (past role (t ▷ WireOut Lossy now is_full out kept)) kept (poll_state role there Lossy t now is_full kept (taken_main t) (pulled (linked Reliable role t)) (handed_out (linked Lossy role t)) c s)

gave_more : (role : Role) (t : Trace Entry) (entry : Entry) → IsCall role t entry → IsPrefixOf (given_main t) (flat_map framed (spoken role (acts role t))) → IsPrefixOf (given_main t) (flat_map framed (spoken role (acts role (t ▷ entry))))
gave_more role t entry c g =
    front-trans (given_main t) (flat_map framed (spoken role (acts role t))) (flat_map framed (spoken role (acts role (t ▷ entry)))) g
    (front-flat_map framed (spoken role (acts role t)) (spoken role (acts role (t ▷ entry))) (front_spoken role (acts role t) (acts role (t ▷ entry)) (goes_call role t entry c)))

-- what was handed out was written before
gave_call : (role : Role) (t : Trace Entry) (entry : Entry) → IsCall role t entry → IsPrefixOf (given_main t) (flat_map framed (spoken role (acts role t))) → IsPrefixOf (given_main (t ▷ entry)) (flat_map framed (spoken role (acts role (t ▷ entry))))
gave_call role t (MainOut room bytes) c g =
    let out : List ℕ = flat_map framed (spoken role (acts role t)) in
    front-at (given_main t ++ take room (drop (length (given_main t)) out)) (given_main t ++ bytes) out out (ap (λ l. given_main t ++ l) (sym c)) refl (front-next room (given_main t) out g)
gave_call role t (Own act) c g = gave_more role t (Own act) c g
gave_call role t (MainIn offered count load lack) c g = gave_more role t (MainIn offered count load lack) c g
gave_call role t (WireIn made now datagram took load came pulls parts lack) c g = gave_more role t (WireIn made now datagram took load came pulls parts lack) c g
gave_call role t (WireOut made now is_full out kept) c g = gave_more role t (WireOut made now is_full out kept) c g

pub one_call : (role : Role) (there : Trace Act) (t : Trace Entry) (entry : Entry) → Sound role there t → Spelled (other role) there → IsCall role t entry → Comes role there (t ▷ entry) → Sound role there (t ▷ entry)
one_call role there t entry s f c come =
    let state = state_call role there t entry f c come s.state in
    let taken = taken_main (t ▷ entry) in
    let bytes = pulled (linked Reliable role (t ▷ entry)) in
    let parts = handed_out (linked Lossy role (t ▷ entry)) in record {
      state = state;
      wrote = λ kind. wrote_call kind role t entry c (s.wrote kind);
      gave = gave_call role t entry c s.gave;
      spelled = spelled_of role (acts role (t ▷ entry)) there (state_place role there (past role (t ▷ entry)) taken bytes parts state) (state_given role there (past role (t ▷ entry)) taken bytes parts state) f;
    }

-- ---- both ends

pub record Both (w : Trace (Role × Entry)) : Type 0 where
  pub server : Sound Server (acts_of Client w) (at Server w)
  pub client : Sound Client (acts_of Server w) (at Client w)

-- an end faces another that went on
state_facing : (role : Role) (u v : Trace Act) (p : Past) (taken bytes : List ℕ) (parts : List (List ℕ)) → Place role p.acts v → State role u p taken bytes parts → State role v p taken bytes parts
state_facing role u v p taken bytes parts place (reads_on a) = reads_on (record {
  place = place;
  given = a.given;
  fine = a.fine;
  main_is = a.main_is;
  main_part = a.main_part;
  tunnel_is = a.tunnel_is;
  tunnel_part = a.tunnel_part;
  lossy_is = a.lossy_is;
})
state_facing role u v p taken bytes parts place (stopped old given broken) = stopped place given broken

sound_facing : (role : Role) (u v : Trace Act) (t : Trace Entry) → Place role (acts role t) v → Sound role u t → Sound role v t
sound_facing role u v t place s = record {
  state = state_facing role u v (past role t) (taken_main t) (pulled (linked Reliable role t)) (handed_out (linked Lossy role t)) place s.state;
  wrote = s.wrote;
  gave = s.gave;
  spelled = s.spelled;
}

sound_place : (role : Role) (there : Trace Act) (t : Trace Entry) → Sound role there t → Place role (acts role t) there
sound_place role there t s = state_place role there (past role t) (taken_main t) (pulled (linked Reliable role t)) (handed_out (linked Lossy role t)) s.state

start : (role : Role) → Sound role Start Start
start role = record {
  state = reads_on (record {
    place = record {
      here_acts = tt;
      there_acts = tt;
      came = record { main = ([], refl); reliable = ([], refl); lossy = pick-same [] };
      left = record { main = ([], refl); reliable = ([], refl); lossy = pick-same [] };
    };
    given = tt;
    fine = refl;
    main_is = refl;
    main_part = no_frame;
    tunnel_is = refl;
    tunnel_part = no_pdu;
    lossy_is = refl;
  });
  wrote = by_kind;
  gave = ([], refl);
  spelled = record { frames = tt; pdus = λ kind. tt };
}
  where
    by_kind : (kind : Kind) → Wrote kind role Start Start
    by_kind Reliable = refl
    by_kind Lossy = refl

-- what came left the other end, which is sound
comes : (role : Role) (t u : Trace Entry) → Sound (other role) (acts role t) u → (v : Trace Entry)
    → IsPrefixOf (taken_main v) (given_main u) → IsPrefixOf (pulled (linked Reliable role v)) (given (linked Reliable (other role) u)) → IsPickOf (handed_out (linked Lossy role v)) (posted (linked Lossy (other role) u)) → Comes role (acts (other role) u) v
comes role t u s v main reliable lossy = record {
  main = front-trans (taken_main v) (given_main u) (flat_map framed (spoken (other role) (acts (other role) u))) main s.gave;
  reliable = front-at (pulled (linked Reliable role v)) (pulled (linked Reliable role v)) (given (linked Reliable (other role) u)) (flat_map tunneled (carried Reliable (other role) (acts (other role) u))) refl (s.wrote Reliable) reliable;
  lossy = pick-at (handed_out (linked Lossy role v)) (handed_out (linked Lossy role v)) (posted (linked Lossy (other role) u)) (map tunneled (carried Lossy (other role) (acts (other role) u))) refl (s.wrote Lossy) lossy;
}

net_joined : (w : Trace (Role × Entry)) → Net w → IsJoined w
net_joined Start n = n
net_joined (w ▷ call) n = n.0

turned_back : (s c : Trace Act) → Place Client c s → Place Server s c
turned_back s c p = record { here_acts = p.there_acts; there_acts = p.here_acts; came = p.left; left = p.came }

pub both_ends : (w : Trace (Role × Entry)) → Net w → Both w
both_ends Start n = record { server = start Server; client = start Client }
both_ends (w ▷ (Server, entry)) n =
    let b = both_ends w n.1 in
    let j = n.0 in
    let s = at Server w in
    let c = at Client w in
    let one = one_call Server (acts Client c) s entry b.server b.client.spelled j.server.0 (comes Server s c b.client (s ▷ entry) (j.main Server) (j.reliable Server) (j.lossy Server)) in record {
      server = one;
      client = sound_facing Client (acts Server s) (acts Server (s ▷ entry)) c (turned (acts Server (s ▷ entry)) (acts Client c) (sound_place Server (acts Client c) (s ▷ entry) one)) b.client;
    }
both_ends (w ▷ (Client, entry)) n =
    let b = both_ends w n.1 in
    let j = n.0 in
    let s = at Server w in
    let c = at Client w in
    let one = one_call Client (acts Server s) c entry b.client b.server.spelled j.client.0 (comes Client c s b.server (c ▷ entry) (j.main Client) (j.reliable Client) (j.lossy Client)) in record {
      server = sound_facing Server (acts Client c) (acts Client (c ▷ entry)) s (turned_back (acts Server s) (acts Client (c ▷ entry)) (sound_place Client (acts Server s) (c ▷ entry) one)) b.server;
      client = one;
    }

fine_of : (o : Option Fault) → (o ≡ None → IsFine o) × (o ≡ Some fault.NoMemory → IsFine o)
fine_of None = (λ e. tt, λ e. tt)
fine_of (Some why) = (λ e. absurd (let no : Some why ≡ None = e in cc), λ e. (let same : why ≡ fault.NoMemory = cc in same))

state_fine : (role : Role) (there : Trace Act) (p : Past) (taken bytes : List ℕ) (parts : List (List ℕ)) → State role there p taken bytes parts → IsFine p.broken
state_fine role there p taken bytes parts (reads_on a) = (fine_of p.broken).0 a.fine
state_fine role there p taken bytes parts (stopped place given broken) = (fine_of p.broken).1 broken

sound_fine : (role : Role) (there : Trace Act) (t : Trace Entry) → Sound role there t → IsFine (past role t).broken
sound_fine role there t s = state_fine role there (past role t) (taken_main t) (pulled (linked Reliable role t)) (handed_out (linked Lossy role t)) s.state

pub net_is_safe : (w : Trace (Role × Entry)) → Net w → Safe w
net_is_safe w n =
    let b = both_ends w n in
    let j = net_joined w n in
    let place = sound_place Server (acts_of Client w) (at Server w) b.server in record {
      to_client = λ id. (safe_at (acts_of Server w) (acts_of Client w) place id).0;
      to_server = λ id. (safe_at (acts_of Server w) (acts_of Client w) place id).1;
      fine = by_role (sound_fine Server (acts_of Client w) (at Server w) b.server) (sound_fine Client (acts_of Server w) (at Client w) b.client);
      within = by_side (within Server (at Server w) j.server) (within Client (at Client w) j.client);
    } where
      by_role : IsFine (past Server (at Server w)).broken → IsFine (past Client (at Client w)).broken → (role : Role) → IsFine (past role (at role w)).broken
      by_role s c Server = s
      by_role s c Client = c

      by_side : IsWithin Server (at Server w) → IsWithin Client (at Client w) → (role : Role) → IsWithin role (at role w)
      by_side s c Server = s
      by_side s c Client = c
