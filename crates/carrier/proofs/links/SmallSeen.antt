-- A small world whose ends tell transmissions meets what is asked of two joined ends.
use Rattle.std.proofs.Common.{◌≡◌, ℕ, zero, suc, ◌*◌, ◌<◌, ◌≤◌, true, false, List, [], ◌∷◌, refl, arith, lit<, lit≤}
use Rattle.mt_base.specs.declared.kinds.Role.{Role}
use Rattle.mt_base.specs.declared.kinds.Role.TheVariants.{Server, Client}
use Rattle.mt_base.specs.Ends.{other}
use Rattle.mt_base.specs.Nearness.{nearest}
use Rattle.mt_windows.specs.Arrived.{passed}
use Rattle.mt_windows.specs.Sending.{settled}
use Rattle.carrier.specs.Receiving.{accepted}
use Rattle.carrier.specs.Law.{Faithful}
use Rattle.carrier.specs.LayoutLaw.{IsLayout}
use Rattle.carrier.specs.Joined.{half, Timely}
use Rattle.carrier.specs.Faithful.{HasRoom}
use Rattle.carrier.specs.TwoLinks.{Enough, Margins, Net, acts_of, windows_of}
use Rattle.carrier.specs.SmallWorld.{small, seen_layouts, seen_world}
use Rattle.carrier.proofs.links.Small.{small_layout, three_bytes}

-- ---- the ends

seen_margins : Margins 3 seen_layouts
seen_margins = record {
  layout = layout;
  kinds = kinds;
  reads = reads;
  faces = faces;
  bounds = bounds;
  room = 8;
  modulus = modulus;
  enough = enough;
  numbers = numbers;
}
  where
    layout : (s : Role) → IsLayout (seen_layouts s)
    layout Server = small_layout false 15 3 (lit≤ tt) (lit≤ tt)
    layout Client = small_layout false 3 15 (lit≤ tt) (lit≤ tt)

    kinds : (s : Role) → (seen_layouts s).tells_parts ≡ (seen_layouts (other s)).tells_parts
    kinds Server = refl
    kinds Client = refl

    reads : (s : Role) (d : List ℕ) → (seen_layouts s).read d ≡ (seen_layouts (other s)).read d
    reads Server d = refl
    reads Client d = refl

    faces : (s : Role) → (seen_layouts s).own ≡ (seen_layouts (other s)).peer
    faces Server = refl
    faces Client = refl

    bounds : (s : Role) → (seen_layouts s).bounds ≡ (seen_layouts (other s)).bounds
    bounds Server = refl
    bounds Client = refl

    modulus : (s : Role) → (seen_layouts s).modulus ≡ 2 * 8
    modulus Server = refl
    modulus Client = refl

    enough : (s : Role) → Enough 3 8 (seen_layouts s).tells_parts (seen_layouts s).bounds
    enough Server = record { some_window = lit< tt; two_windows = lit≤ tt; window_and_late = lit≤ tt; told_and_late = lit≤ tt }
    enough Client = record { some_window = lit< tt; two_windows = lit≤ tt; window_and_late = lit≤ tt; told_and_late = lit≤ tt }

    numbers : (s : Role) → (seen_layouts s).own ≤ (seen_layouts s).bounds.windows.numbers
    numbers Server = lit≤ tt
    numbers Client = lit≤ tt

-- ---- the world

server_faithful : Faithful (small false 15 3) (half Server seen_world)
unfolding nearest
server_faithful = (refl, (refl, (refl, (refl, (refl, (refl, (lit≤ tt, three_bytes, tt)))))))

client_faithful : Faithful (small false 3 15) (half Client seen_world)
unfolding nearest
client_faithful = (refl, (refl, (refl, (refl, (refl, (refl, (refl, (refl, (refl, (refl, tt))))))))))

seen_timely : Timely 3 seen_world
seen_timely =
    (λ _. (0, lit< tt, (refl, refl)), (λ _. (0, lit< tt, (refl, refl)), (λ _. (0, lit< tt, (refl, refl)), (λ _. (0, lit< tt, (refl, refl)), (λ _. (0, lit< tt, (refl, refl)), (λ _. (1, lit< tt, (refl, refl)), (λ _. (0, lit< tt, (refl, refl)), tt)))))))

pub seen_net : Net 3 seen_layouts seen_world
seen_net = record { margins = seen_margins; faithful = faithful; timely = seen_timely }
  where
    faithful : (s : Role) → Faithful (seen_layouts s) (half s seen_world)
    faithful Server = server_faithful
    faithful Client = client_faithful

pub seen_asks : (s : Role) → HasRoom (seen_layouts s)
seen_asks Server = record {
  lawful = seen_margins.layout Server;
  some_part = omega arith;
  half_window = omega arith;
}
seen_asks Client = record {
  lawful = seen_margins.layout Client;
  some_part = omega arith;
  half_window = omega arith;
}

pub seen_passes : passed (accepted (seen_layouts Client) (half Client seen_world)) ≡ 10 ∷ 20 ∷ 30 ∷ []
unfolding nearest
seen_passes = refl

pub seen_settles : (p : ℕ) → p < 3 → settled (windows_of seen_layouts Server) (acts_of seen_layouts seen_world Server) p ≡ true
unfolding nearest
seen_settles zero less = refl
seen_settles (suc zero) less = refl
seen_settles (suc (suc zero)) less = refl
seen_settles (suc (suc (suc p))) less = absurd (omega (arith, less))
