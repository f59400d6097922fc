-- A small world meets what is asked of two joined ends.
use Rattle.std.proofs.Common.{◌≡◌, ℕ, zero, suc, ◌+◌, ◌-◌, ◌*◌, ◌%◌, ◌<◌, ◌≤◌, Bool, true, false, leb, cond, ◌==◌, slice_get, List, [], ◌∷◌, length, All, Option, Some, None, IfSome, unwrap_or, refl, ap, ◌∙◌, arith, lit<, lit≤}
use Rattle.std.specs.Prelude.{if◌then◌else◌}
use Rattle.std.proofs.lemmas.Bool.Decides.{nat_tests}
use Rattle.std.proofs.lemmas.List.Elements.{All-cons, All-nil}
use Rattle.mt_base.specs.declared.kinds.Role.{Role}
use Rattle.mt_base.specs.declared.kinds.Role.TheVariants.{Server, Client}
use Rattle.mt_base.specs.Ends.{other}
use Rattle.mt_base.specs.Nearness.{nearest}
use Rattle.mt_windows.specs.Arrived.{passed, greatest_part, has_part}
use Rattle.mt_windows.specs.Noted.{greatest_of, is_noted}
use Rattle.carrier.specs.Layout.{Received, Shows, Empty, Carries, Upto, From, Datagram, Carried, tells}
use Rattle.carrier.specs.Receiving.{shown_in, accepted}
use Rattle.carrier.specs.Law.{Faithful}
use Rattle.carrier.specs.LayoutLaw.{IsLayout, IsCarried, shown_of}
use Rattle.carrier.specs.Joined.{half, Timely}
use Rattle.carrier.specs.Faithful.{HasRoom}
use Rattle.carrier.specs.TwoLinks.{Enough, Margins, Net}
use Rattle.carrier.specs.SmallWorld.{small, small_layouts, small_world, small_modulus, shows_small, spelled_small, telling_by, two_told, bit}

-- ---- the layout

flag_back : (a : Bool) → bit a == 1 ≡ a
flag_back true = refl
flag_back false = refl

told_back : (kind : Bool) (named : ℕ) (a b : Bool) → two_told kind named (bit a == 1) (bit b == 1) ≡ two_told kind named a b
told_back kind named a b = ap (λ x. two_told kind named x (bit b == 1)) (flag_back a) ∙ ap (two_told kind named a) (flag_back b)

telling_back : (kind tells : Bool) (named : ℕ) (a b : Bool) → telling_by kind (bit tells) named (bit a) (bit b) ≡ if tells then Some (two_told kind named a b) else None
telling_back kind true named a b = ap Some (told_back kind named a b)
telling_back kind false named a b = refl

small_back : (kind : Bool) (own peer : ℕ) (tells : Bool) (named : ℕ) (a b : Bool) (floor : Option ℕ) (load : Option Carried)
    → (let d : Datagram = record { telling = two_told kind named a b; tells = tells; floor = floor; load = load } in
    shows_small kind (spelled_small (small_modulus kind) d) ≡ Shows (shown_of (small kind own peer) d))
small_back true own peer tells named a b None None =
    ap (λ t. Shows (record { window = Some 2; telling = t; floor = None; load = Empty })) (telling_back true tells (named % 8) a b)
small_back true own peer tells named a b None (Some c) =
    ap (λ t. Shows (record { window = Some 2; telling = t; floor = None; load = Carries (c.part % 8) (c.transmission % 8) c.bytes })) (telling_back true tells (named % 8) a b)
small_back true own peer tells named a b (Some x) None =
    ap (λ t. Shows (record { window = Some 2; telling = t; floor = Some (x % 8); load = Empty })) (telling_back true tells (named % 8) a b)
small_back true own peer tells named a b (Some x) (Some c) =
    ap (λ t. Shows (record { window = Some 2; telling = t; floor = Some (x % 8); load = Carries (c.part % 8) (c.transmission % 8) c.bytes })) (telling_back true tells (named % 8) a b)
small_back false own peer tells named a b None None =
    ap (λ t. Shows (record { window = Some 2; telling = t; floor = None; load = Empty })) (telling_back false tells (named % 16) a b)
small_back false own peer tells named a b None (Some c) =
    ap (λ t. Shows (record { window = Some 2; telling = t; floor = None; load = Carries (c.part % 16) (c.transmission % 16) c.bytes })) (telling_back false tells (named % 16) a b)
small_back false own peer tells named a b (Some x) None =
    ap (λ t. Shows (record { window = Some 2; telling = t; floor = Some (x % 16); load = Empty })) (telling_back false tells (named % 16) a b)
small_back false own peer tells named a b (Some x) (Some c) =
    ap (λ t. Shows (record { window = Some 2; telling = t; floor = Some (x % 16); load = Carries (c.part % 16) (c.transmission % 16) c.bytes })) (telling_back false tells (named % 16) a b)

small_fits : (kind : Bool) (own peer : ℕ) (tells : Bool) (named : ℕ) (a b : Bool) (floor : Option ℕ) (load : Option Carried) → IfSome load (IsCarried (small kind own peer))
    → length (spelled_small (small_modulus kind) (record { telling = two_told kind named a b; tells = tells; floor = floor; load = load })) ≤ 10
small_fits true own peer tells named a b None None h = lit≤ tt
small_fits true own peer tells named a b None (Some c) h = omega (arith, h.0)
small_fits true own peer tells named a b (Some x) None h = lit≤ tt
small_fits true own peer tells named a b (Some x) (Some c) h = omega (arith, h.0)
small_fits false own peer tells named a b None None h = lit≤ tt
small_fits false own peer tells named a b None (Some c) h = omega (arith, h.0)
small_fits false own peer tells named a b (Some x) None h = lit≤ tt
small_fits false own peer tells named a b (Some x) (Some c) h = omega (arith, h.0)

small_tiny : (kind : Bool) (xs : List ℕ) → length xs < 8 → shown_in (shows_small kind xs) ≡ None
small_tiny kind [] less = refl
small_tiny kind (a ∷ []) less = refl
small_tiny kind (a ∷ b ∷ []) less = refl
small_tiny kind (a ∷ b ∷ c ∷ []) less = refl
small_tiny kind (a ∷ b ∷ c ∷ d ∷ []) less = refl
small_tiny kind (a ∷ b ∷ c ∷ d ∷ e ∷ []) less = refl
small_tiny kind (a ∷ b ∷ c ∷ d ∷ e ∷ f ∷ []) less = refl
small_tiny kind (a ∷ b ∷ c ∷ d ∷ e ∷ f ∷ g ∷ []) less = refl
small_tiny kind (a ∷ b ∷ c ∷ d ∷ e ∷ f ∷ g ∷ h ∷ more) less = absurd (omega (arith, less))

-- what two flags tell
upto_tells : (has : ℕ → Bool) (named n : ℕ) → tells (Upto named (has (named - 1) ∷ has named ∷ [])) n ≡ true → has n ≡ true
upto_tells has named n h = by_place (leb n named) refl h
  where
    by_distance : (i : ℕ) → named - n ≡ i → n ≤ named → unwrap_or (slice_get (has named ∷ has (named - 1) ∷ []) i) false ≡ true → has n ≡ true
    by_distance zero e le is = let same : n ≡ named = omega (arith, e, le) in ap has same ∙ is
    by_distance (suc zero) e le is = let same : n ≡ named - 1 = omega (arith, e, le) in ap has same ∙ is
    by_distance (suc (suc i)) e le is = absurd (cc)

    by_place : (b : Bool) → leb n named ≡ b → unwrap_or (cond b (slice_get (has named ∷ has (named - 1) ∷ []) (named - n)) None) false ≡ true → has n ≡ true
    by_place true e is = by_distance (named - n) refl (grind (arith, nat_tests)) is
    by_place false e is = absurd (cc)

from_tells : (has : ℕ → Bool) (named n : ℕ) → tells (From named (has named ∷ has (named + 1) ∷ [])) n ≡ true → has n ≡ true
from_tells has named n h = by_place (leb named n) refl h
  where
    by_distance : (i : ℕ) → n - named ≡ i → named ≤ n → unwrap_or (slice_get (has named ∷ has (named + 1) ∷ []) i) false ≡ true → has n ≡ true
    by_distance zero e le is = let same : n ≡ named = omega (arith, e, le) in ap has same ∙ is
    by_distance (suc zero) e le is = let same : n ≡ named + 1 = omega (arith, e, le) in ap has same ∙ is
    by_distance (suc (suc i)) e le is = absurd (cc)

    by_place : (b : Bool) → leb named n ≡ b → unwrap_or (cond b (slice_get (has named ∷ has (named + 1) ∷ []) (n - named)) None) false ≡ true → has n ≡ true
    by_place true e is = by_distance (n - named) refl (grind (arith, nat_tests)) is
    by_place false e is = absurd (cc)

pub small_layout : (kind : Bool) (own peer : ℕ) → 1 ≤ own → 1 ≤ peer → IsLayout (small kind own peer)
small_layout true own peer some_own some_peer = record {
  half = 4;
  some_half = lit< tt;
  modulus_is = refl;
  some_own = some_own;
  some_peer = some_peer;
  read_back = λ r above tells floor load h. small_back true own peer tells (last r) (has_part peer r.parts (last r - 1)) (has_part peer r.parts (last r)) floor load;
  fits = λ r above tells floor load h. small_fits true own peer tells (last r) (has_part peer r.parts (last r - 1)) (has_part peer r.parts (last r)) floor load h;
  tiny = small_tiny true;
  named_near = λ r above. omega arith;
  named_within = λ r above low. omega arith;
  received = λ r above n le is. upto_tells (has_part peer r.parts) (last r) n is;
}
  where
    last : Received → ℕ
    last r = unwrap_or (greatest_part peer r.parts) (peer - 1)
small_layout false own peer some_own some_peer = record {
  half = 8;
  some_half = lit< tt;
  modulus_is = refl;
  some_own = some_own;
  some_peer = some_peer;
  read_back = λ r above tells floor load h. small_back false own peer tells (last r - 1) (is_noted (last r - 1) r.seen) (is_noted (last r - 1 + 1) r.seen) floor load;
  fits = λ r above tells floor load h. small_fits false own peer tells (last r - 1) (is_noted (last r - 1) r.seen) (is_noted (last r - 1 + 1) r.seen) floor load h;
  tiny = small_tiny false;
  named_near = λ r above. omega arith;
  named_within = λ r above low. omega arith;
  received = λ r above n le is. from_tells (λ q. is_noted q r.seen) (last r - 1) n is;
}
  where
    last : Received → ℕ
    last r = unwrap_or (greatest_of r.seen) (peer - 1)

-- ---- the ends

small_margins : Margins 2 small_layouts
small_margins = record {
  layout = layout;
  kinds = kinds;
  reads = reads;
  faces = faces;
  bounds = bounds;
  room = 4;
  modulus = modulus;
  enough = enough;
  numbers = numbers;
}
  where
    layout : (s : Role) → IsLayout (small_layouts s)
    layout Server = small_layout true 7 3 (lit≤ tt) (lit≤ tt)
    layout Client = small_layout true 3 7 (lit≤ tt) (lit≤ tt)

    kinds : (s : Role) → (small_layouts s).tells_parts ≡ (small_layouts (other s)).tells_parts
    kinds Server = refl
    kinds Client = refl

    reads : (s : Role) (d : List ℕ) → (small_layouts s).read d ≡ (small_layouts (other s)).read d
    reads Server d = refl
    reads Client d = refl

    faces : (s : Role) → (small_layouts s).own ≡ (small_layouts (other s)).peer
    faces Server = refl
    faces Client = refl

    bounds : (s : Role) → (small_layouts s).bounds ≡ (small_layouts (other s)).bounds
    bounds Server = refl
    bounds Client = refl

    modulus : (s : Role) → (small_layouts s).modulus ≡ 2 * 4
    modulus Server = refl
    modulus Client = refl

    enough : (s : Role) → Enough 2 4 (small_layouts s).tells_parts (small_layouts s).bounds
    enough Server = record { some_window = lit< tt; two_windows = lit≤ tt; window_and_late = lit≤ tt; told_and_late = lit≤ tt }
    enough Client = record { some_window = lit< tt; two_windows = lit≤ tt; window_and_late = lit≤ tt; told_and_late = lit≤ tt }

    numbers : (s : Role) → (small_layouts s).own ≤ (small_layouts s).bounds.windows.numbers
    numbers Server = lit≤ tt
    numbers Client = lit≤ tt

-- ---- the world

pub three_bytes : All (λ b. b < 256) (10 ∷ 20 ∷ 30 ∷ [])
three_bytes =
    All-cons (λ b. b < 256) 10 (20 ∷ 30 ∷ []) (lit< tt)
    (All-cons (λ b. b < 256) 20 (30 ∷ []) (lit< tt) (All-cons (λ b. b < 256) 30 [] (lit< tt) (All-nil (λ b. b < 256))))

server_faithful : Faithful (small true 7 3) (half Server small_world)
unfolding nearest
server_faithful = (refl, (refl, (refl, (refl, (refl, (lit≤ tt, three_bytes, tt))))))

client_faithful : Faithful (small true 3 7) (half Client small_world)
unfolding nearest
client_faithful = (refl, (refl, (refl, (refl, (refl, (refl, (refl, (refl, (refl, tt)))))))))

small_timely : Timely 2 small_world
small_timely =
    (λ _. (0, lit< tt, (refl, refl)), (λ _. (0, lit< tt, (refl, refl)), (λ _. (0, lit< tt, (refl, refl)), (λ _. (0, lit< tt, (refl, refl)), (λ _. (1, lit< tt, (refl, refl)), (λ _. (0, lit< tt, (refl, refl)), tt))))))

pub small_net : Net 2 small_layouts small_world
small_net = record { margins = small_margins; faithful = faithful; timely = small_timely }
  where
    faithful : (s : Role) → Faithful (small_layouts s) (half s small_world)
    faithful Server = server_faithful
    faithful Client = client_faithful

pub small_asks : (s : Role) → HasRoom (small_layouts s)
small_asks Server = record {
  lawful = small_margins.layout Server;
  some_part = omega arith;
  half_window = omega arith;
}
small_asks Client = record {
  lawful = small_margins.layout Client;
  some_part = omega arith;
  half_window = omega arith;
}

pub small_passes : passed (accepted (small_layouts Client) (half Client small_world)) ≡ 10 ∷ 20 ∷ 30 ∷ []
unfolding nearest
small_passes = refl
