-- Two layouts that belong together, from the side of one, and how numbers are read between them.
use Rattle.std.proofs.Common.{◌≡◌, ℕ, ◌+◌, ◌*◌, ◌%◌, ◌<◌, ◌≤◌, true, ltb, cond, List, Some, None, refl, sym, ap, ◌∙◌, arith}
use Rattle.std.proofs.lemmas.Bool.Decides.{nat_tests}
use Rattle.mt_base.specs.declared.kinds.Role.{Role}
use Rattle.mt_base.specs.declared.kinds.Role.TheVariants.{Server, Client}
use Rattle.mt_base.specs.Ends.{other}
use Rattle.mt_base.specs.Nearness.{nearest}
use Rattle.mt_base.proofs.LowPart.{nearest_meant}
use Rattle.carrier.specs.Layout.{Layout, Bounds, bounded, read_near}
use Rattle.carrier.specs.LayoutLaw.{IsLayout, low_part}
use Rattle.carrier.specs.TwoLinks.{Enough, Margins}

pub record Facing (late : ℕ) (l m : Layout) : Type 0 where
  pub here : IsLayout l
  pub there : IsLayout m
  pub kinds : m.tells_parts ≡ l.tells_parts
  pub reads : (datagram : List ℕ) → m.read datagram ≡ l.read datagram
  pub first : m.peer ≡ l.own
  pub bounds : m.bounds ≡ l.bounds
  pub half : ℕ
  pub here_modulus : l.modulus ≡ 2 * half
  pub there_modulus : m.modulus ≡ 2 * half
  pub enough : Enough late half l.tells_parts l.bounds
  pub numbers : l.own ≤ l.bounds.windows.numbers

-- one end alone: its layout leaves room for its window
pub record Alone (l : Layout) : Type 0 where
  pub here : IsLayout l
  pub half : ℕ
  pub here_modulus : l.modulus ≡ 2 * half
  pub some_half : 0 < half
  pub one_window : l.bounds.windows.window ≤ half

pub alone : (late : ℕ) (l m : Layout) → Facing late l m → Alone l
alone late l m f = record {
  here = f.here;
  half = f.half;
  here_modulus = f.here_modulus;
  some_half = omega (arith, f.enough.some_window, f.enough.two_windows);
  one_window = omega (arith, f.enough.window_and_late);
}

other_twice : (s : Role) → other (other s) ≡ s
other_twice Server = refl
other_twice Client = refl

pub facing : (late : ℕ) (layouts : Role → Layout) (s : Role) → Margins late layouts → Facing late (layouts s) (layouts (other s))
facing late layouts s h = record {
  here = h.layout s;
  there = h.layout (other s);
  kinds = sym (h.kinds s);
  reads = λ d. sym (h.reads s d);
  first = sym (h.faces s);
  bounds = sym (h.bounds s);
  half = h.room;
  here_modulus = h.modulus s;
  there_modulus = h.modulus (other s);
  enough = h.enough s;
  numbers = h.numbers s;
}

pub same_window : (late : ℕ) (l m : Layout) → Facing late l m → m.bounds.windows.window ≡ l.bounds.windows.window
same_window late l m f = ap (λ (b : Bounds). b.windows.window) f.bounds

pub same_span : (late : ℕ) (l m : Layout) → Facing late l m → m.bounds.windows.span ≡ l.bounds.windows.span
same_span late l m f = ap (λ (b : Bounds). b.windows.span) f.bounds

pub same_tell : (late : ℕ) (l m : Layout) → Facing late l m → m.bounds.tell ≡ l.bounds.tell
same_tell late l m f = ap (λ (b : Bounds). b.tell) f.bounds

pub some_half : (late : ℕ) (l m : Layout) (f : Facing late l m) → 0 < f.half
some_half late l m f = omega (arith, f.enough.some_window, f.enough.two_windows)

-- a number that is near to the reference is read from its low part
pub read_is : (m : Layout) (half modulus reference n : ℕ) → m.modulus ≡ 2 * half → modulus ≡ 2 * half → 0 < half → reference ≤ n + half → n < reference + half → n < m.bounds.windows.numbers → read_near m reference (n % modulus) ≡ Some n
read_is m half modulus reference n there here some low high less =
    ap (bounded m.bounds.windows.numbers)
    (ap (λ k. nearest k reference (n % modulus)) there ∙ ap (λ k. nearest (2 * half) reference (n % k)) here ∙ nearest_meant half reference n some low high)
    ∙ (let yes' : ltb n m.bounds.windows.numbers ≡ true = grind (arith, nat_tests) in ap (λ b. cond b (Some n) None) yes')

-- the same at the end that sent it
pub nearest_is : (l : Layout) (half reference n : ℕ) → l.modulus ≡ 2 * half → 0 < half → reference ≤ n + half → n < reference + half → nearest l.modulus reference (low_part l n) ≡ Some n
nearest_is l half reference n here some low high = ap (λ k. nearest k reference (n % k)) here ∙ nearest_meant half reference n some low high
