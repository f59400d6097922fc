-- What a datagram under way is read as where it comes, by the margins.
use Rattle.std.proofs.Common.{◌≡◌, ℕ, ◌+◌, ◌-◌, ◌*◌, ◌<◌, ◌≤◌, Bool, true, false, cond, Some, refl, sym, ap, ◌∙◌, subst, arith}
use Rattle.mt_base.specs.Trace.{Trace}
use Rattle.mt_windows.specs.Arrived.{drained}
use Rattle.mt_windows.specs.Sending.{Act, cuts, transmissions, lowest_or_next}
use Rattle.carrier.specs.Layout.{Layout, Bounds, Carried, Received, Telling, Carries, named_in, read_near}
use Rattle.carrier.specs.Receiving.{arrival, arrival_of, part_read, transmission_read, floor_read, next_part, last_seen, last_told}
use Rattle.carrier.specs.Sending.{told_reference}
use Rattle.carrier.specs.LayoutLaw.{is_received, low_part}
use Rattle.carrier.specs.TwoLinks.{Around, ahead}
use Rattle.carrier.proofs.links.Invariant.{Even, Follows, Flies, Low, Told, behind, count, has}
use Rattle.carrier.proofs.links.Numbers.{below_lowest}
use Rattle.carrier.proofs.links.Parts.{drained_within}
use Rattle.carrier.proofs.links.Steps.{cuts_within, reached, end_within}
use Rattle.carrier.proofs.links.Around.{last_behind, behind_within, count_near, count_numbers}
use Rattle.carrier.proofs.links.Facing.{Facing, same_span, same_tell, same_window, some_half, read_is}

-- the number behind the last one that is told, from the sender's side
pub told_behind : (late : ℕ) (l m : Layout) → Facing late l m → (r : Received) → last_told m r + 1 ≡ behind l.tells_parts l.own r
told_behind late l m f r =
    last_behind m.tells_parts m.peer r f.there.some_peer
    ∙ ap (λ kind. behind kind m.peer r) f.kinds ∙ ap (λ first. behind l.tells_parts first r) f.first

-- `l` is the layout of the sender and `m` that of the receiver
module _ (late : ℕ) (l m : Layout) (f : Facing late l m) (a : Trace Act) (r : Received) (n : ℕ) (even : Even l.bounds.windows l.own a) (now : Follows l.tells_parts l.bounds.windows l.own a r n) where
  -- the margin below: nothing was drained that wasn't cut
  pub drained_cut : drained r.parts n ≤ cuts a
  drained_cut = omega (arith, drained_within r.parts n, end_within l.tells_parts l.bounds.windows l.own a r n now)

  -- the margin above: what was cut ends two windows above what was drained
  pub cut_near : cuts a ≤ drained r.parts n + 2 * l.bounds.windows.window
  cut_near =
      omega (arith, cuts_within l.bounds.windows l.own a even, reached l.tells_parts l.bounds.windows l.own a r n (lowest_or_next l.bounds.windows a) now (below_lowest l.bounds.windows a), now.room)

  -- a telling that is sent now
  pub told_now : (above : ℕ) → above ≤ last_told m r → Told l.tells_parts l.bounds.windows l.bounds.tell l.own 0 a r (m.told r above)
  told_now above low =
      let last = told_behind late l m f r in
      record {
        got = λ q le is. got q (f.there.received r above q (omega (arith, first, le)) is);
        within = omega (arith, last, f.there.named_within r above low);
        near = omega (arith, last, f.there.named_near r above, same_tell late l m f, count_near l.tells_parts l.bounds.windows l.own a r n f.here.some_own even now);
      }
    where
      first : m.peer ≡ l.own
      first = f.first

      got : (q : ℕ) → is_received m r q ≡ true → has l.tells_parts l.own r q ≡ true
      got q is = sym (ap (λ kind. has kind m.peer r q) f.kinds ∙ ap (λ x. has l.tells_parts x r q) f.first) ∙ is

module _ (late : ℕ) (l m : Layout) (f : Facing late l m) (a : Trace Act) (r : Received) (n k : ℕ) (even : Even l.bounds.windows l.own a) (now : Follows l.tells_parts l.bounds.windows l.own a r n) (soon : k < late) where
  some : 0 < f.half
  some = some_half late l m f

  below_numbers : (place : ℕ) → place < cuts a → l.own + place < m.bounds.windows.numbers
  below_numbers place less = subst (λ (b : Bounds). l.own + place < b.windows.numbers) (sym f.bounds) (omega (arith, less, even.numbers f.numbers))

  made_numbers : (place : ℕ) → place < transmissions a → l.own + place < m.bounds.windows.numbers
  made_numbers place less = subst (λ (b : Bounds). l.own + place < b.windows.numbers) (sym f.bounds) (omega (arith, less, even.made f.numbers))

  -- where a part lies
  pub part_lies : (c : Carried) → Flies l.bounds.windows l.own k a c → Around (next_part m r n) (m.bounds.windows.window + late) (2 * m.bounds.windows.window) c.part
  part_lies c h =
      let first = f.first in
      let window = same_window late l m f in (
        omega (arith, first, h.number, drained_cut late l m f a r n even now, h.near, window, soon),
        omega (arith, first, h.number, h.cut, cut_near late l m f a r n even now, window),
      )

  -- the number of a part
  pub part_is : (c : Carried) → Flies l.bounds.windows l.own k a c → part_read m r n (low_part l c.part) ≡ Some c.part
  part_is c h =
      let lies = part_lies c h in
      let window = same_window late l m f in
      let first = f.first in
      let low : m.peer + drained r.parts n ≤ c.part + f.half = omega (arith, lies.0, window, f.enough.window_and_late) in
      let high : c.part < m.peer + drained r.parts n + f.half = omega (arith, first, h.number, h.cut, cut_near late l m f a r n even now, f.enough.two_windows) in
      let less : c.part < m.bounds.windows.numbers = omega (arith, h.number, below_numbers h.place h.cut) in
      read_is m f.half l.modulus (m.peer + drained r.parts n) c.part f.there_modulus f.here_modulus some low high less

  -- where a transmission lies, around the last one that was seen, where transmissions are told
  pub made_lies : (x place back : ℕ) → m.tells_parts ≡ false → x ≡ l.own + place → place < transmissions a → transmissions a ≤ place + back + 1 + k → Around (last_seen m r) (back + late) m.bounds.windows.span x
  made_lies x place back is number made recent =
      let kind : l.tells_parts ≡ false = sym f.kinds ∙ is in
      let windows = l.bounds.windows in
      let own = l.own in
      let some_own = f.here.some_own in
      let here : Follows false windows own a r n = subst (λ b. Follows b windows own a r n) kind now in
      let last : last_seen m r + 1 ≡ behind false own r = last_behind false m.peer r f.there.some_peer ∙ ap (λ p. behind false p r) f.first in
      let within : last_seen m r + 1 ≤ own + transmissions a = omega (arith, last, behind_within false windows own a r n some_own here) in
      let near : own + transmissions a ≤ last_seen m r + 1 + windows.span = omega (arith, last, count_near false windows own a r n some_own even here) in
      let span = same_span late l m f in
      (omega (arith, within, number, recent, soon), omega (arith, near, number, made, span))

  -- and so its number
  made_is : (x place back : ℕ) → m.tells_parts ≡ false → x ≡ l.own + place → place < transmissions a → transmissions a ≤ place + back + 1 + k → back ≤ l.bounds.windows.span → read_near m (last_seen m r) (low_part l x) ≡ Some x
  made_is x place back is number made recent short =
      let kind : l.tells_parts ≡ false = sym f.kinds ∙ is in
      let room : l.bounds.windows.span + l.bounds.tell + late ≤ f.half = subst (λ b. ahead b l.bounds.windows + l.bounds.tell + late ≤ f.half) kind f.enough.told_and_late in
      let lies = made_lies x place back is number made recent in
      let span = same_span late l m f in
      read_is m f.half l.modulus (last_seen m r) x f.there_modulus f.here_modulus some (omega (arith, lies.0, short, room)) (omega (arith, lies.1, span, room, soon))
      (omega (arith, number, made_numbers place made))

  -- where the transmission of a part lies
  pub transmission_lies : (c : Carried) → Flies l.bounds.windows l.own k a c → m.tells_parts ≡ false → Around (last_seen m r) late m.bounds.windows.span c.transmission
  transmission_lies c h is =
      let lies = made_lies c.transmission h.sent 0 is h.sending h.made (omega (arith, h.recent)) in
      (omega (arith, lies.0), lies.1)

  -- the number of a transmission
  pub transmission_is : (c : Carried) → Flies l.bounds.windows l.own k a c → transmission_read m r (low_part l c.transmission) ≡ Some (cond m.tells_parts m.peer c.transmission)
  transmission_is c h = by_kind m.tells_parts refl
    where
      by_kind : (b : Bool) → m.tells_parts ≡ b → cond b (Some m.peer) (read_near m (last_seen m r) (low_part l c.transmission)) ≡ Some (cond b m.peer c.transmission)
      by_kind true e = refl
      by_kind false e = made_is c.transmission h.sent 0 e h.sending h.made (omega (arith, h.recent)) (omega arith)

  -- what arrives
  pub arrives : (c : Carried) → Flies l.bounds.windows l.own k a c
      → arrival m r n (Carries (low_part l c.part) (low_part l c.transmission) c.bytes) ≡ Some (record { part = c.part; transmission = cond m.tells_parts m.peer c.transmission; bytes = c.bytes })
  arrives c h =
      ap (λ o. arrival_of o (transmission_read m r (low_part l c.transmission)) c.bytes) (part_is c h) ∙ ap (λ o. arrival_of (Some c.part) o c.bytes) (transmission_is c h)

  -- where a floor lies
  pub floor_lies : (x : ℕ) → Low l.tells_parts l.bounds.windows l.own k a x
      → Around (cond m.tells_parts (next_part m r n) (last_seen m r)) (ahead m.tells_parts m.bounds.windows + late) (ahead m.tells_parts m.bounds.windows) x
  floor_lies x h = by_kind m.tells_parts refl
    where
      of_part : l.tells_parts ≡ true → Around (next_part m r n) (m.bounds.windows.window + late) m.bounds.windows.window x
      of_part e =
          let first = f.first in
          let window = same_window late l m f in
          let far = reached l.tells_parts l.bounds.windows l.own a r n h.place now (h.below e) in (
            omega (arith, first, h.number, drained_cut late l m f a r n even now, h.near e, window, soon),
            omega (arith, first, h.number, far, now.room, window),
          )

      by_kind : (b : Bool) → m.tells_parts ≡ b → Around (cond b (next_part m r n) (last_seen m r)) (ahead b m.bounds.windows + late) (ahead b m.bounds.windows) x
      by_kind true e = of_part (sym f.kinds ∙ e)
      by_kind false e =
          let kind : l.tells_parts ≡ false = sym f.kinds ∙ e in
          let span = same_span late l m f in
          let lies = made_lies x h.place l.bounds.windows.span e h.number (h.made kind) (h.recent kind) in
          (omega (arith, lies.0, span), lies.1)

  -- the floor
  pub floor_is : (x : ℕ) → Low l.tells_parts l.bounds.windows l.own k a x → floor_read m r n (low_part l x) ≡ Some x
  floor_is x h = by_kind m.tells_parts refl
    where
      of_part : m.tells_parts ≡ true → read_near m (next_part m r n) (low_part l x) ≡ Some x
      of_part e =
          let lies = subst (λ b. Around (cond b (next_part m r n) (last_seen m r)) (ahead b m.bounds.windows + late) (ahead b m.bounds.windows) x) e (floor_lies x h) in
          let window = same_window late l m f in
          let low : m.peer + drained r.parts n ≤ x + f.half = omega (arith, lies.0, window, f.enough.window_and_late) in
          let high : x < m.peer + drained r.parts n + f.half = omega (arith, lies.1, window, f.enough.two_windows, f.enough.some_window) in
          let less : x < m.bounds.windows.numbers = omega (arith, h.number, below_numbers h.place (h.cut (sym f.kinds ∙ e))) in
          read_is m f.half l.modulus (m.peer + drained r.parts n) x f.there_modulus f.here_modulus some low high less

      by_kind : (b : Bool) → m.tells_parts ≡ b → read_near m (cond b (next_part m r n) (last_seen m r)) (low_part l x) ≡ Some x
      by_kind true e = of_part e
      by_kind false e =
          let kind : l.tells_parts ≡ false = sym f.kinds ∙ e in
          made_is x h.place l.bounds.windows.span e h.number (h.made kind) (h.recent kind) (omega arith)

  -- where the number lies that a telling names
  pub named_lies : (t : Telling) → Told l.tells_parts l.bounds.windows l.bounds.tell l.own k a r t
      → Around (told_reference l a) (ahead l.tells_parts l.bounds.windows + l.bounds.tell + late) 0 (named_in t)
  named_lies t h =
      let within = behind_within l.tells_parts l.bounds.windows l.own a r n f.here.some_own now in
      let low : l.own + count l.tells_parts a - 1 ≤ named_in t + (ahead l.tells_parts l.bounds.windows + l.bounds.tell + late) = omega (arith, h.near, soon) in
      let high : named_in t ≤ l.own + count l.tells_parts a - 1 + 0 = omega (arith, h.within, within) in
      (low, high)

  -- the number that a telling names
  pub named_is : (t : Telling) → Told l.tells_parts l.bounds.windows l.bounds.tell l.own k a r t → read_near l (told_reference l a) (low_part m (named_in t)) ≡ Some (named_in t)
  named_is t h =
      let within = behind_within l.tells_parts l.bounds.windows l.own a r n f.here.some_own now in
      let own = f.here.some_own in
      let half = some in
      let low : l.own + count l.tells_parts a - 1 ≤ named_in t + f.half = omega (arith, h.near, f.enough.told_and_late, soon) in
      let high : named_in t < l.own + count l.tells_parts a - 1 + f.half = omega (arith, h.within, within, own, half) in
      let less : named_in t < l.bounds.windows.numbers = omega (arith, h.within, within, count_numbers l.tells_parts l.bounds.windows l.own a even f.numbers) in
      read_is l f.half m.modulus (l.own + count l.tells_parts a - 1) (named_in t) f.here_modulus f.there_modulus some low high less
