-- What stands at the front of a buffer after a datagram was written to it.
use Rattle.std.proofs.Common.{◌≡◌, ℕ, ◌+◌, ◌-◌, ◌≤◌, ◌<◌, Bool, true, false, List, [], ◌∷◌, ◌++◌, All, length, take, if◌then◌else◌, Option, Some, None, append-nil, sym, ap, ap₂, ◌∙◌, subst, arith, length-take, zero-add, suc-add}
use Rattle.std.proofs.Math.Seq.{take-append_seam}
use Rattle.carrier.specs.Layout.{Telling, Carried}
use Rattle.carrier.specs.LayoutLaw.{IsCarried}
use Rattle.mt_windows.specs.declared.limits.TheConstants.{PART, WINDOW}
use Rattle.link_machine.specs.declared.numbers.Numbers.{Numbers}
use Rattle.link_machine.specs.Wire.{Wire, layout_of}
use Rattle.link_machine.specs.WireLaw.{IsWire, numbers_of}
use Rattle.link_machine.proofs.Steps.{take_front}

-- a text that was written to the front is taken from it
pub front_is : (text rest out : List ℕ) (n : ℕ) → n ≡ length text → out ≡ text ++ rest
    → take n out ≡ text
front_is text rest out n size is =
    ap (take n) is ∙ ap (λ k. take k (text ++ rest)) size ∙ take-append_seam text rest

-- what stands behind a text that is taken with it
take_behind : (xs ys : List ℕ) (r : ℕ) → take (length xs + r) (xs ++ ys) ≡ xs ++ take r ys
take_behind [] ys r = ap (λ k. take k ys) (zero-add r)
take_behind (x ∷ xs) ys r = ap (λ k. take k (x ∷ (xs ++ ys))) (suc-add (length xs) r) ∙ ap (λ l. x ∷ l) (take_behind xs ys r)

-- a part is written to the front of what stands behind the head
behind_head : (text rest mid part post : List ℕ) (head r : ℕ)
    → head ≡ length text → mid ≡ text ++ rest → r ≤ length part
    → take (head + r) (take head mid ++ (part ++ post)) ≡ text ++ take r part
behind_head text rest mid part post head r size is within =
    let front = front_is text rest mid head size is in
    let whole : (head + r) ≡ length text + r = ap (λ k. k + r) size in
    ap₂ (λ k f. take k (f ++ (part ++ post))) whole front
    ∙ take_behind text (part ++ post) r
    ∙ ap (λ l. text ++ l) (take_front r part post within)

-- a telling alone
pub sealed_bare : (wire : Wire) → IsWire wire → (telling : Telling) (above : Option ℕ) (rest mid new : List ℕ) (n k : ℕ)
    → (let text = wire.head telling true above None in (n ≡ length text) × (mid ≡ text ++ rest))
    → take k new ≡ wire.finished (take n mid)
    → take k new ≡ wire.spell (record { telling = telling; tells = true; floor = above; load = None })
sealed_bare wire w telling above rest mid new n k written sealed =
    let text = wire.head telling true above None in
    sealed ∙ ap wire.finished (front_is text rest mid n written.0 written.1 ∙ sym (append-nil text))
    ∙ sym (w.spells telling true above None)

-- a part behind the head of its datagram
pub sealed_part : (wire : Wire) → IsWire wire → (telling : Telling) (tells : Bool) (above shown : Option ℕ) (load : Carried) (numbers : Numbers)
    (rest mid part post new : List ℕ) (head r k : ℕ)
    → numbers ≡ numbers_of load → shown ≡ above
    → (let text = wire.head telling tells shown (Some numbers) in (head ≡ length text) × (mid ≡ text ++ rest))
    → r ≡ length load.bytes → take r part ≡ load.bytes
    → take k new ≡ wire.finished (take (head + r) (take head mid ++ (part ++ post)))
    → take k new ≡ wire.spell (record { telling = telling; tells = tells; floor = above; load = Some load })
sealed_part wire w telling tells above shown load numbers rest mid part post new head r k same_numbers same_floor written size is sealed =
    let text = wire.head telling tells shown (Some numbers) in
    let within : r ≤ length part = omega (arith, size, ap length is, length-take r part) in
    sealed ∙ ap wire.finished (behind_head text rest mid part post head r written.0 written.1 within ∙ ap (λ b. text ++ b) is
    ∙ ap₂ (λ a x. wire.head telling tells a (Some x) ++ load.bytes) same_floor same_numbers)
    ∙ sym (w.spells telling tells above (Some load))

-- what was written from the front of a buffer is a part's bytes
pub front_carried : (wire : Wire) (wait delay own peer : ℕ) (load : Carried) (n : ℕ) (buffer : List ℕ)
    → n ≤ PART → All (λ b. b < 256) (take n buffer) → take n buffer ≡ load.bytes
    → IsCarried (layout_of wire wait delay own peer) load
front_carried wire wait delay own peer load n buffer short good is =
    let size : length load.bytes ≤ PART = omega (
      arith,
      ap length (sym is),
      length-take n buffer,
      short,
    ) in
    (size, subst (All (λ b. b < 256)) is good)

-- the place of a part with this number
pub part_back : (part own p : ℕ) → part ≡ own + p → part - own ≡ p
part_back part own p is = omega (arith, is)

-- a part's number and that of its transmission
abbrev pub both_numbers : ℕ → ℕ → Numbers
both_numbers part transmission = record { part = part; transmission = transmission }

-- where it has to be told, the text is written
pub told_where : (text : List ℕ) (n : ℕ) (out : List ℕ) (pressing : Bool) → pressing ≡ true
    → take n out ≡ text
    → Some (take n out) ≡ (if pressing then Some text else None)
told_where text n out true is written = ap Some written
told_where text n out false is written = absurd (cc)

-- a part that is sent again is near to the last one cut
pub near_place : (part own cut p : ℕ) → part ≡ own + p → own + cut ≤ part + WINDOW → cut ≤ p + WINDOW
near_place part own cut p is near = omega (arith, is, near)
