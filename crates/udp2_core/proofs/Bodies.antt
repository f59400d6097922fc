-- The bytes of a part are no more than those of its datagram.
use Rattle.std.proofs.Common.{◌≡◌, ℕ, ◌≤◌, List, ◌∷◌, ◌++◌, length, refl, ap, subst, arith, length-append}
use Rattle.mt_base.specs.Writing.{joined}
use Rattle.mt_windows.specs.declared.limits.TheConstants.{DATAGRAM}
use Rattle.udp2_packets.specs.Value.{Packet, Body, NoBody, DataBody, DummyBody}
use Rattle.udp2_packets.specs.Layout.{Spells, fields, kind, prefix, rest_in, text}
use Rattle.udp2_packets.proofs.WriterLemmas.{length-exchanged}
use Rattle.udp2_core.specs.ContentsView.{BodyFits}

pub body_fits : (datagram : List ℕ) (p : Packet) → Spells datagram p → BodyFits p.body
body_fits datagram p spells = by_body p.body refl where
  long : length (rest_in p.body) ≤ DATAGRAM
  long =
      let h = spells.holds in
      let whole = length-append (text p) h.filling in
      let behind = length-append (joined (fields p)) (rest_in p.body) in
      omega (arith, ap length h.datagram_is, length-exchanged (prefix h.reserved (kind p.body) (length (text p)) ∷ (text p ++ h.filling)), whole, behind, spells.short_enough)

  by_body : (b : Body) → p.body ≡ b → BodyFits b
  by_body NoBody e = tt
  by_body (DataBody number part bytes) e = subst (λ b. length (rest_in b) ≤ DATAGRAM) e long
  by_body (DummyBody number rest) e = tt
