-- The bytes of a part are no more than those of its datagram.
use Rattle.std.proofs.Common.{◌≡◌, ℕ, ◌≤◌, List, [], ◌∷◌, ◌++◌, length, refl, sym, ap, subst, arith, length-append}
use Rattle.byteorder.specs.Endian.{big_bytes}
use Rattle.mt_base.specs.Writing.{joined}
use Rattle.mt_windows.specs.declared.limits.TheConstants.{DATAGRAM}
use Rattle.udp1_packets.specs.Value.{Packet, Body, SynBody, DataBody, FecBody, BareBody}
use Rattle.udp1_packets.specs.Layout.{Spells, flags, body_fields, vector_fields, aoa_fields}
use Rattle.udp1_core.specs.ContentsView.{BodyFits}

joined_behind : (xs ys : List (List ℕ)) → length (joined ys) ≤ length (joined (xs ++ ys))
joined_behind [] ys = omega arith
joined_behind (x ∷ xs) ys = omega (arith, joined_behind xs ys, length-append x (joined (xs ++ ys)))

-- the bytes of a part are no more than those of the datagram
pub body_fits : (bytes : List ℕ) (p : Packet) → Spells bytes p → length bytes ≤ DATAGRAM → BodyFits p.body
body_fits bytes p spells within = by_body p.body refl where
  by_body : (b : Body) → p.body ≡ b → BodyFits b
  by_body (SynBody syn) e = tt
  by_body (DataBody vector aoa coded start text) e =
      let c = spells.choice in
      let numbers = big_bytes 4 coded ∷ big_bytes 4 start ∷ [] in
      let last : length text ≤ length (joined (numbers ++ text ∷ [])) = omega (arith, joined_behind numbers (text ∷ []), length-append text []) in
      let behind = joined_behind (aoa_fields aoa) (numbers ++ text ∷ []) in
      let vector_behind = joined_behind (vector_fields vector c.after_vector) (aoa_fields aoa ++ (numbers ++ text ∷ [])) in
      let body : length text ≤ length (joined (body_fields p.body c)) =
      subst (λ b. length text ≤ length (joined (body_fields b c))) (sym e) (omega (arith, last, behind, vector_behind)) in
      let whole = joined_behind (big_bytes 4 p.ack ∷ big_bytes 2 p.window ∷ big_bytes 2 (flags p) ∷ []) (body_fields p.body c) in
      omega (arith, body, whole, ap length spells.bytes_are, within)
  by_body (FecBody vector aoa coded start range index text) e = tt
  by_body (BareBody vector aoa rest) e = tt
