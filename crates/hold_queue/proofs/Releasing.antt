-- Lemmas on a PDU that is kept or released.
use Rattle.std.proofs.Common.{◌≡◌, ℕ, ◌≤◌, ◌+◌, ◌-◌, ◌*◌, Bool, true, false, cond, nat_eq, List, [], ◌∷◌, ◌++◌, length, take, drop, All, slice_set, Option, Some, None, option_map, refl, sym, ap, ◌∙◌, subst, arith, length-append, length-drop}
use Rattle.std.proofs.lemmas.List.{length-take-le, take_all}
use Rattle.std.proofs.lemmas.List.Elements.{All-push}
use Rattle.hold_queue.specs.declared.record.Record.{Record}
use Rattle.hold_queue.specs.Held.{Pdu, pdu_of, weight, oldest, without_oldest, without, with_bytes}
use Rattle.hold_queue.specs.Stored.{total, held_in, IsStored, IsFirst, is_for, record_of, gone}
use Rattle.hold_queue.proofs.Records.{oldest_at, removed_at, none_oldest, none_without, weight_oldest, weight-append, within_at, total-append, held_more}

-- what follows of the first record of a channel
pub record IsReleased (id : ℕ) (held : List Pdu) (bytes : List ℕ) (place : ℕ) (r : Record) : Type 0 where
  pub short : r.length ≤ 1600
  pub within : place + r.length ≤ length bytes
  pub oldest_is : oldest id held ≡ Some (pdu_of r.id r.at (take r.length (drop place bytes)))
  pub length_is : length (take r.length (drop place bytes)) ≡ r.length
  pub weight_is : weight held ≡ (16 + r.length) + weight (without_oldest id held)

pub released : (id index place : ℕ) (rs : List Record) (bs : List ℕ) (held : List Pdu) (r : Record) → IsFirst id rs index place r → IsStored rs bs → held_in rs bs ≡ held → IsReleased id held bs place r
released id index place rs bs held r first stored is =
    let at = within_at index rs r bs first.is stored in
    let place_is = first.place_is in
    let within : place + r.length ≤ length bs = omega (arith, at.1, place_is) in
    let len : length (take r.length (drop place bs)) ≡ r.length =
    length-take-le r.length (drop place bs) (omega (arith, within, length-drop place bs)) in
    let found : oldest id held ≡ Some (pdu_of r.id r.at (take r.length (drop place bs))) =
    subst (λ h. oldest id h ≡ Some (pdu_of r.id r.at (take r.length (drop place bs)))) is
    (oldest_at id index rs r bs first.is first.for_channel first.none_before ∙ ap (λ n. Some (pdu_of r.id r.at (take r.length (drop n bs)))) (sym place_is)) in
    record {
      short = at.0;
      within = within;
      oldest_is = found;
      length_is = len;
      weight_is = weight_oldest id held _ found ∙ ap (λ n. (16 + n) + weight (without_oldest id held)) len;
    }

pub removed : (id index place : ℕ) (rs : List Record) (bs : List ℕ) (held : List Pdu) (r : Record) → IsFirst id rs index place r → held_in rs bs ≡ held
    → held_in (slice_set rs index (gone r)) bs ≡ without_oldest id held
removed id index place rs bs held r first is =
    removed_at id index rs r bs first.is first.for_channel first.none_before ∙ ap (λ h. without_oldest id h) is

pub given : (id place : ℕ) (bs out : List ℕ) (held : List Pdu) (r : Record) → IsReleased id held bs place r
    → take r.length (drop place bs) ++ drop r.length out ≡ with_bytes (oldest id held) out
given id place bs out held r f =
    ap (λ n. take r.length (drop place bs) ++ drop n out) (sym f.length_is) ∙ sym (ap (λ o. with_bytes o out) f.oldest_is)

-- ---- a PDU more

pub kept_stored : (id at : ℕ) (rs : List Record) (bs pdu : List ℕ) → IsStored rs bs → length pdu ≤ 1600 → length rs + 1 ≤ 131072 → length bs + length pdu ≤ 2097152
    → IsStored (rs ++ (record_of id at (length pdu) ∷ [])) (bs ++ pdu)
kept_stored id at rs bs pdu s short few within =
    let r = record_of id at (length pdu) in
    let t = s.total_is in
    record {
      short = All-push (λ (s : Record). s.length ≤ 1600) rs r s.short short;
      total_is = omega (arith, t, total-append rs (r ∷ []), length-append bs pdu);
      few = omega (arith, few, length-append rs (r ∷ []));
      within = omega (arith, within, length-append bs pdu);
    }

pub kept_held : (id at : ℕ) (rs : List Record) (bs pdu : List ℕ) → IsStored rs bs
    → held_in (rs ++ (record_of id at (length pdu) ∷ [])) (bs ++ pdu) ≡ held_in rs bs ++ (pdu_of id at pdu ∷ [])
kept_held id at rs bs pdu s =
    held_more rs (record_of id at (length pdu)) bs pdu s.total_is
    ∙ ap (λ t. held_in rs bs ++ (pdu_of id at t ∷ [])) (take_all (length pdu) pdu (omega arith))

-- ---- fewer PDUs

pub weight_without : (id : ℕ) (pdus : List Pdu) → weight (without id pdus) ≤ weight pdus
weight_without id [] = omega arith
weight_without id (p ∷ pdus) = by (nat_eq p.id id) (weight_without id pdus)
  where
    by : (b : Bool) → weight (without id pdus) ≤ weight pdus → weight (cond b (without id pdus) (p ∷ without id pdus)) ≤ (16 + length p.bytes) + weight pdus
    by true h = omega (arith, h)
    by false h = omega (arith, h)
