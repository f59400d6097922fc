-- Lemmas on writing Soft-Sync PDUs, list by list.
use Rattle.std.proofs.Common.{◌≡◌, ℕ, zero, suc, ◌+◌, ◌*◌, ◌≤◌, List, [], ◌∷◌, ◌++◌, length, map, replicate, Result, Ok, Err, refl, sym, ap, ◌∙◌, arith}
use Rattle.std.proofs.lemmas.List.{length-append}
use Rattle.mt_base.specs.declared.errors.NoRoom.{NoRoom}
use Rattle.mt_base.specs.Reading.{Left}
use Rattle.mt_base.specs.Writing.{joined}
use Rattle.mt_base.specs.Filling.{Filling, fills, then_fill}
use Rattle.mt_base.proofs.Fill.{joined-append}
use Rattle.mt_base.proofs.Filled.{fills-append}
use Rattle.dvc_pdus.specs.declared.pdu.DvcRefusal.{DvcRefusal}
use Rattle.dvc_pdus.specs.Reading.{items_in}
use Rattle.dvc_pdus.specs.Value.{ChannelList, id_fields, list_fields, lists_fields, type_fields}
use Rattle.mt_base.specs.declared.kinds.Kind.{Kind}

-- an iterator over so many items has no more of them left
pub items_few : {A : Type 0} (read : Left → Result (A × Left) DvcRefusal) (n : ℕ) (bytes : List ℕ) → length (items_in read n bytes) ≤ n
items_few read zero bytes = omega arith
items_few {A} read (suc n) bytes = by_first (read (record { at = 0; bytes = bytes })) (items_few read n)
  where
    by_first : (r : Result (A × Left) DvcRefusal) → ((bytes : List ℕ) → length (items_in read n bytes) ≤ n)
        → length (elim r as (λ r. List A) [ Ok first ↦ first.0 ∷ items_in read n (first.1).bytes | Err e ↦ [] ]) ≤ suc n
    by_first (Ok (x, t)) few = let fewer = few t.bytes in omega arith
    by_first (Err e) few = omega arith

-- the first list is put, and then the others
lists_step : (ls rest : List ChannelList) (l : ChannelList) (s : Filling) → ls ≡ l ∷ rest → fills (lists_fields ls) s ≡ then_fill (fills (list_fields l) s) (fills (lists_fields rest))
lists_step ls rest l s is = ap (λ ls. fills (lists_fields ls) s) is ∙ fills-append (list_fields l) (lists_fields rest) s

pub list_filled : (ls rest : List ChannelList) (l : ChannelList) (s t : Filling) (r : Result Filling NoRoom) → ls ≡ l ∷ rest → fills (lists_fields ls) s ≡ r → fills (list_fields l) s ≡ Ok t → fills (lists_fields rest) t ≡ r
list_filled ls rest l s t r is all one = sym (ap (λ q. then_fill q (fills (lists_fields rest))) one) ∙ sym (lists_step ls rest l s is) ∙ all

pub list_stopped : (ls rest : List ChannelList) (l : ChannelList) (s : Filling) (r : Result Filling NoRoom) (e : NoRoom) → ls ≡ l ∷ rest → fills (lists_fields ls) s ≡ r → fills (list_fields l) s ≡ Err e → r ≡ Err e
list_stopped ls rest l s r e is all one = sym all ∙ lists_step ls rest l s is ∙ ap (λ q. then_fill q (fills (lists_fields rest))) one

-- the bytes of a list, and of the others
ids_length : (ids : List ℕ) → length (joined (id_fields ids)) ≡ 4 * length ids
ids_length [] = refl
ids_length (id ∷ ids) = let later = ids_length ids in omega (arith, later)

pub list_length : (l : ChannelList) → length (joined (list_fields l)) ≡ 6 + 4 * length l.ids
list_length l = let e = ids_length l.ids in omega (arith, e)

pub lists_longer : (ls rest : List ChannelList) (l : ChannelList) → ls ≡ l ∷ rest → length (joined (lists_fields ls)) ≡ 6 + 4 * length l.ids + length (joined (lists_fields rest))
lists_longer ls rest l is =
    ap (λ ls. length (joined (lists_fields ls))) is ∙ ap length (joined-append (list_fields l) (lists_fields rest))
    ∙ length-append (joined (list_fields l)) (joined (lists_fields rest)) ∙ ap (λ n. n + length (joined (lists_fields rest))) (list_length l)
