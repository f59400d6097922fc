-- The items of Soft-Sync PDUs: channel ids, types of tunnels, and lists of channels.
use Rattle.std.proofs.Common.{◌≡◌, ◌⊎◌, inl, inr, ℕ, ◌+◌, ◌^◌, ◌<◌, List, [], ◌∷◌, ◌++◌, length, map, Ok, Err, refl, sym, ap, ◌∙◌, arith}
use Rattle.std.specs.List.{flat_map}
use Rattle.std.proofs.lemmas.Bool.{cases_eq, ne_eqb}
use Rattle.byteorder.specs.Endian.{little_bytes}
use Rattle.mt_base.specs.Writing.{joined}
use Rattle.mt_base.specs.declared.kinds.Kind.{Kind}
use Rattle.mt_base.specs.declared.kinds.Kind.TheVariants.{Reliable, Lossy}
use Rattle.mt_base.proofs.Fields.{Begins, little_or}
use Rattle.mt_base.proofs.Fill.{joined-append}
use Rattle.mt_base.proofs.FrontFields.{left_at, little_reads, little_cut}
use Rattle.dvc_pdus.specs.declared.pdu.DvcRefusal.{DvcRefusal}
use Rattle.dvc_pdus.specs.declared.pdu.DvcRefusal.TheVariants as refusal
use Rattle.dvc_pdus.specs.Value.{ChannelList, IsList, tunnel_type, type_field, list_fields, lists_fields}
use Rattle.dvc_pdus.specs.Reading.{number_at, kind_at, list_at, items_at}
use Rattle.dvc_pdus.specs.Faults.{RefusedType, type_cut, type_unknown, RefusedList, list_type, count_cut, list_id, Cut, list_bytes}
use Rattle.dvc_pdus.proofs.Items.{Item, Items, items_read, items_refused, items_or}

-- ---- channel ids

abbrev pub IsId : ℕ → Type 0
IsId id = id < 2 ^ 32

pub number_item : Item number_at (little_bytes 4) (λ id. id < 2 ^ 32) (λ at. Cut at 4)
unfolding number_at
number_item = record {
  again = λ x good at rest. little_reads refusal.Short 4 x good at rest;
  refuses = λ at bytes r fault. little_cut refusal.Short 4 at bytes r fault;
  decides = λ at bytes good. elim (little_or 4 bytes good) [
    | inl few ↦ inl (refusal.Short (record { at = at; need = 4 }), (few, refl))
    | inr b ↦ inr b
  ];
}

-- ---- types of tunnels

kind_again : (kind : Kind) (at : ℕ) (rest : List ℕ) → kind_at (left_at at (type_field kind ++ rest)) ≡ Ok (kind, left_at (at + length (type_field kind)) rest)
unfolding kind_at
kind_again Reliable at rest = rw (little_reads refusal.Short 4 1 (omega arith) at rest) refl
kind_again Lossy at rest = rw (little_reads refusal.Short 4 3 (omega arith) at rest) refl

kind_refused : (at : ℕ) (bytes : List ℕ) (r : DvcRefusal) → RefusedType at bytes r → kind_at (left_at at bytes) ≡ Err r
unfolding kind_at
kind_refused at bytes r (type_cut fault) = rw (little_cut refusal.Short 4 at bytes r fault) refl
kind_refused at bytes r (type_unknown code rest small one three is r_is) =
    rw (is, little_reads refusal.Short 4 code small at rest, ne_eqb code 1 one, ne_eqb code 3 three) (ap Err (sym r_is))

pub kind_item : Item kind_at type_field (λ k. Unit {0}) RefusedType
kind_item = record {
  again = λ kind good at rest. kind_again kind at rest;
  refuses = kind_refused;
  decides = λ at bytes good. elim (little_or 4 bytes good) [
    | inl few ↦ inl (refusal.Short (record { at = at; need = 4 }), type_cut (few, refl))
    | inr b ↦ coded at bytes b
  ];
}
  where
    named : (kind : Kind) (bytes : List ℕ) (b : Begins (little_bytes 4) (λ x. x < 256 ^ 4) bytes) → b.value ≡ tunnel_type kind → Begins type_field (λ k. Unit {0}) bytes
    named kind bytes b is = record {
      value = kind;
      rest = b.rest;
      good = tt;
      bytes_are = b.bytes_are ∙ ap (λ n. little_bytes 4 n ++ b.rest) is;
      bytes_behind = b.bytes_behind;
    }

    coded : (at : ℕ) (bytes : List ℕ) → Begins (little_bytes 4) (λ x. x < 256 ^ 4) bytes → ((r : DvcRefusal) × RefusedType at bytes r) ⊎ Begins type_field (λ k. Unit {0}) bytes
    coded at bytes b = elim (cases_eq b.value 1) [
      | inl one ↦ inr (named Reliable bytes b one)
      | inr not_one ↦ elim (cases_eq b.value 3) [
        | inl three ↦ inr (named Lossy bytes b three)
        | inr not_three ↦ inl (refusal.BadTunnelType at, type_unknown b.value b.rest b.good not_one not_three b.bytes_are refl)
      ]
    ]

-- ---- lists of channels

pub joined_map : {A : Type 0} (f : A → List ℕ) (xs : List A) → joined (map f xs) ≡ flat_map f xs
joined_map f [] = refl
joined_map f (x ∷ xs) = ap (λ t. f x ++ t) (joined_map f xs)

pub joined_lists : (ls : List ChannelList) → joined (lists_fields ls) ≡ flat_map list_bytes ls
joined_lists [] = refl
joined_lists (l ∷ ls) = joined-append (list_fields l) (lists_fields ls) ∙ ap (λ t. list_bytes l ++ t) (joined_lists ls)

-- a list's bytes, part by part
list_parts : (kind : Kind) (ids : List ℕ) (rest : List ℕ)
    → list_bytes (record { kind = kind; ids = ids }) ++ rest ≡ type_field kind ++ (little_bytes 2 (length ids) ++ (flat_map (little_bytes 4) ids ++ rest))
list_parts kind ids rest = ap (λ t. type_field kind ++ (little_bytes 2 (length ids) ++ (t ++ rest))) (joined_map (little_bytes 4) ids)

list_again : (l : ChannelList) → IsList l → (at : ℕ) (rest : List ℕ) → list_at (left_at at (list_bytes l ++ rest)) ≡ Ok (l, left_at (at + length (list_bytes l)) rest)
unfolding list_at
list_again l good at rest =
    let ids = flat_map (little_bytes 4) l.ids in
    let place : at + 4 + 2 + length ids ≡ at + length (list_bytes l) = omega (arith, ap length (joined_map (little_bytes 4) l.ids)) in
    rw (
      list_parts l.kind l.ids rest,
      kind_again l.kind at (little_bytes 2 (length l.ids) ++ (ids ++ rest)),
      little_reads refusal.Short 2 (length l.ids) good.0 (at + 4) (ids ++ rest),
      items_read number_item l.ids good.1 (at + 4 + 2) rest,
    ) (ap (λ n. Ok (l, left_at n rest)) place)

list_refused : (at : ℕ) (bytes : List ℕ) (r : DvcRefusal) → RefusedList at bytes r → list_at (left_at at bytes) ≡ Err r
unfolding list_at
list_refused at bytes r (list_type fault) = rw (kind_refused at bytes r fault) refl
list_refused at bytes r (count_cut kind rest is fault) =
    rw (is, kind_again kind at rest, little_cut refusal.Short 2 (at + 4) rest r fault) refl
list_refused at bytes r (list_id kind count rest small is fault) =
    let place : at + 6 ≡ at + 4 + 2 = omega arith in
    let ids : items_at number_at count (left_at (at + 4 + 2) rest) ≡ Err r = ap (λ n. items_at number_at count (left_at n rest)) (sym place) ∙ items_refused number_item count (at + 6) rest r fault in
    rw (is, kind_again kind at (little_bytes 2 count ++ rest), little_reads refusal.Short 2 count small (at + 4) rest, ids) refl

abbrev Kinded : List ℕ → Type 0
Kinded bytes = Begins type_field (λ k. Unit {0}) bytes

abbrev Count : List ℕ → Type 0
Count bytes = Begins (little_bytes 2) (λ x. x < 256 ^ 2) bytes

abbrev Either : ℕ → List ℕ → Type 0
Either at bytes = ((r : DvcRefusal) × RefusedList at bytes r) ⊎ Begins list_bytes IsList bytes

pub list_item : Item list_at list_bytes IsList RefusedList
list_item = record {
  again = list_again;
  refuses = list_refused;
  decides = λ at bytes good. elim (kind_item.decides at bytes good) [
    | inl f ↦ inl (f.0, list_type f.1)
    | inr k ↦ counted at bytes k (little_or 2 k.rest k.bytes_behind)
  ];
}
  where
    listed : (at : ℕ) (bytes : List ℕ) (k : Kinded bytes) (c : Count k.rest) → Items number_item c.value c.rest → Either at bytes
    listed at bytes k c i = inr (record {
      value = record { kind = k.value; ids = i.items };
      rest = i.rest;
      good = (let small = c.good in let same = i.count_is in omega arith, i.good);
      bytes_are = k.bytes_are ∙ ap (λ t. type_field k.value ++ t) (c.bytes_are ∙ ap (λ t. little_bytes 2 c.value ++ t) i.bytes_are ∙ ap (λ n. little_bytes 2 n ++ (flat_map (little_bytes 4) i.items ++ i.rest)) (sym i.count_is))
          ∙ sym (list_parts k.value i.items i.rest);
      bytes_behind = i.bytes_behind;
    })

    counted : (at : ℕ) (bytes : List ℕ) (k : Kinded bytes) → (length k.rest < 2) ⊎ Count k.rest → Either at bytes
    counted at bytes k (inl few) = inl (refusal.Short (record { at = at + 4; need = 2 }), count_cut k.value k.rest k.bytes_are (few, refl))
    counted at bytes k (inr c) = elim (items_or number_item c.value (at + 6) c.rest c.bytes_behind) [
      | inl f ↦ inl (f.0, list_id k.value c.value c.rest c.good (k.bytes_are ∙ ap (λ t. type_field k.value ++ t) c.bytes_are) f.1)
      | inr i ↦ listed at bytes k c i
    ]
