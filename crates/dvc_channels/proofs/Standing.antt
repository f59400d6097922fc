-- Lemmas on a table that stands for what was done: one for each call that changes it.
use Rattle.std.proofs.Common.{◌≡◌, ℕ, ◌==◌, false, cond, nat_eq, List, [], ◌∷◌, ◌++◌, length, drop, Option, Some, None, inl, inr, refl, sym, ap, ◌∙◌, subst, append_assoc}
use Rattle.std.specs.Prelude.{flat_map}
use Rattle.std.specs.Cmp.{nat_eq_equiv}
use Rattle.std.specs.Map.{lookup, keys_of}
use Rattle.std.proofs.lemmas.Bool.{cases_eq, eq-eqb, ne_eqb}
use Rattle.std.proofs.lemmas.List.{append-nil}
use Rattle.mt_base.specs.Trace.{Trace, ◌▷◌}
use Rattle.dvc_pdus.specs.Value.{Pdu}
use Rattle.dvc_channels.proofs.Further.{messages_behind, under_way_behind}
use Rattle.dvc_channels.specs.Pieces.{Piece, Part, pieces_of, under_way, under_way_from, messages_from}
use Rattle.dvc_channels.specs.Acts.{Act, Made, Came, ids, state, name_of, brought, arrived, taken, untaken, weight, waiting}
use Rattle.dvc_channels.specs.Table.{Kept, part_in, PiecesIn, Keeps, IsNew, IsKept, Stands, with_pdu, IsCounted}
use Rattle.dvc_channels.specs.declared.answers.ChannelState.{ChannelState}
use Rattle.dvc_channels.specs.declared.answers.ChannelState.TheVariants.{Unknown, Asked, Open, Refused, Closed}
use Rattle.dvc_channels.proofs.Entries.{Entries, all_whole, all_whole_is}

-- ---- a channel that an act does not touch

module _ (t u : Trace Act) (id : ℕ) (states : state u id ≡ state t id) (names : name_of u id ≡ name_of t id) (pieces : arrived u id ≡ arrived t id) (messages : taken u id ≡ taken t id) where
  pub untouched : (o : Option Kept) → IsKept o t id → IsKept o u id
  untouched None h = record {
    unknown = states ∙ h.unknown;
    nameless = names ∙ h.nameless;
    nothing_came = pieces ∙ h.nothing_came;
    nothing_taken = messages ∙ h.nothing_taken;
  }
  untouched (Some k) h = record {
    known = λ is. h.known (sym states ∙ is);
    state_is = h.state_is ∙ sym states;
    name_is = h.name_is ∙ sym names;
    messages_are = ap (λ l. messages_from None l) pieces ∙ h.messages_are ∙ ap (λ l. l ++ k.whole) (sym messages);
    part_is = rw (states, pieces) h.part_is;
    pieces = rw (states, pieces) h.pieces;
  }

-- ---- one entry is written

pub stands_written : (es after : Entries) (id : ℕ) (k : Kept) (count now : ℕ) (t : Trace Act) (act : Act) → Stands (record { channels = es; waiting = count }) t
    → ((q : ℕ) → lookup (nat_eq q) after ≡ cond (nat_eq id q) (Some k) (lookup (nat_eq q) es)) → keys_of after ≡ ids (t ▷ act) → Keeps k (t ▷ act) id
    → ((other : ℕ) (o : Option Kept) → (id == other) ≡ false → IsKept o t other → IsKept o (t ▷ act) other) → Stands (record { channels = after; waiting = now }) (t ▷ act)
stands_written es after id k count now t act s at keys keeps others = record { channels = each; ids_are = keys }
  where
    each : (q : ℕ) → IsKept (lookup (nat_eq q) after) (t ▷ act) q
    each q = subst (λ o. IsKept o (t ▷ act) q) (sym (at q)) (elim (cases_eq id q) [
      | inl e ↦ rw (eq-eqb id q e) (subst (λ n. Keeps k (t ▷ act) n) e keeps)
      | inr n ↦ let differs : (id == q) ≡ false = ne_eqb id q n in rw differs (others q (lookup (nat_eq q) es) differs (s.channels q))
    ])

-- ---- the acts

pub made_other : (id : ℕ) (name : List ℕ) (t : Trace Act) (other : ℕ) (o : Option Kept) → (id == other) ≡ false → IsKept o t other → IsKept o (t ▷ Made id name) other
made_other id name t other o n h = untouched t (t ▷ Made id name) other (rw n refl) (rw n refl) refl refl o h

pub came_other : (id : ℕ) (pdu : Pdu) (t : Trace Act) (other : ℕ) (o : Option Kept) → (id == other) ≡ false → IsKept o t other → IsKept o (t ▷ Came id pdu) other
came_other id pdu t other o n h = untouched t (t ▷ Came id pdu) other refl refl (rw n refl) refl o h

pub made_here : (id : ℕ) (name : List ℕ) (t : Trace Act) → IsNew t id → Keeps (record { name = name; state = Asked; whole = []; part = None }) (t ▷ Made id name) id
made_here id name t h =
    let same = nat_eq_equiv.refl id in
    record {
      known = rw same (λ is. cc);
      state_is = rw same refl;
      name_is = rw same refl;
      messages_are = rw (h.nothing_came, h.nothing_taken) refl;
      part_is = rw same refl;
      pieces = rw same h.nothing_came;
    }

-- what is kept is under way, as far as a PDU brings something
made_kept : (s : ChannelState) (pieces : List Piece) (pdu : Pdu) → messages_from (part_in s pieces) (brought s pdu) ≡ messages_from (under_way pieces) (brought s pdu)
made_kept Unknown pieces pdu = refl
made_kept Asked pieces pdu = refl
made_kept Open pieces pdu = refl
made_kept Refused pieces pdu = refl
made_kept Closed pieces pdu = refl

part_more : (s : ChannelState) (pieces : List Piece) (pdu : Pdu) → under_way_from (part_in s pieces) (brought s pdu) ≡ part_in s (pieces ++ brought s pdu)
part_more Unknown pieces pdu = refl
part_more Asked pieces pdu = refl
part_more Open pieces pdu = sym (under_way_behind None pieces (pieces_of pdu))
part_more Refused pieces pdu = refl
part_more Closed pieces pdu = refl

pieces_more : (s : ChannelState) (pieces : List Piece) (pdu : Pdu) → PiecesIn s pieces → PiecesIn s (pieces ++ brought s pdu)
pieces_more Unknown pieces pdu h = rw (append-nil pieces) h
pieces_more Asked pieces pdu h = rw (append-nil pieces) h
pieces_more Open pieces pdu h = tt
pieces_more Refused pieces pdu h = rw (append-nil pieces) h
pieces_more Closed pieces pdu h = tt

pub came_here : (id : ℕ) (pdu : Pdu) (k : Kept) (t : Trace Act) → Keeps k t id → Keeps (with_pdu pdu k) (t ▷ Came id pdu) id
came_here id pdu k t h =
    let same = nat_eq_equiv.refl id in
    let s = state t id in
    let here = arrived t id in
    let made : messages_from (under_way here) (brought s pdu) ≡ messages_from k.part (brought k.state pdu) =
    sym (made_kept s here pdu) ∙ ap (λ p. messages_from p (brought s pdu)) (sym h.part_is) ∙ ap (λ w. messages_from k.part (brought w pdu)) (sym h.state_is) in
    let goes : under_way_from k.part (brought k.state pdu) ≡ part_in s (here ++ brought s pdu) =
    ap (λ p. under_way_from p (brought k.state pdu)) h.part_is ∙ ap (λ w. under_way_from (part_in s here) (brought w pdu)) h.state_is ∙ part_more s here pdu in
    record {
      known = h.known;
      state_is = h.state_is;
      name_is = h.name_is;
      messages_are = rw same (
          messages_behind None here (brought s pdu)
          ∙ ap (λ l. l ++ messages_from (under_way here) (brought s pdu)) h.messages_are
          ∙ ap (λ l. (taken t id ++ k.whole) ++ l) made
          ∙ append_assoc (taken t id) k.whole (messages_from k.part (brought k.state pdu)));
      part_is = rw same goes;
      pieces = rw same (pieces_more s here pdu h.pieces);
    }

-- ---- what waits

dropped : {A : Type 0} (xs ys : List A) → drop (length xs) (xs ++ ys) ≡ ys
dropped [] ys = refl
dropped (x ∷ xs) ys = dropped xs ys

pub untaken_is : (k : Kept) (t : Trace Act) (id : ℕ) → Keeps k t id → untaken t id ≡ k.whole
untaken_is k t id h = ap (λ l. drop (length (taken t id)) l) h.messages_are ∙ dropped (taken t id) k.whole

pub waiting_is : (es : Entries) (count : ℕ) (t : Trace Act) → IsCounted (record { channels = es; waiting = count }) → Stands (record { channels = es; waiting = count }) t → count ≡ waiting t
waiting_is es count t counted s =
    let each : (id : ℕ) (k : Kept) → lookup (nat_eq id) es ≡ Some k → untaken t id ≡ k.whole = λ id k is. untaken_is k t id (subst (λ o. IsKept o t id) is (s.channels id)) in
    let all : flat_map (untaken t) (keys_of es) ≡ all_whole es = all_whole_is (untaken t) es counted.distinct each in
    let listed : flat_map (untaken t) (keys_of es) ≡ flat_map (untaken t) (ids t) = ap (λ l. flat_map (untaken t) l) s.ids_are in
    counted.counted ∙ ap weight (sym all ∙ listed)
