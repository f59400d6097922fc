-- Lemmas on the calls of a table of channels, each of which writes at most one entry.
use Rattle.std.proofs.Common.{◌≡◌, ℕ, ◌+◌, ◌-◌, ◌≤◌, cond, nat_eq, List, [], ◌∷◌, ◌++◌, length, drop, slice_get, Some, None, Result, Ok, Err, OnOk, OnErr, refl, sym, ap, ◌∙◌, subst, arith}
use Rattle.std.specs.Map.{lookup, set_value, keys_of}
use Rattle.std.proofs.lemmas.List.{map-append}
use Rattle.mt_base.specs.Trace.{Trace, ◌▷◌}
use Rattle.dvc_pdus.specs.Value.{Pdu}
use Rattle.dvc_channels.specs.Acts.{Act, Made, Came, ids, weight}
use Rattle.dvc_channels.specs.Table.{Kept, Table, IsKept, Keeps, Stands, with_pdu, made_by, IsCounted}
use Rattle.dvc_channels.specs.declared.answers.Accepted.{Accepted}
use Rattle.dvc_channels.specs.declared.answers.ChannelRefusal.{ChannelRefusal}
use Rattle.dvc_channels.specs.declared.answers.ChannelState.TheVariants.{Asked}
use Rattle.dvc_channels.proofs.Entries.{Entries, weight-append, weight_at, same_written}
use Rattle.dvc_channels.proofs.Standing.{stands_written, made_other, made_here, came_other, came_here}

-- a table whose entries and count are these
abbrev pub of : Entries → ℕ → Table
of es count = record { channels = es; waiting = count }

-- an entry was written as it was
pub unchanged : (id : ℕ) (old new : Kept) (es after : Entries) (count now : ℕ) (s : Table) → of es count ≡ s → lookup (nat_eq id) es ≡ Some old → after ≡ set_value (nat_eq id) es new → new ≡ old → now ≡ count → of after now ≡ s
unchanged id old new es after count now s view is written same sum =
    let entries : after ≡ es = written ∙ ap (λ k. set_value (nat_eq id) es k) same ∙ same_written id old es is in
    ap (λ l. of l now) entries ∙ ap (λ n. of es n) sum ∙ view

-- a data PDU came for a channel of a table that stands for t
pub came_stands : (id : ℕ) (pdu : Pdu) (r : Result Accepted ChannelRefusal) (old new : Kept) (es after : Entries) (count now : ℕ) (t : Trace Act) → Stands (of es count) t → lookup (nat_eq id) es ≡ Some old
    → ((q : ℕ) → lookup (nat_eq q) after ≡ cond (nat_eq id q) (Some new) (lookup (nat_eq q) es)) → keys_of after ≡ keys_of es → OnOk r (new ≡ with_pdu pdu old) → OnOk r (Stands (of after now) (t ▷ Came id pdu))
came_stands id pdu (Err why) old new es after count now t stood is at keys same = tt
came_stands id pdu (Ok accepted) old new es after count now t stood is at keys same =
    let kept : Keeps old t id = subst (λ o. IsKept o t id) is (stood.channels id) in
    stands_written es after id new count now t (Came id pdu) stood at (keys ∙ stood.ids_are)
    (subst (λ k. Keeps k (t ▷ Came id pdu) id) (sym same) (came_here id pdu old t kept)) (λ other o n h. came_other id pdu t other o n h)

-- what waits, with what a data PDU made whole
pub came_counts : (pdu : Pdu) (r : Result Accepted ChannelRefusal) (old new : Kept) (count now : ℕ) → OnOk r (new ≡ with_pdu pdu old) → OnOk r (now ≡ count + weight (made_by pdu old)) → OnErr r ((new ≡ old) × (now ≡ count))
    → now + weight old.whole ≡ count + weight new.whole
came_counts pdu (Ok accepted) old new count now is counted same =
    omega (arith, weight-append old.whole (made_by pdu old), ap (λ (k : Kept). weight k.whole) is, counted)
came_counts pdu (Err why) old new count now is counted same = omega (arith, ap (λ (k : Kept). weight k.whole) same.0, same.1)

-- and without the oldest message
pub took_counts : (message : List ℕ) (xs : List (List ℕ)) → slice_get xs 0 ≡ Some message → weight xs ≡ length message + 64 + weight (drop 1 xs)
took_counts message [] h = cc
took_counts message (x ∷ xs) h = let same : x ≡ message = cc in ap (λ m. length m + 64 + weight xs) same

pub came_unchanged : (id : ℕ) (old new : Kept) (es after : Entries) (count now : ℕ) (s : Table) (r : Result Accepted ChannelRefusal) → of es count ≡ s → lookup (nat_eq id) es ≡ Some old
    → after ≡ set_value (nat_eq id) es new → OnErr r ((new ≡ old) × (now ≡ count)) → OnErr r (of after now ≡ s)
came_unchanged id old new es after count now s (Ok accepted) view is written same = tt
came_unchanged id old new es after count now s (Err why) view is written same = unchanged id old new es after count now s view is written same.0 same.1

-- the count has room for the oldest message that waits at a channel
pub took_within : (id : ℕ) (old : Kept) (es : Entries) (count : ℕ) (message : List ℕ) → IsCounted (of es count) → lookup (nat_eq id) es ≡ Some old → slice_get old.whole 0 ≡ Some message → length message + 64 ≤ count
took_within id old es count message h is first = omega (arith, h.counted, weight_at id old es is, took_counts message old.whole first)

-- the count without it
pub took_leaves : (old new : Kept) (count : ℕ) (message : List ℕ) → length message + 64 ≤ count → slice_get old.whole 0 ≡ Some message → new ≡ record old { whole = drop 1 old.whole }
    → (count - (length message + 64)) + weight old.whole ≡ count + weight new.whole
took_leaves old new count message within first is = omega (arith, took_counts message old.whole first, ap (λ (k : Kept). weight k.whole) is)

-- where no message waits, taking one leaves the channel as it was
pub none_taken : (old new : Kept) → slice_get old.whole 0 ≡ None → new ≡ record old { whole = drop 1 old.whole } → new ≡ old
none_taken old new none is = is ∙ by old.whole none
  where
    by : (xs : List (List ℕ)) → slice_get xs 0 ≡ None → record old { whole = drop 1 xs } ≡ record old { whole = xs }
    by [] h = refl
    by (x ∷ xs) h = cc

-- one entry was added to a table that stands for t
pub made_stands : (id : ℕ) (name : List ℕ) (k : Kept) (es after : Entries) (count now : ℕ) (t : Trace Act) → Stands (of es count) t → lookup (nat_eq id) es ≡ None
    → ((q : ℕ) → lookup (nat_eq q) after ≡ cond (nat_eq id q) (Some k) (lookup (nat_eq q) es)) → after ≡ es ++ (id, k) ∷ [] → k ≡ record { name = name; state = Asked; whole = []; part = None }
    → Stands (of after now) (t ▷ Made id name)
made_stands id name k es after count now t stood new at added is =
    let keys : keys_of after ≡ ids t ++ id ∷ [] = ap (λ (l : Entries). keys_of l) added ∙ map-append (λ (e : ℕ × Kept). e.0) es ((id, k) ∷ []) ∙ ap (λ l. l ++ id ∷ []) stood.ids_are in
    let fresh = subst (λ o. IsKept o t id) new (stood.channels id) in
    stands_written es after id k count now t (Made id name) stood at keys
    (subst (λ k. Keeps k (t ▷ Made id name) id) (sym is) (made_here id name t fresh)) (λ other o n h. made_other id name t other o n h)
