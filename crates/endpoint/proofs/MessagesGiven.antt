-- A message that goes into a link, PDU by PDU.
use Rattle.std.proofs.Common.{◌≡◌, ℕ, ◌+◌, ◌<◌, ◌≤◌, Bool, true, false, cond, nat_le, drop, List, [], ◌∷◌, ◌++◌, map, take, length, length-append, append-nil, slice_get, Some, refl, sym, ap, subst, ◌∙◌, arith}
use Rattle.std.specs.List.{fold, flat_map}
use Rattle.std.proofs.lemmas.Grind.{flat_map-append, fold-append}
use Rattle.std.proofs.lemmas.List.{map-append}
use Rattle.mt_base.specs.declared.kinds.Kind.TheVariants.{Reliable, Lossy}
use Rattle.mt_base.specs.Trace.{Trace, ◌▷◌}
use Rattle.mt_windows.specs.declared.limits.TheConstants.{QUEUE, WINDOW}
use Rattle.carrier.specs.declared.state.LinkState.{LinkState}
use Rattle.carrier.specs.Entries as link
use Rattle.dvc_pdus.specs.Value.{Data, DataFirst, Pdu, spelled}
use Rattle.dvc_channels.specs.Fragments.{first_room, fragments_of, in_pieces, room}
use Rattle.dvc_channels.proofs.Sending.{length-data, one_pdu, sizes}
use Rattle.soft_sync.proofs.Answering.{take_more}
use Rattle.mt_base.specs.Writing.{joined}
use Rattle.tunnel_pdus.specs.Value.{pdu_fields}
use Rattle.tunnel_pdus.specs.Value as tunnel
use Rattle.mt_endpoint.specs.Acts.{Drawn}
use Rattle.mt_endpoint.specs.Writing.{tunneled}
use Rattle.end_calls.specs.Links.{gives, gives_bytes}
use Rattle.end_session.specs.MessageGiven.{carrying}
use Rattle.endpoint.specs.Attached.{is_closed, posts_bytes}
use Rattle.endpoint.specs.Messages.{TookEach}

pub data_size : (bytes : List ℕ) → length (joined (pdu_fields (tunnel.Data bytes))) ≡ length bytes + 4
data_size bytes = omega (arith, length-append bytes [])

-- ---- into a reliable link

-- so many of them were given
pub record Gives {L : Type 0} (stands : L → Trace link.Entry → Type 0) (left : L → List ℕ) (condition : L → LinkState) (load : L → ℕ) (drawn : List Drawn) (old new : L) : Type 0 where
  pub took : TookEach Reliable stands left condition load drawn old new
  pub load_is : is_closed (condition old) ≡ false → load old + length (flat_map tunneled drawn) ≤ QUEUE → load new ≡ load old + length (flat_map tunneled drawn)

pub gives_none : {L : Type 0} (stands : L → Trace link.Entry → Type 0) (left : L → List ℕ) (condition : L → LinkState) (load : L → ℕ) (l : L) → Gives stands left condition load [] l l
gives_none stands left condition load l = record {
  took = record { called = λ u st open_now room. st; unless_some = λ none. refl; left_is = refl; state_is = refl };
  load_is = λ open_now room. omega arith;
}

-- each PDU has bytes
some_bytes : (drawn : Drawn) → 0 < length (tunneled drawn)
some_bytes drawn = omega arith

given_some : (bytes : List ℕ) (u : Trace link.Entry) → 0 < length bytes → gives_bytes bytes u ≡ u ▷ link.Gave bytes
given_some [] u some = absurd (omega (arith, some))
given_some (byte ∷ bytes) u some = refl

last_some : (xs : List Drawn) (x : Drawn) → xs ++ x ∷ [] ≡ [] → ⊥
last_some xs x none = omega (arith, ap length none, length-append xs (x ∷ []))

pub gives_more : {L : Type 0} (stands : L → Trace link.Entry → Type 0) (left : L → List ℕ) (condition : L → LinkState) (load : L → ℕ) (drawn : List Drawn) (next : Drawn) (old mid new : L) → Gives stands left condition load drawn old mid
    → ((u : Trace link.Entry) → stands mid u → is_closed (condition mid) ≡ false → load mid + length (tunneled next) ≤ QUEUE → stands new (gives_bytes (tunneled next) u))
    → (is_closed (condition mid) ≡ false → load mid + length (tunneled next) ≤ QUEUE → load new ≡ load mid + length (tunneled next)) → left new ≡ left mid → condition new ≡ condition mid
    → Gives stands left condition load (drawn ++ next ∷ []) old new
gives_more stands left condition load drawn next old mid new g trace loads left_is state_is =
    let size : length (flat_map tunneled (drawn ++ next ∷ [])) ≡ length (flat_map tunneled drawn) + length (tunneled next) =
    ap length (flat_map-append tunneled drawn (next ∷ [])) ∙ length-append (flat_map tunneled drawn) (tunneled next ++ []) ∙ ap (λ bytes. length (flat_map tunneled drawn) + length bytes) (append-nil (tunneled next)) in
    let unclosed : is_closed (condition old) ≡ false → is_closed (condition mid) ≡ false = λ h. ap is_closed (g.took).state_is ∙ h in record {
      took = record {
        called =
            λ u st h room. subst (stands new) (sym (fold-append (gives Reliable) u drawn (next ∷ [])))
            (subst (stands new) (given_some (tunneled next) (fold (gives Reliable) u drawn) (some_bytes next))
            (trace (fold (gives Reliable) u drawn) ((g.took).called u st h (omega (arith, room, size))) (unclosed h) (omega (arith, room, size, g.load_is h (omega (arith, room, size))))));
        unless_some = λ none. absurd (last_some drawn next none);
        left_is = left_is ∙ (g.took).left_is;
        state_is = state_is ∙ (g.took).state_is;
      };
      load_is = λ h room. omega (arith, room, size, g.load_is h (omega (arith, room, size)), loads (unclosed h) (omega (arith, room, size, g.load_is h (omega (arith, room, size)))));
    }

-- by the PDUs of the message
pub gives_next : {L : Type 0} (stands : L → Trace link.Entry → Type 0) (left : L → List ℕ) (condition : L → LinkState) (load : L → ℕ) (pdus : List Pdu) (k : ℕ) (pdu : Pdu) (bytes : List ℕ) (old mid new : L) → Gives stands left condition load (map carrying (take k pdus)) old mid
    → slice_get pdus k ≡ Some pdu → bytes ≡ tunneled (carrying pdu)
    → ((u : Trace link.Entry) → stands mid u → is_closed (condition mid) ≡ false → load mid + length bytes ≤ QUEUE → stands new (gives_bytes bytes u))
    → (is_closed (condition mid) ≡ false → load mid + length bytes ≤ QUEUE → load new ≡ load mid + length bytes) → left new ≡ left mid → condition new ≡ condition mid
    → Gives stands left condition load (map carrying (take (k + 1) pdus)) old new
gives_next stands left condition load pdus k pdu bytes old mid new g at are trace loads left_is state_is =
    let split : map carrying (take (k + 1) pdus) ≡ map carrying (take k pdus) ++ carrying pdu ∷ [] = ap (map carrying) (take_more k pdus pdu at) ∙ map-append carrying (take k pdus) (pdu ∷ []) in
    subst (λ ds. Gives stands left condition load ds old new) (sym split)
    (gives_more stands left condition load (map carrying (take k pdus)) (carrying pdu) old mid new g
    (subst (λ b. (u : Trace link.Entry) → stands mid u → is_closed (condition mid) ≡ false → load mid + length b ≤ QUEUE → stands new (gives_bytes b u)) are trace)
    (subst (λ b. is_closed (condition mid) ≡ false → load mid + length b ≤ QUEUE → load new ≡ load mid + length b) are loads) left_is state_is)

-- ---- into a lossy one

-- a message of at most 990 bytes is one PDU
pub one_part : (id : ℕ) (message : List ℕ) → length message ≤ 990 → fragments_of id message ≡ Data id message ∷ []
one_part id message short = one_pdu id message (omega (arith, short, (sizes id).1))

part_size : (id : ℕ) (message : List ℕ) → length message ≤ 990 → length (tunneled (carrying (Data id message))) ≤ 1000
part_size id message short = omega (arith, short, length-data id message, (sizes id).1, length-append (spelled (Data id message)) [])

pub part_fits : (id : ℕ) (message bytes : List ℕ) → length message ≤ 990 → ((pdu : Pdu) → slice_get (fragments_of id message) 0 ≡ Some pdu → bytes ≡ tunneled (carrying pdu)) → length bytes ≤ 1000
part_fits id message bytes short by =
    let are : bytes ≡ tunneled (carrying (Data id message)) = by (Data id message) (ap (λ pdus. slice_get pdus 0) (one_part id message short)) in
    omega (arith, ap length are, part_size id message short)

posted_some : (bytes : List ℕ) (u : Trace link.Entry) → 0 < length bytes → posts_bytes bytes u ≡ u ▷ link.Posted bytes
posted_some [] u some = absurd (omega (arith, some))
posted_some (byte ∷ bytes) u some = refl

pub posted : {L : Type 0} (stands : L → Trace link.Entry → Type 0) (left : L → List (List ℕ)) (condition : L → LinkState) (load : L → ℕ) (id : ℕ) (message bytes : List ℕ) (old new : L) → length message ≤ 990
    → ((pdu : Pdu) → slice_get (fragments_of id message) 0 ≡ Some pdu → bytes ≡ tunneled (carrying pdu))
    → ((u : Trace link.Entry) → stands old u → is_closed (condition old) ≡ false → load old < WINDOW → stands new (posts_bytes bytes u)) → left new ≡ left old → condition new ≡ condition old
    → TookEach Lossy stands left condition load (map carrying (fragments_of id message)) old new
posted stands left condition load id message bytes old new short by trace left_is state_is =
    let one = one_part id message short in
    let next = carrying (Data id message) in
    let are : bytes ≡ tunneled next = by (Data id message) (ap (λ pdus. slice_get pdus 0) one) in
    subst (λ pdus. TookEach Lossy stands left condition load (map carrying pdus) old new) (sym one)
    (record {
      called =
          λ u st h room. subst (stands new) (posted_some (tunneled next) u (some_bytes next))
          (subst (λ b. stands new (posts_bytes b u)) are (trace u st h (omega (arith, room))));
      unless_some = λ none. absurd (last_some [] next none);
      left_is = left_is;
      state_is = state_is;
    })

-- at least one PDU
pub some_parts : (id : ℕ) (message : List ℕ) → 0 < length (fragments_of id message)
some_parts id message = by_test (nat_le (length message) (room id)) where
  by_test : (b : Bool)
      → 0 < length (cond b (Data id message ∷ []) (DataFirst id (length message) (take (first_room id (length message)) message) ∷ map (Data id) (in_pieces (room id) (drop (first_room id (length message)) message))))
  by_test true = omega arith
  by_test false = omega arith
