-- What a machine hears: the window that it keeps, the transmissions that it notes, and the parts
-- that it takes.
use Rattle.std.proofs.Common.{leb, cond, ◌≤◌, ◌<◌, false, ◌≡◌, ◌⊎◌, inl, inr, ℕ, ◌-◌, true, max, List, [], ◌∷◌, ◌++◌, Option, Some, None, is_some, unwrap_or, refl, sym, ap, ◌∙◌, subst, arith}
use Rattle.std.specs.Prelude.{if◌then◌else◌}
use Rattle.std.proofs.lemmas.Bool.Decides.{nat_tests}
use Rattle.mt_windows.specs.declared.receive.Accept.{Accept}
use Rattle.mt_windows.specs.declared.receive.Accept.TheVariants.{New, Again}
use Rattle.mt_windows.specs.Arrived.{Parts, verdict, with_part}
use Rattle.mt_windows.specs.ArrivedView.{Inbox, Receives}
use Rattle.mt_windows.specs.Noted.{greatest_of}
use Rattle.mt_windows.specs.NotedView.{Marks, Notes}
use Rattle.carrier.specs.declared.state.Took.{Took}
use Rattle.carrier.specs.declared.state.Took.TheVariants.{Used}
use Rattle.carrier.specs.Layout.{Load, Received, Shown, Carries, Dummy}
use Rattle.carrier.specs.Law.{answer_by, answer_load, answer_to}
use Rattle.carrier.specs.Receiving.{Arrival, arrival_of, floor_of, floor_read, floor_shown, is_taken, owes, part_read, parts_with, last_told, receives, seen_with, taken_of, transmission_read}
use Rattle.mt_windows.specs.declared.limits.TheConstants.{WINDOW}
use Rattle.link_machine.specs.declared.load.Load.{Load as CodeLoad}
use Rattle.link_machine.specs.declared.numbers.Numbers.{Numbers}
use Rattle.carrier.specs.Layout.{Layout}
use Rattle.link_machine.specs.Wire.{Wire, layout_of}
use Rattle.link_machine.specs.ReceiverView.{Hears, Receiver, both, load_of, owed_with, received_with}

-- ---- what is kept

-- with another window, for other parts or bytes
pub with_window : (v r : Receiver) (w : Inbox) (got : Received) (parts : Parts) (n m floor : ℕ)
    (owed : List ℕ) → v ≡ r → Hears r got n floor owed → Receives w r.config.peer parts m
    → Hears (record v { inbox = w }) (record { parts = parts; seen = got.seen }) m floor owed
with_window v r w got parts n m floor owed same h receives =
    let after : Received = record { parts = parts; seen = got.seen } in
    let old : Hears (record r { inbox = w }) after m floor owed = record {
      receives = receives;
      notes = h.notes;
      last_is = h.last_is;
      floor_is = h.floor_is;
      owes = h.owes;
    } in
    subst (λ x. Hears (record x { inbox = w }) after m floor owed) (sym same) old

-- the window that is kept
pub kept_window : (v r : Receiver) (got : Received) (n floor : ℕ) (owed : List ℕ) → v ≡ r
    → Hears r got n floor owed → Receives v.inbox r.config.peer got.parts n
kept_window v r got n floor owed same h =
    subst (λ x. Receives x.inbox r.config.peer got.parts n) (sym same) h.receives

-- the transmissions that are kept
pub kept_marks : (v r : Receiver) (got : Received) (n floor : ℕ) (owed : List ℕ) → v ≡ r
    → Hears r got n floor owed → Notes v.marks got.seen
kept_marks v r got n floor owed same h = subst (λ x. Notes x.marks got.seen) (sym same) h.notes

-- with one more transmission
pub with_noted : (v r : Receiver) (m : Marks) (last : Option ℕ) (t : ℕ) (got : Received) (n floor : ℕ)
    (owed : List ℕ) → v ≡ r → Hears r got n floor owed → Notes m (t ∷ got.seen)
    → last ≡ Some (max t (unwrap_or v.last 0))
    → Hears (record v { marks = m; last = last })
    (record { parts = got.parts; seen = t ∷ got.seen }) n floor owed
with_noted v r m last t got n floor owed same h notes greatest =
    let after : Received = record { parts = got.parts; seen = t ∷ got.seen } in
    let kept : v.last ≡ greatest_of got.seen = ap (λ x. x.last) same ∙ h.last_is in
    let old : Hears (record r { marks = m; last = last }) after n floor owed = record {
      receives = h.receives;
      notes = notes;
      last_is = greatest ∙ ap (λ o. Some (max t (unwrap_or o 0))) kept;
      floor_is = h.floor_is;
      owes = h.owes;
    } in
    subst (λ x. Hears (record x { marks = m; last = last }) after n floor owed) (sym same) old

-- ---- a part that is taken

-- a part that was accepted, now or before, is taken
taken_is : (v : Accept) → (v ≡ New) ⊎ (v ≡ Again) → is_taken v ≡ true
taken_is v (inl e) = ap is_taken e
taken_is v (inr e) = ap is_taken e

-- and was used
pub used_is : (v : Accept) → (v ≡ New) ⊎ (v ≡ Again) → Used ≡ answer_by v
used_is v (inl e) = sym (ap answer_by e)
used_is v (inr e) = sym (ap answer_by e)

-- what is known of a part with these numbers
abbrev arrived : Numbers → List ℕ → Arrival
arrived x bytes = record { part = x.part; transmission = x.transmission; bytes = bytes }

both_read : (p q : Option ℕ) (x : Numbers) (bytes : List ℕ) → Some x ≡ both p q
    → arrival_of p q bytes ≡ Some (arrived x bytes)
both_read None q x bytes is = absurd (cc)
both_read (Some p) None x bytes is = absurd (cc)
both_read (Some p) (Some q) x bytes is =
    let same : record { part = p; transmission = q } ≡ x = cc in
    ap (λ y. Some (arrived y bytes)) same

not_both_read : (p q : Option ℕ) (bytes : List ℕ) → None ≡ both p q → arrival_of p q bytes ≡ None
not_both_read None q bytes is = refl
not_both_read (Some p) None bytes is = refl
not_both_read (Some p) (Some q) bytes is = absurd (cc)

-- ---- the floor

-- a floor that is not above what was received replaces the last one
pub raised : (v r : Receiver) (got : Received) (n old : ℕ) (owed : List ℕ) (floor last : ℕ) (o : Option ℕ) → o ≡ Some floor → v ≡ r → Hears r got n old owed
    → floor ≤ last → Hears (record v { floor = floor }) got n (floor_of last old o) owed
raised v r got n old owed floor last o some same h le =
    let test : leb floor last ≡ true = grind (arith, nat_tests) in
    let is : floor ≡ floor_of last old o = sym (ap (floor_of last old) some ∙ ap (λ b. cond b floor old) test) in
    let new : Hears (record r { floor = floor }) got n (floor_of last old o) owed = record {
      receives = h.receives;
      notes = h.notes;
      last_is = h.last_is;
      floor_is = is;
      owes = h.owes;
    } in
    subst (λ x. Hears (record x { floor = floor }) got n (floor_of last old o) owed) (sym same) new

-- another does not
pub not_raised : (r : Receiver) (got : Received) (n old : ℕ) (owed : List ℕ) (floor last : ℕ) (o : Option ℕ) → o ≡ Some floor → Hears r got n old owed
    → last < floor → Hears r got n (floor_of last old o) owed
not_raised r got n old owed floor last o some h less =
    let test : leb floor last ≡ false = grind (arith, nat_tests) in
    subst (λ f. Hears r got n f owed) (sym (ap (floor_of last old) some ∙ ap (λ b. cond b floor old) test)) h

module _ (wire : Wire) (wait delay own peer : ℕ) where
  abbrev lay : Layout
  lay = layout_of wire wait delay own peer

  module _ (got : Received) (n part transmission : ℕ) (bytes : List ℕ) where
    -- the numbers of the part
    abbrev pub Reads : Option Numbers → Type 0
    Reads numbers = numbers ≡ both (part_read lay got n part)
        (transmission_read lay got transmission)

    -- the answer to a part whose numbers can't be read
    pub part_unanswered : Reads None
        → answer_to lay got n None
        ≡ answer_load lay got n (Carries part transmission bytes)
    part_unanswered read = sym (ap (answer_to lay got n) (not_both_read _ _ bytes read))

    -- the answer to a part with these numbers and this verdict
    pub part_answered : (x : Numbers) (v : Accept) → Reads (Some x)
        → v ≡ verdict WINDOW peer got.parts n x.part
        → answer_by v ≡ answer_load lay got n (Carries part transmission bytes)
    part_answered x v read is =
        ap answer_by is ∙ sym (ap (answer_to lay got n) (both_read _ _ x bytes read))

    -- this half stands for what was received with such an arrival
    abbrev HearsArrival : Receiver → ℕ → ℕ → List ℕ → Option Arrival → Type 0
    HearsArrival s floor at owed a =
        let q = taken_of lay got n a in
        Hears s (record { parts = parts_with lay got n a; seen = seen_with got.seen q }) n
        floor (if is_some q then owed ++ at ∷ [] else owed)

    -- and with this verdict on a part
    abbrev HearsVerdict : Receiver → Numbers → ℕ → ℕ → List ℕ → Accept → Type 0
    HearsVerdict s x floor at owed v =
        let q = if is_taken v then Some x.transmission else None in
        Hears s (record { parts = with_part v got.parts (x.part - peer) bytes; seen = seen_with got.seen q })
        n floor (if is_some q then owed ++ at ∷ [] else owed)

    -- a part that was accepted, now or before, is seen and makes a telling owed
    pub part_counted : (s : Receiver) (x : Numbers) (floor at : ℕ) (owed : List ℕ) (v : Accept)
        → (v ≡ New) ⊎ (v ≡ Again)
        → Hears s (record {
          parts = with_part v got.parts (x.part - peer) bytes;
          seen = x.transmission ∷ got.seen;
        }) n floor (owed ++ at ∷ [])
        → HearsVerdict s x floor at owed v
    part_counted s x floor at owed v is h =
        subst (λ b. let q = if b then Some x.transmission else None in
        Hears s (record { parts = with_part v got.parts (x.part - peer) bytes; seen = seen_with got.seen q })
        n floor (if is_some q then owed ++ at ∷ [] else owed)) (sym (taken_is v is)) h

    -- what was received with a part of these numbers and this verdict
    pub part_stands : (s : Receiver) (x : Numbers) (floor at : ℕ) (owed : List ℕ) (v : Accept)
        → Reads (Some x) → v ≡ verdict WINDOW peer got.parts n x.part → HearsVerdict s x floor at owed v
        → (let load = Carries part transmission bytes in
        Hears s (received_with lay got n load) n floor (owed_with lay got n load at owed))
    part_stands s x floor at owed v read is h =
        subst (HearsArrival s floor at owed) (sym (both_read _ _ x bytes read))
        (subst (HearsVerdict s x floor at owed) is h)

    -- a part whose numbers can't be read changes nothing
    pub part_ignored : (s : Receiver) (floor at : ℕ) (owed : List ℕ) → Reads None
        → Hears s got n floor owed
        → (let load = Carries part transmission bytes in
        Hears s (received_with lay got n load) n floor (owed_with lay got n load at owed))
    part_ignored s floor at owed read h =
        subst (HearsArrival s floor at owed) (sym (not_both_read _ _ bytes read)) h

  -- a transmission without a part is seen and makes a telling owed
  pub dummy_stands : (s : Receiver) (got : Received) (n low x floor at : ℕ) (owed : List ℕ)
      → Some x ≡ transmission_read lay got low
      → Hears s (record { parts = got.parts; seen = x ∷ got.seen }) n floor (owed ++ at ∷ [])
      → (let load = Dummy low in
      Hears s (received_with lay got n load) n floor (owed_with lay got n load at owed))
  dummy_stands s got n low x floor at owed is h =
      subst (λ q. Hears s (record { parts = got.parts; seen = seen_with got.seen q }) n floor
      (if is_some q then owed ++ at ∷ [] else owed)) is h

  -- ---- what a datagram carries, and the floor that it shows

  -- the answer to what is carried
  pub load_answered : (got : Received) (n : ℕ) (load same : CodeLoad) (took answer : Took)
      → load ≡ same → took ≡ answer → answer ≡ answer_load lay got n (load_of same)
      → took ≡ answer_load lay got n (load_of load)
  load_answered got n load same took answer is took_is answered =
      took_is ∙ answered ∙ ap (λ l. answer_load lay got n (load_of l)) (sym is)

  -- this half stands for what was received with this load
  abbrev pub HearsLoad : Received → ℕ → Receiver → ℕ → ℕ → List ℕ → Load → Type 0
  HearsLoad got n s floor at owed load =
      Hears s (received_with lay got n load) n floor (owed_with lay got n load at owed)

  -- the same half stands for the same
  pub load_stands : (got : Received) (n : ℕ) (s same : Receiver) (floor at : ℕ) (owed : List ℕ)
      (load as_said : CodeLoad) → s ≡ same → load ≡ as_said
      → HearsLoad got n same floor at owed (load_of as_said)
      → HearsLoad got n s floor at owed (load_of load)
  load_stands got n s same floor at owed load as_said is said h =
      subst (λ x. HearsLoad got n x floor at owed (load_of load)) (sym is)
      (subst (λ l. HearsLoad got n same floor at owed (load_of l)) (sym said) h)

  -- the floor that is read
  abbrev pub floor_low : Received → ℕ → Option ℕ → Option ℕ
  floor_low got n None = None
  floor_low got n (Some low) = floor_read lay got n low

  floor_by : (got : Received) (n : ℕ) (shown : Shown) (after : Received) (old : ℕ)
      (low floor : Option ℕ) → floor ≡ floor_low got n low
      → floor_of (last_told lay after) old floor
      ≡ floor_shown lay got n after old (Some (record shown { floor = low }))
  floor_by got n shown after old None floor is = ap (floor_of (last_told lay after) old) is
  floor_by got n shown after old (Some low) floor is = ap (floor_of (last_told lay after) old) is

  -- what a floor that was read comes to
  floor_is : (got : Received) (n : ℕ) (shown : Shown) (after : Received) (old : ℕ)
      (low floor : Option ℕ) → shown.floor ≡ low → floor ≡ floor_low got n low
      → floor_of (last_told lay after) old floor
      ≡ floor_shown lay got n after old (Some shown)
  floor_is got n shown after old low floor same is =
      floor_by got n shown after old low floor is
      ∙ sym (ap (λ q. floor_shown lay got n after old
      (Some (record shown { floor = q }))) same)

  -- what was received with what was shown, where `s` stands for what was carried, and raises its floor
  pub shown_stands : (got : Received) (n : ℕ) (s t : Receiver) (shown : Shown) (load : Load)
      (low floor : Option ℕ) (old at : ℕ) (owed : List ℕ)
      → shown.load ≡ load → shown.floor ≡ low → floor ≡ floor_low got n low
      → HearsLoad got n s old at owed load
      → ((got : Received) (n old : ℕ) (owed : List ℕ) → Hears s got n old owed
      → Hears t got n (floor_of (last_told lay got) old floor) owed)
      → (let after = receives lay got n (Some shown) in
      Hears t after n (floor_shown lay got n after old (Some shown))
      (if owes lay got n (Some shown) then owed ++ at ∷ [] else owed))
  shown_stands got n s t shown load low floor old at owed carries shows read h raises =
      let after = receives lay got n (Some shown) in
      let counted = if owes lay got n (Some shown) then owed ++ at ∷ [] else owed in
      let carried : Hears s after n old counted =
      subst (HearsLoad got n s old at owed) (sym carries) h in
      let floors : floor_of (last_told lay after) old floor
      ≡ floor_shown lay got n after old (Some shown) =
      floor_is got n shown after old low floor shows read in
      subst (λ f. Hears t after n f counted) floors (raises after n old counted carried)
