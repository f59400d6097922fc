-- A closed channel stays closed, and nothing is held of a channel that was never made.
use Rattle.std.proofs.Common.{◌≡◌, ℕ, ◌+◌, ◌<◌, Bool, true, false, ◌&&◌, eqb, cond, List, [], ◌∷◌, ◌++◌, length, Option, None, Some, refl, sym, ap, ◌∙◌, arith, length-append, ne_eqb}
use Rattle.std.proofs.lemmas.Bool.{eqb-true}
use Rattle.mt_base.specs.declared.kinds.Role.{Role}
use Rattle.mt_base.specs.declared.kinds.Role.TheVariants.{Server, Client}
use Rattle.mt_base.specs.declared.kinds.Kind.{Kind}
use Rattle.mt_base.specs.declared.kinds.Kind.TheVariants.{Reliable, Lossy}
use Rattle.mt_base.specs.Trace.{Trace, Start, ◌▷◌}
use Rattle.dvc_pdus.specs.Value.{Pdu, Caps, CreateRequest, CreateResponse, DataFirst, Data, CompressedFirst, Compressed, Close, SyncRequest, SyncResponse}
use Rattle.dvc_channels.specs.declared.answers.ChannelState.{ChannelState}
use Rattle.dvc_channels.specs.declared.answers.ChannelState.TheVariants as state
use Rattle.dvc_channels.specs.Acts as channels
use Rattle.mt_endpoint.specs.Acts.{Act, Hears, Draws, Releases, Spoken, Carried}
use Rattle.mt_endpoint.specs.Said.{Said, Capable, Creates, Created, Brings, Ends, Moves, Moved, said, lone}
use Rattle.mt_endpoint.specs.Channels.{table, channel, is_open, is_closed, is_closed_in, is_known, is_known_in}
use Rattle.mt_base.specs.Ends.{same_kind}
use Rattle.mt_endpoint.specs.Holding.{Held, held, held_after, is_held, may_hold, is_for_open, fits, channel_of, is_of, only, without_first, unless_ended}
use Rattle.mt_base.proofs.Prefixes.{nothing_first, nothing_second}
use Rattle.mt_endpoint.proofs.ChannelPdus.{carried_pdus, of, keep-append, is_mine}
use Rattle.mt_endpoint.proofs.Fitting.{IsDue, Fits, Fitting, said_fine}
use Rattle.mt_endpoint.proofs.HeldPdus.{only-append, none_without, none_first, none_ended}
use Rattle.mt_endpoint.proofs.Tables.{Quiet, quiet_heard, quiet_due, after_said, closed_said, known_said, known_cond, contra, open_is_known}
use Rattle.mt_endpoint.proofs.Reading.{drawn, drawn_new, drawn-step, Seen, hears_it, draws_it, releases, discards, closes, opens, takes, still, seen}

pub known_stays : (role : Role) (id : ℕ) (t : Trace Act) (act : Act) → is_known role id t ≡ true → is_known role id (t ▷ act) ≡ true
known_stays role id t act h = by_seen act (seen role t act) where
  by_seen : (act : Act) → Seen role t act → is_known role id (t ▷ act) ≡ true
  by_seen _ (hears_it pdu) = known_said role id t pdu (said pdu) h
  by_seen _ (draws_it kind at bytes pdu) = h
  by_seen _ (releases kind at bytes pdu) = known_said role id t pdu (said pdu) h
  by_seen _ (discards at bytes pdu) = h
  by_seen _ (closes made) = known_cond (eqb made id) state.Closed (channel role id t) refl h
  by_seen _ (opens made name) = known_cond (eqb made id) state.Asked (channel role id t) refl h
  by_seen _ (takes made message) = h
  by_seen _ (still act a b c same_table d e) = ap (λ T. is_known_in (channels.state T id)) same_table ∙ h

pub unknown_before : (role : Role) (id : ℕ) (t : Trace Act) (act : Act) → is_known role id (t ▷ act) ≡ false → is_known role id t ≡ false
unknown_before role id t act h = by_test (is_known role id t) refl where
  by_test : (b : Bool) → is_known role id t ≡ b → b ≡ false
  by_test true e = let no : true ≡ false = sym (known_stays role id t act e) ∙ h in cc
  by_test false e = refl

-- ---- what is held

and_first : (a b : Bool) → a && b ≡ true → a ≡ true
and_first true b h = refl
and_first false b h = cc

for_open : (role : Role) (t : Trace Act) (id : ℕ) (what : Option ℕ) → is_for_open role t what ≡ true → is_of id what ≡ true → is_open role id t ≡ true
for_open role t id None h k = cc
for_open role t id (Some made) h k = let same : made ≡ id = eqb-true made id k in ap (λ x. is_open role x t) (sym same) ∙ h

lone_open : (role : Role) (t : Trace Act) (id : ℕ) (bytes : List ℕ) (pdu : Pdu) (queue : List Held) → may_hold role t (lone pdu) bytes queue ≡ true → is_of id (channel_of pdu) ≡ true → is_open role id t ≡ true
lone_open role t id bytes (Data made data_bytes) queue h k =
    let same : made ≡ id = eqb-true made id k in ap (λ x. is_open role x t) (sym same) ∙ and_first (is_open role made t) _ h
lone_open role t id bytes (Caps version charges) queue h k = absurd (let no : false ≡ true = h in cc)
lone_open role t id bytes (CreateRequest made priority name) queue h k = absurd (let no : false ≡ true = h in cc)
lone_open role t id bytes (CreateResponse made status) queue h k = absurd (let no : false ≡ true = h in cc)
lone_open role t id bytes (DataFirst made total data_bytes) queue h k = absurd (let no : false ≡ true = h in cc)
lone_open role t id bytes (CompressedFirst made total data_bytes) queue h k = absurd (let no : false ≡ true = h in cc)
lone_open role t id bytes (Compressed made data_bytes) queue h k = absurd (let no : false ≡ true = h in cc)
lone_open role t id bytes (Close made) queue h k = absurd (let no : false ≡ true = h in cc)
lone_open role t id bytes (SyncRequest flags tunnels lists) queue h k = absurd (let no : false ≡ true = h in cc)
lone_open role t id bytes (SyncResponse types) queue h k = absurd (let no : false ≡ true = h in cc)

-- a PDU that is held is one of an open channel
pub held_open : (role : Role) (kind : Kind) (t : Trace Act) (id : ℕ) (bytes : List ℕ) (pdu : Pdu) (queue : List Held) → is_held role kind t bytes pdu queue ≡ true → is_mine id pdu ≡ true → is_open role id t ≡ true
held_open role Reliable t id bytes pdu queue h k = for_open role t id (channel_of pdu) h k
held_open role Lossy t id bytes pdu queue h k = lone_open role t id bytes pdu queue h k

-- pulling a PDU that is not held for the channel
pub draw_none : (role : Role) (id : ℕ) (t : Trace Act) (kind made : Kind) (at : ℕ) (bytes : List ℕ) (pdu : Pdu) (queue : List Held) → (same_kind kind made ≡ true → is_held role kind t bytes pdu queue ≡ true → is_mine id pdu ≡ false)
    → only id queue ≡ [] → only id (held_after role kind t (Draws made at (Carried bytes pdu)) queue) ≡ []
draw_none role id t kind made at bytes pdu queue not_mine none = by_kind (same_kind kind made) refl where
  by_test : (b : Bool) → (b ≡ true → is_mine id pdu ≡ false) → only id (cond b (queue ++ record { at = at; bytes = bytes; pdu = pdu } ∷ []) queue) ≡ []
  by_test true h =
      only-append id queue (record { at = at; bytes = bytes; pdu = pdu } ∷ []) ∙ ap (λ l. l ++ only id (record { at = at; bytes = bytes; pdu = pdu } ∷ [])) none
      ∙ ap (λ b. cond b (record { at = at; bytes = bytes; pdu = pdu } ∷ []) []) (h refl)
  by_test false h = none

  by_kind : (b : Bool) → same_kind kind made ≡ b → only id (cond b (cond (is_held role kind t bytes pdu queue) (queue ++ record { at = at; bytes = bytes; pdu = pdu } ∷ []) queue) queue) ≡ []
  by_kind true e = by_test (is_held role kind t bytes pdu queue) (λ h. not_mine e h)
  by_kind false e = none

-- where nothing of a channel is held, only a PDU that is pulled changes that
pub held_none : (role : Role) (id : ℕ) (kind : Kind) (t : Trace Act) (act : Act) → Seen role t act → ((made : Kind) (at : ℕ) (bytes : List ℕ) (pdu : Pdu) → act ≡ Draws made at (Carried bytes pdu) → same_kind kind made ≡ true → is_held role kind t bytes pdu (held role kind t) ≡ true → is_mine id pdu ≡ false)
    → only id (held role kind t) ≡ [] → only id (held role kind (t ▷ act)) ≡ []
held_none role id kind t _ (hears_it pdu) h none = none_ended id (said pdu) (held role kind t) none
held_none role id kind t _ (draws_it made at bytes pdu) h none = draw_none role id t kind made at bytes pdu (held role kind t) (h made at bytes pdu refl) none
held_none role id kind t _ (releases made at bytes pdu) h none = by_kind (same_kind kind made) where
  by_kind : (b : Bool) → only id (unless_ended (said pdu) (cond b (without_first (channel_of pdu) (held role kind t)) (held role kind t))) ≡ []
  by_kind true = none_ended id (said pdu) (without_first (channel_of pdu) (held role kind t)) (none_first id (channel_of pdu) (held role kind t) none)
  by_kind false = none_ended id (said pdu) (held role kind t) none
held_none role id kind t _ (discards at bytes pdu) h none = by_kind (same_kind kind Lossy) where
  by_kind : (b : Bool) → only id (cond b (without_first (channel_of pdu) (held role kind t)) (held role kind t)) ≡ []
  by_kind true = none_first id (channel_of pdu) (held role kind t) none
  by_kind false = none
held_none role id kind t _ (closes made) h none = none_without id made (held role kind t) none
held_none role id kind t _ (opens made name) h none = none
held_none role id kind t _ (takes made message) h none = none
held_none role id kind t _ (still act a b same_held d e f) h none = ap (only id) (same_held kind (held role kind t)) ∙ none

pub unknown_held : (role : Role) (id : ℕ) (kind : Kind) (t : Trace Act) → is_known role id t ≡ false → only id (held role kind t) ≡ []
unknown_held role id kind Start h = refl
unknown_held role id kind (t ▷ act) h =
    let before = unknown_before role id t act h in
    held_none role id kind t act (seen role t act) (λ made at bytes pdu same e kept. mine pdu bytes (is_mine id pdu) refl before kept) (unknown_held role id kind t before) where
      mine : (pdu : Pdu) (bytes : List ℕ) (b : Bool) → is_mine id pdu ≡ b → is_known role id t ≡ false → is_held role kind t bytes pdu (held role kind t) ≡ true → b ≡ false
      mine pdu bytes true k before kept =
          let it : is_known role id t ≡ true = open_is_known (channel role id t) (held_open role kind t id bytes pdu (held role kind t) kept k) in
          let no : true ≡ false = sym it ∙ before in cc
      mine pdu bytes false k before kept = refl

of_one : (id : ℕ) (pdu : Pdu) (b : Bool) → is_mine id pdu ≡ b → of id (pdu ∷ []) ≡ [] → b ≡ false
of_one id pdu true e h = let no : pdu ∷ [] ≡ [] = sym (ap (λ b. cond b (pdu ∷ []) []) e) ∙ h in cc
of_one id pdu false e h = refl

-- of a channel of which nothing was pulled nothing is held
pub undrawn_held : (role : Role) (id : ℕ) (kind : Kind) (t : Trace Act) → of id (drawn kind t) ≡ [] → only id (held role kind t) ≡ []
undrawn_held role id kind Start h = refl
undrawn_held role id kind (t ▷ act) h =
    let both : of id (drawn kind t) ++ of id (drawn_new kind act) ≡ [] = sym (keep-append (is_mine id) (drawn kind t) (drawn_new kind act)) ∙ ap (of id) (sym (drawn-step kind t act)) ∙ h in
    held_none role id kind t act (seen role t act)
    (λ made at bytes pdu same e kept. of_one id pdu (is_mine id pdu) refl (ap (λ b. of id (carried_pdus (cond b (Carried bytes pdu ∷ []) []))) (sym e) ∙ ap (λ a. of id (drawn_new kind a)) (sym same) ∙ nothing_second (of id (drawn kind t)) (of id (drawn_new kind act)) both))
    (undrawn_held role id kind t (nothing_first (of id (drawn kind t)) (of id (drawn_new kind act)) both))

-- ---- states

pub due_known : (role : Role) (t : Trace Act) (kind : Kind) (pdu : Pdu) → (d : IsDue role t kind pdu) → is_known role d.id t ≡ true
due_known role t kind pdu d = by_test (is_known role d.id t) refl where
  by_test : (b : Bool) → is_known role d.id t ≡ b → b ≡ true
  by_test true e = refl
  by_test false e = let no : [] ≡ d.first ∷ d.rest = sym (unknown_held role d.id kind t e) ∙ d.queue_is in cc

pub quiet_hears : (role : Role) (t : Trace Act) (pdu : Pdu) → Fits role t (Hears (Spoken pdu)) → Quiet role t (said pdu)
quiet_hears role t pdu f = quiet_heard role t pdu (said pdu) (said_fine role t pdu f.1)

pub quiet_releases : (role : Role) (t : Trace Act) (kind : Kind) (at : ℕ) (bytes : List ℕ) (pdu : Pdu) → Fits role t (Releases kind at bytes pdu) → Quiet role t (said pdu)
quiet_releases role t kind at bytes pdu f = quiet_due role t pdu (said pdu) f.0.id f.0.channel_is (due_known role t kind pdu f.0) f.1

abbrev count : Trace Act → ℕ
count t = length (channels.ids (table Server t))

unknown_cond : (b : Bool) (new old : ChannelState) → b ≡ false → is_known_in old ≡ false → is_known_in (cond b new old) ≡ false
unknown_cond true new old h k = cc
unknown_cond false new old h k = k

other_id : (made id : ℕ) (b : Bool) (t : Trace Act) → eqb made id ≡ b → is_known Server made t ≡ true → is_known Server id t ≡ false → b ≡ false
other_id made id true t e h k = let same : made ≡ id = eqb-true made id e in let no : true ≡ false = sym h ∙ ap (λ x. is_known Server x t) same ∙ k in cc
other_id made id false t e h k = refl

unknown_said : (id : ℕ) (t : Trace Act) (pdu : Pdu) (what : Said) → Quiet Server t what → is_known Server id t ≡ false → is_known_in (channels.state (after_said Server t pdu what) id) ≡ false
unknown_said id t pdu (Capable version) q h = h
unknown_said id t pdu (Creates made name) q h = h
unknown_said id t pdu (Created made status) q h = unknown_cond (eqb made id) (channels.answered status) (channel Server id t) (other_id made id (eqb made id) t refl (ap is_known_in q) h) h
unknown_said id t pdu (Brings made) q h = h
unknown_said id t pdu (Ends made) q h = unknown_cond (eqb made id) state.Closed (channel Server id t) (other_id made id (eqb made id) t refl q h) h
unknown_said id t pdu (Moves lists) q h = h
unknown_said id t pdu (Moved kinds) q h = h

same_ids : (t : Trace Act) (pdu : Pdu) (what : Said) → channels.ids (after_said Server t pdu what) ≡ channels.ids (table Server t)
same_ids t pdu (Capable version) = refl
same_ids t pdu (Creates made name) = refl
same_ids t pdu (Created made status) = refl
same_ids t pdu (Brings made) = refl
same_ids t pdu (Ends made) = refl
same_ids t pdu (Moves lists) = refl
same_ids t pdu (Moved kinds) = refl

-- a server numbers its channels in order
pub numbered : (t : Trace Act) (id : ℕ) → Fitting Server t → count t < id → is_known Server id t ≡ false
numbered Start id f h = refl
numbered (t ▷ act) id f h = by_seen act (seen Server t act) f.0 h (numbered t id f.1) where
  by_seen : (act : Act) → Seen Server t act → Fits Server t act → count (t ▷ act) < id → (count t < id → is_known Server id t ≡ false) → is_known Server id (t ▷ act) ≡ false
  by_seen _ (hears_it pdu) f h before =
      let n : count t < id = omega (arith, h, ap length (same_ids t pdu (said pdu))) in unknown_said id t pdu (said pdu) (quiet_hears Server t pdu f) (before n)
  by_seen _ (draws_it kind at bytes pdu) f h before = before h
  by_seen _ (releases kind at bytes pdu) f h before =
      let n : count t < id = omega (arith, h, ap length (same_ids t pdu (said pdu))) in unknown_said id t pdu (said pdu) (quiet_releases Server t kind at bytes pdu f) (before n)
  by_seen _ (discards at bytes pdu) f h before = before h
  by_seen _ (closes made) f h before =
      unknown_cond (eqb made id) state.Closed (channel Server id t) (other_id made id (eqb made id) t refl (open_is_known (channel Server made t) f.0.0) (before h)) (before h)
  by_seen _ (opens made name) f h before =
      let n : count t + 1 < id = omega (arith, h, length-append (channels.ids (table Server t)) (made ∷ [])) in
      let is : made ≡ count t + 1 = f.0.2 in
      unknown_cond (eqb made id) state.Asked (channel Server id t) (ne_eqb made id (λ q. omega (arith, n, is, q))) (before (omega (arith, n)))
  by_seen _ (takes made message) f h before = before h
  by_seen _ (still act a b c same_table d e) f h before =
      let n : count t < id = omega (arith, h, ap (λ T. length (channels.ids T)) same_table) in ap (λ T. is_known_in (channels.state T id)) same_table ∙ before n

closed_cond : (b : Bool) (new old : ChannelState) → b ≡ false → is_closed_in old ≡ true → is_closed_in (cond b new old) ≡ true
closed_cond true new old h k = cc
closed_cond false new old h k = k

pub closed_stays : (role : Role) (id : ℕ) (t : Trace Act) (act : Act) → Fits role t act → Fitting role t → is_closed role id t ≡ true → is_closed role id (t ▷ act) ≡ true
closed_stays role id t act fits f h = by_seen act (seen role t act) fits where
  fresh : (role : Role) (made : ℕ) (b : Bool) → eqb made id ≡ b → role ≡ Server → made ≡ length (channels.ids (table Server t)) + 1 → Fitting role t → is_closed role id t ≡ true → b ≡ false
  fresh role made false e is n f h = refl
  fresh Client made true e is n f h = absurd (let no : Client ≡ Server = is in cc)
  fresh Server made true e is n f h =
      let same : made ≡ id = eqb-true made id e in contra (channel Server id t) h (numbered t id f (omega (arith, n, same)))

  closing : (b : Bool) → is_closed_in (cond b state.Closed (channel role id t)) ≡ true
  closing true = refl
  closing false = h

  by_seen : (act : Act) → Seen role t act → Fits role t act → is_closed role id (t ▷ act) ≡ true
  by_seen _ (hears_it pdu) fits = closed_said role id t pdu (said pdu) (quiet_hears role t pdu fits) h
  by_seen _ (draws_it kind at bytes pdu) fits = h
  by_seen _ (releases kind at bytes pdu) fits = closed_said role id t pdu (said pdu) (quiet_releases role t kind at bytes pdu fits) h
  by_seen _ (discards at bytes pdu) fits = h
  by_seen _ (closes made) fits = closing (eqb made id)
  by_seen _ (opens made name) fits = closed_cond (eqb made id) state.Asked (channel role id t) (fresh role made (eqb made id) refl fits.0.0 (role_ids role fits.0.0 fits.0.2) f h) h where
    role_ids : (role : Role) → role ≡ Server → made ≡ length (channels.ids (table Server t)) + 1 → made ≡ length (channels.ids (table Server t)) + 1
    role_ids role is n = n
  by_seen _ (takes made message) fits = h
  by_seen _ (still act a b c same_table d e) fits = ap (λ T. is_closed_in (channels.state T id)) same_table ∙ h
