-- The table of channels as acts change it: a closed channel stays closed, and data come to an open one.
use Rattle.std.proofs.Common.{◌≡◌, ℕ, Bool, true, false, not, ◌&&◌, eqb, cond, nat_lt, List, [], ◌∷◌, ◌++◌, flat_map, Option, None, Some, refl, sym, ap, ◌∙◌, append-nil}
use Rattle.std.specs.Option.{option_or}
use Rattle.std.proofs.lemmas.Bool.{eqb-true}
use Rattle.mt_base.specs.declared.kinds.Role.{Role}
use Rattle.mt_base.specs.declared.kinds.Role.TheVariants.{Server, Client}
use Rattle.mt_base.specs.Trace.{Trace, ◌▷◌}
use Rattle.dvc_pdus.specs.Value.{Pdu}
use Rattle.dvc_channels.specs.Pieces.{Piece, pieces_of, under_way}
use Rattle.dvc_channels.specs.declared.answers.ChannelState.{ChannelState}
use Rattle.dvc_channels.specs.declared.answers.ChannelState.TheVariants as state
use Rattle.dvc_channels.specs.declared.answers.ChannelRefusal.TheVariants as refusal
use Rattle.dvc_channels.specs.Acts.{Act as Change, Made, Answered, Came, Took, Ended, brought, refusal_in}
use Rattle.dvc_channels.specs.Acts as channels
use Rattle.mt_endpoint.specs.Acts.{Act}
use Rattle.mt_endpoint.specs.Said.{Said, Capable, Creates, Created, Brings, Ends, Moves, Moved, said}
use Rattle.mt_endpoint.specs.Channels.{with_said, has_place, table, channel, is_open_in, is_closed, is_closed_in, is_known, is_known_in}
use Rattle.mt_endpoint.specs.Moving.{inward}
use Rattle.mt_endpoint.specs.Holding.{channel_in}
use Rattle.mt_endpoint.specs.Faults.{Why, Unexpected, Channel, TooLateOnMain, when, is_taken_in, is_moved, unknown_fault, late_fault, data_fault, because, answer_fault, said_fault, release_fault_of}
use Rattle.mt_endpoint.proofs.ChannelPdus.{brings_to, is_data, pieces}
use Rattle.mt_endpoint.proofs.HeldPdus.{ends}

-- what the table has where a PDU that says this comes without a fault
abbrev pub Quiet : Role → Trace Act → Said → Type 0
Quiet role t (Capable version) = Unit {0}
Quiet role t (Creates id name) = is_known role id t ≡ false
Quiet role t (Created id status) = channel role id t ≡ state.Asked
Quiet role t (Brings id) = is_taken_in (channel role id t) ≡ true
Quiet role t (Ends id) = is_known role id t ≡ true
Quiet role t (Moves lists) = Unit {0}
Quiet role t (Moved kinds) = Unit {0}

taken_is_known : (s : ChannelState) → is_taken_in s ≡ true → is_known_in s ≡ true
taken_is_known state.Unknown h = cc
taken_is_known state.Asked h = cc
taken_is_known state.Open h = refl
taken_is_known state.Refused h = cc
taken_is_known state.Closed h = refl

closed_is_known : (s : ChannelState) → is_closed_in s ≡ true → is_known_in s ≡ true
closed_is_known state.Unknown h = cc
closed_is_known state.Asked h = cc
closed_is_known state.Open h = cc
closed_is_known state.Refused h = cc
closed_is_known state.Closed h = refl

pub open_is_known : (s : ChannelState) → is_open_in s ≡ true → is_known_in s ≡ true
open_is_known state.Unknown h = cc
open_is_known state.Asked h = cc
open_is_known state.Open h = refl
open_is_known state.Refused h = cc
open_is_known state.Closed h = cc

-- a channel that takes data and isn't closed is open
pub taken_is_open : (s : ChannelState) → is_taken_in s ≡ true → is_closed_in s ≡ false → s ≡ state.Open
taken_is_open state.Unknown h k = cc
taken_is_open state.Asked h k = cc
taken_is_open state.Open h k = refl
taken_is_open state.Refused h k = cc
taken_is_open state.Closed h k = cc

when_none : (b : Bool) (why : Why) → when b why ≡ None → b ≡ false
when_none true why h = cc
when_none false why h = refl

not_false : (b : Bool) → not b ≡ false → b ≡ true
not_false true h = refl
not_false false h = cc

pub or_first : (a b : Option Why) → option_or a b ≡ None → a ≡ None
or_first None b h = refl
or_first (Some why) b h = cc

pub or_second : (a b : Option Why) → option_or a b ≡ None → b ≡ None
or_second None b h = h
or_second (Some why) b h = cc

pub known_taken : (role : Role) (t : Trace Act) (id : ℕ) → unknown_fault role t id ≡ None → is_taken_in (channel role id t) ≡ true
known_taken role t id h = not_false (is_taken_in (channel role id t)) (when_none (not (is_taken_in (channel role id t))) (Channel (refusal.UnknownChannel id)) h)

asked_only : (s : ChannelState) (id : ℕ) → answer_fault s id ≡ None → s ≡ state.Asked
asked_only state.Unknown id h = cc
asked_only state.Asked id h = refl
asked_only state.Open id h = cc
asked_only state.Refused id h = cc
asked_only state.Closed id h = cc

pub quiet_heard : (role : Role) (t : Trace Act) (pdu : Pdu) (what : Said) → said_fault role t pdu what ≡ None → Quiet role t what
quiet_heard role t pdu (Capable version) h = tt
quiet_heard Server t pdu (Creates id name) h = absurd (let no : Some Unexpected ≡ None = h in cc)
quiet_heard Client t pdu (Creates id name) h = when_none (is_known Client id t) (Channel (refusal.KnownChannel id)) h
quiet_heard Server t pdu (Created id status) h = asked_only (channel Server id t) id h
quiet_heard Client t pdu (Created id status) h = absurd (let no : Some Unexpected ≡ None = h in cc)
quiet_heard role t pdu (Brings id) h = known_taken role t id (or_first (unknown_fault role t id) _ h)
quiet_heard role t pdu (Ends id) h = taken_is_known (channel role id t) (known_taken role t id (or_first (unknown_fault role t id) _ h))
quiet_heard role t pdu (Moves lists) h = tt
quiet_heard role t pdu (Moved kinds) h = tt

and_not : (b c : Bool) → c ≡ false → b && not c ≡ false → b ≡ false
and_not true true e h = cc
and_not true false e h = cc
and_not false c e h = refl

-- data on the main stream of a channel that isn't closed come ahead of the word
pub not_late : (role : Role) (t : Trace Act) (pdu : Pdu) (id : ℕ) → said_fault role t pdu (Brings id) ≡ None → is_closed role id t ≡ false → is_moved (inward id t) ≡ false
not_late role t pdu id h live =
    let late : late_fault role t id (is_moved (inward id t)) ≡ None = or_first (late_fault role t id (is_moved (inward id t))) (data_fault role t id pdu) (or_second (unknown_fault role t id) (option_or (late_fault role t id (is_moved (inward id t))) (data_fault role t id pdu)) h) in
    and_not (is_moved (inward id t)) (is_closed role id t) live (when_none (is_moved (inward id t) && not (is_closed role id t)) (TooLateOnMain id) late)

accepted : (s : ChannelState) (id : ℕ) (part : _) (pdu : Pdu) → because (refusal_in s id part pdu) ≡ None → is_taken_in s ≡ true
accepted state.Unknown id part pdu h = cc
accepted state.Asked id part pdu h = cc
accepted state.Open id part pdu h = refl
accepted state.Refused id part pdu h = cc
accepted state.Closed id part pdu h = refl

pub quiet_due : (role : Role) (t : Trace Act) (pdu : Pdu) (what : Said) (id : ℕ) → channel_in what ≡ Some id → is_known role id t ≡ true → release_fault_of role t pdu what ≡ None → Quiet role t what
quiet_due role t pdu (Capable version) id ch known h = tt
quiet_due role t pdu (Creates made name) id ch known h = absurd (let no : None ≡ Some id = ch in cc)
quiet_due role t pdu (Created made status) id ch known h = absurd (let no : None ≡ Some id = ch in cc)
quiet_due role t pdu (Brings made) id ch known h = accepted (channel role made t) made (under_way (channels.arrived (table role t) made)) pdu h
quiet_due role t pdu (Ends made) id ch known h = let same : made ≡ id = cc in ap (λ x. is_known role x t) same ∙ known
quiet_due role t pdu (Moves lists) id ch known h = tt
quiet_due role t pdu (Moved kinds) id ch known h = tt

-- ---- states

abbrev pub after_said : Role → Trace Act → Pdu → Said → Trace Change
after_said role t pdu what = with_said role pdu what (table role t)

pub contra : {A : Type 0} (s : ChannelState) → is_closed_in s ≡ true → is_known_in s ≡ false → A
contra s h k = absurd (let no : true ≡ false = sym (closed_is_known s h) ∙ k in cc)

pub closed_said : (role : Role) (id : ℕ) (t : Trace Act) (pdu : Pdu) (what : Said) → Quiet role t what → is_closed role id t ≡ true → is_closed_in (channels.state (after_said role t pdu what) id) ≡ true
closed_said role id t pdu (Capable version) q h = h
closed_said Server id t pdu (Creates made name) q h = h
closed_said Client id t pdu (Creates made name) q h = by_place (has_place (table Client t)) where
  by_test : (b : Bool) → eqb made id ≡ b → is_closed_in (cond b (channels.answered 0) (cond b state.Asked (channel Client id t))) ≡ true
  by_test true e = let same : made ≡ id = eqb-true made id e in contra (channel Client id t) h (ap (λ x. is_known Client x t) (sym same) ∙ q)
  by_test false e = h

  by_place : (b : Bool) → is_closed_in (channels.state (cond b (table Client t ▷ Made made name ▷ Answered made 0) (table Client t)) id) ≡ true
  by_place true = by_test (eqb made id) refl
  by_place false = h
closed_said role id t pdu (Created made status) q h = by_test (eqb made id) refl where
  by_test : (b : Bool) → eqb made id ≡ b → is_closed_in (cond b (channels.answered status) (channel role id t)) ≡ true
  by_test true e =
      let same : made ≡ id = eqb-true made id e in
      let is : channel role id t ≡ state.Asked = ap (λ x. channel role x t) (sym same) ∙ q in
      absurd (let no : true ≡ false = sym h ∙ ap is_closed_in is in cc)
  by_test false e = h
closed_said role id t pdu (Brings made) q h = h
closed_said role id t pdu (Ends made) q h = by_test (eqb made id) where
  by_test : (b : Bool) → is_closed_in (cond b state.Closed (channel role id t)) ≡ true
  by_test true = refl
  by_test false = h
closed_said role id t pdu (Moves lists) q h = h
closed_said role id t pdu (Moved kinds) q h = h

pub not_ended : (b : Bool) (s : ChannelState) → is_closed_in (cond b state.Closed s) ≡ false → b ≡ false
not_ended true s h = cc
not_ended false s h = refl

pub not_closed_said : (role : Role) (id : ℕ) (t : Trace Act) (pdu : Pdu) (what : Said) → is_closed_in (channels.state (after_said role t pdu what) id) ≡ false → ends id what ≡ false
not_closed_said role id t pdu (Capable version) h = refl
not_closed_said role id t pdu (Creates made name) h = refl
not_closed_said role id t pdu (Created made status) h = refl
not_closed_said role id t pdu (Brings made) h = refl
not_closed_said role id t pdu (Ends made) h = not_ended (eqb made id) (channel role id t) h
not_closed_said role id t pdu (Moves lists) h = refl
not_closed_said role id t pdu (Moved kinds) h = refl

answered_known : (status : ℕ) → is_known_in (channels.answered status) ≡ true
answered_known status = by_test (nat_lt status 2147483648) where
  by_test : (b : Bool) → is_known_in (cond b state.Open state.Refused) ≡ true
  by_test true = refl
  by_test false = refl

pub known_cond : (b : Bool) (new old : ChannelState) → is_known_in new ≡ true → is_known_in old ≡ true → is_known_in (cond b new old) ≡ true
known_cond true new old h k = h
known_cond false new old h k = k

pub known_said : (role : Role) (id : ℕ) (t : Trace Act) (pdu : Pdu) (what : Said) → is_known role id t ≡ true → is_known_in (channels.state (after_said role t pdu what) id) ≡ true
known_said role id t pdu (Capable version) h = h
known_said Server id t pdu (Creates made name) h = h
known_said Client id t pdu (Creates made name) h = by_place (has_place (table Client t)) where
  by_place : (b : Bool) → is_known_in (channels.state (cond b (table Client t ▷ Made made name ▷ Answered made 0) (table Client t)) id) ≡ true
  by_place true = known_cond (eqb made id) (channels.answered 0) (cond (eqb made id) state.Asked (channel Client id t)) (answered_known 0) (known_cond (eqb made id) state.Asked (channel Client id t) refl h)
  by_place false = h
known_said role id t pdu (Created made status) h = known_cond (eqb made id) (channels.answered status) (channel role id t) (answered_known status) h
known_said role id t pdu (Brings made) h = h
known_said role id t pdu (Ends made) h = known_cond (eqb made id) state.Closed (channel role id t) refl h
known_said role id t pdu (Moves lists) h = h
known_said role id t pdu (Moved kinds) h = h

-- ---- what arrives

arrived_said : (role : Role) (id : ℕ) (t : Trace Act) (pdu : Pdu) (what : Said) → channels.arrived (after_said role t pdu what) id ≡ channels.arrived (table role t) id ++ cond (brings_to id what) (brought (channel role id t) pdu) []
arrived_said role id t pdu (Capable version) = sym (append-nil (channels.arrived (table role t) id))
arrived_said Server id t pdu (Creates made name) = sym (append-nil (channels.arrived (table Server t) id))
arrived_said Client id t pdu (Creates made name) = by_place (has_place (table Client t)) where
  by_place : (b : Bool) → channels.arrived (cond b (table Client t ▷ Made made name ▷ Answered made 0) (table Client t)) id ≡ channels.arrived (table Client t) id ++ []
  by_place true = sym (append-nil (channels.arrived (table Client t) id))
  by_place false = sym (append-nil (channels.arrived (table Client t) id))
arrived_said role id t pdu (Created made status) = sym (append-nil (channels.arrived (table role t) id))
arrived_said role id t pdu (Brings made) = by_test (eqb made id) where
  by_test : (b : Bool) → cond b (channels.arrived (table role t) id ++ brought (channel role id t) pdu) (channels.arrived (table role t) id) ≡ channels.arrived (table role t) id ++ cond b (brought (channel role id t) pdu) []
  by_test true = refl
  by_test false = sym (append-nil (channels.arrived (table role t) id))
arrived_said role id t pdu (Ends made) = sym (append-nil (channels.arrived (table role t) id))
arrived_said role id t pdu (Moves lists) = sym (append-nil (channels.arrived (table role t) id))
arrived_said role id t pdu (Moved kinds) = sym (append-nil (channels.arrived (table role t) id))

brought_closed : (s : ChannelState) (pdu : Pdu) → is_closed_in s ≡ true → brought s pdu ≡ []
brought_closed state.Unknown pdu h = refl
brought_closed state.Asked pdu h = refl
brought_closed state.Open pdu h = cc
brought_closed state.Refused pdu h = refl
brought_closed state.Closed pdu h = refl

-- nothing arrives at a closed channel
pub arrived_closed : (role : Role) (id : ℕ) (t : Trace Act) (pdu : Pdu) → is_closed role id t ≡ true → channels.arrived (after_said role t pdu (said pdu)) id ≡ channels.arrived (table role t) id
arrived_closed role id t pdu h =
    arrived_said role id t pdu (said pdu) ∙ ap (λ l. channels.arrived (table role t) id ++ cond (is_data id pdu) l []) (brought_closed (channel role id t) pdu h)
    ∙ ap (λ l. channels.arrived (table role t) id ++ l) (nothing (is_data id pdu)) ∙ append-nil (channels.arrived (table role t) id) where
      nothing : (b : Bool) → cond {A = List Piece} b [] [] ≡ []
      nothing true = refl
      nothing false = refl

-- and at one that isn't closed all data that come without a fault
pub arrived_more : (role : Role) (id : ℕ) (t : Trace Act) (pdu : Pdu) → Quiet role t (said pdu) → is_closed role id t ≡ false → channels.arrived (after_said role t pdu (said pdu)) id ≡ channels.arrived (table role t) id ++ pieces id (pdu ∷ [])
arrived_more role id t pdu q live =
    arrived_said role id t pdu (said pdu) ∙ ap (λ l. channels.arrived (table role t) id ++ l) (by_said (said pdu) q) where
      by_test : (b : Bool) (made : ℕ) → eqb made id ≡ b → is_taken_in (channel role made t) ≡ true → cond b (brought (channel role id t) pdu) [] ≡ flat_map pieces_of (cond b (pdu ∷ []) [])
      by_test true made e taken =
          let same : made ≡ id = eqb-true made id e in
          let is_open : channel role id t ≡ state.Open = taken_is_open (channel role id t) (ap (λ x. is_taken_in (channel role x t)) (sym same) ∙ taken) live in
          ap (λ s. brought s pdu) is_open ∙ sym (append-nil (pieces_of pdu))
      by_test false made e taken = refl

      by_said : (what : Said) → Quiet role t what → cond (brings_to id what) (brought (channel role id t) pdu) [] ≡ flat_map pieces_of (cond (brings_to id what) (pdu ∷ []) [])
      by_said (Capable version) q = refl
      by_said (Creates made name) q = refl
      by_said (Created made status) q = refl
      by_said (Brings made) q = by_test (eqb made id) made refl q
      by_said (Ends made) q = refl
      by_said (Moves lists) q = refl
      by_said (Moved kinds) q = refl
