-- Nothing is held of a closed channel.
use Rattle.std.proofs.Common.{◌≡◌, ℕ, Bool, true, false, cond, eqb, nat_lt, List, [], refl, sym, ap, ◌∙◌}
use Rattle.std.proofs.lemmas.Bool.{eqb-true}
use Rattle.mt_base.specs.declared.kinds.Kind.{Kind}
use Rattle.mt_base.specs.declared.kinds.Role.{Role}
use Rattle.mt_base.specs.declared.kinds.Role.TheVariants.{Server, Client}
use Rattle.mt_base.specs.Trace.{Trace, Start, ◌▷◌}
use Rattle.dvc_pdus.specs.Value.{Pdu}
use Rattle.dvc_channels.specs.declared.answers.ChannelState.{ChannelState}
use Rattle.dvc_channels.specs.declared.answers.ChannelState.TheVariants as state
use Rattle.dvc_channels.specs.Acts.{Made, Answered}
use Rattle.dvc_channels.specs.Acts as channels
use Rattle.mt_endpoint.specs.Acts.{Act}
use Rattle.mt_endpoint.specs.Said.{Said, Capable, Creates, Created, Brings, Ends, Moves, Moved, said}
use Rattle.mt_endpoint.specs.Channels.{table, channel, has_place, is_closed, is_closed_in, is_open_in}
use Rattle.mt_base.specs.Ends.{same_kind}
use Rattle.mt_endpoint.specs.Holding.{Held, held, is_held, only, without, without_first, unless_ended, channel_of}
use Rattle.mt_endpoint.proofs.ChannelPdus.{is_mine}
use Rattle.mt_endpoint.proofs.HeldPdus.{ends, none_left}
use Rattle.mt_endpoint.proofs.Tables.{after_said}
use Rattle.mt_endpoint.proofs.Reading.{Seen, hears_it, draws_it, releases, discards, closes, opens, takes, still, seen}
use Rattle.mt_endpoint.proofs.Closing.{held_open, held_none}

-- two answers to one question
clash : {A : Type 0} (b : Bool) → b ≡ true → b ≡ false → A
clash b h k = absurd (let no : true ≡ false = sym h ∙ k in cc)

answered_apart : (status : ℕ) → is_closed_in (channels.answered status) ≡ false
answered_apart status = by_test (nat_lt status 2147483648) where
  by_test : (b : Bool) → is_closed_in (cond b state.Open state.Refused) ≡ false
  by_test true = refl
  by_test false = refl

-- an answer closes nothing
unanswered_closed : (b : Bool) (status : ℕ) (s : ChannelState) → is_closed_in s ≡ false → is_closed_in (cond b (channels.answered status) s) ≡ false
unanswered_closed true status s h = answered_apart status
unanswered_closed false status s h = h

asked_apart : (b : Bool) (s : ChannelState) → is_closed_in s ≡ false → is_closed_in (cond b state.Asked s) ≡ false
asked_apart true s h = refl
asked_apart false s h = h

closed_now : (b : Bool) (s : ChannelState) → is_closed_in (cond b state.Closed s) ≡ true → is_closed_in s ≡ false → b ≡ true
closed_now true s h k = refl
closed_now false s h k = clash (is_closed_in s) h k

-- a PDU that closes the channel is its close
closes_said : (role : Role) (id : ℕ) (t : Trace Act) (pdu : Pdu) (what : Said) → is_closed_in (channels.state (after_said role t pdu what) id) ≡ true → is_closed role id t ≡ false → ends id what ≡ true
closes_said role id t pdu (Capable version) h k = clash (is_closed role id t) h k
closes_said Server id t pdu (Creates made name) h k = clash (is_closed Server id t) h k
closes_said Client id t pdu (Creates made name) h k = by_place (has_place (table Client t)) h where
  by_place : (b : Bool) → is_closed_in (channels.state (cond b (table Client t ▷ Made made name ▷ Answered made 0) (table Client t)) id) ≡ true → false ≡ true
  by_place true n = clash (is_closed_in (cond (eqb made id) (channels.answered 0) (cond (eqb made id) state.Asked (channel Client id t)))) n (unanswered_closed (eqb made id) 0 _ (asked_apart (eqb made id) (channel Client id t) k))
  by_place false n = clash (is_closed Client id t) n k
closes_said role id t pdu (Created made status) h k = clash (is_closed_in (cond (eqb made id) (channels.answered status) (channel role id t))) h (unanswered_closed (eqb made id) status (channel role id t) k)
closes_said role id t pdu (Brings made) h k = clash (is_closed role id t) h k
closes_said role id t pdu (Ends made) h k = closed_now (eqb made id) (channel role id t) h k
closes_said role id t pdu (Moves lists) h k = clash (is_closed role id t) h k
closes_said role id t pdu (Moved kinds) h k = clash (is_closed role id t) h k

without_none : (id made : ℕ) (queue : List Held) → eqb made id ≡ true → only id (without made queue) ≡ []
without_none id made queue e = let same : made ≡ id = eqb-true made id e in ap (λ x. only id (without x queue)) same ∙ none_left id queue

ended_none : (id : ℕ) (what : Said) (queue : List Held) → ends id what ≡ true → only id (unless_ended what queue) ≡ []
ended_none id (Capable version) queue h = absurd (let no : false ≡ true = h in cc)
ended_none id (Creates made name) queue h = absurd (let no : false ≡ true = h in cc)
ended_none id (Created made status) queue h = absurd (let no : false ≡ true = h in cc)
ended_none id (Brings made) queue h = absurd (let no : false ≡ true = h in cc)
ended_none id (Ends made) queue h = without_none id made queue h
ended_none id (Moves lists) queue h = absurd (let no : false ≡ true = h in cc)
ended_none id (Moved kinds) queue h = absurd (let no : false ≡ true = h in cc)

-- an act by which the channel closes
closing_none : (role : Role) (id : ℕ) (kind : Kind) (t : Trace Act) (act : Act) → Seen role t act → is_closed role id (t ▷ act) ≡ true → is_closed role id t ≡ false → only id (held role kind (t ▷ act)) ≡ []
closing_none role id kind t _ (hears_it pdu) h k = ended_none id (said pdu) (held role kind t) (closes_said role id t pdu (said pdu) h k)
closing_none role id kind t _ (draws_it made at bytes pdu) h k = clash (is_closed role id t) h k
closing_none role id kind t _ (releases made at bytes pdu) h k =
    ended_none id (said pdu) (cond (same_kind kind made) (without_first (channel_of pdu) (held role kind t)) (held role kind t)) (closes_said role id t pdu (said pdu) h k)
closing_none role id kind t _ (discards at bytes pdu) h k = clash (is_closed role id t) h k
closing_none role id kind t _ (closes made) h k = without_none id made (held role kind t) (closed_now (eqb made id) (channel role id t) h k)
closing_none role id kind t _ (opens made name) h k = clash (is_closed_in (cond (eqb made id) state.Asked (channel role id t))) h (asked_apart (eqb made id) (channel role id t) k)
closing_none role id kind t _ (takes made message) h k = clash (is_closed role id t) h k
closing_none role id kind t _ (still act a b c same_table d e) h k = clash (is_closed role id t) (ap (λ T. is_closed_in (channels.state T id)) (sym same_table) ∙ h) k

open_apart : (s : ChannelState) → is_open_in s ≡ true → is_closed_in s ≡ false
open_apart state.Unknown h = refl
open_apart state.Asked h = refl
open_apart state.Open h = refl
open_apart state.Refused h = refl
open_apart state.Closed h = absurd (let no : false ≡ true = h in cc)

-- what is pulled of a closed channel is not held
not_held : (role : Role) (id : ℕ) (kind : Kind) (t : Trace Act) (bytes : List ℕ) (pdu : Pdu) (b : Bool) → is_mine id pdu ≡ b → is_held role kind t bytes pdu (held role kind t) ≡ true → is_closed role id t ≡ true → b ≡ false
not_held role id kind t bytes pdu true mine kept closed = clash (is_closed role id t) closed (open_apart (channel role id t) (held_open role kind t id bytes pdu (held role kind t) kept mine))
not_held role id kind t bytes pdu false mine kept closed = refl

closed_step : (role : Role) (id : ℕ) (kind : Kind) (t : Trace Act) (act : Act) (b : Bool) → is_closed role id t ≡ b → (is_closed role id t ≡ true → only id (held role kind t) ≡ []) → is_closed role id (t ▷ act) ≡ true → only id (held role kind (t ▷ act)) ≡ []
closed_step role id kind t act true e before h =
    held_none role id kind t act (seen role t act) (λ made at bytes pdu same k kept. not_held role id kind t bytes pdu (is_mine id pdu) refl kept e) (before e)
closed_step role id kind t act false e before h = closing_none role id kind t act (seen role t act) h e

pub closed_none : (role : Role) (id : ℕ) (kind : Kind) (t : Trace Act) → is_closed role id t ≡ true → only id (held role kind t) ≡ []
closed_none role id kind Start h = refl
closed_none role id kind (t ▷ act) h = closed_step role id kind t act (is_closed role id t) refl (λ e. closed_none role id kind t e) h
