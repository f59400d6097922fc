-- A channel that takes data goes on to take them, or is closed; what is held is of such channels.
use Rattle.std.proofs.Common.{◌≡◌, ℕ, ◌+◌, Bool, true, false, not, eqb, cond, List, ◌∷◌, length, Option, Some, None, refl, sym, ap, subst, ◌∙◌}
use Rattle.std.proofs.lemmas.Bool.{eqb-true}
use Rattle.mt_base.specs.declared.kinds.Kind.{Kind}
use Rattle.mt_base.specs.declared.kinds.Role.{Role}
use Rattle.mt_base.specs.declared.kinds.Role.TheVariants.{Server, Client}
use Rattle.mt_base.specs.Trace.{Trace, Start, ◌▷◌}
use Rattle.dvc_pdus.specs.Value.{Pdu}
use Rattle.dvc_channels.specs.declared.answers.ChannelState.{ChannelState}
use Rattle.dvc_channels.specs.declared.answers.ChannelState.TheVariants as state
use Rattle.dvc_channels.specs.declared.answers.ChannelRefusal.TheVariants as refusal
use Rattle.dvc_channels.specs.Acts.{Made, Answered}
use Rattle.dvc_channels.specs.Acts as channels
use Rattle.mt_endpoint.specs.Acts.{Act}
use Rattle.mt_endpoint.specs.Said.{Said, Capable, Creates, Created, Brings, Ends, Moves, Moved, said}
use Rattle.mt_endpoint.specs.Channels.{table, channel, has_place, is_open_in}
use Rattle.mt_endpoint.specs.Holding.{Held, held, only, channel_of}
use Rattle.mt_endpoint.specs.Faults.{Channel, when, is_taken_in, unknown_fault}
use Rattle.mt_endpoint.specs.Alone.{EndOfActs}
use Rattle.mt_endpoint.proofs.Fitting.{Fits}
use Rattle.mt_endpoint.proofs.Tables.{Quiet, after_said}
use Rattle.mt_endpoint.proofs.Reading.{Seen, hears_it, draws_it, releases, discards, closes, opens, takes, still, seen}
use Rattle.mt_endpoint.proofs.Closing.{quiet_hears, quiet_releases}
use Rattle.mt_endpoint.proofs.Known.{AllOf, OpenHas, all_only, all_later, all_after}
use Rattle.mt_endpoint.proofs.Responding.{new_id}
use Rattle.mt_endpoint.proofs.Late.{fits_act}
use Rattle.mt_endpoint.proofs.Taken.{taken_known, new_taken, closed_taken}

taken_said : (role : Role) (id : ℕ) (t : Trace Act) (pdu : Pdu) (what : Said) → Quiet role t what → is_taken_in (channel role id t) ≡ true → is_taken_in (channels.state (after_said role t pdu what) id) ≡ true
taken_said role id t pdu (Capable version) q h = h
taken_said Server id t pdu (Creates made name) q h = h
taken_said Client id t pdu (Creates made name) q h = by_place (has_place (table Client t)) where
  by_test : (b : Bool) → eqb made id ≡ b → is_taken_in (cond b (channels.answered 0) (cond b state.Asked (channel Client id t))) ≡ true
  by_test true e = refl
  by_test false e = h

  by_place : (b : Bool) → is_taken_in (channels.state (cond b (table Client t ▷ Made made name ▷ Answered made 0) (table Client t)) id) ≡ true
  by_place true = by_test (eqb made id) refl
  by_place false = h
taken_said role id t pdu (Created made status) q h = by_test (eqb made id) refl where
  by_test : (b : Bool) → eqb made id ≡ b → is_taken_in (cond b (channels.answered status) (channel role id t)) ≡ true
  by_test true e =
      let is : channel role id t ≡ state.Asked = ap (λ x. channel role x t) (sym (eqb-true made id e)) ∙ q in absurd (let no : true ≡ false = sym h ∙ ap is_taken_in is in cc)
  by_test false e = h
taken_said role id t pdu (Brings made) q h = h
taken_said role id t pdu (Ends made) q h = closed_taken (eqb made id) (channel role id t) h
taken_said role id t pdu (Moves lists) q h = h
taken_said role id t pdu (Moved kinds) q h = h

opened_taken : (role : Role) (t : Trace Act) (made id : ℕ) → EndOfActs role t → role ≡ Server → made ≡ length (channels.ids (table Server t)) + 1 → is_taken_in (channel role id t) ≡ true → is_taken_in (cond (eqb made id) state.Asked (channel role id t)) ≡ true
opened_taken Client t made id e is n h = absurd (let no : Client ≡ Server = is in cc)
opened_taken Server t made id e is n h = new_taken (eqb made id) (channel Server id t) (new_id t made id e n (taken_known (channel Server id t) h)) h

taken_seen : (role : Role) (id : ℕ) (t : Trace Act) (act : Act) → Seen role t act → Fits role t act → EndOfActs role t → is_taken_in (channel role id t) ≡ true → is_taken_in (channel role id (t ▷ act)) ≡ true
taken_seen role id t _ (hears_it pdu) f e h = taken_said role id t pdu (said pdu) (quiet_hears role t pdu f) h
taken_seen role id t _ (draws_it kind at bytes pdu) f e h = h
taken_seen role id t _ (releases kind at bytes pdu) f e h = taken_said role id t pdu (said pdu) (quiet_releases role t kind at bytes pdu f) h
taken_seen role id t _ (discards at bytes pdu) f e h = h
taken_seen role id t _ (closes made) f e h = closed_taken (eqb made id) (channel role id t) h
taken_seen role id t _ (opens made name) f e h = opened_taken role t made id e f.0.0 f.0.2 h
taken_seen role id t _ (takes made message) f e h = h
taken_seen role id t _ (still act a b c same_table d g) f e h = ap (λ T. is_taken_in (channels.state T id)) same_table ∙ h

-- ---- what is held

abbrev pub OfTaken : Role → Trace Act → Option ℕ → Type 0
OfTaken role t None = Unit {0}
OfTaken role t (Some id) = is_taken_in (channel role id t) ≡ true

pub taken_later : (role : Role) (t : Trace Act) (act : Act) → EndOfActs role (t ▷ act) → (id : Option ℕ) → OfTaken role t id → OfTaken role (t ▷ act) id
taken_later role t act e None h = tt
taken_later role t act e (Some id) h = taken_seen role id t act (seen role t act) (fits_act role t act e.1) e.2 h

pub open_takes : (s : ChannelState) → is_open_in s ≡ true → is_taken_in s ≡ true
open_takes state.Unknown h = h
open_takes state.Asked h = h
open_takes state.Open h = refl
open_takes state.Refused h = h
open_takes state.Closed h = refl

of_open : (role : Role) (t : Trace Act) → OpenHas role t (OfTaken role t)
of_open role t None h = tt
of_open role t (Some id) h = open_takes (channel role id t) h

held_taken : (role : Role) (kind : Kind) (t : Trace Act) → EndOfActs role t → AllOf (OfTaken role t) (held role kind t)
held_taken role kind Start e = tt
held_taken role kind (t ▷ act) e =
    all_later (OfTaken role t) (OfTaken role (t ▷ act)) (taken_later role t act e) (held role kind (t ▷ act)) (all_after role kind t act (OfTaken role t) (of_open role t) (held role kind t) (held_taken role kind t e.2))

pub first_known : (role : Role) (kind : Kind) (t : Trace Act) (id made : ℕ) (first : Held) (rest : List Held) → EndOfActs role t → only id (held role kind t) ≡ first ∷ rest → channel_of first.pdu ≡ Some made → unknown_fault role t made ≡ None
first_known role kind t id made first rest e queue is =
    let all = subst (AllOf (OfTaken role t)) queue (all_only (OfTaken role t) id (held role kind t) (held_taken role kind t e)) in
    ap (λ b. when (not b) (Channel (refusal.UnknownChannel made))) (subst (OfTaken role t) is all.0)
