-- Data of the other end on the main stream are taken: what arrived of a channel that has not moved is what
-- was read of it, and what comes next was sent next.
use Rattle.std.proofs.Common.{◌≡◌, ℕ, Bool, true, false, not, eqb, cond, [], ◌∷◌, ◌++◌, flat_map, None, refl, sym, ap, subst, ◌∙◌, append_assoc, append-nil, eq-eqb}
use Rattle.std.proofs.lemmas.Bool.{eqb-true}
use Rattle.std.specs.Option.{option_or}
use Rattle.mt_base.specs.declared.kinds.Role.{Role}
use Rattle.mt_base.specs.declared.kinds.Role.TheVariants.{Server, Client}
use Rattle.mt_base.specs.Ends.{other}
use Rattle.mt_base.specs.Trace.{Trace, Start, ◌▷◌}
use Rattle.dvc_pdus.specs.Value.{Pdu}
use Rattle.dvc_channels.specs.declared.answers.ChannelState.{ChannelState}
use Rattle.dvc_channels.specs.declared.answers.ChannelState.TheVariants as state
use Rattle.dvc_channels.specs.Pieces.{pieces_of, under_way}
use Rattle.dvc_channels.specs.Acts.{data_refusal, refusal_in}
use Rattle.dvc_channels.specs.Acts as channels
use Rattle.soft_sync.specs.declared.kinds.Path.TheVariants.{Main}
use Rattle.soft_sync.specs.Words.{path_of}
use Rattle.mt_endpoint.specs.Acts.{Act, Opens, Takes, Closes, Hears, Draws, Releases, Discards, Carried, Heard, TunnelAsked, TunnelAnswered, Spoken}
use Rattle.mt_endpoint.specs.Said.{Said, Capable, Creates, Created, Brings, Ends, Moves, Moved, said}
use Rattle.mt_endpoint.specs.Channels.{table, channel, is_closed, is_closed_in, is_ready}
use Rattle.mt_endpoint.specs.Moving.{all_told, made_by, inward}
use Rattle.mt_endpoint.specs.Faults.{because, data_fault, unknown_fault, late_fault, said_fault, main_fault, is_moved, is_capable}
use Rattle.mt_endpoint.specs.World.{hears, sent_on}
use Rattle.mt_endpoint.specs.Meeting.{Meet, Comes, is_control, is_for_channel}
use Rattle.mt_endpoint.proofs.ChannelPdus.{spoken_pdus, spoken_pdus-append, is_data, brings_to, pieces, pieces-append, out}
use Rattle.mt_endpoint.proofs.Fitting.{Fits, Fitting}
use Rattle.mt_endpoint.proofs.Items.{is_at}
use Rattle.mt_endpoint.proofs.Sent.{cut}
use Rattle.mt_endpoint.proofs.Words.{word}
use Rattle.mt_endpoint.proofs.Tables.{taken_is_open, known_taken, arrived_more}
use Rattle.mt_endpoint.proofs.Reading.{heard, heard_new, heard-step, Seen, hears_it, draws_it, releases, discards, closes, opens, takes, still, seen, inward_heard}
use Rattle.mt_endpoint.proofs.Closing.{quiet_hears, quiet_releases, closed_stays}
use Rattle.mt_endpoint.proofs.Arriving.{word_later, pieces_not, data_mine}
use Rattle.mt_endpoint.proofs.Coming.{other_due, moved_word}
use Rattle.mt_endpoint.proofs.Safety.{pieces_sent}
use Rattle.mt_endpoint.proofs.Controls.{ready_case, told_ready, client_fine, server_fine}
use Rattle.mt_endpoint.proofs.Hearing.{ready_is}
use Rattle.mt_endpoint.proofs.Late.{fitting, data_in_time, not_late}
use Rattle.mt_endpoint.proofs.Taken.{data_known, close_fine}
use Rattle.mt_endpoint.proofs.NextPiece.{sent_taken}

-- ---- what arrived ahead of the move

-- a channel that moved stays moved
moved_stays : (role : Role) (id : ℕ) (t : Trace Act) (act : Act) → Fitting role (t ▷ act) → is_moved (inward id t) ≡ true → is_moved (inward id (t ▷ act)) ≡ true
moved_stays role id t act f h =
    let w = moved_word (word (other role) (all_told made_by t) id (heard t)) (ap is_moved (sym (inward_heard role t id f.1)) ∙ h) in
    let later = word_later role id t act (heard t) (heard (t ▷ act)) (heard_new act, heard-step t act) w in
    ap is_moved (inward_heard role (t ▷ act) id f ∙ ap path_of later.1)

not_before : (b c : Bool) → (b ≡ true → c ≡ true) → c ≡ false → b ≡ false
not_before true c h k = absurd (let no : true ≡ false = sym (h refl) ∙ k in cc)
not_before false c h k = refl

nothing_heard : (id : ℕ) (t : Trace Act) (act : Act) → heard_new act ≡ [] → pieces id (heard (t ▷ act)) ≡ pieces id (heard t)
nothing_heard id t act h = ap (pieces id) (heard-step t act ∙ ap (λ l. heard t ++ l) h ∙ append-nil (heard t))

-- an act of a channel that is not closed and has not moved
unmoved : (role : Role) (id : ℕ) (t : Trace Act) (act : Act) → Seen role t act → Fits role t act → is_closed role id t ≡ false → is_moved (inward id t) ≡ false → channels.arrived (table role t) id ≡ pieces id (heard t)
    → channels.arrived (table role (t ▷ act)) id ≡ pieces id (heard (t ▷ act))
unmoved role id t _ (hears_it pdu) f live away same =
    arrived_more role id t pdu (quiet_hears role t pdu f) live ∙ ap (λ l. l ++ pieces id (pdu ∷ [])) same ∙ sym (pieces-append id (heard t) (pdu ∷ [])) ∙ ap (pieces id) (sym (heard-step t (Hears (Spoken pdu))))
unmoved role id t _ (draws_it kind at bytes pdu) f live away same = same ∙ sym (nothing_heard id t (Draws kind at (Carried bytes pdu)) refl)
unmoved role id t _ (releases kind at bytes pdu) f live away same = by_id (eqb f.0.id id) refl where
  by_id : (b : Bool) → eqb f.0.id id ≡ b → channels.arrived (table role (t ▷ Releases kind at bytes pdu)) id ≡ pieces id (heard (t ▷ Releases kind at bytes pdu))
  by_id true e = absurd (let no : true ≡ false = sym f.0.inward ∙ ap (λ x. is_moved (inward x t)) (eqb-true f.0.id id e) ∙ away in cc)
  by_id false e =
      let off : is_data id pdu ≡ false = data_mine id (said pdu) (other_due id f.0.id pdu f.0.channel_is e) in
      arrived_more role id t pdu (quiet_releases role t kind at bytes pdu f) live ∙ ap (λ l. channels.arrived (table role t) id ++ l) (pieces_not id pdu off) ∙ append-nil (channels.arrived (table role t) id)
      ∙ same ∙ sym (nothing_heard id t (Releases kind at bytes pdu) refl)
unmoved role id t _ (discards at bytes pdu) f live away same = same ∙ sym (nothing_heard id t (Discards at bytes pdu) refl)
unmoved role id t _ (closes made) f live away same = same ∙ sym (nothing_heard id t (Closes made) refl)
unmoved role id t _ (opens made name) f live away same = same ∙ sym (nothing_heard id t (Opens made name) refl)
unmoved role id t _ (takes made message) f live away same = same ∙ sym (nothing_heard id t (Takes made message) refl)
unmoved role id t _ (still act none_heard none_drawn same_held same_table d e) f live away same = ap (λ T. channels.arrived T id) same_table ∙ same ∙ sym (nothing_heard id t act none_heard)

pub arrived_on_main : (role : Role) (id : ℕ) (t : Trace Act) → Fitting role t → is_closed role id t ≡ false → is_moved (inward id t) ≡ false → channels.arrived (table role t) id ≡ pieces id (heard t)
arrived_on_main role id Start f live away = refl
arrived_on_main role id (t ▷ act) f live away =
    let live_before = not_before (is_closed role id t) (is_closed role id (t ▷ act)) (closed_stays role id t act f.0 f.1) live in
    let away_before = not_before (is_moved (inward id t)) (is_moved (inward id (t ▷ act))) (moved_stays role id t act f) away in
    unmoved role id t act (seen role t act) f.0 live_before away_before (arrived_on_main role id t f.1 live_before away_before)

-- ---- what comes next

pub data_pieces : (id : ℕ) (pdu : Pdu) → is_data id pdu ≡ true → pieces id (pdu ∷ []) ≡ pieces_of pdu
data_pieces id pdu h = ap (λ b. flat_map pieces_of (cond b (pdu ∷ []) [])) h ∙ append-nil (pieces_of pdu)

comes_next : (role : Role) (here there : Trace Act) (pdu : Pdu) (id : ℕ) → Meet role here there → (h : Comes role here there (Spoken pdu)) → said pdu ≡ Brings id
    → flat_map pieces_of (cut id (sent_on (is_at Main) id there)) ≡ pieces id (heard here) ++ (pieces_of pdu ++ pieces id (spoken_pdus h.0))
comes_next role here there pdu id m h e =
    let split : out Main (other role) there ≡ heard here ++ (pdu ∷ [] ++ spoken_pdus h.0) =
    ap spoken_pdus (h.1 ∙ append_assoc (hears here) (Spoken pdu ∷ []) h.0) ∙ spoken_pdus-append (hears here) (Spoken pdu ∷ h.0) in
    let mine : is_data id pdu ≡ true = ap (brings_to id) e ∙ eq-eqb id id refl in
    sym (pieces_sent role there id Main (fitting (other role) there m.there_acts)) ∙ ap (pieces id) split ∙ pieces-append id (heard here) (pdu ∷ [] ++ spoken_pdus h.0)
    ∙ ap (λ l. pieces id (heard here) ++ l) (pieces-append id (pdu ∷ []) (spoken_pdus h.0) ∙ ap (λ l. l ++ pieces id (spoken_pdus h.0)) (data_pieces id pdu mine))

-- a closed channel drops data, and an open one takes what follows
pub taken_case : (role : Role) (t : Trace Act) (id : ℕ) (pdu : Pdu) (b : Bool) → is_closed role id t ≡ b → unknown_fault role t id ≡ None → (b ≡ false → data_refusal id (under_way (channels.arrived (table role t) id)) pdu ≡ None) → data_fault role t id pdu ≡ None
taken_case role t id pdu true e known follows = closed_takes (channel role id t) e where
  closed_takes : (s : ChannelState) → is_closed_in s ≡ true → because (refusal_in s id (under_way (channels.arrived (table role t) id)) pdu) ≡ None
  closed_takes state.Unknown h = absurd (let no : false ≡ true = h in cc)
  closed_takes state.Asked h = absurd (let no : false ≡ true = h in cc)
  closed_takes state.Open h = absurd (let no : false ≡ true = h in cc)
  closed_takes state.Refused h = absurd (let no : false ≡ true = h in cc)
  closed_takes state.Closed h = refl
taken_case role t id pdu false e known follows =
    ap (λ s. because (refusal_in s id (under_way (channels.arrived (table role t) id)) pdu)) (taken_is_open (channel role id t) (known_taken role t id known) e) ∙ ap because (follows refl)

pub data_fine : (role : Role) (here there : Trace Act) (pdu : Pdu) (id : ℕ) → Meet role here there → Comes role here there (Spoken pdu) → said pdu ≡ Brings id → data_fault role here id pdu ≡ None
data_fine role here there pdu id m h e =
    taken_case role here id pdu (is_closed role id here) refl (data_known role here there pdu id m h e) (λ live.
    ap (λ l. data_refusal id (under_way l) pdu) (arrived_on_main role id here (fitting role here m.here_acts) live (data_in_time role here there pdu id m h e))
    ∙ sent_taken (is_at Main) (other role) id there (pieces id (heard here)) pdu (pieces id (spoken_pdus h.0)) (fitting (other role) there m.there_acts) (comes_next role here there pdu id m h e))

data_said : (role : Role) (here there : Trace Act) (pdu : Pdu) (id : ℕ) → Meet role here there → Comes role here there (Spoken pdu) → said pdu ≡ Brings id → said_fault role here pdu (said pdu) ≡ None
data_said role here there pdu id m h e =
    let late = not_late role here id (is_moved (inward id here)) (data_in_time role here there pdu id m h e) in
    subst (λ s. said_fault role here pdu s ≡ None) (sym e)
    (ap (λ o. option_or o (option_or (late_fault role here id (is_moved (inward id here))) (data_fault role here id pdu))) (data_known role here there pdu id m h e)
    ∙ ap (λ o. option_or o (data_fault role here id pdu)) late ∙ data_fine role here there pdu id m h e)

data_heard : (role : Role) (here there : Trace Act) (pdu : Pdu) (id : ℕ) → Meet role here there → Comes role here there (Spoken pdu) → said pdu ≡ Brings id → main_fault role here (Spoken pdu) ≡ None
data_heard Server here there pdu id m h e =
    ready_case (is_ready here) (is_capable (said pdu)) (said_fault Server here pdu (said pdu)) (ready_is Server here m.here_acts ∙ told_ready Server here there pdu m h) (λ c. data_said Server here there pdu id m h e)
data_heard Client here there pdu id m h e =
    ready_case (is_ready here) (is_capable (said pdu)) (said_fault Client here pdu (said pdu)) (ready_is Client here m.here_acts ∙ told_ready Client here there pdu m h) (λ c. data_said Client here there pdu id m h e)

-- ---- any frame

control_fine : (role : Role) (here there : Trace Act) (heard : Heard) → Meet role here there → Comes role here there heard → is_control heard ≡ true → main_fault role here heard ≡ None
control_fine Server here there heard m h k = server_fine here there heard m h k
control_fine Client here there heard m h k = client_fine here there heard m h k

spoken_fine : (role : Role) (here there : Trace Act) (pdu : Pdu) (s : Said) → Meet role here there → Comes role here there (Spoken pdu) → said pdu ≡ s → main_fault role here (Spoken pdu) ≡ None
spoken_fine role here there pdu (Brings id) m h e = data_heard role here there pdu id m h e
spoken_fine role here there pdu (Ends id) m h e = close_fine role here there pdu id m h e
spoken_fine role here there pdu (Capable version) m h e = control_fine role here there (Spoken pdu) m h (ap (λ s. not (is_for_channel s)) e)
spoken_fine role here there pdu (Creates id name) m h e = control_fine role here there (Spoken pdu) m h (ap (λ s. not (is_for_channel s)) e)
spoken_fine role here there pdu (Created id status) m h e = control_fine role here there (Spoken pdu) m h (ap (λ s. not (is_for_channel s)) e)
spoken_fine role here there pdu (Moves lists) m h e = control_fine role here there (Spoken pdu) m h (ap (λ s. not (is_for_channel s)) e)
spoken_fine role here there pdu (Moved kinds) m h e = control_fine role here there (Spoken pdu) m h (ap (λ s. not (is_for_channel s)) e)

pub frame_fine : (role : Role) (here there : Trace Act) (heard : Heard) → Meet role here there → Comes role here there heard → main_fault role here heard ≡ None
frame_fine role here there (TunnelAsked id kind cookie) m h = control_fine role here there (TunnelAsked id kind cookie) m h refl
frame_fine role here there (TunnelAnswered id hr) m h = control_fine role here there (TunnelAnswered id hr) m h refl
frame_fine role here there (Spoken pdu) m h = spoken_fine role here there pdu (said pdu) m h refl
