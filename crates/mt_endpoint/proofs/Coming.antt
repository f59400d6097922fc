-- What arrived of a channel, act by act.
use Rattle.std.proofs.Common.{◌≡◌, inl, inr, ℕ, Bool, true, false, eqb, cond, List, [], ◌∷◌, ◌++◌, Option, None, Some, refl, sym, ap, subst, ◌∙◌, append_assoc, append-nil}
use Rattle.std.proofs.lemmas.Bool.{eqb-true}
use Rattle.mt_base.specs.declared.kinds.Role.{Role}
use Rattle.mt_base.specs.declared.kinds.Kind.{Kind}
use Rattle.mt_base.specs.declared.kinds.Kind.TheVariants.{Reliable, Lossy}
use Rattle.mt_base.specs.Ends.{other}
use Rattle.mt_base.specs.Trace.{Trace, Start, ◌▷◌}
use Rattle.dvc_pdus.specs.Value.{Pdu}
use Rattle.dvc_channels.specs.Acts as channels
use Rattle.soft_sync.specs.Words.{path_of}
use Rattle.mt_endpoint.specs.Acts.{Act, Opens, Takes, Closes, Releases, Discards}
use Rattle.mt_endpoint.specs.Said.{said}
use Rattle.mt_endpoint.specs.Channels.{table, channel, is_closed}
use Rattle.mt_base.specs.Ends.{same_kind}
use Rattle.mt_endpoint.specs.Moving.{all_told, made_by, inward}
use Rattle.mt_endpoint.specs.Holding.{Held, held, channel_of, is_of, only, without_first}
use Rattle.mt_endpoint.specs.Faults.{is_moved}
use Rattle.mt_base.specs.Prefix.{IsPickOf, none, passed}
use Rattle.mt_base.proofs.Prefixes.{front-same, pick-same, pick-append, pick-trans, nothing_first}
use Rattle.mt_endpoint.proofs.ChannelPdus.{of, is_mine, is_data, pieces, pieces-append}
use Rattle.mt_endpoint.proofs.Words.{word}
use Rattle.mt_endpoint.proofs.Fitting.{IsDue, Fits, Fitting}
use Rattle.mt_endpoint.proofs.HeldPdus.{pdus, only-without, only-first, first_gone, ended_apart}
use Rattle.mt_endpoint.proofs.Tables.{not_ended, not_closed_said, arrived_more}
use Rattle.mt_endpoint.proofs.Reading.{heard, drawn, heard_new, drawn_new, heard-step, Seen, hears_it, draws_it, releases, discards, closes, opens, takes, still, seen, inward_heard}
use Rattle.mt_endpoint.proofs.Closing.{undrawn_held, quiet_releases}
use Rattle.mt_endpoint.proofs.Arriving.{Passes, passes_at, Came, of_drawn-step, undrawn, once_closed, no_piece, no_pull, hears_any, pulled, pieces_not, data_mine}

-- a PDU of another channel is let go
pub other_due : (id made : ℕ) (pdu : Pdu) → channel_of pdu ≡ Some made → eqb made id ≡ false → is_mine id pdu ≡ false
other_due id made pdu ch off = ap (is_of id) ch ∙ off

other_first : (id made : ℕ) (pdu : Pdu) (b : Bool) (queue : List Held) → channel_of pdu ≡ Some made → eqb made id ≡ false → only id (cond b (without_first (channel_of pdu) queue) queue) ≡ only id queue
other_first id made pdu true queue ch off = ap (λ c. only id (without_first c queue)) ch ∙ only-first id made queue off
other_first id made pdu false queue ch off = refl

same_is : (kind made : Kind) → same_kind kind made ≡ true → kind ≡ made
same_is Reliable Reliable h = refl
same_is Lossy Lossy h = refl
same_is Reliable Lossy h = cc
same_is Lossy Reliable h = cc

pub moved_word : (o : Option Kind) → is_moved (path_of o) ≡ true → (kind : Kind) × (o ≡ Some kind)
moved_word None h = absurd (let no : false ≡ true = h in cc)
moved_word (Some kind) h = (kind, refl)

heard_same : (t : Trace Act) (act : Act) → heard_new act ≡ [] → heard (t ▷ act) ≡ heard t
heard_same t act h = heard-step t act ∙ ap (λ l. heard t ++ l) h ∙ append-nil (heard t)

-- what is held of the channel, where a PDU of it is due
queue_of : (role : Role) (id : ℕ) (kind made : Kind) (t : Trace Act) (pdu : Pdu) → (d : IsDue role t made pdu) → d.id ≡ id → kind ≡ made → only id (held role kind t) ≡ d.first ∷ d.rest
queue_of role id kind made t pdu d same is = ap (λ k. only id (held role k t)) is ∙ ap (λ x. only x (held role made t)) (sym same) ∙ d.queue_is

rest_of : (role : Role) (id : ℕ) (kind : Kind) (t : Trace Act) (pdu : Pdu) (first : Held) (rest : List Held) → first.pdu ≡ pdu → only id (held role kind t) ≡ first ∷ rest → is_closed role id t ≡ false → (c : Came role id kind t) → c.rest ≡ pdu ∷ pdus rest
rest_of role id kind t pdu first rest is queue live c = c.all_held live ∙ ap pdus queue ∙ ap (λ p. p ∷ pdus rest) is

mine_released : (role : Role) (id : ℕ) (kind made : Kind) (t : Trace Act) (at : ℕ) (bytes : List ℕ) (pdu : Pdu) → (fits : Fits role t (Releases made at bytes pdu)) → Fitting role t → is_closed role id t ≡ false → fits.0.id ≡ id → same_kind kind made ≡ true → Came role id kind t → Came role id kind (t ▷ Releases made at bytes pdu)
mine_released role id kind made t at bytes pdu fits f live same e c =
    let d = fits.0 in
    let queue : only id (held role kind t) ≡ d.first ∷ d.rest = queue_of role id kind made t pdu d same (same_is kind made e) in
    let left : c.rest ≡ pdu ∷ pdus d.rest = rest_of role id kind t pdu d.first d.rest d.pdu_is queue live c in
    let moved : is_moved (path_of (word (other role) (all_told made_by t) id (heard t))) ≡ true = ap is_moved (sym (inward_heard role t id f)) ∙ ap (λ x. is_moved (inward x t)) (sym same) ∙ d.inward in
    let w = moved_word (word (other role) (all_told made_by t) id (heard t)) moved in
    let act : Act = Releases made at bytes pdu in
    let now : heard (t ▷ act) ≡ heard t = heard_same t act refl in record {
      hs = heard (t ▷ act);
      ds = c.ds ++ pdu ∷ [];
      rest = pdus d.rest;
      heard_are = front-same (heard (t ▷ act));
      drawn_are =
          passes_at kind (c.ds ++ c.rest) ((c.ds ++ pdu ∷ []) ++ pdus d.rest) (of id (drawn kind t)) (of id (drawn kind (t ▷ act))) (ap (λ l. c.ds ++ l) left ∙ sym (append_assoc c.ds (pdu ∷ []) (pdus d.rest))) (sym (undrawn kind id t act refl)) c.drawn_are;
      arrived_are =
          arrived_more role id t pdu (quiet_releases role t made at bytes pdu fits) live
          ∙ ap (λ l. l ++ pieces id (pdu ∷ [])) (c.arrived_are ∙ ap (λ l. pieces id l ++ pieces id c.ds) (c.all_heard live ∙ sym now))
          ∙ append_assoc (pieces id (heard (t ▷ act))) (pieces id c.ds) (pieces id (pdu ∷ []))
          ∙ ap (λ l. pieces id (heard (t ▷ act)) ++ l) (sym (pieces-append id c.ds (pdu ∷ [])));
      word_is = inr (w.0, ap (λ l. word (other role) l id (heard (t ▷ act))) (append-nil (all_told made_by t)) ∙ ap (word (other role) (all_told made_by t) id) now ∙ w.1);
      all_heard = λ g. refl;
      all_held = λ g. ap pdus (sym (ended_apart id (said pdu) (cond (same_kind kind made) (without_first (channel_of pdu) (held role kind t)) (held role kind t)) (not_closed_said role id t pdu (said pdu) g)
          ∙ ap (λ b. only id (cond b (without_first (channel_of pdu) (held role kind t)) (held role kind t))) e
          ∙ ap (λ ch. only id (without_first ch (held role kind t))) (d.channel_is ∙ ap (λ x. Some x) same) ∙ first_gone id (held role kind t) d.first d.rest queue));
    }

-- the channel has nothing in another tunnel
abbrev pub Only : Kind → ℕ → Trace Act → Type 0
Only kind id t = (made : Kind) → same_kind kind made ≡ false → of id (drawn made t) ≡ []

released_any : (role : Role) (id : ℕ) (kind made : Kind) (t : Trace Act) (at : ℕ) (bytes : List ℕ) (pdu : Pdu) → (fits : Fits role t (Releases made at bytes pdu)) → Fitting role t → is_closed role id t ≡ false → Only kind id t → Came role id kind t → Came role id kind (t ▷ Releases made at bytes pdu)
released_any role id kind made t at bytes pdu fits f live alone c = by_id (eqb fits.0.id id) refl where
  by_kind : (b : Bool) → same_kind kind made ≡ b → fits.0.id ≡ id → Came role id kind (t ▷ Releases made at bytes pdu)
  by_kind true e same = mine_released role id kind made t at bytes pdu fits f live same e c
  by_kind false e same =
      absurd (let no : [] ≡ fits.0.first ∷ fits.0.rest = sym (undrawn_held role id made t (alone made e)) ∙ queue_of role id made made t pdu fits.0 same refl in cc)

  by_id : (b : Bool) → eqb fits.0.id id ≡ b → Came role id kind (t ▷ Releases made at bytes pdu)
  by_id true e = by_kind (same_kind kind made) refl (eqb-true fits.0.id id e)
  by_id false e =
      let off : is_data id pdu ≡ false = data_mine id (said pdu) (other_due id fits.0.id pdu fits.0.channel_is e) in
      no_pull role id kind t (Releases made at bytes pdu) live c
      (arrived_more role id t pdu (quiet_releases role t made at bytes pdu fits) live ∙ ap (λ l. channels.arrived (table role t) id ++ l) (pieces_not id pdu off) ∙ append-nil (channels.arrived (table role t) id))
      refl refl
      (λ g. ended_apart id (said pdu) (cond (same_kind kind made) (without_first (channel_of pdu) (held role kind t)) (held role kind t)) (not_closed_said role id t pdu (said pdu) g)
      ∙ other_first id fits.0.id pdu (same_kind kind made) (held role kind t) fits.0.channel_is e)

discarded : (role : Role) (id : ℕ) (kind : Kind) (t : Trace Act) (at : ℕ) (bytes : List ℕ) (pdu : Pdu) → IsDue role t Lossy pdu → is_closed role id t ≡ false → Came role id kind t → Came role id kind (t ▷ Discards at bytes pdu)
discarded role id Reliable t at bytes pdu d live c = no_pull role id Reliable t (Discards at bytes pdu) live c refl refl refl (λ g. refl)
discarded role id Lossy t at bytes pdu d live c = by_id (eqb d.id id) refl where
  by_id : (b : Bool) → eqb d.id id ≡ b → Came role id Lossy (t ▷ Discards at bytes pdu)
  by_id false e = no_pull role id Lossy t (Discards at bytes pdu) live c refl refl refl (λ g. other_first id d.id pdu true (held role Lossy t) d.channel_is e)
  by_id true e =
      let same : d.id ≡ id = eqb-true d.id id e in
      let queue : only id (held role Lossy t) ≡ d.first ∷ d.rest = queue_of role id Lossy Lossy t pdu d same refl in
      let left : c.rest ≡ pdu ∷ pdus d.rest = rest_of role id Lossy t pdu d.first d.rest d.pdu_is queue live c in
      let P : List Pdu → Type 0 = λ l. IsPickOf (c.ds ++ pdus d.rest) (c.ds ++ l) in
      let less : IsPickOf (c.ds ++ pdus d.rest) (c.ds ++ c.rest) =
      subst P (sym left) (pick-append c.ds c.ds (pdus d.rest) (pdu ∷ pdus d.rest) (pick-same c.ds) (passed pdu (pdus d.rest) (pdus d.rest) (pick-same (pdus d.rest)))) in
      no_piece role id Lossy t (Discards at bytes pdu) live c refl refl (pdus d.rest)
      (passes_at Lossy (c.ds ++ pdus d.rest) (c.ds ++ pdus d.rest) (of id (drawn Lossy t)) _ refl (sym (undrawn Lossy id t (Discards at bytes pdu) refl)) (pick-trans (c.ds ++ pdus d.rest) (c.ds ++ c.rest) (of id (drawn Lossy t)) less c.drawn_are))
      (λ g. ap pdus (sym (ap (λ ch. only id (without_first ch (held role Lossy t))) (d.channel_is ∙ ap (λ x. Some x) same) ∙ first_gone id (held role Lossy t) d.first d.rest queue)))

still_open : (role : Role) (id : ℕ) (kind : Kind) (t : Trace Act) (act : Act) → Seen role t act → Fits role t act → Fitting role t → is_closed role id t ≡ false → Only kind id t → Came role id kind t → Came role id kind (t ▷ act)
still_open role id kind t _ (hears_it pdu) fits f live alone c = hears_any role id kind t pdu (is_data id pdu) refl fits f live c
still_open role id kind t _ (draws_it made at bytes pdu) fits f live alone c = pulled role id kind made t at bytes pdu fits live c
still_open role id kind t _ (releases made at bytes pdu) fits f live alone c = released_any role id kind made t at bytes pdu fits f live alone c
still_open role id kind t _ (discards at bytes pdu) fits f live alone c = discarded role id kind t at bytes pdu fits live c
still_open role id kind t _ (closes made) fits f live alone c =
    no_pull role id kind t (Closes made) live c refl refl refl (λ g. only-without id made (held role kind t) (not_ended (eqb made id) (channel role id t) g))
still_open role id kind t _ (opens made name) fits f live alone c = no_pull role id kind t (Opens made name) live c refl refl refl (λ g. refl)
still_open role id kind t _ (takes made message) fits f live alone c = no_pull role id kind t (Takes made message) live c refl refl refl (λ g. refl)
still_open role id kind t _ (still act none_heard none_drawn same_held same_table d e) fits f live alone c =
    no_pull role id kind t act live c (ap (λ T. channels.arrived T id) same_table) (ap (pieces id) none_heard) (ap (of id) (none_drawn kind)) (λ g. ap (only id) (same_held kind (held role kind t)))

came_step : (role : Role) (id : ℕ) (kind : Kind) (t : Trace Act) (act : Act) (b : Bool) → is_closed role id t ≡ b → Fits role t act → Fitting role t → Only kind id t → Came role id kind t → Came role id kind (t ▷ act)
came_step role id kind t act true e fits f alone c = once_closed role id kind t act fits f e c
came_step role id kind t act false e fits f alone c = still_open role id kind t act (seen role t act) fits f e alone c

passes_nil : (kind : Kind) → Passes kind [] []
passes_nil Reliable = refl
passes_nil Lossy = none

pub all_came : (role : Role) (id : ℕ) (kind : Kind) (t : Trace Act) → Fitting role t → Only kind id t → Came role id kind t
all_came role id kind Start f alone = record {
  hs = [];
  ds = [];
  rest = [];
  heard_are = ([], refl);
  drawn_are = passes_nil kind;
  arrived_are = refl;
  word_is = inl refl;
  all_heard = λ g. refl;
  all_held = λ g. refl;
}
all_came role id kind (t ▷ act) f alone =
    let before : Only kind id t = λ made e. nothing_first (of id (drawn made t)) (of id (drawn_new made act)) (sym (of_drawn-step made id t act) ∙ alone made e) in
    came_step role id kind t act (is_closed role id t) refl f.0 f.1 before (all_came role id kind t f.1 before)
