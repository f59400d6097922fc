-- What arrived of a channel at an end: the front of what it read on the main stream, and then, where that
-- has the word, the front of what it pulled from the tunnel, or some of it where the tunnel is lossy.
use Rattle.std.proofs.Common.{◌≡◌, ◌⊎◌, inl, inr, ℕ, Bool, true, false, eqb, cond, List, [], ◌∷◌, ◌++◌, flat_map, Option, None, Some, refl, sym, ap, ◌∙◌, append_assoc, append-nil}
use Rattle.std.proofs.lemmas.Bool.{eqb-true}
use Rattle.std.proofs.lemmas.List.{map-append}
use Rattle.mt_base.specs.declared.kinds.Role.{Role}
use Rattle.mt_base.specs.declared.kinds.Role.TheVariants.{Server, Client}
use Rattle.mt_base.specs.declared.kinds.Kind.{Kind}
use Rattle.mt_base.specs.declared.kinds.Kind.TheVariants.{Reliable, Lossy}
use Rattle.mt_base.specs.Ends.{other}
use Rattle.mt_base.specs.Trace.{Trace, ◌▷◌}
use Rattle.dvc_pdus.specs.Value.{Pdu}
use Rattle.dvc_channels.specs.Pieces.{pieces_of}
use Rattle.dvc_channels.specs.Acts as channels
use Rattle.soft_sync.specs.declared.kinds.Path.TheVariants.{Tunnel}
use Rattle.soft_sync.specs.Words.{path_of}
use Rattle.mt_endpoint.specs.Acts.{Act, Hears, Draws, Spoken, Carried}
use Rattle.mt_endpoint.specs.Said.{Said, Capable, Creates, Created, Brings, Ends, Moves, Moved, said}
use Rattle.mt_endpoint.specs.Channels.{table, channel, is_open_in, is_closed}
use Rattle.mt_base.specs.Ends.{same_kind}
use Rattle.mt_endpoint.specs.Tunnels as tunnels
use Rattle.mt_endpoint.specs.Moving.{all_told, made_by, inward}
use Rattle.mt_endpoint.specs.Holding.{Held, held, is_held, is_for_open, channel_in, channel_of, is_of, only}
use Rattle.mt_endpoint.specs.Faults.{Why, Unexpected, said_fault, carried_fault, tunnel_fault, is_moved, is_taken_in}
use Rattle.mt_base.specs.Prefix.{IsPrefixOf, IsPickOf}
use Rattle.mt_base.proofs.Prefixes.{front-same, front-trans, pick-same, pick-nothing, pick-append, pick-at}
use Rattle.mt_endpoint.proofs.ChannelPdus.{carried_pdus, keep-append, of, is_mine, is_data, brings_to, pieces, pieces-append}
use Rattle.mt_endpoint.proofs.Words.{word, word-more, word-all}
use Rattle.mt_endpoint.proofs.Fitting.{Fits, Fitting, said_fine}
use Rattle.mt_endpoint.proofs.HeldPdus.{pdus, only-append, ends, ended_apart}
use Rattle.mt_endpoint.proofs.Tables.{not_late, not_closed_said, arrived_closed, arrived_more, taken_is_open, known_taken}
use Rattle.mt_endpoint.proofs.Reading.{heard, drawn, heard_new, drawn_new, heard-step, drawn-step, Seen, hears_it, draws_it, releases, discards, closes, opens, takes, still, seen, inward_heard}
use Rattle.mt_endpoint.proofs.Closing.{quiet_hears, closed_stays}

-- what comes through a tunnel: all of it in order, or some of it in order
abbrev pub Passes : Kind → List Pdu → List Pdu → Type 0
Passes Reliable xs ys = xs ≡ ys
Passes Lossy xs ys = IsPickOf xs ys

passes_more : (kind : Kind) (xs ys zs : List Pdu) → Passes kind xs ys → Passes kind (xs ++ zs) (ys ++ zs)
passes_more Reliable xs ys zs h = ap (λ l. l ++ zs) h
passes_more Lossy xs ys zs h = pick-append xs ys zs zs h (pick-same zs)

pub passes_at : (kind : Kind) (xs vs ys ws : List Pdu) → xs ≡ vs → ys ≡ ws → Passes kind xs ys → Passes kind vs ws
passes_at Reliable xs vs ys ws same also h = sym same ∙ h ∙ also
passes_at Lossy xs vs ys ws same also h = pick-at xs vs ys ws same also h

abbrev pub IsWord : Role → ℕ → Trace Act → List Pdu → Type 0
IsWord role id t hs = (kind : Kind) × (word (other role) (all_told made_by t) id hs ≡ Some kind)

pub record Came (role : Role) (id : ℕ) (kind : Kind) (t : Trace Act) : Type 0 where
  pub hs : List Pdu
  pub ds : List Pdu
  pub rest : List Pdu
  pub heard_are : IsPrefixOf hs (heard t)
  pub drawn_are : Passes kind (ds ++ rest) (of id (drawn kind t))
  pub arrived_are : channels.arrived (table role t) id ≡ pieces id hs ++ pieces id ds
  pub word_is : (ds ≡ []) ⊎ IsWord role id t hs
  pub all_heard : is_closed role id t ≡ false → hs ≡ heard t
  pub all_held : is_closed role id t ≡ false → rest ≡ pdus (only id (held role kind t))

pub word_later : (role : Role) (id : ℕ) (t : Trace Act) (act : Act) (hs gs : List Pdu) → IsPrefixOf hs gs → IsWord role id t hs → IsWord role id (t ▷ act) gs
word_later role id t act hs gs longer w =
    let later = word-all (other role) (all_told made_by t) (made_by act) id hs w.0 w.1 in
    (w.0, ap (word (other role) (all_told made_by (t ▷ act)) id) longer.1 ∙ word-more (other role) (all_told made_by (t ▷ act)) id hs longer.0 w.0 later)

word_either : (role : Role) (id : ℕ) (t : Trace Act) (act : Act) (hs gs ds : List Pdu) → IsPrefixOf hs gs → (ds ≡ []) ⊎ IsWord role id t hs → (ds ≡ []) ⊎ IsWord role id (t ▷ act) gs
word_either role id t act hs gs ds longer (inl none) = inl none
word_either role id t act hs gs ds longer (inr w) = inr (word_later role id t act hs gs longer w)

pub of_drawn-step : (kind : Kind) (id : ℕ) (t : Trace Act) (act : Act) → of id (drawn kind (t ▷ act)) ≡ of id (drawn kind t) ++ of id (drawn_new kind act)
of_drawn-step kind id t act = ap (of id) (drawn-step kind t act) ∙ keep-append (is_mine id) (drawn kind t) (drawn_new kind act)

pub undrawn : (kind : Kind) (id : ℕ) (t : Trace Act) (act : Act) → of id (drawn_new kind act) ≡ [] → of id (drawn kind (t ▷ act)) ≡ of id (drawn kind t)
undrawn kind id t act none = of_drawn-step kind id t act ∙ ap (λ l. of id (drawn kind t) ++ l) none ∙ append-nil (of id (drawn kind t))

drawn_grow : (kind : Kind) (id : ℕ) (t : Trace Act) (act : Act) (ds rest new : List Pdu) → of id (drawn_new kind act) ≡ new → Passes kind (ds ++ rest) (of id (drawn kind t)) → Passes kind (ds ++ (rest ++ new)) (of id (drawn kind (t ▷ act)))
drawn_grow kind id t act ds rest new is h =
    passes_at kind ((ds ++ rest) ++ new) _ (of id (drawn kind t) ++ new) _ (append_assoc ds rest new) (ap (λ l. of id (drawn kind t) ++ l) (sym is) ∙ sym (of_drawn-step kind id t act))
    (passes_more kind (ds ++ rest) (of id (drawn kind t)) new h)

-- ---- a closed channel

same_arrived : (role : Role) (id : ℕ) (t : Trace Act) (act : Act) → Seen role t act → is_closed role id t ≡ true → channels.arrived (table role (t ▷ act)) id ≡ channels.arrived (table role t) id
same_arrived role id t _ (hears_it pdu) h = arrived_closed role id t pdu h
same_arrived role id t _ (draws_it kind at bytes pdu) h = refl
same_arrived role id t _ (releases kind at bytes pdu) h = arrived_closed role id t pdu h
same_arrived role id t _ (discards at bytes pdu) h = refl
same_arrived role id t _ (closes made) h = refl
same_arrived role id t _ (opens made name) h = refl
same_arrived role id t _ (takes made message) h = refl
same_arrived role id t _ (still act a b c same_table d e) h = ap (λ T. channels.arrived T id) same_table

pub once_closed : (role : Role) (id : ℕ) (kind : Kind) (t : Trace Act) (act : Act) → Fits role t act → Fitting role t → is_closed role id t ≡ true → Came role id kind t → Came role id kind (t ▷ act)
once_closed role id kind t act fits f e c =
    let stays = closed_stays role id t act fits f e in record {
      hs = c.hs;
      ds = c.ds;
      rest = c.rest ++ of id (drawn_new kind act);
      heard_are = front-trans c.hs (heard t) (heard (t ▷ act)) c.heard_are (heard_new act, heard-step t act);
      drawn_are = drawn_grow kind id t act c.ds c.rest (of id (drawn_new kind act)) refl c.drawn_are;
      arrived_are = same_arrived role id t act (seen role t act) e ∙ c.arrived_are;
      word_is = word_either role id t act c.hs c.hs c.ds (front-same c.hs) c.word_is;
      all_heard = λ g. absurd (let no : true ≡ false = sym stays ∙ g in cc);
      all_held = λ g. absurd (let no : true ≡ false = sym stays ∙ g in cc);
    }

-- ---- a channel that isn't closed

-- an act that brings no piece of the channel
pub no_piece : (role : Role) (id : ℕ) (kind : Kind) (t : Trace Act) (act : Act) → is_closed role id t ≡ false → (c : Came role id kind t) → channels.arrived (table role (t ▷ act)) id ≡ channels.arrived (table role t) id → pieces id (heard_new act) ≡ []
    → (rest : List Pdu) → Passes kind (c.ds ++ rest) (of id (drawn kind (t ▷ act))) → (is_closed role id (t ▷ act) ≡ false → rest ≡ pdus (only id (held role kind (t ▷ act)))) → Came role id kind (t ▷ act)
no_piece role id kind t act live c same none rest passes all =
    let grow : IsPrefixOf c.hs (heard (t ▷ act)) = front-trans c.hs (heard t) (heard (t ▷ act)) c.heard_are (heard_new act, heard-step t act) in
    let pieces_same : pieces id (heard (t ▷ act)) ≡ pieces id c.hs =
    ap (pieces id) (heard-step t act) ∙ pieces-append id (heard t) (heard_new act) ∙ ap (λ l. pieces id (heard t) ++ l) none ∙ append-nil (pieces id (heard t)) ∙ ap (pieces id) (sym (c.all_heard live)) in record {
      hs = heard (t ▷ act);
      ds = c.ds;
      rest = rest;
      heard_are = front-same (heard (t ▷ act));
      drawn_are = passes;
      arrived_are = same ∙ c.arrived_are ∙ ap (λ l. l ++ pieces id c.ds) (sym pieces_same);
      word_is = word_either role id t act c.hs (heard (t ▷ act)) c.ds grow c.word_is;
      all_heard = λ g. refl;
      all_held = all;
    }

-- and pulls nothing
pub no_pull : (role : Role) (id : ℕ) (kind : Kind) (t : Trace Act) (act : Act) → is_closed role id t ≡ false → Came role id kind t → channels.arrived (table role (t ▷ act)) id ≡ channels.arrived (table role t) id → pieces id (heard_new act) ≡ []
    → of id (drawn_new kind act) ≡ [] → (is_closed role id (t ▷ act) ≡ false → only id (held role kind (t ▷ act)) ≡ only id (held role kind t)) → Came role id kind (t ▷ act)
no_pull role id kind t act live c same none undrawn_new kept =
    no_piece role id kind t act live c same none c.rest
    (passes_at kind (c.ds ++ c.rest) (c.ds ++ c.rest) (of id (drawn kind t)) (of id (drawn kind (t ▷ act))) refl (sym (undrawn kind id t act undrawn_new)) c.drawn_are)
    (λ g. c.all_held live ∙ ap pdus (sym (kept g)))

brings_is : (id : ℕ) (what : Said) → brings_to id what ≡ true → what ≡ Brings id
brings_is id (Brings made) h = ap (λ x. Brings x) (eqb-true made id h)
brings_is id (Capable version) h = cc
brings_is id (Creates made name) h = cc
brings_is id (Created made status) h = cc
brings_is id (Ends made) h = cc
brings_is id (Moves lists) h = cc
brings_is id (Moved kinds) h = cc

pub pieces_not : (id : ℕ) (pdu : Pdu) → is_data id pdu ≡ false → pieces id (pdu ∷ []) ≡ []
pieces_not id pdu e = ap (λ b. flat_map pieces_of (cond b (pdu ∷ []) [])) e

pub data_mine : (id : ℕ) (what : Said) → is_of id (channel_in what) ≡ false → brings_to id what ≡ false
data_mine id (Brings made) h = h
data_mine id (Capable version) h = refl
data_mine id (Creates made name) h = refl
data_mine id (Created made status) h = refl
data_mine id (Ends made) h = refl
data_mine id (Moves lists) h = refl
data_mine id (Moved kinds) h = refl

-- where the word isn't read nothing of the tunnel came
none_ahead : (role : Role) (id : ℕ) (kind : Kind) (t : Trace Act) → Fitting role t → is_closed role id t ≡ false → is_moved (inward id t) ≡ false → (c : Came role id kind t) → c.ds ≡ []
none_ahead role id kind t f live out c = by_word c.word_is where
  by_word : (c.ds ≡ []) ⊎ IsWord role id t c.hs → c.ds ≡ []
  by_word (inl none) = none
  by_word (inr w) =
      let it : inward id t ≡ Tunnel w.0 = inward_heard role t id f ∙ ap (λ l. path_of (word (other role) (all_told made_by t) id l)) (sym (c.all_heard live)) ∙ ap path_of w.1 in
      absurd (let no : true ≡ false = ap is_moved (sym it) ∙ out in cc)

hears_data : (role : Role) (id : ℕ) (kind : Kind) (t : Trace Act) (pdu : Pdu) → Fits role t (Hears (Spoken pdu)) → Fitting role t → is_closed role id t ≡ false → is_data id pdu ≡ true → Came role id kind t → Came role id kind (t ▷ Hears (Spoken pdu))
hears_data role id kind t pdu fits f live mine c =
    let is : said pdu ≡ Brings id = brings_is id (said pdu) mine in
    let out = not_late role t pdu id (ap (said_fault role t pdu) (sym is) ∙ said_fine role t pdu fits.1) live in
    let none : c.ds ≡ [] = none_ahead role id kind t f live out c in
    let all : c.hs ≡ heard t = c.all_heard live in record {
      hs = heard (t ▷ Hears (Spoken pdu));
      ds = [];
      rest = c.rest;
      heard_are = front-same (heard (t ▷ Hears (Spoken pdu)));
      drawn_are = passes_at kind (c.ds ++ c.rest) c.rest (of id (drawn kind t)) _ (ap (λ l. l ++ c.rest) none) (sym (undrawn kind id t (Hears (Spoken pdu)) refl)) c.drawn_are;
      arrived_are =
          arrived_more role id t pdu (quiet_hears role t pdu fits) live
          ∙ ap (λ l. l ++ pieces id (pdu ∷ [])) (c.arrived_are ∙ ap (λ l. pieces id c.hs ++ pieces id l) none ∙ append-nil (pieces id c.hs) ∙ ap (pieces id) all)
          ∙ sym (pieces-append id (heard t) (pdu ∷ [])) ∙ ap (pieces id) (sym (heard-step t (Hears (Spoken pdu)))) ∙ sym (append-nil (pieces id (heard (t ▷ Hears (Spoken pdu)))));
      word_is = inl refl;
      all_heard = λ g. refl;
      all_held = λ g. c.all_held live ∙ ap pdus (sym (ended_apart id (said pdu) (held role kind t) (ap (λ w. ends id w) is)));
    }

pub hears_any : (role : Role) (id : ℕ) (kind : Kind) (t : Trace Act) (pdu : Pdu) (b : Bool) → is_data id pdu ≡ b → Fits role t (Hears (Spoken pdu)) → Fitting role t → is_closed role id t ≡ false → Came role id kind t → Came role id kind (t ▷ Hears (Spoken pdu))
hears_any role id kind t pdu true mine fits f live c = hears_data role id kind t pdu fits f live mine c
hears_any role id kind t pdu false mine fits f live c =
    no_pull role id kind t (Hears (Spoken pdu)) live c
    (arrived_more role id t pdu (quiet_hears role t pdu fits) live ∙ ap (λ l. channels.arrived (table role t) id ++ l) (pieces_not id pdu mine) ∙ append-nil (channels.arrived (table role t) id))
    (pieces_not id pdu mine) refl (λ g. ended_apart id (said pdu) (held role kind t) (not_closed_said role id t pdu (said pdu) g))

-- ---- a PDU is pulled

reliable_held : (role : Role) (id : ℕ) (t : Trace Act) (bytes : List ℕ) (pdu : Pdu) → tunnel_fault role t (Carried bytes pdu) ≡ None → is_closed role id t ≡ false → is_mine id pdu ≡ true → is_for_open role t (channel_of pdu) ≡ true
reliable_held role id t bytes pdu fine live mine = by_said (said pdu) (carried_fine role fine) mine where
  by_test : (b : Bool) (o : Option Why) → cond b o (Some Unexpected) ≡ None → o ≡ None
  by_test true o h = h
  by_test false o h = absurd (let no : Some Unexpected ≡ None = h in cc)

  carried_fine : (role : Role) → tunnel_fault role t (Carried bytes pdu) ≡ None → carried_fault role t (said pdu) ≡ None
  carried_fine Server h = by_test (tunnels.is_open Server Reliable t) (carried_fault Server t (said pdu)) h
  carried_fine Client h = by_test (tunnels.is_open Client Reliable t) (carried_fault Client t (said pdu)) h

  open_one : (made : ℕ) → eqb made id ≡ true → is_taken_in (channel role made t) ≡ true → is_open_in (channel role made t) ≡ true
  open_one made e taken =
      let same : made ≡ id = eqb-true made id e in
      ap is_open_in (taken_is_open (channel role made t) taken (ap (λ x. is_closed role x t) same ∙ live))

  by_said : (what : Said) → carried_fault role t what ≡ None → is_of id (channel_in what) ≡ true → is_for_open role t (channel_in what) ≡ true
  by_said (Brings made) h m = open_one made m (known_taken role t made h)
  by_said (Ends made) h m = open_one made m (known_taken role t made h)
  by_said (Capable version) h m = absurd (let no : false ≡ true = m in cc)
  by_said (Creates made name) h m = absurd (let no : false ≡ true = m in cc)
  by_said (Created made status) h m = absurd (let no : false ≡ true = m in cc)
  by_said (Moves lists) h m = absurd (let no : false ≡ true = m in cc)
  by_said (Moved kinds) h m = absurd (let no : false ≡ true = m in cc)

-- what is not held came through the lossy tunnel
dropped : (role : Role) (id : ℕ) (kind made : Kind) (t : Trace Act) (at : ℕ) (bytes : List ℕ) (pdu : Pdu) (xs ys zs : List Pdu) → same_kind kind made ≡ true → Fits role t (Draws made at (Carried bytes pdu)) → is_closed role id t ≡ false → is_mine id pdu ≡ true
    → is_held role kind t bytes pdu (held role kind t) ≡ false → Passes kind xs ys → Passes kind xs (ys ++ zs)
dropped role id Reliable Reliable t at bytes pdu xs ys zs same fits live mine not_held h =
    absurd (let no : true ≡ false = sym (reliable_held role id t bytes pdu fits.1 live mine) ∙ not_held in cc)
dropped role id Lossy Lossy t at bytes pdu xs ys zs same fits live mine not_held h = pick-at (xs ++ []) xs (ys ++ zs) (ys ++ zs) (append-nil xs) refl (pick-append xs ys [] zs h (pick-nothing zs))
dropped role id Reliable Lossy t at bytes pdu xs ys zs same fits live mine not_held h = absurd (let no : false ≡ true = same in cc)
dropped role id Lossy Reliable t at bytes pdu xs ys zs same fits live mine not_held h = absurd (let no : false ≡ true = same in cc)

pub pulled : (role : Role) (id : ℕ) (kind made : Kind) (t : Trace Act) (at : ℕ) (bytes : List ℕ) (pdu : Pdu) → Fits role t (Draws made at (Carried bytes pdu)) → is_closed role id t ≡ false → Came role id kind t → Came role id kind (t ▷ Draws made at (Carried bytes pdu))
pulled role id kind made t at bytes pdu fits live c = by_kind (same_kind kind made) refl where
  act : Act
  act = Draws made at (Carried bytes pdu)

  one : Held
  one = record { at = at; bytes = bytes; pdu = pdu }

  queue : List Held
  queue = held role kind t

  new_is : (b : Bool) → same_kind kind made ≡ b → drawn_new kind act ≡ carried_pdus (cond b (Carried bytes pdu ∷ []) [])
  new_is b e = ap (λ b. carried_pdus (cond b (Carried bytes pdu ∷ []) [])) e

  held_is : (b h : Bool) → same_kind kind made ≡ b → is_held role kind t bytes pdu queue ≡ h → held role kind (t ▷ act) ≡ cond b (cond h (queue ++ one ∷ []) queue) queue
  held_is b h e k = ap (λ b. cond b (cond (is_held role kind t bytes pdu queue) (queue ++ one ∷ []) queue) queue) e ∙ ap (λ h. cond b (cond h (queue ++ one ∷ []) queue) queue) k

  other_held : (h : Bool) → is_mine id pdu ≡ false → only id (cond h (queue ++ one ∷ []) queue) ≡ only id queue
  other_held true m = only-append id queue (one ∷ []) ∙ ap (λ b. only id queue ++ cond b (one ∷ []) []) m ∙ append-nil (only id queue)
  other_held false m = refl

  by_held : (h : Bool) → same_kind kind made ≡ true → is_mine id pdu ≡ true → is_held role kind t bytes pdu queue ≡ h → Came role id kind (t ▷ act)
  by_held true e m k =
      no_piece role id kind t act live c refl refl (c.rest ++ pdu ∷ [])
      (drawn_grow kind id t act c.ds c.rest (pdu ∷ []) (ap (of id) (new_is true e) ∙ ap (λ b. cond b (pdu ∷ []) []) m) c.drawn_are)
      (λ g. ap (λ l. l ++ pdu ∷ []) (c.all_held live) ∙ sym (map-append (λ (h : Held). h.pdu) (only id queue) (one ∷ []))
      ∙ ap pdus (ap (λ b. only id queue ++ cond b (one ∷ []) []) (sym m) ∙ sym (only-append id queue (one ∷ [])) ∙ ap (only id) (sym (held_is true true e k))))
  by_held false e m k =
      no_piece role id kind t act live c refl refl c.rest
      (passes_at kind (c.ds ++ c.rest) (c.ds ++ c.rest) (of id (drawn kind t) ++ of id (drawn_new kind act)) _ refl (sym (of_drawn-step kind id t act))
      (dropped role id kind made t at bytes pdu (c.ds ++ c.rest) (of id (drawn kind t)) (of id (drawn_new kind act)) e fits live m k c.drawn_are))
      (λ g. c.all_held live ∙ ap (λ q. pdus (only id q)) (sym (held_is true false e k)))

  by_mine : (m : Bool) → same_kind kind made ≡ true → is_mine id pdu ≡ m → Came role id kind (t ▷ act)
  by_mine true e m = by_held (is_held role kind t bytes pdu queue) e m refl
  by_mine false e m =
      no_pull role id kind t act live c refl refl (ap (of id) (new_is true e) ∙ ap (λ b. cond b (pdu ∷ []) []) m)
      (λ g. ap (only id) (held_is true (is_held role kind t bytes pdu queue) e refl) ∙ other_held (is_held role kind t bytes pdu queue) m)

  by_kind : (b : Bool) → same_kind kind made ≡ b → Came role id kind (t ▷ act)
  by_kind true e = by_mine (is_mine id pdu) e refl
  by_kind false e =
      no_pull role id kind t act live c refl refl (ap (of id) (new_is false e))
      (λ g. ap (only id) (held_is false (is_held role kind t bytes pdu queue) e refl))
