-- The data PDUs of a channel on a path are those of the messages that were sent while it had that path.
use Rattle.std.proofs.Common.{◌≡◌, ◌⊎◌, inl, inr, ℕ, Bool, true, false, eqb, cond, List, [], ◌∷◌, ◌++◌, map, flat_map, refl, sym, ap, subst, ◌∙◌, append_assoc, append-nil, eq-eqb}
use Rattle.std.proofs.lemmas.Grind.{flat_map-append}
use Rattle.std.proofs.lemmas.Bool.{eqb-true}
use Rattle.mt_base.specs.declared.kinds.Role.{Role}
use Rattle.mt_base.specs.declared.kinds.Kind.{Kind}
use Rattle.mt_base.specs.declared.kinds.Kind.TheVariants.{Reliable, Lossy}
use Rattle.mt_base.specs.Trace.{Trace, Start, ◌▷◌}
use Rattle.dvc_pdus.specs.Value.{Pdu, SyncResponse, sync_request}
use Rattle.dvc_channels.specs.Fragments.{fragments_of}
use Rattle.soft_sync.specs.declared.kinds.Path.{Path}
use Rattle.soft_sync.specs.declared.kinds.Path.TheVariants.{Main, Tunnel}
use Rattle.mt_endpoint.specs.Acts.{Act, Sends}
use Rattle.mt_endpoint.specs.Channels.{message_to, sent}
use Rattle.mt_endpoint.specs.Moving.{outward}
use Rattle.mt_endpoint.specs.Holding.{is_through}
use Rattle.mt_endpoint.specs.Writing.{on_path, types_of, adds}
use Rattle.mt_endpoint.specs.World.{IsLoud, sent_on}
use Rattle.mt_endpoint.proofs.ChannelPdus.{keep-append, brings_to, is_data, data_of, at, out, out-step, added, silent_at}
use Rattle.mt_endpoint.proofs.Fitting.{Fits, Fitting}
use Rattle.mt_endpoint.proofs.Items.{View, sends, syncs, answers, plain, view, is_at, Stands, there, nowhere, stands, all_carried}
use Rattle.mt_endpoint.proofs.Written.{Drops, fragments_are_data, keep-data, one_away, items_away, table_brings}
use Rattle.mt_endpoint.proofs.Paths.{stays, not_before}

no_way : {A : Type 0} → true ≡ false → A
no_way e = absurd (let no : true ≡ false = e in cc)

drops_data : (id : ℕ) (path : Path) (s : Trace Act) → Drops (brings_to id) path s
drops_data id path s = record { close_is = λ made e. absurd (let no : false ≡ true = e in cc); table_is = table_brings id }

-- PDUs on their path are all there, and on another one none
loud_at : (path made : Path) (s : Trace Act) (pdus : List Pdu) → IsLoud s made → is_at path made ≡ true → at path (silent_at path s) (map (on_path made) pdus) ≡ pdus
loud_at path made s pdus loud h = by_place path made (stands path (silent_at path s) made pdus) loud h where
  all_there : (path made : Path) (silent : Bool) → silent ≡ false → is_at path made ≡ true → at path silent (map (on_path made) pdus) ≡ pdus
  all_there path made true e h = no_way e
  all_there Main Main false e h = by_stands (stands Main false Main pdus) where
    by_stands : Stands Main false Main pdus → at Main false (map (on_path Main) pdus) ≡ pdus
    by_stands (there on same) = same
    by_stands (nowhere none) = every pdus where
      every : (pdus : List Pdu) → at Main false (map (on_path Main) pdus) ≡ pdus
      every [] = refl
      every (pdu ∷ pdus) = ap (λ l. pdu ∷ l) (every pdus)
  all_there Main (Tunnel kind) false e h = absurd (let no : false ≡ true = h in cc)
  all_there (Tunnel kind) Main false e h = absurd (let no : false ≡ true = h in cc)
  all_there (Tunnel kind) (Tunnel other) false e h = all_carried kind other pdus h

  by_place : (path made : Path) → Stands path (silent_at path s) made pdus → IsLoud s made → is_at path made ≡ true → at path (silent_at path s) (map (on_path made) pdus) ≡ pdus
  by_place path made (there on same) loud h = same
  by_place Main made (nowhere none) loud h = all_there Main made false refl h
  by_place (Tunnel kind) Main (nowhere none) loud h = absurd (let no : false ≡ true = h in cc)
  by_place (Tunnel Reliable) (Tunnel Reliable) (nowhere none) loud h = all_there (Tunnel Reliable) (Tunnel Reliable) (silent_at (Tunnel Reliable) s) loud h
  by_place (Tunnel Lossy) (Tunnel Lossy) (nowhere none) loud h = all_there (Tunnel Lossy) (Tunnel Lossy) (silent_at (Tunnel Lossy) s) loud h
  by_place (Tunnel Reliable) (Tunnel Lossy) (nowhere none) loud h = absurd (let no : false ≡ true = h in cc)
  by_place (Tunnel Lossy) (Tunnel Reliable) (nowhere none) loud h = absurd (let no : false ≡ true = h in cc)

away_at : (path made : Path) (silent : Bool) (pdus : List Pdu) → is_at path made ≡ false → at path silent (map (on_path made) pdus) ≡ []
away_at path made silent pdus h = by_place (stands path silent made pdus) where
  by_place : Stands path silent made pdus → at path silent (map (on_path made) pdus) ≡ []
  by_place (there on same) = no_way (sym on ∙ h)
  by_place (nowhere none) = none

-- a message to another channel brings nothing
other_channel : (id made : ℕ) (path out : Path) (silent : Bool) (message : List ℕ) → eqb made id ≡ false → data_of id (at path silent (map (on_path out) (fragments_of made message))) ≡ []
other_channel id made path out silent message e = by_place (stands path silent out (fragments_of made message)) where
  by_place : Stands path silent out (fragments_of made message) → data_of id (at path silent (map (on_path out) (fragments_of made message))) ≡ []
  by_place (there on same) = ap (data_of id) same ∙ keep-data (brings_to id) made (fragments_of made message) false (fragments_are_data made message) e
  by_place (nowhere none) = ap (data_of id) none

abbrev pub cut : ℕ → List (List ℕ) → List Pdu
cut id messages = flat_map (fragments_of id) messages

neither : (b : Bool) (id : ℕ) (messages : List (List ℕ)) → messages ≡ [] → cut id (cond b messages []) ≡ []
neither true id messages h = ap (cut id) h
neither false id messages h = refl

of_message : (path : Path) (role : Role) (id made : ℕ) (s : Trace Act) (message : List ℕ) → IsLoud s (outward made s) → data_of id (added path role s (Sends made message)) ≡ cut id (cond (is_at path (outward id s)) (message_to id (Sends made message)) [])
of_message path role id made s message loud = by_test (eqb made id) refl where
  mine : (b : Bool) → is_at path (outward id s) ≡ b → IsLoud s (outward id s) → data_of id (at path (silent_at path s) (map (on_path (outward id s)) (fragments_of id message))) ≡ cut id (cond b (message ∷ []) [])
  mine true on loud =
      ap (data_of id) (loud_at path (outward id s) s (fragments_of id message) loud on)
      ∙ keep-data (brings_to id) id (fragments_of id message) true (fragments_are_data id message) (eq-eqb id id refl) ∙ sym (append-nil (fragments_of id message))
  mine false off loud = ap (data_of id) (away_at path (outward id s) (silent_at path s) (fragments_of id message) off)

  by_test : (b : Bool) → eqb made id ≡ b → data_of id (added path role s (Sends made message)) ≡ cut id (cond (is_at path (outward id s)) (cond b (message ∷ []) []) [])
  by_test true e =
      let same : id ≡ made = sym (eqb-true made id e) in
      let P : ℕ → Type 0 = λ x. data_of id (at path (silent_at path s) (map (on_path (outward x s)) (fragments_of x message))) ≡ cut id (cond (is_at path (outward id s)) (message ∷ []) []) in
      let Q : ℕ → Type 0 = λ x. IsLoud s (outward x s) in
      subst P same (mine (is_at path (outward id s)) refl (subst Q (sym same) loud))
  by_test false e = other_channel id made path (outward made s) (silent_at path s) message e ∙ sym (neither (is_at path (outward id s)) id [] refl)

data_added : (path : Path) (role : Role) (id : ℕ) (s : Trace Act) (act : Act) → View role s act → Fits role s act → data_of id (added path role s act) ≡ cut id (cond (is_at path (outward id s)) (message_to id act) [])
data_added path role id s _ (sends made message) f = of_message path role id made s message f.0.0.loud
data_added path role id s _ (syncs reliable lossy) f =
    one_away (brings_to id) path (silent_at path s) Main (sync_request reliable lossy) (λ e. absurd (let no : false ≡ true = e in cc)) ∙ sym (neither (is_at path (outward id s)) id [] refl)
data_added path role id s _ (answers named) f =
    one_away (brings_to id) path (silent_at path s) Main (SyncResponse (types_of named)) (λ e. absurd (let no : false ≡ true = e in cc)) ∙ sym (neither (is_at path (outward id s)) id [] refl)
data_added path role id s _ (plain act items a b none) f =
    items_away (brings_to id) path (silent_at path s) s (adds role s act) (drops_data id path s) items ∙ sym (neither (is_at path (outward id s)) id (message_to id act) (none id))

pub data_sent : (path : Path) (role : Role) (id : ℕ) (s : Trace Act) → Fitting role s → data_of id (out path role s) ≡ cut id (sent_on (is_at path) id s)
data_sent Main role id Start f = refl
data_sent (Tunnel kind) role id Start f = refl
data_sent path role id (s ▷ act) f =
    ap (data_of id) (out-step path role s act) ∙ keep-append (is_data id) (out path role s) (added path role s act)
    ∙ ap (λ l. l ++ data_of id (added path role s act)) (data_sent path role id s f.1) ∙ ap (λ l. cut id (sent_on (is_at path) id s) ++ l) (data_added path role id s act (view role s act) f.0)
    ∙ sym (flat_map-append (fragments_of id) (sent_on (is_at path) id s) (cond (is_at path (outward id s)) (message_to id act) []))

-- ---- messages before the move and after it

abbrev pub Near : Kind → Path → Type 0
Near kind path = (path ≡ Main) ⊎ (path ≡ Tunnel kind)

pub near_before : (role : Role) (id : ℕ) (s : Trace Act) (act : Act) (kind : Kind) → Fitting role (s ▷ act) → Near kind (outward id (s ▷ act)) → Near kind (outward id s)
near_before role id s act kind f h = by_path (outward id s) refl h where
  by_path : (path : Path) → outward id s ≡ path → Near kind (outward id (s ▷ act)) → Near kind path
  by_path Main e h = inl refl
  by_path (Tunnel made) e (inl on_main) = let no : Tunnel made ≡ Main = sym (stays role id s act made f e) ∙ on_main in cc
  by_path (Tunnel made) e (inr moved) = inr (sym (stays role id s act made f e) ∙ moved)

-- two choices of paths that agree on the main stream and on the tunnel
pub sent_same : (role : Role) (id : ℕ) (s : Trace Act) (kind : Kind) (f g : Path → Bool) → f Main ≡ g Main → f (Tunnel kind) ≡ g (Tunnel kind) → Fitting role s → Near kind (outward id s) → sent_on f id s ≡ sent_on g id s
sent_same role id Start kind f g a b fits h = refl
sent_same role id (s ▷ act) kind f g a b fits h =
    let before = near_before role id s act kind fits h in
    ap (λ l. l ++ cond (f (outward id s)) (message_to id act) []) (sent_same role id s kind f g a b fits.1 before) ∙ ap (λ t. sent_on g id s ++ cond t (message_to id act) []) (by_path before) where
      by_path : Near kind (outward id s) → f (outward id s) ≡ g (outward id s)
      by_path (inl e) = ap f e ∙ a ∙ ap g (sym e)
      by_path (inr e) = ap f e ∙ b ∙ ap g (sym e)

-- nothing was sent on a tunnel to which the channel has not moved
sent_none : (role : Role) (id : ℕ) (s : Trace Act) (kind : Kind) → Fitting role s → is_through kind (outward id s) ≡ false → sent_on (is_through kind) id s ≡ []
sent_none role id Start kind f h = refl
sent_none role id (s ▷ act) kind f h =
    let before = not_before role id s act kind f h in
    ap (λ l. l ++ cond (is_through kind (outward id s)) (message_to id act) []) (sent_none role id s kind f.1 before) ∙ ap (λ b. cond b (message_to id act) []) before

join_first : {A : Type 0} (whole m t new : List A) → whole ≡ m ++ t → t ≡ [] → whole ++ new ≡ (m ++ new) ++ (t ++ [])
join_first whole m t new h none =
    ap (λ l. l ++ new) (h ∙ ap (λ l. m ++ l) none ∙ append-nil m) ∙ sym (append-nil (m ++ new)) ∙ ap (λ l. (m ++ new) ++ (l ++ [])) (sym none)

join_second : {A : Type 0} (whole m t new : List A) → whole ≡ m ++ t → whole ++ new ≡ (m ++ []) ++ (t ++ new)
join_second whole m t new h = ap (λ l. l ++ new) h ∙ append_assoc m t new ∙ ap (λ l. l ++ (t ++ new)) (sym (append-nil m))

self : (kind : Kind) → is_through kind (Tunnel kind) ≡ true
self Reliable = refl
self Lossy = refl

pub sent_both : (role : Role) (id : ℕ) (s : Trace Act) (kind : Kind) → Fitting role s → Near kind (outward id s) → sent id s ≡ sent_on (is_at Main) id s ++ sent_on (is_through kind) id s
sent_both role id Start kind f h = refl
sent_both role id (s ▷ act) kind f h =
    let before = near_before role id s act kind f h in by_path before (sent_both role id s kind f.1 before) where
      by_path : Near kind (outward id s) → sent id s ≡ sent_on (is_at Main) id s ++ sent_on (is_through kind) id s
          → sent id s ++ message_to id act ≡ (sent_on (is_at Main) id s ++ cond (is_at Main (outward id s)) (message_to id act) []) ++ (sent_on (is_through kind) id s ++ cond (is_through kind (outward id s)) (message_to id act) [])
      by_path (inl e) whole =
          join_first (sent id s) (sent_on (is_at Main) id s) (sent_on (is_through kind) id s) (message_to id act) whole (sent_none role id s kind f.1 (ap (is_through kind) e))
          ∙ ap (λ p. (sent_on (is_at Main) id s ++ cond (is_at Main p) (message_to id act) []) ++ (sent_on (is_through kind) id s ++ cond (is_through kind p) (message_to id act) [])) (sym e)
      by_path (inr e) whole =
          join_second (sent id s) (sent_on (is_at Main) id s) (sent_on (is_through kind) id s) (message_to id act) whole
          ∙ ap (λ b. (sent_on (is_at Main) id s ++ []) ++ (sent_on (is_through kind) id s ++ cond b (message_to id act) [])) (sym (self kind))
          ∙ ap (λ p. (sent_on (is_at Main) id s ++ cond (is_at Main p) (message_to id act) []) ++ (sent_on (is_through kind) id s ++ cond (is_through kind p) (message_to id act) [])) (sym e)
