-- Between the steps of an end nothing is held of a channel whose word is read.
use Rattle.std.proofs.Common.{◌≡◌, ◌⊎◌, inl, inr, ℕ, ◌≤◌, Bool, true, false, cond, eqb, nat_eq, List, [], ◌∷◌, ◌++◌, length, Option, Some, None, refl, sym, ap, subst, ◌∙◌, append-nil, arith, length-append}
use Rattle.std.proofs.lemmas.Bool.{eqb-true}
use Rattle.std.specs.Option.{option_or}
use Rattle.std.specs.Map.{lookup}
use Rattle.mt_base.specs.declared.kinds.Kind.{Kind}
use Rattle.mt_base.specs.declared.kinds.Kind.TheVariants.{Reliable, Lossy}
use Rattle.mt_base.specs.declared.kinds.Role.{Role}
use Rattle.mt_base.specs.declared.kinds.Role.TheVariants.{Server, Client}
use Rattle.mt_base.specs.Trace.{Trace, Start, ◌▷◌}
use Rattle.dvc_pdus.specs.Value.{Pdu, ChannelList, SyncRequest, SyncResponse}
use Rattle.soft_sync.specs.declared.kinds.Kinds.{Kinds}
use Rattle.soft_sync.specs.Exchanges.{Request, exchanges, has, kind_in, if_among, listed, moved}
use Rattle.soft_sync.specs.Words.{path_of, request_of}
use Rattle.mt_endpoint.specs.Acts.{Act, Syncs, Hears, Draws, Spoken, Carried}
use Rattle.mt_endpoint.specs.Said.{Moves, Moved}
use Rattle.mt_base.specs.Ends.{same_kind}
use Rattle.mt_endpoint.specs.Moving.{all_told, made_by, made, read_by, answer_read, inward, unanswered_in, channels_listed, request_read, kinds_of}
use Rattle.mt_endpoint.specs.Holding.{held, is_of, is_through, only, channel_of}
use Rattle.mt_endpoint.specs.Faults.{Unexpected, BadSyncAnswer, answers_fault}
use Rattle.mt_endpoint.specs.Growing.{among, oldest_among, if_through, freed, grown}
use Rattle.mt_endpoint.specs.Alone.{EndOfActs}
use Rattle.mt_endpoint.specs.Resting.{Rests}
use Rattle.mt_endpoint.proofs.ChannelPdus.{is_mine}
use Rattle.mt_endpoint.proofs.Words.{moved-none, moved-early}
use Rattle.mt_endpoint.proofs.Reading.{seen}
use Rattle.mt_endpoint.proofs.Closing.{draw_none, held_none}
use Rattle.mt_endpoint.proofs.Creating.{heard_fine}
use Rattle.mt_endpoint.proofs.Late.{fewer}
use Rattle.mt_endpoint.proofs.Ready.{EachIn, found_in}
use Rattle.mt_endpoint.proofs.Freed.{inward_client, inward_server, inward_same}
use Rattle.mt_endpoint.proofs.Walking.{IsNone, IsNext, acts_next, grown_walk}

-- ---- a server reads no more answers than it made requests

answered_some : (rs : List Request) (kinds : List Kind) → answers_fault rs kinds ≡ None → (r : Request) × (rest : List Request) × (rs ≡ r ∷ rest)
answered_some [] kinds h = absurd (let no : Some BadSyncAnswer ≡ None = h in cc)
answered_some (r ∷ rest) kinds h = (r, rest, refl)

few_act : (t : Trace Act) (act : Act) → EndOfActs Server (t ▷ act) → length (all_told answer_read t) ≤ length (all_told made_by t) → length (all_told answer_read t ++ answer_read act) ≤ length (all_told made_by t ++ made_by act)
few_act t (Hears (Spoken (SyncResponse types))) e h =
    let some = answered_some (unanswered_in (made t)) types (heard_fine Server t (SyncResponse types) (Moved types) e.1 refl refl) in
    omega (arith, fewer (all_told made_by t) (all_told answer_read t) some.0 some.1 some.2, length-append (all_told answer_read t) (kinds_of types ∷ []), length-append (all_told made_by t) [])
few_act t (Hears (Spoken pdu)) e h = omega (arith, h, length-append (all_told answer_read t) [], length-append (all_told made_by t) [])
few_act t act e h = omega (arith, h, length-append (all_told answer_read t) [], length-append (all_told made_by t) (made_by act))

few_read : (t : Trace Act) → EndOfActs Server t → length (all_told answer_read t) ≤ length (all_told made_by t)
few_read Start e = omega arith
few_read (t ▷ act) e = few_act t act e (few_read t e.2)

-- so a new request moves nothing inward
syncs_same : (role : Role) (t : Trace Act) (reliable lossy : List ℕ) → EndOfActs role (t ▷ Syncs reliable lossy) → (id : ℕ) → inward id (t ▷ Syncs reliable lossy) ≡ inward id t
syncs_same Client t reliable lossy e id = absurd (let no : Client ≡ Server = e.1.0.0 in cc)
syncs_same Server t reliable lossy e id =
    inward_server (t ▷ Syncs reliable lossy) id e ∙ ap (λ l. path_of (moved id (exchanges (all_told made_by t ++ request_of reliable lossy ∷ []) l))) (append-nil (all_told answer_read t))
    ∙ ap path_of (moved-early id (all_told made_by t) (request_of reliable lossy ∷ []) (all_told answer_read t) (few_read t e.2)) ∙ sym (inward_server t id e.2)

-- ---- the channels whose word an act reads are those that it frees

through_said : (kind : Kind) (o : Option Kind) → is_through kind (path_of o) ≡ true → o ≡ Some kind
through_said kind None h = absurd (let no : false ≡ true = h in cc)
through_said Reliable (Some Reliable) h = refl
through_said Reliable (Some Lossy) h = absurd (let no : false ≡ true = h in cc)
through_said Lossy (Some Reliable) h = absurd (let no : false ≡ true = h in cc)
through_said Lossy (Some Lossy) h = refl

through_self : (kind : Kind) → is_through kind (path_of (Some kind)) ≡ true
through_self Reliable = refl
through_self Lossy = refl

listed_split : (id : ℕ) (rs : List Request) (r : Request) (kind : Kind) → listed id (exchanges (rs ++ r ∷ []) []) ≡ Some kind → (listed id (exchanges rs []) ≡ Some kind) ⊎ (kind_in id r ≡ Some kind)
listed_split id [] r kind h = by_kind (kind_in id r) h where
  by_kind : (o : Option Kind) → option_or o None ≡ Some kind → (None ≡ Some kind) ⊎ (o ≡ Some kind)
  by_kind None k = inl k
  by_kind (Some made) k = inr k
listed_split id (x ∷ rs) r kind h = by_kind (kind_in id x) h (λ k. listed_split id rs r kind k) where
  by_kind : (o : Option Kind) → option_or o (listed id (exchanges (rs ++ r ∷ []) [])) ≡ Some kind → (listed id (exchanges (rs ++ r ∷ []) []) ≡ Some kind → (listed id (exchanges rs []) ≡ Some kind) ⊎ (kind_in id r ≡ Some kind))
      → (option_or o (listed id (exchanges rs [])) ≡ Some kind) ⊎ (kind_in id r ≡ Some kind)
  by_kind None k deeper = deeper k
  by_kind (Some made) k deeper = inl k

found_among : (P : ℕ → Kind → Type 0) (id : ℕ) (kind : Kind) (z : Kinds) (pairs : List (ℕ × Kind)) → EachIn P (among z pairs) → lookup (nat_eq id) pairs ≡ Some kind → has kind z ≡ true → P id kind
found_among P id kind z [] h found k = absurd (let no : None ≡ Some kind = found in cc)
found_among P id kind z ((x, made) ∷ pairs) h found k = by_test (eqb id x) refl (has made z) refl h found (λ g n. found_among P id kind z pairs g n k) where
  tail_of : (c : Bool) → EachIn P (cond c ((x, made) ∷ among z pairs) (among z pairs)) → EachIn P (among z pairs)
  tail_of true g = g.1
  tail_of false g = g

  head_of : (c : Bool) → c ≡ true → EachIn P (cond c ((x, made) ∷ among z pairs) (among z pairs)) → P x made
  head_of true q g = g.0
  head_of false q g = absurd (let no : false ≡ true = q in cc)

  by_test : (b : Bool) → eqb id x ≡ b → (c : Bool) → has made z ≡ c → EachIn P (cond c ((x, made) ∷ among z pairs) (among z pairs)) → cond b (Some made) (lookup (nat_eq id) pairs) ≡ Some kind
      → (EachIn P (among z pairs) → lookup (nat_eq id) pairs ≡ Some kind → P id kind) → P id kind
  by_test true s c q g n deeper =
      let same : made ≡ kind = cc in
      let it : id ≡ x = eqb-true id x s in
      subst (λ i. P i kind) (sym it) (subst (P x) same (head_of c (sym q ∙ ap (λ y. has y z) same ∙ k) g))
  by_test false s c q g n deeper = deeper (tail_of c g) n

moved_split : (P : ℕ → Kind → Type 0) (id : ℕ) (kind : Kind) (rs : List Request) (zs : List Kinds) (z : Kinds) → moved id (exchanges rs (zs ++ z ∷ [])) ≡ Some kind → EachIn P (oldest_among z (unanswered_in (exchanges rs zs)))
    → (moved id (exchanges rs zs) ≡ Some kind) ⊎ P id kind
moved_split P id kind [] zs z h all = absurd (let no : None ≡ Some kind = h in cc)
moved_split P id kind (r ∷ rs) [] z h all = by_kind (kind_in id r) refl h where
  by_has : (made : Kind) (b : Bool) → kind_in id r ≡ Some made → has made z ≡ b → option_or (cond b (Some made) None) (moved id (exchanges rs [])) ≡ Some kind → (moved id (exchanges (r ∷ rs) []) ≡ Some kind) ⊎ P id kind
  by_has made true e q k = let same : made ≡ kind = cc in inr (found_among P id kind z r.channels all (e ∙ k) (ap (λ y. has y z) (sym same) ∙ q))
  by_has made false e q k = absurd (let no : None ≡ Some kind = sym (moved-none id rs) ∙ k in cc)

  by_kind : (o : Option Kind) → kind_in id r ≡ o → option_or (if_among z o) (moved id (exchanges rs [])) ≡ Some kind → (moved id (exchanges (r ∷ rs) []) ≡ Some kind) ⊎ P id kind
  by_kind None e k = absurd (let no : None ≡ Some kind = sym (moved-none id rs) ∙ k in cc)
  by_kind (Some made) e k = by_has made (has made z) e refl k
moved_split P id kind (r ∷ rs) (y ∷ zs) z h all = by_first (if_among y (kind_in id r)) h (λ k. moved_split P id kind rs zs z k all) where
  by_first : (o : Option Kind) → option_or o (moved id (exchanges rs (zs ++ z ∷ []))) ≡ Some kind → (moved id (exchanges rs (zs ++ z ∷ [])) ≡ Some kind → (moved id (exchanges rs zs) ≡ Some kind) ⊎ P id kind)
      → (option_or o (moved id (exchanges rs zs)) ≡ Some kind) ⊎ P id kind
  by_first None k deeper = deeper k
  by_first (Some made) k deeper = inl k

-- ---- act by act

abbrev Covered : Role → Trace Act → Act → (ℕ → Kind → Type 0) → Type 0
Covered role t act P = (id : ℕ) (kind : Kind) → is_through kind (inward id (t ▷ act)) ≡ true → (only id (held role kind (t ▷ act)) ≡ []) ⊎ P id kind

-- an act that reads no word and pulls nothing
same_covered : (role : Role) (t : Trace Act) (act : Act) (P : ℕ → Kind → Type 0) → Rests role t → ((id : ℕ) → inward id (t ▷ act) ≡ inward id t)
    → ((made : Kind) (at : ℕ) (bytes : List ℕ) (pdu : Pdu) → act ≡ Draws made at (Carried bytes pdu) → ⊥) → Covered role t act P
same_covered role t act P r same away id kind h =
    inl (held_none role id kind t act (seen role t act) (λ made at bytes pdu is k kept. absurd (away made at bytes pdu is)) (r id kind (ap (is_through kind) (sym (same id)) ∙ h)))

request_covered : (role : Role) (t : Trace Act) (flags tunnels : ℕ) (lists : List ChannelList) (P : ℕ → Kind → Type 0) → EndOfActs role (t ▷ Hears (Spoken (SyncRequest flags tunnels lists))) → Rests role t → EachIn P (channels_listed lists)
    → Covered role t (Hears (Spoken (SyncRequest flags tunnels lists))) P
request_covered Server t flags tunnels lists P e r all id kind h =
    absurd (let no : Some Unexpected ≡ None = heard_fine Server t (SyncRequest flags tunnels lists) (Moves lists) e.1 refl refl in cc)
request_covered Client t flags tunnels lists P e r all id kind h =
    by_case (listed_split id (all_told read_by t) (request_read lists) kind (through_said kind _ (ap (is_through kind) (sym (inward_client (t ▷ Hears (Spoken (SyncRequest flags tunnels lists))) id e)) ∙ h))) where
      by_case : (listed id (exchanges (all_told read_by t) []) ≡ Some kind) ⊎ (lookup (nat_eq id) (channels_listed lists) ≡ Some kind) → (only id (held Client kind t) ≡ []) ⊎ P id kind
      by_case (inl old) = inl (r id kind (ap (is_through kind) (inward_client t id e.2) ∙ ap (λ o. is_through kind (path_of o)) old ∙ through_self kind))
      by_case (inr new) = inr (found_in P id kind (channels_listed lists) new all)

answer_covered : (role : Role) (t : Trace Act) (types : List Kind) (P : ℕ → Kind → Type 0) → EndOfActs role (t ▷ Hears (Spoken (SyncResponse types))) → Rests role t → EachIn P (oldest_among (kinds_of types) (unanswered_in (made t)))
    → Covered role t (Hears (Spoken (SyncResponse types))) P
answer_covered Client t types P e r all id kind h =
    absurd (let no : Some Unexpected ≡ None = heard_fine Client t (SyncResponse types) (Moved types) e.1 refl refl in cc)
answer_covered Server t types P e r all id kind h =
    by_case (moved_split P id kind (all_told made_by t) (all_told answer_read t) (kinds_of types)
    (through_said kind _ (ap (λ l. is_through kind (path_of (moved id (exchanges l (all_told answer_read t ++ kinds_of types ∷ []))))) (sym (append-nil (all_told made_by t))) ∙ ap (is_through kind) (sym (inward_server (t ▷ Hears (Spoken (SyncResponse types))) id e)) ∙ h)) all) where
      by_case : (moved id (made t) ≡ Some kind) ⊎ P id kind → (only id (held Server kind t) ≡ []) ⊎ P id kind
      by_case (inl old) = inl (r id kind (ap (is_through kind) (inward_server t id e.2) ∙ ap (λ o. is_through kind (path_of o)) old ∙ through_self kind))
      by_case (inr new) = inr new

of_channel : (id : ℕ) (channel : Option ℕ) → is_of id channel ≡ true → channel ≡ Some id
of_channel id None h = absurd (let no : false ≡ true = h in cc)
of_channel id (Some made) h = ap (λ x. Some x) (eqb-true made id h)

same_is : (kind made : Kind) → same_kind kind made ≡ true → made ≡ kind
same_is Reliable Reliable h = refl
same_is Reliable Lossy h = absurd (let no : false ≡ true = h in cc)
same_is Lossy Reliable h = absurd (let no : false ≡ true = h in cc)
same_is Lossy Lossy h = refl

the_one : (P : ℕ → Kind → Type 0) (id : ℕ) (kind : Kind) (b : Bool) → b ≡ true → EachIn P (cond b ((id, kind) ∷ []) []) → P id kind
the_one P id kind true h all = all.0
the_one P id kind false h all = absurd (let no : false ≡ true = h in cc)

draw_covered : (role : Role) (t : Trace Act) (made : Kind) (at : ℕ) (bytes : List ℕ) (pdu : Pdu) (P : ℕ → Kind → Type 0) → EndOfActs role (t ▷ Draws made at (Carried bytes pdu)) → Rests role t → EachIn P (if_through made t (channel_of pdu))
    → Covered role t (Draws made at (Carried bytes pdu)) P
draw_covered role t made at bytes pdu P e r all id kind h = by_mine (is_mine id pdu) refl where
  through : is_through kind (inward id t) ≡ true
  through = ap (is_through kind) (sym (inward_same role t (Draws made at (Carried bytes pdu)) e refl refl refl id)) ∙ h

  by_kind : (b : Bool) → same_kind kind made ≡ b → is_mine id pdu ≡ true → (only id (held role kind (t ▷ Draws made at (Carried bytes pdu))) ≡ []) ⊎ P id kind
  by_kind false k mine = inl (draw_none role id t kind made at bytes pdu (held role kind t) (λ same kept. absurd (let no : true ≡ false = sym same ∙ k in cc)) (r id kind through))
  by_kind true k mine =
      let it : made ≡ kind = same_is kind made k in
      let mine_all : EachIn P (if_through made t (Some id)) = subst (λ c. EachIn P (if_through made t c)) (of_channel id (channel_of pdu) mine) all in
      inr (subst (P id) it (the_one P id made (is_through made (inward id t)) (ap (λ x. is_through x (inward id t)) it ∙ through) mine_all))

  by_mine : (b : Bool) → is_mine id pdu ≡ b → (only id (held role kind (t ▷ Draws made at (Carried bytes pdu))) ≡ []) ⊎ P id kind
  by_mine false mine = inl (draw_none role id t kind made at bytes pdu (held role kind t) (λ same kept. mine) (r id kind through))
  by_mine true mine = by_kind (same_kind kind made) refl mine

covered : (role : Role) (t : Trace Act) (act : Act) (P : ℕ → Kind → Type 0) → EndOfActs role (t ▷ act) → Rests role t → EachIn P (freed t act) → Covered role t act P
covered role t (Hears (Spoken (SyncRequest flags tunnels lists))) P e r all = request_covered role t flags tunnels lists P e r all
covered role t (Hears (Spoken (SyncResponse types))) P e r all = answer_covered role t types P e r all
covered role t (Draws made at (Carried bytes pdu)) P e r all = draw_covered role t made at bytes pdu P e r all
covered role t (Syncs reliable lossy) P e r all = same_covered role t (Syncs reliable lossy) P r (syncs_same role t reliable lossy e) (λ made at bytes pdu is. cc)
covered role t act P e r all = same_covered role t act P r (inward_same role t act e refl refl refl) (λ made at bytes pdu is. cc)

-- ---- a whole step

pub grown_rests : (role : Role) (t : Trace Act) (act : Act) → EndOfActs role t → IsNext role t act → Rests role t → (grown role t act).fault ≡ None → Rests role (grown role t act).acts
grown_rests role t act e n r fine id kind h =
    let out = grown_walk role t act e n in
    by_case out.walked.none_more (covered role t act (IsNone role (grown role t act).acts) (acts_next role t act e n) r (out.rests fine) id kind (ap (is_through kind) (sym (out.walked.paths_are id)) ∙ h)) where
      by_case : ((id : ℕ) (kind : Kind) → only id (held role kind (t ▷ act)) ≡ [] → only id (held role kind (grown role t act).acts) ≡ []) → (only id (held role kind (t ▷ act)) ≡ []) ⊎ IsNone role (grown role t act).acts id kind
          → only id (held role kind (grown role t act).acts) ≡ []
      by_case none_more (inl none) = none_more id kind none
      by_case none_more (inr none) = none
