-- What an act makes due at an end stands where it may, and meets no fault where what is held is taken.
use Rattle.std.proofs.Common.{◌≡◌, ℕ, Bool, true, false, not, cond, List, [], ◌∷◌, ◌++◌, Option, None, Some, refl, sym, ap, subst, ◌∙◌, append-nil}
use Rattle.std.proofs.lemmas.Bool.{eqb-true}
use Rattle.mt_base.specs.declared.kinds.Role.{Role}
use Rattle.mt_base.specs.declared.kinds.Role.TheVariants.{Server, Client}
use Rattle.mt_base.specs.declared.kinds.Kind.{Kind}
use Rattle.mt_base.specs.declared.kinds.Kind.TheVariants.{Reliable, Lossy}
use Rattle.mt_base.specs.Trace.{Trace, ◌▷◌}
use Rattle.dvc_pdus.specs.Value.{Pdu}
use Rattle.soft_sync.specs.declared.kinds.Kinds.{Kinds}
use Rattle.soft_sync.specs.Exchanges.{Request, exchanges}
use Rattle.mt_endpoint.specs.Acts.{Act, Answers, Releases, Discards}
use Rattle.mt_endpoint.specs.Said.{said}
use Rattle.mt_endpoint.specs.Channels.{is_closed}
use Rattle.mt_base.specs.Ends.{same_kind}
use Rattle.mt_endpoint.specs.Moving.{all_told, read_by, answer_made, read, unanswered_in, may_answer, answer_to, inward}
use Rattle.mt_endpoint.specs.Holding.{Held, channel_of, held, is_of, is_through, only, unless_ended, without_first}
use Rattle.mt_endpoint.specs.Faults.{Why, release_fault}
use Rattle.mt_endpoint.specs.Growing.{Grown, fine, answer_all, answered, freed, grown, released, release_all}
use Rattle.mt_endpoint.specs.World.{IsStep, begins, fault_of, is_begun}
use Rattle.mt_endpoint.specs.Alone.{IsAct, IsAnswer, IsDue, IsDropped, EndOfActs}
use Rattle.mt_endpoint.proofs.HeldPdus.{ended_apart, first_gone, first_is_of, none_ended, none_first}
use Rattle.mt_endpoint.proofs.Tables.{not_closed_said}
use Rattle.mt_endpoint.proofs.ClosedHeld.{closed_none}
use Rattle.mt_endpoint.proofs.Growth.{Keeps, keeps_same, keeps_then, keeps_one}
use Rattle.mt_endpoint.proofs.Ready.{EachIn, in_later}
use Rattle.mt_endpoint.proofs.Freed.{IsRead, inward_same, each_freed}

-- ---- a walk of acts that are due

-- from `t` to `v`
pub record Walked (role : Role) (t v : Trace Act) : Type 0 where
  pub acts : EndOfActs role v
  pub begun : is_begun v ≡ true
  pub paths_are : (id : ℕ) → inward id v ≡ inward id t
  pub keeps : Keeps role t v
  -- nothing more is held
  pub none_more : (id : ℕ) (kind : Kind) → only id (held role kind t) ≡ [] → only id (held role kind v) ≡ []

stay : (role : Role) (t : Trace Act) → EndOfActs role t → is_begun t ≡ true → Walked role t t
stay role t e b = record { acts = e; begun = b; paths_are = λ id. refl; keeps = keeps_same role t; none_more = λ id kind h. h }

walk_on : (role : Role) (t v u : Trace Act) → Walked role t v → Walked role v u → Walked role t u
walk_on role t v u h k = record { acts = k.acts; begun = k.begun; paths_are = λ id. k.paths_are id ∙ h.paths_are id; keeps = keeps_then role t v u h.keeps k.keeps; none_more = λ id kind none. k.none_more id kind (h.none_more id kind none) }

due_next : (act : Act) (begun : Bool) → begun ≡ true → begins act ≡ false → begins act ≡ not begun
due_next act true b h = h
due_next act false b h = absurd (let no : false ≡ true = b in cc)

answers_next : (role : Role) (t : Trace Act) (named : Kinds) → EndOfActs role t → is_begun t ≡ true → IsAnswer role t named → Walked role t (t ▷ Answers named)
answers_next role t named e b a =
    let acts : EndOfActs role (t ▷ Answers named) = (due_next (Answers named) (is_begun t) b refl, a, e) in
    record { acts = acts; begun = refl; paths_are = inward_same role t (Answers named) acts refl refl refl; keeps = keeps_one role t (Answers named) refl (λ kind. refl); none_more = λ id kind h. h }

none_cond : (id : ℕ) (b : Bool) (channel : Option ℕ) (queue : List Held) → only id queue ≡ [] → only id (cond b (without_first channel queue) queue) ≡ []
none_cond id true channel queue none = none_first id channel queue none
none_cond id false channel queue none = none

none_released : (role : Role) (id : ℕ) (kind made : Kind) (t : Trace Act) (pdu : Pdu) → only id (held role kind t) ≡ [] → only id (unless_ended (said pdu) (cond (same_kind kind made) (without_first (channel_of pdu) (held role kind t)) (held role kind t))) ≡ []
none_released role id kind made t pdu none = none_ended id (said pdu) (cond (same_kind kind made) (without_first (channel_of pdu) (held role kind t)) (held role kind t)) (none_cond id (same_kind kind made) (channel_of pdu) (held role kind t) none)

releases_next : (role : Role) (t : Trace Act) (kind : Kind) (at : ℕ) (bytes : List ℕ) (pdu : Pdu) → EndOfActs role t → is_begun t ≡ true → IsDue role kind t at bytes pdu → Walked role t (t ▷ Releases kind at bytes pdu)
releases_next role t kind at bytes pdu e b a =
    let act : Act = Releases kind at bytes pdu in
    let acts : EndOfActs role (t ▷ act) = (due_next act (is_begun t) b refl, a, e) in
    record { acts = acts; begun = refl; paths_are = inward_same role t act acts refl refl refl; keeps = keeps_one role t act refl (λ kind. refl); none_more = λ id k none. none_released role id k kind t pdu none }

discards_next : (role : Role) (t : Trace Act) (at : ℕ) (bytes : List ℕ) (pdu : Pdu) → EndOfActs role t → is_begun t ≡ true → IsDropped role t at bytes pdu → Walked role t (t ▷ Discards at bytes pdu)
discards_next role t at bytes pdu e b a =
    let act : Act = Discards at bytes pdu in
    let acts : EndOfActs role (t ▷ act) = (due_next act (is_begun t) b refl, a, e) in
    record { acts = acts; begun = refl; paths_are = inward_same role t act acts refl refl refl; keeps = keeps_one role t act refl (λ kind. refl); none_more = λ id k none. none_cond id (same_kind k Lossy) (channel_of pdu) (held role k t) none }

-- ---- answers

unanswered_next : (rs : List Request) (zs : List Kinds) (z : Kinds) (r : Request) (rest : List Request) → unanswered_in (exchanges rs zs) ≡ r ∷ rest → unanswered_in (exchanges rs (zs ++ z ∷ [])) ≡ rest
unanswered_next [] zs z r rest h = absurd (let no : [] ≡ r ∷ rest = h in cc)
unanswered_next (x ∷ rs) [] z r rest h = let same : unanswered_in (exchanges rs []) ≡ rest = cc in same
unanswered_next (x ∷ rs) (y ∷ zs) z r rest h = unanswered_next rs zs z r rest h

-- the oldest request is answered, or has to wait
answer_case : (request : Request) (requests : List Request) (t : Trace Act) → EndOfActs Client t → is_begun t ≡ true → unanswered_in (read t) ≡ request ∷ requests
    → (c : Bool) → may_answer Client t request.named ≡ c
    → (Walked Client t (t ▷ Answers (answer_to Client t request.named)) → unanswered_in (read (t ▷ Answers (answer_to Client t request.named))) ≡ requests → Walked Client t (answer_all Client requests (t ▷ Answers (answer_to Client t request.named))))
    → Walked Client t (cond c (answer_all Client requests (t ▷ Answers (answer_to Client t request.named))) t)
answer_case request requests t e b h true may further =
    let named = answer_to Client t request.named in
    further (answers_next Client t named e b (record { is_client = refl; request = request; rest = requests; is_oldest = h; may = may; is_answer = refl }))
    (ap (λ l. unanswered_in (exchanges l (all_told answer_made t ++ named ∷ []))) (append-nil (all_told read_by t)) ∙ unanswered_next (all_told read_by t) (all_told answer_made t) named request requests h)
answer_case request requests t e b h false may further = stay Client t e b

pub answers_walk : (requests : List Request) (t : Trace Act) → EndOfActs Client t → is_begun t ≡ true → unanswered_in (read t) ≡ requests → Walked Client t (answer_all Client requests t)
answers_walk [] t e b h = stay Client t e b
answers_walk (request ∷ requests) t e b h =
    let later = t ▷ Answers (answer_to Client t request.named) in
    answer_case request requests t e b h (may_answer Client t request.named) refl
    (λ first rest. walk_on Client t later (answer_all Client requests later) first (answers_walk requests later first.acts first.begun rest))

pub answered_walk : (role : Role) (t : Trace Act) → EndOfActs role t → is_begun t ≡ true → Walked role t (answered role t)
answered_walk Server t e b = stay Server t e b
answered_walk Client t e b = answers_walk (unanswered_in (read t)) t e b refl

-- ---- releases

-- what is held first of a channel whose word to the reliable tunnel is read, and which is not closed, is
-- taken
abbrev pub IsCalm : Role → Trace Act → Type 0
IsCalm role v = (id : ℕ) (first : Held) (rest : List Held) → is_through Reliable (inward id v) ≡ true → is_closed role id v ≡ false → only id (held role Reliable v) ≡ first ∷ rest → release_fault role v first.pdu ≡ None

-- also as more is due
abbrev pub StaysCalm : Role → Trace Act → Type 0
StaysCalm role t = (v : Trace Act) → EndOfActs role v → Keeps role t v → IsCalm role v

-- nothing is held of this channel
abbrev pub IsNone : Role → Trace Act → ℕ → Kind → Type 0
IsNone role t id kind = only id (held role kind t) ≡ []

-- what the release of these channels leads to
pub record Out (role : Role) (t : Trace Act) (pairs : List (ℕ × Kind)) (g : Grown) : Type 0 where
  pub walked : Walked role t g.acts
  pub fine : StaysCalm role t → g.fault ≡ None
  pub rests : g.fault ≡ None → EachIn (IsNone role g.acts) pairs

calm_on : (role : Role) (t v : Trace Act) → Walked role t v → StaysCalm role t → StaysCalm role v
calm_on role t v h calm u e keeps = calm u e (keeps_then role t v u h.keeps keeps)

out_on : (role : Role) (t v : Trace Act) (pairs : List (ℕ × Kind)) (g : Grown) → Walked role t v → Out role v pairs g → Out role t pairs g
out_on role t v pairs g h k = record { walked = walk_on role t v g.acts h k.walked; fine = λ calm. k.fine (calm_on role t v h calm); rests = k.rests }

out_here : (role : Role) (t : Trace Act) (id : ℕ) (kind : Kind) → EndOfActs role t → is_begun t ≡ true → only id (held role kind t) ≡ [] → Out role t ((id, kind) ∷ []) (fine t)
out_here role t id kind e b none = record { walked = stay role t e b; fine = λ calm. refl; rests = λ n. (none, tt) }

-- the first PDU that is held of a channel is of it
of_channel : (id : ℕ) (channel : Option ℕ) → is_of id channel ≡ true → channel ≡ Some id
of_channel id None h = absurd (let no : false ≡ true = h in cc)
of_channel id (Some made) h = ap (λ x. Some x) (eqb-true made id h)

pub same_itself : (kind : Kind) → same_kind kind kind ≡ true
same_itself Reliable = refl
same_itself Lossy = refl

released_rest : (role : Role) (kind : Kind) (id : ℕ) (h : Held) (queue : List Held) (t : Trace Act) → channel_of h.pdu ≡ Some id → only id (held role kind t) ≡ h ∷ queue
    → is_closed role id (t ▷ Releases kind h.at h.bytes h.pdu) ≡ false → only id (held role kind (t ▷ Releases kind h.at h.bytes h.pdu)) ≡ queue
released_rest role kind id h queue t channel is live =
    ended_apart id (said h.pdu) (cond (same_kind kind kind) (without_first (channel_of h.pdu) (held role kind t)) (held role kind t)) (not_closed_said role id t h.pdu (said h.pdu) live)
    ∙ ap (λ b. only id (cond b (without_first (channel_of h.pdu) (held role kind t)) (held role kind t))) (same_itself kind)
    ∙ ap (λ c. only id (without_first c (held role kind t))) channel ∙ first_gone id (held role kind t) h queue is

discarded_rest : (role : Role) (id : ℕ) (h : Held) (queue : List Held) (t : Trace Act) → channel_of h.pdu ≡ Some id → only id (held role Lossy t) ≡ h ∷ queue → only id (held role Lossy (t ▷ Discards h.at h.bytes h.pdu)) ≡ queue
discarded_rest role id h queue t channel is = ap (λ c. only id (without_first c (held role Lossy t))) channel ∙ first_gone id (held role Lossy t) h queue is

-- what is held of the channel is what is left to release, unless it is closed
abbrev IsLeft : Role → Kind → ℕ → List Held → Trace Act → Type 0
IsLeft role kind id queue t = is_closed role id t ≡ false → only id (held role kind t) ≡ queue

left_none : (role : Role) (kind : Kind) (id : ℕ) (t : Trace Act) (b : Bool) → is_closed role id t ≡ b → IsLeft role kind id [] t → only id (held role kind t) ≡ []
left_none role kind id t true e l = closed_none role id kind t e
left_none role kind id t false e l = l e

pub released_walk : (role : Role) (kind : Kind) (id : ℕ) (queue : List Held) (t : Trace Act) → EndOfActs role t → is_begun t ≡ true → IsRead t id kind → IsLeft role kind id queue t
    → Out role t ((id, kind) ∷ []) (released role kind id queue t)
released_walk role kind id [] t e b r l = out_here role t id kind e b (left_none role kind id t (is_closed role id t) refl l)
released_walk role kind id (h ∷ queue) t e b r l =
    by_closed (is_closed role id t) refl
    (λ live w. (let next = release live w in out_on role t (t ▷ Releases kind h.at h.bytes h.pdu) _ _ next
    (released_walk role kind id queue (t ▷ Releases kind h.at h.bytes h.pdu) next.acts next.begun (ap (is_through kind) (next.paths_are id) ∙ r) (λ g. released_rest role kind id h queue t (mine live) (l live) g))))
    (λ live lossy. (let next = drop live lossy in out_on role t (t ▷ Discards h.at h.bytes h.pdu) _ _ next
    (released_walk role Lossy id queue (t ▷ Discards h.at h.bytes h.pdu) next.acts next.begun (ap (is_through Lossy) (next.paths_are id) ∙ ap (λ k. is_through k (inward id t)) (sym lossy) ∙ r)
    (λ g. discarded_rest role id h queue t (mine live) (ap (λ k. only id (held role k t)) (sym lossy) ∙ l live))))) where
      Deeper : Type 0
      Deeper = is_closed role id t ≡ false → release_fault role t h.pdu ≡ None → Out role t ((id, kind) ∷ []) (released role kind id queue (t ▷ Releases kind h.at h.bytes h.pdu))

      Other : Type 0
      Other = is_closed role id t ≡ false → kind ≡ Lossy → Out role t ((id, Lossy) ∷ []) (released role Lossy id queue (t ▷ Discards h.at h.bytes h.pdu))

      mine : is_closed role id t ≡ false → channel_of h.pdu ≡ Some id
      mine live = of_channel id (channel_of h.pdu) (first_is_of id (held role kind t) h queue (l live))

      release : is_closed role id t ≡ false → release_fault role t h.pdu ≡ None → Walked role t (t ▷ Releases kind h.at h.bytes h.pdu)
      release live w =
          releases_next role t kind h.at h.bytes h.pdu e b (record { id = id; rest = queue; channel_is = mine live; word_is_read = r; is_fresh = live; is_oldest = l live; is_taken = w })

      drop : is_closed role id t ≡ false → kind ≡ Lossy → Walked role t (t ▷ Discards h.at h.bytes h.pdu)
      drop live lossy =
          discards_next role t h.at h.bytes h.pdu e b
          (record { id = id; rest = queue; channel_is = mine live; word_is_read = ap (λ k. is_through k (inward id t)) (sym lossy) ∙ r; is_fresh = live; is_oldest = ap (λ k. only id (held role k t)) (sym lossy) ∙ l live })

      by_kind : (k : Kind) (why : Why) → kind ≡ k → is_closed role id t ≡ false → release_fault role t h.pdu ≡ Some why → Other → Out role t ((id, kind) ∷ []) (elim k as (λ w. Grown) [
        | Reliable ↦ record { acts = t; fault = Some (h.at, why) }
        | Lossy ↦ released role Lossy id queue (t ▷ Discards h.at h.bytes h.pdu)
      ])
      by_kind Reliable why k live w o = record {
        walked = stay role t e b;
        fine = λ calm. (let none : release_fault role t h.pdu ≡ None =
            calm t e (keeps_same role t) id h queue (ap (λ x. is_through x (inward id t)) (sym k) ∙ r) live (ap (λ x. only id (held role x t)) (sym k) ∙ l live) in
            absurd (let no : None ≡ Some why = sym none ∙ w in cc));
        rests = λ n. absurd (let no : Some (h.at, why) ≡ None = n in cc);
      }
      by_kind Lossy why k live w o = subst (λ x. Out role t ((id, x) ∷ []) (released role Lossy id queue (t ▷ Discards h.at h.bytes h.pdu))) (sym k) (o live k)

      by_fault : (w : Option Why) → is_closed role id t ≡ false → release_fault role t h.pdu ≡ w → Deeper → Other → Out role t ((id, kind) ∷ []) (elim w as (λ w. Grown) [
        | None ↦ released role kind id queue (t ▷ Releases kind h.at h.bytes h.pdu)
        | Some why ↦ elim kind as (λ w. Grown) [
          | Reliable ↦ record { acts = t; fault = Some (h.at, why) }
          | Lossy ↦ released role Lossy id queue (t ▷ Discards h.at h.bytes h.pdu)
        ]
      ])
      by_fault None live w d o = d live w
      by_fault (Some why) live w d o = by_kind kind why refl live w o

      by_closed : (c : Bool) → is_closed role id t ≡ c → Deeper → Other → Out role t ((id, kind) ∷ []) (cond c (fine t) (elim (release_fault role t h.pdu) as (λ w. Grown) [
        | None ↦ released role kind id queue (t ▷ Releases kind h.at h.bytes h.pdu)
        | Some why ↦ elim kind as (λ w. Grown) [
          | Reliable ↦ record { acts = t; fault = Some (h.at, why) }
          | Lossy ↦ released role Lossy id queue (t ▷ Discards h.at h.bytes h.pdu)
        ]
      ]))
      by_closed true live d o = out_here role t id kind e b (closed_none role id kind t live)
      by_closed false live d o = by_fault (release_fault role t h.pdu) live refl d o

pub all_walk : (role : Role) (pairs : List (ℕ × Kind)) (t : Trace Act) → EndOfActs role t → is_begun t ≡ true → EachIn (IsRead t) pairs → Out role t pairs (release_all role pairs t)
all_walk role [] t e b r = record { walked = stay role t e b; fine = λ calm. refl; rests = λ n. tt }
all_walk role ((id, kind) ∷ pairs) t e b r =
    let g = released role kind id (only id (held role kind t)) t in
    let o = released_walk role kind id (only id (held role kind t)) t e b r.0 (λ live. refl) in
    let later = in_later (IsRead t) (IsRead g.acts) (λ x k h. ap (is_through k) (o.walked.paths_are x) ∙ h) pairs r.1 in
    by_fault g.fault refl o (all_walk role pairs g.acts o.walked.acts o.walked.begun later) where
      by_fault : (w : Option (ℕ × Why)) → (released role kind id (only id (held role kind t)) t).fault ≡ w → Out role t ((id, kind) ∷ []) (released role kind id (only id (held role kind t)) t)
          → Out role (released role kind id (only id (held role kind t)) t).acts pairs (release_all role pairs (released role kind id (only id (held role kind t)) t).acts)
          → Out role t ((id, kind) ∷ pairs) (elim w as (λ w. Grown) [ Some fault ↦ released role kind id (only id (held role kind t)) t | None ↦ release_all role pairs (released role kind id (only id (held role kind t)) t).acts ])
      by_fault (Some fault) w o deeper = record { walked = o.walked; fine = o.fine; rests = λ n. absurd (let no : Some fault ≡ None = sym w ∙ n in cc) }
      by_fault None w o deeper = record {
        walked = walk_on role t (released role kind id (only id (held role kind t)) t).acts _ o.walked deeper.walked;
        fine = λ calm. deeper.fine (calm_on role t (released role kind id (only id (held role kind t)) t).acts o.walked calm);
        rests = λ n. (deeper.walked.none_more id kind (o.rests w).0, deeper.rests n);
      }

-- ---- a whole step

abbrev pub IsNext : Role → Trace Act → Act → Type 0
IsNext role here act = (begins act ≡ not (is_begun here)) × IsStep role here act × fault_of role here act

act_is : (role : Role) (here : Trace Act) (act : Act) → IsStep role here act → fault_of role here act → IsAct role here act
act_is role here (Answers named) s f = absurd s
act_is role here (Releases kind at bytes pdu) s f = absurd s
act_is role here (Discards at bytes pdu) s f = absurd s
act_is role here act s f = (s, f)

pub acts_next : (role : Role) (here : Trace Act) (act : Act) → EndOfActs role here → IsNext role here act → EndOfActs role (here ▷ act)
acts_next role here act e n = (n.0, act_is role here act n.1 n.2, e)

pub grown_walk : (role : Role) (here : Trace Act) (act : Act) → EndOfActs role here → IsNext role here act → Out role (here ▷ act) (freed here act) (grown role here act)
grown_walk role here act e n =
    let acts = acts_next role here act e n in
    let walked = answered_walk role (here ▷ act) acts refl in
    let words = in_later (IsRead (here ▷ act)) (IsRead (answered role (here ▷ act))) (λ id kind h. ap (is_through kind) (walked.paths_are id) ∙ h) (freed here act) (each_freed role here act acts) in
    out_on role (here ▷ act) (answered role (here ▷ act)) (freed here act) (grown role here act) walked (all_walk role (freed here act) (answered role (here ▷ act)) walked.acts walked.begun words)
