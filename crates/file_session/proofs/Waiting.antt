-- The messages that wait at an end are those that were delivered and not handed out.
use Rattle.std.proofs.Common.{◌≡◌, ℕ, ◌+◌, ◌<◌, Bool, true, false, cond, List, [], ◌∷◌, ◌++◌, length, Option, Some, None, refl, ap, ◌∙◌, subst, arith, length-append}
use Rattle.mt_base.specs.declared.kinds.Role.{Role}
use Rattle.mt_base.specs.declared.kinds.Role.TheVariants.{Server, Client}
use Rattle.mt_base.specs.Trace.{Trace, ◌▷◌}
use Rattle.carrier.specs.declared.state.LinkState.{LinkState}
use Rattle.carrier.specs.Entries as link
use Rattle.dvc_channels.specs.Acts as channels
use Rattle.dvc_channels.specs.Table as table_of
use Rattle.soft_sync.specs.Exchanges.{Request}
use Rattle.mt_endpoint.specs.Acts.{Act, Answers, Takes}
use Rattle.mt_endpoint.specs.Channels.{table}
use Rattle.mt_endpoint.specs.Growing.{answer_all, grown}
use Rattle.mt_endpoint.specs.Moving.{answer_to, may_answer, read, unanswered_in}
use Rattle.end_calls.specs.Calls.{Entry, Own, acts, bare, past}
use Rattle.end_calls.specs.Streams.{Past, grows, is_broken}
use Rattle.endpoint.specs.Kept.{Kept}
use Rattle.endpoint.specs.Standing.{EndStands}
use Rattle.file_session.specs.Taking.{waiting_at, whole_in}

-- answers leave the channels as they are
answered_table : (requests : List Request) (t : Trace Act) → table Client (answer_all Client requests t) ≡ table Client t
answered_table [] t = refl
answered_table (request ∷ requests) t = by_test (may_answer Client t request.named) (answered_table requests (t ▷ Answers (answer_to Client t request.named))) where
  by_test : (b : Bool) → table Client (answer_all Client requests (t ▷ Answers (answer_to Client t request.named))) ≡ table Client t → table Client (cond b (answer_all Client requests (t ▷ Answers (answer_to Client t request.named))) t) ≡ table Client t
  by_test true rest = rest
  by_test false rest = refl

grown_table : (role : Role) (t : Trace Act) (id : ℕ) (message : List ℕ) → table role (grown role t (Takes id message)).acts ≡ table role t ▷ channels.Took id message
grown_table Server t id message = refl
grown_table Client t id message = answered_table (unanswered_in (read (t ▷ Takes id message))) (t ▷ Takes id message)

pub taken_table : (role : Role) (t : Trace Entry) (id : ℕ) (message : List ℕ) → table role (acts role (t ▷ Own (Takes id message))) ≡ table role (acts role t) ▷ channels.Took id message
taken_table role t id message = by_test (past role t) (is_broken (past role t)) where
  by_test : (p : Past) (b : Bool) → table role (cond b (bare (Takes id message) p) (grows role (Takes id message) p)).acts ≡ table role p.acts ▷ channels.Took id message
  by_test p true = refl
  by_test p false = grown_table role p.acts id message

kept_size : (o : Option table_of.Kept) (t : Trace channels.Act) (id : ℕ) → table_of.IsKept o t id → length (channels.delivered t id) ≡ length (channels.taken t id) + length (whole_in o)
kept_size None t id h = let a = h.nothing_came in let b = h.nothing_taken in rw (a, b) refl
kept_size (Some k) t id h = ap length h.messages_are ∙ length-append (channels.taken t id) k.whole

size : {C P : Type 0} (carrier_stands : C → Trace link.Entry → Type 0) (carrier_left : C → List ℕ) (carrier_condition : C → LinkState) (post_stands : P → Trace link.Entry → Type 0) (post_left : P → List (List ℕ)) (post_condition : P → LinkState) (end : Kept C P) (role : Role) (t : Trace Entry) (id : ℕ)
    → EndStands carrier_stands carrier_left carrier_condition post_stands post_left post_condition end role t
    → length (channels.delivered (table role (acts role t)) id) ≡ length (channels.taken (table role (acts role t)) id) + length (waiting_at id end)
size carrier_stands carrier_left carrier_condition post_stands post_left post_condition end role t id e =
    let st = ((e.tells).reads).stands in
    let k = kept_size _ (table ((end.reader).session).role (acts role t)) id (((st.knows).channels_stand).channels id) in
    subst (λ r. length (channels.delivered (table r (acts role t)) id) ≡ length (channels.taken (table r (acts role t)) id) + length (waiting_at id end)) (e.tells).role_is k

-- one fewer waits when one was handed out
pub falls : {C P : Type 0} (carrier_stands : C → Trace link.Entry → Type 0) (carrier_left : C → List ℕ) (carrier_condition : C → LinkState) (post_stands : P → Trace link.Entry → Type 0) (post_left : P → List (List ℕ)) (post_condition : P → LinkState) (old new : Kept C P) (role : Role) (t : Trace Entry) (message : List ℕ)
    → EndStands carrier_stands carrier_left carrier_condition post_stands post_left post_condition old role t → EndStands carrier_stands carrier_left carrier_condition post_stands post_left post_condition new role (t ▷ Own (Takes 1 message))
    → length (waiting_at 1 new) < length (waiting_at 1 old)
falls carrier_stands carrier_left carrier_condition post_stands post_left post_condition old new role t message before after =
    let a = size carrier_stands carrier_left carrier_condition post_stands post_left post_condition old role t 1 before in
    let b = size carrier_stands carrier_left carrier_condition post_stands post_left post_condition new role (t ▷ Own (Takes 1 message)) 1 after in
    let u = table role (acts role t) in
    let c : length (channels.delivered u 1) ≡ length (channels.taken u 1 ++ message ∷ []) + length (waiting_at 1 new) =
    subst (λ v. length (channels.delivered v 1) ≡ length (channels.taken v 1) + length (waiting_at 1 new)) (taken_table role t 1 message) b in
    omega (arith, a, c, length-append (channels.taken u 1) (message ∷ []))
