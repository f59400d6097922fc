-- What stands for the messages of all channels, with one entry more.
use Rattle.std.proofs.Common.{◌≡◌, ◌≢◌, ℕ, ◌+◌, inl, inr, Bool, true, false, ◌&&◌, nat_eq, cond, List, [], ◌∷◌, ◌++◌, Some, None, Result, Ok, Err, OnOk, refl, sym, ap, subst, arith}
use Rattle.std.proofs.lemmas.Bool.{cases_order}
use Rattle.mt_base.specs.declared.kinds.Role.{Role}
use Rattle.mt_base.specs.declared.kinds.Role.TheVariants.{Server, Client}
use Rattle.mt_base.specs.declared.kinds.Kind.{Kind}
use Rattle.mt_base.specs.declared.kinds.Kind.TheVariants.{Reliable, Lossy}
use Rattle.mt_base.specs.Ends.{other, same_role}
use Rattle.capture_check.specs.declared.entry.Entry.{Entry}
use Rattle.capture_check.specs.declared.entry.Entry.TheVariants.{Issue, Open, Sent, Got, Main, Word, Out, In}
use Rattle.capture_check.specs.declared.deliveries.Deliveries.{Deliveries}
use Rattle.capture_check.specs.Messages.{message_in, is_lossy_word, is_got_from, Follows, start, WasSent}
use Rattle.capture_check.specs.Flows.{FlowView, with_message, flow_of}
use Rattle.capture_check.specs.FlowsSoFar.{IsFlow, AreFlows, AreDeliveries}
use Rattle.capture_check.proofs.Flowing.{another, unmoved, sent_more, moved_now, delivered}

pub on_ok : {T E A B C : Type 0} (r : Result T E) → (A → B → C) → OnOk r A → OnOk r B → OnOk r C
on_ok (Ok x) f a b = f a b
on_ok (Err e) f a b = tt

-- nothing was sent
pub none_delivered : (server client : List (ℕ × FlowView)) → server ≡ [] → client ≡ [] → AreDeliveries [] (record { server = server; client = client })
none_delivered server client no_server no_client Server id =
    subst (λ f. IsFlow Server id [] (flow_of f id)) (sym no_server) (record { sent_is = refl; matched_is = start [] 0 refl refl; lossy_is = refl })
none_delivered server client no_server no_client Client id =
    subst (λ f. IsFlow Client id [] (flow_of f id)) (sym no_client) (record { sent_is = refl; matched_is = start [] 0 refl refl; lossy_is = refl })

-- ---- one side

module _ (side : Role) (before : List Entry) (entry : Entry) (old new : List (ℕ × FlowView)) (id : ℕ) where
  -- only the flow of one channel changes
  one_changes : ((o : ℕ) → o ≢ id → flow_of new o ≡ flow_of old o) → IsFlow side id (before ++ entry ∷ []) (flow_of new id)
      → ((o : ℕ) → o ≢ id → (message_in side o entry ≡ None) × (is_lossy_word side o entry ≡ false) × (is_got_from side o entry ≡ false))
      → AreFlows side before old → AreFlows side (before ++ entry ∷ []) new
  one_changes others here nothing are o =
      elim (cases_order o id) [
        | inl equal ↦ subst (λ n. IsFlow side n (before ++ entry ∷ []) (flow_of new n)) (sym equal) here
        | inr (inl less) ↦ elsewhere (λ e. omega (arith, less, e))
        | inr (inr greater) ↦ elsewhere (λ e. omega (arith, greater, e))
      ]
    where
      elsewhere : o ≢ id → IsFlow side o (before ++ entry ∷ []) (flow_of new o)
      elsewhere apart =
          let is = nothing o apart in
          subst (IsFlow side o (before ++ entry ∷ [])) (sym (others o apart)) (unmoved side o before entry (flow_of old o) is.0 is.1 is.2 (are o))

-- an entry that is nothing to a side
unchanged : (side : Role) (before : List Entry) (entry : Entry) (flows : List (ℕ × FlowView)) → ((o : ℕ) → (message_in side o entry ≡ None) × (is_lossy_word side o entry ≡ false) × (is_got_from side o entry ≡ false))
    → AreFlows side before flows → AreFlows side (before ++ entry ∷ []) flows
unchanged side before entry flows nothing are o = let is = nothing o in unmoved side o before entry (flow_of flows o) is.0 is.1 is.2 (are o)

and_false : (b c : Bool) → c ≡ false → (b && c) ≡ false
and_false true c is = is
and_false false c is = refl

sent_flows : (side : Role) (id : ℕ) (before : List Entry) (message : List ℕ) (old new : List (ℕ × FlowView)) → flow_of new id ≡ with_message message (flow_of old id) → ((o : ℕ) → o ≢ id → flow_of new o ≡ flow_of old o)
    → AreFlows side before old → AreFlows side (before ++ Sent side id message ∷ []) new
sent_flows side id before message old new here others are =
    one_changes side before (Sent side id message) old new id others (sent_more side id before message (flow_of old id) (flow_of new id) here (are id))
    (λ o apart. (ap (λ b. cond b (Some message) None) (and_false (same_role side side) (nat_eq o id) (another o id apart)), refl, refl)) are

moved_flows : (side : Role) (id : ℕ) (before : List Entry) (old new : List (ℕ × FlowView)) → flow_of new id ≡ record (flow_of old id) { lossy = true } → ((o : ℕ) → o ≢ id → flow_of new o ≡ flow_of old o)
    → AreFlows side before old → AreFlows side (before ++ Word side Lossy id ∷ []) new
moved_flows side id before old new here others are =
    one_changes side before (Word side Lossy id) old new id others (moved_now side id before (flow_of old id) (flow_of new id) here (are id))
    (λ o apart. (refl, and_false (same_role side side) (nat_eq o id) (another o id apart), refl)) are

got_flows : (receiver : Role) (id : ℕ) (before : List Entry) (message : List ℕ) (old new : List (ℕ × FlowView)) (place : ℕ) → flow_of new id ≡ record (flow_of old id) { matched = place + 1 }
    → Follows (flow_of old id).sent (flow_of old id).lossy (flow_of old id).matched message place → ((o : ℕ) → o ≢ id → flow_of new o ≡ flow_of old o)
    → AreFlows (other receiver) before old → AreFlows (other receiver) (before ++ Got receiver id message ∷ []) new
got_flows receiver id before message old new place here follows others are =
    one_changes (other receiver) before (Got receiver id message) old new id others (delivered receiver id before message (flow_of old id) (flow_of new id) place here follows (are id))
    (λ o apart. (refl, refl, and_false (same_role (other receiver) (other receiver)) (nat_eq o id) (another o id apart))) are

-- ---- both sides

pub server_sent : (before : List Entry) (id : ℕ) (message : List ℕ) (d : Deliveries) (new : List (ℕ × FlowView)) → flow_of new id ≡ with_message message (flow_of d.server id) → ((o : ℕ) → o ≢ id → flow_of new o ≡ flow_of d.server o)
    → AreDeliveries before d → AreDeliveries (before ++ Sent Server id message ∷ []) (record { server = new; client = d.client })
server_sent before id message d new here others are Server = sent_flows Server id before message d.server new here others (are Server)
server_sent before id message d new here others are Client = unchanged Client before (Sent Server id message) d.client (λ o. (refl, refl, refl)) (are Client)

pub client_sent : (before : List Entry) (id : ℕ) (message : List ℕ) (d : Deliveries) (new : List (ℕ × FlowView)) → flow_of new id ≡ with_message message (flow_of d.client id) → ((o : ℕ) → o ≢ id → flow_of new o ≡ flow_of d.client o)
    → AreDeliveries before d → AreDeliveries (before ++ Sent Client id message ∷ []) (record { server = d.server; client = new })
client_sent before id message d new here others are Client = sent_flows Client id before message d.client new here others (are Client)
client_sent before id message d new here others are Server = unchanged Server before (Sent Client id message) d.server (λ o. (refl, refl, refl)) (are Server)

pub server_moved : (before : List Entry) (id : ℕ) (d : Deliveries) (new : List (ℕ × FlowView)) → flow_of new id ≡ record (flow_of d.server id) { lossy = true } → ((o : ℕ) → o ≢ id → flow_of new o ≡ flow_of d.server o)
    → AreDeliveries before d → AreDeliveries (before ++ Word Server Lossy id ∷ []) (record { server = new; client = d.client })
server_moved before id d new here others are Server = moved_flows Server id before d.server new here others (are Server)
server_moved before id d new here others are Client = unchanged Client before (Word Server Lossy id) d.client (λ o. (refl, refl, refl)) (are Client)

pub client_moved : (before : List Entry) (id : ℕ) (d : Deliveries) (new : List (ℕ × FlowView)) → flow_of new id ≡ record (flow_of d.client id) { lossy = true } → ((o : ℕ) → o ≢ id → flow_of new o ≡ flow_of d.client o)
    → AreDeliveries before d → AreDeliveries (before ++ Word Client Lossy id ∷ []) (record { server = d.server; client = new })
client_moved before id d new here others are Client = moved_flows Client id before d.client new here others (are Client)
client_moved before id d new here others are Server = unchanged Server before (Word Client Lossy id) d.server (λ o. (refl, refl, refl)) (are Server)

pub client_got : (before : List Entry) (id : ℕ) (message : List ℕ) (d : Deliveries) (new : List (ℕ × FlowView)) (place : ℕ) → flow_of new id ≡ record (flow_of d.server id) { matched = place + 1 }
    → Follows (flow_of d.server id).sent (flow_of d.server id).lossy (flow_of d.server id).matched message place → ((o : ℕ) → o ≢ id → flow_of new o ≡ flow_of d.server o)
    → AreDeliveries before d → AreDeliveries (before ++ Got Client id message ∷ []) (record { server = new; client = d.client })
client_got before id message d new place here follows others are Server = got_flows Client id before message d.server new place here follows others (are Server)
client_got before id message d new place here follows others are Client = unchanged Client before (Got Client id message) d.client (λ o. (refl, refl, refl)) (are Client)

pub server_got : (before : List Entry) (id : ℕ) (message : List ℕ) (d : Deliveries) (new : List (ℕ × FlowView)) (place : ℕ) → flow_of new id ≡ record (flow_of d.client id) { matched = place + 1 }
    → Follows (flow_of d.client id).sent (flow_of d.client id).lossy (flow_of d.client id).matched message place → ((o : ℕ) → o ≢ id → flow_of new o ≡ flow_of d.client o)
    → AreDeliveries before d → AreDeliveries (before ++ Got Server id message ∷ []) (record { server = d.server; client = new })
server_got before id message d new place here follows others are Client = got_flows Server id before message d.client new place here follows others (are Client)
server_got before id message d new place here follows others are Server = unchanged Server before (Got Server id message) d.server (λ o. (refl, refl, refl)) (are Server)

-- ---- entries that are nothing to either side

word_for_reliable : (s side : Role) (o id : ℕ) → is_lossy_word s o (Word side Reliable id) ≡ false
word_for_reliable s side o id = and_false (same_role s side) false refl

pub moved_to_reliable : (before : List Entry) (side : Role) (id : ℕ) (d : Deliveries) → AreDeliveries before d → AreDeliveries (before ++ Word side Reliable id ∷ []) d
moved_to_reliable before side id d are Server = unchanged Server before (Word side Reliable id) d.server (λ o. (refl, word_for_reliable Server side o id, refl)) (are Server)
moved_to_reliable before side id d are Client = unchanged Client before (Word side Reliable id) d.client (λ o. (refl, word_for_reliable Client side o id, refl)) (are Client)

-- an entry of no message and no word
module _ (before : List Entry) (d : Deliveries) (are : AreDeliveries before d) where
  nothing_for_both : (entry : Entry) → ((side : Role) (o : ℕ) → (message_in side o entry ≡ None) × (is_lossy_word side o entry ≡ false) × (is_got_from side o entry ≡ false))
      → AreDeliveries (before ++ entry ∷ []) d
  nothing_for_both entry nothing Server = unchanged Server before entry d.server (nothing Server) (are Server)
  nothing_for_both entry nothing Client = unchanged Client before entry d.client (nothing Client) (are Client)

  pub quiet : (entry : Entry) → ((side : Role) (id : ℕ) (message : List ℕ) → entry ≢ Sent side id message) → ((side : Role) (id : ℕ) (message : List ℕ) → entry ≢ Got side id message)
      → ((side : Role) (kind : Kind) (id : ℕ) → entry ≢ Word side kind id) → WasSent before entry × AreDeliveries (before ++ entry ∷ []) d
  quiet (Issue id k cookie) not_sent not_got not_word = (tt, nothing_for_both (Issue id k cookie) (λ side o. (refl, refl, refl)))
  quiet (Open id name) not_sent not_got not_word = (tt, nothing_for_both (Open id name) (λ side o. (refl, refl, refl)))
  quiet (Sent side id message) not_sent not_got not_word = absurd (not_sent side id message refl)
  quiet (Got side id message) not_sent not_got not_word = absurd (not_got side id message refl)
  quiet (Main side bytes) not_sent not_got not_word = (tt, nothing_for_both (Main side bytes) (λ side o. (refl, refl, refl)))
  quiet (Word side kind id) not_sent not_got not_word = absurd (not_word side kind id refl)
  quiet (Out side k number datagram) not_sent not_got not_word = (tt, nothing_for_both (Out side k number datagram) (λ side o. (refl, refl, refl)))
  quiet (In side k number) not_sent not_got not_word = (tt, nothing_for_both (In side k number) (λ side o. (refl, refl, refl)))
