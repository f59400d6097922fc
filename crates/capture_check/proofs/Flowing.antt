-- What stands for the messages of channels, with one entry more.
use Rattle.std.proofs.Common.{◌≡◌, ◌≢◌, ℕ, ◌+◌, Bool, true, false, ◌||◌, ◌&&◌, nat_eq, cond, List, [], ◌∷◌, ◌++◌, Some, None, refl, sym, ap, subst, ◌∙◌, append-nil, arith}
use Rattle.std.proofs.lemmas.Bool.Decides.{nat_tests}
use Rattle.std.proofs.lemmas.List.Elements.{filter_map-append}
use Rattle.std.proofs.lemmas.List.Folds.{list_any-append}
use Rattle.std.specs.List.{cons_option}
use Rattle.mt_base.specs.declared.kinds.Role.{Role}
use Rattle.mt_base.specs.declared.kinds.Role.TheVariants.{Server, Client}
use Rattle.mt_base.specs.declared.kinds.Kind.TheVariants.{Lossy}
use Rattle.mt_base.specs.Ends.{other, same_role}
use Rattle.capture_check.specs.declared.entry.Entry.{Entry}
use Rattle.capture_check.specs.declared.entry.Entry.TheVariants.{Sent, Got, Word}
use Rattle.capture_check.specs.Messages.{message_in, sent_by, is_lossy_word, went_lossy, is_got_from, Follows, Matched, start, still, more, WasSent}
use Rattle.capture_check.specs.Flows.{FlowView, with_message}
use Rattle.capture_check.specs.FlowsSoFar.{IsFlow}
use Rattle.capture_check.proofs.Stepping.{last_same, not_empty}
use Rattle.capture_check.proofs.Following.{one_place}

-- ---- what was matched, is one number

gots_same : (r q : Role) (i j : ℕ) (m n : List ℕ) → Got r i m ≡ Got q j n → m ≡ n
gots_same r q i j m n e = cc

itself : (id : ℕ) → nat_eq id id ≡ true
itself id = grind (arith, nat_tests)

pub another : (a b : ℕ) → a ≢ b → nat_eq a b ≡ false
another a b h = grind (arith, nat_tests)

pub role_itself : (side : Role) → same_role side side ≡ true
role_itself Server = refl
role_itself Client = refl

is_got : (side receiver : Role) (id : ℕ) (message : List ℕ) → side ≡ other receiver → is_got_from side id (Got receiver id message) ≡ true
is_got side receiver id message is =
    ap (λ s. same_role s (other receiver) && nat_eq id id) is ∙ ap (λ b. b && nat_eq id id) (role_itself (other receiver)) ∙ itself id

pub one_count : (side : Role) (id : ℕ) (xs : List Entry) (m n : ℕ) → Matched side id xs m → Matched side id xs n → m ≡ n
one_count side id xs m n (start _ _ is zero_is) (start _ _ also zero_also) = zero_is ∙ sym zero_also
one_count side id xs m n (start _ _ is zero_is) (still _ before entry _ parts no_got matched) = absurd (not_empty before entry (sym parts ∙ is))
one_count side id xs m n (start _ _ is zero_is) (more _ before receiver message earlier _ parts from matched place follows count) = absurd (not_empty before (Got receiver id message) (sym parts ∙ is))
one_count side id xs m n (still _ before entry _ parts no_got matched) (start _ _ is zero_is) = absurd (not_empty before entry (sym parts ∙ is))
one_count side id xs m n (still _ before entry _ parts no_got matched) (still _ before_too entry_too _ parts_too no_got_too matched_too) =
    let lists = last_same before before_too entry entry_too (sym parts ∙ parts_too) in
    one_count side id before m n matched (subst (λ l. Matched side id l n) (sym lists.0) matched_too)
one_count side id xs m n (still _ before entry _ parts no_got matched) (more _ before_too receiver message earlier _ parts_too from matched_too place follows count) =
    let lists = last_same before before_too entry (Got receiver id message) (sym parts ∙ parts_too) in
    let got = ap (is_got_from side id) lists.1 ∙ is_got side receiver id message from in
    absurd (cc)
one_count side id xs m n (more _ before receiver message earlier _ parts from matched place follows count) (start _ _ is zero_is) = absurd (not_empty before (Got receiver id message) (sym parts ∙ is))
one_count side id xs m n (more _ before_too receiver message earlier _ parts_too from matched_too place follows count) (still _ before entry _ parts no_got matched) =
    let lists = last_same before before_too entry (Got receiver id message) (sym parts ∙ parts_too) in
    let got = ap (is_got_from side id) lists.1 ∙ is_got side receiver id message from in
    absurd (cc)
one_count side id xs m n (more _ before receiver message earlier _ parts from matched place follows count) (more _ before_too receiver_too message_too earlier_too _ parts_too from_too matched_too place_too follows_too count_too) =
    let lists = last_same before before_too (Got receiver id message) (Got receiver_too id message_too) (sym parts ∙ parts_too) in
    let earlier_same = one_count side id before earlier earlier_too matched (subst (λ l. Matched side id l earlier_too) (sym lists.0) matched_too) in
    let same_message = gots_same receiver receiver_too id id message message_too lists.1 in
    let moved = subst (λ l. Follows (sent_by side id l) (went_lossy side id l) earlier_too message_too place_too) (sym lists.0) follows_too in
    let moved_too = subst (λ e. Follows (sent_by side id before) (went_lossy side id before) e message_too place_too) (sym earlier_same) moved in
    let moved_three = subst (λ t. Follows (sent_by side id before) (went_lossy side id before) earlier t place_too) (sym same_message) moved_too in
    count ∙ ap (λ p. p + 1) (one_place (sent_by side id before) (went_lossy side id before) earlier message place place_too follows moved_three) ∙ sym count_too

-- ---- one entry more

-- the messages sent, with one entry more
sent_further : (side : Role) (id : ℕ) (before : List Entry) (entry : Entry) → sent_by side id (before ++ entry ∷ []) ≡ sent_by side id before ++ cons_option (message_in side id entry) []
sent_further side id before entry = filter_map-append (message_in side id) before (entry ∷ [])

lossy_further : (side : Role) (id : ℕ) (before : List Entry) (entry : Entry) → went_lossy side id (before ++ entry ∷ []) ≡ (went_lossy side id before || (is_lossy_word side id entry || false))
lossy_further side id before entry = list_any-append (is_lossy_word side id) before (entry ∷ [])

or_none : (b c : Bool) → c ≡ false → (b || (c || false)) ≡ b
or_none true c is = refl
or_none false c is = ap (λ d. d || false) is

or_word : (b c : Bool) → c ≡ true → (b || (c || false)) ≡ true
or_word true c is = refl
or_word false c is = ap (λ d. d || false) is

-- an entry that is nothing to the flow
pub unmoved : (side : Role) (id : ℕ) (before : List Entry) (entry : Entry) (flow : FlowView) → message_in side id entry ≡ None → is_lossy_word side id entry ≡ false → is_got_from side id entry ≡ false
    → IsFlow side id before flow → IsFlow side id (before ++ entry ∷ []) flow
unmoved side id before entry flow none no_word no_got is =
    record {
      sent_is = is.sent_is ∙ sym (sent_further side id before entry ∙ ap (λ o. sent_by side id before ++ cons_option o []) none ∙ append-nil (sent_by side id before));
      matched_is = still (before ++ entry ∷ []) before entry flow.matched refl no_got is.matched_is;
      lossy_is = is.lossy_is ∙ sym (lossy_further side id before entry ∙ or_none (went_lossy side id before) (is_lossy_word side id entry) no_word);
    }

-- a message that is sent
pub sent_more : (side : Role) (id : ℕ) (before : List Entry) (message : List ℕ) (old new : FlowView) → new ≡ with_message message old → IsFlow side id before old → IsFlow side id (before ++ Sent side id message ∷ []) new
sent_more side id before message old new written is =
    let entry : Entry = Sent side id message in
    let here : message_in side id entry ≡ Some message = ap (λ b. cond (b && nat_eq id id) (Some message) None) (role_itself side) ∙ ap (λ b. cond b (Some message) None) (itself id) in
    subst (IsFlow side id (before ++ entry ∷ [])) (sym written)
    (record {
      sent_is = ap (λ l. l ++ message ∷ []) is.sent_is ∙ sym (sent_further side id before entry ∙ ap (λ o. sent_by side id before ++ cons_option o []) here);
      matched_is = still (before ++ entry ∷ []) before entry old.matched refl refl is.matched_is;
      lossy_is = is.lossy_is ∙ sym (lossy_further side id before entry ∙ or_none (went_lossy side id before) false refl);
    })

-- a word for the lossy tunnel
pub moved_now : (side : Role) (id : ℕ) (before : List Entry) (old new : FlowView) → new ≡ record old { lossy = true } → IsFlow side id before old → IsFlow side id (before ++ Word side Lossy id ∷ []) new
moved_now side id before old new written is =
    let entry : Entry = Word side Lossy id in
    let here : is_lossy_word side id entry ≡ true = ap (λ b. b && nat_eq id id) (role_itself side) ∙ itself id in
    subst (IsFlow side id (before ++ entry ∷ [])) (sym written)
    (record {
      sent_is = is.sent_is ∙ sym (sent_further side id before entry ∙ append-nil (sent_by side id before));
      matched_is = still (before ++ entry ∷ []) before entry old.matched refl refl is.matched_is;
      lossy_is = sym (lossy_further side id before entry ∙ or_word (went_lossy side id before) (is_lossy_word side id entry) here);
    })

-- the message that follows, in the words of the entries
follows_by : (side : Role) (id : ℕ) (before : List Entry) (flow : FlowView) (message : List ℕ) (place : ℕ) → IsFlow side id before flow → Follows flow.sent flow.lossy flow.matched message place
    → Follows (sent_by side id before) (went_lossy side id before) flow.matched message place
follows_by side id before flow message place is follows =
    subst (λ s. Follows s (went_lossy side id before) flow.matched message place) is.sent_is (subst (λ b. Follows flow.sent b flow.matched message place) is.lossy_is follows)

-- a message that is delivered
pub delivered : (receiver : Role) (id : ℕ) (before : List Entry) (message : List ℕ) (old new : FlowView) (place : ℕ) → new ≡ record old { matched = place + 1 } → Follows old.sent old.lossy old.matched message place
    → IsFlow (other receiver) id before old → IsFlow (other receiver) id (before ++ Got receiver id message ∷ []) new
delivered receiver id before message old new place written follows is =
    let side : Role = other receiver in
    let entry : Entry = Got receiver id message in
    subst (IsFlow side id (before ++ entry ∷ [])) (sym written)
    (record {
      sent_is = is.sent_is ∙ sym (sent_further side id before entry ∙ append-nil (sent_by side id before));
      matched_is = more (before ++ entry ∷ []) before receiver message old.matched (place + 1) refl refl is.matched_is place (follows_by side id before old message place is follows) refl;
      lossy_is = is.lossy_is ∙ sym (lossy_further side id before entry ∙ or_none (went_lossy side id before) false refl);
    })

pub was_sent : (receiver : Role) (id : ℕ) (before : List Entry) (message : List ℕ) (flow : FlowView) (place : ℕ) → Follows flow.sent flow.lossy flow.matched message place → IsFlow (other receiver) id before flow
    → WasSent before (Got receiver id message)
was_sent receiver id before message flow place follows is = (flow.matched, place, is.matched_is, follows_by (other receiver) id before flow message place is follows)

pub was_not_sent : (receiver : Role) (id : ℕ) (before : List Entry) (message : List ℕ) (flow : FlowView) → ((place : ℕ) → ¬ Follows flow.sent flow.lossy flow.matched message place) → IsFlow (other receiver) id before flow
    → ¬ WasSent before (Got receiver id message)
was_not_sent receiver id before message flow none is sent =
    let side : Role = other receiver in
    let one = one_count side id before sent.0 flow.matched sent.2 is.matched_is in
    let here = subst (λ n. Follows (sent_by side id before) (went_lossy side id before) n message sent.1) one sent.3 in
    let by_sent = subst (λ s. Follows s (went_lossy side id before) flow.matched message sent.1) (sym is.sent_is) here in
    none sent.1 (subst (λ b. Follows flow.sent b flow.matched message sent.1) (sym is.lossy_is) by_sent)
