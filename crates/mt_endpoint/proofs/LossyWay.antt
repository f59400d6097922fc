-- What is delivered of a channel whose messages go through a lossy tunnel: all that was sent before the
-- move, and then some of what was sent after it, in order.
use Rattle.std.proofs.Common.{◌≡◌, ◌⊎◌, inl, inr, ℕ, ◌≤◌, Bool, true, false, eqb, cond, List, [], ◌∷◌, ◌++◌, map, flat_map, length, take, drop, None, refl, sym, ap, subst, ◌∙◌, append-nil, le-leb, arith}
use Rattle.std.proofs.lemmas.Bool.{eqb-true}
use Rattle.mt_base.specs.declared.kinds.Role.{Role}
use Rattle.mt_base.specs.declared.kinds.Kind.TheVariants.{Reliable, Lossy}
use Rattle.mt_base.specs.Ends.{other}
use Rattle.mt_base.specs.Trace.{Trace, Start, ◌▷◌}
use Rattle.dvc_pdus.specs.Value.{Pdu, Data, DataFirst}
use Rattle.dvc_channels.specs.Pieces.{pieces_of, messages, messages_from, under_way}
use Rattle.dvc_channels.specs.Fragments.{fragments_of, room, first_room, in_pieces}
use Rattle.dvc_channels.specs.Acts as channels
use Rattle.dvc_channels.proofs.Further.{messages_behind}
use Rattle.dvc_channels.proofs.Making.{cuts_make}
use Rattle.dvc_channels.proofs.Sending.{sizes, sent_are_cut}
use Rattle.soft_sync.specs.declared.kinds.Path.{Path}
use Rattle.soft_sync.specs.declared.kinds.Path.TheVariants.{Main, Tunnel}
use Rattle.mt_endpoint.specs.Acts.{Act}
use Rattle.mt_endpoint.specs.Channels.{table, delivered, sent, message_to}
use Rattle.mt_endpoint.specs.Moving.{outward}
use Rattle.mt_endpoint.specs.Holding.{is_through}
use Rattle.mt_base.specs.Prefix.{IsPrefixOf, IsPickOf, none, taken, passed}
use Rattle.mt_endpoint.specs.World.{ShortOn, sent_on, is_lossy, is_sure, IsDelivered, front, picked, IsSafe, SafeWay}
use Rattle.mt_base.proofs.Prefixes.{front-trans, front-at, pick-same, pick-nothing, pick-append, pick-trans, pick-at}
use Rattle.mt_endpoint.proofs.ChannelPdus.{of, is_mine, is_data, data_of, data_of-of, pieces, out}
use Rattle.mt_endpoint.proofs.Fitting.{Fits, Fitting}
use Rattle.mt_endpoint.proofs.Items.{View, sends, syncs, answers, plain, view, is_at}
use Rattle.mt_endpoint.proofs.Sent.{cut, Near, data_sent, sent_same}
use Rattle.mt_endpoint.proofs.Reading.{heard, drawn}
use Rattle.mt_endpoint.proofs.Arriving.{IsWord, Came}
use Rattle.mt_endpoint.proofs.Coming.{all_came}
use Rattle.mt_endpoint.proofs.Safety.{Joined, pick-keep, heard_front, drawn_pick, near_only, all_main, pieces_sent, messages_cut, front-messages, front-pieces, reliable_way}

-- ---- a short message is one PDU

one_part : (id : ℕ) (message : List ℕ) → length message ≤ 990 → fragments_of id message ≡ Data id message ∷ []
one_part id message h =
    let short : length message ≤ room id = omega (arith, h, (sizes id).1) in
    ap (λ b. cond b (Data id message ∷ []) (DataFirst id (length message) (take (first_room id (length message)) message) ∷ map (Data id) (in_pieces (room id) (drop (first_room id (length message)) message)))) (le-leb (length message) (room id) short)

-- messages that are one PDU each
abbrev pub whole : ℕ → List (List ℕ) → List Pdu
whole id sent = map (λ message. Data id message) sent

abbrev AreShort : List (List ℕ) → Type 0
AreShort [] = Unit {0}
AreShort (message ∷ sent) = (length message ≤ 990) × AreShort sent

short_append : (xs ys : List (List ℕ)) → AreShort xs → AreShort ys → AreShort (xs ++ ys)
short_append [] ys h k = k
short_append (x ∷ xs) ys h k = (h.0, short_append xs ys h.1 k)

short_on : (path : Path) (message : List ℕ) → ShortOn path message → is_through Lossy path ≡ true → length message ≤ 990
short_on Main message h e = cc
short_on (Tunnel Reliable) message h e = cc
short_on (Tunnel Lossy) message h e = h

short_message : (id : ℕ) (s : Trace Act) (made : ℕ) (message : List ℕ) (b c : Bool) → is_through Lossy (outward id s) ≡ b → eqb made id ≡ c → ShortOn (outward made s) message → AreShort (cond b (cond c (message ∷ []) []) [])
short_message id s made message true true e same h =
    let is : made ≡ id = eqb-true made id same in
    (short_on (outward made s) message h (ap (λ x. is_through Lossy (outward x s)) is ∙ e), tt)
short_message id s made message true false e same h = tt
short_message id s made message false c e same h = tt

nothing_short : (b : Bool) (messages : List (List ℕ)) → messages ≡ [] → AreShort (cond b messages [])
nothing_short true [] h = tt
nothing_short true (x ∷ xs) h = cc
nothing_short false messages h = tt

short_step : (role : Role) (id : ℕ) (s : Trace Act) (act : Act) → View role s act → Fits role s act → AreShort (cond (is_through Lossy (outward id s)) (message_to id act) [])
short_step role id s _ (sends made message) f = short_message id s made message (is_through Lossy (outward id s)) (eqb made id) refl refl f.0.2
short_step role id s _ (syncs reliable lossy) f = nothing_short (is_through Lossy (outward id s)) [] refl
short_step role id s _ (answers named) f = nothing_short (is_through Lossy (outward id s)) [] refl
short_step role id s _ (plain act items a b no_message) f = nothing_short (is_through Lossy (outward id s)) (message_to id act) (no_message id)

all_short : (role : Role) (id : ℕ) (s : Trace Act) → Fitting role s → AreShort (sent_on (is_through Lossy) id s)
all_short role id Start f = tt
all_short role id (s ▷ act) f =
    short_append (sent_on (is_through Lossy) id s) (cond (is_through Lossy (outward id s)) (message_to id act) []) (all_short role id s f.1) (short_step role id s act (view role s act) f.0)

cut_whole : (id : ℕ) (sent : List (List ℕ)) → AreShort sent → cut id sent ≡ whole id sent
cut_whole id [] h = refl
cut_whole id (message ∷ sent) h = ap (λ l. l ++ cut id sent) (one_part id message h.0) ∙ ap (λ l. Data id message ∷ l) (cut_whole id sent h.1)

-- ---- what is picked of whole messages

record Some_of (id : ℕ) (sent : List (List ℕ)) (pdus : List Pdu) : Type 0 where
  pub some : List (List ℕ)
  pub are : pdus ≡ whole id some
  pub pick : IsPickOf some sent

pick_whole : (id : ℕ) (pdus all : List Pdu) (sent : List (List ℕ)) → IsPickOf pdus all → all ≡ whole id sent → Some_of id sent pdus
pick_whole id _ _ [] none e = record { some = []; are = refl; pick = none }
pick_whole id _ _ (m ∷ sent) none e = absurd (let no : [] ≡ Data id m ∷ whole id sent = e in cc)
pick_whole id _ _ [] (taken x xs ys h) e = absurd (let no : x ∷ ys ≡ [] = e in cc)
pick_whole id _ _ (m ∷ sent) (taken x xs ys h) e =
    let same : x ≡ Data id m = cc in
    let rest : ys ≡ whole id sent = cc in
    let r = pick_whole id xs ys sent h rest in
    record { some = m ∷ r.some; are = ap (λ y. y ∷ xs) same ∙ ap (λ l. Data id m ∷ l) r.are; pick = taken m r.some sent r.pick }
pick_whole id _ _ [] (passed x xs ys h) e = absurd (let no : x ∷ ys ≡ [] = e in cc)
pick_whole id _ _ (m ∷ sent) (passed x xs ys h) e =
    let rest : ys ≡ whole id sent = cc in
    let r = pick_whole id xs ys sent h rest in
    record { some = r.some; are = r.are; pick = passed m r.some sent r.pick }

messages_whole : (id : ℕ) (some : List (List ℕ)) → messages (flat_map pieces_of (whole id some)) ≡ some
messages_whole id [] = refl
messages_whole id (m ∷ some) = ap (λ l. m ∷ l) (messages_whole id some)

-- ---- the lossy way

lossy_parts : (role : Role) (here there : Trace Act) (id : ℕ) → Joined role here there → Near Lossy (outward id there) → (c : Came role id Lossy here) → Some_of id (sent_on (is_through Lossy) id there) (data_of id c.ds)
lossy_parts role here there id j near c =
    let first : IsPickOf c.ds (c.ds ++ c.rest) = pick-at (c.ds ++ []) c.ds (c.ds ++ c.rest) (c.ds ++ c.rest) (append-nil c.ds) refl (pick-append c.ds c.ds [] c.rest (pick-same c.ds) (pick-nothing c.rest)) in
    let in_drawn : IsPickOf c.ds (of id (drawn Lossy here)) = pick-trans c.ds (c.ds ++ c.rest) (of id (drawn Lossy here)) first c.drawn_are in
    let in_out : IsPickOf (of id (drawn Lossy here)) (of id (out (Tunnel Lossy) (other role) there)) = pick-keep (is_mine id) (drawn Lossy here) (out (Tunnel Lossy) (other role) there) (drawn_pick role here there j) in
    let all = pick-keep (is_data id) c.ds (of id (out (Tunnel Lossy) (other role) there)) (pick-trans c.ds (of id (drawn Lossy here)) (of id (out (Tunnel Lossy) (other role) there)) in_drawn in_out) in
    pick_whole id (data_of id c.ds) (data_of id (of id (out (Tunnel Lossy) (other role) there))) (sent_on (is_through Lossy) id there) all
    (data_of-of id (out (Tunnel Lossy) (other role) there) ∙ data_sent (Tunnel Lossy) (other role) id there j.there_fits ∙ cut_whole id (sent_on (is_through Lossy) id there) (all_short (other role) id there j.there_fits))

pub lossy_way : (role : Role) (here there : Trace Act) (id : ℕ) → Joined role here there → Near Lossy (outward id there) → IsDelivered (sent_on (is_at Main) id there) (sent_on (is_through Lossy) id there) (delivered role id here)
lossy_way role here there id j near = by_word c.word_is where
  c : Came role id Lossy here
  c = all_came role id Lossy here j.here_fits (near_only role here there id Lossy j near)

  before : List (List ℕ)
  before = sent_on (is_at Main) id there

  hm : IsPrefixOf c.hs (out Main (other role) there)
  hm = front-trans c.hs (heard here) (out Main (other role) there) c.heard_are (heard_front role here there j)

  main_is : pieces id (out Main (other role) there) ≡ flat_map pieces_of (cut id before)
  main_is = pieces_sent role there id Main j.there_fits

  by_word : (c.ds ≡ []) ⊎ IsWord role id here c.hs → IsDelivered before (sent_on (is_through Lossy) id there) (delivered role id here)
  by_word (inl nothing) =
      let same : channels.arrived (table role here) id ≡ pieces id c.hs = c.arrived_are ∙ ap (λ l. pieces id c.hs ++ pieces id l) nothing ∙ append-nil (pieces id c.hs) in
      let f = front-messages (pieces id c.hs) (pieces id (out Main (other role) there)) (front-pieces id c.hs (out Main (other role) there) hm) in
      front (front-at (messages (pieces id c.hs)) (delivered role id here) (messages (pieces id (out Main (other role) there))) before (ap messages (sym same)) (ap messages main_is ∙ messages_cut id before) f)
  by_word (inr w) =
      let parts = lossy_parts role here there id j near c in
      let all : pieces id c.hs ≡ flat_map pieces_of (cut id before) = sym (all_main role here there id c.hs j hm w) ∙ main_is in
      let m = cuts_make _ before (sent_are_cut id before) in
      picked parts.some
      (ap messages (c.arrived_are ∙ ap (λ l. l ++ pieces id c.ds) all ∙ ap (λ l. flat_map pieces_of (cut id before) ++ flat_map pieces_of l) parts.are)
      ∙ messages_behind None (flat_map pieces_of (cut id before)) (flat_map pieces_of (whole id parts.some))
      ∙ ap (λ l. l ++ messages_from (under_way (flat_map pieces_of (cut id before))) (flat_map pieces_of (whole id parts.some))) m.messages_are
      ∙ ap (λ p. before ++ messages_from p (flat_map pieces_of (whole id parts.some))) m.after_is ∙ ap (λ l. before ++ l) (messages_whole id parts.some))
      parts.pick

-- ---- any way

lossy_same : (role : Role) (id : ℕ) (s : Trace Act) → Fitting role s → Near Lossy (outward id s) → (sent_on (is_at Main) id s ≡ sent_on is_sure id s) × (sent_on (is_through Lossy) id s ≡ sent_on is_lossy id s)
lossy_same role id s f near =
    (sent_same role id s Lossy (is_at Main) is_sure refl refl f near, sent_same role id s Lossy (is_through Lossy) is_lossy refl refl f near)

delivered_at : (b c a d l : List (List ℕ)) → b ≡ c → a ≡ d → IsDelivered b a l → IsDelivered c d l
delivered_at b c a d l same also h =
    let P : List (List ℕ) → Type 0 = λ x. IsDelivered x a l in
    let Q : List (List ℕ) → Type 0 = λ x. IsDelivered c x l in
    subst Q also (subst P same h)

pub one_way : (role : Role) (here there : Trace Act) (id : ℕ) → Joined role here there → SafeWay role id there here
one_way role here there id j = by_path (outward id there) refl where
  Goal : Path → Type 0
  Goal path = IsSafe path (sent id there) (sent_on is_sure id there) (sent_on is_lossy id there) (delivered role id here)

  by_path : (path : Path) → outward id there ≡ path → Goal path
  by_path Main e = reliable_way role here there id j (inl e)
  by_path (Tunnel Reliable) e = reliable_way role here there id j (inr e)
  by_path (Tunnel Lossy) e =
      let same = lossy_same (other role) id there j.there_fits (inr e) in
      delivered_at (sent_on (is_at Main) id there) (sent_on is_sure id there) (sent_on (is_through Lossy) id there) (sent_on is_lossy id there) (delivered role id here) same.0 same.1 (lossy_way role here there id j (inr e))
