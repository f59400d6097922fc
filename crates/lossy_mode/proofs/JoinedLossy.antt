-- The law of two joined lossy links.
use Rattle.std.proofs.Common.{◌≡◌, inl, inr, ℕ, zero, suc, ◌+◌, ◌-◌, ◌%◌, ◌^◌, ◌≤◌, ◌<◌, Bool, true, false, nat_lt, List, [], ◌∷◌, ◌++◌, length, take, drop, if◌then◌else◌, Option, Some, None, option_map, refl, sym, ap, ◌∙◌, subst, arith, append-nil, append_assoc}
use Rattle.std.specs.Prelude.{IfSome}
use Rattle.std.proofs.lemmas.Bool.{cases_lt}
use Rattle.std.proofs.lemmas.List.{drop_at, take-append-drop}
use Rattle.mt_base.specs.declared.kinds.Role.{Role}
use Rattle.mt_base.specs.declared.kinds.Role.TheVariants.{Server, Client}
use Rattle.mt_base.specs.Ends.{other}
use Rattle.mt_base.specs.Prefix.{IsPickOf, none}
use Rattle.mt_base.specs.Trace.{Trace, Start, ◌▷◌}
use Rattle.mt_base.proofs.Prefixes.{pick-append, pick-at, pick-nothing, pick-same, pick-trans}
use Rattle.mt_windows.specs.declared.limits.TheConstants.{DATAGRAM}
use Rattle.carrier.specs.declared.state.Reason.TheVariants as reason
use Rattle.carrier.specs.declared.state.Took.{Took}
use Rattle.carrier.specs.declared.state.Took.TheVariants.{Used, Ignored}
use Rattle.carrier.specs.Entries.{Entry, Gave, In, Polled, Pulled, Owed, Posted, Next, posted}
use Rattle.carrier.specs.Joined.{Step, At, half, SentAgo, Timely}
use Rattle.carrier.specs.Layout.{Datagram, Reading, Refuses, Shows, Load, Empty, Carries, Dummy, Correction}
use Rattle.carrier.specs.PerfectThin.{first_part, handed}
use Rattle.carrier.specs.Receiving.{shown_in}
use Rattle.udp1_core.specs.FirstLayout.{modulus, shows}
use Rattle.udp1_core.proofs.Headless.{tiny}
use Rattle.udp_open.specs.declared.settings.OpenSettings.{OpenSettings}
use Rattle.udp_open.specs.declared.agreement.Agreement.{Agreement}
use Rattle.udp_open.specs.Agreeing.{AgreesWith, Meet, SendsDue, WasSent, is_opening}
use Rattle.udp_open.specs.Handshake.{agreed, opening_due}
use Rattle.udp_open.specs.LinkTrace.{has_syn, layout_by}
use Rattle.udp_open.specs.OpeningView.{IsFirst, IsOffered}
use Rattle.udp_open.specs.TwoLinks.{AgreesIn}
use Rattle.udp_open.proofs.Agreeing.{agrees}
use Rattle.udp_open.proofs.links.Flag.{machine_plain, opening_flag}
use Rattle.lossy_mode.specs.Thin.{Got, Thin, first_due, got, got_by, plain, read_open, sent, sent_by, waiting_in, with_part, with_load, with_reading}
use Rattle.lossy_mode.specs.TwoLossy.{HandedPicked, KindIn, LossyNet, Picked, got_from}
use Rattle.lossy_mode.proofs.SameKind.{one_kind}
use Rattle.lossy_mode.proofs.OneWay.{Flies, IsAt, Keeps, flies_on, load_in, reading_comes}
use Rattle.lossy_mode.proofs.TwoWays.{AllFly, Moves, sender_flies, sender_keeps}

-- ---- both ends agree

flag_due : (s : OpenSettings) (t : Trace Entry) (now : ℕ) (out : List ℕ) (o : Option (List ℕ)) (later : Option (List ℕ)) → is_opening out ≡ true
    → ((x : List ℕ) → later ≡ Some x → has_syn x ≡ false) → Some out ≡ first_due o later → o ≡ Some out
flag_due s t now out (Some x) later is never h = sym h
flag_due s t now out None later is never h = absurd (let flag = (opening_flag out is).0 in let plain = never out (sym h) in cc)

plain_later : (s : OpenSettings) (o : Option Agreement) (g : Got) (owed : List ℕ) (number at : ℕ) (parts : List (List ℕ)) (x : List ℕ) → sent_by s o g owed number parts at ≡ Some x → has_syn x ≡ false
plain_later s None g owed number at parts x h = cc
plain_later s (Some a) g owed number at parts x h = by _ h
  where
    by : (d : Option Datagram) → option_map (layout_by s a).spell d ≡ Some x → has_syn x ≡ false
    by None h = cc
    by (Some d) h = (let same : (layout_by s a).spell d ≡ x = cc in ap has_syn (sym same) ∙ machine_plain d)

sends_due : (s : OpenSettings) (t : Trace Entry) → Thin s t → SendsDue s t
sends_due s Start h = tt
sends_due s (t ▷ Polled now None) h = sends_due s t h.1
sends_due s (t ▷ Polled now (Some out)) h =
    ((λ o. flag_due s t now out (opening_due s t now) _ o (λ x e. plain_later s (agreed s t) _ _ _ _ _ x e) h.0), sends_due s t h.1)
sends_due s (t ▷ In now d took) h = sends_due s t h.1
sends_due s (t ▷ Posted bytes) h = sends_due s t h.1
sends_due s (t ▷ Next part) h = sends_due s t h.1
sends_due s (t ▷ Gave bytes) h = absurd h.0
sends_due s (t ▷ Pulled room bytes) h = absurd h.0
sends_due s (t ▷ Owed count) h = absurd h.0

was_sent : (late : ℕ) (w : Trace Step) → Timely late w → WasSent w
was_sent late Start h = tt
was_sent late (w ▷ At side (In now d took)) h =
    ((λ o. let sent = h.0 (opening_flag d o).1 in (sent.0, sent.2)), was_sent late w h.1)
was_sent late (w ▷ At side (Gave bytes)) h = was_sent late w h
was_sent late (w ▷ At side (Polled now out)) h = was_sent late w h
was_sent late (w ▷ At side (Pulled room bytes)) h = was_sent late w h
was_sent late (w ▷ At side (Owed count)) h = was_sent late w h
was_sent late (w ▷ At side (Posted bytes)) h = was_sent late w h
was_sent late (w ▷ At side (Next bytes)) h = was_sent late w h

offered : {v : ℕ} → IsFirst v → IsOffered v
offered (inl one) = inl one
offered (inr two) = inr (inl two)

not_third : {v : ℕ} → IsFirst v → v ≡ 0x0101 → ⊥
not_third (inl one) is = omega (arith, one, is)
not_third (inr two) is = omega (arith, two, is)

meet : (late : ℕ) (settings : Role → OpenSettings) (w : Trace Step) → LossyNet late settings w → Meet settings w
meet late settings w h = record {
  roles = h.roles;
  versions = λ s. offered (h.versions s);
  initials = h.initials;
  hashes = λ s is. absurd (not_third (h.versions s) is);
  sends = λ s. sends_due (settings s) (half s w) (h.thin s);
  sent = was_sent late w h.timely;
}

agrees_with : (late : ℕ) (settings : Role → OpenSettings) (w : Trace Step) (s : Role) (a : Agreement) → LossyNet late settings w
    → agreed (settings s) (half s w) ≡ Some a → AgreesWith settings s a
agrees_with late settings w s a h is = agrees settings w s a (meet late settings w h) is

pub agrees_in : (late : ℕ) (settings : Role → OpenSettings) (w : Trace Step) → LossyNet late settings w → (s : Role) → AgreesIn settings w s
agrees_in late settings w h s = by (agreed (settings s) (half s w)) refl
  where
    by : (a : Option Agreement) → agreed (settings s) (half s w) ≡ a → IfSome a (AgreesWith settings s)
    by None is = tt
    by (Some a) is = agrees_with late settings w s a h is

pub kind_in : (late : ℕ) (settings : Role → OpenSettings) (w : Trace Step) → LossyNet late settings w → (s : Role) → KindIn settings w s
kind_in late settings w h s is = one_kind settings (h.versions Client) w (meet late settings w h) s is ∙ h.kind

-- ---- the receiver moves

short_reading : (d : List ℕ) (flag long : Bool) (r : Reading) (low q : ℕ) (b : List ℕ)
    → load_in (if flag then Refuses reason.NotOurs else (if long then Refuses reason.TooLong else r)) ≡ Carries low q b
    → load_in (if flag then Refuses reason.NotOurs else r) ≡ Carries low q b
short_reading d true long r low q b h = cc
short_reading d false true r low q b h = cc
short_reading d false false r low q b h = h

got_comes : (own n k m : ℕ) (ps : List (List ℕ)) (s : OpenSettings) (o : Option Agreement) (d : List ℕ) (g : Got) → k < 2 ^ 31
    → ((a : Agreement) → o ≡ Some a → a.peer_initial + 1 ≡ own) → Keeps own n ps g
    → ((low q : ℕ) (b : List ℕ) → load_in (plain d (shows d)) ≡ Carries low q b → IsAt own n k ps low b) → Keeps own n ps (got_by s o m d g)
got_comes own n k m ps s None d g few peer h at = h
got_comes own n k m ps s (Some a) d g few peer h at =
    subst (λ p. Keeps own n ps (with_reading p (length (waiting_in g m)) (read_open s a d) g)) (sym (peer a refl))
    (reading_comes own n k (length (waiting_in g m)) ps g (read_open s a d) few h
    (λ low q b e. at low q b (short_reading d (has_syn d) (nat_lt DATAGRAM (length d)) (shows d) low q b e)))

-- fewer than eight bytes carry nothing
tiny_none : (d : List ℕ) (flag : Bool) (r : Reading) (low q : ℕ) (b : List ℕ) → shown_in r ≡ None → load_in (if flag then Refuses reason.NotOurs else r) ≡ Carries low q b → ⊥
tiny_none d true r low q b h e = cc
tiny_none d false (Refuses why) low q b h e = cc
tiny_none d false (Shows shown) low q b h e = cc

pub receiver_keeps : (own n late : ℕ) (ps : List (List ℕ)) (s : OpenSettings) (t : Trace Entry) (e : Entry) (P : ℕ → List ℕ → Type 0) → late ≤ 2 ^ 31
    → ((a : Agreement) → agreed s t ≡ Some a → a.peer_initial + 1 ≡ own) → AllFly own n ps P
    → ((now : ℕ) (d : List ℕ) (took : Took) → e ≡ In now d took → 8 ≤ length d → (k : ℕ) × (k < late) × P k d)
    → Keeps own n ps (got s t) → Keeps own n ps (got s (t ▷ e))
receiver_keeps own n late ps s t (In now d took) P few peer fly came h = elim (cases_lt (length d) 8) [
  | inl short ↦ got_comes own n 0 (length (handed t)) ps s (agreed s t) d (got s t) (omega arith) peer h
      (λ low q b e. absurd (tiny_none d (has_syn d) (shows d) low q b (tiny d short) e))
  | inr whole ↦ (let x = came now d took refl whole in
      got_comes own n x.0 (length (handed t)) ps s (agreed s t) d (got s t) (omega (arith, x.1, few)) peer h ((fly x.0 d x.2).at))
]
receiver_keeps own n late ps s t (Polled now out) P few peer fly came h = h
receiver_keeps own n late ps s t (Posted bytes) P few peer fly came h = h
receiver_keeps own n late ps s t (Next part) P few peer fly came h = h
receiver_keeps own n late ps s t (Gave bytes) P few peer fly came h = h
receiver_keeps own n late ps s t (Pulled room bytes) P few peer fly came h = h
receiver_keeps own n late ps s t (Owed count) P few peer fly came h = h

-- ---- the calls of both ends, one after the other

-- the datagrams of the end that moves, and of the other one
moves : (s : Role) (w : Trace Step) (e : Entry) → Moves e (SentAgo s w) (SentAgo s (w ▷ At s e))
moves s w (Polled now (Some out)) = ((λ d h. h.1), (λ k d h. h))
moves s w (Polled now None) = λ k d h. h
moves s w (In now d took) = λ k d h. h
moves s w (Posted bytes) = λ k d h. h
moves s w (Next part) = λ k d h. h
moves s w (Gave bytes) = λ k d h. h
moves s w (Pulled room bytes) = λ k d h. h
moves s w (Owed count) = λ k d h. h

ages : (s side : Role) (w : Trace Step) (e : Entry) → (side ≡ s → ⊥) → (own n : ℕ) (ps : List (List ℕ)) → AllFly own n ps (SentAgo s w) → AllFly own n ps (SentAgo s (w ▷ At side e))
ages s side w (Polled now (Some out)) never own n ps h = λ k d q. by k d q
  where
    by : (k : ℕ) (d : List ℕ) → SentAgo s (w ▷ At side (Polled now (Some out))) k d → Flies own n k ps d
    by zero d q = absurd (never q.0)
    by (suc k) d q = flies_on own n n k ps d (omega arith) (omega arith) (h k d q)
ages s side w (Polled now None) never own n ps h = λ k d q. h k d q
ages s side w (In now d took) never own n ps h = λ k d q. h k d q
ages s side w (Posted bytes) never own n ps h = λ k d q. h k d q
ages s side w (Next part) never own n ps h = λ k d q. h k d q
ages s side w (Gave bytes) never own n ps h = λ k d q. h k d q
ages s side w (Pulled room bytes) never own n ps h = λ k d q. h k d q
ages s side w (Owed count) never own n ps h = λ k d q. h k d q

timely_before : (late : ℕ) (w : Trace Step) (side : Role) (e : Entry) → Timely late (w ▷ At side e) → Timely late w
timely_before late w side (In now d took) h = h.1
timely_before late w side (Polled now out) h = h
timely_before late w side (Posted bytes) h = h
timely_before late w side (Next part) h = h
timely_before late w side (Gave bytes) h = h
timely_before late w side (Pulled room bytes) h = h
timely_before late w side (Owed count) h = h

came_by : (late : ℕ) (w : Trace Step) (side : Role) (e : Entry) → Timely late (w ▷ At side e)
    → (now : ℕ) (d : List ℕ) (took : Took) → e ≡ In now d took → 8 ≤ length d → (k : ℕ) × (k < late) × SentAgo (other side) w k d
came_by late w side (In now x took) h m d r e whole = (let same : x ≡ d = cc in
    subst (λ y. (k : ℕ) × (k < late) × SentAgo (other side) w k y) same (h.0 (subst (λ y. 8 ≤ length y) (sym same) whole)))
came_by late w side (Polled now out) h m d r e whole = cc
came_by late w side (Posted bytes) h m d r e whole = cc
came_by late w side (Next part) h m d r e whole = cc
came_by late w side (Gave bytes) h m d r e whole = cc
came_by late w side (Pulled room bytes) h m d r e whole = cc
came_by late w side (Owed count) h m d r e whole = cc

thin_before : (settings : Role → OpenSettings) (w : Trace Step) (side : Role) (e : Entry) → ((s : Role) → Thin (settings s) (half s (w ▷ At side e))) → (s : Role) → Thin (settings s) (half s w)
thin_before settings w Server e h Server = (h Server).1
thin_before settings w Server e h Client = h Client
thin_before settings w Client e h Server = h Server
thin_before settings w Client e h Client = (h Client).1

net_before : (late : ℕ) (settings : Role → OpenSettings) (w : Trace Step) (side : Role) (e : Entry) → LossyNet late settings (w ▷ At side e) → LossyNet late settings w
net_before late settings w side e h = record {
  roles = h.roles;
  kind = h.kind;
  versions = h.versions;
  initials = h.initials;
  in_time = h.in_time;
  thin = thin_before settings w side e h.thin;
  timely = timely_before late w side e h.timely;
}

-- one direction, now
pub record Way (settings : Role → OpenSettings) (w : Trace Step) (s : Role) : Type 0 where
  pub flies : AllFly ((settings s).initial + 1) (sent (half s w)) (posted (half s w)) (SentAgo s w)
  pub keeps : Keeps ((settings s).initial + 1) (sent (half s w)) (posted (half s w)) (got_from settings w s)

peer_is : (late : ℕ) (settings : Role → OpenSettings) (w : Trace Step) (side : Role) → LossyNet late settings w
    → (a : Agreement) → agreed (settings side) (half side w) ≡ Some a → a.peer_initial + 1 ≡ (settings (other side)).initial + 1
peer_is late settings w side h a is = ap (λ n. n + 1) (agrees_with late settings w side a h is).peer_is

apart : Server ≡ Client → ⊥
apart h = cc

apart_back : Client ≡ Server → ⊥
apart_back h = cc

first_is : (n : ℕ) → n + 1 - 1 + 1 ≡ n + 1 + 0
first_is n = omega arith

pub ways : (late : ℕ) (settings : Role → OpenSettings) (w : Trace Step) → LossyNet late settings w → (s : Role) → Way settings w s
ways late settings Start h s = begun s
  where
    begun : (s : Role) → Way settings Start s
    begun Server = record { flies = λ k d q. absurd q; keeps = record { reach = 0; reached = omega arith; low = ap (λ n. n % modulus) (first_is (settings Server).initial); picked = none } }
    begun Client = record { flies = λ k d q. absurd q; keeps = record { reach = 0; reached = omega arith; low = ap (λ n. n % modulus) (first_is (settings Client).initial); picked = none } }
ways late settings (w ▷ At Server e) h Server =
    let before = net_before late settings w Server e h in
    let old = ways late settings w before Server in record {
      flies = sender_flies (settings Server) (half Server w) e (SentAgo Server w) (SentAgo Server (w ▷ At Server e)) (h.thin Server) (moves Server w e) old.flies;
      keeps = sender_keeps (settings Server) (half Server w) e (got_from settings w Server) (h.thin Server) old.keeps;
    }
ways late settings (w ▷ At Server e) h Client =
    let before = net_before late settings w Server e h in
    let old = ways late settings w before Client in record {
      flies = ages Client Server w e apart ((settings Client).initial + 1) (sent (half Client w)) (posted (half Client w)) old.flies;
      keeps = receiver_keeps ((settings Client).initial + 1) (sent (half Client w)) late (posted (half Client w)) (settings Server) (half Server w) e (SentAgo Client w) h.in_time
          (peer_is late settings w Server before) old.flies (came_by late w Server e h.timely) old.keeps;
    }
ways late settings (w ▷ At Client e) h Client =
    let before = net_before late settings w Client e h in
    let old = ways late settings w before Client in record {
      flies = sender_flies (settings Client) (half Client w) e (SentAgo Client w) (SentAgo Client (w ▷ At Client e)) (h.thin Client) (moves Client w e) old.flies;
      keeps = sender_keeps (settings Client) (half Client w) e (got_from settings w Client) (h.thin Client) old.keeps;
    }
ways late settings (w ▷ At Client e) h Server =
    let before = net_before late settings w Client e h in
    let old = ways late settings w before Server in record {
      flies = ages Server Client w e apart_back ((settings Server).initial + 1) (sent (half Server w)) (posted (half Server w)) old.flies;
      keeps = receiver_keeps ((settings Server).initial + 1) (sent (half Server w)) late (posted (half Server w)) (settings Client) (half Client w) e (SentAgo Server w) h.in_time
          (peer_is late settings w Client before) old.flies (came_by late w Client e h.timely) old.keeps;
    }

pub picked : (late : ℕ) (settings : Role → OpenSettings) (w : Trace Step) → LossyNet late settings w → (s : Role) → Picked settings w s
picked late settings w h s = (let k = (ways late settings w h s).keeps in record { reach = k.reach; reached = k.reached; low = k.low; picked = k.picked })

-- ---- what is handed out

with_part_more : (took : Took) (o : Option ℕ) (b : List ℕ) (g : Got) → (more : List (List ℕ)) × ((with_part took o b g).parts ≡ g.parts ++ more)
with_part_more (Ignored why) o b g = ([], sym (append-nil g.parts))
with_part_more Used None b g = ([], sym (append-nil g.parts))
with_part_more Used (Some x) b g = (b ∷ [], refl)

load_more : (peer n : ℕ) (load : Load) (g : Got) → (more : List (List ℕ)) × ((with_load peer n load g).parts ≡ g.parts ++ more)
load_more peer n Empty g = ([], sym (append-nil g.parts))
load_more peer n (Carries low q b) g = with_part_more _ _ b g
load_more peer n (Dummy q) g = ([], sym (append-nil g.parts))
load_more peer n Correction g = ([], sym (append-nil g.parts))

reading_more : (peer n : ℕ) (r : Reading) (g : Got) → (more : List (List ℕ)) × ((with_reading peer n r g).parts ≡ g.parts ++ more)
reading_more peer n (Refuses why) g = ([], sym (append-nil g.parts))
reading_more peer n (Shows shown) g = load_more peer n shown.load _

got_more : (s : OpenSettings) (o : Option Agreement) (n : ℕ) (d : List ℕ) (g : Got) → (more : List (List ℕ)) × ((got_by s o n d g).parts ≡ g.parts ++ more)
got_more s None n d g = ([], sym (append-nil g.parts))
got_more s (Some a) n d g = reading_more (a.peer_initial + 1) _ (read_open s a d) g

next_more : (hs ps more : List (List ℕ)) (b : List ℕ) → ps ≡ hs ++ more → Some b ≡ first_part (drop (length hs) ps) → (rest : List (List ℕ)) × (ps ≡ (hs ++ b ∷ []) ++ rest)
next_more hs ps more b e h =
    let left : drop (length hs) ps ≡ more = ap (drop (length hs)) e ∙ drop_at hs more (length hs) refl in
    by more e (h ∙ ap first_part left)
  where
    by : (more : List (List ℕ)) → ps ≡ hs ++ more → Some b ≡ first_part more → (rest : List (List ℕ)) × (ps ≡ (hs ++ b ∷ []) ++ rest)
    by [] e h = cc
    by (x ∷ rest) e h = (let same : x ≡ b = cc in (rest, e ∙ ap (λ y. hs ++ y ∷ rest) same ∙ sym (append_assoc hs (b ∷ []) rest)))

-- what was handed out are the first of the accepted parts
pub handed_first : (s : OpenSettings) (t : Trace Entry) → Thin s t → (more : List (List ℕ)) × ((got s t).parts ≡ handed t ++ more)
handed_first s Start h = ([], refl)
handed_first s (t ▷ In now d took) h =
    let old = handed_first s t h.1 in
    let new = got_more s (agreed s t) (length (handed t)) d (got s t) in
    (old.0 ++ new.0, new.1 ∙ ap (λ x. x ++ new.0) old.1 ∙ append_assoc (handed t) old.0 new.0)
handed_first s (t ▷ Next None) h = handed_first s t h.1
handed_first s (t ▷ Next (Some b)) h =
    let old = handed_first s t h.1 in
    next_more (handed t) (got s t).parts old.0 b old.1 h.0
handed_first s (t ▷ Polled now out) h = handed_first s t h.1
handed_first s (t ▷ Posted bytes) h = handed_first s t h.1
handed_first s (t ▷ Gave bytes) h = absurd h.0
handed_first s (t ▷ Pulled room bytes) h = absurd h.0
handed_first s (t ▷ Owed count) h = absurd h.0

pick_front : (xs ys : List (List ℕ)) → IsPickOf xs (xs ++ ys)
pick_front xs ys = pick-at (xs ++ []) xs (xs ++ ys) (xs ++ ys) (append-nil xs) refl (pick-append xs xs [] ys (pick-same xs) (pick-nothing ys))

pub handed_picked : (late : ℕ) (settings : Role → OpenSettings) (w : Trace Step) → LossyNet late settings w → (s : Role) → HandedPicked w s
handed_picked late settings w h s =
    let x = picked late settings w h s in
    let r = other s in
    let first = handed_first (settings r) (half r w) (h.thin r) in
    let one = pick-at (handed (half r w)) (handed (half r w)) (handed (half r w) ++ first.0) (got_from settings w s).parts refl (sym first.1) (pick_front (handed (half r w)) first.0) in
    let ps = posted (half s w) in
    let front = pick-at (take x.reach ps) (take x.reach ps) (take x.reach ps ++ drop x.reach ps) ps refl (take-append-drop x.reach ps) (pick_front (take x.reach ps) (drop x.reach ps)) in
    pick-trans (handed (half r w)) (got_from settings w s).parts ps one (pick-trans (got_from settings w s).parts (take x.reach ps) ps x.picked front)
