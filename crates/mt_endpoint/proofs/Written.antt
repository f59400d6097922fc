-- What an end writes of a channel: on the main stream up to its word, and from then on in the tunnel to
-- which the word moves it.
use Rattle.std.proofs.Common.{◌≡◌, ℕ, Bool, true, false, cond, List, [], ◌∷◌, ◌++◌, map, length, nat_le, take, drop, refl, sym, ap, ◌∙◌, append-nil, arith, ne_eqb}
use Rattle.std.proofs.lemmas.Bool.{eqb-true}
use Rattle.mt_base.specs.declared.kinds.Role.{Role}
use Rattle.mt_base.specs.declared.kinds.Kind.{Kind}
use Rattle.mt_base.specs.declared.kinds.Kind.TheVariants.{Reliable, Lossy}
use Rattle.mt_base.specs.Trace.{Trace, Start, ◌▷◌}
use Rattle.dvc_pdus.specs.Value.{ChannelList, Pdu, DataFirst, Data, Close, Caps, CreateRequest, CreateResponse, CompressedFirst, Compressed, SyncRequest, SyncResponse, list_to, lists_of, sync_request}
use Rattle.dvc_channels.specs.Fragments.{fragments_of, room, first_room, in_pieces}
use Rattle.soft_sync.specs.declared.kinds.Kinds.{Kinds}
use Rattle.soft_sync.specs.declared.kinds.Path.{Path}
use Rattle.soft_sync.specs.declared.kinds.Path.TheVariants.{Main, Tunnel}
use Rattle.soft_sync.specs.Words.{request_of}
use Rattle.mt_endpoint.specs.Acts.{Act}
use Rattle.mt_endpoint.specs.Said.{Said, Capable, Creates, Created, Brings, Ends, Moves, Moved, said}
use Rattle.mt_endpoint.specs.Moving.{all_told, made_by, answer_made, made, outward, request_read, kinds_of}
use Rattle.mt_endpoint.specs.Holding.{is_of, channel_in, is_through}
use Rattle.mt_endpoint.specs.Writing.{Written, on_path, closing, types_of, adds}
use Rattle.mt_endpoint.proofs.ChannelPdus.{keep, keep-append, at, at-append, out, out-step, added, silent_at, brings_to}
use Rattle.mt_endpoint.proofs.Words.{requests_in, answers_in, requests-append, answers-append}
use Rattle.mt_endpoint.proofs.Items.{IsTable, close_path, closing-path, Item, frame, create, of_table, close, Items, View, sends, syncs, answers, plain, view, is_at, frame_at, create_at, Stands, there, nowhere, stands}

-- ---- the PDUs of a message

-- data PDUs of one channel
abbrev pub AreData : ℕ → List Pdu → Type 0
AreData id [] = Unit {0}
AreData id (pdu ∷ pdus) = (said pdu ≡ Brings id) × AreData id pdus

all_data : (id : ℕ) (parts : List (List ℕ)) → AreData id (map (Data id) parts)
all_data id [] = tt
all_data id (part ∷ parts) = (refl, all_data id parts)

pub fragments_are_data : (id : ℕ) (message : List ℕ) → AreData id (fragments_of id message)
fragments_are_data id message = by_test (nat_le (length message) (room id)) where
  by_test : (b : Bool) → AreData id (cond b (Data id message ∷ []) (DataFirst id (length message) (take (first_room id (length message)) message)
      ∷ map (Data id) (in_pieces (room id) (drop (first_room id (length message)) message))))
  by_test true = (refl, tt)
  by_test false = (refl, all_data id (in_pieces (room id) (drop (first_room id (length message)) message)))

abbrev pub by_said : (Said → Bool) → Pdu → Bool
by_said f pdu = f (said pdu)

-- a test of what PDUs say keeps all of them or none
pub keep-data : (f : Said → Bool) (id : ℕ) (pdus : List Pdu) (b : Bool) → AreData id pdus → f (Brings id) ≡ b → keep (by_said f) pdus ≡ cond b pdus []
keep-data f id [] true h e = refl
keep-data f id [] false h e = refl
keep-data f id (pdu ∷ pdus) true h e =
    ap (λ b. cond b (pdu ∷ keep (by_said f) pdus) (keep (by_said f) pdus)) (ap f h.0 ∙ e) ∙ ap (λ l. pdu ∷ l) (keep-data f id pdus true h.1 e)
keep-data f id (pdu ∷ pdus) false h e =
    ap (λ b. cond b (pdu ∷ keep (by_said f) pdus) (keep (by_said f) pdus)) (ap f h.0 ∙ e) ∙ keep-data f id pdus false h.1 e

-- ---- nothing of a channel is written on another path

-- what the test keeps is not on this path
pub record Avoids (f : Said → Bool) (path : Path) (s : Trace Act) : Type 0 where
  pub data_is : (id : ℕ) → f (Brings id) ≡ true → is_at path (outward id s) ≡ false
  pub close_is : (id : ℕ) → f (Ends id) ≡ true → is_at path (close_path (outward id s)) ≡ false
  pub table_is : (what : Said) → IsTable what → f what ≡ false
  pub request_is : (lists : List ChannelList) → f (Moves lists) ≡ false
  pub answer_is : (kinds : List Kind) → f (Moved kinds) ≡ false

keep_one : (f : Said → Bool) (pdu : Pdu) → f (said pdu) ≡ false → keep (by_said f) (pdu ∷ []) ≡ []
keep_one f pdu h = ap (λ b. cond b (pdu ∷ []) []) h

-- one PDU that is on its path, or that the test drops
pub one_away : (f : Said → Bool) (path : Path) (silent : Bool) (made : Path) (pdu : Pdu) → (f (said pdu) ≡ true → is_at path made ≡ false) → keep (by_said f) (at path silent (on_path made pdu ∷ [])) ≡ []
one_away f path silent made pdu h = by_place (stands path silent made (pdu ∷ [])) where
  by_place : Stands path silent made (pdu ∷ []) → keep (by_said f) (at path silent (on_path made pdu ∷ [])) ≡ []
  by_place (nowhere e) = ap (keep (by_said f)) e
  by_place (there on e) = ap (keep (by_said f)) e ∙ by_test (f (said pdu)) refl where
    by_test : (b : Bool) → f (said pdu) ≡ b → keep (by_said f) (pdu ∷ []) ≡ []
    by_test true k = absurd (let no : true ≡ false = sym on ∙ h k in cc)
    by_test false k = keep_one f pdu k

pub record Drops (f : Said → Bool) (path : Path) (s : Trace Act) : Type 0 where
  pub close_is : (id : ℕ) → f (Ends id) ≡ true → is_at path (close_path (outward id s)) ≡ false
  pub table_is : (what : Said) → IsTable what → f what ≡ false

item_away : (f : Said → Bool) (path : Path) (silent : Bool) (s : Trace Act) (w : Written) → Drops f path s → Item s w → keep (by_said f) (at path silent (w ∷ [])) ≡ []
item_away f path silent s _ a (frame heard e) = ap (keep (by_said f)) (frame_at path silent heard e)
item_away f path silent s _ a (create kind drawn e) = ap (keep (by_said f)) (create_at path silent kind drawn e)
item_away f path silent s _ a (of_table pdu t) = one_away f path silent Main pdu (λ e. absurd (let no : true ≡ false = sym e ∙ a.table_is (said pdu) t in cc))
item_away f path silent s _ a (close id) =
    ap (λ w. keep (by_said f) (at path silent (w ∷ []))) (closing-path (outward id s) id) ∙ one_away f path silent (close_path (outward id s)) (Close id) (λ e. a.close_is id e)

pub items_away : (f : Said → Bool) (path : Path) (silent : Bool) (s : Trace Act) (written : List Written) → Drops f path s → Items s written → keep (by_said f) (at path silent written) ≡ []
items_away f Main silent s [] a h = refl
items_away f (Tunnel kind) silent s [] a h = refl
items_away f path silent s (w ∷ written) a h =
    ap (keep (by_said f)) (at-append path silent (w ∷ []) written) ∙ keep-append (by_said f) (at path silent (w ∷ [])) (at path silent written)
    ∙ ap (λ l. l ++ keep (by_said f) (at path silent written)) (item_away f path silent s w a h.0) ∙ items_away f path silent s written a h.1

sent_away : (f : Said → Bool) (path : Path) (silent : Bool) (s : Trace Act) (id : ℕ) (message : List ℕ) → Avoids f path s → keep (by_said f) (at path silent (map (on_path (outward id s)) (fragments_of id message))) ≡ []
sent_away f path silent s id message a = by_place (stands path silent (outward id s) (fragments_of id message)) where
  by_place : Stands path silent (outward id s) (fragments_of id message) → keep (by_said f) (at path silent (map (on_path (outward id s)) (fragments_of id message))) ≡ []
  by_place (nowhere e) = ap (keep (by_said f)) e
  by_place (there on e) = ap (keep (by_said f)) e ∙ by_test (f (Brings id)) refl where
    by_test : (b : Bool) → f (Brings id) ≡ b → keep (by_said f) (fragments_of id message) ≡ []
    by_test true k = absurd (let no : true ≡ false = sym on ∙ a.data_is id k in cc)
    by_test false k = keep-data f id (fragments_of id message) false (fragments_are_data id message) k

-- an act writes nothing of what avoids the path
pub none_added : (f : Said → Bool) (path : Path) (role : Role) (s : Trace Act) (act : Act) → Avoids f path s → keep (by_said f) (added path role s act) ≡ []
none_added f path role s act a = by_view act (view role s act) where
  by_view : (act : Act) → View role s act → keep (by_said f) (added path role s act) ≡ []
  by_view _ (sends id message) = sent_away f path (silent_at path s) s id message a
  by_view _ (syncs reliable lossy) = one_away f path (silent_at path s) Main (sync_request reliable lossy) (λ e. absurd (let no : true ≡ false = sym e ∙ a.request_is (lists_of reliable lossy) in cc))
  by_view _ (answers named) = one_away f path (silent_at path s) Main (SyncResponse (types_of named)) (λ e. absurd (let no : true ≡ false = sym e ∙ a.answer_is (types_of named) in cc))
  by_view _ (plain act items no_request no_answer no_message) = items_away f path (silent_at path s) s (adds role s act) (record { close_is = a.close_is; table_is = a.table_is }) items

-- what moves with a channel: to a reliable tunnel all that is of it, to a lossy one its data
abbrev pub moves : Kind → ℕ → Said → Bool
moves Reliable id what = is_of id (channel_in what)
moves Lossy id what = brings_to id what

-- all that is of it
abbrev pub is_said_of : ℕ → Said → Bool
is_said_of id what = is_of id (channel_in what)

table_apart : (id : ℕ) (what : Said) → IsTable what → is_of id (channel_in what) ≡ false
table_apart id (Capable version) t = refl
table_apart id (Creates made name) t = refl
table_apart id (Created made status) t = refl
table_apart id (Brings made) t = absurd t
table_apart id (Ends made) t = absurd t
table_apart id (Moves lists) t = absurd t
table_apart id (Moved kinds) t = absurd t

pub table_brings : (id : ℕ) (what : Said) → IsTable what → brings_to id what ≡ false
table_brings id (Capable version) t = refl
table_brings id (Creates made name) t = refl
table_brings id (Created made status) t = refl
table_brings id (Brings made) t = absurd t
table_brings id (Ends made) t = absurd t
table_brings id (Moves lists) t = absurd t
table_brings id (Moved kinds) t = absurd t

close_through : (kind : Kind) (path : Path) → is_through kind path ≡ false → is_through kind (close_path path) ≡ false
close_through kind Main h = refl
close_through kind (Tunnel Reliable) h = h
close_through kind (Tunnel Lossy) h = refl

pub avoid_tunnel : (kind : Kind) (s : Trace Act) (id : ℕ) → is_through kind (outward id s) ≡ false → Avoids (is_said_of id) (Tunnel kind) s
avoid_tunnel kind s id h = record {
  data_is = λ made e. (let same : made ≡ id = eqb-true made id e in ap (λ x. is_through kind (outward x s)) same ∙ h);
  close_is = λ made e. (let same : made ≡ id = eqb-true made id e in ap (λ x. is_through kind (close_path (outward x s))) same ∙ close_through kind (outward id s) h);
  table_is = table_apart id;
  request_is = λ lists. refl;
  answer_is = λ kinds. refl;
}

pub avoid_main : (kind : Kind) (s : Trace Act) (id : ℕ) → outward id s ≡ Tunnel kind → Avoids (moves kind id) Main s
avoid_main Reliable s id h = record {
  data_is = λ made e. (let same : made ≡ id = eqb-true made id e in ap (λ x. is_at Main (outward x s)) same ∙ ap (is_at Main) h);
  close_is = λ made e. (let same : made ≡ id = eqb-true made id e in ap (λ x. is_at Main (close_path (outward x s))) same ∙ ap (λ p. is_at Main (close_path p)) h);
  table_is = table_apart id;
  request_is = λ lists. refl;
  answer_is = λ kinds. refl;
}
avoid_main Lossy s id h = record {
  data_is = λ made e. (let same : made ≡ id = eqb-true made id e in ap (λ x. is_at Main (outward x s)) same ∙ ap (is_at Main) h);
  close_is = λ made e. absurd (let no : false ≡ true = e in cc);
  table_is = table_brings id;
  request_is = λ lists. refl;
  answer_is = λ kinds. refl;
}

-- ---- the words on the main stream are those that were said

pub record Wordless (pdus : List Pdu) : Type 0 where
  pub requests : requests_in pdus ≡ []
  pub answers : answers_in pdus ≡ []

wordless_append : (xs ys : List Pdu) → Wordless xs → Wordless ys → Wordless (xs ++ ys)
wordless_append xs ys h k = record {
  requests = requests-append xs ys ∙ ap (λ l. l ++ requests_in ys) h.requests ∙ k.requests;
  answers = answers-append xs ys ∙ ap (λ l. l ++ answers_in ys) h.answers ∙ k.answers;
}

wordless_at : (xs ys : List Pdu) → xs ≡ ys → Wordless ys → Wordless xs
wordless_at xs ys e h = record { requests = ap requests_in e ∙ h.requests; answers = ap answers_in e ∙ h.answers }

wordless_table : (pdu : Pdu) → IsTable (said pdu) → Wordless (pdu ∷ [])
wordless_table (Caps version charges) t = record { requests = refl; answers = refl }
wordless_table (CreateRequest id priority name) t = record { requests = refl; answers = refl }
wordless_table (CreateResponse id status) t = record { requests = refl; answers = refl }
wordless_table (DataFirst id total bytes) t = absurd t
wordless_table (Data id bytes) t = absurd t
wordless_table (CompressedFirst id total bytes) t = absurd t
wordless_table (Compressed id bytes) t = absurd t
wordless_table (Close id) t = absurd t
wordless_table (SyncRequest flags tunnels lists) t = absurd t
wordless_table (SyncResponse types) t = absurd t

wordless_data : (id : ℕ) (pdus : List Pdu) → AreData id pdus → Wordless pdus
wordless_data id [] h = record { requests = refl; answers = refl }
wordless_data id (pdu ∷ pdus) h = wordless_append (pdu ∷ []) pdus (by_pdu pdu h.0) (wordless_data id pdus h.1) where
  by_pdu : (pdu : Pdu) → said pdu ≡ Brings id → Wordless (pdu ∷ [])
  by_pdu (Caps version charges) e = cc
  by_pdu (CreateRequest made priority name) e = cc
  by_pdu (CreateResponse made status) e = cc
  by_pdu (DataFirst made total bytes) e = record { requests = refl; answers = refl }
  by_pdu (Data made bytes) e = record { requests = refl; answers = refl }
  by_pdu (CompressedFirst made total bytes) e = record { requests = refl; answers = refl }
  by_pdu (Compressed made bytes) e = record { requests = refl; answers = refl }
  by_pdu (Close made) e = cc
  by_pdu (SyncRequest flags tunnels lists) e = cc
  by_pdu (SyncResponse types) e = cc

wordless_item : (s : Trace Act) (w : Written) → Item s w → Wordless (at Main false (w ∷ []))
wordless_item s _ (frame heard e) = wordless_at _ [] (frame_at Main false heard e) (record { requests = refl; answers = refl })
wordless_item s _ (create kind drawn e) = record { requests = refl; answers = refl }
wordless_item s _ (of_table pdu t) = wordless_table pdu t
wordless_item s _ (close id) = by_path (outward id s) where
  by_path : (path : Path) → Wordless (at Main false (closing path id ∷ []))
  by_path Main = record { requests = refl; answers = refl }
  by_path (Tunnel Reliable) = record { requests = refl; answers = refl }
  by_path (Tunnel Lossy) = record { requests = refl; answers = refl }

pub wordless_items : (s : Trace Act) (written : List Written) → Items s written → Wordless (at Main false written)
wordless_items s [] h = record { requests = refl; answers = refl }
wordless_items s (w ∷ written) h =
    wordless_at _ _ (at-append Main false (w ∷ []) written) (wordless_append (at Main false (w ∷ [])) (at Main false written) (wordless_item s w h.0) (wordless_items s written h.1))

pub wordless_sent : (s : Trace Act) (id : ℕ) (message : List ℕ) → Wordless (at Main false (map (on_path (outward id s)) (fragments_of id message)))
wordless_sent s id message = by_place (stands Main false (outward id s) (fragments_of id message)) where
  by_place : Stands Main false (outward id s) (fragments_of id message) → Wordless (at Main false (map (on_path (outward id s)) (fragments_of id message)))
  by_place (nowhere e) = wordless_at _ [] e (record { requests = refl; answers = refl })
  by_place (there on e) = wordless_at _ _ e (wordless_data id (fragments_of id message) (fragments_are_data id message))

-- the request that is written is the one that was made, and so is the answer
list_some : (kind : Kind) (id : ℕ) (ids : List ℕ) → list_to kind (id ∷ ids) ≡ record { kind = kind; ids = id ∷ ids } ∷ []
list_some kind id ids =
    ap (λ b. cond b [] (record { kind = kind; ids = id ∷ ids } ∷ [])) (ne_eqb (length (id ∷ ids)) 0 (λ q. omega (arith, q)))

pub request_written : (reliable lossy : List ℕ) → request_read (lists_of reliable lossy) ≡ request_of reliable lossy
request_written [] [] = refl
request_written [] (y ∷ ys) =
    ap (λ l. request_read (list_to Reliable [] ++ l)) (list_some Lossy y ys)
    ∙ ap (λ l. record { named = record { reliable = false; lossy = true }; channels = l }) (append-nil (map (λ id. (id, Lossy)) (y ∷ ys)))
request_written (x ∷ xs) [] =
    ap (λ l. request_read (l ++ list_to Lossy [])) (list_some Reliable x xs)
request_written (x ∷ xs) (y ∷ ys) =
    ap (λ l. request_read (l ++ list_to Lossy (y ∷ ys))) (list_some Reliable x xs)
    ∙ ap (λ l. request_read (record { kind = Reliable; ids = x ∷ xs } ∷ l)) (list_some Lossy y ys)
    ∙ ap (λ l. record { named = record { reliable = true; lossy = true }; channels = map (λ id. (id, Reliable)) (x ∷ xs) ++ l }) (append-nil (map (λ id. (id, Lossy)) (y ∷ ys)))

pub answer_written : (named : Kinds) → kinds_of (types_of named) ≡ named
answer_written named = by_test named.reliable named.lossy where
  by_test : (reliable lossy : Bool) → kinds_of (types_of (record { reliable = reliable; lossy = lossy })) ≡ record { reliable = reliable; lossy = lossy }
  by_test true true = refl
  by_test true false = refl
  by_test false true = refl
  by_test false false = refl

pub record Words (role : Role) (s : Trace Act) : Type 0 where
  pub requests_are : requests_in (out Main role s) ≡ all_told made_by s
  pub answers_are : answers_in (out Main role s) ≡ all_told answer_made s

-- what an act adds to the words
added_words : (role : Role) (s : Trace Act) (act : Act) → View role s act → (requests_in (added Main role s act) ≡ made_by act) × (answers_in (added Main role s act) ≡ answer_made act)
added_words role s _ (sends id message) = let w = wordless_sent s id message in (w.requests, w.answers)
added_words role s _ (syncs reliable lossy) = (ap (λ r. r ∷ []) (request_written reliable lossy), refl)
added_words role s _ (answers named) = (refl, ap (λ r. r ∷ []) (answer_written named))
added_words role s _ (plain act items a b c) = let w = wordless_items s (adds role s act) items in (w.requests ∙ sym a, w.answers ∙ sym b)

pub words_are : (role : Role) (s : Trace Act) → Words role s
words_are role Start = record { requests_are = refl; answers_are = refl }
words_are role (s ▷ act) =
    let w = words_are role s in
    let new = added_words role s act (view role s act) in record {
      requests_are = ap requests_in (out-step Main role s act) ∙ requests-append (out Main role s) (added Main role s act) ∙ ap (λ l. l ++ requests_in (added Main role s act)) w.requests_are ∙ ap (λ l. all_told made_by s ++ l) new.0;
      answers_are = ap answers_in (out-step Main role s act) ∙ answers-append (out Main role s) (added Main role s act) ∙ ap (λ l. l ++ answers_in (added Main role s act)) w.answers_are ∙ ap (λ l. all_told answer_made s ++ l) new.1;
    }
