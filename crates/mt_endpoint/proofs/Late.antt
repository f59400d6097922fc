-- Nothing of a channel comes on the main stream behind its word.
use Rattle.std.proofs.Common.{◌≡◌, ℕ, ◌<◌, Bool, true, false, not, ◌&&◌, cond, List, [], ◌∷◌, ◌++◌, map, length, Option, Some, None, refl, sym, ap, ◌∙◌, append_assoc, arith, eq-eqb}
use Rattle.mt_base.specs.declared.kinds.Kind.{Kind}
use Rattle.mt_base.specs.declared.kinds.Kind.TheVariants.{Reliable, Lossy}
use Rattle.mt_base.specs.declared.kinds.Role.{Role}
use Rattle.mt_base.specs.declared.kinds.Role.TheVariants.{Server, Client}
use Rattle.mt_base.specs.Ends.{other}
use Rattle.mt_base.specs.Trace.{Trace, Start, ◌▷◌}
use Rattle.dvc_pdus.specs.Value.{Pdu}
use Rattle.soft_sync.specs.declared.kinds.Kinds.{Kinds}
use Rattle.soft_sync.specs.declared.kinds.Path.{Path}
use Rattle.soft_sync.specs.declared.kinds.Path.TheVariants.{Main, Tunnel}
use Rattle.soft_sync.specs.Exchanges.{Request, exchanges}
use Rattle.soft_sync.specs.Words.{path_of}
use Rattle.mt_endpoint.specs.Acts.{Act, Answers, Releases, Discards, Spoken}
use Rattle.mt_endpoint.specs.Said.{Brings, Ends, said}
use Rattle.mt_endpoint.specs.Channels.{is_closed}
use Rattle.mt_endpoint.specs.Moving.{all_told, made_by, read_by, answer_made, unanswered_in, inward, request_read}
use Rattle.mt_endpoint.specs.Holding.{is_through}
use Rattle.mt_endpoint.specs.Faults.{when, TooLateOnMain, is_moved, is_moved_whole, late_fault}
use Rattle.mt_base.specs.Prefix.{IsPrefixOf}
use Rattle.mt_endpoint.specs.World.{hears}
use Rattle.mt_endpoint.specs.Alone.{IsAct, EndOfActs}
use Rattle.mt_endpoint.specs.Orders.{told_by, requests_told}
use Rattle.mt_endpoint.specs.Meeting.{Meet, Comes}
use Rattle.mt_endpoint.proofs.ChannelPdus.{spoken_pdus, spoken_pdus-append, out}
use Rattle.mt_endpoint.proofs.Words.{word}
use Rattle.mt_endpoint.proofs.Fitting.{Fits, Fitting}
use Rattle.mt_endpoint.proofs.Written.{moves}
use Rattle.mt_endpoint.proofs.Paths.{Begin}
use Rattle.mt_endpoint.proofs.MainClean.{moved_of, main_clean}
use Rattle.mt_endpoint.proofs.Reading.{heard, inward_heard}
use Rattle.mt_endpoint.proofs.Creating.{told-append}
use Rattle.mt_endpoint.proofs.Answering.{map-append}
use Rattle.mt_endpoint.proofs.Listing.{lists_are}
use Rattle.mt_endpoint.proofs.Hearing.{reads_are}

-- ---- the acts of an end fit

moved_through : (kind : Kind) (path : Path) → is_through kind path ≡ true → is_moved path ≡ true
moved_through kind Main h = absurd (let no : false ≡ true = h in cc)
moved_through kind (Tunnel made) h = refl

pub fewer : (rs : List Request) (zs : List Kinds) (r : Request) (rest : List Request) → unanswered_in (exchanges rs zs) ≡ r ∷ rest → length zs < length rs
fewer [] zs r rest h = absurd (let no : [] ≡ r ∷ rest = h in cc)
fewer (x ∷ rs) [] r rest h = omega arith
fewer (x ∷ rs) (z ∷ zs) r rest h = let n = fewer rs zs r rest h in omega (arith, n)

pub fits_act : (role : Role) (t : Trace Act) (act : Act) → IsAct role t act → Fits role t act
fits_act role t (Answers named) a = (a.is_client, fewer (all_told read_by t) (all_told answer_made t) a.request a.rest a.is_oldest)
fits_act role t (Releases kind at bytes pdu) a = (
  record {
    id = a.id;
    first = record { at = at; bytes = bytes; pdu = pdu };
    rest = a.rest;
    pdu_is = refl;
    channel_is = a.channel_is;
    inward = moved_through kind (inward a.id t) a.word_is_read;
    is_fresh = a.is_fresh;
    queue_is = a.is_oldest;
  },
  a.is_taken,
)
fits_act role t (Discards at bytes pdu) a = record {
  id = a.id;
  first = record { at = at; bytes = bytes; pdu = pdu };
  rest = a.rest;
  pdu_is = refl;
  channel_is = a.channel_is;
  inward = moved_through Lossy (inward a.id t) a.word_is_read;
  is_fresh = a.is_fresh;
  queue_is = a.is_oldest;
}
fits_act role t act a = a

pub fitting : (role : Role) (t : Trace Act) → EndOfActs role t → Fitting role t
fitting role Start e = tt
fitting role (t ▷ act) e = (fits_act role t act e.1, fitting role t e.2)

-- ---- the requests that a client read are the first of those that the server made

pub reads_front : (here there : Trace Act) → Meet Server here there → IsPrefixOf (all_told read_by there) (all_told made_by here)
reads_front here there m = (
  map request_read (told_by requests_told m.to_there.0),
  sym (lists_are Server here m.here_acts).requests_are ∙ ap (λ l. map request_read (told_by requests_told l)) m.to_there.1 ∙ ap (map request_read) (told-append requests_told (hears there) m.to_there.0)
      ∙ map-append request_read (told_by requests_told (hears there)) (told_by requests_told m.to_there.0) ∙ ap (λ l. l ++ map request_read (told_by requests_told m.to_there.0)) (reads_are there).requests_are,
)

pub begin_of : (role : Role) (here there : Trace Act) → Meet role here there → Begin (other role) there (all_told made_by here)
begin_of Server here there m = reads_front here there m
begin_of Client here there m = tt

-- ---- behind the word

not_kept : {A : Type 0} (b : Bool) (x : A) (xs : List A) → cond b (x ∷ xs) xs ≡ [] → b ≡ false
not_kept true x xs h = absurd (let no : x ∷ xs ≡ [] = h in cc)
not_kept false x xs h = refl

behind_word : (role : Role) (here there : Trace Act) (pdu : Pdu) (id : ℕ) (kind : Kind) → Meet role here there → Comes role here there (Spoken pdu) → word (other role) (all_told made_by here) id (heard here) ≡ Some kind
    → moves kind id (said pdu) ≡ false
behind_word role here there pdu id kind m h word_is =
    let split : out Main (other role) there ≡ heard here ++ pdu ∷ spoken_pdus h.0 =
    ap spoken_pdus (h.1 ∙ append_assoc (hears here) (Spoken pdu ∷ []) h.0) ∙ spoken_pdus-append (hears here) (Spoken pdu ∷ h.0) in
    let clean : moved_of kind id (pdu ∷ spoken_pdus h.0) ≡ [] =
    main_clean (other role) there (all_told made_by here) id (fitting (other role) there m.there_acts) (begin_of role here there m) (heard here) (pdu ∷ spoken_pdus h.0) kind split word_is in
    not_kept (moves kind id (said pdu)) pdu (moved_of kind id (spoken_pdus h.0)) clean

brings_moves : (kind : Kind) (id : ℕ) → moves kind id (Brings id) ≡ true
brings_moves Reliable id = eq-eqb id id refl
brings_moves Lossy id = eq-eqb id id refl

pub data_in_time : (role : Role) (here there : Trace Act) (pdu : Pdu) (id : ℕ) → Meet role here there → Comes role here there (Spoken pdu) → said pdu ≡ Brings id → is_moved (inward id here) ≡ false
data_in_time role here there pdu id m h e =
    ap is_moved (inward_heard role here id (fitting role here m.here_acts)) ∙ by_word (word (other role) (all_told made_by here) id (heard here)) refl where
      by_word : (o : Option Kind) → word (other role) (all_told made_by here) id (heard here) ≡ o → is_moved (path_of o) ≡ false
      by_word None w = refl
      by_word (Some kind) w = absurd (let no : true ≡ false = sym (brings_moves kind id) ∙ sym (ap (moves kind id) e) ∙ behind_word role here there pdu id kind m h w in cc)

pub close_in_time : (role : Role) (here there : Trace Act) (pdu : Pdu) (id : ℕ) → Meet role here there → Comes role here there (Spoken pdu) → said pdu ≡ Ends id → is_moved_whole (inward id here) ≡ false
close_in_time role here there pdu id m h e =
    ap is_moved_whole (inward_heard role here id (fitting role here m.here_acts)) ∙ by_word (word (other role) (all_told made_by here) id (heard here)) refl where
      by_word : (o : Option Kind) → word (other role) (all_told made_by here) id (heard here) ≡ o → is_moved_whole (path_of o) ≡ false
      by_word None w = refl
      by_word (Some Reliable) w = absurd (let no : true ≡ false = sym (eq-eqb id id refl) ∙ sym (ap (moves Reliable id) e) ∙ behind_word role here there pdu id Reliable m h w in cc)
      by_word (Some Lossy) w = refl

pub not_late : (role : Role) (here : Trace Act) (id : ℕ) (moved : Bool) → moved ≡ false → late_fault role here id moved ≡ None
not_late role here id moved h = ap (λ b. when (b && not (is_closed role id here)) (TooLateOnMain id)) h
