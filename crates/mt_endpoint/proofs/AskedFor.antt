-- A tunnel that is open at either end was asked for, by a request of its own.
use Rattle.std.proofs.Common.{◌≡◌, ◌⊎◌, inl, inr, ℕ, Bool, true, false, ◌&&◌, cond, eqb, List, [], ◌∷◌, ◌++◌, map, Option, Some, None, refl, sym, ap, subst, ◌∙◌}
use Rattle.std.proofs.lemmas.Bool.{eqb-true}
use Rattle.std.specs.Option.{option_or}
use Rattle.mt_base.specs.declared.kinds.Kind.{Kind}
use Rattle.mt_base.specs.declared.kinds.Kind.TheVariants.{Reliable, Lossy}
use Rattle.mt_base.specs.declared.kinds.Role.{Role}
use Rattle.mt_base.specs.declared.kinds.Role.TheVariants.{Server, Client}
use Rattle.mt_base.specs.Trace.{Trace, Start, ◌▷◌}
use Rattle.mt_base.specs.Prefix.{IsPickOf, none, taken, passed}
use Rattle.dvc_pdus.specs.Value.{Pdu, spelled}
use Rattle.dvc_channels.specs.Fragments.{fragments_of}
use Rattle.soft_sync.specs.declared.kinds.Path.{Path}
use Rattle.soft_sync.specs.declared.kinds.Path.TheVariants.{Main, Tunnel}
use Rattle.tunnel_cookies.specs.declared.entry.Verdict.{Verdict}
use Rattle.tunnel_cookies.specs.declared.entry.Verdict.TheVariants as verdict
use Rattle.mt_endpoint.specs.Acts.{Act, Repeats, Refuses, Sends, Closes, Hears, Draws, Judges, Releases, Spoken, Drawn, CreateAsked, CreateAnswered, Nothing, Carried}
use Rattle.mt_endpoint.specs.Said.{Said, Ends, said}
use Rattle.mt_endpoint.specs.Channels.{is_closed}
use Rattle.mt_endpoint.specs.Tunnels.{Request, answer, answer_in, is_zero, is_open, is_silent, was_opened, opens}
use Rattle.mt_base.specs.Ends.{same_kind}
use Rattle.mt_endpoint.specs.Moving.{outward}
use Rattle.mt_endpoint.specs.Writing.{Into, on_path, closing, unless, is_full_for, create_code, reply, adds, into, carried}
use Rattle.mt_endpoint.specs.World.{NetOfActs, side, drawn_in, draws}
use Rattle.mt_endpoint.specs.Alone.{IsAct, EndOfActs}
use Rattle.mt_endpoint.specs.Asking.{WasAskedFor}
use Rattle.mt_endpoint.specs.Orders.{is_among}
use Rattle.mt_base.proofs.Prefixes.{front-append, pick-same, pick-nothing, pick-append, pick-trans}
use Rattle.mt_endpoint.proofs.Known.{among-append, or_front}
use Rattle.mt_endpoint.proofs.Opening.{codes, codes-append, or_back, either_true}
use Rattle.mt_endpoint.proofs.Growth.{pick_front}
use Rattle.mt_endpoint.proofs.Walking.{same_itself}
use Rattle.mt_endpoint.proofs.Spending.{asked_later, again_opened, opened_asked}
use Rattle.mt_endpoint.proofs.Together.{Place, together}

-- ---- the codes that a server writes

codes_sent : (kind : Kind) (silent : Bool) (path : Path) (pdus : List Pdu) → codes (into kind silent (map (on_path path) pdus)) ≡ []
codes_sent kind silent path [] = refl
codes_sent kind silent Main (pdu ∷ pdus) = codes_sent kind silent Main pdus
codes_sent kind silent (Tunnel made) (pdu ∷ pdus) = by_kind (spelled pdu) (same_kind kind made) silent (codes_sent kind silent (Tunnel made) pdus) where
  by_kind : (bytes : List ℕ) (b quiet : Bool) → codes (into kind silent (map (on_path (Tunnel made)) pdus)) ≡ []
      → codes (cond b (unless quiet (Carried bytes pdu ∷ []) ++ into kind silent (map (on_path (Tunnel made)) pdus)) (into kind silent (map (on_path (Tunnel made)) pdus))) ≡ []
  by_kind bytes true true h = h
  by_kind bytes true false h = h
  by_kind bytes false quiet h = h

codes_closing : (kind : Kind) (silent : Bool) (path : Path) (id : ℕ) → codes (into kind silent (closing path id ∷ [])) ≡ []
codes_closing kind silent Main id = refl
codes_closing Reliable true (Tunnel Reliable) id = refl
codes_closing Reliable false (Tunnel Reliable) id = refl
codes_closing Lossy silent (Tunnel Reliable) id = refl
codes_closing kind silent (Tunnel Lossy) id = refl

codes_ends : (kind : Kind) (silent closed : Bool) (path : Path) (id : ℕ) → codes (into kind silent (unless closed (closing path id ∷ []) ++ [])) ≡ []
codes_ends kind silent true path id = refl
codes_ends kind silent false path id = codes_closing kind silent path id

codes_reply : (kind : Kind) (silent : Bool) (t : Trace Act) (what : Said) → codes (into kind silent (reply Server t what ++ [])) ≡ []
codes_reply kind silent t (Ends id) = codes_ends kind silent (is_closed Server id t) (outward id t) id
codes_reply kind silent t what = refl

codes_repeat : (kind : Kind) (silent is_full : Bool) → codes (into kind silent (unless is_full [])) ≡ []
codes_repeat kind silent true = refl
codes_repeat kind silent false = refl

not_empty : (xs : List ℕ) → xs ≡ [] → is_among 0 xs ≡ true → ⊥
not_empty xs e h = let no : false ≡ true = sym (ap (is_among 0) e) ∙ h in cc

-- the verdict behind a code 0
zero_opens : (t : Trace Act) (kind : Kind) (at id : ℕ) (cookie : List ℕ) (v : Verdict) (is_full : Bool) → EndOfActs Server t → IsAct Server t (Judges kind at id cookie v is_full) → is_among 0 (create_code v ∷ []) ≡ true
    → was_opened kind (t ▷ Judges kind at id cookie v is_full) ≡ true
zero_opens t kind at id cookie verdict.Opened is_full e a h = or_back (was_opened kind t) (same_kind kind kind && true) (ap (λ b. b && true) (same_itself kind))
zero_opens t kind at id cookie verdict.Again is_full e a h = or_front (was_opened kind t) (same_kind kind kind && false) (again_opened t kind at id cookie is_full e a)
zero_opens t kind at id cookie verdict.Unknown is_full e a h = absurd (let no : false ≡ true = h in cc)
zero_opens t kind at id cookie verdict.WrongCookie is_full e a h = absurd (let no : false ≡ true = h in cc)
zero_opens t kind at id cookie verdict.WrongKind is_full e a h = absurd (let no : false ≡ true = h in cc)
zero_opens t kind at id cookie (verdict.Spent link) is_full e a h = absurd (let no : false ≡ true = h in cc)

judged_opens : (t : Trace Act) (kind made : Kind) (at id : ℕ) (cookie : List ℕ) (v : Verdict) (is_full silent : Bool) → EndOfActs Server t → IsAct Server t (Judges made at id cookie v is_full)
    → is_among 0 (codes (into kind silent (unless (is_full_for made is_full) (Into made (CreateAnswered (create_code v)) ∷ [])))) ≡ true → was_opened kind (t ▷ Judges made at id cookie v is_full) ≡ true
judged_opens t Reliable Reliable at id cookie v is_full true e a h = absurd (let no : false ≡ true = h in cc)
judged_opens t Reliable Reliable at id cookie v is_full false e a h = zero_opens t Reliable at id cookie v is_full e a h
judged_opens t Reliable Lossy at id cookie v true silent e a h = absurd (let no : false ≡ true = h in cc)
judged_opens t Reliable Lossy at id cookie v false silent e a h = absurd (let no : false ≡ true = h in cc)
judged_opens t Lossy Reliable at id cookie v is_full silent e a h = absurd (let no : false ≡ true = h in cc)
judged_opens t Lossy Lossy at id cookie v true silent e a h = absurd (let no : false ≡ true = h in cc)
judged_opens t Lossy Lossy at id cookie v false true e a h = absurd (let no : false ≡ true = h in cc)
judged_opens t Lossy Lossy at id cookie v false false e a h = zero_opens t Lossy at id cookie v false e a h

added_opens : (t : Trace Act) (kind : Kind) (act : Act) → EndOfActs Server (t ▷ act) → is_among 0 (codes (into kind (is_silent kind t) (adds Server t act))) ≡ true → was_opened kind (t ▷ act) ≡ true
added_opens t kind (Sends id message) e h = absurd (not_empty _ (codes_sent kind (is_silent kind t) (outward id t) (fragments_of id message)) h)
added_opens t kind (Repeats is_full) e h = absurd (not_empty _ (codes_repeat kind (is_silent kind t) is_full) h)
added_opens t kind (Refuses made hr) e h = absurd (let no : Server ≡ Client = e.1.0.0 in cc)
added_opens t kind (Closes id) e h = absurd (not_empty _ (codes_closing kind (is_silent kind t) (outward id t) id) h)
added_opens t kind (Hears (Spoken pdu)) e h = absurd (not_empty _ (codes_reply kind (is_silent kind t) t (said pdu)) h)
added_opens t kind (Releases made at bytes pdu) e h = absurd (not_empty _ (codes_reply kind (is_silent kind t) t (said pdu)) h)
added_opens t kind (Judges made at id cookie v is_full) e h = judged_opens t kind made at id cookie v is_full (is_silent kind t) e.2 e.1 h
added_opens t kind (Draws made at (CreateAnswered hr)) e h = absurd (let no : false ≡ true = h in cc)
added_opens t kind act e h = absurd (let no : false ≡ true = h in cc)

-- where a server answered 0, the tunnel is open there
pub opened_if : (t : Trace Act) (kind : Kind) → EndOfActs Server t → is_among 0 (codes (carried kind Server t)) ≡ true → was_opened kind t ≡ true
opened_if Start kind e h = absurd (let no : false ≡ true = h in cc)
opened_if (t ▷ act) kind e h =
    by_case t kind act e (λ old. opened_if t kind e.2 old)
    (either_true (is_among 0 (codes (carried kind Server t))) (is_among 0 (codes (into kind (is_silent kind t) (adds Server t act))))
    (sym (ap (is_among 0) (codes-append (carried kind Server t) (into kind (is_silent kind t) (adds Server t act))) ∙ among-append 0 (codes (carried kind Server t)) (codes (into kind (is_silent kind t) (adds Server t act)))) ∙ h)) where
      by_case : (t : Trace Act) (kind : Kind) (act : Act) → EndOfActs Server (t ▷ act) → (is_among 0 (codes (carried kind Server t)) ≡ true → was_opened kind t ≡ true)
          → (is_among 0 (codes (carried kind Server t)) ≡ true) ⊎ (is_among 0 (codes (into kind (is_silent kind t) (adds Server t act))) ≡ true) → was_opened kind (t ▷ act) ≡ true
      by_case t kind act e before (inl old) = or_front (was_opened kind t) (opens kind act) (before old)
      by_case t kind act e before (inr new) = added_opens t kind act e new

-- ---- where a server's tunnel is open, it was asked for

same_kinds : (kind made : Kind) → same_kind kind made && true ≡ true → made ≡ kind
same_kinds Reliable Reliable h = refl
same_kinds Reliable Lossy h = absurd (let no : false ≡ true = h in cc)
same_kinds Lossy Reliable h = absurd (let no : false ≡ true = h in cc)
same_kinds Lossy Lossy h = refl

nothing_opens : (b : Bool) → b && false ≡ true → ⊥
nothing_opens true h = let no : false ≡ true = h in cc
nothing_opens false h = let no : false ≡ true = h in cc

asked_later_on : (t : Trace Act) (kind : Kind) (act : Act) → WasAskedFor kind t → WasAskedFor kind (t ▷ act)
asked_later_on t kind act w = record {
  request = w.request;
  is_asked = asked_later kind t act w.request w.is_asked;
  is_read = pick_front (CreateAsked w.request.id w.request.cookie ∷ []) (draws kind t) (draws kind (t ▷ act)) w.is_read (front-append (draws kind t) (drawn_in kind act));
}

judged_now : (t : Trace Act) (kind : Kind) (at id : ℕ) (cookie : List ℕ) (is_full : Bool) → EndOfActs Server (t ▷ Judges kind at id cookie verdict.Opened is_full) → WasAskedFor kind (t ▷ Judges kind at id cookie verdict.Opened is_full)
judged_now t kind at id cookie is_full e =
    let act : Act = Judges kind at id cookie verdict.Opened is_full in
    let request : Request = record { id = id; cookie = cookie } in
    let x : List Drawn = CreateAsked id cookie ∷ [] in
    let new : drawn_in kind act ≡ x = ap (λ b. cond b x []) (same_itself kind) in record {
      request = request;
      is_asked = asked_later kind t act request (opened_asked t kind at id cookie is_full e.2 e.1);
      is_read = subst (λ l. IsPickOf x (draws kind t ++ l)) (sym new) (pick-append [] (draws kind t) x x (pick-nothing (draws kind t)) (pick-same x));
    }

opens_asked : (t : Trace Act) (kind : Kind) (act : Act) → EndOfActs Server (t ▷ act) → opens kind act ≡ true → WasAskedFor kind (t ▷ act)
opens_asked t kind (Judges made at id cookie verdict.Opened is_full) e h =
    subst (λ k. WasAskedFor k (t ▷ Judges made at id cookie verdict.Opened is_full)) (same_kinds kind made h) (judged_now t made at id cookie is_full e)
opens_asked t kind (Judges made at id cookie verdict.Again is_full) e h = absurd (nothing_opens (same_kind kind made) h)
opens_asked t kind (Judges made at id cookie verdict.Unknown is_full) e h = absurd (nothing_opens (same_kind kind made) h)
opens_asked t kind (Judges made at id cookie verdict.WrongCookie is_full) e h = absurd (nothing_opens (same_kind kind made) h)
opens_asked t kind (Judges made at id cookie verdict.WrongKind is_full) e h = absurd (nothing_opens (same_kind kind made) h)
opens_asked t kind (Judges made at id cookie (verdict.Spent link) is_full) e h = absurd (nothing_opens (same_kind kind made) h)
opens_asked t kind act e h = absurd (let no : false ≡ true = h in cc)

asked_case : (t : Trace Act) (kind : Kind) (act : Act) → EndOfActs Server (t ▷ act) → (was_opened kind t ≡ true → WasAskedFor kind t) → (was_opened kind t ≡ true) ⊎ (opens kind act ≡ true) → WasAskedFor kind (t ▷ act)
asked_case t kind act e before (inl old) = asked_later_on t kind act (before old)
asked_case t kind act e before (inr now) = opens_asked t kind act e now

pub opened_for : (t : Trace Act) (kind : Kind) → EndOfActs Server t → was_opened kind t ≡ true → WasAskedFor kind t
opened_for Start kind e h = absurd (let no : false ≡ true = h in cc)
opened_for (t ▷ act) kind e h = asked_case t kind act e (λ old. opened_for t kind e.2 old) (either_true (was_opened kind t) (opens kind act) h)

-- ---- a client's tunnel is open where it drew the answer 0

zero_drawn : (t : Trace Act) (kind : Kind) (act : Act) → is_zero (answer_in kind act) ≡ true → IsPickOf (CreateAnswered 0 ∷ []) (drawn_in kind act)
zero_drawn t kind (Draws made at (CreateAnswered hr)) h = by_kind (same_kind kind made) h where
  by_kind : (b : Bool) → is_zero (cond b (Some hr) None) ≡ true → IsPickOf (CreateAnswered 0 ∷ []) (cond b (CreateAnswered hr ∷ []) [])
  by_kind true k = let it : hr ≡ 0 = eqb-true hr 0 k in subst (λ n. IsPickOf (CreateAnswered 0 ∷ []) (CreateAnswered n ∷ [])) (sym it) (pick-same (CreateAnswered 0 ∷ []))
  by_kind false k = absurd (let no : false ≡ true = k in cc)
zero_drawn t kind act h = absurd (let no : false ≡ true = h in cc)

zero_case : (t : Trace Act) (kind : Kind) (act : Act) (o : Option ℕ) → answer kind t ≡ o → is_zero (option_or o (answer_in kind act)) ≡ true → (is_zero (answer kind t) ≡ true → IsPickOf (CreateAnswered 0 ∷ []) (draws kind t))
    → IsPickOf (CreateAnswered 0 ∷ []) (draws kind t ++ drawn_in kind act)
zero_case t kind act None e h before = pick-append [] (draws kind t) (CreateAnswered 0 ∷ []) (drawn_in kind act) (pick-nothing (draws kind t)) (zero_drawn t kind act h)
zero_case t kind act (Some n) e h before =
    pick_front (CreateAnswered 0 ∷ []) (draws kind t) (draws kind t ++ drawn_in kind act) (before (ap is_zero e ∙ h)) (front-append (draws kind t) (drawn_in kind act))

drew_zero : (t : Trace Act) (kind : Kind) → is_zero (answer kind t) ≡ true → IsPickOf (CreateAnswered 0 ∷ []) (draws kind t)
drew_zero Start kind h = absurd (let no : false ≡ true = h in cc)
drew_zero (t ▷ act) kind h = zero_case t kind act (answer kind t) refl h (λ old. drew_zero t kind old)

-- it is among the codes of what it was picked from
zero_picked : (xs ys : List Drawn) → IsPickOf xs ys → xs ≡ CreateAnswered 0 ∷ [] → is_among 0 (codes ys) ≡ true
zero_picked _ _ none e = absurd (let no : [] ≡ CreateAnswered 0 ∷ [] = e in cc)
zero_picked _ _ (taken x xs ys p) e = let same : x ≡ CreateAnswered 0 = cc in subst (λ y. is_among 0 (codes (y ∷ ys)) ≡ true) (sym same) refl
zero_picked xs _ (passed (CreateAsked id cookie) _ ys p) e = zero_picked xs ys p e
zero_picked xs _ (passed (CreateAnswered hr) _ ys p) e = or_back (eqb hr 0) (is_among 0 (codes ys)) (zero_picked xs ys p e)
zero_picked xs _ (passed Nothing _ ys p) e = zero_picked xs ys p e
zero_picked xs _ (passed (Carried bytes pdu) _ ys p) e = zero_picked xs ys p e

-- what a client drew left the server
drawn_left : (s c : Trace Act) (kind : Kind) → Place Server s c → IsPickOf (draws kind c) (carried kind Server s)
drawn_left s c Reliable p = pick_front (draws Reliable c) (draws Reliable c) (carried Reliable Server s) (pick-same (draws Reliable c)) p.left.reliable
drawn_left s c Lossy p = p.left.lossy

client_for : (s c : Trace Act) (kind : Kind) → Place Server s c → is_zero (answer kind c) ≡ true → WasAskedFor kind s
client_for s c kind p h =
    let picked = pick-trans (CreateAnswered 0 ∷ []) (draws kind c) (carried kind Server s) (drew_zero c kind h) (drawn_left s c kind p) in
    opened_for s kind p.here_acts (opened_if s kind p.here_acts (zero_picked (CreateAnswered 0 ∷ []) (carried kind Server s) picked refl))

pub open_in_net : (w : Trace (Role × Act)) → NetOfActs w → (role : Role) (kind : Kind) → is_open role kind (side role w) ≡ true → WasAskedFor kind (side Server w)
open_in_net w n Server kind h = opened_for (side Server w) kind (together w n).place.here_acts h
open_in_net w n Client kind h = client_for (side Server w) (side Client w) kind (together w n).place h
