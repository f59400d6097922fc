-- What an act writes into the reliable tunnel, and why.
use Rattle.std.proofs.Common.{◌≡◌, ℕ, Bool, true, false, cond, List, [], ◌∷◌, ◌++◌, map, Option, Some, None, refl, sym, subst, ◌∙◌}
use Rattle.mt_base.specs.declared.kinds.Kind.{Kind}
use Rattle.mt_base.specs.declared.kinds.Kind.TheVariants.{Reliable, Lossy}
use Rattle.mt_base.specs.declared.kinds.Role.{Role}
use Rattle.mt_base.specs.declared.kinds.Role.TheVariants.{Server, Client}
use Rattle.mt_base.specs.Trace.{Trace}
use Rattle.tunnel_cookies.specs.declared.entry.Verdict.{Verdict}
use Rattle.dvc_pdus.specs.Value.{Pdu}
use Rattle.dvc_channels.specs.Fragments.{fragments_of}
use Rattle.soft_sync.specs.declared.kinds.Path.{Path}
use Rattle.soft_sync.specs.declared.kinds.Path.TheVariants.{Main, Tunnel}
use Rattle.mt_endpoint.specs.Acts.{Act, Began, Opens, Sends, Takes, Asks, Attaches, Repeats, Refuses, Syncs, Closes, Silences, Hears, Draws, Judges, Misses, Answers, Releases, Discards, TunnelAsked, TunnelAnswered, Spoken, Drawn, CreateAsked, CreateAnswered, Nothing, Carried}
use Rattle.mt_endpoint.specs.Said.{Said, Capable, Creates, Created, Brings, Ends, Moves, Moved, said}
use Rattle.mt_endpoint.specs.Channels.{is_closed}
use Rattle.mt_endpoint.specs.Tunnels.{Request, asked, answer, is_silent}
use Rattle.mt_base.specs.Ends.{same_kind}
use Rattle.mt_endpoint.specs.Moving.{outward}
use Rattle.mt_endpoint.specs.Writing.{Written, OnMain, Into, on_path, closing, create_request, told_of, told_first, unless, create_code, is_full_for, reply, adds, into}
use Rattle.mt_endpoint.specs.Alone.{IsAct}
use Rattle.mt_endpoint.proofs.Sources.{EachBrings, fragments_bring}

-- data or the close of this channel
abbrev pub IsFor : ℕ → Said → Type 0
IsFor id (Capable version) = ⊥
IsFor id (Creates made name) = ⊥
IsFor id (Created made status) = ⊥
IsFor id (Brings made) = made ≡ id
IsFor id (Ends made) = made ≡ id
IsFor id (Moves lists) = ⊥
IsFor id (Moved kinds) = ⊥

-- tunnel PDUs with data or the close of this channel
abbrev pub AllFor : ℕ → List Drawn → Type 0
AllFor id [] = Unit {0}
AllFor id (CreateAsked made cookie ∷ xs) = ⊥
AllFor id (CreateAnswered hr ∷ xs) = ⊥
AllFor id (Nothing ∷ xs) = ⊥
AllFor id (Carried bytes pdu ∷ xs) = IsFor id (said pdu) × AllFor id xs

pub data Fills (role : Role) (t : Trace Act) : Act → List Drawn → Type 0 where
  nothing : (act : Act) → Fills role t act []
  asks : (id : ℕ) (cookie : List ℕ) → role ≡ Client → Fills role t (Attaches Reliable) (CreateAsked id cookie ∷ [])
  answers : (at id : ℕ) (cookie : List ℕ) (verdict : Verdict) (is_full : Bool) → role ≡ Server → Fills role t (Judges Reliable at id cookie verdict is_full) (CreateAnswered (create_code verdict) ∷ [])
  carries : (act : Act) (id : ℕ) (xs : List Drawn) → outward id t ≡ Tunnel Reliable → is_silent Reliable t ≡ false → AllFor id xs → Fills role t act xs

-- ---- a silent tunnel gets nothing

into_silent : (kind : Kind) (xs : List Written) → into kind true xs ≡ []
into_silent kind [] = refl
into_silent kind (OnMain heard ∷ xs) = into_silent kind xs
into_silent kind (Into made drawn ∷ xs) = by_kind (same_kind kind made) (into_silent kind xs) where
  by_kind : (b : Bool) → into kind true xs ≡ [] → cond b (into kind true xs) (into kind true xs) ≡ []
  by_kind true h = h
  by_kind false h = h

-- ---- the PDUs of a message

in_none : (path : Path) → (silent : Bool) (pdus : List Pdu) → ((pdu : Pdu) (xs : List Written) → into Reliable silent (on_path path pdu ∷ xs) ≡ into Reliable silent xs) → into Reliable silent (map (on_path path) pdus) ≡ []
in_none path silent [] h = refl
in_none path silent (pdu ∷ pdus) h = h pdu (map (on_path path) pdus) ∙ in_none path silent pdus h

for_brings : (id : ℕ) (pdu : Pdu) → said pdu ≡ Brings id → IsFor id (said pdu)
for_brings id pdu e = subst (IsFor id) (sym e) refl

in_all : (id : ℕ) (pdus : List Pdu) → EachBrings id pdus → AllFor id (into Reliable false (map (on_path (Tunnel Reliable)) pdus))
in_all id [] h = tt
in_all id (pdu ∷ pdus) h = (for_brings id pdu h.0, in_all id pdus h.1)

sends_fill : (role : Role) (t : Trace Act) (act : Act) (id : ℕ) (path : Path) (silent : Bool) (pdus : List Pdu) → outward id t ≡ path → is_silent Reliable t ≡ silent → EachBrings id pdus → Fills role t act (into Reliable silent (map (on_path path) pdus))
sends_fill role t act id Main silent pdus e q h = subst (Fills role t act) (sym (in_none Main silent pdus (λ pdu xs. refl))) (nothing act)
sends_fill role t act id (Tunnel Lossy) silent pdus e q h = subst (Fills role t act) (sym (in_none (Tunnel Lossy) silent pdus (λ pdu xs. refl))) (nothing act)
sends_fill role t act id (Tunnel Reliable) true pdus e q h = subst (Fills role t act) (sym (into_silent Reliable (map (on_path (Tunnel Reliable)) pdus))) (nothing act)
sends_fill role t act id (Tunnel Reliable) false pdus e q h = carries act id _ e q (in_all id pdus h)

-- ---- single PDUs

create_fills : (role : Role) (t : Trace Act) (kind : Kind) (silent : Bool) (request : Option Request) → Fills role t (Attaches kind) (into Reliable silent (create_request role kind request))
create_fills Server t kind silent request = nothing (Attaches kind)
create_fills Client t kind silent None = nothing (Attaches kind)
create_fills Client t Reliable true (Some request) = nothing (Attaches Reliable)
create_fills Client t Reliable false (Some request) = asks request.id request.cookie refl
create_fills Client t Lossy silent (Some request) = nothing (Attaches Lossy)

repeat_fills : (role : Role) (t : Trace Act) (is_full silent : Bool) (request : Option Request) → Fills role t (Repeats is_full) (into Reliable silent (unless is_full (create_request role Lossy request)))
repeat_fills role t true silent request = nothing (Repeats true)
repeat_fills Server t false silent request = nothing (Repeats false)
repeat_fills Client t false silent None = nothing (Repeats false)
repeat_fills Client t false silent (Some request) = nothing (Repeats false)

told_fills : (role : Role) (t : Trace Act) (act : Act) (silent : Bool) (request : Option Request) (hr : ℕ) → Fills role t act (into Reliable silent (told_of request hr))
told_fills role t act silent None hr = nothing act
told_fills role t act silent (Some request) hr = nothing act

first_fills : (role : Role) (t : Trace Act) (act : Act) (kind : Kind) (silent : Bool) (before : Option ℕ) (hr : ℕ) → Fills role t act (into Reliable silent (told_first role kind t before hr))
first_fills Server t act kind silent before hr = nothing act
first_fills Client t act kind silent None hr = told_fills Client t act silent (asked kind t) hr
first_fills Client t act kind silent (Some before) hr = nothing act

closing_fills : (role : Role) (t : Trace Act) (act : Act) (id : ℕ) (path : Path) (silent : Bool) → outward id t ≡ path → is_silent Reliable t ≡ silent → Fills role t act (into Reliable silent (closing path id ∷ []))
closing_fills role t act id Main silent e q = nothing act
closing_fills role t act id (Tunnel Lossy) silent e q = nothing act
closing_fills role t act id (Tunnel Reliable) true e q = nothing act
closing_fills role t act id (Tunnel Reliable) false e q = carries act id _ e q (refl, tt)

ends_fill : (role : Role) (t : Trace Act) (act : Act) (id : ℕ) (closed : Bool) → Fills role t act (into Reliable (is_silent Reliable t) (unless closed (closing (outward id t) id ∷ []) ++ []))
ends_fill role t act id true = nothing act
ends_fill role t act id false = closing_fills role t act id (outward id t) (is_silent Reliable t) refl refl

reply_fills : (role : Role) (t : Trace Act) (act : Act) (what : Said) → Fills role t act (into Reliable (is_silent Reliable t) (reply role t what ++ []))
reply_fills Server t act (Capable version) = nothing act
reply_fills Client t act (Capable version) = nothing act
reply_fills Server t act (Creates id name) = nothing act
reply_fills Client t act (Creates id name) = nothing act
reply_fills role t act (Created id status) = nothing act
reply_fills role t act (Brings id) = nothing act
reply_fills role t act (Ends id) = ends_fill role t act id (is_closed role id t)
reply_fills role t act (Moves lists) = nothing act
reply_fills role t act (Moved kinds) = nothing act

judged_fills : (role : Role) (t : Trace Act) (kind : Kind) (at id : ℕ) (cookie : List ℕ) (verdict : Verdict) (is_full silent : Bool) → role ≡ Server
    → Fills role t (Judges kind at id cookie verdict is_full) (into Reliable silent (unless (is_full_for kind is_full) (Into kind (CreateAnswered (create_code verdict)) ∷ [])))
judged_fills role t Reliable at id cookie verdict is_full true r = nothing (Judges Reliable at id cookie verdict is_full)
judged_fills role t Reliable at id cookie verdict is_full false r = answers at id cookie verdict is_full r
judged_fills role t Lossy at id cookie verdict true silent r = nothing (Judges Lossy at id cookie verdict true)
judged_fills role t Lossy at id cookie verdict false silent r = nothing (Judges Lossy at id cookie verdict false)

-- ---- all acts

pub fills_what : (role : Role) (t : Trace Act) (act : Act) → IsAct role t act → Fills role t act (into Reliable (is_silent Reliable t) (adds role t act))
fills_what Server t Began a = nothing Began
fills_what Client t Began a = nothing Began
fills_what role t (Opens id name) a = nothing (Opens id name)
fills_what role t (Sends id message) a = sends_fill role t (Sends id message) id (outward id t) (is_silent Reliable t) (fragments_of id message) refl refl (fragments_bring id message)
fills_what role t (Takes id message) a = nothing (Takes id message)
fills_what role t (Asks kind id cookie) a = nothing (Asks kind id cookie)
fills_what role t (Attaches kind) a = create_fills role t kind (is_silent Reliable t) (asked kind t)
fills_what role t (Repeats is_full) a = repeat_fills role t is_full (is_silent Reliable t) (asked Lossy t)
fills_what role t (Refuses kind hr) a = told_fills role t (Refuses kind hr) (is_silent Reliable t) (asked kind t) hr
fills_what role t (Syncs reliable lossy) a = nothing (Syncs reliable lossy)
fills_what role t (Closes id) a = closing_fills role t (Closes id) id (outward id t) (is_silent Reliable t) refl refl
fills_what role t (Silences kind expiries) a = nothing (Silences kind expiries)
fills_what role t (Hears (TunnelAsked id kind cookie)) a = nothing (Hears (TunnelAsked id kind cookie))
fills_what role t (Hears (TunnelAnswered id hr)) a = nothing (Hears (TunnelAnswered id hr))
fills_what role t (Hears (Spoken pdu)) a = reply_fills role t (Hears (Spoken pdu)) (said pdu)
fills_what role t (Draws kind at (CreateAsked id cookie)) a = nothing (Draws kind at (CreateAsked id cookie))
fills_what role t (Draws kind at (CreateAnswered hr)) a = first_fills role t (Draws kind at (CreateAnswered hr)) kind (is_silent Reliable t) (answer kind t) hr
fills_what role t (Draws kind at Nothing) a = nothing (Draws kind at Nothing)
fills_what role t (Draws kind at (Carried bytes pdu)) a = nothing (Draws kind at (Carried bytes pdu))
fills_what role t (Judges kind at id cookie verdict is_full) a = judged_fills role t kind at id cookie verdict is_full (is_silent Reliable t) a.0.0
fills_what role t Misses a = nothing Misses
fills_what role t (Answers named) a = nothing (Answers named)
fills_what role t (Releases kind at bytes pdu) a = reply_fills role t (Releases kind at bytes pdu) (said pdu)
fills_what role t (Discards at bytes pdu) a = nothing (Discards at bytes pdu)
