-- The tunnels of an end: what was asked for, and what became of it.
use Rattle.std.specs.Prelude.{ℕ, ◌==◌, Bool, true, false, not, ◌&&◌, ◌||◌, List, [], ◌∷◌, ◌++◌, Option, Some, None, is_some, if◌then◌else◌}
use Rattle.std.specs.Option.{option_or}
use Rattle.mt_base.specs.declared.kinds.Kind.{Kind}
use Rattle.mt_base.specs.declared.kinds.Kind.TheVariants.{Reliable, Lossy}
use Rattle.mt_base.specs.declared.kinds.Role.{Role}
use Rattle.mt_base.specs.declared.kinds.Role.TheVariants.{Server, Client}
use Rattle.mt_base.specs.Ends.{same_kind}
use Rattle.mt_base.specs.Trace.{Trace, Start, ◌▷◌}
use Rattle.tunnel_cookies.specs.declared.entry.Verdict.{Verdict}
use Rattle.tunnel_cookies.specs.declared.entry.Verdict.TheVariants as verdict
use Rattle.tunnel_cookies.specs.Entries.{Entries, unspent, entry_of, after}
use Rattle.mt_endpoint.specs.Acts.{Act, Asks, Attaches, Refuses, Silences, Hears, Draws, Judges, TunnelAsked, TunnelAnswered, CreateAnswered}

-- the number of a link in the table of issued requests
abbrev pub link_of : Kind → ℕ
link_of Reliable = 0
link_of Lossy = 1

-- the id and the cookie of a request for a tunnel
pub record Request : Type 0 where
  pub id : ℕ
  pub cookie : List ℕ

abbrev pub where_kind : {A : Type 0} → Kind → Kind → A → Option A
where_kind kind made x = if same_kind kind made then Some x else None

-- the request of an act: the server makes it, the client reads it
abbrev pub request_in : Kind → Act → Option Request
request_in kind (Asks made id cookie) = where_kind kind made (record { id = id; cookie = cookie })
request_in kind (Hears (TunnelAsked id made cookie)) = where_kind kind made (record { id = id; cookie = cookie })
request_in kind act = None

-- the first of what acts tell
abbrev pub first_told : {A : Type 0} → (Act → Option A) → Trace Act → Option A
first_told tells Start = None
first_told tells (t ▷ act) = option_or (first_told tells t) (tells act)

-- the request for a tunnel of this kind
abbrev pub asked : Kind → Trace Act → Option Request
asked kind t = first_told (request_in kind) t

abbrev pub attaches : Kind → Act → Bool
attaches kind (Attaches made) = same_kind kind made
attaches kind act = false

abbrev pub is_attached : Kind → Trace Act → Bool
is_attached kind Start = false
is_attached kind (t ▷ act) = is_attached kind t || attaches kind act

-- after how many expiries a tunnel is silent
abbrev pub silence_in : Kind → Act → Option ℕ
silence_in kind (Silences made expiries) = where_kind kind made expiries
silence_in kind act = None

abbrev pub silence : Kind → Trace Act → Option ℕ
silence kind t = first_told (silence_in kind) t

abbrev pub is_silent : Kind → Trace Act → Bool
is_silent kind t = is_some (silence kind t)

-- the first answer that a client drew from the tunnel to its create request
abbrev pub answer_in : Kind → Act → Option ℕ
answer_in kind (Draws made at (CreateAnswered hr)) = where_kind kind made hr
answer_in kind act = None

abbrev pub answer : Kind → Trace Act → Option ℕ
answer kind t = first_told (answer_in kind) t

-- a server's verdict by which the tunnel opens
abbrev pub is_opened : Verdict → Bool
is_opened verdict.Opened = true
is_opened verdict.Again = false
is_opened verdict.Unknown = false
is_opened verdict.WrongCookie = false
is_opened verdict.WrongKind = false
is_opened (verdict.Spent link) = false

abbrev pub opens : Kind → Act → Bool
opens kind (Judges made at id cookie verdict is_full) = same_kind kind made && is_opened verdict
opens kind act = false

abbrev pub was_opened : Kind → Trace Act → Bool
was_opened kind Start = false
was_opened kind (t ▷ act) = was_opened kind t || opens kind act

abbrev pub is_zero : Option ℕ → Bool
is_zero None = false
is_zero (Some n) = n == 0

-- the tunnel opened: the server's verdict was so, or the client drew the answer 0
abbrev pub is_open : Role → Kind → Trace Act → Bool
is_open Server kind t = was_opened kind t
is_open Client kind t = is_zero (answer kind t)

abbrev pub not_zero : Option ℕ → Option ℕ
not_zero None = None
not_zero (Some n) = if n == 0 then None else Some n

-- a code that isn't 0 by which the client refuses a tunnel or tells the server that it isn't open
abbrev pub is_for : Option Request → ℕ → Bool
is_for None id = false
is_for (Some request) id = request.id == id

abbrev pub refusal_in : Role → Kind → Trace Act → Act → Option ℕ
refusal_in Server kind t (Hears (TunnelAnswered id hr)) = if is_for (asked kind t) id then not_zero (Some hr) else None
refusal_in Client kind t (Refuses made hr) = where_kind kind made hr
refusal_in role kind t act = None

abbrev pub told_refusal : Role → Kind → Trace Act → Option ℕ
told_refusal role kind Start = None
told_refusal role kind (t ▷ act) = option_or (told_refusal role kind t) (refusal_in role kind t act)

-- the code by which a tunnel is refused: by this end, or by the first answer to its create request
abbrev pub refusal : Role → Kind → Trace Act → Option ℕ
refusal Server kind t = told_refusal Server kind t
refusal Client kind t = option_or (told_refusal Client kind t) (not_zero (answer kind t))

pub data Tunnel : Type 0 where
  Absent : Tunnel
  Asked : Tunnel
  Attached : Tunnel
  Open : Tunnel
  Refused : (hr : ℕ) → Tunnel
  Silent : (expiries : ℕ) → Tunnel

abbrev pub begun : Kind → Trace Act → Tunnel
begun kind t = if is_attached kind t then Attached else if is_some (asked kind t) then Asked else Absent

abbrev pub or_refused : Option ℕ → Tunnel → Tunnel
or_refused None tunnel = tunnel
or_refused (Some hr) tunnel = Refused hr

abbrev pub or_silent : Option ℕ → Tunnel → Tunnel
or_silent None tunnel = tunnel
or_silent (Some expiries) tunnel = Silent expiries

-- what a tunnel is: the first of silent, open, refused, attached and asked that holds
abbrev pub tunnel : Role → Kind → Trace Act → Tunnel
tunnel role kind t =
    or_silent (silence kind t) (if is_open role kind t then Open else or_refused (refusal role kind t) (begun kind t))

-- a tunnel that carries: it is open, and its link not closed
abbrev pub is_live : Role → Kind → Trace Act → Bool
is_live role kind t = is_open role kind t && not (is_silent kind t)

-- it is known what became of it: it is open, refused or silent
abbrev pub is_settled : Role → Kind → Trace Act → Bool
is_settled role kind t = is_silent kind t || (is_open role kind t || is_some (refusal role kind t))

-- the table of the requests that a server issued
abbrev pub issued : Trace Act → Entries
issued Start = []
issued (t ▷ Asks kind id cookie) = issued t ++ (id, unspent kind cookie) ∷ []
issued (t ▷ Judges kind at id cookie verdict is_full) = after (link_of kind) id verdict (entry_of id (issued t)) (issued t)
issued (t ▷ act) = issued t
