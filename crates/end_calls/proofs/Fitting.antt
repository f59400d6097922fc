-- What fits its layout: frames and tunnel PDUs that an end may write.
use Rattle.std.proofs.Common.{◌≡◌, ℕ, ◌^◌, ◌<◌, ◌≤◌, Bool, true, false, ◌||◌, cond, eqb, nat_lt, List, [], ◌∷◌, ◌++◌, length, refl, sym, subst, arith}
use Rattle.std.specs.List.{All}
use Rattle.std.proofs.lemmas.Bool.{eqb-true}
use Rattle.mt_base.specs.declared.kinds.Kind.{Kind}
use Rattle.mt_base.specs.declared.kinds.Role.{Role}
use Rattle.mt_base.specs.declared.kinds.Role.TheVariants.{Server, Client}
use Rattle.mt_base.specs.Trace.{Trace, Start, ◌▷◌}
use Rattle.dvc_pdus.specs.Value.{CreateRequest, CreateResponse, spelled, IsPdu}
use Rattle.tunnel_pdus.specs.Value.{AreBytes, FitsFrame, FitsPdu}
use Rattle.mt_endpoint.specs.Acts.{Act, Heard, TunnelAsked, TunnelAnswered, Spoken, Drawn, CreateAsked, CreateAnswered, Nothing, Carried}
use Rattle.mt_endpoint.specs.Tunnels.{Request}
use Rattle.mt_base.specs.Ends.{same_kind}
use Rattle.mt_endpoint.specs.Orders.{is_among, channels_of}
use Rattle.mt_endpoint.specs.Writing.{Written, OnMain, Into, on_main, into, unless, frame_of, tunnel_pdu_of}
use Rattle.end_calls.specs.Law.{IsGiven}
use Rattle.end_calls.proofs.Each.{Each}
use Rattle.end_calls.proofs.Spelled.{spelled_bytes, spelled_some}

-- an id and a cookie as their fields have them
abbrev pub AreFields : ℕ → List ℕ → Type 0
AreFields id cookie = (id < 2 ^ 32) × AreBytes 16 cookie

abbrev pub FitsRequest : Request → Type 0
FitsRequest request = AreFields request.id request.cookie

abbrev pub FitsHeard : Role → Heard → Type 0
FitsHeard role (TunnelAsked id kind cookie) = AreFields id cookie
FitsHeard role (TunnelAnswered id hr) = (id < 2 ^ 32) × (hr < 2 ^ 32)
FitsHeard role (Spoken pdu) = IsPdu role pdu

abbrev pub FitsDrawn : Role → Drawn → Type 0
FitsDrawn role (CreateAsked id cookie) = AreFields id cookie
FitsDrawn role (CreateAnswered hr) = hr < 2 ^ 32
FitsDrawn role Nothing = Unit {0}
FitsDrawn role (Carried bytes pdu) = (bytes ≡ spelled pdu) × IsPdu role pdu

abbrev pub FitsWritten : Role → Written → Type 0
FitsWritten role (OnMain heard) = FitsHeard role heard
FitsWritten role (Into kind drawn) = FitsDrawn role drawn

-- what every act was given is of its type
abbrev pub EachGiven : Trace Act → Type 0
EachGiven Start = Unit {0}
EachGiven (t ▷ act) = IsGiven act × EachGiven t

pub frame_fits : (role : Role) (heard : Heard) → FitsHeard role heard → FitsFrame (frame_of heard)
frame_fits role (TunnelAsked id kind cookie) h = h
frame_fits role (TunnelAnswered id hr) h = h
frame_fits role (Spoken pdu) h = (omega (arith, spelled_some pdu), h.1, spelled_bytes role pdu h.0)

pub pdu_fits : (role : Role) (drawn : Drawn) → FitsDrawn role drawn → FitsPdu (tunnel_pdu_of drawn)
pdu_fits role (CreateAsked id cookie) h = h
pdu_fits role (CreateAnswered hr) h = h
pdu_fits role Nothing h = (omega arith, λ k d less. absurd (omega (arith, less)))
pdu_fits role (Carried bytes pdu) h =
    (subst (λ l. length l ≤ 1600) (sym h.0) h.1.1, subst (λ l. All (λ b. b < 2 ^ 8) l) (sym h.0) (spelled_bytes role pdu h.1.0))

-- ---- lists of what is written

pub on_main_fit : (role : Role) (written : List Written) → Each (FitsWritten role) written → Each (FitsHeard role) (on_main written)
on_main_fit role [] h = tt
on_main_fit role (OnMain heard ∷ written) h = (h.0, on_main_fit role written h.1)
on_main_fit role (Into kind drawn ∷ written) h = on_main_fit role written h.1

pub into_fit : (role : Role) (kind : Kind) (silent : Bool) (written : List Written) → Each (FitsWritten role) written → Each (FitsDrawn role) (into kind silent written)
into_fit role kind silent [] h = tt
into_fit role kind silent (OnMain heard ∷ written) h = into_fit role kind silent written h.1
into_fit role kind silent (Into made drawn ∷ written) h = by_kind (same_kind kind made) silent (into_fit role kind silent written h.1) where
  by_kind : (b c : Bool) → Each (FitsDrawn role) (into kind silent written) → Each (FitsDrawn role) (cond b (unless c (drawn ∷ []) ++ into kind silent written) (into kind silent written))
  by_kind true true rest = rest
  by_kind true false rest = (h.0, rest)
  by_kind false c rest = rest

-- ---- channels

front_small : (id made : ℕ) (rest : List ℕ) → made < 2 ^ 32 → (is_among id rest ≡ true → id < 2 ^ 32) → is_among id (made ∷ rest) ≡ true → id < 2 ^ 32
front_small id made rest small later h = by_test (eqb made id) refl h where
  by_test : (b : Bool) → eqb made id ≡ b → b || is_among id rest ≡ true → id < 2 ^ 32
  by_test true e k = subst (λ n. n < 2 ^ 32) (eqb-true made id e) small
  by_test false e k = later k

accepted_small : (id made : ℕ) (rest : List ℕ) (b : Bool) → made < 2 ^ 32 → (is_among id rest ≡ true → id < 2 ^ 32) → is_among id (cond b (made ∷ []) [] ++ rest) ≡ true → id < 2 ^ 32
accepted_small id made rest true small later h = front_small id made rest small later h
accepted_small id made rest false small later h = later h

-- the ids of channels that an end told are small
pub ids_small : (role : Role) (hs : List Heard) (id : ℕ) → Each (FitsHeard role) hs → is_among id (channels_of role hs) ≡ true → id < 2 ^ 32
ids_small Server [] id h k = absurd (let no : false ≡ true = k in cc)
ids_small Client [] id h k = absurd (let no : false ≡ true = k in cc)
ids_small Server (TunnelAsked made kind cookie ∷ hs) id h k = ids_small Server hs id h.1 k
ids_small Client (TunnelAsked made kind cookie ∷ hs) id h k = ids_small Client hs id h.1 k
ids_small Server (TunnelAnswered made hr ∷ hs) id h k = ids_small Server hs id h.1 k
ids_small Client (TunnelAnswered made hr ∷ hs) id h k = ids_small Client hs id h.1 k
ids_small Server (Spoken (CreateRequest made priority name) ∷ hs) id h k = front_small id made (channels_of Server hs) h.0.0.0 (ids_small Server hs id h.1) k
ids_small Client (Spoken (CreateResponse made status) ∷ hs) id h k = accepted_small id made (channels_of Client hs) (nat_lt status 2147483648) h.0.0.0 (ids_small Client hs id h.1) k
ids_small Server (Spoken pdu ∷ hs) id h k = ids_small Server hs id h.1 k
ids_small Client (Spoken pdu ∷ hs) id h k = ids_small Client hs id h.1 k
