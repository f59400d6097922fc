-- Further sessions by hand: a close behind held data, a second request, requests that wait for the
-- tunnel, and a lossy tunnel.
use Rattle.std.specs.Prelude.{◌≡◌, ℕ, true, false, List, [], ◌∷◌, length, None}
use Rattle.mt_base.specs.declared.kinds.Kind.TheVariants.{Reliable, Lossy}
use Rattle.mt_base.specs.declared.kinds.Role.{Role}
use Rattle.mt_base.specs.declared.kinds.Role.TheVariants.{Server, Client}
use Rattle.mt_base.specs.Trace.{Trace, ◌▷◌}
use Rattle.tunnel_cookies.specs.declared.entry.Verdict.TheVariants.{Opened, Again}
use Rattle.dvc_pdus.specs.Value.{Pdu, Caps, CreateRequest, CreateResponse, Data, Close, SyncResponse, spelled, sync_request}
use Rattle.mt_endpoint.specs.Acts.{Act, Opens, Sends, Asks, Attaches, Repeats, Syncs, Closes, Hears, Draws, Judges, TunnelAsked, TunnelAnswered, Spoken, Drawn, CreateAsked, CreateAnswered, Carried}
use Rattle.mt_endpoint.specs.Channels.{delivered, sent, is_closed}
use Rattle.mt_endpoint.specs.Holding.{held}
use Rattle.mt_endpoint.specs.Writing.{spoken, carried, main_bytes}
use Rattle.mt_endpoint.specs.Session.{cookie, abc, opened, ahead, moved}
use Rattle.mt_endpoint.specs.World.{Faultless, side}

abbrev pub said : Pdu → Drawn
said pdu = Carried (spelled pdu) pdu

-- ---- a close behind held data

abbrev pub closed : Trace (Role × Act)
closed =
    ahead ▷ (Server, Closes 1) ▷ (Client, Draws Reliable 17 (said (Close 1)))
    ▷ (Client, Hears (Spoken (sync_request (1 ∷ []) [])))

pub record ClosesBehind : Type 0 where
  pub is_delivered : delivered Client 1 (side Client closed) ≡ abc ∷ []
  pub is_closed : is_closed Client 1 (side Client closed) ≡ true
  pub none_held : held Client Reliable (side Client closed) ≡ []
  -- the client answers the request, and then the close, through the tunnel
  pub answers : carried Reliable Client (side Client closed) ≡ CreateAsked 7 cookie ∷ said (Close 1) ∷ []
  pub faultless : Faultless closed

-- ---- a second request

-- the name `more`
abbrev pub more : List ℕ
more = 109 ∷ 111 ∷ 114 ∷ 101 ∷ []

abbrev pub second : Trace (Role × Act)
second =
    moved ▷ (Server, Hears (Spoken (SyncResponse (Reliable ∷ [])))) ▷ (Server, Opens 2 more)
    ▷ (Client, Hears (Spoken (CreateRequest 2 0 more))) ▷ (Server, Hears (Spoken (CreateResponse 2 0)))
    ▷ (Client, Sends 2 abc) ▷ (Server, Hears (Spoken (Data 2 abc))) ▷ (Server, Syncs (2 ∷ []) [])
    ▷ (Server, Sends 2 abc) ▷ (Client, Draws Reliable 17 (said (Data 2 abc)))

abbrev pub both_moved : Trace (Role × Act)
both_moved = second ▷ (Client, Hears (Spoken (sync_request (2 ∷ []) [])))

pub record MovesTwice : Type 0 where
  pub first_delivered : delivered Client 1 (side Client both_moved) ≡ abc ∷ []
  pub second_delivered : delivered Client 2 (side Client both_moved) ≡ abc ∷ []
  pub to_server : delivered Server 2 (side Server both_moved) ≡ abc ∷ []
  pub server_bytes : length (main_bytes Server (side Server both_moved)) ≡ 109
  pub client_bytes : length (main_bytes Client (side Client second)) ≡ 57
  pub faultless : Faultless both_moved

-- ---- two requests that are read before the tunnel is open at the client

abbrev pub waiting : Trace (Role × Act)
waiting =
    opened ▷ (Server, Opens 2 more) ▷ (Client, Hears (Spoken (CreateRequest 2 0 more)))
    ▷ (Server, Hears (Spoken (CreateResponse 2 0))) ▷ (Server, Asks Reliable 7 cookie) ▷ (Server, Attaches Reliable)
    ▷ (Client, Hears (TunnelAsked 7 Reliable cookie)) ▷ (Client, Attaches Reliable)
    ▷ (Server, Judges Reliable 0 7 cookie Opened false) ▷ (Server, Syncs (1 ∷ []) []) ▷ (Server, Syncs (2 ∷ []) [])
    ▷ (Client, Hears (Spoken (sync_request (1 ∷ []) []))) ▷ (Client, Hears (Spoken (sync_request (2 ∷ []) [])))

abbrev pub answered : Trace (Role × Act)
answered = waiting ▷ (Client, Draws Reliable 0 (CreateAnswered 0))

pub record AnswersInOrder : Type 0 where
  pub none_yet : spoken Client (side Client waiting)
      ≡ Spoken (Caps 3 None) ∷ Spoken (CreateResponse 1 0) ∷ Spoken (CreateResponse 2 0) ∷ []
  pub then_both : spoken Client (side Client answered)
      ≡ Spoken (Caps 3 None) ∷ Spoken (CreateResponse 1 0) ∷ Spoken (CreateResponse 2 0) ∷ TunnelAnswered 7 0
      ∷ Spoken (SyncResponse (Reliable ∷ [])) ∷ Spoken (SyncResponse (Reliable ∷ [])) ∷ []
  pub faultless : Faultless answered

-- ---- a lossy tunnel, whose create request is posted twice; of three messages the second one comes

abbrev pub lossy : Trace (Role × Act)
lossy =
    opened ▷ (Server, Asks Lossy 7 cookie) ▷ (Server, Attaches Lossy) ▷ (Client, Hears (TunnelAsked 7 Lossy cookie))
    ▷ (Client, Attaches Lossy) ▷ (Client, Repeats false) ▷ (Server, Judges Lossy 0 7 cookie Opened false)
    ▷ (Server, Judges Lossy 0 7 cookie Again false) ▷ (Client, Draws Lossy 0 (CreateAnswered 0))
    ▷ (Server, Syncs [] (1 ∷ [])) ▷ (Client, Hears (Spoken (sync_request [] (1 ∷ []))))
    ▷ (Server, Sends 1 (1 ∷ [])) ▷ (Server, Sends 1 (2 ∷ [])) ▷ (Server, Sends 1 (3 ∷ []))
    ▷ (Client, Draws Lossy 0 (said (Data 1 (2 ∷ []))))

pub record PicksSome : Type 0 where
  pub all_sent : sent 1 (side Server lossy) ≡ (1 ∷ []) ∷ (2 ∷ []) ∷ (3 ∷ []) ∷ []
  pub one_came : delivered Client 1 (side Client lossy) ≡ (2 ∷ []) ∷ []
  pub two_answers : carried Lossy Server (side Server lossy)
      ≡ CreateAnswered 0 ∷ CreateAnswered 0 ∷ said (Data 1 (1 ∷ [])) ∷ said (Data 1 (2 ∷ [])) ∷ said (Data 1 (3 ∷ [])) ∷ []
  pub faultless : Faultless lossy
