-- A session by hand. A channel is created, and a tunnel; the channel moves to the tunnel by a Soft-Sync
-- request, and a message that is pulled ahead of the request is held until it is read.
use Rattle.std.specs.Prelude.{◌≡◌, ℕ, false, List, [], ◌∷◌, length, None, Some}
use Rattle.mt_base.specs.declared.kinds.Kind.TheVariants.{Reliable}
use Rattle.mt_base.specs.declared.kinds.Role.{Role}
use Rattle.mt_base.specs.declared.kinds.Role.TheVariants.{Server, Client}
use Rattle.mt_base.specs.Trace.{Trace, Start, ◌▷◌}
use Rattle.tunnel_cookies.specs.declared.entry.Verdict.TheVariants.{Opened}
use Rattle.dvc_pdus.specs.Value.{Caps, CreateRequest, CreateResponse, Data, SyncResponse, spelled, sync_request}
use Rattle.soft_sync.specs.declared.kinds.Path.TheVariants.{Main, Tunnel}
use Rattle.mt_endpoint.specs.Acts.{Act, Began, Opens, Sends, Asks, Attaches, Syncs, Hears, Draws, Judges, TunnelAsked, TunnelAnswered, Spoken, Drawn, CreateAnswered, Carried}
use Rattle.mt_endpoint.specs.Channels.{delivered}
use Rattle.mt_endpoint.specs.Tunnels.{tunnel, Open}
use Rattle.mt_endpoint.specs.Moving.{outward, inward}
use Rattle.mt_endpoint.specs.Holding.{held}
use Rattle.mt_endpoint.specs.Writing.{spoken, carried, main_bytes}
use Rattle.mt_endpoint.specs.World.{Faultless, side}

-- the name `files`, and the cookie 00 to 0f
abbrev pub name : List ℕ
name = 102 ∷ 105 ∷ 108 ∷ 101 ∷ 115 ∷ []

abbrev pub cookie : List ℕ
cookie = 0 ∷ 1 ∷ 2 ∷ 3 ∷ 4 ∷ 5 ∷ 6 ∷ 7 ∷ 8 ∷ 9 ∷ 10 ∷ 11 ∷ 12 ∷ 13 ∷ 14 ∷ 15 ∷ []

abbrev pub abc : List ℕ
abc = 97 ∷ 98 ∷ 99 ∷ []

abbrev pub said_abc : Drawn
said_abc = Carried (spelled (Data 1 abc)) (Data 1 abc)

abbrev pub opened : Trace (Role × Act)
opened =
    Start ▷ (Server, Began) ▷ (Client, Began) ▷ (Client, Hears (Spoken (Caps 3 (Some (0 ∷ 0 ∷ 0 ∷ 0 ∷ [])))))
    ▷ (Server, Hears (Spoken (Caps 3 None))) ▷ (Server, Opens 1 name) ▷ (Client, Hears (Spoken (CreateRequest 1 0 name)))
    ▷ (Server, Hears (Spoken (CreateResponse 1 0)))

abbrev pub tunneled : Trace (Role × Act)
tunneled =
    opened ▷ (Server, Asks Reliable 7 cookie) ▷ (Server, Attaches Reliable) ▷ (Client, Hears (TunnelAsked 7 Reliable cookie))
    ▷ (Client, Attaches Reliable) ▷ (Server, Judges Reliable 0 7 cookie Opened false)
    ▷ (Client, Draws Reliable 0 (CreateAnswered 0)) ▷ (Server, Hears (TunnelAnswered 7 0))

-- the message is pulled before the request is read
abbrev pub ahead : Trace (Role × Act)
ahead = tunneled ▷ (Server, Syncs (1 ∷ []) []) ▷ (Server, Sends 1 abc) ▷ (Client, Draws Reliable 8 said_abc)

abbrev pub moved : Trace (Role × Act)
moved = ahead ▷ (Client, Hears (Spoken (sync_request (1 ∷ []) [])))

pub record Shows : Type 0 where
  -- it is held, and nothing is delivered
  pub is_held : length (held Client Reliable (side Client ahead)) ≡ 1
  pub nothing_yet : delivered Client 1 (side Client ahead) ≡ []
  -- then it is delivered
  pub none_held : held Client Reliable (side Client moved) ≡ []
  pub is_delivered : delivered Client 1 (side Client moved) ≡ abc ∷ []
  -- the tunnel is open at both ends, and both directions of the channel go through it
  pub open_at_server : tunnel Server Reliable (side Server moved) ≡ Open
  pub open_at_client : tunnel Client Reliable (side Client moved) ≡ Open
  pub out_of_server : outward 1 (side Server moved) ≡ Tunnel Reliable
  pub out_of_client : outward 1 (side Client moved) ≡ Tunnel Reliable
  -- the answer is on its way, and not read yet
  pub not_read_yet : inward 1 (side Server moved) ≡ Main
  pub last_spoken : spoken Client (side Client moved)
      ≡ Spoken (Caps 3 None) ∷ Spoken (CreateResponse 1 0) ∷ TunnelAnswered 7 0 ∷ Spoken (SyncResponse (Reliable ∷ [])) ∷ []
  -- how many bytes were written: 76 by the server, and 27 by the client before its answer of 13
  pub server_bytes : length (main_bytes Server (side Server moved)) ≡ 76
  pub client_bytes : length (main_bytes Client (side Client ahead)) ≡ 27
  pub client_answer : length (main_bytes Client (side Client moved)) ≡ 40
  pub through_tunnel : carried Reliable Server (side Server moved) ≡ CreateAnswered 0 ∷ said_abc ∷ []
  pub faultless : Faultless moved
