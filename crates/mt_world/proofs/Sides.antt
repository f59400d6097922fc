-- What the calls of one side are to each side.
use Rattle.std.proofs.Common.{◌≡◌, ℕ, List, [], ◌∷◌, refl, sym, ap, ◌∙◌, subst}
use Rattle.mt_base.specs.declared.kinds.Role.{Role}
use Rattle.mt_base.specs.declared.kinds.Role.TheVariants.{Server, Client}
use Rattle.mt_base.specs.Trace.{Trace, ◌▷◌}
use Rattle.mt_world.specs.declared.world.World.{World}
use Rattle.mt_world.specs.Acts.{Entry, Took, waiting}
use Rattle.mt_world.specs.Net.{at}
use Rattle.mt_world.specs.Play.{handed, handed_out, all_taken}
use Rattle.mt_world.specs.SideView.{StandsAt}
use Rattle.mt_world.specs.WorldView.{Stands}

pub server-handed_server : (id : ℕ) (w : Trace (Role × Entry)) (messages : List (List ℕ)) → at Server (handed Server id w messages) ≡ handed_out id (at Server w) messages
server-handed_server id w [] = refl
server-handed_server id w (m ∷ ms) = server-handed_server id (w ▷ (Server, Took id m)) ms

pub client-handed_server : (id : ℕ) (w : Trace (Role × Entry)) (messages : List (List ℕ)) → at Client (handed Server id w messages) ≡ at Client w
client-handed_server id w [] = refl
client-handed_server id w (m ∷ ms) = client-handed_server id (w ▷ (Server, Took id m)) ms

pub client-handed_client : (id : ℕ) (w : Trace (Role × Entry)) (messages : List (List ℕ)) → at Client (handed Client id w messages) ≡ handed_out id (at Client w) messages
client-handed_client id w [] = refl
client-handed_client id w (m ∷ ms) = client-handed_client id (w ▷ (Client, Took id m)) ms

pub server-handed_client : (id : ℕ) (w : Trace (Role × Entry)) (messages : List (List ℕ)) → at Server (handed Client id w messages) ≡ at Server w
server-handed_client id w [] = refl
server-handed_client id w (m ∷ ms) = server-handed_client id (w ▷ (Client, Took id m)) ms

-- what each side has had once all messages are handed out
pub server-all_taken : (w : Trace (Role × Entry)) → at Server (all_taken Client (all_taken Server w)) ≡ handed_out 1 (at Server w) (waiting 1 Server (at Server w))
server-all_taken w =
    let v = all_taken Server w in
    server-handed_client 1 v (waiting 1 Client (at Client v)) ∙ server-handed_server 1 w (waiting 1 Server (at Server w))

pub client-all_taken : (w : Trace (Role × Entry)) → at Client (all_taken Client (all_taken Server w)) ≡ handed_out 1 (at Client w) (waiting 1 Client (at Client w))
client-all_taken w =
    let v = all_taken Server w in
    client-handed_client 1 v (waiting 1 Client (at Client v))
    ∙ ap (λ t. handed_out 1 t (waiting 1 Client t)) (client-handed_server 1 w (waiting 1 Server (at Server w)))

-- a world whose sides have handed all messages out
pub hands_all_out : (world : World) (w : Trace (Role × Entry)) → StandsAt world.server Server (handed_out 1 (at Server w) (waiting 1 Server (at Server w)))
    → StandsAt world.client Client (handed_out 1 (at Client w) (waiting 1 Client (at Client w))) → Stands world (all_taken Client (all_taken Server w))
hands_all_out world w s c =
    let P : Trace Entry → Type 0 = λ t. StandsAt world.server Server t in
    let Q : Trace Entry → Type 0 = λ t. StandsAt world.client Client t in
    record { server = subst P (sym (server-all_taken w)) s; client = subst Q (sym (client-all_taken w)) c }
