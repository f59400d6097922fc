-- After a line by which all bytes of a side arrive, all messages that it sent came.
use Rattle.std.proofs.Common.{◌≡◌, ℕ, ◌++◌, length, drop, Ok, refl, sym, ap, ◌∙◌, subst}
use Rattle.std.proofs.lemmas.List.{drop_at}
use Rattle.mt_base.specs.declared.kinds.Role.{Role}
use Rattle.mt_base.specs.declared.kinds.Role.TheVariants.{Server, Client}
use Rattle.mt_base.specs.Ends.{other}
use Rattle.mt_base.specs.Trace.{Trace, ◌▷◌}
use Rattle.mt_script.specs.declared.event.Event.TheVariants.{Main}
use Rattle.mt_world.specs.Acts.{Entry, MainIn, MainOut, Past, past, written, unsent, given, taken, sent, delivered, waiting}
use Rattle.mt_world.specs.Ends.{EndTrace}
use Rattle.mt_world.specs.Net.{at, acts_of}
use Rattle.mt_world.specs.Play.{all_taken, played}
use Rattle.mt_world.proofs.Outgoing.{PduLaws}
use Rattle.mt_world.proofs.Safety.{given-written, arrived_one_way}
use Rattle.mt_world.proofs.HandingOut.{past-handed_out}
use Rattle.mt_world.proofs.Sides.{server-all_taken, client-all_taken}
use Rattle.mt_world.proofs.PlayedNet.{IsGood, arrives, main_good}

-- what left an end, and what waits there, are all that it wrote
all-given : (role : Role) (t : Trace Entry) → EndTrace role t → given t ++ unsent role t ≡ written role (past role t).acts
all-given role t h =
    let front = given-written role t h in
    let rest : unsent role t ≡ front.0 = ap (drop (length (given t))) front.1 ∙ drop_at (given t) front.0 (length (given t)) refl in
    ap (λ x. given t ++ x) rest ∙ sym front.1

-- all that waits at a side moves to the other
abbrev moved : Role → Trace (Role × Entry) → Trace (Role × Entry)
moved side w =
    let bytes = unsent side (at side w) in
    w ▷ (side, MainOut (length bytes) bytes) ▷ (other side, MainIn bytes (length bytes))

moved_arrives : (laws : PduLaws) → (id : ℕ) (side : Role) (w : Trace (Role × Entry)) → IsGood w → delivered id (acts_of (other side) (moved side w)) ≡ sent id (acts_of side (moved side w))
moved_arrives laws id Server w g =
    arrived_one_way laws id Client (at Client (moved Server w)) (at Server (moved Server w)) (main_good laws Server w g).server
    (arrives (taken (at Client w)) (given (at Server w)) (unsent Server (at Server w)) g.to_client ∙ all-given Server (at Server w) g.server)
moved_arrives laws id Client w g =
    arrived_one_way laws id Server (at Server (moved Client w)) (at Client (moved Client w)) (main_good laws Client w g).client
    (arrives (taken (at Server w)) (given (at Client w)) (unsent Client (at Client w)) g.to_server ∙ all-given Client (at Client w) g.client)

-- handing messages out is no act
acts-all_taken : (side : Role) (w : Trace (Role × Entry)) → acts_of side (all_taken Client (all_taken Server w)) ≡ acts_of side w
acts-all_taken Server w =
    ap (λ t. (past Server t).acts) (server-all_taken w) ∙ ap (λ (p : Past). p.acts) (past-handed_out Server 1 (at Server w) (waiting 1 Server (at Server w)))
acts-all_taken Client w =
    ap (λ t. (past Client t).acts) (client-all_taken w) ∙ ap (λ (p : Past). p.acts) (past-handed_out Client 1 (at Client w) (waiting 1 Client (at Client w)))

pub main_arrives : (laws : PduLaws) → (id : ℕ) (side : Role) (w v : Trace (Role × Entry)) → IsGood w → played w (Main side) ≡ Ok v → delivered id (acts_of (other side) v) ≡ sent id (acts_of side v)
main_arrives laws id side w v g is =
    let u = moved side w in
    let same : all_taken Client (all_taken Server u) ≡ v = cc in
    let P : Trace (Role × Entry) → Type 0 = λ x. delivered id (acts_of (other side) x) ≡ sent id (acts_of side x) in
    subst P same (ap (delivered id) (acts-all_taken (other side) u) ∙ moved_arrives laws id side w g ∙ ap (sent id) (sym (acts-all_taken side u)))
