-- What a call of the session adds, where it writes nothing for a link.
use Rattle.std.proofs.Common.{◌≡◌, ◌+◌, ◌≤◌, [], length, refl, ap, subst, ◌∙◌, arith}
use Rattle.std.specs.List.{flat_map}
use Rattle.mt_base.specs.declared.kinds.Kind.TheVariants.{Reliable, Lossy}
use Rattle.mt_base.specs.declared.kinds.Role.{Role}
use Rattle.mt_base.specs.Trace.{Trace, ◌▷◌}
use Rattle.mt_endpoint.specs.Acts.{Act}
use Rattle.mt_endpoint.specs.Tunnels.{is_silent}
use Rattle.mt_endpoint.specs.Writing.{adds, carried, framed, into, on_main}
use Rattle.end_calls.specs.declared.limits.TheConstants.{MAIN_QUEUE}
use Rattle.end_calls.specs.Calls.{Entry, Postings, acts}
use Rattle.end_calls.specs.Stops.{answers_owed}
use Rattle.end_session.specs.Standing.{Gone, Stands, Waits}
use Rattle.end_session.specs.Store.{Store}
use Rattle.end_reader.specs.declared.reader.Reader.{Reader}
use Rattle.endpoint.specs.Standing.{Tells, refusals_owed}
use Rattle.endpoint.proofs.Left.{none_waits}
use Rattle.endpoint.proofs.Rooms.{room_after}
use Rattle.endpoint.proofs.Steps.{Added, IsPlain, unsent_is}

pub waits_by : (s : Store) (role : Role) (t : Trace Act) (gone : Gone) → s.role ≡ role → Stands s t gone → Waits role s.outgoing t gone
waits_by s role t gone is st = subst (λ (r : Role). Waits r s.outgoing t gone) is st.waits

pub added : (r : Reader) (postings : Postings) (role : Role) (t : Trace Entry) (act : Act) (s : Store) → (tells : Tells r postings role t) → Stands s (acts role t ▷ act) tells.gone → s.role ≡ (r.session).role → s.broken ≡ (r.session).broken
    → into Reliable (is_silent Reliable (acts role t)) (adds role (acts role t) act) ≡ [] → into Lossy (is_silent Lossy (acts role t)) (adds role (acts role t) act) ≡ [] → Added r.session s (acts role t) act tells.gone tells.gone
added r postings role t act s tells st role_is broken_is no_reliable no_lossy =
    let gone = tells.gone in
    let before = waits_by r.session role (acts role t) gone tells.role_is (tells.reads).stands in
    let behind = waits_by s role (acts role t ▷ act) gone (role_is ∙ tells.role_is) st in
    let more_reliable = into Reliable (is_silent Reliable (acts role t)) (adds role (acts role t) act) in
    let more_lossy = into Lossy (is_silent Lossy (acts role t)) (adds role (acts role t) act) in record {
      stands = st;
      role_is = role_is;
      broken_is = broken_is;
      gone_is = refl;
      reliable_waits =
          none_waits (carried Reliable role (acts role t)) (carried Reliable role (acts role t ▷ act)) gone.reliable more_reliable ((r.session).outgoing).reliable (s.outgoing).reliable refl no_reliable tells.reliable_waits before.reliable_waits
          behind.reliable_waits;
      lossy_waits =
          none_waits (carried Lossy role (acts role t)) (carried Lossy role (acts role t ▷ act)) gone.lossy more_lossy ((r.session).outgoing).lossy (s.outgoing).lossy refl no_lossy tells.lossy_waits before.lossy_waits behind.lossy_waits;
    }

pub room_on : (r : Reader) (postings : Postings) (role : Role) (t : Trace Entry) (act : Act) (s : Store) (after : Gone) → (tells : Tells r postings role t) → IsPlain role (acts role t) act → Added r.session s (acts role t) act tells.gone after
    → length ((r.session).outgoing).main + length (flat_map framed (on_main (adds role (acts role t) act))) + (answers_owed (acts role t) + refusals_owed role (acts role t)) ≤ MAIN_QUEUE
    → length (s.outgoing).main + (answers_owed (acts role t ▷ act) + refusals_owed role (acts role t ▷ act)) ≤ MAIN_QUEUE
room_on r postings role t act s after tells plain added room =
    room_after role (r.session).outgoing s.outgoing (acts role t) act tells.gone after added.gone_is (waits_by r.session role (acts role t) tells.gone tells.role_is (tells.reads).stands)
    (waits_by s role (acts role t ▷ act) after (added.role_is ∙ tells.role_is) added.stands) plain.none_read plain.none_made room

-- an act that writes nothing on the main stream has room
pub room_before : (r : Reader) (postings : Postings) (role : Role) (t : Trace Entry) → (tells : Tells r postings role t) → length ((r.session).outgoing).main + 0 + (answers_owed (acts role t) + refusals_owed role (acts role t)) ≤ MAIN_QUEUE
room_before r postings role t tells =
    omega (arith, tells.room, ap length (unsent_is role t tells.gone r.session tells.gone_is tells.role_is (tells.reads).stands))
