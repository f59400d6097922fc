-- An end that a datagram came for, without its links.
use Rattle.std.proofs.Common.{◌≡◌, inl, inr, ℕ, ◌+◌, ◌≤◌, Bool, true, List, [], length, Option, sym, ap, subst, arith}
use Rattle.mt_base.specs.declared.kinds.Kind.{Kind}
use Rattle.mt_base.specs.declared.kinds.Kind.TheVariants.{Reliable, Lossy}
use Rattle.mt_base.specs.declared.kinds.Role.{Role}
use Rattle.mt_base.specs.Trace.{Trace, ◌▷◌}
use Rattle.carrier.specs.declared.state.Took.{Took}
use Rattle.mt_endpoint.specs.Acts.{Act}
use Rattle.mt_endpoint.specs.Holding.{held, weight}
use Rattle.mt_endpoint.specs.Tunnels.{is_attached}
use Rattle.end_calls.specs.declared.limits.TheConstants.{HOLD, MAIN_QUEUE}
use Rattle.end_calls.specs.Calls.{Came, Entry, Handed, Postings, Pull, WireIn, acts, past}
use Rattle.end_calls.specs.Law.{IsCall, IsWireIn, TakesIn, given_main, unsent}
use Rattle.end_calls.specs.Stops.{answers_owed}
use Rattle.end_calls.proofs.Onward.{goes_call}
use Rattle.end_session.specs.Outgoing.{waiting_for}
use Rattle.end_session.specs.Standing.{Gone, Stands}
use Rattle.end_session.specs.Store.{Store}
use Rattle.end_reader.specs.declared.reader.Reader.{Reader}
use Rattle.end_reader.specs.Standing.{Reads}
use Rattle.endpoint.specs.MainRead.{KeepsRoom}
use Rattle.endpoint.specs.Standing.{Tells, refusals_owed}
use Rattle.endpoint.proofs.MainTaken.{refusals_front}
use Rattle.endpoint.proofs.Rooms.{refusals_few}
use Rattle.endpoint.proofs.Steps.{unsent_is}

-- what is held of either tunnel is within its limit
abbrev pub HeldFits : Store → Type 0
HeldFits s = (t : Trace Act) (gone : Gone) (kind : Kind) → Stands s t gone → weight (held s.role kind t) ≤ HOLD

-- what was read behind a datagram, and where the reader is then
pub record IsRead (role : Role) (t : Trace Entry) (kind : Kind) (now : ℕ) (datagram : List ℕ) (took : Took) (load : ℕ) (came : Came) (pulls : Trace Pull) (parts : Trace Handed) (lack : Option (Trace Act)) (r : Reader) : Type 0 where
  pub takes : TakesIn role t kind load came pulls parts lack
  pub gone : Gone
  pub gone_is : gone.main ≡ given_main t
  pub reads : Reads r (past role (t ▷ WireIn kind now datagram took load came pulls parts lack)) gone
  pub role_is : (r.session).role ≡ role
  pub reliable_waits : waiting_for Reliable ((r.session).outgoing) ≡ []
  pub lossy_waits : waiting_for Lossy ((r.session).outgoing) ≡ []

pub told_in : (r after : Reader) (postings : Postings) (role : Role) (t : Trace Entry) (kind : Kind) (now : ℕ) (datagram : List ℕ) (took : Took) (load : ℕ) (came : Came) (pulls : Trace Pull) (parts : Trace Handed) (lack : Option (Trace Act))
    → Tells r postings role t → is_attached kind (acts role t) ≡ true → IsRead role t kind now datagram took load came pulls parts lack after → KeepsRoom r.session after.session → HeldFits after.session
    → Tells after postings role (t ▷ WireIn kind now datagram took load came pulls parts lack)
told_in r after postings role t kind now datagram took load came pulls parts lack tells attached read keeps fits =
    let call : IsCall role t (WireIn kind now datagram took load came pulls parts lack) = subst (λ (b : Bool). IsWireIn b role t kind took load came pulls parts lack) (sym attached) read.takes in
    let before = unsent_is role t tells.gone r.session tells.gone_is tells.role_is (tells.reads).stands in
    let behind = unsent_is role u read.gone after.session read.gone_is read.role_is (read.reads).stands in
    let room : length (unsent role u) + (answers_owed (acts role u) + refusals_owed role (acts role u)) ≤ MAIN_QUEUE = by_room keeps before behind (refusals_front role (acts role t) (acts role u) (goes_call role t (WireIn kind now datagram took load came pulls parts lack) call)) in
    let light : (k : Kind) → weight (held role k (acts role u)) ≤ HOLD = λ k. subst (λ (x : Role). weight (held x k (acts role u)) ≤ HOLD) read.role_is (fits (acts role u) read.gone k (read.reads).stands) in record {
      law = (call, record { unsent_fits = omega (arith, room); reliable_fits = light Reliable; lossy_fits = light Lossy }, tells.law);
      gone = read.gone;
      gone_is = read.gone_is;
      reads = read.reads;
      role_is = read.role_is;
      room = room;
      reliable_waits = read.reliable_waits;
      lossy_waits = read.lossy_waits;
      postings_are = tells.postings_are;
    }
  where
    u : Trace Entry
    u = t ▷ WireIn kind now datagram took load came pulls parts lack

    by_room : KeepsRoom r.session after.session → unsent role t ≡ ((r.session).outgoing).main → unsent role u ≡ ((after.session).outgoing).main → refusals_owed role (acts role u) ≤ refusals_owed role (acts role t)
        → length (unsent role u) + (answers_owed (acts role u) + refusals_owed role (acts role u)) ≤ MAIN_QUEUE
    by_room (inl less) before behind fewer =
        omega (arith, tells.room, less, fewer, ap (λ (b : List ℕ). length b) before, ap (λ (b : List ℕ). length b) behind, (((tells.reads).stands).knows).owed_is, (((read.reads).stands).knows).owed_is)
    by_room (inr room) before behind fewer =
        omega (arith, room, refusals_few role (acts role u), ap (λ (b : List ℕ). length b) behind, (((read.reads).stands).knows).owed_is)
