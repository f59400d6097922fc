-- What an end stands for behind a step of its own.
use Rattle.std.proofs.Common.{◌≡◌, ℕ, ◌+◌, ◌≤◌, cond, List, [], length, drop, Option, None, is_some, option_map, sym, ap, subst, ◌∙◌, arith}
use Rattle.std.proofs.Math.Seq.{drop-append_seam}
use Rattle.mt_base.specs.declared.kinds.Kind.{Kind}
use Rattle.mt_base.specs.declared.kinds.Kind.TheVariants.{Reliable, Lossy}
use Rattle.mt_base.specs.declared.kinds.Role.{Role}
use Rattle.mt_base.specs.declared.kinds.Role.TheVariants.{Client}
use Rattle.mt_base.specs.Trace.{Trace, Start, ◌▷◌}
use Rattle.mt_endpoint.specs.Acts.{Act}
use Rattle.mt_endpoint.specs.Alone.{EndOfActs, IsAct}
use Rattle.mt_endpoint.specs.Faults.{Why}
use Rattle.mt_endpoint.specs.Growing.{Grown, fine, freed, grown}
use Rattle.mt_endpoint.specs.Holding.{Held, held, held_after, weight}
use Rattle.mt_endpoint.specs.Moving.{answer_made, read_by}
use Rattle.mt_endpoint.specs.Resting.{Rests}
use Rattle.mt_endpoint.specs.World.{IsStep, fault_of}
use Rattle.mt_endpoint.specs.Writing.{main_bytes}
use Rattle.mt_endpoint.proofs.Resting.{grown_rests}
use Rattle.mt_endpoint.proofs.Walking.{IsNext}
use Rattle.end_calls.specs.declared.fault.Fault.{Fault}
use Rattle.end_calls.specs.declared.limits.TheConstants.{HOLD, MAIN_QUEUE}
use Rattle.end_calls.specs.Calls.{Entry, Own, Postings, acts, attached_by, bare, past, steps}
use Rattle.end_calls.specs.Law.{EndTrace, IsAllowed, IsGiven, IsOwn, given_main, unsent}
use Rattle.end_calls.specs.Stops.{answers_owed}
use Rattle.end_calls.specs.Streams.{Past, fault_at, grows, in_tunnel}
use Rattle.end_session.specs.AnswerDue.{due}
use Rattle.end_session.specs.Outgoing.{waiting_for}
use Rattle.end_session.specs.Standing.{Gone, Stands}
use Rattle.end_session.specs.Store.{Store}
use Rattle.end_reader.specs.declared.reader.Reader.{Reader}
use Rattle.end_reader.specs.Standing.{Reads}
use Rattle.endpoint.specs.Standing.{Tells, refusals_owed}
use Rattle.endpoint.proofs.Due.{Settles, alone, due_same}

-- ---- the past

-- an act that is all that comes of it
pub alone_past : (role : Role) (act : Act) (p : Past) → p.broken ≡ None → grown role p.acts act ≡ fine (p.acts ▷ act) → steps role act p ≡ record p { acts = p.acts ▷ act }
alone_past role act p whole is =
    ap (λ (b : Option _). cond (is_some b) (bare act p) (grows role act p)) whole
    ∙ ap (λ (g : Grown). record p { acts = g.acts; broken = option_map (λ (f : ℕ × Why). fault_at (in_tunnel f.0) f.1) g.fault }) is
    ∙ ap (λ (b : Option _). record p { acts = p.acts ▷ act; broken = b }) (sym whole)

-- ---- what waits of the main stream

pub unsent_is : (role : Role) (t : Trace Entry) (gone : Gone) (s : Store) → gone.main ≡ given_main t → s.role ≡ role → Stands s (acts role t) gone → unsent role t ≡ (s.outgoing).main
unsent_is role t gone s gone_is role_is st =
    ap (λ (bytes : List ℕ). drop (length bytes) (main_bytes role (acts role t))) (sym gone_is)
    ∙ ap (λ (r : Role). drop (length gone.main) (main_bytes r (acts role t))) (sym role_is)
    ∙ ap (drop (length gone.main)) (st.waits).main_waits ∙ drop-append_seam gone.main (s.outgoing).main

-- ---- one act

-- an act of the end's own that reads nothing, and settles no tunnel
pub record IsPlain (role : Role) (t : Trace Act) (act : Act) : Type 0 where
  pub own : IsOwn act
  pub given : IsGiven act
  pub fits : IsAct role t act → IsStep role t act
  pub faultless : fault_of role t act
  pub none_freed : freed t act ≡ []
  pub none_read : read_by act ≡ []
  pub none_made : answer_made act ≡ []
  pub reliable : Settles Reliable t act
  pub lossy : Settles Lossy t act
  pub no_heavier : (kind : Kind) (queue : List Held) → weight (held_after role kind t act queue) ≤ weight queue

pub quiet_after : (role : Role) (t : Trace Act) (act : Act) → IsPlain role t act → (role ≡ Client → due t ≡ None) → role ≡ Client → due (t ▷ act) ≡ None
quiet_after role t act plain quiet is = due_same t act plain.none_read plain.none_made plain.reliable plain.lossy ∙ quiet is

pub alone_after : (role : Role) (t : Trace Act) (act : Act) → IsPlain role t act → (role ≡ Client → due t ≡ None) → grown role t act ≡ fine (t ▷ act)
alone_after role t act plain quiet = alone role t act plain.none_freed (quiet_after role t act plain quiet)

rests_after : (role : Role) (t : Trace Act) (act : Act) → IsPlain role t act → (role ≡ Client → due t ≡ None) → EndOfActs role (t ▷ act) → Rests role t → Rests role (t ▷ act)
rests_after role t act plain quiet e rests =
    let is = alone_after role t act plain quiet in
    let next : IsNext role t act = (e.0, plain.fits e.1, plain.faultless) in
    subst (λ (g : Grown). Rests role g.acts) is (grown_rests role t act e.2 next rests (ap (λ (g : Grown). g.fault) is))

-- what a call of the session says of an act that it adds
pub record Added (s now : Store) (t : Trace Act) (act : Act) (gone after : Gone) : Type 0 where
  pub stands : Stands now (t ▷ act) after
  pub role_is : now.role ≡ s.role
  pub broken_is : now.broken ≡ s.broken
  pub gone_is : after.main ≡ gone.main
  pub reliable_waits : waiting_for Reliable now.outgoing ≡ []
  pub lossy_waits : waiting_for Lossy now.outgoing ≡ []

-- it is all that comes of its step
pub record IsLone (role : Role) (t : Trace Entry) (act : Act) : Type 0 where
  pub past_is : past role (t ▷ Own act) ≡ record (past role t) { acts = acts role t ▷ act }
  pub allowed : IsAllowed (past role t) act

pub whole_past : (r : Reader) (postings : Postings) (role : Role) (t : Trace Entry) → Tells r postings role t → (r.session).broken ≡ None → (past role t).broken ≡ None
whole_past r postings role t tells whole = sym (tells.reads).broken_is ∙ whole

pub quiet_before : (r : Reader) (postings : Postings) (role : Role) (t : Trace Entry) → Tells r postings role t → (past role t).broken ≡ None → role ≡ Client → due (acts role t) ≡ None
quiet_before r postings role t tells whole is = (tells.reads).quiet whole (tells.role_is ∙ is)

pub past_after : (r : Reader) (postings : Postings) (role : Role) (t : Trace Entry) (act : Act) → Tells r postings role t → (past role t).broken ≡ None → IsPlain role (acts role t) act
    → past role (t ▷ Own act) ≡ record (past role t) { acts = acts role t ▷ act }
past_after r postings role t act tells whole plain = alone_past role act (past role t) whole (alone_after role (acts role t) act plain (quiet_before r postings role t tells whole))

-- where the end is not broken
pub lone : (r : Reader) (postings : Postings) (role : Role) (t : Trace Entry) (act : Act) → Tells r postings role t → (r.session).broken ≡ None → IsPlain role (acts role t) act → ((p : Past) → p.broken ≡ None → IsAllowed p act) → IsLone role t act
lone r postings role t act tells whole plain allowed =
    let none = whole_past r postings role t tells whole in
    record { past_is = past_after r postings role t act tells none plain; allowed = allowed (past role t) none }

pub acts_after : (role : Role) (t : Trace Entry) (act : Act) → IsLone role t act → acts role (t ▷ Own act) ≡ acts role t ▷ act
acts_after role t act l = ap (λ (p : Past). p.acts) l.past_is

reads_on : (r : Reader) (postings : Postings) (role : Role) (t : Trace Entry) (act : Act) (s : Store) (after : Gone) → (tells : Tells r postings role t) → IsPlain role (acts role t) act
    → Added r.session s (acts role t) act tells.gone after → Reads (record r { session = s }) (record (past role t) { acts = acts role t ▷ act }) after
reads_on r postings role t act s after tells plain added =
    let reads = tells.reads in
    let is : s.role ≡ role = added.role_is ∙ tells.role_is in
    let lawful : EndOfActs role (acts role t ▷ act) = subst (λ x. EndOfActs x (acts role t ▷ act)) is ((added.stands).knows).lawful in
    let quiet : (past role t).broken ≡ None → role ≡ Client → due (acts role t) ≡ None = quiet_before r postings role t tells in
    let rests : (past role t).broken ≡ None → Rests role (acts role t) = λ b. subst (λ x. Rests x (acts role t)) tells.role_is (reads.rests b) in record {
      stands = added.stands;
      broken_is = added.broken_is ∙ reads.broken_is;
      main_is = reads.main_is;
      tunnel_is = reads.tunnel_is;
      main_waits = reads.main_waits;
      tunnel_waits = reads.tunnel_waits;
      rests = λ b. subst (λ x. Rests x (acts role t ▷ act)) (sym is) (rests_after role (acts role t) act plain (quiet b) lawful (rests b));
      quiet = λ b c. quiet_after role (acts role t) act plain (quiet b) (sym is ∙ c);
    }

-- what is held is within its limit
pub held_within : (role : Role) (t : Trace Entry) → EndTrace role t → (kind : Kind) → weight (held role kind (acts role t)) ≤ HOLD
held_within role Start law kind = omega arith
held_within role (t ▷ entry) law Reliable = (law.1).reliable_fits
held_within role (t ▷ entry) law Lossy = (law.1).lossy_fits

-- the law of an end's calls
law_on : (r : Reader) (postings : Postings) (role : Role) (t : Trace Entry) (act : Act) (s : Store) (after : Gone) → (tells : Tells r postings role t) → IsPlain role (acts role t) act → IsLone role t act
    → Added r.session s (acts role t) act tells.gone after → unsent role (t ▷ Own act) ≡ (s.outgoing).main → length (s.outgoing).main ≤ MAIN_QUEUE → EndTrace role (t ▷ Own act)
law_on r postings role t act s after tells plain l added unsent_are short =
    let lawful : EndOfActs role (acts role t ▷ act) = subst (λ x. EndOfActs x (acts role t ▷ act)) (added.role_is ∙ tells.role_is) ((added.stands).knows).lawful in
    let light : (kind : Kind) → weight (held role kind (acts role t)) ≤ HOLD → weight (held role kind (acts role (t ▷ Own act))) ≤ HOLD =
    λ kind few. subst (λ (u : Trace Act). weight (held role kind u) ≤ HOLD) (sym (acts_after role t act l)) (omega (arith, few, plain.no_heavier kind (held role kind (acts role t)))) in (
      (plain.own, l.allowed, plain.given, lawful.0, plain.fits lawful.1),
      record {
        unsent_fits = subst (λ (m : List ℕ). length m ≤ MAIN_QUEUE) (sym unsent_are) short;
        reliable_fits = light Reliable (held_within role t tells.law Reliable);
        lossy_fits = light Lossy (held_within role t tells.law Lossy);
      },
      tells.law,
    )

pub tells_on : (r : Reader) (postings now : Postings) (role : Role) (t : Trace Entry) (act : Act) (s : Store) (after : Gone) → (tells : Tells r postings role t) → IsPlain role (acts role t) act → IsLone role t act
    → Added r.session s (acts role t) act tells.gone after → now ≡ attached_by role act postings
    → length (s.outgoing).main + (answers_owed (acts role t ▷ act) + refusals_owed role (acts role t ▷ act)) ≤ MAIN_QUEUE → Tells (record r { session = s }) now role (t ▷ Own act)
tells_on r postings now role t act s after tells plain l added posted room =
    let is : s.role ≡ role = added.role_is ∙ tells.role_is in
    let on = acts_after role t act l in
    let unsent_are : unsent role (t ▷ Own act) ≡ (s.outgoing).main =
    unsent_is role (t ▷ Own act) after s (added.gone_is ∙ tells.gone_is) is (subst (λ (u : Trace Act). Stands s u after) (sym on) added.stands) in record {
      law = law_on r postings role t act s after tells plain l added unsent_are (omega (arith, room));
      gone = after;
      gone_is = added.gone_is ∙ tells.gone_is;
      reads = subst (λ (p : Past). Reads (record r { session = s }) p after) (sym l.past_is) (reads_on r postings role t act s after tells plain added);
      role_is = is;
      room =
          subst (λ (m : List ℕ). length m + (answers_owed (acts role (t ▷ Own act)) + refusals_owed role (acts role (t ▷ Own act))) ≤ MAIN_QUEUE) (sym unsent_are)
          (subst (λ (u : Trace Act). length (s.outgoing).main + (answers_owed u + refusals_owed role u) ≤ MAIN_QUEUE) (sym on) room);
      reliable_waits = added.reliable_waits;
      lossy_waits = added.lossy_waits;
      postings_are = posted ∙ ap (attached_by role act) tells.postings_are;
    }

-- ---- what is kept tells what the calls say

pub as_told : (P : Option Fault → List ℕ → Type 0) (r : Reader) (postings : Postings) (role : Role) (t : Trace Entry) → Tells r postings role t → P (r.session).broken ((r.session).outgoing).main → P (past role t).broken (unsent role t)
as_told P r postings role t tells h =
    subst (λ b. P b (unsent role t)) (tells.reads).broken_is
    (subst (P (r.session).broken) (sym (unsent_is role t tells.gone r.session tells.gone_is tells.role_is (tells.reads).stands)) h)
