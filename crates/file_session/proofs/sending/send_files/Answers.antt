use Rattle.std.proofs.Common.{◌≡◌, [], Some, length, refl, sym, ◌∙◌, subst}
use Rattle.end_calls.specs.declared.refusal.SendRefusal.{SendRefusal}
use Rattle.end_calls.specs.Calls.{acts, past}
use Rattle.end_calls.specs.Law.{unsent}
use Rattle.end_calls.specs.Refusing.{why_not_sent}
use Rattle.endpoint.specs.Attached.{load_in}
use Rattle.endpoint.specs.Standing.{EndStands}
use Rattle.file_messages.specs.Files.{Message}
use Rattle.file_transfer.specs.declared.outgoing.Outgoing.{Outgoing}
use Rattle.file_session.specs.Messages.{sent, with_sends}
use Rattle.file_session.specs.Sending.{SendsOn}
use Rattle.file_session.proofs.Growing.{calls_next, follows_on, held_next, sent_next, sent_none, sent_waits}
use Rattle.file_session.proofs.Taken.{no_err}
use Rattle.file_session.proofs.LawsKept.{laws_same, laws_then}
use Rattle.file_session.proofs.sending.send_files.Goals as goal

pub loop-outgoing-init : goal.loop-outgoing-init
loop-outgoing-init g c = record {
  laws = laws_same _ _ c.args.end.now;
  faults = refl;
  same = refl;
  files = refl;
  held = c.requires.held;
  calls = λ role t k. ([], k);
  sent = λ role t files k h. sent_none (λ u. EndStands g.C.Carrier.stands g.C.Carrier.left g.C.Carrier.condition g.P.Post.stands g.P.Post.left g.P.Post.condition c.args.end.now role u) t files _ _ k h;
}

pub loop-outgoing-preserved : goal.loop-outgoing-preserved
loop-outgoing-preserved g c =
    let i = c.loop-outgoing.invariant in
    let m = c.make_next.ensures in
    let n = c.send_next.ensures in
    let o = c.in-Ok-send_next.ensures in
    let x = i.held in
    let made = c.in-Ok.ensures.sent x.0 x.1 x.2 in
    record {
      laws = laws_then _ _ _ _ _ i.laws c.send_next.ensures.laws;
      faults = c.in-Ok.ensures.counts (no_err _ _) ∙ i.faults;
      same = m.same ∙ i.same;
      files = n.files ∙ m.files ∙ i.files;
      held = held_next c.send_next.new.outgoing x.0 made.0 c.make_next.new.outgoing.draft (n.same x.0 made.0 made.1) (o.passed x.0 made.0 made.1);
      calls = λ role t k.
          let b = i.calls role t k in
          calls_next (λ e u. EndStands g.C.Carrier.stands g.C.Carrier.left g.C.Carrier.condition g.P.Post.stands g.P.Post.left g.P.Post.condition e role u) c.loop-outgoing.end c.send_next.new.end t b.0 c.make_next.new.outgoing.draft b.1 (λ is. (n.none is).1) (λ message is. o.sent message is role (with_sends t b.0) b.1);
      sent = λ role t files k h.
          let b = i.sent role t files k h in
          let y = c.in-Ok.ensures.sent (sent (with_sends t b.messages)) b.later b.sent_are in
          sent_next (λ e u. EndStands g.C.Carrier.stands g.C.Carrier.left g.C.Carrier.condition g.P.Post.stands g.P.Post.left g.P.Post.condition e role u) c.loop-outgoing.end c.send_next.new.end t files (g.F.FileStore.told c.args.store.now) c.args.outgoing.now c.loop-outgoing.outgoing c.send_next.new.outgoing c.make_next.new.outgoing.draft b y.0
          (follows_on _ _ c.args.outgoing.now c.loop-outgoing.outgoing c.make_next.new.outgoing c.send_next.new.outgoing files b.later y.0 i.same i.files b.follow y.2 (λ contents f. n.follows contents y.0 f))
          (λ is. (n.none is).1) (λ message is. o.sent message is role (with_sends t b.messages) b.calls) (n.same _ y.0 y.1) (o.passed _ y.0 y.1);
    }

pub returns-in-Err-send_next-clause-calls : goal.returns-in-Err-send_next-clause-calls
returns-in-Err-send_next-clause-calls g c role t k =
    let u = c.in-Err-send_next.ensures.unchanged in
    subst (λ e. SendsOn (λ v. EndStands g.C.Carrier.stands g.C.Carrier.left g.C.Carrier.condition g.P.Post.stands g.P.Post.left g.P.Post.condition e role v) t) (sym u.0) (c.loop-outgoing.invariant.calls role t k)

pub returns-in-Err-send_next-clause-sent : goal.returns-in-Err-send_next-clause-sent
returns-in-Err-send_next-clause-sent g c role t files k h =
    let u = c.in-Err-send_next.ensures.unchanged in
    let i = c.loop-outgoing.invariant in
    let b = i.sent role t files k h in
    let y = c.in-Ok.ensures.sent (sent (with_sends t b.messages)) b.later b.sent_are in
    sent_waits (λ e v. EndStands g.C.Carrier.stands g.C.Carrier.left g.C.Carrier.condition g.P.Post.stands g.P.Post.left g.P.Post.condition e role v) c.loop-outgoing.end c.send_next.new.end t files (g.F.FileStore.told c.args.store.now) c.args.outgoing.now c.loop-outgoing.outgoing c.make_next.new.outgoing c.send_next.new.outgoing b y.0
    (follows_on _ _ c.args.outgoing.now c.loop-outgoing.outgoing c.make_next.new.outgoing c.make_next.new.outgoing files b.later y.0 i.same i.files b.follow y.2 (λ contents f. f)) y.1 u.0 u.1

pub returns-in-Err-send_next-clause-refused : goal.returns-in-Err-send_next-clause-refused
returns-in-Err-send_next-clause-refused g c role t why k is =
    let u = c.in-Err-send_next.ensures.unchanged in
    let same : c.in-Err-send_next.refusal ≡ why = let s = is in cc in
    let r = c.in-Err-send_next.ensures.refused role t in
    let a = subst (λ e. EndStands g.C.Carrier.stands g.C.Carrier.left g.C.Carrier.condition g.P.Post.stands g.P.Post.left g.P.Post.condition e role t → (message : Message) × (c.make_next.new.outgoing.draft ≡ Some message) × (why_not_sent (past role t).broken role (acts role t) (record { unsent = length (unsent role t); reliable = load_in g.C.Carrier.load e.reliable; lossy = load_in g.P.Post.load e.lossy }) 1 message ≡ Some c.in-Err-send_next.refusal)) (sym u.0) r k in
    let b = subst (λ (o : Outgoing). (message : Message) × (o.draft ≡ Some message) × (why_not_sent (past role t).broken role (acts role t) (record { unsent = length (unsent role t); reliable = load_in g.C.Carrier.load c.send_next.new.end.reliable; lossy = load_in g.P.Post.load c.send_next.new.end.lossy }) 1 message ≡ Some c.in-Err-send_next.refusal)) (sym u.1) a in
    subst (λ (w : SendRefusal). (message : Message) × (c.send_next.new.outgoing.draft ≡ Some message) × (why_not_sent (past role t).broken role (acts role t) (record { unsent = length (unsent role t); reliable = load_in g.C.Carrier.load c.send_next.new.end.reliable; lossy = load_in g.P.Post.load c.send_next.new.end.lossy }) 1 message ≡ Some w)) same b

pub returns-in-Err-send_next-clause-laws : goal.returns-in-Err-send_next-clause-laws
returns-in-Err-send_next-clause-laws g c = laws_then _ _ _ _ _ c.loop-outgoing.invariant.laws c.send_next.ensures.laws
