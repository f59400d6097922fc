use Rattle.std.proofs.Common.{◌≡◌, inl, inr, ℕ, sym, ap, subst, ◌∙◌, arith}
use Rattle.mt_base.specs.Trace.{Trace}
use Rattle.dvc_pdus.specs.Views.{pdu_of}
use Rattle.mt_endpoint.specs.Acts.{Act, Draws, Carried}
use Rattle.mt_endpoint.specs.Growing.{grown}
use Rattle.mt_endpoint.specs.Holding.{channel_in}
use Rattle.end_calls.specs.Streams.{told_place}
use Rattle.end_session.specs.Coming.{Came, Met}
use Rattle.end_session.specs.Standing.{Gone, Stands}
use Rattle.end_session.specs.contracts.session.Session.{the_view}
use Rattle.end_session.proofs.Kept.{told}
use Rattle.end_session.proofs.Passed.{came_outside, ended_outside, given_inside, if_lacked, if_let_go, if_met, if_took}
use Rattle.end_session.proofs.session.Session.pass_data.Goals as goal

-- the end that it leaves where the channel took the data
took : (c : goal.In_default) (t : Trace Act) (gone : Gone) (place : ℕ) → c.args.at ≡ told_place place → Stands (the_view c.self.inside) t gone
    → Came (grown (the_view c.self.inside).role t (Draws c.args.kind place (Carried c.args.bytes.now (pdu_of c.args.pdu.now)))) gone (record (the_view c.self.inside) { channels = c.accept.new.self })
took c t gone place is st =
    let s = the_view c.self.inside in
    let pdu = pdu_of c.args.pdu.now in
    let given = given_inside s c.args.self.now c.args.kind place c.args.at c.args.id c.args.bytes.now pdu c.self.view_is
    (record { passing = c.requires.passing; kept = c.requires.open_one; channel_is = ap channel_in c.requires.brings; where_at = is }) in
    if_took s t gone c.args.kind place c.args.at c.args.id c.args.bytes.now pdu c.accept.result c.in_default.field-0 c.accept.new.self given c.requires.brings c.in_default.is c.accept.ensures.answer c.accept.ensures.came st

pub invariant_of-self : goal.invariant_of-self
invariant_of-self c =
    let w = c.self.invariant in
    let acts = (grown (the_view c.self.inside).role w.0.0 (Draws c.args.kind c.args.at (Carried c.args.bytes.now (pdu_of c.args.pdu.now)))).acts in
    ((acts, w.0.1, (took c w.0.0 w.0.1 c.args.at (told c.args.at (omega (arith, c.ranges.at.fits))) w.0.2).1), w.1)

pub returns-in_default-clause-came : goal.returns-in_default-clause-came
returns-in_default-clause-came c t gone place is st =
    let s = the_view c.self.inside in
    came_outside s c.args.self.now t (Draws c.args.kind place (Carried c.args.bytes.now (pdu_of c.args.pdu.now))) gone (record s { channels = c.accept.new.self }) c.self.view_is
    (took c t gone place is (subst (λ s. Stands s t gone) (sym c.self.view_is) st))

pub returns-then-is_lack-clause-ended : goal.returns-then-is_lack-clause-ended
returns-then-is_lack-clause-ended c t gone place is st =
    let s = the_view c.self.inside in
    let pdu = pdu_of c.args.pdu.now in
    let given = given_inside s c.args.self.now c.args.kind place c.args.at c.args.id c.args.bytes.now pdu c.self.view_is
    (record { passing = c.requires.passing; kept = c.requires.open_one; channel_is = ap channel_in c.requires.brings; where_at = is }) in
    ended_outside s c.args.self.now t (Draws c.args.kind place (Carried c.args.bytes.now pdu)) gone (record s { channels = c.accept.new.self }) (record { at = c.args.at; cause = c.from-cause.result }) c.self.view_is
    (inr
    (if_lacked s t gone c.args.kind place c.args.at c.args.id c.args.bytes.now pdu c.accept.result c.in-Err.why c.from-cause.result c.accept.new.self given c.requires.brings c.in-Err.is c.from-cause.ensures
    (sym c.is_lack.ensures ∙ c.if-is_lack.true) c.in-Err.ensures.unchanged c.accept.ensures.answer (subst (λ s. Stands s t gone) (sym c.self.view_is) st)))

pub returns-in-Lossy-clause-came : goal.returns-in-Lossy-clause-came
returns-in-Lossy-clause-came c t gone place is st =
    let s = the_view c.self.inside in
    let pdu = pdu_of c.args.pdu.now in
    let given = given_inside s c.args.self.now c.args.kind place c.args.at c.args.id c.args.bytes.now pdu c.self.view_is
    (record { passing = c.requires.passing; kept = c.requires.open_one; channel_is = ap channel_in c.requires.brings; where_at = is }) in
    came_outside s c.args.self.now t (Draws c.args.kind place (Carried c.args.bytes.now pdu)) gone (record s { channels = c.accept.new.self }) c.self.view_is
    (if_let_go s t gone c.args.kind place c.args.at c.args.id c.args.bytes.now pdu c.accept.result c.in-Err.why c.from-cause.result c.accept.new.self c.in-Lossy.is given c.requires.brings c.in-Err.is c.from-cause.ensures
    (sym c.is_lack.ensures ∙ c.if-is_lack.false) c.in-Err.ensures.unchanged c.accept.ensures.answer (subst (λ s. Stands s t gone) (sym c.self.view_is) st))

-- and where it is a fault
faulty : (c : goal.After-keep) (t : Trace Act) (gone : Gone) (place : ℕ) → c.args.at ≡ told_place place → Stands (the_view c.self.inside) t gone
    → Met (grown (the_view c.self.inside).role t (Draws c.args.kind place (Carried c.args.bytes.now (pdu_of c.args.pdu.now)))) gone (record (the_view c.self.inside) { channels = c.accept.new.self; held_reliable = c.keep.new.self })
    (record { at = c.args.at; cause = c.from-cause.result })
faulty c t gone place is st =
    let s = the_view c.self.inside in
    let pdu = pdu_of c.args.pdu.now in
    let given = given_inside s c.args.self.now c.args.kind place c.args.at c.args.id c.args.bytes.now pdu c.self.view_is
    (record { passing = c.requires.passing; kept = c.requires.open_one; channel_is = ap channel_in c.requires.brings; where_at = is }) in
    if_met s t gone c.args.kind place c.args.at c.args.id c.args.bytes.now pdu c.accept.result c.in-Err.why c.from-cause.result c.accept.new.self c.keep.new.self c.in-Reliable.is given c.requires.brings c.in-Err.is c.from-cause.ensures
    (sym c.is_lack.ensures ∙ c.if-is_lack.false) c.in-Err.ensures.unchanged c.keep.ensures c.accept.ensures.answer st

pub invariant_of-self-in-Reliable : goal.invariant_of-self-in-Reliable
invariant_of-self-in-Reliable c =
    let w = c.self.invariant in
    let acts = (grown (the_view c.self.inside).role w.0.0 (Draws c.args.kind c.args.at (Carried c.args.bytes.now (pdu_of c.args.pdu.now)))).acts in
    ((acts, w.0.1, (faulty c w.0.0 w.0.1 c.args.at (told c.args.at (omega (arith, c.ranges.at.fits))) w.0.2).stands), w.1)

pub returns-in-Reliable-clause-ended : goal.returns-in-Reliable-clause-ended
returns-in-Reliable-clause-ended c t gone place is st =
    let s = the_view c.self.inside in
    ended_outside s c.args.self.now t (Draws c.args.kind place (Carried c.args.bytes.now (pdu_of c.args.pdu.now))) gone (record s { channels = c.accept.new.self; held_reliable = c.keep.new.self }) (record { at = c.args.at; cause = c.from-cause.result }) c.self.view_is
    (inl (faulty c t gone place is (subst (λ s. Stands s t gone) (sym c.self.view_is) st)))
