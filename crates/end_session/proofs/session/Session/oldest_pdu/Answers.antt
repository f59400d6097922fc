use Rattle.std.proofs.Common.{ap, subst, ◌∙◌, arith}
use Rattle.mt_base.specs.Ends.{other}
use Rattle.end_session.specs.Drawing.{held_of}
use Rattle.end_session.specs.Standing.{Stands}
use Rattle.end_session.specs.Store.{Store}
use Rattle.end_session.proofs.OldestFound.{found, found_of, found_place, never_unread, oldest_read}
use Rattle.end_session.proofs.session.Session.oldest_pdu.Goals as goal

pub shared_ref_as_front-read_dvc : goal.shared_ref_as_front-read_dvc
shared_ref_as_front-read_dvc c =
    let f = found c.args.id (held_of c.args.kind c.args.self.now) c.args.out.now c.oldest.new.out c.in_ok-at.at c.in_ok-at.length c.in_ok-at.ensures.found c.oldest.ensures.bytes in
    omega (arith, f.within, c.oldest.array_long)

pub unreachable-requires : goal.unreachable-requires
unreachable-requires c =
    let w = c.self.invariant in
    let f = found c.args.id (held_of c.args.kind c.args.self.now) c.args.out.now c.oldest.new.out c.in_ok-at.at c.in_ok-at.length c.in_ok-at.ensures.found c.oldest.ensures.bytes in
    never_unread c.args.self.now w.0.0 w.0.1 c.args.kind c.args.id c.oldest.new.out c.in_ok-at.at c.in_ok-at.length c.other.result c.read_dvc.result c.in_default.field-0 f c.read_dvc.ensures.exact c.in_default.is
    (subst (λ s. Stands s w.0.0 w.0.1) c.self.view_is w.0.2)

pub returns-clause-oldest : goal.returns-clause-oldest
returns-clause-oldest c =
    let f = found c.args.id (held_of c.args.kind c.args.self.now) c.args.out.now c.oldest.new.out c.in_ok-at.at c.in_ok-at.length c.in_ok-at.ensures.found c.oldest.ensures.bytes in
    oldest_read c.args.self.now c.args.kind c.args.id c.oldest.new.out c.in_ok-at.at c.in_ok-at.length c.other.result c.read_dvc.result c.in-Ok.pdu f (c.other.ensures ∙ ap (λ (s : Store). other s.role) c.self.view_is)
    c.read_dvc.ensures.exact c.in-Ok.is

pub returns-clause-place : goal.returns-clause-place
returns-clause-place c =
    found_place c.args.id (held_of c.args.kind c.args.self.now) c.oldest.new.out c.in_ok-at.at c.in_ok-at.length
    (found c.args.id (held_of c.args.kind c.args.self.now) c.args.out.now c.oldest.new.out c.in_ok-at.at c.in_ok-at.length c.in_ok-at.ensures.found c.oldest.ensures.bytes)

pub returns-clause-channel : goal.returns-clause-channel
returns-clause-channel c =
    let w = c.self.invariant in
    let f = found c.args.id (held_of c.args.kind c.args.self.now) c.args.out.now c.oldest.new.out c.in_ok-at.at c.in_ok-at.length c.in_ok-at.ensures.found c.oldest.ensures.bytes in
    found_of c.args.self.now w.0.0 w.0.1 c.args.kind c.args.id c.oldest.new.out c.in_ok-at.at c.in_ok-at.length c.other.result c.read_dvc.result c.in-Ok.pdu f c.read_dvc.ensures.exact c.read_dvc.ensures.found c.in-Ok.is
    (subst (λ s. Stands s w.0.0 w.0.1) c.self.view_is w.0.2)
