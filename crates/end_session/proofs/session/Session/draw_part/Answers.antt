use Rattle.std.proofs.Common.{option_map, refl, ap, arith}
use Rattle.mt_base.specs.declared.kinds.Kind.TheVariants.{Reliable}
use Rattle.tunnel_pdus.specs.Views.{pdu_of}
use Rattle.end_session.proofs.Kept.{told}
use Rattle.end_session.proofs.Pulled.{may_draw_lossy, part_came, part_missed, part_unread}
use Rattle.end_session.proofs.session.Session.draw_part.Goals as goal

pub returns-in_default-clause-drawn : goal.returns-in_default-clause-drawn
returns-in_default-clause-drawn c t gone st =
    let s = c.args.self.now in
    let may = may_draw_lossy s c.requires.whole c.requires.rests c.requires.quiet c.requires.room c.requires.waits in
    part_missed s c.args.bytes.now c.args.is_full (option_map pdu_of c.whole_in.result) t gone may c.whole_in.ensures (ap (option_map pdu_of) c.in_default.is) st (c.miss.ensures t gone st)

pub returns-in-Err-clause-drawn : goal.returns-in-Err-clause-drawn
returns-in-Err-clause-drawn c t gone st =
    let s = c.args.self.now in
    let may = may_draw_lossy s c.requires.whole c.requires.rests c.requires.quiet c.requires.room c.requires.waits in
    part_unread s c.draw_pdu.new.self c.args.bytes.now c.args.is_full (option_map pdu_of c.whole_in.result) (pdu_of c.in-Some.pdu) c.in-Err.field-0 t gone may c.whole_in.ensures (ap (option_map pdu_of) c.in-Some.is) c.in-Err.ensures.refused c.in-Err.ensures.unchanged st
    c.miss-in-Err.ensures

pub returns-in_default-draw_pdu-clause-drawn : goal.returns-in_default-draw_pdu-clause-drawn
returns-in_default-draw_pdu-clause-drawn c t gone st =
    part_came c.args.self.now c.draw_pdu.new.self c.args.bytes.now c.args.is_full (option_map pdu_of c.whole_in.result) (pdu_of c.in-Some.pdu) t gone c.whole_in.ensures (ap (option_map pdu_of) c.in-Some.is)
    (c.in_default-draw_pdu.ensures.drawn t gone 0 (told 0 (omega arith)) st)

pub returns-in_default-draw_pdu-clause-reliable : goal.returns-in_default-draw_pdu-clause-reliable
returns-in_default-draw_pdu-clause-reliable c = (c.draw_pdu.ensures.wrote).others Reliable refl
