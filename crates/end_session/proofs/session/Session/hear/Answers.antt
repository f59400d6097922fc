use Rattle.std.proofs.Common.{refl, ℕ, ◌≤◌, List, length, option_map, sym, ap, subst, ◌∙◌, arith}
use Rattle.mt_base.specs.declared.kinds.Kind.TheVariants.{Reliable, Lossy}
use Rattle.dvc_pdus.specs.Views.{pdu_of}
use Rattle.soft_sync.specs.Exchanges.{behind}
use Rattle.tunnel_pdus.specs.Views.{frame_of}
use Rattle.end_calls.specs.Streams.{heard_by}
use Rattle.end_session.specs.Outgoing.{waiting_for}
use Rattle.end_session.specs.Standing.{Stands}
use Rattle.end_session.specs.Store.{Store}
use Rattle.end_session.proofs.MainRoom.{freed_claims, heard_claims}
use Rattle.end_session.proofs.WholeHeard.{HasRead, due, few_moved, none_came, number_stays, part_came, reliable_bound, room_to_answer, room_to_free, unread_whole, whole_came, words_due}
use Rattle.end_session.proofs.session.Session.hear.Goals as goal

pub returns-in-Err-clause-heard : goal.returns-in-Err-clause-heard
returns-in-Err-clause-heard c t gone place at_is st =
    let s = c.args.self.now in
    unread_whole s c.hear_frame.new.self c.break_by.new.self c.at.result c.args.at place (heard_by s.role (frame_of c.args.frame.now)) t c.in-Err.unread gone at_is c.in-Err.ensures.unchanged c.at.ensures c.break_by.ensures.broken
    (c.in-Err.ensures.refused t gone st) st

pub answer_as_client-requires-clause-room : goal.answer_as_client-requires-clause-room
answer_as_client-requires-clause-room c =
    let s = c.args.self.now in
    let w = c.self.invariant in
    let st = subst (λ s. Stands s w.0.0 w.0.1) c.self.view_is w.0.2 in
    room_to_answer s c.hear_frame.new.self (heard_by s.role (frame_of c.args.frame.now)) (w.0.0, w.0.1, st) c.in-Ok.ensures.heard c.requires.room c.hear_frame.ensures.written.0

pub returns-in_default-clause-heard : goal.returns-in_default-clause-heard
returns-in_default-clause-heard c t gone place at_is st =
    let s = c.args.self.now in
    let r = heard_by s.role (frame_of c.args.frame.now) in
    let first = c.hear_frame.new.self in
    let now = c.answer_as_client.new.self in
    let read : HasRead s first now r = record { heard = c.in-Ok.ensures.heard; role_is = c.hear_frame.ensures.same.0; answered_all = c.answer_as_client.ensures.answered } in
    none_came s first now r place t gone read (sym c.in-Ok.ensures.spoken ∙ ap (option_map pdu_of) c.in_default.is) (c.answer_as_client.ensures.same.1 ∙ c.hear_frame.ensures.same.1 ∙ c.requires.whole) st

pub returns-in_default-clause-reliable : goal.returns-in_default-clause-reliable
returns-in_default-clause-reliable c =
    omega (arith, ap (λ (x : List ℕ). length x) (c.answer_as_client.ensures.links Reliable), c.hear_frame.ensures.written.1, ap (λ (x : List ℕ). length x) c.requires.waits)

pub returns-in_default-clause-lossy : goal.returns-in_default-clause-lossy
returns-in_default-clause-lossy c =
    c.answer_as_client.ensures.links Lossy ∙ c.hear_frame.ensures.lossy

pub release_freed-requires-clause-made : goal.release_freed-requires-clause-made
release_freed-requires-clause-made c =
    let s = c.args.self.now in
    let r = heard_by s.role (frame_of c.args.frame.now) in
    let first = c.hear_frame.new.self in
    let now = c.answer_as_client.new.self in
    let w = c.self.invariant in
    let st = subst (λ s. Stands s w.0.0 w.0.1) c.self.view_is w.0.2 in
    let request = c.awaited-request.result in
    let pdu = pdu_of c.in-Some.pdu in
    let oldest = c.awaited-request.ensures ∙ ap (λ (s : Store). behind (s.paths).made) c.self.view_is in
    let read : HasRead s first now r = record { heard = c.in-Ok.ensures.heard; role_is = c.hear_frame.ensures.same.0; answered_all = c.answer_as_client.ensures.answered } in
    let d = due s first now r pdu request w.0.0 w.0.1 read (sym c.in-Ok.ensures.spoken ∙ ap (option_map pdu_of) c.in-Some.is) oldest st in
    number_stays s now r pdu request w.0.0 w.0.1 st d oldest

pub release_freed-requires-clause-few : goal.release_freed-requires-clause-few
release_freed-requires-clause-few c =
    let s = c.args.self.now in
    let r = heard_by s.role (frame_of c.args.frame.now) in
    let first = c.hear_frame.new.self in
    let now = c.answer_as_client.new.self in
    let w = c.self.invariant in
    let st = subst (λ s. Stands s w.0.0 w.0.1) c.self.view_is w.0.2 in
    let request = c.awaited-request.result in
    let pdu = pdu_of c.in-Some.pdu in
    let oldest = c.awaited-request.ensures ∙ ap (λ (s : Store). behind (s.paths).made) c.self.view_is in
    let read : HasRead s first now r = record { heard = c.in-Ok.ensures.heard; role_is = c.hear_frame.ensures.same.0; answered_all = c.answer_as_client.ensures.answered } in
    let d = due s first now r pdu request w.0.0 w.0.1 read (sym c.in-Ok.ensures.spoken ∙ ap (option_map pdu_of) c.in-Some.is) oldest st in
    few_moved now _ w.0.1 request d.stands

pub release_freed-requires-clause-words : goal.release_freed-requires-clause-words
release_freed-requires-clause-words c =
    let s = c.args.self.now in
    let r = heard_by s.role (frame_of c.args.frame.now) in
    let first = c.hear_frame.new.self in
    let now = c.answer_as_client.new.self in
    let w = c.self.invariant in
    let st = subst (λ s. Stands s w.0.0 w.0.1) c.self.view_is w.0.2 in
    let request = c.awaited-request.result in
    let pdu = pdu_of c.in-Some.pdu in
    let oldest = c.awaited-request.ensures ∙ ap (λ (s : Store). behind (s.paths).made) c.self.view_is in
    let read : HasRead s first now r = record { heard = c.in-Ok.ensures.heard; role_is = c.hear_frame.ensures.same.0; answered_all = c.answer_as_client.ensures.answered } in
    let d = due s first now r pdu request w.0.0 w.0.1 read (sym c.in-Ok.ensures.spoken ∙ ap (option_map pdu_of) c.in-Some.is) oldest st in
    words_due s now r pdu request w.0.0 w.0.1 (c.answer_as_client.ensures.same.0 ∙ c.hear_frame.ensures.same.0) d

pub release_freed-requires-clause-room : goal.release_freed-requires-clause-room
release_freed-requires-clause-room c =
    let s = c.args.self.now in
    let r = heard_by s.role (frame_of c.args.frame.now) in
    let first = c.hear_frame.new.self in
    let now = c.answer_as_client.new.self in
    let w = c.self.invariant in
    let st = subst (λ s. Stands s w.0.0 w.0.1) c.self.view_is w.0.2 in
    let request = c.awaited-request.result in
    let pdu = pdu_of c.in-Some.pdu in
    let oldest = c.awaited-request.ensures ∙ ap (λ (s : Store). behind (s.paths).made) c.self.view_is in
    let read : HasRead s first now r = record { heard = c.in-Ok.ensures.heard; role_is = c.hear_frame.ensures.same.0; answered_all = c.answer_as_client.ensures.answered } in
    let d = due s first now r pdu request w.0.0 w.0.1 read (sym c.in-Ok.ensures.spoken ∙ ap (option_map pdu_of) c.in-Some.is) oldest st in
    room_to_free s first now r pdu request w.0.0 w.0.1 read st d c.requires.room c.requires.waits c.hear_frame.ensures.written c.answer_as_client.ensures.written c.answer_as_client.ensures.links

pub returns-in-Err-release_freed-clause-heard : goal.returns-in-Err-release_freed-clause-heard
returns-in-Err-release_freed-clause-heard c t gone place at_is st =
    let s = c.args.self.now in
    let r = heard_by s.role (frame_of c.args.frame.now) in
    let first = c.hear_frame.new.self in
    let now = c.answer_as_client.new.self in
    let request = c.awaited-request.result in
    let pdu = pdu_of c.in-Some.pdu in
    let oldest = c.awaited-request.ensures ∙ ap (λ (s : Store). behind (s.paths).made) c.self.view_is in
    let read : HasRead s first now r = record { heard = c.in-Ok.ensures.heard; role_is = c.hear_frame.ensures.same.0; answered_all = c.answer_as_client.ensures.answered } in
    let d = due s first now r pdu request t gone read (sym c.in-Ok.ensures.spoken ∙ ap (option_map pdu_of) c.in-Some.is) oldest st in
    part_came s now c.release_freed.new.self c.break_by-in-Err-release_freed.new.self r pdu request place t gone c.in-Err-release_freed.untaken c.at-in-Err-release_freed.result (c.answer_as_client.ensures.same.0 ∙ c.hear_frame.ensures.same.0) d c.in-Err-release_freed.ensures.ended
    c.at-in-Err-release_freed.ensures c.break_by-in-Err-release_freed.ensures.broken

pub returns-in-Err-release_freed-clause-reliable : goal.returns-in-Err-release_freed-clause-reliable
returns-in-Err-release_freed-clause-reliable c =
    let s = c.args.self.now in
    let r = heard_by s.role (frame_of c.args.frame.now) in
    let first = c.hear_frame.new.self in
    let now = c.answer_as_client.new.self in
    let w = c.self.invariant in
    let st = subst (λ s. Stands s w.0.0 w.0.1) c.self.view_is w.0.2 in
    let request = c.awaited-request.result in
    let pdu = pdu_of c.in-Some.pdu in
    let oldest = c.awaited-request.ensures ∙ ap (λ (s : Store). behind (s.paths).made) c.self.view_is in
    let read : HasRead s first now r = record { heard = c.in-Ok.ensures.heard; role_is = c.hear_frame.ensures.same.0; answered_all = c.answer_as_client.ensures.answered } in
    let d = due s first now r pdu request w.0.0 w.0.1 read (sym c.in-Ok.ensures.spoken ∙ ap (option_map pdu_of) c.in-Some.is) oldest st in
    subst (λ (x : Store). length (waiting_for Reliable x.outgoing) ≤ 2304) (sym c.break_by-in-Err-release_freed.ensures.broken)
    (reliable_bound s first now c.release_freed.new.self r pdu request w.0.0 w.0.1 read st d c.requires.waits c.hear_frame.ensures.written.1 c.answer_as_client.ensures.links (c.release_freed.ensures.written).reliable_is)

pub returns-in-Err-release_freed-clause-lossy : goal.returns-in-Err-release_freed-clause-lossy
returns-in-Err-release_freed-clause-lossy c =
    ap (λ (x : Store). waiting_for Lossy x.outgoing) c.break_by-in-Err-release_freed.ensures.broken ∙ (c.release_freed.ensures.written).lossy_is ∙ c.answer_as_client.ensures.links Lossy ∙ c.hear_frame.ensures.lossy

pub returns-in_default-release_freed-clause-heard : goal.returns-in_default-release_freed-clause-heard
returns-in_default-release_freed-clause-heard c t gone place at_is st =
    let s = c.args.self.now in
    let r = heard_by s.role (frame_of c.args.frame.now) in
    let first = c.hear_frame.new.self in
    let now = c.answer_as_client.new.self in
    let request = c.awaited-request.result in
    let pdu = pdu_of c.in-Some.pdu in
    let oldest = c.awaited-request.ensures ∙ ap (λ (s : Store). behind (s.paths).made) c.self.view_is in
    let read : HasRead s first now r = record { heard = c.in-Ok.ensures.heard; role_is = c.hear_frame.ensures.same.0; answered_all = c.answer_as_client.ensures.answered } in
    let d = due s first now r pdu request t gone read (sym c.in-Ok.ensures.spoken ∙ ap (option_map pdu_of) c.in-Some.is) oldest st in
    whole_came s now c.release_freed.new.self r pdu request place t gone (c.answer_as_client.ensures.same.0 ∙ c.hear_frame.ensures.same.0) d c.in_default-release_freed.ensures.came
    (c.release_freed.ensures.same.1 ∙ c.answer_as_client.ensures.same.1 ∙ c.hear_frame.ensures.same.1 ∙ c.requires.whole)

pub returns-in_default-release_freed-clause-reliable : goal.returns-in_default-release_freed-clause-reliable
returns-in_default-release_freed-clause-reliable c =
    let s = c.args.self.now in
    let r = heard_by s.role (frame_of c.args.frame.now) in
    let first = c.hear_frame.new.self in
    let now = c.answer_as_client.new.self in
    let w = c.self.invariant in
    let st = subst (λ s. Stands s w.0.0 w.0.1) c.self.view_is w.0.2 in
    let request = c.awaited-request.result in
    let pdu = pdu_of c.in-Some.pdu in
    let oldest = c.awaited-request.ensures ∙ ap (λ (s : Store). behind (s.paths).made) c.self.view_is in
    let read : HasRead s first now r = record { heard = c.in-Ok.ensures.heard; role_is = c.hear_frame.ensures.same.0; answered_all = c.answer_as_client.ensures.answered } in
    let d = due s first now r pdu request w.0.0 w.0.1 read (sym c.in-Ok.ensures.spoken ∙ ap (option_map pdu_of) c.in-Some.is) oldest st in
    reliable_bound s first now c.release_freed.new.self r pdu request w.0.0 w.0.1 read st d c.requires.waits c.hear_frame.ensures.written.1 c.answer_as_client.ensures.links (c.release_freed.ensures.written).reliable_is

pub returns-in_default-release_freed-clause-lossy : goal.returns-in_default-release_freed-clause-lossy
returns-in_default-release_freed-clause-lossy c =
    (c.release_freed.ensures.written).lossy_is ∙ c.answer_as_client.ensures.links Lossy ∙ c.hear_frame.ensures.lossy

pub returns-in_default-clause-main : goal.returns-in_default-clause-main
returns-in_default-clause-main c =
    let s = c.args.self.now in
    let w = c.self.invariant in
    let st = subst (λ s. Stands s w.0.0 w.0.1) c.self.view_is w.0.2 in
    heard_claims s c.hear_frame.new.self c.answer_as_client.new.self (heard_by s.role (frame_of c.args.frame.now)) (w.0.0, w.0.1, st) c.in-Ok.ensures.heard c.hear_frame.ensures.written.0 c.answer_as_client.ensures.settled

pub returns-in-Err-release_freed-clause-main : goal.returns-in-Err-release_freed-clause-main
returns-in-Err-release_freed-clause-main c =
    let s = c.args.self.now in
    let r = heard_by s.role (frame_of c.args.frame.now) in
    let first = c.hear_frame.new.self in
    let now = c.answer_as_client.new.self in
    let w = c.self.invariant in
    let st = subst (λ s. Stands s w.0.0 w.0.1) c.self.view_is w.0.2 in
    let request = c.awaited-request.result in
    let pdu = pdu_of c.in-Some.pdu in
    let oldest = c.awaited-request.ensures ∙ ap (λ (s : Store). behind (s.paths).made) c.self.view_is in
    let read : HasRead s first now r = record { heard = c.in-Ok.ensures.heard; role_is = c.hear_frame.ensures.same.0; answered_all = c.answer_as_client.ensures.answered } in
    let d = due s first now r pdu request w.0.0 w.0.1 read (sym c.in-Ok.ensures.spoken ∙ ap (option_map pdu_of) c.in-Some.is) oldest st in
    let last = c.break_by-in-Err-release_freed.ensures.broken in
    freed_claims s first now c.release_freed.new.self c.break_by-in-Err-release_freed.new.self r pdu request w.0.0 w.0.1 st d c.in-Ok.ensures.heard c.hear_frame.ensures.written.0 c.answer_as_client.ensures.settled (c.release_freed.ensures.written).main_is
    c.release_freed.ensures.owed (ap (λ (x : Store). x.outgoing) last) (ap (λ (x : Store). x.owed) last)

pub returns-in_default-release_freed-clause-main : goal.returns-in_default-release_freed-clause-main
returns-in_default-release_freed-clause-main c =
    let s = c.args.self.now in
    let r = heard_by s.role (frame_of c.args.frame.now) in
    let first = c.hear_frame.new.self in
    let now = c.answer_as_client.new.self in
    let w = c.self.invariant in
    let st = subst (λ s. Stands s w.0.0 w.0.1) c.self.view_is w.0.2 in
    let request = c.awaited-request.result in
    let pdu = pdu_of c.in-Some.pdu in
    let oldest = c.awaited-request.ensures ∙ ap (λ (s : Store). behind (s.paths).made) c.self.view_is in
    let read : HasRead s first now r = record { heard = c.in-Ok.ensures.heard; role_is = c.hear_frame.ensures.same.0; answered_all = c.answer_as_client.ensures.answered } in
    let d = due s first now r pdu request w.0.0 w.0.1 read (sym c.in-Ok.ensures.spoken ∙ ap (option_map pdu_of) c.in-Some.is) oldest st in
    freed_claims s first now c.release_freed.new.self c.release_freed.new.self r pdu request w.0.0 w.0.1 st d c.in-Ok.ensures.heard c.hear_frame.ensures.written.0 c.answer_as_client.ensures.settled (c.release_freed.ensures.written).main_is
    c.release_freed.ensures.owed refl refl
