use Rattle.std.proofs.Common.{ℕ, List, Ok, sym, ap, subst, ◌∙◌}
use Rattle.mt_base.specs.Ends.{other}
use Rattle.dvc_pdus.specs.Views.{pdu_of}
use Rattle.tunnel_pdus.specs.Views.{frame_of}
use Rattle.mt_endpoint.specs.Acts.{Hears, Spoken, TunnelAsked, TunnelAnswered}
use Rattle.end_calls.specs.Streams.{heard_by}
use Rattle.end_session.specs.Causes.{why_of}
use Rattle.end_session.specs.Standing.{Stands}
use Rattle.end_session.specs.Store.{Store}
use Rattle.end_session.proofs.Added.{heard_longer, heard_lossy}
use Rattle.end_session.proofs.FrameHeard.{is_heard, is_unread, never_lacks, says}
use Rattle.end_session.proofs.session.Session.hear_frame.Goals as goal

pub returns-in_err-hear_request-in-Request-clause-refused : goal.returns-in_err-hear_request-in-Request-clause-refused
returns-in_err-hear_request-in-Request-clause-refused c t gone st =
    let role = c.args.self.now.role in
    let w = c.in_err-hear_request-in-Request in
    is_unread role (heard_by role (frame_of c.args.frame.now)) (TunnelAsked c.in-Request.id c.in-Request.kind c.copy_from_slice.new.self) t w.field-0.0 c.from_residual.result
    (ap (λ f. heard_by role (frame_of f)) c.in-Request.is ∙ ap (λ (b : List ℕ). Ok (TunnelAsked c.in-Request.id c.in-Request.kind b)) (sym c.copy_from_slice.ensures.after)) c.from_residual.ensures.1 (w.ensures.refused t gone st)
    (never_lacks (Hears (TunnelAsked c.in-Request.id c.in-Request.kind c.copy_from_slice.new.self)) (why_of w.field-0.0) w.ensures.named)

pub returns-in_ok-hear_request-in-Request-clause-heard : goal.returns-in_ok-hear_request-in-Request-clause-heard
returns-in_ok-hear_request-in-Request-clause-heard c t gone st =
    let role = c.args.self.now.role in
    is_heard role (heard_by role (frame_of c.args.frame.now)) (TunnelAsked c.in-Request.id c.in-Request.kind c.copy_from_slice.new.self) t gone c.hear_request.new.self
    (ap (λ f. heard_by role (frame_of f)) c.in-Request.is ∙ ap (λ (b : List ℕ). Ok (TunnelAsked c.in-Request.id c.in-Request.kind b)) (sym c.copy_from_slice.ensures.after)) (c.in_ok-hear_request-in-Request.ensures.heard t gone st)

pub returns-in_err-hear_response-in-Response-clause-refused : goal.returns-in_err-hear_response-in-Response-clause-refused
returns-in_err-hear_response-in-Response-clause-refused c t gone st =
    let role = c.args.self.now.role in
    let w = c.in_err-hear_response-in-Response in
    is_unread role (heard_by role (frame_of c.args.frame.now)) (TunnelAnswered c.in-Response.id c.in-Response.hr) t w.field-0.0 c.from_residual-in_err-hear_response-in-Response.result (ap (λ f. heard_by role (frame_of f)) c.in-Response.is)
    c.from_residual-in_err-hear_response-in-Response.ensures.1 (w.ensures.refused t gone st) (never_lacks (Hears (TunnelAnswered c.in-Response.id c.in-Response.hr)) (why_of w.field-0.0) w.ensures.named)

pub returns-in_ok-hear_response-in-Response-clause-heard : goal.returns-in_ok-hear_response-in-Response-clause-heard
returns-in_ok-hear_response-in-Response-clause-heard c t gone st =
    let role = c.args.self.now.role in
    is_heard role (heard_by role (frame_of c.args.frame.now)) (TunnelAnswered c.in-Response.id c.in-Response.hr) t gone c.hear_response.new.self (ap (λ f. heard_by role (frame_of f)) c.in-Response.is)
    (c.in_ok-hear_response-in-Response.ensures.heard t gone st)

pub returns-in_err-hear_pdu-in-Channel-clause-refused : goal.returns-in_err-hear_pdu-in-Channel-clause-refused
returns-in_err-hear_pdu-in-Channel-clause-refused c t gone st =
    let role = c.args.self.now.role in
    let w = c.in_err-hear_pdu-in-Channel in
    let pdu = pdu_of c.in_ok-pdu-in-Channel.pdu in
    is_unread role (heard_by role (frame_of c.args.frame.now)) (Spoken pdu) t w.field-0.0 c.from_residual-in_err-hear_pdu-in-Channel.result
    (says role c.other-writer.result c.in-Channel.pdu.now (frame_of c.args.frame.now) pdu (ap frame_of c.in-Channel.is) (c.other-writer.ensures ∙ ap (λ (s : Store). other s.role) c.self.view_is) c.in_ok-pdu-in-Channel.ensures.exact)
    c.from_residual-in_err-hear_pdu-in-Channel.ensures.1 (w.ensures.refused t gone st) w.ensures.memory

pub returns-in_ok-hear_pdu-in-Channel-clause-heard : goal.returns-in_ok-hear_pdu-in-Channel-clause-heard
returns-in_ok-hear_pdu-in-Channel-clause-heard c t gone st =
    let role = c.args.self.now.role in
    let pdu = pdu_of c.in_ok-pdu-in-Channel.pdu in
    is_heard role (heard_by role (frame_of c.args.frame.now)) (Spoken pdu) t gone c.hear_pdu.new.self
    (says role c.other-writer.result c.in-Channel.pdu.now (frame_of c.args.frame.now) pdu (ap frame_of c.in-Channel.is) (c.other-writer.ensures ∙ ap (λ (s : Store). other s.role) c.self.view_is) c.in_ok-pdu-in-Channel.ensures.exact)
    (c.in_ok-hear_pdu-in-Channel.ensures.heard t gone st)

pub returns-in_ok-hear_request-in-Request-clause-written : goal.returns-in_ok-hear_request-in-Request-clause-written
returns-in_ok-hear_request-in-Request-clause-written c =
    let w = c.self.invariant in
    let st = subst (λ s. Stands s w.0.0 w.0.1) c.self.view_is w.0.2 in
    heard_longer c.args.self.now c.hear_request.new.self w.0.0 (TunnelAsked c.in-Request.id c.in-Request.kind c.copy_from_slice.new.self) w.0.1 c.hear_request.ensures.same.0 st (c.in_ok-hear_request-in-Request.ensures.heard w.0.0 w.0.1 st).1

pub returns-in_ok-hear_request-in-Request-clause-lossy : goal.returns-in_ok-hear_request-in-Request-clause-lossy
returns-in_ok-hear_request-in-Request-clause-lossy c =
    let w = c.self.invariant in
    let st = subst (λ s. Stands s w.0.0 w.0.1) c.self.view_is w.0.2 in
    heard_lossy c.args.self.now c.hear_request.new.self w.0.0 (TunnelAsked c.in-Request.id c.in-Request.kind c.copy_from_slice.new.self) w.0.1 c.hear_request.ensures.same.0 st (c.in_ok-hear_request-in-Request.ensures.heard w.0.0 w.0.1 st).1

pub returns-in_ok-hear_response-in-Response-clause-written : goal.returns-in_ok-hear_response-in-Response-clause-written
returns-in_ok-hear_response-in-Response-clause-written c =
    let w = c.self.invariant in
    let st = subst (λ s. Stands s w.0.0 w.0.1) c.self.view_is w.0.2 in
    heard_longer c.args.self.now c.hear_response.new.self w.0.0 (TunnelAnswered c.in-Response.id c.in-Response.hr) w.0.1 c.hear_response.ensures.same.0 st (c.in_ok-hear_response-in-Response.ensures.heard w.0.0 w.0.1 st).1

pub returns-in_ok-hear_response-in-Response-clause-lossy : goal.returns-in_ok-hear_response-in-Response-clause-lossy
returns-in_ok-hear_response-in-Response-clause-lossy c =
    let w = c.self.invariant in
    let st = subst (λ s. Stands s w.0.0 w.0.1) c.self.view_is w.0.2 in
    heard_lossy c.args.self.now c.hear_response.new.self w.0.0 (TunnelAnswered c.in-Response.id c.in-Response.hr) w.0.1 c.hear_response.ensures.same.0 st (c.in_ok-hear_response-in-Response.ensures.heard w.0.0 w.0.1 st).1

pub returns-in_ok-hear_pdu-in-Channel-clause-written : goal.returns-in_ok-hear_pdu-in-Channel-clause-written
returns-in_ok-hear_pdu-in-Channel-clause-written c =
    let w = c.self.invariant in
    let st = subst (λ s. Stands s w.0.0 w.0.1) c.self.view_is w.0.2 in
    heard_longer c.args.self.now c.hear_pdu.new.self w.0.0 (Spoken (pdu_of c.in_ok-pdu-in-Channel.pdu)) w.0.1 c.hear_pdu.ensures.same.0 st (c.in_ok-hear_pdu-in-Channel.ensures.heard w.0.0 w.0.1 st).1

pub returns-in_ok-hear_pdu-in-Channel-clause-lossy : goal.returns-in_ok-hear_pdu-in-Channel-clause-lossy
returns-in_ok-hear_pdu-in-Channel-clause-lossy c =
    let w = c.self.invariant in
    let st = subst (λ s. Stands s w.0.0 w.0.1) c.self.view_is w.0.2 in
    heard_lossy c.args.self.now c.hear_pdu.new.self w.0.0 (Spoken (pdu_of c.in_ok-pdu-in-Channel.pdu)) w.0.1 c.hear_pdu.ensures.same.0 st (c.in_ok-hear_pdu-in-Channel.ensures.heard w.0.0 w.0.1 st).1
