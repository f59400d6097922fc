use Rattle.std.proofs.Common.{Ok, ap, subst, ◌∙◌}
use Rattle.tunnel_pdus.specs.Layout.{SpellsFrame}
use Rattle.tunnel_pdus.specs.Faults.{RefusedFrame}
use Rattle.tunnel_pdus.specs.Streams.{Front, Begins, Wants}
use Rattle.tunnel_pdus.specs.Reading.{seen}
use Rattle.tunnel_pdus.specs.Views.{frame_of}
use Rattle.capture_check.specs.MainFrames.{said_of}
use Rattle.capture_check.proofs.Framing.{heard_whole, late_breaks, heard_more, fault_breaks}
use Rattle.capture_check.proofs.main_streams.read_front.Goals as goal

pub returns-in_ok-keeps-in-Whole-clause-kept : goal.returns-in_ok-keeps-in-Whole-clause-kept
returns-in_ok-keeps-in-Whole-clause-kept c main fewer byte came read heard left_is fits held =
    let front = subst (λ r. Front SpellsFrame RefusedFrame c.deref.result.now (seen frame_of r)) (c.in-Ok.is ∙ ap Ok c.in-Whole.is) c.read_frame.ensures.found in
    let begins = subst (λ l. Begins SpellsFrame l (frame_of c.in-Whole.value) c.in-Whole.used) (c.deref.ensures.value ∙ left_is) front in
    let kept = c.in_ok-keeps-in-Whole.ensures.kept (said_of came) heard.are_words held in
    heard_whole c.args.side main fewer byte came read fits (frame_of c.in-Whole.value) c.in-Whole.used c.args.words.now c.hear.new.self _ begins heard c.clear.ensures.items kept.0 kept.1

pub returns-in_ok-keeps-in-Whole-clause-broken : goal.returns-in_ok-keeps-in-Whole-clause-broken
returns-in_ok-keeps-in-Whole-clause-broken c main fewer byte came read heard left_is fits fails =
    let front = subst (λ r. Front SpellsFrame RefusedFrame c.deref.result.now (seen frame_of r)) (c.in-Ok.is ∙ ap Ok c.in-Whole.is) c.read_frame.ensures.found in
    let begins = subst (λ l. Begins SpellsFrame l (frame_of c.in-Whole.value) c.in-Whole.used) (c.deref.ensures.value ∙ left_is) front in
    late_breaks c.args.side main fewer byte came read fits (frame_of c.in-Whole.value) c.in-Whole.used begins (c.in_ok-keeps-in-Whole.ensures.broken (said_of came) heard.are_words fails)

pub returns-in-More-clause-kept : goal.returns-in-More-clause-kept
returns-in-More-clause-kept c main fewer byte came read heard left_is fits held =
    let front = subst (λ r. Front SpellsFrame RefusedFrame c.deref.result.now (seen frame_of r)) (c.in-Ok.is ∙ ap Ok c.in-More.is) c.read_frame.ensures.found in
    let wants = subst (λ l. Wants SpellsFrame RefusedFrame l c.in-More.need) (c.deref.ensures.value ∙ left_is) front in
    heard_more c.args.side main fewer byte came read fits c.in-More.need c.args.words.now c.args.left.now.items wants heard left_is

pub returns-in-Err-clause-broken : goal.returns-in-Err-clause-broken
returns-in-Err-clause-broken c main fewer byte came read heard left_is fits fails =
    let front = subst (λ r. Front SpellsFrame RefusedFrame c.deref.result.now (seen frame_of r)) c.in-Err.is c.read_frame.ensures.found in
    fault_breaks c.args.side main fewer byte came read fits c.in-Err.field-0 (subst (λ l. RefusedFrame l c.in-Err.field-0) (c.deref.ensures.value ∙ left_is) front)
