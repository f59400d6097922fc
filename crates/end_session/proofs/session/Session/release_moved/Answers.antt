use Rattle.std.proofs.Common.{◌+◌, drop, true, false, sym, subst, ◌∙◌, arith}
use Rattle.mt_endpoint.specs.Growing.{among, release_all}
use Rattle.end_session.specs.Coming.{Ended}
use Rattle.end_session.specs.Standing.{Stands}
use Rattle.end_session.specs.contracts.session.Session.{the_view}
use Rattle.end_session.proofs.OnWay.{IsOnWay, at_place, begin, behind_all, done, fails, main_room, of_request, onward, passed_on, past_all, reliable_room, still_made, word_next, wrote_last}
use Rattle.end_session.proofs.session.Session.release_moved.Goals.{then-has+in_ok-release, else-has}
use Rattle.end_session.proofs.session.Session.release_moved.Goals as goal

pub loop-place-init : goal.loop-place-init
loop-place-init c = begin c.args.self.now (among c.args.kinds (of_request c.args.request c.args.self.now)) c.requires.whole c.requires.words c.requires.room

pub made_channel-requires : goal.made_channel-requires
made_channel-requires c =
    let s = c.args.self.now in
    let w = c.self.invariant in
    let st = subst (λ s. Stands s w.0.0 w.0.1) c.self.view_is w.0.2 in
    still_made s c.loop-place.self (the_view c.self-in-loop-place.inside) c.args.request (among c.args.kinds (of_request c.args.request s)) (among c.args.kinds (drop c.loop-place.place (of_request c.args.request s))) c.loop-place.invariant c.self-in-loop-place.view_is
    (w.0.0, w.0.1, st) c.requires.made

pub returns-in_default-clause-came : goal.returns-in_default-clause-came
returns-in_default-clause-came c t gone st =
    let s = c.args.self.now in
    let kinds = c.args.kinds in
    done s c.loop-place.self (among kinds (of_request c.args.request s))
    (past_all s c.loop-place.self (the_view c.self-in-loop-place.inside) c.args.request c.loop-place.place kinds c.made_channel.result c.loop-place.invariant c.self-in-loop-place.view_is (t, gone, st) c.made_channel.ensures c.in_default.is) t gone st

pub release-requires-clause-word : goal.release-requires-clause-word
release-requires-clause-word c =
    let s = c.args.self.now in
    let w = c.self.invariant in
    let st = subst (λ s. Stands s w.0.0 w.0.1) c.self.view_is w.0.2 in
    word_next s c.loop-place.self (among c.args.kinds (of_request c.args.request s)) _ c.in-Some.id c.in-Some.kind
    (at_place s c.loop-place.self (the_view c.self-in-loop-place.inside) c.args.request c.loop-place.place c.in-Some.id c.in-Some.kind c.args.kinds true c.made_channel.result c.loop-place.invariant c.self-in-loop-place.view_is (w.0.0, w.0.1, st) c.made_channel.ensures c.in-Some.is
    (sym c.has.ensures ∙ c.if-has.true))

pub release-requires-clause-room : goal.release-requires-clause-room
release-requires-clause-room c =
    let s = c.args.self.now in
    let w = c.self.invariant in
    let st = subst (λ s. Stands s w.0.0 w.0.1) c.self.view_is w.0.2 in
    main_room s c.loop-place.self (among c.args.kinds (of_request c.args.request s)) _ c.in-Some.id c.in-Some.kind
    (at_place s c.loop-place.self (the_view c.self-in-loop-place.inside) c.args.request c.loop-place.place c.in-Some.id c.in-Some.kind c.args.kinds true c.made_channel.result c.loop-place.invariant c.self-in-loop-place.view_is (w.0.0, w.0.1, st) c.made_channel.ensures c.in-Some.is
    (sym c.has.ensures ∙ c.if-has.true))

pub release-requires-clause-waits : goal.release-requires-clause-waits
release-requires-clause-waits c =
    let s = c.args.self.now in
    let w = c.self.invariant in
    let st = subst (λ s. Stands s w.0.0 w.0.1) c.self.view_is w.0.2 in
    reliable_room s c.loop-place.self (among c.args.kinds (of_request c.args.request s)) _ c.in-Some.id c.in-Some.kind
    (at_place s c.loop-place.self (the_view c.self-in-loop-place.inside) c.args.request c.loop-place.place c.in-Some.id c.in-Some.kind c.args.kinds true c.made_channel.result c.loop-place.invariant c.self-in-loop-place.view_is (w.0.0, w.0.1, st) c.made_channel.ensures c.in-Some.is
    (sym c.has.ensures ∙ c.if-has.true))

pub returns-in_err-release-clause-ended : goal.returns-in_err-release-clause-ended
returns-in_err-release-clause-ended c t gone st =
    let s = c.args.self.now in
    let all = among c.args.kinds (of_request c.args.request s) in
    passed_on (λ untaken. Ended t (release_all s.role all t) gone c.release.new.self untaken) c.from_residual.result c.in_err-release.field-0.0 c.from_residual.ensures.1
    (fails s c.loop-place.self c.release.new.self all _ c.in-Some.id c.in-Some.kind c.in_err-release.field-0.0
    (at_place s c.loop-place.self (the_view c.self-in-loop-place.inside) c.args.request c.loop-place.place c.in-Some.id c.in-Some.kind c.args.kinds true c.made_channel.result c.loop-place.invariant c.self-in-loop-place.view_is (t, gone, st)
    c.made_channel.ensures c.in-Some.is (sym c.has.ensures ∙ c.if-has.true)) c.in_err-release.ensures.ended t gone st)

pub returns-in_err-release-clause-written : goal.returns-in_err-release-clause-written
returns-in_err-release-clause-written c =
    let s = c.args.self.now in
    let v = c.self.invariant in
    let sw = subst (λ s. Stands s v.0.0 v.0.1) c.self.view_is v.0.2 in
    let e = c.release.ensures in
    wrote_last s c.loop-place.self c.release.new.self (among c.args.kinds (of_request c.args.request s)) _ c.in-Some.id c.in-Some.kind
    (at_place s c.loop-place.self (the_view c.self-in-loop-place.inside) c.args.request c.loop-place.place c.in-Some.id c.in-Some.kind c.args.kinds true c.made_channel.result c.loop-place.invariant c.self-in-loop-place.view_is (v.0.0, v.0.1, sw)
    c.made_channel.ensures c.in-Some.is (sym c.has.ensures ∙ c.if-has.true))
    (record { main_is = e.written.0; reliable_is = e.written.1; lossy_is = e.lossy; words_are = e.paths; role_is = e.same.0; broken_is = e.same.1; owed_is = e.owed })

pub loop-place-preserved : goal.loop-place-preserved
loop-place-preserved c =
    let s = c.args.self.now in
    let v = c.self.invariant in
    let sw = subst (λ s. Stands s v.0.0 v.0.1) c.self.view_is v.0.2 in
    let all = among c.args.kinds (of_request c.args.request s) in
    let rest = among c.args.kinds (drop (c.loop-place.place + 1) (of_request c.args.request s)) in
    elim c.if-has.branch [
      | then-has+in_ok-release w ↦ let e = w.release.ensures in
          subst (λ now. IsOnWay s now all rest) (sym w.self-is)
          (onward s c.loop-place.self w.release.new.self all rest c.in-Some.id c.in-Some.kind
          (at_place s c.loop-place.self (the_view c.self-in-loop-place.inside) c.args.request c.loop-place.place c.in-Some.id c.in-Some.kind c.args.kinds true c.made_channel.result c.loop-place.invariant c.self-in-loop-place.view_is
          (v.0.0, v.0.1, sw) c.made_channel.ensures c.in-Some.is (sym c.has.ensures ∙ w.if-has.true))
          (record { main_is = e.written.0; reliable_is = e.written.1; lossy_is = e.lossy; words_are = e.paths; role_is = e.same.0; broken_is = e.same.1; owed_is = e.owed }) w.in_ok-release.ensures.came)
      | else-has w ↦ subst (λ now. IsOnWay s now all rest) (sym w.self-is)
          (at_place s c.loop-place.self (the_view c.self-in-loop-place.inside) c.args.request c.loop-place.place c.in-Some.id c.in-Some.kind c.args.kinds false c.made_channel.result c.loop-place.invariant c.self-in-loop-place.view_is
          (v.0.0, v.0.1, sw) c.made_channel.ensures c.in-Some.is (sym c.has.ensures ∙ w.if-has.false))
    ]

pub returns-clause-came : goal.returns-clause-came
returns-clause-came c t gone st =
    let s = c.args.self.now in
    done s c.loop-place.self (among c.args.kinds (of_request c.args.request s)) (behind_all s c.loop-place.self c.args.request c.loop-place.place c.args.kinds c.loop-place.invariant (omega (arith, c.requires.few, c.loop-place-test.false))) t gone st
