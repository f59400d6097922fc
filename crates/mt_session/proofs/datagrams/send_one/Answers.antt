use Rattle.std.proofs.Common.{◌≡◌, ℕ, Bool, true, false, take, Some, None, Ok, refl, sym, subst}
use Rattle.std.specs.Option.{option_map}
use Rattle.mt_base.specs.Trace.{Trace, ◌▷◌}
use Rattle.mt_base.specs.declared.kinds.Kind.TheVariants.{Reliable}
use Rattle.mt_base.specs.declared.kinds.Role.{Role}
use Rattle.end_calls.specs.Calls.{Entry}
use Rattle.mt_session.specs.Steps.{Step, Leaves, Loses, Rests, Skips, Poll, wired_out, entries}
use Rattle.mt_session.specs.Turns.{Sending, stage, is_linked}
use Rattle.mt_session.specs.Live.{Seen, First, Live}
use Rattle.mt_session.specs.Leading.{LeadsTo, Sends}
use Rattle.mt_session.proofs.Stepping.{on_leaves, on_loses, on_rests, on_skips}
use Rattle.mt_session.proofs.datagrams.send_one.Goals as goal

-- a datagram comes where the link is there alone
linked : (count : ℕ) (b : Bool) → (b ≡ false → Some count ≡ None) → b ≡ true
linked count true absent = refl
linked count false absent = absurd (let e : Some count ≡ None = absent refl in cc)

-- none came: the link had none, or there is no link
none_came : {es later : Role → Trace Entry → Type 0} (seen : Seen) (first : First) (s : Trace Step) (b : Bool) → is_linked first.role (entries s) ≡ b → Live es seen first s → stage s ≡ Sending → (is_linked first.role (entries s) ≡ true → (poll : Poll) × later first.role (entries s ▷ wired_out Reliable seen.now None poll)) → (is_linked first.role (entries s) ≡ false → later first.role (entries s)) → LeadsTo later seen first (Sends (Ok false) s)
none_came seen first s true e h at polls stays =
    let r = polls e in
    (s ▷ Rests r.0, on_rests seen first s r.0 h at e r.1, (refl, record { heard = refl; turn = refl }))
none_came seen first s false e h at polls stays =
    (s ▷ Skips, on_skips seen first s h at e (stays e), (refl, record { heard = refl; turn = refl }))

pub returns-in_default-clause-steps : goal.returns-in_default-clause-steps
returns-in_default-clause-steps g c = λ first seen s h at.
    none_came (record seen { wire = g.W.Wire.told c.args.wire.now; now = c.args.now }) first s (is_linked first.role (entries s)) refl h at
    (λ linked. subst (λ o. (poll : Poll) × g.E.End.stands c.wire_out.new.self first.role (entries s ▷ wired_out Reliable c.args.now (option_map (λ n. take n c.wire_out.new.out) o) poll)) c.in_default.is (c.wire_out.ensures.adds first.role (entries s) h.end linked))
    (λ unlinked. subst (λ e. g.E.End.stands e first.role (entries s)) (sym (c.wire_out.ensures.none first.role (entries s) h.end unlinked).1) h.end)

pub returns-in-Ok-clause-steps : goal.returns-in-Ok-clause-steps
returns-in-Ok-clause-steps g c = λ first seen s h at.
    let d = take c.in-Some.count c.wire_out.new.out in
    let there = linked c.in-Some.count (is_linked first.role (entries s)) (λ absent. (c.in-Some.ensures.none first.role (entries s) h.end absent).0) in
    let polled = c.in-Some.ensures.adds first.role (entries s) h.end there in
    (s ▷ Leaves d polled.0, on_leaves (record seen { wire = g.W.Wire.told c.args.wire.now; now = c.args.now }) first s d polled.0 _ h at there c.in-Ok.ensures.tells polled.1, (refl, refl, record { heard = refl; turn = refl }))

pub returns-in-Err-clause-steps : goal.returns-in-Err-clause-steps
returns-in-Err-clause-steps g c = λ first seen s h at.
    let d = take c.in-Some.count c.wire_out.new.out in
    let there = linked c.in-Some.count (is_linked first.role (entries s)) (λ absent. (c.in-Some.ensures.none first.role (entries s) h.end absent).0) in
    let polled = c.in-Some.ensures.adds first.role (entries s) h.end there in
    (s ▷ Loses d polled.0, on_loses (record seen { wire = g.W.Wire.told c.args.wire.now; now = c.args.now }) first s d polled.0 _ h at there c.in-Err.ensures.same polled.1, record { heard = refl; turn = refl })
