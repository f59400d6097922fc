use Rattle.std.proofs.Common.{◌∷◌, [], ◌++◌, ap, sym, subst, ◌∙◌, Some}
use Rattle.capture_check.specs.declared.entry.Entry.TheVariants.{Out}
use Rattle.capture_check.specs.Layouts.{Answers}
use Rattle.capture_check.specs.LayoutsSoFar.{AreAgreed}
use Rattle.capture_check.proofs.Openings.{no_datagram, no_answer, on_reliable, on_lossy}
use Rattle.capture_check.proofs.agreed.AgreedLayouts.note.Goals as goal

pub returns-in-Reliable : goal.returns-in-Reliable
returns-in-Reliable c before are =
    let answers = subst (λ d. Answers d c.in-Some.layout) c.bytes.ensures c.in-Some.ensures.found in
    let is = c.in-Out.is ∙ ap (λ k. Out c.in-Out.side k c.in-Out.number c.in-Out.datagram) c.in-Reliable.is in
    subst (λ e. AreAgreed (record { reliable = Some c.in-Some.layout; lossy = c.args.self.now.lossy }) (before ++ e ∷ [])) (sym is)
    (on_reliable c.args.self.now before c.in-Out.side c.in-Out.number c.in-Out.datagram c.in-Some.layout answers are)

pub returns-in-Lossy : goal.returns-in-Lossy
returns-in-Lossy c before are =
    let answers = subst (λ d. Answers d c.in-Some.layout) c.bytes.ensures c.in-Some.ensures.found in
    let is = c.in-Out.is ∙ ap (λ k. Out c.in-Out.side k c.in-Out.number c.in-Out.datagram) c.in-Lossy.is in
    subst (λ e. AreAgreed (record { reliable = c.args.self.now.reliable; lossy = Some c.in-Some.layout }) (before ++ e ∷ [])) (sym is)
    (on_lossy c.args.self.now before c.in-Out.side c.in-Out.number c.in-Out.datagram c.in-Some.layout answers are)

pub returns-in_default-answered : goal.returns-in_default-answered
returns-in_default-answered c before are =
    subst (λ e. AreAgreed c.args.self.now (before ++ e ∷ [])) (sym c.in-Out.is)
    (no_answer c.args.self.now before c.in-Out.side c.in-Out.kind c.in-Out.number c.in-Out.datagram
    (λ layout answers. c.in_default-answered.ensures.none layout (subst (λ d. Answers d layout) (sym c.bytes.ensures) answers)) are)

pub returns-in_default : goal.returns-in_default
returns-in_default c before are = no_datagram c.args.self.now before c.args.entry.now (λ side kind number datagram is. c.in_default.not-Out side kind number datagram is) are
