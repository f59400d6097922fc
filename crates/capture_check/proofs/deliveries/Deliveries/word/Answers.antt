use Rattle.std.proofs.Common.{List, [], ◌∷◌, ◌++◌, OnOk, sym, subst}
use Rattle.capture_check.specs.declared.entry.Entry.{Entry}
use Rattle.capture_check.specs.declared.entry.Entry.TheVariants.{Word}
use Rattle.capture_check.specs.FlowsSoFar.{AreDeliveries}
use Rattle.capture_check.proofs.Delivering.{moved_to_reliable}
use Rattle.capture_check.proofs.deliveries.Deliveries.word.Goals as goal

pub returns-in-Reliable : goal.returns-in-Reliable
returns-in-Reliable c before are =
    subst (λ k. AreDeliveries (before ++ Word c.args.side k c.args.id ∷ []) c.args.self.now) (sym c.in-Reliable.is) (moved_to_reliable before c.args.side c.args.id c.args.self.now are)

pub returns-in-Lossy : goal.returns-in-Lossy
returns-in-Lossy c =
    subst (λ k. OnOk c.word_for_lossy.result ((before : List Entry) → AreDeliveries before c.args.self.now → AreDeliveries (before ++ Word c.args.side k c.args.id ∷ []) c.word_for_lossy.new.self)) (sym c.in-Lossy.is) c.word_for_lossy.ensures
