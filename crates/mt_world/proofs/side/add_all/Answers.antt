use Rattle.std.proofs.Common.{◌≡◌, ℕ, ◌+◌, ◌<◌, List, [], ◌∷◌, ◌++◌, length, take, get_or, sym, ap, ◌∙◌, subst, append_assoc, arith}
use Rattle.std.proofs.lemmas.List.{take_all, take_more}
use Rattle.play_report.specs.Tallying.{Counts}
use Rattle.mt_world.proofs.side.add_all.Goals as goal

-- the messages before a message, and that message
added : (before messages : List (List ℕ)) (message : List ℕ) (i : ℕ) → i < length messages → message ≡ get_or messages i message
    → (before ++ take i messages) ++ message ∷ [] ≡ before ++ take (i + 1) messages
added before messages message i within is =
    append_assoc before (take i messages) (message ∷ [])
    ∙ ap (λ x. before ++ x) (ap (λ x. take i messages ++ x ∷ []) is ∙ sym (take_more messages i message within))

pub loop-message-preserved : goal.loop-message-preserved
loop-message-preserved c before counts =
    let i = c.loop-message.message-index in
    let within : i < length c.args.messages.now = omega arith in
    let now = c.add.ensures _ (c.loop-message.invariant before counts) in
    subst (Counts c.add.new.self) (ap (λ x. (before ++ take i c.args.messages.now) ++ x ∷ []) c.bytes.ensures ∙ added before c.args.messages.now c.message-item.result i within c.message-item.is) now

pub returns : goal.returns
returns c before counts =
    let i = c.loop-message.message-index in
    let whole : take i c.args.messages.now ≡ c.args.messages.now = take_all i c.args.messages.now (omega arith) in
    subst (λ x. Counts c.loop-message.tally (before ++ x)) whole (c.loop-message.invariant before counts)
