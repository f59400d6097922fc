use Rattle.std.proofs.Common.{nat_eq, take, get_or, sym, ◌∙◌}
use Rattle.std.proofs.lemmas.Option.{slice_get-get_or}
use Rattle.soft_sync.proofs.Finding.{repeated_at, unrepeated_more, any_left, any_right, any_neither, any_flipped}
use Rattle.soft_sync.proofs.paths.first_repeated.Goals as goal

pub returns-then-contains : goal.returns-then-contains
returns-then-contains c =
    let i = c.loop-index.index in
    let id = get_or c.args.ids.now i 0 in
    let is = slice_get-get_or c.args.ids.now i 0 c.loop-index-test.true in
    let any = sym (any_flipped id c.args.seen.now) ∙ sym c.contains.ensures.value ∙ c.if-contains.true in
    sym (repeated_at c.args.seen.now c.args.ids.now i id is c.loop-index.invariant (any_left (nat_eq id) c.args.seen.now (take i c.args.ids.now) any))

pub returns-then-contains-2 : goal.returns-then-contains-2
returns-then-contains-2 c =
    let i = c.loop-index.index in
    let id = get_or c.args.ids.now i 0 in
    let is = slice_get-get_or c.args.ids.now i 0 c.loop-index-test.true in
    let none = sym (any_flipped id c.args.seen.now) ∙ sym c.contains.ensures.value ∙ c.if-contains.false in
    let any = sym (any_flipped id (take i c.args.ids.now)) ∙ sym c.contains-in-loop-index.ensures.value ∙ c.if-contains-2.true in
    sym (repeated_at c.args.seen.now c.args.ids.now i id is c.loop-index.invariant (any_right (nat_eq id) c.args.seen.now (take i c.args.ids.now) none any))

pub loop-index-preserved : goal.loop-index-preserved
loop-index-preserved c =
    let i = c.loop-index.index in
    let id = get_or c.args.ids.now i 0 in
    let is = slice_get-get_or c.args.ids.now i 0 c.loop-index-test.true in
    let none = sym (any_flipped id c.args.seen.now) ∙ sym c.contains.ensures.value ∙ c.if-contains.false in
    let any = sym (any_flipped id (take i c.args.ids.now)) ∙ sym c.contains-in-loop-index.ensures.value ∙ c.if-contains-2.false in
    unrepeated_more c.args.seen.now c.args.ids.now i id is c.loop-index.invariant (any_neither (nat_eq id) c.args.seen.now (take i c.args.ids.now) none any)
