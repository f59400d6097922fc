use Rattle.std.proofs.Common.{◌/◌, ◌&&◌, not, eqb, length, ap, ◌∙◌, arith}
use Rattle.std.proofs.lemmas.List.{get_or_read}
use Rattle.mt_windows.specs.BitsView.{is_set}
use Rattle.mt_windows.proofs.Words.{clear_at}
use Rattle.mt_windows.proofs.bits.Bits.clear.Goals as goal

pub returns-clause-bits : goal.returns-clause-bits
returns-clause-bits c k =
    let ws = c.self.inside.words.items in
    let read = get_or_read ws (c.args.place / 64) c.index_mut.result.now (omega (arith, c.requires, ap length c.self.view_is)) c.index_mut.ensures.value 0 in
    clear_at ws c.args.place c.index_mut.result.now (omega (arith, c.requires, ap length c.self.view_is)) read k ∙ ap (λ vs. not (eqb k c.args.place) && is_set vs k) c.self.view_is
