use Rattle.std.proofs.Common.{◌%◌, ◌/◌, eqb, length, ap, ◌∙◌, arith}
use Rattle.std.specs.Int.{bit_at}
use Rattle.std.proofs.lemmas.List.{get_or_read}
use Rattle.std.proofs.lemmas.Nat.Bits.{shr_and_one}
use Rattle.mt_windows.specs.BitsView.{is_set}
use Rattle.mt_windows.proofs.bits.Bits.has.Goals as goal

pub returns : goal.returns
returns c =
    let read = get_or_read c.self.inside.words.items (c.args.place / 64) c.index.result.now (omega (arith, c.requires, ap length c.self.view_is)) c.index.ensures 0 in
    ap (λ b. eqb b 1) (shr_and_one c.index.result.now (c.args.place % 64)) ∙ ap (λ w. eqb (bit_at w (c.args.place % 64)) 1) read ∙ ap (λ ws. is_set ws c.args.place) c.self.view_is
