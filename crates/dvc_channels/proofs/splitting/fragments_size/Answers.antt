use Rattle.std.proofs.Common.{◌≡◌, ◌+◌, ◌*◌, length, sym, ap, ap₂, ◌∙◌, arith}
use Rattle.dvc_pdus.specs.Value.{smallest}
use Rattle.dvc_channels.specs.Fragments.{fragments_of}
use Rattle.dvc_channels.proofs.Sending.{bytes_of_one, bytes_of_many}
use Rattle.dvc_channels.proofs.splitting.fragments_size.Goals as goal

pub returns-then-total-room : goal.returns-then-total-room
returns-then-total-room c message is =
    ap₂ (λ f s. f * (1 + s) + c.args.total) (c.fragments.ensures message is) c.size.ensures
    ∙ ap (λ n. length (fragments_of c.args.id message) * (1 + length (smallest c.args.id)) + n) (sym is)
    ∙ sym (bytes_of_one c.args.id message (omega (arith, is, c.if-total-room.true, c.room.ensures)))

pub returns : goal.returns
returns c message is =
    ap₂ (λ f s. f * (1 + s) + c.size-2.result + c.args.total) (c.fragments.ensures message is) c.size.ensures
    ∙ ap₂ (λ z n. length (fragments_of c.args.id message) * (1 + length (smallest c.args.id)) + z + n)
    (c.size-2.ensures ∙ ap (λ n. length (smallest n)) (sym is)) (sym is)
    ∙ sym (bytes_of_many c.args.id message (omega (arith, is, c.if-total-room.false, c.room.ensures)))
