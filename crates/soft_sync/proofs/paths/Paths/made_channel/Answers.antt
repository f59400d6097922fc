use Rattle.std.proofs.Common.{◌<◌, length, slice_get, sym, ap, ◌∙◌, subst}
use Rattle.soft_sync.specs.Exchanges.{channels_at}
use Rattle.soft_sync.specs.Words.{Words}
use Rattle.soft_sync.proofs.Places.{channels_in}
use Rattle.soft_sync.proofs.paths.Paths.made_channel.Goals as goal

pub returns : goal.returns
returns c =
    let made = ap (λ (w : Words). w.made) c.self.view_is in
    let within = subst (λ xs. c.args.request < length xs) (sym made) c.requires in
    c.channel.ensures
    ∙ ap (λ xs. slice_get xs c.args.place) (sym (channels_in c.args.request c.self.inside.made.rows.items c.self.inside.made.listings.entries within))
    ∙ ap (λ xs. slice_get (channels_at c.args.request xs) c.args.place) made
