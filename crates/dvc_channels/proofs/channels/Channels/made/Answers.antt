use Rattle.std.proofs.Common.{◌≡◌, length, sym, ap, ◌∙◌, subst}
use Rattle.std.proofs.lemmas.List.{length-map}
use Rattle.dvc_channels.specs.Table.{Stands}
use Rattle.dvc_channels.proofs.channels.Channels.made.Goals as goal

pub returns : goal.returns
returns c t h =
    let m = c.self.inside in
    let s : Stands (record { channels = m.channels.entries; waiting = m.waiting }) t = subst (λ s. Stands s t) (sym c.self.view_is) h in
    c.len.ensures.len ∙ sym (length-map m.channels.entries (λ e. e.0)) ∙ ap length s.ids_are
