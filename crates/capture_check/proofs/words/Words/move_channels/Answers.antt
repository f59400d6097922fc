use Rattle.std.proofs.Common.{◌||◌, true, refl, ap, ◌∙◌}
use Rattle.dvc_pdus.specs.ListViews.{lists_left}
use Rattle.capture_check.specs.Arrivals.{has}
use Rattle.capture_check.specs.Sayings.{moves_in}
use Rattle.capture_check.specs.WordsSoFar.{names_id}
use Rattle.capture_check.proofs.Speaking.{moved, on_pushed, pushed}
use Rattle.capture_check.proofs.words.Words.move_channels.Goals as goal

pub returns : goal.returns
returns c =
    let words = c.args.self.now in
    let moves = moves_in (lists_left c.args.lists) in
    on_pushed c.map_err.result c.push.result c.map_err.ensures.variant (λ ok said are.
    moved said words _ moves (pushed c.push.result words.requests.items c.push.new.self.items c.in_ok-moves.moves moves ok c.push.ensures.items c.in_ok-moves.ensures) refl
    (λ id. c.in_ok-add_moved.ensures id ∙ ap (λ l. has words.server id || names_id (record { reliable = true; lossy = true }) id l) (c.deref.ensures.value ∙ c.in_ok-moves.ensures)) refl are)
