use Rattle.std.proofs.Common.{◌<◌, ◌≤◌, ◌||◌, length, get_or, refl, ap, ◌∙◌, arith}
use Rattle.dvc_pdus.specs.ListViews.{types_left}
use Rattle.capture_check.specs.Arrivals.{has}
use Rattle.capture_check.specs.WordsSoFar.{names_id}
use Rattle.capture_check.proofs.Telling.{on_ok_one}
use Rattle.capture_check.proofs.Speaking.{taken, none_taken}
use Rattle.capture_check.proofs.words.Words.take_channels.Goals as goal

pub returns-in-Some : goal.returns-in-Some
returns-in-Some c =
    let words = c.args.self.now in
    let found = c.in-Some.moves.now in
    let within : words.responses < length c.deref.result.now = (c.in-Some.ensures.lookup.3).0 in
    let few : words.responses < length words.requests.items = omega (arith, within, ap length c.deref.ensures.value) in
    on_ok_one c.add_moved.result (λ client said are.
    taken said words (types_left c.args.types) are _ found c.of.result refl c.saturating_add-self.ensures refl few
    (c.in-Some.ensures.lookup.1 ∙ ap (λ l. get_or l words.responses found) c.deref.ensures.value) c.of.ensures
    (λ id. client id ∙ ap (λ l. has words.client id || names_id c.of.result id l) c.deref-in-Some.ensures.value))
    c.add_moved.ensures

pub returns-in-None : goal.returns-in-None
returns-in-None c said are =
    let past : length c.deref.result.now ≤ c.args.self.now.responses = c.in-None.ensures.lookup.3 in
    none_taken said c.args.self.now (types_left c.args.types) are _ refl c.saturating_add-self.ensures refl refl (omega (arith, past, ap length c.deref.ensures.value))
