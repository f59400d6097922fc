use Rattle.std.proofs.Common.{◌≡◌, ℕ, ◌++◌, List, length, drop, refl, sym, ap, ◌∙◌}
use Rattle.std.proofs.Math.Seq.{drop-append_seam}
use Rattle.mt_base.specs.declared.kinds.Role.{Role}
use Rattle.mt_base.specs.declared.kinds.Role.TheVariants.{Server, Client}
use Rattle.mt_base.specs.Ends.{other}
use Rattle.mt_base.specs.Prefix.{IsPrefixOf}
use Rattle.mt_base.specs.Trace.{Trace, Start, ◌▷◌}
use Rattle.end_calls.specs.Calls.{Entry}
use Rattle.end_calls.specs.Net.{main_in, main_out}
use Rattle.end_wires.specs.MainStreams.{MainInOrder, under_way}
use Rattle.end_wires.proofs.laws.what_is_under_way.Goals as goal

rest_of : (taken given : List ℕ) → IsPrefixOf taken given → given ≡ taken ++ drop (length taken) given
rest_of taken given (rest, is) = is ∙ ap (λ xs. taken ++ xs) (sym (ap (drop (length taken)) is ∙ drop-append_seam taken rest))

split : (w : Trace (Role × Entry)) (role : Role) → MainInOrder w → main_out role w ≡ main_in (other role) w ++ under_way role w
split Start Server h = refl
split Start Client h = refl
split (w ▷ call) Server h = rest_of (main_in Client (w ▷ call)) (main_out Server (w ▷ call)) (h.0 Client)
split (w ▷ call) Client h = rest_of (main_in Server (w ▷ call)) (main_out Client (w ▷ call)) (h.0 Server)

pub returns : goal.returns
returns c w role h = split w role h
