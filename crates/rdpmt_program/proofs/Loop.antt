-- One line in the loop over the lines of a script.
use Rattle.std.proofs.Common.{◌≡◌, ℕ, suc, ◌+◌, ◌<◌, List, ◌∷◌, length, drop, get_or, add-one, Result, Ok, Err, sym, ap, subst, ◌∙◌}
use Rattle.std.proofs.Math.Seq.{drop-cons}
use Rattle.mt_base.specs.declared.kinds.Role.{Role}
use Rattle.mt_base.specs.Trace.{Trace}
use Rattle.mt_script.specs.declared.event.Line.{Line}
use Rattle.mt_world.specs.declared.refusal.StepRefusal.{StepRefusal}
use Rattle.mt_world.specs.declared.refusal.StepRefusal.TheVariants.{UnknownChannel, Refused, NoMemory}
use Rattle.mt_world.specs.declared.world.World.{World}
use Rattle.mt_world.specs.Acts.{Entry}
use Rattle.mt_world.specs.Play.{start, play, played, Ending, RefusedAt}
use Rattle.mt_world.specs.WorldView.{Stands, Steps}
use Rattle.rdpmt_program.specs.declared.playing.Stop.{Stop}
use Rattle.rdpmt_program.specs.Fate.{stop_of, Plays}

-- what a play goes on with after a line
goes_on : Trace (Role × Entry) → Line → List Line → Result (Trace (Role × Entry)) StepRefusal → Trace (Role × Entry) × Ending
goes_on w line rest r = elim r [ Ok v ↦ play v rest | Err cause ↦ (w, RefusedAt line.number cause) ]

-- a line that was taken
pub taken : (new : World) (w : Trace (Role × Entry)) (line : Line) (left rest all : List Line) (done : Unit {0}) → left ≡ line ∷ rest → play w left ≡ play start all
    → Steps (Ok done) new w (played w line.event) → (v : Trace (Role × Entry)) × Stands new v × (play v rest ≡ play start all)
unfolding goes_on
taken new w line left rest all done is before s =
    (s.0, s.2, sym (ap (goes_on w line rest) s.1) ∙ sym (ap (play w) is) ∙ before)

-- a line that was refused
ends : (w : Trace (Role × Entry)) (line : Line) (left rest all : List Line) (cause : StepRefusal) → left ≡ line ∷ rest → play w left ≡ play start all
    → played w line.event ≡ Err cause → (v : Trace (Role × Entry)) × (play start all ≡ (v, RefusedAt line.number cause))
unfolding goes_on
ends w line left rest all cause is before s =
    (w, sym before ∙ ap (play w) is ∙ ap (goes_on w line rest) s)

pub refused : (new : World) (w : Trace (Role × Entry)) (line : Line) (left rest all : List Line) (refusal : StepRefusal) (how : Stop) → left ≡ line ∷ rest → play w left ≡ play start all
    → how ≡ stop_of refusal line.number → Steps (Err refusal) new w (played w line.event) → Plays (Err how) (play start all)
refused new w line left rest all NoMemory how is before stops s =
    let P : Stop → Type 0 = λ x. Plays (Err x) (play start all) in
    subst P (sym stops) tt
refused new w line left rest all UnknownChannel how is before stops s =
    let P : Stop → Type 0 = λ x. Plays (Err x) (play start all) in
    subst P (sym stops) (ends w line left rest all UnknownChannel is before s.0)
refused new w line left rest all (Refused why) how is before stops s =
    let P : Stop → Type 0 = λ x. Plays (Err x) (play start all) in
    subst P (sym stops) (ends w line left rest all (Refused why) is before s.0)

-- the lines that are left begin with the next one
pub first : (lines : List Line) (i : ℕ) (line : Line) → i < length lines → line ≡ get_or lines i line → drop i lines ≡ line ∷ drop (i + 1) lines
first lines i line within is =
    drop-cons lines i line within ∙ ap (λ x. x ∷ drop (suc i) lines) (sym is) ∙ ap (λ n. line ∷ drop n lines) (sym (add-one i))
