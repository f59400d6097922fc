-- What a tunnel that falls silent, and the answers that wait for it, leave as it was.
use Rattle.std.proofs.Common.{◌≡◌, ℕ, ◌+◌, ◌*◌, ◌≤◌, Bool, true, false, cond, List, [], ◌∷◌, ◌++◌, length, length-append, append-nil, Option, Some, None, is_some, refl, ap, ◌∙◌, arith}
use Rattle.std.specs.Option.{option_or}
use Rattle.std.specs.List.{flat_map}
use Rattle.std.proofs.lemmas.Grind.{flat_map-append}
use Rattle.mt_base.specs.declared.kinds.Kind.{Kind}
use Rattle.mt_base.specs.declared.kinds.Role.{Role}
use Rattle.mt_base.specs.declared.kinds.Role.TheVariants.{Server, Client}
use Rattle.mt_base.specs.Trace.{Trace, ◌▷◌}
use Rattle.dvc_pdus.specs.Value.{SyncResponse}
use Rattle.soft_sync.specs.declared.kinds.Kinds.{Kinds}
use Rattle.soft_sync.specs.Exchanges.{Request}
use Rattle.mt_endpoint.specs.Acts.{Act, Answers, Silences, Spoken}
use Rattle.mt_endpoint.specs.Growing.{answer_all, answered}
use Rattle.mt_endpoint.specs.Holding.{held}
use Rattle.mt_endpoint.specs.Moving.{answer_to, may_answer, read, unanswered_in}
use Rattle.mt_endpoint.specs.Tunnels.{is_attached, is_silent, silence, silence_in}
use Rattle.mt_endpoint.specs.World.{draws}
use Rattle.mt_endpoint.specs.Writing.{adds, carried, framed, main_bytes, on_main, spoken, types_of}
use Rattle.end_calls.specs.declared.fault.Fault.{Fault}
use Rattle.end_calls.specs.Stops.{answers_owed}
use Rattle.end_session.proofs.AllAnswered.{rest_read}
use Rattle.endpoint.specs.Answering.{answered_by}
use Rattle.endpoint.specs.Standing.{refusals_owed}
use Rattle.endpoint.proofs.Links.{attached_same}
use Rattle.endpoint.proofs.Rooms.{answers_same, refusals_less}

-- From the acts t an end came to u: what is written on the main stream is no more than was owed, and nothing is
-- held, pulled or attached. A tunnel that is silent stays so.
pub record Stays (role : Role) (t u : Trace Act) : Type 0 where
  pub main : length (main_bytes role u) + answers_owed u ≤ length (main_bytes role t) + answers_owed t
  pub refusals : refusals_owed role u ≤ refusals_owed role t
  pub held_are : (kind : Kind) → held role kind u ≡ held role kind t
  pub attached_is : (kind : Kind) → is_attached kind u ≡ is_attached kind t
  pub draws_are : (kind : Kind) → draws kind u ≡ draws kind t
  pub silent : (kind : Kind) → is_silent kind t ≡ true → is_silent kind u ≡ true

pub stays_here : (role : Role) (t : Trace Act) → Stays role t t
stays_here role t = record {
  main = omega arith;
  refusals = omega arith;
  held_are = λ kind. refl;
  attached_is = λ kind. refl;
  draws_are = λ kind. refl;
  silent = λ kind h. h;
}

pub stays_on : (role : Role) (t u v : Trace Act) → Stays role t u → Stays role u v → Stays role t v
stays_on role t u v a b = record {
  main = omega (arith, a.main, b.main);
  refusals = omega (arith, a.refusals, b.refusals);
  held_are = λ kind. b.held_are kind ∙ a.held_are kind;
  attached_is = λ kind. b.attached_is kind ∙ a.attached_is kind;
  draws_are = λ kind. b.draws_are kind ∙ a.draws_are kind;
  silent = λ kind h. b.silent kind (a.silent kind h);
}

pub some_or : (told more : Option ℕ) → is_some told ≡ true → is_some (option_or told more) ≡ true
some_or None more h = absurd (let no : false ≡ true = h in cc)
some_or (Some n) more h = refl

pub main_after : (role : Role) (t : Trace Act) (act : Act) → main_bytes role (t ▷ act) ≡ main_bytes role t ++ flat_map framed (on_main (adds role t act))
main_after role t act = flat_map-append framed (spoken role t) (on_main (adds role t act))

pub stays_silence : (role : Role) (t : Trace Act) (kind : Kind) (expiries : ℕ) → Stays role t (t ▷ Silences kind expiries)
stays_silence role t kind expiries = let act = Silences kind expiries in record {
  main = omega (arith, ap length (main_after role t act ∙ append-nil (main_bytes role t)), answers_same t act refl refl);
  refusals = refusals_less role t act;
  held_are = λ made. refl;
  attached_is = λ made. attached_same made t act refl;
  draws_are = λ made. append-nil (draws made t);
  silent = λ made h. some_or (silence made t) (silence_in made act) h;
}

kinds_short : (reliable lossy : Bool) → length (framed (Spoken (SyncResponse (types_of (record { reliable = reliable; lossy = lossy })))) ++ []) ≤ 17
kinds_short true true = omega arith
kinds_short true false = omega arith
kinds_short false true = omega arith
kinds_short false false = omega arith

answer_short : (named : Kinds) → length (framed (Spoken (SyncResponse (types_of named))) ++ []) ≤ 17
answer_short named = kinds_short named.reliable named.lossy

stays_answer : (t : Trace Act) (named : Kinds) (request : Request) (rest : List Request) → unanswered_in (read t) ≡ request ∷ rest → Stays Client t (t ▷ Answers named)
stays_answer t named request rest oldest = let act = Answers named in record {
  main =
      omega (
        arith,
        ap length (main_after Client t act),
        length-append (main_bytes Client t) (framed (Spoken (SyncResponse (types_of named))) ++ []),
        answer_short named,
        ap (λ (xs : List Request). 17 * length xs) (rest_read t named request rest oldest),
        ap (λ (xs : List Request). 17 * length xs) oldest,
      );
  refusals = refusals_less Client t act;
  held_are = λ made. refl;
  attached_is = λ made. attached_same made t act refl;
  draws_are = λ made. append-nil (draws made t);
  silent = λ made h. some_or (silence made t) (silence_in made act) h;
}

stays_all : (requests : List Request) (t : Trace Act) → unanswered_in (read t) ≡ requests → Stays Client t (answer_all Client requests t)
stays_all [] t e = stays_here Client t
stays_all (request ∷ requests) t e =
    let named = answer_to Client t request.named in
    let on = t ▷ Answers named in
    by_test (may_answer Client t request.named) (stays_on Client t on (answer_all Client requests on) (stays_answer t named request requests e) (stays_all requests on (rest_read t named request requests e))) where
      by_test : (b : Bool) → Stays Client t (answer_all Client requests (t ▷ Answers (answer_to Client t request.named))) → Stays Client t (cond b (answer_all Client requests (t ▷ Answers (answer_to Client t request.named))) t)
      by_test true deeper = deeper
      by_test false deeper = stays_here Client t

pub stays_answered : (role : Role) (t : Trace Act) → Stays role t (answered role t)
stays_answered Server t = stays_here Server t
stays_answered Client t = stays_all (unanswered_in (read t)) t refl

pub stays_by : (role : Role) (broken : Option Fault) (t : Trace Act) → Stays role t (answered_by role broken t)
stays_by role None t = stays_answered role t
stays_by role (Some fault) t = stays_here role t

pub answered_whole : (role : Role) (broken now : Option Fault) (t : Trace Act) → now ≡ broken → false ≡ is_some now → Client ≡ role → answered Client t ≡ answered_by role broken t
answered_whole Client None None t same whole is = refl
answered_whole Server broken now t same whole is = absurd (let no : Client ≡ Server = is in cc)
answered_whole Client (Some fault) None t same whole is = absurd (let no : None ≡ Some fault = same in cc)
answered_whole Client broken (Some fault) t same whole is = absurd (let no : false ≡ true = whole in cc)

-- ---- nothing is written for a link

pub unwritten_silence : (role : Role) (t : Trace Act) (kind made : Kind) (expiries : ℕ) → carried kind role (t ▷ Silences made expiries) ≡ carried kind role t
unwritten_silence role t kind made expiries = append-nil (carried kind role t)

unwritten_all : (kind : Kind) (requests : List Request) (t : Trace Act) → carried kind Client (answer_all Client requests t) ≡ carried kind Client t
unwritten_all kind [] t = refl
unwritten_all kind (request ∷ requests) t =
    let on = t ▷ Answers (answer_to Client t request.named) in
    by_test (may_answer Client t request.named) (unwritten_all kind requests on ∙ append-nil (carried kind Client t)) where
      by_test : (b : Bool) → carried kind Client (answer_all Client requests (t ▷ Answers (answer_to Client t request.named))) ≡ carried kind Client t
          → carried kind Client (cond b (answer_all Client requests (t ▷ Answers (answer_to Client t request.named))) t) ≡ carried kind Client t
      by_test true deeper = deeper
      by_test false deeper = refl

pub unwritten_by : (kind : Kind) (role : Role) (broken : Option Fault) (t : Trace Act) → carried kind role (answered_by role broken t) ≡ carried kind role t
unwritten_by kind Server None t = refl
unwritten_by kind Client None t = unwritten_all kind (unanswered_in (read t)) t
unwritten_by kind role (Some fault) t = refl
