-- The room of the main queue behind a step of an end's own.
use Rattle.std.proofs.Common.{◌≡◌, ℕ, ◌+◌, ◌*◌, ◌≤◌, cond, [], ◌++◌, length, Option, Some, None, is_some, sym, ap, ◌∙◌, arith, append_assoc, length-append}
use Rattle.std.specs.Option.{option_or}
use Rattle.std.specs.List.{flat_map}
use Rattle.std.proofs.lemmas.List.{append_cancel_left}
use Rattle.std.proofs.lemmas.Grind.{flat_map-append}
use Rattle.mt_base.specs.declared.kinds.Kind.TheVariants.{Reliable, Lossy}
use Rattle.mt_base.specs.declared.kinds.Role.{Role}
use Rattle.mt_base.specs.Trace.{Trace, ◌▷◌}
use Rattle.mt_endpoint.specs.Acts.{Act}
use Rattle.mt_endpoint.specs.Moving.{answer_made, read_by, unanswered_in}
use Rattle.mt_endpoint.specs.Tunnels.{refusal_in, told_refusal}
use Rattle.mt_endpoint.specs.Writing.{adds, framed, on_main, spoken}
use Rattle.end_calls.specs.declared.limits.TheConstants.{MAIN_QUEUE}
use Rattle.end_calls.specs.Stops.{answers_owed}
use Rattle.end_session.specs.Outgoing.{Outgoing}
use Rattle.end_session.specs.Standing.{Gone, Waits}
use Rattle.endpoint.specs.Standing.{refusals_owed}
use Rattle.endpoint.proofs.Due.{read_same}

-- what waits of the main stream is what waited, and what the act wrote
pub main_waits : (role : Role) (o now : Outgoing) (t : Trace Act) (act : Act) (gone after : Gone) → after.main ≡ gone.main → Waits role o t gone → Waits role now (t ▷ act) after → now.main ≡ o.main ++ flat_map framed (on_main (adds role t act))
main_waits role o now t act gone after same before behind =
    let new = flat_map framed (on_main (adds role t act)) in
    append_cancel_left gone.main now.main (o.main ++ new)
    (ap (λ g. g ++ now.main) (sym same) ∙ sym behind.main_waits ∙ flat_map-append framed (spoken role t) (on_main (adds role t act)) ∙ ap (λ m. m ++ new) before.main_waits ∙ append_assoc gone.main o.main new)

pub owes_less : (told more : Option ℕ) → cond (is_some (option_or told more)) 0 11 ≤ cond (is_some told) 0 11
owes_less None None = omega arith
owes_less None (Some hr) = omega arith
owes_less (Some hr) more = omega arith

pub refusals_less : (role : Role) (t : Trace Act) (act : Act) → refusals_owed role (t ▷ act) ≤ refusals_owed role t
refusals_less role t act =
    omega (arith, owes_less (told_refusal role Reliable t) (refusal_in role Reliable t act), owes_less (told_refusal role Lossy t) (refusal_in role Lossy t act))

few_owed : (told : Option ℕ) → cond (is_some told) 0 11 ≤ 11
few_owed None = omega arith
few_owed (Some hr) = omega arith

pub refusals_few : (role : Role) (t : Trace Act) → refusals_owed role t ≤ 22
refusals_few role t = omega (arith, few_owed (told_refusal role Reliable t), few_owed (told_refusal role Lossy t))

pub answers_same : (t : Trace Act) (act : Act) → read_by act ≡ [] → answer_made act ≡ [] → answers_owed (t ▷ act) ≡ answers_owed t
answers_same t act none_read none_made = ap (λ xs. 17 * length (unanswered_in xs)) (read_same t act none_read none_made)

-- an act that reads and answers nothing has room where so many bytes had it
pub room_after : (role : Role) (o now : Outgoing) (t : Trace Act) (act : Act) (gone after : Gone) → after.main ≡ gone.main → Waits role o t gone → Waits role now (t ▷ act) after → read_by act ≡ [] → answer_made act ≡ []
    → length o.main + length (flat_map framed (on_main (adds role t act))) + (answers_owed t + refusals_owed role t) ≤ MAIN_QUEUE → length now.main + (answers_owed (t ▷ act) + refusals_owed role (t ▷ act)) ≤ MAIN_QUEUE
room_after role o now t act gone after same before behind none_read none_made room =
    omega (
      arith,
      room,
      ap length (main_waits role o now t act gone after same before behind),
      length-append o.main (flat_map framed (on_main (adds role t act))),
      answers_same t act none_read none_made,
      refusals_less role t act,
    )
