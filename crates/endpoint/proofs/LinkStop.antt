-- Where a stop stands for the links, by what an end keeps.
use Rattle.std.proofs.Common.{◌≡◌, ℕ, ◌+◌, ◌-◌, Bool, true, false, ◌&&◌, ◌||◌, nat_le, nat_lt, is_some, length, Option, refl, sym, ap, ◌∙◌, arith, length-append, List}
use Rattle.std.proofs.lemmas.Bool.{le-ltb, lt-ltb, ltb-false, ltb-true}
use Rattle.mt_base.specs.declared.kinds.Kind.TheVariants.{Reliable}
use Rattle.mt_base.specs.declared.kinds.Role.{Role}
use Rattle.mt_windows.specs.declared.limits.TheConstants.{QUEUE}
use Rattle.dvc_channels.specs.Acts as channels
use Rattle.mt_endpoint.specs.Channels.{table}
use Rattle.mt_endpoint.specs.Holding.{held, weight}
use Rattle.mt_endpoint.specs.Tunnels.{is_attached}
use Rattle.mt_endpoint.specs.Writing.{main_bytes}
use Rattle.end_calls.specs.declared.fault.Fault.{Fault}
use Rattle.end_calls.specs.declared.limits.TheConstants.{CONTROL, HELD_PDU, HOLD, INBOX, MAIN_QUEUE}
use Rattle.end_calls.specs.Stops.{Outset, answers_owed, is_link_stopped, load_at}
use Rattle.end_calls.specs.Streams.{Past}
use Rattle.end_session.specs.Standing.{Gone, Stands}
use Rattle.end_session.specs.Store.{Store}
use Rattle.endpoint.specs.Pulled.{IsAt}
use Rattle.endpoint.proofs.Added.{waits_by}

queue_full : (load : ℕ) → nat_lt 2094080 load ≡ nat_lt QUEUE (load + CONTROL)
queue_full load = by_test (nat_lt 2094080 load) refl where
  by_test : (b : Bool) → nat_lt 2094080 load ≡ b → b ≡ nat_lt QUEUE (load + CONTROL)
  by_test true is = sym (lt-ltb QUEUE (load + CONTROL) (omega (arith, ltb-true 2094080 load is)))
  by_test false is = sym (le-ltb QUEUE (load + CONTROL) (omega (arith, ltb-false 2094080 load is)))

link_full : (role : Role) (outset : Outset) (p : Past) (load : ℕ) → (is_attached Reliable p.acts ≡ true → load ≡ load_at role outset p) → (is_attached Reliable p.acts ≡ false → load ≡ 0)
    → nat_lt 2094080 load ≡ is_attached Reliable p.acts && nat_lt QUEUE (load_at role outset p + CONTROL)
link_full role outset p load has none = by_link (is_attached Reliable p.acts) has none where
  by_link : (b : Bool) → (b ≡ true → load ≡ load_at role outset p) → (b ≡ false → load ≡ 0) → nat_lt 2094080 load ≡ b && nat_lt QUEUE (load_at role outset p + CONTROL)
  by_link true has none = queue_full load ∙ ap (λ n. nat_lt QUEUE (n + CONTROL)) (has refl)
  by_link false has none = ap (λ n. nat_lt 2094080 n) (none refl)

regroup : (broken inbox main link hold : Bool) → broken || ((inbox || main) || (link || hold)) ≡ broken || ((inbox || (main || link)) || hold)
regroup true inbox main link hold = refl
regroup false true main link hold = refl
regroup false false true link hold = refl
regroup false false false link hold = refl

stop_is : (role : Role) (outset : Outset) (p : Past) (gone : Gone) (s : Store) (load : ℕ) (broken full link hold : Bool) → Stands s p.acts gone → IsAt role outset p gone s load
    → broken ≡ is_some s.broken → full ≡ nat_le INBOX (channels.waiting (table s.role p.acts)) || nat_lt MAIN_QUEUE (length (s.outgoing).main + (CONTROL + answers_owed p.acts)) → link ≡ nat_lt 2094080 load
    → hold ≡ nat_lt HOLD (weight (held s.role Reliable p.acts) + HELD_PDU) → broken || (full || (link || hold)) ≡ is_link_stopped role outset p
stop_is role outset p gone s load broken full link hold st at broken_is full_is link_is hold_is =
    let w = waits_by s role p.acts gone at.role_is st in
    let main = (s.outgoing).main in
    let long : length main ≡ length (main_bytes role p.acts) - outset.sent = omega (arith, ap (λ (b : List ℕ). length b) w.main_waits, length-append gone.main main, at.sent_is) in
    let inbox_at = λ (r : Role). nat_le INBOX (channels.waiting (table r p.acts)) in
    let main_at = λ (n : ℕ). nat_lt MAIN_QUEUE (n + (CONTROL + answers_owed p.acts)) in
    let a : broken ≡ is_some p.broken = broken_is ∙ ap (λ (o : Option Fault). is_some o) at.broken_is in
    let b : full ≡ inbox_at role || main_at (length (main_bytes role p.acts) - outset.sent) = full_is ∙ ap (λ r. inbox_at r || main_at (length main)) at.role_is ∙ ap (λ n. inbox_at role || main_at n) long in
    let c = link_is ∙ link_full role outset p load at.load_is at.none_loaded in
    let d : hold ≡ nat_lt HOLD (weight (held role Reliable p.acts) + HELD_PDU) = hold_is ∙ ap (λ r. nat_lt HOLD (weight (held r Reliable p.acts) + HELD_PDU)) at.role_is in
    ap (λ x. x || (full || (link || hold))) a ∙ ap (λ x. is_some p.broken || (x || (link || hold))) b
    ∙ ap (λ x. is_some p.broken || ((inbox_at role || main_at (length (main_bytes role p.acts) - outset.sent)) || (x || hold))) c
    ∙ ap (λ x. is_some p.broken || ((inbox_at role || main_at (length (main_bytes role p.acts) - outset.sent)) || ((is_attached Reliable p.acts && nat_lt QUEUE (load_at role outset p + CONTROL)) || x))) d
    ∙ regroup (is_some p.broken) (inbox_at role) (main_at (length (main_bytes role p.acts) - outset.sent)) (is_attached Reliable p.acts && nat_lt QUEUE (load_at role outset p + CONTROL)) (nat_lt HOLD (weight (held role Reliable p.acts) + HELD_PDU))

-- ---- one cause after the other

or_right : (b x : Bool) → true ≡ b || (true || x)
or_right true x = refl
or_right false x = refl

pub broken_stops : (role : Role) (outset : Outset) (p : Past) (gone : Gone) (s : Store) (load : ℕ) → Stands s p.acts gone → IsAt role outset p gone s load → is_some s.broken ≡ true → true ≡ is_link_stopped role outset p
broken_stops role outset p gone s load st at is = stop_is role outset p gone s load true _ _ _ st at (sym is) refl refl refl

pub full_stops : (role : Role) (outset : Outset) (p : Past) (gone : Gone) (s : Store) (load : ℕ) (full : Bool) → Stands s p.acts gone → IsAt role outset p gone s load
    → full ≡ nat_le INBOX (channels.waiting (table s.role p.acts)) || nat_lt MAIN_QUEUE (length (s.outgoing).main + (CONTROL + answers_owed p.acts)) → full ≡ true → true ≡ is_link_stopped role outset p
full_stops role outset p gone s load full st at is on =
    let link = nat_lt 2094080 load in
    let hold = nat_lt HOLD (weight (held s.role Reliable p.acts) + HELD_PDU) in
    or_right (is_some s.broken) (link || hold) ∙ stop_is role outset p gone s load (is_some s.broken) true link hold st at refl (sym on ∙ is) refl refl

pub rest_stops : (role : Role) (outset : Outset) (p : Past) (gone : Gone) (s : Store) (load : ℕ) (full hold : Bool) → Stands s p.acts gone → IsAt role outset p gone s load → is_some s.broken ≡ false
    → full ≡ nat_le INBOX (channels.waiting (table s.role p.acts)) || nat_lt MAIN_QUEUE (length (s.outgoing).main + (CONTROL + answers_owed p.acts)) → full ≡ false → hold ≡ nat_lt HOLD (weight (held s.role Reliable p.acts) + HELD_PDU)
    → nat_lt 2094080 load || hold ≡ is_link_stopped role outset p
rest_stops role outset p gone s load full hold st at whole is off hold_is = stop_is role outset p gone s load false false _ hold st at (sym whole) (sym off ∙ is) refl hold_is

pub or_first : (a b : Bool) → a ≡ true → a ≡ a || b
or_first true b is = refl
or_first false b is = absurd (let no : false ≡ true = is in cc)

pub or_second : (a b : Bool) → a ≡ false → b ≡ a || b
or_second true b is = absurd (let no : true ≡ false = is in cc)
or_second false b is = refl
