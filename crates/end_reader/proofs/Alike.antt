-- What is read of a value is of the acts alone.
use Rattle.std.proofs.Common.{◌≡◌, ℕ, ◌+◌, Bool, false, cond, is_some, List, length, Option, Some, None, Result, Ok, Err, refl, sym, ap, subst, ◌∙◌, arith}
use Rattle.mt_base.specs.declared.kinds.Kind.TheVariants.{Reliable}
use Rattle.mt_base.specs.Trace.{Trace, ◌▷◌}
use Rattle.mt_base.specs.declared.kinds.Role.{Role}
use Rattle.dvc_pdus.specs.declared.pdu.DvcRefusal.{DvcRefusal}
use Rattle.tunnel_pdus.specs.declared.part.Part.TheVariants.{More}
use Rattle.tunnel_pdus.specs.Reading.{frame_reading, reading}
use Rattle.mt_endpoint.specs.Acts.{Act, Drawn, Heard, Hears}
use Rattle.mt_endpoint.specs.Faults.{Why, main_fault, tunnel_fault}
use Rattle.mt_endpoint.specs.Resting.{Rests}
use Rattle.end_calls.specs.Law.{IsFront, IsLack}
use Rattle.end_calls.specs.Streams.{Past, Under, drawing, grows, if_whole, in_tunnel, missed_or, on_main, reads, reads_drawn, reads_heard, told_place, with_part}
use Rattle.end_calls.specs.declared.fault.Fault.{Fault}
use Rattle.end_calls.specs.declared.fault.Fault.TheVariants as fault
use Rattle.end_session.specs.Coming.{CameTo, past_of}
use Rattle.end_session.specs.Coming as coming
use Rattle.end_session.specs.Standing.{Gone, Stands}
use Rattle.end_reader.specs.declared.reader.Reader.{Reader}
use Rattle.end_reader.specs.Standing.{GoesTo, IsTold, Reads, came, lacked}
use Rattle.end_reader.proofs.Quiet.{IsCalm}

pub record Alike (p q u : Past) : Type 0 where
  pub acts_are : q.acts ≡ u.acts
  pub broken_is : q.broken ≡ u.broken
  pub main_is : q.main ≡ p.main
  pub tunnel_is : q.tunnel ≡ p.tunnel

pub heard_alike : (role : Role) (at : ℕ) (r : Result Heard DvcRefusal) (p : Past) → Alike p (reads_heard role at r p) (reads_heard role at r (past_of p.acts))
heard_alike role at (Err refusal) p = record { acts_are = refl; broken_is = refl; main_is = refl; tunnel_is = refl }
heard_alike role at (Ok heard) p = by_fault (main_fault role p.acts heard) where
  by_fault : (w : Option Why) → Alike p (reads role (on_main at) w (Hears heard) p) (reads role (on_main at) w (Hears heard) (past_of p.acts))
  by_fault (Some w) = record { acts_are = refl; broken_is = refl; main_is = refl; tunnel_is = refl }
  by_fault None = record { acts_are = refl; broken_is = refl; main_is = refl; tunnel_is = refl }

pub drawn_alike : (role : Role) (at : ℕ) (r : Result Drawn DvcRefusal) (p : Past) → Alike p (reads_drawn role at r p) (reads_drawn role at r (past_of p.acts))
drawn_alike role at (Err refusal) p = record { acts_are = refl; broken_is = refl; main_is = refl; tunnel_is = refl }
drawn_alike role at (Ok drawn) p = by_fault (tunnel_fault role p.acts drawn) where
  by_fault : (w : Option Why) → Alike p (reads role (in_tunnel at) w (drawing role Reliable at p.acts false drawn) p) (reads role (in_tunnel at) w (drawing role Reliable at p.acts false drawn) (past_of p.acts))
  by_fault (Some w) = record { acts_are = refl; broken_is = refl; main_is = refl; tunnel_is = refl }
  by_fault None = record { acts_are = refl; broken_is = refl; main_is = refl; tunnel_is = refl }

pub part_opened : (role : Role) (p : Past) (bytes : List ℕ) (is_full : Bool) → p.broken ≡ None → with_part role p bytes is_full ≡ grows role (missed_or role p.acts is_full (if_whole role (length bytes) (reading bytes))) p
unfolding with_part
part_opened role p bytes is_full fine = ap (λ o. cond (is_some o) p (grows role (missed_or role p.acts is_full (if_whole role (length bytes) (reading bytes))) p)) fine

-- the place of the next value, as it is told
pub told_on : (kept read size : ℕ) → kept ≡ told_place read → told_place (kept + size) ≡ told_place (read + size)
told_on kept read size e = ap (λ at. told_place (at + size)) e ∙ omega arith

lack_alike : (p before q u : Past) (reached : Trace Act) → p.acts ≡ before.acts → q.acts ≡ u.acts → IsLack before u reached → IsLack p q reached
lack_alike p before q u reached begin after lack = record {
  begun = subst (λ t. IsFront t reached) (sym begin) lack.begun;
  next = lack.next;
  takes = lack.takes;
  due = subst (λ t. IsFront (reached ▷ lack.next) t) (sym after) lack.due;
}

-- from a past of the same acts the reader comes to the same
pub goes_from : (p before q : Past) (gone : Gone) (r : Reader) → p.acts ≡ before.acts → GoesTo before q gone r → GoesTo p q gone r
goes_from p before q gone r same (came reads) = came reads
goes_from p before q gone r same (lacked reached lack reads) = lacked reached (lack_alike p before q q reached same refl lack) reads

-- a broken end keeps no stream
broken_reads : (r : Reader) (p : Past) (gone : Gone) (why : Fault) → Stands r.session p.acts gone → (r.session).broken ≡ Some why → p.broken ≡ Some why → Reads r p gone
broken_reads r p gone why st e b = record {
  stands = st;
  broken_is = e ∙ sym b;
  main_is = λ w. absurd (not_both w);
  tunnel_is = λ w. absurd (not_both w);
  main_waits = λ w. absurd (not_both w);
  tunnel_waits = λ w. absurd (not_both w);
  rests = λ w. absurd (not_both w);
  quiet = λ w. absurd (not_both w);
}
  where
    not_both : p.broken ≡ None → ⊥
    not_both w = let no : Some why ≡ None = sym b ∙ w in cc

-- the streams behind a value that was read
pub record Between (r : Reader) (p : Past) : Type 0 where
  pub main_is : IsTold r.main p.main
  pub tunnel_is : IsTold r.tunnel p.tunnel
  pub main_waits : (need : ℕ) × (frame_reading p.main.bytes ≡ Ok (More need))
  pub tunnel_waits : (need : ℕ) × (reading p.tunnel.bytes ≡ Ok (More need))

-- what comes of a value at an end comes of it at a reader
pub comes : (now : Reader) (role : Role) (p passed q u : Past) (gone : Gone) → (now.session).role ≡ role → Alike passed q u → Between now passed → (q.broken ≡ None → IsCalm role q.acts)
    → CameTo (past_of p.acts) u gone now.session → GoesTo p q gone now
comes now role p passed q u gone role_is alike between calm (coming.came st broken) = came (record {
  stands = subst (λ t. Stands now.session t gone) (sym alike.acts_are) st;
  broken_is = broken ∙ sym alike.broken_is;
  main_is = λ w. subst (λ x. IsTold now.main x) (sym alike.main_is) between.main_is;
  tunnel_is = λ w. subst (λ x. IsTold now.tunnel x) (sym alike.tunnel_is) between.tunnel_is;
  main_waits = λ w. subst (λ (x : Under). (need : ℕ) × (frame_reading x.bytes ≡ Ok (More need))) (sym alike.main_is) between.main_waits;
  tunnel_waits = λ w. subst (λ (x : Under). (need : ℕ) × (reading x.bytes ≡ Ok (More need))) (sym alike.tunnel_is) between.tunnel_waits;
  rests = λ w. subst (λ x. Rests x q.acts) (sym role_is) (calm w).rests;
  quiet = λ w client. (calm w).quiet (sym role_is ∙ client);
})
comes now role p passed q u gone role_is alike between calm (coming.lacked reached lack st broken) =
    lacked reached (lack_alike p (past_of p.acts) q u reached refl alike.acts_are lack) (broken_reads now _ gone fault.NoMemory st broken refl)
