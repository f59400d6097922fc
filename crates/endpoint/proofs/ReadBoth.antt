-- What an end read of both links at once.
use Rattle.std.proofs.Common.{◌≡◌, inl, inr, ℕ, Bool, true, false, not, ◌||◌, List, [], ◌++◌, length, drop, Option, Some, None, is_some, refl, sym, ap, ◌∙◌, arith, append-nil}
use Rattle.std.proofs.Math.Seq.{drop-append_seam, drop-length}
use Rattle.mt_base.specs.declared.kinds.Kind.{Kind}
use Rattle.mt_base.specs.declared.kinds.Kind.TheVariants.{Reliable, Lossy}
use Rattle.mt_base.specs.declared.kinds.Role.{Role}
use Rattle.mt_base.specs.Trace.{Trace, Start, ◌▷◌}
use Rattle.carrier.specs.Entries as link
use Rattle.mt_endpoint.specs.Acts.{Act, Drawn}
use Rattle.mt_endpoint.specs.Writing.{carried}
use Rattle.end_calls.specs.declared.fault.Fault.TheVariants as fault
use Rattle.end_calls.specs.Calls.{Handed, Pull, after_parts, after_pulls, lacking}
use Rattle.end_calls.specs.Law.{Hands, IsFront, IsLinkLack, lacks_part, lacks_pull}
use Rattle.end_calls.specs.Links.{by_parts, of_pulls}
use Rattle.end_calls.specs.Stops.{AreHanded, Outset, is_link_stopped}
use Rattle.end_calls.specs.Streams.{Past, written}
use Rattle.end_calls.proofs.Fronts.{front_carried}
use Rattle.end_calls.proofs.Onward.{front_then, goes_parts}
use Rattle.end_calls.proofs.Running.{broken_parts}
use Rattle.end_session.specs.Store.{Store}
use Rattle.endpoint.specs.Handed.{IsPartLack, handed_by}
use Rattle.endpoint.specs.MainRead.{KeepsRoom}
use Rattle.endpoint.specs.Pulled.{pulled_by}
use Rattle.endpoint.proofs.PullActs.{IsStill, still_part, still_pulled}

-- ---- pulls and parts leave the links as they were

still_here : (kind : Kind) (role : Role) (t : Trace Act) → IsStill kind role t t
still_here kind role t = record { attached = λ k. refl; silent = λ k. refl; undrawn = λ k other. refl; unwritten = λ k is. refl }

still_then : (kind : Kind) (role : Role) (t u v : Trace Act) → IsStill kind role t u → IsStill kind role u v → IsStill kind role t v
still_then kind role t u v f g = record {
  attached = λ k. g.attached k ∙ f.attached k;
  silent = λ k. g.silent k ∙ f.silent k;
  undrawn = λ k other. g.undrawn k other ∙ f.undrawn k other;
  unwritten = λ k is. g.unwritten k (f.silent k ∙ is) ∙ f.unwritten k is;
}

pub still_pulls : (role : Role) (p : Past) (pulls : Trace Pull) → IsStill Reliable role p.acts (after_pulls role p pulls).acts
still_pulls role p Start = still_here Reliable role p.acts
still_pulls role p (pulls ▷ pull) =
    let q = after_pulls role p pulls in
    still_then Reliable role p.acts q.acts (after_pulls role p (pulls ▷ pull)).acts (still_pulls role p pulls) (still_pulled role q pull.bytes None tt)

pub still_pulled_by : (role : Role) (p : Past) (pulls : Trace Pull) (lack : Option (Trace Act)) → IsLinkLack role p pulls Start lack → IsStill Reliable role p.acts (pulled_by role p pulls lack).acts
still_pulled_by role p pulls None h = still_pulls role p pulls
still_pulled_by role p Start (Some reached) h = absurd h
still_pulled_by role p (pulls ▷ pull) (Some reached) h =
    let q = after_pulls role p pulls in
    still_then Reliable role p.acts q.acts reached (still_pulls role p pulls) (still_pulled role q pull.bytes (Some reached) h)

still_parts : (role : Role) (p : Past) (parts : Trace Handed) → IsStill Lossy role p.acts (after_parts role p parts).acts
still_parts role p Start = still_here Lossy role p.acts
still_parts role p (parts ▷ part) =
    let q = after_parts role p parts in
    still_then Lossy role p.acts q.acts (after_parts role p (parts ▷ part)).acts (still_parts role p parts) (still_part role q part.bytes part.is_full None tt)

pub still_handed_by : (role : Role) (p : Past) (parts : Trace Handed) (lack : Option (Trace Act)) → IsPartLack role p parts lack → IsStill Lossy role p.acts (handed_by role p parts lack).acts
still_handed_by role p parts None h = still_parts role p parts
still_handed_by role p Start (Some reached) h = absurd h
still_handed_by role p (parts ▷ part) (Some reached) h =
    let q = after_parts role p parts in
    still_then Lossy role p.acts q.acts reached (still_parts role p parts) (still_part role q part.bytes part.is_full (Some reached) h)

-- ---- what was written

pub none_written : (kind : Kind) (role : Role) (p : Past) → written kind role p p ≡ []
none_written kind role p = drop-length (carried kind role p.acts)

front_handed_by : (role : Role) (p : Past) (parts : Trace Handed) (lack : Option (Trace Act)) → IsPartLack role p parts lack → IsFront p.acts (handed_by role p parts lack).acts
front_handed_by role p parts None h = goes_parts role parts p
front_handed_by role p Start (Some reached) h = absurd h
front_handed_by role p (parts ▷ part) (Some reached) h = front_then p.acts (after_parts role p parts).acts reached (goes_parts role parts p) h.begun

written_on : (kind : Kind) (role : Role) (p q : Past) → IsFront p.acts q.acts → carried kind role q.acts ≡ carried kind role p.acts ++ written kind role p q
written_on kind role p q f =
    let front = front_carried kind role p.acts q.acts f in
    let old = carried kind role p.acts in
    front.1 ∙ ap (λ (xs : List Drawn). old ++ xs) (sym (ap (drop (length old)) front.1 ∙ drop-append_seam old front.0))

-- parts that wrote nothing behind what was pulled
pub written_same : (kind : Kind) (role : Role) (p q : Past) (parts : Trace Handed) (lack : Option (Trace Act)) → IsPartLack role q parts lack → written kind role q (handed_by role q parts lack) ≡ []
    → written kind role p (handed_by role q parts lack) ≡ written kind role p q
written_same kind role p q parts lack h none =
    let old = carried kind role p.acts in
    let here = carried kind role q.acts in
    ap (drop (length old)) (written_on kind role q (handed_by role q parts lack) (front_handed_by role q parts lack h) ∙ ap (λ (xs : List Drawn). here ++ xs) none ∙ append-nil here)

-- ---- both at once

-- the first want of memory
abbrev pub first_lack : Option (Trace Act) → Option (Trace Act) → Option (Trace Act)
first_lack None lack = lack
first_lack (Some reached) lack = Some reached

-- What was read by pulls, up to a want of memory, and then by parts, up to another one, is what a call reads that
-- meets the first of both.
pub record Joined (role : Role) (outset : Outset) (p : Past) (pulls : Trace Pull) (pulls_lack : Option (Trace Act)) (left : List (List ℕ)) (parts : Trace Handed) (parts_lack : Option (Trace Act)) : Type 0 where
  pub past_is : lacking (first_lack pulls_lack parts_lack) (after_parts role (after_pulls role p pulls) parts) ≡ handed_by role (pulled_by role p pulls pulls_lack) parts parts_lack
  pub pulls_lack_is : lacks_pull parts (first_lack pulls_lack parts_lack) ≡ is_some pulls_lack
  pub handed : Hands role outset (after_pulls role p pulls) left parts (lacks_part parts (first_lack pulls_lack parts_lack))
  pub lacks : IsLinkLack role p pulls parts (first_lack pulls_lack parts_lack)
  pub of_pulls_is : of_pulls parts (first_lack pulls_lack parts_lack) ≡ pulls_lack
  pub by_parts_are : (kind : Kind) (l : Trace link.Entry) → by_parts kind role (after_pulls role p pulls) parts (first_lack pulls_lack parts_lack) l ≡ by_parts kind role (pulled_by role p pulls pulls_lack) parts parts_lack l
  pub asked_is : not (is_some (first_lack pulls_lack parts_lack) || is_link_stopped role outset (after_parts role (after_pulls role p pulls) parts))
      ≡ not (is_some parts_lack || is_link_stopped role outset (after_parts role (pulled_by role p pulls pulls_lack) parts))

are_handed : (role : Role) (outset : Outset) (p : Past) (left : List (List ℕ)) (parts : Trace Handed) (is_lack : Bool) → Hands role outset p left parts is_lack → AreHanded role outset p left parts
are_handed role outset p left parts true h = h
are_handed role outset p left parts false h = h.0

-- a broken end is handed no part
none_handed : (role : Role) (outset : Outset) (p : Past) (reached : Trace Act) (left : List (List ℕ)) (parts : Trace Handed) (part : Handed) (is_lack : Bool) → Hands role outset (lacking (Some reached) p) left (parts ▷ part) is_lack → ⊥
none_handed role outset p reached left parts part is_lack h =
    let q = lacking (Some reached) p in
    let off = (are_handed role outset q left (parts ▷ part) is_lack h).0 in
    let no : true ≡ false = sym (ap (λ (x : Past). is_link_stopped role outset x) (broken_parts role q fault.NoMemory parts refl)) ∙ off in
    cc

pub joined : (role : Role) (outset : Outset) (p : Past) (pulls : Trace Pull) (pulls_lack : Option (Trace Act)) (left : List (List ℕ)) (parts : Trace Handed) (parts_lack : Option (Trace Act)) → IsLinkLack role p pulls Start pulls_lack
    → Hands role outset (pulled_by role p pulls pulls_lack) left parts (is_some parts_lack) → IsPartLack role (pulled_by role p pulls pulls_lack) parts parts_lack → Joined role outset p pulls pulls_lack left parts parts_lack
joined role outset p pulls None left Start None l h k =
    record { past_is = refl; pulls_lack_is = refl; handed = h; lacks = tt; of_pulls_is = refl; by_parts_are = λ kind m. refl; asked_is = refl }
joined role outset p pulls None left Start (Some reached) l h k = absurd k
joined role outset p pulls None left (parts ▷ part) None l h k =
    record { past_is = refl; pulls_lack_is = refl; handed = h; lacks = tt; of_pulls_is = refl; by_parts_are = λ kind m. refl; asked_is = refl }
joined role outset p pulls None left (parts ▷ part) (Some reached) l h k =
    record { past_is = refl; pulls_lack_is = refl; handed = h; lacks = k; of_pulls_is = refl; by_parts_are = λ kind m. refl; asked_is = refl }
joined role outset p pulls (Some reached) left Start None l h k =
    record { past_is = refl; pulls_lack_is = refl; handed = tt; lacks = l; of_pulls_is = refl; by_parts_are = λ kind m. refl; asked_is = refl }
joined role outset p pulls (Some reached) left Start (Some other) l h k = absurd k
joined role outset p pulls (Some reached) left (parts ▷ part) lack l h k = absurd (none_handed role outset (after_pulls role p pulls) reached left parts part (is_some lack) h)

-- ---- the main queue's room behind two calls

pub keeps_then : (s mid now : Store) → KeepsRoom s mid → KeepsRoom mid now → KeepsRoom s now
keeps_then s mid now (inl first) (inl second) = inl (omega (arith, first, second))
keeps_then s mid now (inl first) (inr second) = inr second
keeps_then s mid now (inr first) (inl second) = inr (omega (arith, first, second))
keeps_then s mid now (inr first) (inr second) = inr second
