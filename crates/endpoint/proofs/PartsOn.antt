-- An end on its way through the parts of its lossy link: how its loop goes on, and how it ends.
use Rattle.std.proofs.Common.{◌≡◌, inl, inr, ℕ, ◌+◌, ◌≤◌, nat_le, Bool, true, false, not, List, [], ◌∷◌, ◌++◌, length, drop, Option, Some, None, refl, sym, ap, subst, ◌∙◌, arith, append-nil, append_assoc}
use Rattle.std.specs.List.{flat_map}
use Rattle.std.proofs.Math.Seq.{drop-append_seam}
use Rattle.std.proofs.lemmas.Bool.{leb-true}
use Rattle.std.proofs.lemmas.List.{length-append}
use Rattle.mt_base.specs.declared.kinds.Kind.TheVariants.{Reliable, Lossy}
use Rattle.mt_base.specs.declared.kinds.Role.{Role}
use Rattle.mt_base.specs.Trace.{Trace, Start, ◌▷◌}
use Rattle.mt_windows.specs.declared.limits.TheConstants.{WINDOW}
use Rattle.carrier.specs.declared.state.LinkState.{LinkState}
use Rattle.carrier.specs.Entries as link
use Rattle.mt_endpoint.specs.Acts.{Act}
use Rattle.mt_endpoint.specs.Tunnels.{is_attached}
use Rattle.mt_endpoint.specs.Writing.{carried, tunneled}
use Rattle.end_calls.specs.declared.fault.Fault.TheVariants as fault
use Rattle.end_calls.specs.Calls.{Handed, after_parts}
use Rattle.end_calls.specs.Links.{asks_once_more, by_parts, gives_joined}
use Rattle.end_calls.specs.Stops.{AreHanded, Outset, handed_parts, is_link_stopped}
use Rattle.end_calls.specs.Streams.{Past, with_part, written}
use Rattle.end_calls.proofs.Onward.{goes_part}
use Rattle.end_session.specs.Standing.{Gone, Stands}
use Rattle.end_reader.specs.declared.reader.Reader.{Reader}
use Rattle.endpoint.specs.Attached.{is_closed}
use Rattle.endpoint.specs.Handed.{AllHanded, FullFrom, IsPartLack, LoadAt, OnePart, PartWay, SomePart, behind_part, handed_by}
use Rattle.endpoint.specs.Pulled.{IsAt, IsReadLack}
use Rattle.endpoint.proofs.FrameRead.{none_written, written_behind}
use Rattle.endpoint.proofs.PullActs.{behind_lack, still_part}

-- these parts were handed out and read, up to the want of memory, and where there were no more the link was asked
-- for one once more
pub record Going {L : Type 0} (stands : L → Trace link.Entry → Type 0) (left : L → List (List ℕ)) (condition : L → LinkState) (load : L → ℕ) (old : L) (unhanded : List (List ℕ)) (sent : List ℕ) (role : Role) (outset : Outset) (p : Past) (m : Trace link.Entry) (has_part : Bool) (r : Reader) (c : L) : Type 0 where
  pub parts : Trace Handed
  pub lack : Option (Trace Act)
  pub rest : List (List ℕ)
  pub split : unhanded ≡ handed_parts parts ++ rest
  pub handed : AreHanded role outset p unhanded parts
  pub lacks : IsPartLack role p parts lack
  pub way : PartWay stands left condition rest sent role (handed_by role p parts lack) (asks_once_more Lossy (not has_part) (by_parts Lossy role p parts lack m)) r c
  pub unwritten : carried Reliable role (handed_by role p parts lack).acts ≡ carried Reliable role p.acts
  pub attached : is_attached Reliable (handed_by role p parts lack).acts ≡ is_attached Reliable p.acts
  pub none_called : (l : Trace link.Entry) → by_parts Reliable role p parts lack l ≡ l
  pub full_from : FullFrom (load old) parts
  pub loaded : load c ≤ load old + length (handed_parts parts)
  pub ended : has_part ≡ false → (lack ≡ None) × (is_link_stopped role outset (after_parts role p parts) ≡ false) × (rest ≡ [])

-- at the beginning
pub going_first : {L : Type 0} (stands : L → Trace link.Entry → Type 0) (left : L → List (List ℕ)) (condition : L → LinkState) (load : L → ℕ) (unhanded : List (List ℕ)) (sent : List ℕ) (role : Role) (outset : Outset) (p : Past) (m : Trace link.Entry) (r : Reader) (c : L)
    → PartWay stands left condition unhanded sent role p m r c → Going stands left condition load c unhanded sent role outset p m true r c
going_first stands left condition load unhanded sent role outset p m r c way = record {
  parts = Start;
  lack = None;
  rest = unhanded;
  split = refl;
  handed = tt;
  lacks = tt;
  way = way;
  unwritten = refl;
  attached = refl;
  none_called = λ l. refl;
  full_from = tt;
  loaded = omega arith;
  ended = λ no. absurd (let bad : true ≡ false = no in cc);
}

-- where a stop is looked for
pub at_now : {L : Type 0} (stands : L → Trace link.Entry → Type 0) (left : L → List (List ℕ)) (condition : L → LinkState) (load : L → ℕ) (old : L) (unhanded : List (List ℕ)) (sent : List ℕ) (role : Role) (outset : Outset) (p : Past) (m : Trace link.Entry) (has_part : Bool) (r : Reader) (c : L) (queued : ℕ)
    → (g : Going stands left condition load old unhanded sent role outset p m has_part r c) → LoadAt role outset sent p queued → IsAt role outset (handed_by role p g.parts g.lack) (g.way).gone r.session queued
at_now stands left condition load old unhanded sent role outset p m has_part r c queued g at =
    let before = length (carried Reliable role (outset.before).acts) in record {
      role_is = (g.way).role_is;
      broken_is = ((g.way).reads).broken_is;
      sent_is = ap (λ (b : List ℕ). length b) (g.way).gone_is ∙ at.sent_is;
      load_is = λ on. at.load_is (sym g.attached ∙ on) ∙ sym (ap (λ ds. outset.load + length (flat_map tunneled (drop before ds))) g.unwritten);
      none_loaded = λ off. at.none_loaded (sym g.attached ∙ off);
    }

-- ---- one part more

full_here : (here before count : ℕ) (is_full : Bool) → is_full ≡ nat_le WINDOW here → here ≤ before + count → is_full ≡ true → WINDOW ≤ before + count
full_here here before count is_full is loaded on = omega (arith, loaded, leb-true WINDOW here (sym is ∙ on))

one_longer : (parts : Trace Handed) (part : Handed) → length (handed_parts (parts ▷ part)) ≡ length (handed_parts parts) + 1
one_longer parts part = length-append (handed_parts parts) (part.bytes ∷ [])

part_lack : (role : Role) (p : Past) (parts : Trace Handed) (part : Handed) (lack : Option (Trace Act)) → IsReadLack (after_parts role p parts) (after_parts role p (parts ▷ part)) lack → IsPartLack role p (parts ▷ part) lack
part_lack role p parts part None h = tt
part_lack role p parts part (Some reached) h = h

same_written : (role : Role) (p : Past) (part : Handed) (lack : Option (Trace Act)) → IsReadLack p (with_part role p part.bytes part.is_full) lack → written Reliable role p (behind_part role p part lack) ≡ [] → carried Reliable role (behind_part role p part lack).acts ≡ carried Reliable role p.acts
same_written role p part lack h none =
    written_behind role p (behind_part role p part lack) (behind_lack p (with_part role p part.bytes part.is_full) lack h (goes_part role p part.bytes part.is_full))
    ∙ ap (λ ds. carried Reliable role p.acts ++ ds) none
    ∙ append-nil (carried Reliable role p.acts)

further : {L : Type 0} (stands : L → Trace link.Entry → Type 0) (left : L → List (List ℕ)) (condition : L → LinkState) (load : L → ℕ) (old : L) (unhanded : List (List ℕ)) (sent : List ℕ) (role : Role) (outset : Outset) (p : Past) (m : Trace link.Entry) (r now : Reader) (c d : L) (parts : Trace Handed) (lack : Option (Trace Act)) (rest : List (List ℕ))
    → unhanded ≡ handed_parts parts ++ rest → AreHanded role outset p unhanded parts → PartWay stands left condition rest sent role (handed_by role p parts lack) (by_parts Lossy role p parts lack m) r c
    → carried Reliable role (handed_by role p parts lack).acts ≡ carried Reliable role p.acts → is_attached Reliable (handed_by role p parts lack).acts ≡ is_attached Reliable p.acts → ((l : Trace link.Entry) → by_parts Reliable role p parts lack l ≡ l)
    → FullFrom (load old) parts → load c ≤ load old + length (handed_parts parts) → (r.session).broken ≡ None → false ≡ is_link_stopped role outset (handed_by role p parts lack)
    → OnePart stands left condition load c rest sent role (handed_by role p parts lack) (by_parts Lossy role p parts lack m) now d → Going stands left condition load old unhanded sent role outset p m true now d
further stands left condition load old unhanded sent role outset p m r now c d parts (Some reached) rest split handed way unwritten attached none_called full loaded whole goes one =
    absurd (let bad : Some fault.NoMemory ≡ None = sym (way.reads).broken_is ∙ whole in cc)
further stands left condition load old unhanded sent role outset p m r now c d parts None rest split handed way unwritten attached none_called full loaded whole goes one =
    let q = after_parts role p parts in
    let part = one.part in
    let split_on : unhanded ≡ handed_parts (parts ▷ part) ++ one.rest = split ∙ ap (λ xs. handed_parts parts ++ xs) one.unhanded_is ∙ sym (append_assoc (handed_parts parts) (part.bytes ∷ []) one.rest) in
    let still = still_part role q part.bytes part.is_full one.lack one.lacks in record {
      parts = parts ▷ part;
      lack = one.lack;
      rest = one.rest;
      split = split_on;
      handed = (sym goes, (one.rest, split_on), handed);
      lacks = part_lack role p parts part one.lack one.lacks;
      way = one.way;
      unwritten = same_written role q part one.lack one.lacks one.none_reliable ∙ unwritten;
      attached = still.attached Reliable ∙ attached;
      none_called = λ l. ap (λ ds. gives_joined Reliable ds (by_parts Reliable role p parts None l)) one.none_reliable ∙ none_called l;
      full_from = (λ is. full_here (load c) (load old) (length (handed_parts parts)) part.is_full one.is_full loaded is, full);
      loaded = omega (arith, loaded, one.loads_one, one_longer parts part);
      ended = λ no. absurd (let bad : true ≡ false = no in cc);
    }

pub turns_on : {L : Type 0} (stands : L → Trace link.Entry → Type 0) (left : L → List (List ℕ)) (condition : L → LinkState) (load : L → ℕ) (old : L) (unhanded : List (List ℕ)) (sent : List ℕ) (role : Role) (outset : Outset) (p : Past) (m : Trace link.Entry) (r now : Reader) (c d : L) (queued : ℕ)
    → Going stands left condition load old unhanded sent role outset p m true r c → LoadAt role outset sent p queued → (r.session).broken ≡ None
    → ((q : Past) (gone : Gone) → Stands r.session q.acts gone → IsAt role outset q gone r.session queued → false ≡ is_link_stopped role outset q)
    → ((rest : List (List ℕ)) (q : Past) (k : Trace link.Entry) → PartWay stands left condition rest sent role q k r c → OnePart stands left condition load c rest sent role q k now d)
    → Going stands left condition load old unhanded sent role outset p m true now d
turns_on stands left condition load old unhanded sent role outset p m r now c d queued g at whole goes took =
    let q = handed_by role p g.parts g.lack in
    further stands left condition load old unhanded sent role outset p m r now c d g.parts g.lack g.rest g.split g.handed g.way g.unwritten g.attached g.none_called g.full_from g.loaded whole
    (goes q (g.way).gone ((g.way).reads).stands (at_now stands left condition load old unhanded sent role outset p m true r c queued g at)) (took g.rest q (by_parts Lossy role p g.parts g.lack m) g.way)

-- ---- or no more

-- the link was asked for a part, and had none
pub asked_once : {L : Type 0} (stands : L → Trace link.Entry → Type 0) (left : L → List (List ℕ)) (condition : L → LinkState) (rest : List (List ℕ)) (sent : List ℕ) (role : Role) (p : Past) (m : Trace link.Entry) (r : Reader) (c d : L) → PartWay stands left condition rest sent role p m r c
    → left c ≡ [] → left d ≡ [] → condition d ≡ condition c → ((t : Trace link.Entry) → stands c t → stands d (t ▷ link.Next None)) → PartWay stands left condition rest sent role p (m ▷ link.Next None) r d
asked_once stands left condition rest sent role p m r c d way empty still_empty state_is asked = record {
  gone = way.gone;
  gone_is = way.gone_is;
  reads = way.reads;
  role_is = way.role_is;
  reliable_waits = way.reliable_waits;
  lossy_waits = way.lossy_waits;
  attached = way.attached;
  called = asked m way.called;
  left_is = still_empty ∙ sym empty ∙ way.left_is;
  is_open = λ loud. ap is_closed state_is ∙ way.is_open loud;
}

no_further : {L : Type 0} (stands : L → Trace link.Entry → Type 0) (left : L → List (List ℕ)) (condition : L → LinkState) (load : L → ℕ) (old : L) (unhanded : List (List ℕ)) (sent : List ℕ) (role : Role) (outset : Outset) (p : Past) (m : Trace link.Entry) (r : Reader) (c d : L) (parts : Trace Handed) (lack : Option (Trace Act)) (rest : List (List ℕ))
    → unhanded ≡ handed_parts parts ++ rest → AreHanded role outset p unhanded parts → PartWay stands left condition rest sent role (handed_by role p parts lack) (by_parts Lossy role p parts lack m) r c
    → carried Reliable role (handed_by role p parts lack).acts ≡ carried Reliable role p.acts → is_attached Reliable (handed_by role p parts lack).acts ≡ is_attached Reliable p.acts → ((l : Trace link.Entry) → by_parts Reliable role p parts lack l ≡ l)
    → FullFrom (load old) parts → load c ≤ load old + length (handed_parts parts) → load d ≡ load c → (r.session).broken ≡ None → false ≡ is_link_stopped role outset (handed_by role p parts lack)
    → left c ≡ [] → left d ≡ [] → condition d ≡ condition c → ((t : Trace link.Entry) → stands c t → stands d (t ▷ link.Next None)) → Going stands left condition load old unhanded sent role outset p m false r d
no_further stands left condition load old unhanded sent role outset p m r c d parts (Some reached) rest split handed way unwritten attached none_called full loaded load_is whole goes empty still_empty state_is asked =
    absurd (let bad : Some fault.NoMemory ≡ None = sym (way.reads).broken_is ∙ whole in cc)
no_further stands left condition load old unhanded sent role outset p m r c d parts None rest split handed way unwritten attached none_called full loaded load_is whole goes empty still_empty state_is asked = record {
  parts = parts;
  lack = None;
  rest = rest;
  split = split;
  handed = handed;
  lacks = tt;
  way = asked_once stands left condition rest sent role (after_parts role p parts) (by_parts Lossy role p parts None m) r c d way empty still_empty state_is asked;
  unwritten = unwritten;
  attached = attached;
  none_called = none_called;
  full_from = full;
  loaded = omega (arith, loaded, load_is);
  ended = λ no_more. (refl, sym goes, sym way.left_is ∙ empty);
}

pub turns_off : {L : Type 0} (stands : L → Trace link.Entry → Type 0) (left : L → List (List ℕ)) (condition : L → LinkState) (load : L → ℕ) (old : L) (unhanded : List (List ℕ)) (sent : List ℕ) (role : Role) (outset : Outset) (p : Past) (m : Trace link.Entry) (r now : Reader) (c d : L) (queued : ℕ)
    → Going stands left condition load old unhanded sent role outset p m true r c → LoadAt role outset sent p queued → (r.session).broken ≡ None
    → ((q : Past) (gone : Gone) → Stands r.session q.acts gone → IsAt role outset q gone r.session queued → false ≡ is_link_stopped role outset q)
    → load d ≡ load c → now ≡ r → left c ≡ [] → left d ≡ [] → condition d ≡ condition c → ((t : Trace link.Entry) → stands c t → stands d (t ▷ link.Next None))
    → Going stands left condition load old unhanded sent role outset p m false now d
turns_off stands left condition load old unhanded sent role outset p m r now c d queued g at whole goes load_is same empty still_empty state_is asked =
    let q = handed_by role p g.parts g.lack in
    subst (λ x. Going stands left condition load old unhanded sent role outset p m false x d) (sym same)
    (no_further stands left condition load old unhanded sent role outset p m r c d g.parts g.lack g.rest g.split g.handed g.way g.unwritten g.attached g.none_called g.full_from g.loaded load_is whole
    (goes q (g.way).gone ((g.way).reads).stands (at_now stands left condition load old unhanded sent role outset p m true r c queued g at)) empty still_empty state_is asked)

-- whether there was one or not
pub turns : {L : Type 0} (stands : L → Trace link.Entry → Type 0) (left : L → List (List ℕ)) (condition : L → LinkState) (load : L → ℕ) (old : L) (unhanded : List (List ℕ)) (sent : List ℕ) (role : Role) (outset : Outset) (p : Past) (m : Trace link.Entry) (r now : Reader) (c d : L) (queued : ℕ) (has_part : Bool)
    → Going stands left condition load old unhanded sent role outset p m true r c → LoadAt role outset sent p queued → (r.session).broken ≡ None
    → ((q : Past) (gone : Gone) → Stands r.session q.acts gone → IsAt role outset q gone r.session queued → false ≡ is_link_stopped role outset q)
    → ((rest : List (List ℕ)) (q : Past) (k : Trace link.Entry) → PartWay stands left condition rest sent role q k r c → has_part ≡ true → OnePart stands left condition load c rest sent role q k now d)
    → (has_part ≡ false → (now ≡ r) × (left c ≡ []) × (left d ≡ []) × (condition d ≡ condition c) × ((t : Trace link.Entry) → stands c t → stands d (t ▷ link.Next None))) → (has_part ≡ false → load d ≡ load c)
    → Going stands left condition load old unhanded sent role outset p m has_part now d
turns stands left condition load old unhanded sent role outset p m r now c d queued true g at whole goes took none load_is =
    turns_on stands left condition load old unhanded sent role outset p m r now c d queued g at whole goes (λ rest q k way. took rest q k way refl)
turns stands left condition load old unhanded sent role outset p m r now c d queued false g at whole goes took none load_is =
    let n = none refl in turns_off stands left condition load old unhanded sent role outset p m r now c d queued g at whole goes (load_is refl) n.0 n.1 n.2 n.3 n.4

-- the end is on its way still
pub some_on : {L : Type 0} (stands : L → Trace link.Entry → Type 0) (left : L → List (List ℕ)) (condition : L → LinkState) (load : L → ℕ) (r now : Reader) (c d : L) (has_part : Bool) → SomePart stands left condition r c
    → ((rest : List (List ℕ)) (sent : List ℕ) (role : Role) (q : Past) (k : Trace link.Entry) → PartWay stands left condition rest sent role q k r c → has_part ≡ true → OnePart stands left condition load c rest sent role q k now d)
    → (has_part ≡ false → (now ≡ r) × (left c ≡ []) × (left d ≡ []) × (condition d ≡ condition c) × ((t : Trace link.Entry) → stands c t → stands d (t ▷ link.Next None)))
    → SomePart stands left condition now d
some_on stands left condition load r now c d true some took none =
    let one = took some.0 some.1 some.2 some.3 some.4 some.5 refl in (one.rest, some.1, some.2, _, _, one.way)
some_on stands left condition load r now c d false some took none =
    let n = none refl in
    subst (λ x. SomePart stands left condition x d) (sym n.0)
    (some.0, some.1, some.2, some.3, some.4 ▷ link.Next None, asked_once stands left condition some.0 some.1 some.2 some.3 some.4 r c d some.5 n.1 n.2 n.3 n.4)

-- ---- the end of the loop

left_over : (unhanded done rest : List (List ℕ)) → unhanded ≡ done ++ rest → rest ≡ drop (length done) unhanded
left_over unhanded done rest split = sym (ap (drop (length done)) split ∙ drop-append_seam done rest)

-- no part was left
all_handed : {L : Type 0} (stands : L → Trace link.Entry → Type 0) (left : L → List (List ℕ)) (condition : L → LinkState) (load : L → ℕ) (old : L) (unhanded : List (List ℕ)) (sent : List ℕ) (role : Role) (outset : Outset) (p : Past) (m : Trace link.Entry) (r : Reader) (c : L) (parts : Trace Handed) (lack : Option (Trace Act)) (rest : List (List ℕ))
    → unhanded ≡ handed_parts parts ++ rest → AreHanded role outset p unhanded parts → PartWay stands left condition rest sent role (handed_by role p parts lack) (by_parts Lossy role p parts lack m ▷ link.Next None) r c
    → carried Reliable role (handed_by role p parts lack).acts ≡ carried Reliable role p.acts → ((l : Trace link.Entry) → by_parts Reliable role p parts lack l ≡ l)
    → FullFrom (load old) parts → lack ≡ None → is_link_stopped role outset (after_parts role p parts) ≡ false → rest ≡ [] → AllHanded stands left condition load old unhanded sent role outset p m r c
all_handed stands left condition load old unhanded sent role outset p m r c parts (Some reached) rest split handed way unwritten none_called full all goes empty = absurd (let bad : Some reached ≡ None = all in cc)
all_handed stands left condition load old unhanded sent role outset p m r c parts None rest split handed way unwritten none_called full all goes empty =
    let q = after_parts role p parts in record {
      parts = parts;
      lack = None;
      handed = (handed, inl (split ∙ ap (λ xs. handed_parts parts ++ xs) empty ∙ append-nil (handed_parts parts)));
      lacks = tt;
      way =
          subst (λ b. PartWay stands left condition (drop (length (handed_parts parts)) unhanded) sent role q (asks_once_more Lossy (not b) (by_parts Lossy role p parts None m)) r c) (sym goes)
          (subst (λ xs. PartWay stands left condition xs sent role q (by_parts Lossy role p parts None m ▷ link.Next None) r c) (left_over unhanded (handed_parts parts) rest split) way);
      none_reliable = none_written role p q unwritten;
      none_called = none_called;
      full_from = full;
    }

pub ends_empty : {L : Type 0} (stands : L → Trace link.Entry → Type 0) (left : L → List (List ℕ)) (condition : L → LinkState) (load : L → ℕ) (old : L) (unhanded : List (List ℕ)) (sent : List ℕ) (role : Role) (outset : Outset) (p : Past) (m : Trace link.Entry) (r : Reader) (c : L)
    → Going stands left condition load old unhanded sent role outset p m false r c → AllHanded stands left condition load old unhanded sent role outset p m r c
ends_empty stands left condition load old unhanded sent role outset p m r c g =
    let e = g.ended refl in all_handed stands left condition load old unhanded sent role outset p m r c g.parts g.lack g.rest g.split g.handed g.way g.unwritten g.none_called g.full_from e.0 e.1 e.2

-- or a stop stands
stopped_at : {L : Type 0} (stands : L → Trace link.Entry → Type 0) (left : L → List (List ℕ)) (condition : L → LinkState) (load : L → ℕ) (old : L) (unhanded : List (List ℕ)) (sent : List ℕ) (role : Role) (outset : Outset) (p : Past) (m : Trace link.Entry) (r : Reader) (c : L) (parts : Trace Handed) (lack : Option (Trace Act)) (rest : List (List ℕ))
    → unhanded ≡ handed_parts parts ++ rest → AreHanded role outset p unhanded parts → IsPartLack role p parts lack → PartWay stands left condition rest sent role (handed_by role p parts lack) (by_parts Lossy role p parts lack m) r c
    → carried Reliable role (handed_by role p parts lack).acts ≡ carried Reliable role p.acts → ((l : Trace link.Entry) → by_parts Reliable role p parts lack l ≡ l)
    → FullFrom (load old) parts → true ≡ is_link_stopped role outset (handed_by role p parts lack) → AllHanded stands left condition load old unhanded sent role outset p m r c
stopped_at stands left condition load old unhanded sent role outset p m r c parts (Some reached) rest split handed lacks way unwritten none_called full stops = record {
  parts = parts;
  lack = Some reached;
  handed = handed;
  lacks = lacks;
  way =
      subst (λ xs. PartWay stands left condition xs sent role (handed_by role p parts (Some reached)) (by_parts Lossy role p parts (Some reached) m) r c) (left_over unhanded (handed_parts parts) rest split) way;
  none_reliable = none_written role p (handed_by role p parts (Some reached)) unwritten;
  none_called = none_called;
  full_from = full;
}
stopped_at stands left condition load old unhanded sent role outset p m r c parts None rest split handed lacks way unwritten none_called full stops =
    let q = after_parts role p parts in record {
      parts = parts;
      lack = None;
      handed = (handed, inr (sym stops));
      lacks = tt;
      way =
          subst (λ b. PartWay stands left condition (drop (length (handed_parts parts)) unhanded) sent role q (asks_once_more Lossy (not b) (by_parts Lossy role p parts None m)) r c) stops
          (subst (λ xs. PartWay stands left condition xs sent role q (by_parts Lossy role p parts None m) r c) (left_over unhanded (handed_parts parts) rest split) way);
      none_reliable = none_written role p q unwritten;
      none_called = none_called;
      full_from = full;
    }

pub ends_stopped : {L : Type 0} (stands : L → Trace link.Entry → Type 0) (left : L → List (List ℕ)) (condition : L → LinkState) (load : L → ℕ) (old : L) (unhanded : List (List ℕ)) (sent : List ℕ) (role : Role) (outset : Outset) (p : Past) (m : Trace link.Entry) (r : Reader) (c : L) (queued : ℕ)
    → Going stands left condition load old unhanded sent role outset p m true r c → LoadAt role outset sent p queued
    → ((q : Past) (gone : Gone) → Stands r.session q.acts gone → IsAt role outset q gone r.session queued → true ≡ is_link_stopped role outset q) → AllHanded stands left condition load old unhanded sent role outset p m r c
ends_stopped stands left condition load old unhanded sent role outset p m r c queued g at stops =
    let q = handed_by role p g.parts g.lack in
    stopped_at stands left condition load old unhanded sent role outset p m r c g.parts g.lack g.rest g.split g.handed g.lacks g.way g.unwritten g.none_called g.full_from
    (stops q (g.way).gone ((g.way).reads).stands (at_now stands left condition load old unhanded sent role outset p m true r c queued g at))
