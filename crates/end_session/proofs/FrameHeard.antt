-- A frame of the main stream is read, or isn't.
use Rattle.std.proofs.Common.{◌≡◌, ℕ, true, false, List, Option, Some, None, IsSome, Result, Ok, Err, IfErr, IsErrAnd, sym, ap, subst, ◌∙◌}
use Rattle.mt_base.specs.Ends.{other}
use Rattle.mt_base.specs.declared.kinds.Role.{Role}
use Rattle.mt_base.specs.Trace.{Trace, ◌▷◌}
use Rattle.dvc_pdus.specs.declared.pdu.DvcRefusal.{DvcRefusal}
use Rattle.dvc_pdus.specs.Reading.{reading}
use Rattle.dvc_pdus.specs.Value.{Pdu}
use Rattle.tunnel_pdus.specs.Value.{Frame, Channel}
use Rattle.mt_endpoint.specs.Acts.{Act, Heard, Hears, Spoken}
use Rattle.mt_endpoint.specs.Faults.{Why, main_fault}
use Rattle.end_calls.specs.Law.{takes_memory}
use Rattle.end_calls.specs.Streams.{heard_by, spoken_by}
use Rattle.end_session.specs.declared.cause.Cause.{Cause}
use Rattle.end_session.specs.declared.unread.Unread.{Unread}
use Rattle.end_session.specs.declared.unread.Unread.TheVariants as unread
use Rattle.end_session.specs.Causes.{IsCause, why_of}
use Rattle.end_session.specs.Hearing.{IsHeard, IsUnread, MayLack}
use Rattle.end_session.specs.Standing.{Gone, Stands}
use Rattle.end_session.specs.Store.{Store}

-- ---- want of memory

pub never_lacks : (act : Act) (found : Option Why) → IsSome found → MayLack act found
never_lacks act None h = absurd (let no : false ≡ true = h in cc)
never_lacks act (Some why) h = tt

pub may_lack : (act : Act) (found : Option Why) → takes_memory act ≡ true → MayLack act found
may_lack act None h = h
may_lack act (Some why) h = tt

-- ---- frames

-- what the frame of a channel PDU says
pub says : (role from : Role) (bytes : List ℕ) (f : Frame) (pdu : Pdu) → f ≡ Channel bytes → from ≡ other role → reading from bytes ≡ Ok pdu → heard_by role f ≡ Ok (Spoken pdu)
says role from bytes f pdu is from_is read = ap (heard_by role) is ∙ ap spoken_by (ap (λ r. reading r bytes) (sym from_is) ∙ read)

pub is_heard : (role : Role) (h : Result Heard DvcRefusal) (heard : Heard) (t : Trace Act) (gone : Gone) (s : Store) → h ≡ Ok heard → (main_fault role t heard ≡ None) × Stands s (t ▷ Hears heard) gone → IsHeard role h t gone s
is_heard role h heard t gone s is done = subst (λ h. IsHeard role h t gone s) (sym is) done

pub is_unread : {X : Type 0} (role : Role) (h : Result Heard DvcRefusal) (heard : Heard) (t : Trace Act) (cause : Cause) (r : Result X Unread) → h ≡ Ok heard → IsErrAnd r (λ why. why ≡ unread.Cause cause)
    → IsCause (main_fault role t heard) cause → MayLack (Hears heard) (why_of cause) → IfErr r (λ why. IsUnread role h t why)
is_unread role h heard t cause (Ok x) is e found lacks = tt
is_unread role h heard t cause (Err why) is e found lacks = subst (λ w. IsUnread role h t w) (sym e) (subst (λ h. IsUnread role h t (unread.Cause cause)) (sym is) (found, lacks))
