-- What a frame or a tunnel PDU adds to the main queue, with the answers that stay owed.
use Rattle.std.proofs.Common.{◌≡◌, ℕ, ◌+◌, ◌*◌, ◌≤◌, List, length, Option, Result, ap, arith}
use Rattle.mt_base.specs.Trace.{Trace}
use Rattle.dvc_pdus.specs.declared.pdu.DvcRefusal.{DvcRefusal}
use Rattle.dvc_pdus.specs.Value.{Pdu}
use Rattle.mt_endpoint.specs.Acts.{Act, Heard}
use Rattle.end_calls.specs.declared.limits.TheConstants.{ANSWER}
use Rattle.end_session.specs.Freeing.{freed_by}
use Rattle.end_session.specs.Hearing.{IsHeard}
use Rattle.end_session.specs.Outgoing.{Outgoing}
use Rattle.end_session.specs.Standing.{Gone, Stands}
use Rattle.end_session.specs.Store.{Store}
use Rattle.end_session.proofs.WholeHeard.{IsDue, owed_more}

-- the bytes that wait, and those that answers to Soft-Sync requests may still take
abbrev claimed : Store → ℕ
claimed s = length (s.outgoing).main + 17 * s.owed

-- a frame with its answers
pub heard_claims : (s first now : Store) (r : Result Heard DvcRefusal) → ((t : Trace Act) × (gone : Gone) × Stands s t gone) → ((t : Trace Act) (gone : Gone) → Stands s t gone → IsHeard s.role r t gone first)
    → length (first.outgoing).main ≤ length (s.outgoing).main + 12 → claimed now ≤ claimed first → claimed now ≤ claimed s + 2304
heard_claims s first now r w heard written settled = omega (arith, written, settled, owed_more s first r w.0 w.1 w.2 (heard w.0 w.1 w.2))

-- and with the closes that are released
pub freed_claims : (s first now after last : Store) (r : Result Heard DvcRefusal) (pdu : Pdu) (request : Option ℕ) (t : Trace Act) (gone : Gone) → Stands s t gone → IsDue s now r pdu request t gone
    → ((t : Trace Act) (gone : Gone) → Stands s t gone → IsHeard s.role r t gone first) → length (first.outgoing).main ≤ length (s.outgoing).main + 12 → claimed now ≤ claimed first
    → length (after.outgoing).main ≤ length (now.outgoing).main + 8 * length (freed_by pdu request (now.paths).made) → after.owed ≡ now.owed
    → last.outgoing ≡ after.outgoing → last.owed ≡ after.owed → claimed last ≤ claimed s + 2304
freed_claims s first now after last r pdu request t gone st d heard written settled more same o_is owed_is =
    omega (arith, written, settled, more, same, owed_is, ap (λ (o : Outgoing). length o.main) o_is, d.few, owed_more s first r t gone st (heard t gone st))
