-- An end owes at most 256 answers.
use Rattle.std.proofs.Common.{◌≡◌, ◌<◌, ◌≤◌, Bool, true, false, cond, nat_le, List, [], ◌∷◌, ◌++◌, length, length-append, append-nil, Option, Some, None, refl, ap, arith}
use Rattle.std.proofs.lemmas.Bool.{leb-false}
use Rattle.mt_base.specs.declared.kinds.Role.{Role}
use Rattle.mt_base.specs.declared.kinds.Role.TheVariants.{Server, Client}
use Rattle.mt_base.specs.Trace.{Trace, Start, ◌▷◌}
use Rattle.dvc_pdus.specs.Value.{ChannelList, SyncRequest}
use Rattle.soft_sync.specs.declared.kinds.Kinds.{Kinds}
use Rattle.soft_sync.specs.Exchanges.{Request, exchanges}
use Rattle.mt_endpoint.specs.Acts.{Act, Hears, Spoken}
use Rattle.mt_endpoint.specs.Alone.{EndOfActs, IsAct}
use Rattle.mt_endpoint.specs.Faults.{Unexpected, Why, ids_fault, request_fault}
use Rattle.mt_endpoint.specs.Moving.{all_told, answer_made, channels_listed, read_by, unanswered_in}
use Rattle.mt_endpoint.specs.Said.{Moves}
use Rattle.mt_endpoint.proofs.Creating.{heard_fine}
use Rattle.end_calls.specs.Stops.{answers_owed}

-- a request without a fault comes behind fewer than 256
not_many : (many : Bool) (later : Option Why) → cond many (Some Unexpected) later ≡ None → many ≡ false
not_many true later h = absurd (let no : Some Unexpected ≡ None = h in cc)
not_many false later h = refl

fine_few : (role : Role) (t : Trace Act) (lists : List ChannelList) → request_fault role t lists ≡ None → length (all_told read_by t) < 256
fine_few Server t lists h = absurd (let no : Some Unexpected ≡ None = h in cc)
fine_few Client t lists h = leb-false 256 (length (all_told read_by t)) (not_many (nat_le 256 (length (all_told read_by t))) (ids_fault Client t [] (channels_listed lists)) h)

few_act : (role : Role) (t : Trace Act) (act : Act) → IsAct role t act → length (all_told read_by t) ≤ 256 → length (all_told read_by t ++ read_by act) ≤ 256
few_act role t (Hears (Spoken (SyncRequest flags tunnels lists))) a h =
    omega (arith, fine_few role t lists (heard_fine role t (SyncRequest flags tunnels lists) (Moves lists) a refl refl), length-append (all_told read_by t) (read_by (Hears (Spoken (SyncRequest flags tunnels lists)))))
few_act role t act a h = omega (arith, h, ap length (append-nil (all_told read_by t)))

few_read : (role : Role) (t : Trace Act) → EndOfActs role t → length (all_told read_by t) ≤ 256
few_read role Start e = omega arith
few_read role (t ▷ act) e = few_act role t act e.1 (few_read role t e.2)

few_of : (requests : List Request) (answers : List Kinds) → length (unanswered_in (exchanges requests answers)) ≤ length requests
few_of [] answers = omega arith
few_of (r ∷ requests) [] = omega (arith, few_of requests [])
few_of (r ∷ requests) (z ∷ answers) = omega (arith, few_of requests answers)

-- so room for 4,352 bytes is enough for them
pub few_owed : (role : Role) (t : Trace Act) → EndOfActs role t → answers_owed t ≤ 4352
few_owed role t e = omega (arith, few_of (all_told read_by t) (all_told answer_made t), few_read role t e)
