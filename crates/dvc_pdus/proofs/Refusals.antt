-- Each first fault is the answer.
use Rattle.std.proofs.Common.{◌≡◌, inl, inr, ℕ, ◌+◌, ◌^◌, ◌<◌, List, ◌∷◌, ◌++◌, length, map, Ok, Err, refl, sym, ap, ◌∙◌, subst, arith}
use Rattle.std.specs.List.{flat_map}
use Rattle.byteorder.specs.Endian.{little_bytes}
use Rattle.mt_base.specs.Writing.{joined}
use Rattle.mt_base.specs.declared.kinds.Role.{Role}
use Rattle.mt_base.specs.declared.kinds.Role.TheVariants.{Server, Client}
use Rattle.mt_base.proofs.Fields.{as_err}
use Rattle.mt_base.proofs.FrontFields.{left_at, big_cut}
use Rattle.dvc_pdus.specs.declared.pdu.DvcRefusal.{DvcRefusal}
use Rattle.dvc_pdus.specs.declared.pdu.DvcRefusal.TheVariants as refusal
use Rattle.dvc_pdus.specs.Value.{SyncRequest, SyncResponse, list_count}
use Rattle.dvc_pdus.specs.Reading.{◌>>=◌, ended, items_at, list_at, body_at, pdu_at}
use Rattle.dvc_pdus.specs.Layout.{id_in}
use Rattle.dvc_pdus.specs.Faults
use Rattle.dvc_pdus.specs.Faults.{Cut, Headed, HasId, HasLength, HasPad, Named, Listed, list_bytes, RefusedFields}
use Rattle.dvc_pdus.proofs.Items.{items_read, items_refused}
use Rattle.dvc_pdus.proofs.SyncItems.{kind_item, list_item}
use Rattle.dvc_pdus.proofs.Parts.{ended_more, unknown_id, cut_id, unknown_length, unknown_leading_id, leading_as_id}
use Rattle.dvc_pdus.proofs.Bodies.{behind_id, request_name, response_status, data_first_reads, data_first_length, compressed_first_length, within_small, capabilities_pad, capabilities_version, capabilities_charge}
use Rattle.dvc_pdus.proofs.SyncBodies.{request_pad, request_length_cut, request_length_wrong, request_flags, request_tunnels, response_pad, response_count, response_types}
use Rattle.dvc_pdus.proofs.Headers.{headed_reads, unknown_reads, no_body, request_body, response_body, data_first_body, capabilities_body, compressed_first_body, sync_request_body, sync_response_body, id_refused}
use Rattle.dvc_pdus.proofs.SpelledReads.{closed_reads, listed_reads}

header_answer : (from : Role) (bytes : List ℕ) (r : DvcRefusal) → Cut 0 1 bytes r → pdu_at from (left_at 0 bytes) ≡ Err r
unfolding pdu_at
header_answer from bytes r fault = rw (big_cut refusal.Short 1 0 bytes r fault) refl

-- a command with an id is none above 7
id_command : (command : ℕ) → HasId command → command < 16
id_command command has = let most = has.1 in omega arith

id_cut_answer : (from : Role) (bytes : List ℕ) (command own size : ℕ) (rest : List ℕ) (r : DvcRefusal) → HasId command → (HasLength command → own < 3) → size < 3
    → Headed bytes command own size rest → Cut 1 (2 ^ size) rest r → pdu_at from (left_at 0 bytes) ≡ Err r
id_cut_answer from bytes command own size rest r has known small headed fault =
    let cut = cut_id size 1 rest r small fault in
    headed_reads from bytes command own size rest (id_command command has) headed
    ∙ id_refused from command own size (left_at 1 rest) r has (λ long. leading_as_id own size (left_at 1 rest) (known long) ∙ cut) (λ bare. cut)

id_unknown_answer : (from : Role) (bytes : List ℕ) (command own : ℕ) (rest : List ℕ) → HasId command → Headed bytes command own 3 rest
    → pdu_at from (left_at 0 bytes) ≡ Err (refusal.BadCbId 0)
id_unknown_answer from bytes command own rest has headed =
    headed_reads from bytes command own 3 rest (id_command command has) headed
    ∙ id_refused from command own 3 (left_at 1 rest) (refusal.BadCbId 0) has (λ long. unknown_leading_id own (left_at 1 rest)) (λ bare. unknown_id (left_at 1 rest))

-- a command with a length has an id
long_has_id : (command : ℕ) → HasLength command → HasId command
long_has_id command (inl two) = (omega arith, omega arith, λ e. omega arith)
long_has_id command (inr six) = (omega arith, omega arith, λ e. omega arith)

length_unknown_answer : (from : Role) (bytes : List ℕ) (command size : ℕ) (rest : List ℕ) → HasLength command → size < 3 → Headed bytes command 3 size rest
    → pdu_at from (left_at 0 bytes) ≡ Err (refusal.BadLen 0)
length_unknown_answer from bytes command size rest long small headed =
    let has = long_has_id command long in
    headed_reads from bytes command 3 size rest (id_command command has) headed
    ∙ id_refused from command 3 size (left_at 1 rest) (refusal.BadLen 0) has (λ h. unknown_length size (left_at 1 rest) small) (λ bare. absurd (bare long))

length_cut_answer : (from : Role) (bytes : List ℕ) (command own size : ℕ) (rest : List ℕ) (r : DvcRefusal) → HasLength command → own < 3 → Named bytes command own size rest
    → Cut (1 + 2 ^ size) (2 ^ own) rest r → pdu_at from (left_at 0 bytes) ≡ Err r
length_cut_answer from bytes command own size rest r (inl two) small n fault =
    headed_reads from bytes 2 own size (id_in size n.id ++ rest) (omega arith) (subst (λ c. Headed bytes c own size (id_in size n.id ++ rest)) two n.bytes_are)
    ∙ data_first_body from own size (left_at 1 (id_in size n.id ++ rest)) ∙ data_first_length own size n.id rest r n.fits small fault
length_cut_answer from bytes command own size rest r (inr six) small n fault =
    headed_reads from bytes 6 own size (id_in size n.id ++ rest) (omega arith) (subst (λ c. Headed bytes c own size (id_in size n.id ++ rest)) six n.bytes_are)
    ∙ compressed_first_body from own size (left_at 1 (id_in size n.id ++ rest)) ∙ compressed_first_length own size n.id rest r n.fits small fault

pad_cut_answer : (from : Role) (bytes : List ℕ) (command own size : ℕ) (rest : List ℕ) (r : DvcRefusal) → HasPad command → Headed bytes command own size rest → Cut 1 1 rest r
    → pdu_at from (left_at 0 bytes) ≡ Err r
pad_cut_answer from bytes command own size rest r (inl five) headed fault =
    headed_reads from bytes 5 own size rest (omega arith) (subst (λ c. Headed bytes c own size rest) five headed) ∙ capabilities_body from own size (left_at 1 rest) ∙ capabilities_pad rest r fault
pad_cut_answer from bytes command own size rest r (inr (inl eight)) headed fault =
    headed_reads from bytes 8 own size rest (omega arith) (subst (λ c. Headed bytes c own size rest) eight headed) ∙ sync_request_body from own size (left_at 1 rest) ∙ request_pad rest r fault
pad_cut_answer from bytes command own size rest r (inr (inr nine)) headed fault =
    headed_reads from bytes 9 own size rest (omega arith) (subst (λ c. Headed bytes c own size rest) nine headed) ∙ sync_response_body from own size (left_at 1 rest) ∙ response_pad rest r fault

-- each first fault is the answer
pub fault_answer : (from : Role) (bytes : List ℕ) (r : DvcRefusal) → RefusedFields from bytes r → pdu_at from (left_at 0 bytes) ≡ Err r
fault_answer from bytes r (Faults.header_cut fault) = header_answer from bytes r fault
fault_answer from bytes r (Faults.unknown command own size rest none headed is) =
    headed_reads from bytes command own size rest none.0 headed ∙ ap (λ c. body_at from c own size (left_at 1 rest)) (unknown_reads command none)
    ∙ as_err (no_body from own size (left_at 1 rest)) is
fault_answer from bytes r (Faults.id_unknown command own rest has headed is) = as_err (id_unknown_answer from bytes command own rest has headed) is
fault_answer from bytes r (Faults.length_unknown command size rest long small headed is) = as_err (length_unknown_answer from bytes command size rest long small headed) is
fault_answer from bytes r (Faults.id_cut command own size rest has known small headed fault) = id_cut_answer from bytes command own size rest r has known small headed fault
fault_answer from bytes r (Faults.length_cut command own size rest long small n fault) = length_cut_answer from bytes command own size rest r long small n fault
fault_answer from bytes r (Faults.too_small own size total rest fits n more is) =
    let body = id_in size n.id ++ (id_in own total ++ rest) in
    let place : 1 + length (id_in size n.id) ≡ 1 + 2 ^ size = sym (behind_id size n.id) in
    headed_reads from bytes 2 own size body (omega arith) n.bytes_are ∙ data_first_body from own size (left_at 1 body)
    ∙ data_first_reads own size n.id total n.fits fits 1 rest ∙ within_small (1 + length (id_in size n.id)) n.id total rest more ∙ ap (λ n. Err (refusal.LengthTooSmall n)) place ∙ ap Err (sym is)
fault_answer from bytes r (Faults.name_wrong own size rest server n fault) =
    subst (λ f. pdu_at f (left_at 0 bytes) ≡ Err r) (sym server)
    (headed_reads Server bytes 1 own size (id_in size n.id ++ rest) (omega arith) n.bytes_are ∙ request_body own size (left_at 1 (id_in size n.id ++ rest)) ∙ request_name own size n.id rest r n.fits fault)
fault_answer from bytes r (Faults.status_cut own size rest client n fault) =
    subst (λ f. pdu_at f (left_at 0 bytes) ≡ Err r) (sym client)
    (headed_reads Client bytes 1 own size (id_in size n.id ++ rest) (omega arith) n.bytes_are ∙ response_body own size (left_at 1 (id_in size n.id ++ rest)) ∙ response_status size n.id rest r n.fits fault)
fault_answer from bytes r (Faults.pad_cut command own size rest has headed fault) = pad_cut_answer from bytes command own size rest r has headed fault
fault_answer from bytes r (Faults.version_cut own size pad rest p headed fault) =
    headed_reads from bytes 5 own size (pad ∷ rest) (omega arith) headed ∙ capabilities_body from own size (left_at 1 (pad ∷ rest)) ∙ capabilities_version pad rest r p fault
fault_answer from bytes r (Faults.charge_cut own size pad version before rest p v good few some headed fault) =
    let body = pad ∷ (little_bytes 2 version ++ (joined (map (little_bytes 2) before) ++ rest)) in
    headed_reads from bytes 5 own size body (omega arith) headed ∙ capabilities_body from own size (left_at 1 body) ∙ capabilities_charge pad version before rest r p v good few some fault
fault_answer from bytes r (Faults.sync_length_cut own size pad rest p headed fault) =
    headed_reads from bytes 8 own size (pad ∷ rest) (omega arith) headed ∙ sync_request_body from own size (left_at 1 (pad ∷ rest)) ∙ request_length_cut pad rest r p fault
fault_answer from bytes r (Faults.sync_length_wrong own size pad told rest p small headed differs is) =
    let body = pad ∷ (little_bytes 4 told ++ rest) in
    headed_reads from bytes 8 own size body (omega arith) headed ∙ sync_request_body from own size (left_at 1 body) ∙ as_err (request_length_wrong pad told rest p small differs) is
fault_answer from bytes r (Faults.flags_cut rest c fault) =
    let body = c.pad ∷ (little_bytes 4 (4 + length rest) ++ rest) in
    headed_reads from bytes 8 c.own c.size body (omega arith) c.bytes_are ∙ sync_request_body from c.own c.size (left_at 1 body) ∙ request_flags c.pad rest r c.pad_fits c.fits fault
fault_answer from bytes r (Faults.tunnels_cut flags rest f c fault) =
    let behind = little_bytes 2 flags ++ rest in
    let body = c.pad ∷ (little_bytes 4 (4 + length behind) ++ behind) in
    headed_reads from bytes 8 c.own c.size body (omega arith) c.bytes_are ∙ sync_request_body from c.own c.size (left_at 1 body) ∙ request_tunnels c.pad flags rest r c.pad_fits f c.fits fault
fault_answer from bytes r (Faults.list_wrong flags tunnels rest listed fault) =
    listed_reads from bytes flags tunnels rest listed
    ∙ ap (λ r. r >>= λ lists. ended (SyncRequest flags tunnels lists.0) lists.1) (items_refused list_item (list_count flags tunnels) 10 rest r fault)
fault_answer from bytes r (Faults.lists_trailing flags tunnels lists b rest good count listed is) =
    let all = flat_map list_bytes lists in
    let read : items_at list_at (list_count flags tunnels) (left_at 10 (all ++ (b ∷ rest))) ≡ Ok (lists, left_at (10 + length all) (b ∷ rest)) =
    ap (λ n. items_at list_at n (left_at 10 (all ++ (b ∷ rest)))) (sym count) ∙ items_read list_item lists good 10 (b ∷ rest) in
    listed_reads from bytes flags tunnels (all ++ (b ∷ rest)) listed
    ∙ ap (λ r. r >>= λ lists. ended (SyncRequest flags tunnels lists.0) lists.1) read ∙ as_err (ended_more (SyncRequest flags tunnels lists) (10 + length all) b rest) is
fault_answer from bytes r (Faults.types_count_cut own size pad rest p headed fault) =
    headed_reads from bytes 9 own size (pad ∷ rest) (omega arith) headed ∙ sync_response_body from own size (left_at 1 (pad ∷ rest)) ∙ response_count pad rest r p fault
fault_answer from bytes r (Faults.type_wrong own size pad count rest p small headed fault) =
    let body = pad ∷ (little_bytes 4 count ++ rest) in
    headed_reads from bytes 9 own size body (omega arith) headed ∙ sync_response_body from own size (left_at 1 body) ∙ response_types pad count rest p small
    ∙ ap (λ r. r >>= λ types. ended (SyncResponse types.0) types.1) (items_refused kind_item count 6 rest r fault)
fault_answer from bytes r (Faults.trailing pdu text rest b spells closed is r_is) =
    ap (λ t. pdu_at from (left_at 0 t)) is ∙ closed_reads from text pdu spells closed (b ∷ rest) ∙ as_err (ended_more pdu (length text) b rest) r_is
