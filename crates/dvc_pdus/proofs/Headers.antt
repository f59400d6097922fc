-- The header byte: the command that it names, and what is read behind it.
use Rattle.std.proofs.Common.{◌≡◌, ◌≢◌, ◌⊎◌, inl, inr, eqb, ℕ, ◌+◌, ◌*◌, ◌/◌, ◌%◌, ◌<◌, ◌≤◌, false, List, Some, None, Err, refl, sym, ◌∙◌, subst, arith}
use Rattle.std.proofs.lemmas.Bool.{cases_eq, ne_eqb}
use Rattle.mt_base.specs.Reading.{Left}
use Rattle.mt_base.specs.declared.kinds.Role.{Role}
use Rattle.mt_base.specs.declared.kinds.Role.TheVariants.{Server, Client}
use Rattle.mt_base.proofs.FrontFields.{left_at, byte_reads}
use Rattle.dvc_pdus.specs.declared.command.Command.TheVariants as command
use Rattle.dvc_pdus.specs.declared.pdu.DvcRefusal.{DvcRefusal}
use Rattle.dvc_pdus.specs.declared.pdu.DvcRefusal.TheVariants as refusal
use Rattle.dvc_pdus.specs.Reading.{command_of, id_at, leading_id_at, capabilities_at, create_request_at, create_response_at, data_first_at, data_at, compressed_first_at, compressed_at, close_at, sync_request_at, sync_response_at, body_at, pdu_at}
use Rattle.dvc_pdus.specs.Faults.{Headed, IsUnknown, HasId, HasLength}

-- behind a header byte the body is read
pub headed_reads : (from : Role) (bytes : List ℕ) (command own size : ℕ) (rest : List ℕ) → command < 16 → Headed bytes command own size rest
    → pdu_at from (left_at 0 bytes) ≡ body_at from (command_of command) own size (left_at 1 rest)
unfolding pdu_at
headed_reads from bytes command own size rest small (o, z, is) =
    let x = command * 16 + own * 4 + size in
    let c : x / 16 ≡ command = omega arith in
    let w : x / 4 % 4 ≡ own = omega arith in
    let n : x % 4 ≡ size = omega arith in
    rw (is, byte_reads refusal.Short x (omega arith) 0 rest) (parts x command own size c w n)
  where
    parts : (x command own size : ℕ) → x / 16 ≡ command → x / 4 % 4 ≡ own → x % 4 ≡ size
        → body_at from (command_of (x / 16)) (x / 4 % 4) (x % 4) (left_at 1 rest) ≡ body_at from (command_of command) own size (left_at 1 rest)
    parts x command own size c w n = rw (c, w, n) refl

pub unknown_reads : (command : ℕ) → IsUnknown command → command_of command ≡ None
unknown_reads command (small, which) =
    rw (
      off 1 (omega arith) (omega arith),
      off 2 (omega arith) (omega arith),
      off 3 (omega arith) (omega arith),
      off 4 (omega arith) (omega arith),
      off 5 (omega arith) (omega arith),
      off 6 (omega arith) (omega arith),
      off 7 (omega arith) (omega arith),
      off 8 (omega arith) (omega arith),
      off 9 (omega arith) (omega arith),
    ) refl
  where
    off : (k : ℕ) → 1 ≤ k → k ≤ 9 → eqb command k ≡ false
    off k low high = ne_eqb command k (λ e. differ e which)
      where
        differ : command ≡ k → (command ≡ 0) ⊎ (9 < command) → ⊥
        differ e (inl z) = omega arith
        differ e (inr h) = omega arith

-- ---- the body of each command

pub no_body : (from : Role) (own size : ℕ) (s : Left) → body_at from None own size s ≡ Err (refusal.UnknownCommand 0)
unfolding body_at
no_body Server own size s = refl
no_body Client own size s = refl

pub request_body : (own size : ℕ) (s : Left) → body_at Server (Some command.Create) own size s ≡ create_request_at own size s
unfolding body_at
request_body own size s = refl

pub response_body : (own size : ℕ) (s : Left) → body_at Client (Some command.Create) own size s ≡ create_response_at size s
unfolding body_at
response_body own size s = refl

pub data_first_body : (from : Role) (own size : ℕ) (s : Left) → body_at from (Some command.DataFirst) own size s ≡ data_first_at own size s
unfolding body_at
data_first_body Server own size s = refl
data_first_body Client own size s = refl

pub data_body : (from : Role) (own size : ℕ) (s : Left) → body_at from (Some command.Data) own size s ≡ data_at size s
unfolding body_at
data_body Server own size s = refl
data_body Client own size s = refl

pub close_body : (from : Role) (own size : ℕ) (s : Left) → body_at from (Some command.Close) own size s ≡ close_at size s
unfolding body_at
close_body Server own size s = refl
close_body Client own size s = refl

pub capabilities_body : (from : Role) (own size : ℕ) (s : Left) → body_at from (Some command.Capabilities) own size s ≡ capabilities_at s
unfolding body_at
capabilities_body Server own size s = refl
capabilities_body Client own size s = refl

pub compressed_first_body : (from : Role) (own size : ℕ) (s : Left) → body_at from (Some command.CompressedFirst) own size s ≡ compressed_first_at own size s
unfolding body_at
compressed_first_body Server own size s = refl
compressed_first_body Client own size s = refl

pub compressed_body : (from : Role) (own size : ℕ) (s : Left) → body_at from (Some command.Compressed) own size s ≡ compressed_at size s
unfolding body_at
compressed_body Server own size s = refl
compressed_body Client own size s = refl

pub sync_request_body : (from : Role) (own size : ℕ) (s : Left) → body_at from (Some command.SyncRequest) own size s ≡ sync_request_at s
unfolding body_at
sync_request_body Server own size s = refl
sync_request_body Client own size s = refl

pub sync_response_body : (from : Role) (own size : ℕ) (s : Left) → body_at from (Some command.SyncResponse) own size s ≡ sync_response_at s
unfolding body_at
sync_response_body Server own size s = refl
sync_response_body Client own size s = refl

-- ---- an id that is refused

create_id : (from : Role) (own size : ℕ) (s : Left) (r : DvcRefusal) → id_at size s ≡ Err r → body_at from (Some command.Create) own size s ≡ Err r
unfolding body_at create_request_at create_response_at
create_id Server own size s r is = rw is refl
create_id Client own size s r is = rw is refl

data_first_id : (own size : ℕ) (s : Left) (r : DvcRefusal) → leading_id_at own size s ≡ Err r → data_first_at own size s ≡ Err r
unfolding data_first_at
data_first_id own size s r is = rw is refl

data_id : (size : ℕ) (s : Left) (r : DvcRefusal) → id_at size s ≡ Err r → data_at size s ≡ Err r
unfolding data_at
data_id size s r is = rw is refl

close_id : (size : ℕ) (s : Left) (r : DvcRefusal) → id_at size s ≡ Err r → close_at size s ≡ Err r
unfolding close_at
close_id size s r is = rw is refl

compressed_first_id : (own size : ℕ) (s : Left) (r : DvcRefusal) → leading_id_at own size s ≡ Err r → compressed_first_at own size s ≡ Err r
unfolding compressed_first_at
compressed_first_id own size s r is = rw is refl

compressed_id : (size : ℕ) (s : Left) (r : DvcRefusal) → id_at size s ≡ Err r → compressed_at size s ≡ Err r
unfolding compressed_at
compressed_id size s r is = rw is refl

-- the commands with an id
pub data WithId (command : ℕ) : Type 0 where
  create : command ≡ 1 → WithId command
  data_first : command ≡ 2 → WithId command
  data_more : command ≡ 3 → WithId command
  close : command ≡ 4 → WithId command
  compressed_first : command ≡ 6 → WithId command
  compressed : command ≡ 7 → WithId command

pub with_id : (command : ℕ) → HasId command → WithId command
with_id command (low, high, not_five) =
    elim (cases_eq command 1) [
      | inl e ↦ create e
      | inr a ↦ elim (cases_eq command 2) [
        | inl e ↦ data_first e
        | inr b ↦ elim (cases_eq command 3) [
          | inl e ↦ data_more e
          | inr c ↦ elim (cases_eq command 4) [
            | inl e ↦ close e
            | inr d ↦ elim (cases_eq command 6) [
              | inl e ↦ compressed_first e
              | inr f ↦ compressed (seven command low high a b c d not_five f)
            ]
          ]
        ]
      ]
    ]
  where
    seven : (n : ℕ) → 1 ≤ n → n ≤ 7 → n ≢ 1 → n ≢ 2 → n ≢ 3 → n ≢ 4 → n ≢ 5 → n ≢ 6 → n ≡ 7
    seven n low high a b c d five f = omega arith

-- an id that is refused, also one that a length stands behind, is the answer
pub id_refused : (from : Role) (command own size : ℕ) (s : Left) (r : DvcRefusal) → HasId command
    → (HasLength command → leading_id_at own size s ≡ Err r) → ((HasLength command → ⊥) → id_at size s ≡ Err r) → body_at from (command_of command) own size s ≡ Err r
id_refused from command own size s r has leading plain = by_command (with_id command has)
  where
    at_code : (k : ℕ) → command ≡ k → body_at from (command_of k) own size s ≡ Err r → body_at from (command_of command) own size s ≡ Err r
    at_code k is body = subst (λ c. body_at from (command_of c) own size s ≡ Err r) (sym is) body

    bare : (k : ℕ) → command ≡ k → k ≢ 2 → k ≢ 6 → HasLength command → ⊥
    bare k is two six (inl e) = two (sym is ∙ e)
    bare k is two six (inr e) = six (sym is ∙ e)

    by_command : WithId command → body_at from (command_of command) own size s ≡ Err r
    by_command (create e) = at_code 1 e (create_id from own size s r (plain (bare 1 e (λ h. omega arith) (λ h. omega arith))))
    by_command (data_first e) = at_code 2 e (data_first_body from own size s ∙ data_first_id own size s r (leading (inl e)))
    by_command (data_more e) = at_code 3 e (data_body from own size s ∙ data_id size s r (plain (bare 3 e (λ h. omega arith) (λ h. omega arith))))
    by_command (close e) = at_code 4 e (close_body from own size s ∙ close_id size s r (plain (bare 4 e (λ h. omega arith) (λ h. omega arith))))
    by_command (compressed_first e) = at_code 6 e (compressed_first_body from own size s ∙ compressed_first_id own size s r (leading (inr e)))
    by_command (compressed e) = at_code 7 e (compressed_body from own size s ∙ compressed_id size s r (plain (bare 7 e (λ h. omega arith) (λ h. omega arith))))
