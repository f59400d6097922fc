-- What the reading of Soft-Sync PDUs gives: at the bytes that spell them, and at each fault.
use Rattle.std.proofs.Common.{◌≡◌, ◌≢◌, ℕ, ◌+◌, ◌^◌, ◌<◌, List, ◌∷◌, ◌++◌, length, Result, Ok, Err, refl, ◌∙◌}
use Rattle.std.proofs.lemmas.Bool.{ne_eqb, eq-eqb}
use Rattle.byteorder.specs.Endian.{little_bytes}
use Rattle.mt_base.specs.Reading.{Left, little}
use Rattle.mt_base.proofs.FrontFields.{left_at, byte_reads, little_reads, little_cut, big_cut}
use Rattle.dvc_pdus.specs.declared.pdu.DvcRefusal.{DvcRefusal}
use Rattle.dvc_pdus.specs.declared.pdu.DvcRefusal.TheVariants as refusal
use Rattle.dvc_pdus.specs.Value.{Pdu, SyncRequest, SyncResponse, list_count}
use Rattle.dvc_pdus.specs.Reading.{◌>>=◌, cut, ended, items_at, list_at, kind_at, sync_length_at, sync_request_at, sync_response_at}
use Rattle.dvc_pdus.specs.Faults.{Cut}

-- ---- the Length

length_right : (rest : List ℕ) → 4 + length rest < 2 ^ 32 → sync_length_at (left_at 2 (little_bytes 4 (4 + length rest) ++ rest)) ≡ Ok (4 + length rest, left_at 6 rest)
unfolding sync_length_at
length_right rest fits =
    rw (little_reads refusal.Short 4 (4 + length rest) fits 2 rest, eq-eqb (4 + length rest) (4 + length rest) refl) refl

length_wrong : (told : ℕ) (rest : List ℕ) → told < 2 ^ 32 → told ≢ 4 + length rest → sync_length_at (left_at 2 (little_bytes 4 told ++ rest)) ≡ Err (refusal.SyncLength 2)
unfolding sync_length_at
length_wrong told rest fits differs = rw (little_reads refusal.Short 4 told fits 2 rest, ne_eqb told (4 + length rest) differs) refl

length_cut : (rest : List ℕ) (r : DvcRefusal) → Cut 2 4 rest r → sync_length_at (left_at 2 rest) ≡ Err r
unfolding sync_length_at
length_cut rest r fault = rw (little_cut refusal.Short 4 2 rest r fault) refl

-- ---- a request

-- what stands behind the Length
abbrev flags_on : Left → Result Pdu DvcRefusal
flags_on s = do
  flags ← cut (little 2 s)
  tunnels ← cut (little 2 flags.1)
  lists ← items_at list_at (list_count flags.0 tunnels.0) tunnels.1
  ended (SyncRequest flags.0 tunnels.0 lists.0) lists.1

-- the lists, and what stands behind them
abbrev pub lists_on : ℕ → ℕ → Left → Result Pdu DvcRefusal
lists_on flags tunnels s = items_at list_at (list_count flags tunnels) s >>= λ lists. ended (SyncRequest flags tunnels lists.0) lists.1

counted : (pad : ℕ) (rest : List ℕ) → pad < 256 → 4 + length rest < 2 ^ 32 → sync_request_at (left_at 1 (pad ∷ (little_bytes 4 (4 + length rest) ++ rest))) ≡ flags_on (left_at 6 rest)
unfolding sync_request_at
counted pad rest p fits = rw (byte_reads refusal.Short pad p 1 (little_bytes 4 (4 + length rest) ++ rest), length_right rest fits) refl

pub request_pad : (rest : List ℕ) (r : DvcRefusal) → Cut 1 1 rest r → sync_request_at (left_at 1 rest) ≡ Err r
unfolding sync_request_at
request_pad rest r fault = rw (big_cut refusal.Short 1 1 rest r fault) refl

pub request_length_cut : (pad : ℕ) (rest : List ℕ) (r : DvcRefusal) → pad < 256 → Cut 2 4 rest r → sync_request_at (left_at 1 (pad ∷ rest)) ≡ Err r
unfolding sync_request_at
request_length_cut pad rest r p fault = rw (byte_reads refusal.Short pad p 1 rest, length_cut rest r fault) refl

pub request_length_wrong : (pad told : ℕ) (rest : List ℕ) → pad < 256 → told < 2 ^ 32 → told ≢ 4 + length rest
    → sync_request_at (left_at 1 (pad ∷ (little_bytes 4 told ++ rest))) ≡ Err (refusal.SyncLength 2)
unfolding sync_request_at
request_length_wrong pad told rest p fits differs = rw (byte_reads refusal.Short pad p 1 (little_bytes 4 told ++ rest), length_wrong told rest fits differs) refl

pub request_flags : (pad : ℕ) (rest : List ℕ) (r : DvcRefusal) → pad < 256 → 4 + length rest < 2 ^ 32 → Cut 6 2 rest r
    → sync_request_at (left_at 1 (pad ∷ (little_bytes 4 (4 + length rest) ++ rest))) ≡ Err r
request_flags pad rest r p fits fault = counted pad rest p fits ∙ rw (little_cut refusal.Short 2 6 rest r fault) refl

pub request_tunnels : (pad flags : ℕ) (rest : List ℕ) (r : DvcRefusal) → pad < 256 → flags < 2 ^ 16 → 4 + length (little_bytes 2 flags ++ rest) < 2 ^ 32 → Cut 8 2 rest r
    → sync_request_at (left_at 1 (pad ∷ (little_bytes 4 (4 + length (little_bytes 2 flags ++ rest)) ++ (little_bytes 2 flags ++ rest)))) ≡ Err r
request_tunnels pad flags rest r p f fits fault =
    counted pad (little_bytes 2 flags ++ rest) p fits ∙ rw (little_reads refusal.Short 2 flags f 6 rest, little_cut refusal.Short 2 8 rest r fault) refl

pub request_lists : (pad flags tunnels : ℕ) (rest : List ℕ) → pad < 256 → flags < 2 ^ 16 → tunnels < 2 ^ 16 → 4 + length (little_bytes 2 flags ++ (little_bytes 2 tunnels ++ rest)) < 2 ^ 32
    → sync_request_at (left_at 1 (pad ∷ (little_bytes 4 (4 + length (little_bytes 2 flags ++ (little_bytes 2 tunnels ++ rest))) ++ (little_bytes 2 flags ++ (little_bytes 2 tunnels ++ rest)))))
    ≡ lists_on flags tunnels (left_at 10 rest)
request_lists pad flags tunnels rest p f t fits =
    counted pad (little_bytes 2 flags ++ (little_bytes 2 tunnels ++ rest)) p fits
    ∙ rw (little_reads refusal.Short 2 flags f 6 (little_bytes 2 tunnels ++ rest), little_reads refusal.Short 2 tunnels t 8 rest) refl

-- ---- a response

abbrev pub types_on : ℕ → Left → Result Pdu DvcRefusal
types_on count s = items_at kind_at count s >>= λ types. ended (SyncResponse types.0) types.1

pub response_pad : (rest : List ℕ) (r : DvcRefusal) → Cut 1 1 rest r → sync_response_at (left_at 1 rest) ≡ Err r
unfolding sync_response_at
response_pad rest r fault = rw (big_cut refusal.Short 1 1 rest r fault) refl

pub response_count : (pad : ℕ) (rest : List ℕ) (r : DvcRefusal) → pad < 256 → Cut 2 4 rest r → sync_response_at (left_at 1 (pad ∷ rest)) ≡ Err r
unfolding sync_response_at
response_count pad rest r p fault = rw (byte_reads refusal.Short pad p 1 rest, little_cut refusal.Short 4 2 rest r fault) refl

pub response_types : (pad count : ℕ) (rest : List ℕ) → pad < 256 → count < 2 ^ 32 → sync_response_at (left_at 1 (pad ∷ (little_bytes 4 count ++ rest))) ≡ types_on count (left_at 6 rest)
unfolding sync_response_at
response_types pad count rest p fits = rw (byte_reads refusal.Short pad p 1 (little_bytes 4 count ++ rest), little_reads refusal.Short 4 count fits 2 rest) refl
