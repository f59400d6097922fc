-- Bytes of the main stream that an end on its way took.
use Rattle.std.specs.Prelude.{◌⊎◌, ℕ, ◌+◌, ◌*◌, ◌≤◌, List, length, take, Option, option_map}
use Rattle.std.specs.List.{flat_map}
use Rattle.mt_base.specs.declared.kinds.Kind.TheVariants.{Reliable}
use Rattle.mt_base.specs.declared.kinds.Role.{Role}
use Rattle.mt_base.specs.Trace.{Trace}
use Rattle.carrier.specs.declared.state.LinkState.{LinkState}
use Rattle.carrier.specs.Entries as link
use Rattle.mt_endpoint.specs.Acts.{Act}
use Rattle.mt_endpoint.specs.Writing.{tunneled}
use Rattle.end_calls.specs.declared.limits.TheConstants.{ANSWER, MAIN_QUEUE}
use Rattle.end_calls.specs.Calls.{after_bytes, lacking, read_count}
use Rattle.end_calls.specs.Law.{IsCount, IsMainLack}
use Rattle.end_calls.specs.Links.{by_bytes}
use Rattle.end_calls.specs.Stops.{Outset}
use Rattle.end_calls.specs.Streams.{Past, written}
use Rattle.end_session.specs.Store.{Store}
use Rattle.end_reader.specs.declared.reader.Reader.{Reader}
use Rattle.endpoint.specs.OnWay.{OnWay}

-- a call begins with so many bytes handed out, this load of the reliable link, and this past
abbrev pub begins_with : List ℕ → ℕ → Past → Outset
begins_with sent queued p = record { sent = length sent; load = queued; before = p }

-- where these bytes were read, up to the want of memory
abbrev pub reached_by : Role → Past → List ℕ → Option (Trace Act) → Past
reached_by role p bytes lack = lacking lack (after_bytes role p bytes)

-- the end behind them
abbrev pub WayBy : {L : Type 0} → (L → Trace link.Entry → Type 0) → (L → List ℕ) → (L → LinkState) → (L → ℕ) → List ℕ → List ℕ → Role → Past → Trace link.Entry → ℕ → List ℕ → Option (Trace Act) → Reader → Option L → Type 0
WayBy stands left condition load unread sent role p l queued bytes lack r c =
    OnWay stands left condition load unread sent role (reached_by role p bytes lack) (by_bytes Reliable role p bytes lack l) (queued + length (flat_map tunneled (written Reliable role p (reached_by role p bytes lack)))) r c

-- the main queue has room for what is owed as it had, or 22 bytes more
abbrev pub KeepsRoom : Store → Store → Type 0
KeepsRoom s now =
    (length (now.outgoing).main + ANSWER * now.owed ≤ length (s.outgoing).main + ANSWER * s.owed) ⊎ (length (now.outgoing).main + (ANSWER * now.owed + 22) ≤ MAIN_QUEUE)

-- of the bytes offered so many were taken
pub record AllRead {L : Type 0} (stands : L → Trace link.Entry → Type 0) (left : L → List ℕ) (condition : L → LinkState) (load : L → ℕ) (unread sent : List ℕ) (role : Role) (p : Past) (l : Trace link.Entry) (queued : ℕ) (bytes : List ℕ) (count : ℕ) (r : Reader) (c : Option L) : Type 0 where
  pub lack : Option (ℕ × Trace Act)
  pub counts : IsCount role (begins_with sent queued p) bytes count lack
  pub lacks : IsMainLack role p bytes lack
  pub way : WayBy stands left condition load unread sent role p l queued (take (read_count count lack) bytes) (option_map (λ (x : ℕ × Trace Act). x.1) lack) r c
