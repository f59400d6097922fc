-- An end on its way through what its reliable link brings.
use Rattle.std.specs.Prelude.{true, false, ◌≡◌, ℕ, ◌+◌, ◌<◌, nat_lt, Bool, not, List, [], length, take, drop, is_some, Option, Some, None}
use Rattle.std.specs.List.{flat_map, fold}
use Rattle.mt_base.specs.declared.kinds.Kind.TheVariants.{Reliable, Lossy}
use Rattle.mt_base.specs.declared.kinds.Role.{Role}
use Rattle.mt_base.specs.Trace.{Trace, Start, ◌▷◌}
use Rattle.carrier.specs.declared.state.LinkState.{LinkState}
use Rattle.carrier.specs.Entries as link
use Rattle.mt_endpoint.specs.Acts.{Act}
use Rattle.mt_endpoint.specs.Tunnels.{is_attached}
use Rattle.mt_endpoint.specs.Writing.{tunneled}
use Rattle.end_calls.specs.Calls.{Pull, after_pulls, lacking}
use Rattle.end_calls.specs.Law.{IsLack, IsLinkLack, Pulls}
use Rattle.end_calls.specs.Links.{by_pulls, gives_all}
use Rattle.end_calls.specs.Stops.{Outset, is_empty, load_at, pulled_bytes, wants}
use Rattle.end_calls.specs.Streams.{Past, with_tunnel, written}
use Rattle.end_reader.specs.declared.reader.Reader.{Reader}
use Rattle.end_session.specs.Standing.{Gone}
use Rattle.end_session.specs.Store.{Store}
use Rattle.endpoint.specs.MainRead.{begins_with}
use Rattle.endpoint.specs.OnWay.{OnWay}

-- memory may be wanting between these two pasts
abbrev pub IsReadLack : Past → Past → Option (Trace Act) → Type 0
IsReadLack p q None = Unit {0}
IsReadLack p q (Some reached) = IsLack p q reached

-- the past behind a pull, up to the want of memory
abbrev pub behind_pull : Role → Past → Pull → Option (Trace Act) → Past
behind_pull role p pull lack = lacking lack (fold (with_tunnel role) p pull.bytes)

-- What the tunnel PDU under way wants was pulled, or what was left of it, and read; what it made the end write
-- into the tunnel was given to the link by one call, and nothing was written into the other one.
pub record OnePull {L : Type 0} (stands : L → Trace link.Entry → Type 0) (left : L → List ℕ) (condition : L → LinkState) (load : L → ℕ) (unread sent : List ℕ) (role : Role) (p : Past) (l : Trace link.Entry) (queued : ℕ) (is_whole : Bool) (r : Reader) (c : L) : Type 0 where
  pub pull : Pull
  pub room_is : pull.room ≡ wants p.tunnel.bytes
  pub some : 0 < pull.room
  pub bytes_are : pull.bytes ≡ take pull.room unread
  pub whole_is : is_whole ≡ not (nat_lt (length pull.bytes) pull.room)
  pub lack : Option (Trace Act)
  pub lacks : IsReadLack p (fold (with_tunnel role) p pull.bytes) lack
  pub way : OnWay stands left condition load (drop (length pull.bytes) unread) sent role (behind_pull role p pull lack)
      (gives_all Reliable role p (behind_pull role p pull lack) (l ▷ link.Pulled pull.room pull.bytes))
      (queued + length (flat_map tunneled (written Reliable role p (behind_pull role p pull lack)))) r (Some c)
  pub none_lossy : written Lossy role p (behind_pull role p pull lack) ≡ []
  -- a PDU that is still under way made no act
  pub under_way : (behind_pull role p pull lack).broken ≡ None → is_empty (behind_pull role p pull lack).tunnel.bytes ≡ false → (behind_pull role p pull lack).acts ≡ p.acts

-- an end without its links is at this past of a call, where the reliable link has this load, or 0 where there
-- is none
pub record IsAt (role : Role) (outset : Outset) (p : Past) (gone : Gone) (s : Store) (load : ℕ) : Type 0 where
  pub role_is : s.role ≡ role
  pub broken_is : s.broken ≡ p.broken
  pub sent_is : length gone.main ≡ outset.sent
  pub load_is : is_attached Reliable p.acts ≡ true → load ≡ load_at role outset p
  pub none_loaded : is_attached Reliable p.acts ≡ false → load ≡ 0

-- the past behind these pulls, up to the want of memory
abbrev pub pulled_by : Role → Past → Trace Pull → Option (Trace Act) → Past
pulled_by role p pulls lack = lacking lack (after_pulls role p pulls)

-- All that the reliable link had was pulled and read, up to a stop, and nothing was written for the lossy one.
pub record AllPulled {L : Type 0} (stands : L → Trace link.Entry → Type 0) (left : L → List ℕ) (condition : L → LinkState) (load : L → ℕ) (unread sent : List ℕ) (role : Role) (p : Past) (l : Trace link.Entry) (queued : ℕ) (r : Reader) (c : L) : Type 0 where
  pub pulls : Trace Pull
  pub lack : Option (Trace Act)
  pub pulled : Pulls role (begins_with sent queued p) Reliable unread pulls (is_some lack)
  pub lacks : IsLinkLack role p pulls Start lack
  pub way : OnWay stands left condition load (drop (length (pulled_bytes pulls)) unread) sent role (pulled_by role p pulls lack) (by_pulls Reliable role p pulls lack l)
      (queued + length (flat_map tunneled (written Reliable role p (pulled_by role p pulls lack)))) r (Some c)
  pub none_lossy : written Lossy role p (pulled_by role p pulls lack) ≡ []
  pub none_called : (m : Trace link.Entry) → by_pulls Lossy role p pulls lack m ≡ m
