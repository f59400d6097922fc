-- What an end keeps stands for what it did.
use Rattle.std.specs.Prelude.{◌≡◌, ℕ, ◌≤◌, Bool, true, false, List, [], ◌∷◌, ◌++◌, length, nat_eq, Some, Ok}
use Rattle.std.specs.Option.{unwrap_or}
use Rattle.std.specs.List.{flat_map}
use Rattle.std.specs.Map.{lookup, keys_of}
use Rattle.mt_base.specs.declared.kinds.Kind.TheVariants.{Reliable, Lossy}
use Rattle.mt_base.specs.declared.kinds.Role.{Role}
use Rattle.mt_base.specs.Trace.{Trace}
use Rattle.dvc_channels.specs.Table as channels
use Rattle.dvc_channels.specs.Acts.{ids}
use Rattle.dvc_pdus.specs.Reading.{reading}
use Rattle.soft_sync.specs.Words.{Words}
use Rattle.hold_queue.specs.Held as hold
use Rattle.mt_endpoint.specs.Acts.{Act, Drawn}
use Rattle.mt_endpoint.specs.Alone.{EndOfActs}
use Rattle.mt_endpoint.specs.Channels.{table, is_open, is_ready}
use Rattle.mt_endpoint.specs.Holding.{Held, held, channel_of}
use Rattle.mt_endpoint.specs.Moving.{made, read, unanswered_in}
use Rattle.mt_endpoint.specs.Tunnels.{issued, is_live, first_told}
use Rattle.mt_endpoint.specs.World.{is_begun}
use Rattle.mt_endpoint.specs.Writing.{carried, main_bytes, tunneled}
use Rattle.end_calls.specs.Streams.{told_place}
use Rattle.end_calls.specs.Refusing.{version_in, or_zero}
use Rattle.end_session.specs.Known.{known}
use Rattle.end_session.specs.Outgoing.{Outgoing}
use Rattle.end_session.specs.Store.{Store}

-- each channel is told of once, in the order in which they were created, with whether it is open
pub record AreTold (role : Role) (t : Trace Act) (channels : List (ℕ × Bool)) : Type 0 where
  pub ids_are : keys_of channels ≡ ids (table role t)
  pub open_are : (id : ℕ) → unwrap_or (lookup (nat_eq id) channels) false ≡ is_open role id t

-- the words of an end
pub record AreWords (role : Role) (t : Trace Act) (w : Words) : Type 0 where
  pub version_is : w.version ≡ or_zero (first_told version_in t)
  pub reliable_is : (w.opened).reliable ≡ is_live role Reliable t
  pub lossy_is : (w.opened).lossy ≡ is_live role Lossy t
  pub channels_are : AreTold role t w.channels
  pub made_are : w.made ≡ made t
  pub read_are : w.read ≡ read t

-- a PDU that is held, with its channel, its place as it is told, and the bytes that it was read from
-- (those of data and of a close are read alike, whichever end wrote them)
abbrev pub IsKeptAs : Held → hold.Pdu → Type 0
IsKeptAs h pdu =
    (channel_of h.pdu ≡ Some pdu.id) × (pdu.at ≡ told_place h.at) × (pdu.bytes ≡ h.bytes)
    × ((from : Role) → reading from h.bytes ≡ Ok h.pdu)

abbrev pub AreKept : List Held → List hold.Pdu → Type 0
AreKept [] [] = Unit {0}
AreKept (h ∷ held) (pdu ∷ pdus) = IsKeptAs h pdu × AreKept held pdus
AreKept held pdus = ⊥

-- What is kept of channels, paths and tunnels stands for the acts of an end that keeps its law.
pub record Knows (role : Role) (s : Store) (t : Trace Act) : Type 0 where
  pub begun : is_begun t ≡ true
  pub lawful : EndOfActs role t
  pub channels_stand : channels.Stands s.channels (table role t)
  pub words_are : AreWords role t s.paths
  pub issued_are : s.issued ≡ issued t
  pub reliable_is : s.reliable ≡ known role Reliable t
  pub lossy_is : s.lossy ≡ known role Lossy t
  pub reliable_held : AreKept (held role Reliable t) s.held_reliable
  pub lossy_held : AreKept (held role Lossy t) s.held_lossy
  pub ready_is : s.is_ready ≡ is_ready t
  pub owed_is : s.owed ≡ length (unanswered_in (read t))

-- of what was written, what was handed out: bytes of the main stream, and PDUs for the links
pub record Gone : Type 0 where
  pub main : List ℕ
  pub reliable : List Drawn
  pub lossy : List Drawn

abbrev pub nothing_gone : Gone
nothing_gone = record { main = []; reliable = []; lossy = [] }

-- these bytes are those of the PDUs behind the ones that were handed out
pub record IsLeft (written gone : List Drawn) (bytes : List ℕ) : Type 0 where
  pub rest : List Drawn
  pub rest_is : written ≡ gone ++ rest
  pub bytes_are : bytes ≡ flat_map tunneled rest

-- what waits is what was written and not handed out
pub record Waits (role : Role) (o : Outgoing) (t : Trace Act) (gone : Gone) : Type 0 where
  pub main_waits : main_bytes role t ≡ gone.main ++ o.main
  pub reliable_waits : IsLeft (carried Reliable role t) gone.reliable o.reliable
  pub lossy_waits : IsLeft (carried Lossy role t) gone.lossy o.lossy

pub record Stands (s : Store) (t : Trace Act) (gone : Gone) : Type 0 where
  pub knows : Knows s.role s t
  pub waits : Waits s.role s.outgoing t gone

-- it stands for some acts, and owes few enough answers
abbrev pub IsLawful : Store → Type 0
IsLawful s = ((t : Trace Act) × (gone : Gone) × Stands s t gone) × (s.owed ≤ 256)
