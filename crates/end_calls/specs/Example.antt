-- A client by hand, in bytes: it reads capabilities in two pieces and answers them, is asked for a
-- tunnel and attaches a link, and by what it pulls from that link the tunnel is open.
use Rattle.std.specs.Prelude.{◌≡◌, ℕ, List, [], ◌∷◌, None, Some}
use Rattle.mt_base.specs.declared.kinds.Kind.TheVariants.{Reliable}
use Rattle.mt_base.specs.declared.kinds.Role.TheVariants.{Client}
use Rattle.mt_base.specs.Trace.{Trace, Start, ◌▷◌}
use Rattle.carrier.specs.declared.state.Took.TheVariants.{Used}
use Rattle.carrier.specs.Entries.{Gave}
use Rattle.dvc_pdus.specs.Value.{Caps}
use Rattle.tunnel_pdus.specs.declared.part.TunnelReason.TheVariants.{BadKind}
use Rattle.mt_endpoint.specs.Acts.{Began, Attaches, Hears, Spoken}
use Rattle.mt_endpoint.specs.Session.{cookie, name}
use Rattle.soft_sync.specs.declared.kinds.SyncRefusal.TheVariants as sync
use Rattle.mt_endpoint.specs.Tunnels.{tunnel, Open}
use Rattle.end_calls.specs.declared.fault.Fault.TheVariants as fault
use Rattle.end_calls.specs.declared.fault.Place.TheVariants as place
use Rattle.end_calls.specs.Calls.{Entry, Own, MainIn, WireIn, Pull, past, acts}
use Rattle.end_calls.specs.Law.{EndTrace, unsent}
use Rattle.end_calls.specs.Links.{linked}
use Rattle.end_calls.specs.Refusing.{Loads, why_not_opened, why_not_sent, why_not_moved}
use Rattle.end_calls.specs.Counting.{counters}
use Rattle.end_calls.specs.declared.refusal.SendRefusal.TheVariants as send
use Rattle.end_calls.specs.declared.refusal.OpenRefusal.TheVariants as opening
use Rattle.end_calls.specs.declared.refusal.MoveRefusal.TheVariants as move

-- the first four bytes of a frame with capabilities of version 3, and the other eleven
abbrev pub begun : Trace Entry
begun = Start ▷ Own Began ▷ MainIn (3 ∷ 12 ∷ 0 ∷ 0x50 ∷ []) 4 0 None

abbrev pub capable : Trace Entry
capable = begun ▷ MainIn (0 ∷ 3 ∷ 0 ∷ 0 ∷ 0 ∷ 0 ∷ 0 ∷ 0 ∷ 0 ∷ 0 ∷ 0 ∷ []) 11 0 None

-- a frame that asks for a reliable tunnel with the id 7, and the link
abbrev pub asked_for : List ℕ
asked_for = 1 ∷ 24 ∷ 0 ∷ 7 ∷ 0 ∷ 0 ∷ 0 ∷ 1 ∷ 0 ∷ 0 ∷ 0 ∷ cookie

abbrev pub attached : Trace Entry
attached = capable ▷ MainIn asked_for 27 0 None ▷ Own (Attaches Reliable)

-- the create response 0, pulled as it is wanted, until no byte is left
abbrev pub pull : ℕ → List ℕ → Pull
pull room bytes = record { room = room; bytes = bytes }

abbrev pub answered : Trace Entry
answered =
    attached ▷ WireIn Reliable 20 (9 ∷ []) Used 28 (record { bytes = 1 ∷ 4 ∷ 0 ∷ 4 ∷ 0 ∷ 0 ∷ 0 ∷ 0 ∷ []; parts = [] })
    (Start ▷ pull 1 (1 ∷ []) ▷ pull 2 (4 ∷ 0 ∷ []) ▷ pull 1 (4 ∷ []) ▷ pull 4 (0 ∷ 0 ∷ 0 ∷ 0 ∷ []) ▷ pull 1 []) Start None

-- a byte that is no kind of frame
abbrev pub wrong : Trace Entry
wrong = answered ▷ MainIn (4 ∷ []) 1 0 None

abbrev pub loads : Loads
loads = record { unsent = 18; reliable = 28; lossy = 0 }

pub record Shows : Type 0 where
  pub under_way : (past Client begun).main ≡ record { at = 0; bytes = 3 ∷ 12 ∷ 0 ∷ 0x50 ∷ [] }
  pub nothing_said : unsent Client begun ≡ []
  pub acts_are : acts Client capable ≡ Start ▷ Began ▷ Hears (Spoken (Caps 3 (Some (0 ∷ 0 ∷ 0 ∷ 0 ∷ []))))
  pub said : unsent Client capable ≡ 3 ∷ 4 ∷ 0 ∷ 0x50 ∷ 0 ∷ 3 ∷ 0 ∷ []
  pub gave : linked Reliable Client attached
      ≡ Start ▷ Gave (0 ∷ 24 ∷ 0 ∷ 4 ∷ 7 ∷ 0 ∷ 0 ∷ 0 ∷ 0 ∷ 0 ∷ 0 ∷ 0 ∷ cookie)
  pub is_open : tunnel Client Reliable (acts Client answered) ≡ Open
  pub told : unsent Client answered
      ≡ 3 ∷ 4 ∷ 0 ∷ 0x50 ∷ 0 ∷ 3 ∷ 0 ∷ 2 ∷ 8 ∷ 0 ∷ 7 ∷ 0 ∷ 0 ∷ 0 ∷ 0 ∷ 0 ∷ 0 ∷ 0 ∷ []
  pub law : EndTrace Client answered
  pub counted : counters Client answered ≡ record { ignored = 0; fec = 0; compressed = 0; lossy = 0; closed = 0 }
  pub unknown : why_not_sent None Client (acts Client answered) loads 1 (97 ∷ []) ≡ Some send.UnknownChannel
  pub not_ready : why_not_opened None (Start ▷ Began) 15 name ≡ Some opening.NotReady
  pub no_version : why_not_moved None (Start ▷ Began) 15 (1 ∷ []) [] ≡ Some (move.Sync (sync.OldVersion 0))
  pub broken : (past Client wrong).broken ≡ Some (fault.Stream (place.Main 42) (record { at = 0; reason = BadKind }))
