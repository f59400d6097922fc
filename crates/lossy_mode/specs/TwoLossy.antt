-- Two ends of one lossy link, from their opening on, joined by a network that loses, copies and reorders
-- datagrams, and makes none.
use Rattle.std.specs.Prelude.{◌≡◌, ℕ, ◌+◌, ◌%◌, ◌^◌, ◌<◌, ◌≤◌, true, take, is_some}
use Rattle.mt_base.specs.declared.kinds.Kind.TheVariants.{Lossy}
use Rattle.mt_base.specs.declared.kinds.Role.{Role}
use Rattle.mt_base.specs.declared.kinds.Role.TheVariants.{Server, Client}
use Rattle.mt_base.specs.Ends.{other}
use Rattle.mt_base.specs.Prefix.{IsPickOf}
use Rattle.mt_base.specs.Trace.{Trace}
use Rattle.carrier.specs.Entries.{posted}
use Rattle.carrier.specs.Joined.{Step, half, Timely}
use Rattle.carrier.specs.PerfectThin.{handed}
use Rattle.udp1_core.specs.FirstLayout.{modulus}
use Rattle.udp_open.specs.declared.settings.OpenSettings.{OpenSettings}
use Rattle.udp_open.specs.Handshake.{agreed}
use Rattle.udp_open.specs.OpeningView.{IsFirst}
use Rattle.lossy_mode.specs.Thin.{Got, Thin, got, next_number, sent}

-- The server of a lossy link and a client, with these settings. Each keeps the law of such a link. Of the
-- datagrams that are sent on the link fewer than `late` overtake one that comes. However many are lost
-- is not bounded.
pub record LossyNet (late : ℕ) (settings : Role → OpenSettings) (w : Trace Step) : Type 0 where
  pub roles : (s : Role) → (settings s).role ≡ s
  pub kind : (settings Server).kind ≡ Lossy
  pub versions : (s : Role) → IsFirst (settings s).version
  pub initials : (s : Role) → (settings s).initial < 2 ^ 32
  pub in_time : late ≤ 2 ^ 31
  pub thin : (s : Role) → Thin (settings s) (half s w)
  pub timely : Timely late w

-- where this end agreed, the link is a lossy one at the client too
abbrev pub KindIn : (Role → OpenSettings) → Trace Step → Role → Type 0
KindIn settings w s = is_some (agreed (settings s) (half s w)) ≡ true → (settings Client).kind ≡ Lossy

-- what came at the other end
abbrev pub got_from : (Role → OpenSettings) → Trace Step → Role → Got
got_from settings w s = got (settings (other s)) (half (other s) w)

-- The parts that the other end accepted are some of the first ones that this end sent, each at most once
-- and in their order, with their bytes. The number that it expects next has the same low part as the one
-- behind the last of them.
pub record Picked (settings : Role → OpenSettings) (w : Trace Step) (s : Role) : Type 0 where
  pub reach : ℕ
  pub reached : reach ≤ sent (half s w)
  pub low : next_number ((settings s).initial + 1) (got_from settings w s).numbers % modulus ≡ ((settings s).initial + 1 + reach) % modulus
  pub picked : IsPickOf (got_from settings w s).parts (take reach (posted (half s w)))

-- so are the parts that the other end handed out
abbrev pub HandedPicked : Trace Step → Role → Type 0
HandedPicked w s = IsPickOf (handed (half (other s) w)) (posted (half s w))
