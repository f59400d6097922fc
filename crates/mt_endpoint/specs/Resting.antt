-- What an end holds between its steps.
use Rattle.std.specs.Prelude.{◌≡◌, ℕ, true, []}
use Rattle.mt_base.specs.declared.kinds.Kind.{Kind}
use Rattle.mt_base.specs.declared.kinds.Role.{Role}
use Rattle.mt_base.specs.Trace.{Trace}
use Rattle.mt_endpoint.specs.Acts.{Act}
use Rattle.mt_endpoint.specs.Moving.{inward}
use Rattle.mt_endpoint.specs.Holding.{held, is_through, only}

-- nothing is held of a channel whose word to that tunnel is read
abbrev pub Rests : Role → Trace Act → Type 0
Rests role t = (id : ℕ) (kind : Kind) → is_through kind (inward id t) ≡ true → only id (held role kind t) ≡ []
