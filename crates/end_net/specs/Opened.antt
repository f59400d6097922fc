-- Which issued request opened a tunnel.
use Rattle.std.specs.Prelude.{◌≡◌, ◌⊎◌, ℕ, Bool, List, Some}
use Rattle.mt_base.specs.declared.kinds.Kind.{Kind}
use Rattle.mt_base.specs.Trace.{Trace, Start, ◌▷◌}
use Rattle.tunnel_cookies.specs.declared.entry.Verdict.TheVariants.{Opened}
use Rattle.tunnel_cookies.specs.Entries.{entry_of, spent_by, unspent}
use Rattle.mt_endpoint.specs.Acts.{Act, Judges}
use Rattle.mt_endpoint.specs.Tunnels.{asked, issued, link_of}

-- a create request with this id and cookie was read from the link of this kind, and the verdict opened the tunnel
abbrev pub Judged : Kind → ℕ → List ℕ → Trace Act → Type 0
Judged kind id cookie Start = ⊥
Judged kind id cookie (t ▷ act) =
    ((at : ℕ) × (is_full : Bool) × (act ≡ Judges kind at id cookie Opened is_full)) ⊎ Judged kind id cookie t

-- The tunnel of this kind was opened by this request: the server issued it for this kind, a create request with its
-- id and cookie was read from the tunnel's link, and it is spent by that link.
pub record OpenedBy (kind : Kind) (id : ℕ) (cookie : List ℕ) (t : Trace Act) : Type 0 where
  pub asked_is : asked kind t ≡ Some (record { id = id; cookie = cookie })
  pub read : Judged kind id cookie t
  pub spent : entry_of id (issued t) ≡ Some (spent_by (link_of kind) (unspent kind cookie))

-- by some request
abbrev pub HasOpened : Kind → Trace Act → Type 0
HasOpened kind t = (id : ℕ) × (cookie : List ℕ) × OpenedBy kind id cookie t
