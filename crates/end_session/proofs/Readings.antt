-- What a caller reads of an end is what its acts made.
use Rattle.std.proofs.Common.{◌≡◌, ℕ, sym, ap, subst, ◌∙◌}
use Rattle.std.specs.Option.{option_or}
use Rattle.mt_base.specs.declared.kinds.Kind.{Kind}
use Rattle.mt_base.specs.declared.kinds.Kind.TheVariants.{Reliable, Lossy}
use Rattle.mt_base.specs.declared.kinds.Role.{Role}
use Rattle.mt_base.specs.Trace.{Trace}
use Rattle.dvc_channels.specs.Acts.{Act as Change, state}
use Rattle.dvc_channels.specs.Table as channels
use Rattle.dvc_channels.specs.declared.answers.ChannelState.{ChannelState}
use Rattle.soft_sync.specs.Exchanges.{listed, moved}
use Rattle.soft_sync.specs.Words.{Words, path_of}
use Rattle.soft_sync.specs.Words as words
use Rattle.mt_endpoint.specs.Acts.{Act}
use Rattle.mt_endpoint.specs.Channels.{channel}
use Rattle.mt_endpoint.specs.Moving.{made, outward}
use Rattle.end_session.specs.Known.{known}
use Rattle.end_session.specs.OfKind.{tunnel_of}
use Rattle.end_session.specs.Standing.{AreWords, Gone, Knows, Stands}
use Rattle.end_session.specs.Store.{Store}

-- what is kept of a tunnel is what is known of it
pub tunnel_is : (role : Role) (s : Store) (t : Trace Act) (kind : Kind) → Knows role s t → tunnel_of kind s ≡ known role kind t
tunnel_is role s t Reliable k = k.reliable_is
tunnel_is role s t Lossy k = k.lossy_is

pub tunnel_stands : (s : Store) (t : Trace Act) (gone : Gone) (kind : Kind) → Stands s t gone → tunnel_of kind s ≡ known s.role kind t
tunnel_stands s t gone kind st = tunnel_is s.role s t kind st.knows

-- where the words say that a channel's data go
pub outward_is : (role : Role) (t : Trace Act) (w : Words) (id : ℕ) → AreWords role t w → words.outward id w ≡ outward id t
outward_is role t w id are = ap (λ x. path_of (option_or (listed id x) (moved id w.read))) are.made_are ∙ ap (λ x. path_of (option_or (listed id (made t)) (moved id x))) are.read_are

pub outward_stands : (inside s : Store) (t : Trace Act) (gone : Gone) (id : ℕ) → inside ≡ s → Stands s t gone → words.outward id inside.paths ≡ outward id t
outward_stands inside s t gone id is st = let here = subst (λ s. Stands s t gone) (sym is) st in outward_is inside.role t inside.paths id (here.knows).words_are

pub channel_stands : (inside s : Store) (t : Trace Act) (gone : Gone) (id : ℕ) (found : ChannelState) → inside ≡ s → ((u : Trace Change) → channels.Stands inside.channels u → found ≡ state u id)
    → Stands s t gone → found ≡ channel s.role id t
channel_stands inside s t gone id found is answers st =
    subst (λ (s : Store). found ≡ channel s.role id t) is (let here = subst (λ s. Stands s t gone) (sym is) st in answers _ (here.knows).channels_stand)
