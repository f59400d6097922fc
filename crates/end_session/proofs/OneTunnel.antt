-- Acts that tell something of one tunnel, and nothing of channels and words.
use Rattle.std.proofs.Common.{◌≡◌, ℕ, Bool, List, sym, ap, subst, ◌∙◌}
use Rattle.mt_base.specs.declared.kinds.Kind.{Kind}
use Rattle.mt_base.specs.declared.kinds.Kind.TheVariants.{Reliable, Lossy}
use Rattle.mt_base.specs.declared.kinds.Role.{Role}
use Rattle.mt_base.specs.Trace.{Trace, ◌▷◌}
use Rattle.dvc_channels.specs.Acts as change
use Rattle.dvc_channels.specs.Table as channels
use Rattle.soft_sync.specs.Exchanges.{set_kind}
use Rattle.tunnel_cookies.specs.Entries.{Entries}
use Rattle.mt_endpoint.specs.Acts.{Act}
use Rattle.mt_endpoint.specs.Alone.{EndOfActs}
use Rattle.mt_endpoint.specs.Channels.{is_open_in, table}
use Rattle.mt_endpoint.specs.Holding.{held}
use Rattle.mt_endpoint.specs.Tunnels.{issued}
use Rattle.end_session.specs.Known.{Known, known, is_live_in}
use Rattle.end_session.specs.Outgoing.{Outgoing}
use Rattle.end_session.specs.Standing.{AreKept, AreTold, Knows}
use Rattle.end_session.specs.Store.{Store}
use Rattle.end_session.proofs.KnownOf.{live_is}
use Rattle.end_session.proofs.Still.{SaysNothing, TellsNothing, known_still, live_still}
use Rattle.end_session.proofs.Telling.{knows_told}

-- neither words nor the table of channels, nor what is held
pub record IsApart (role : Role) (t : Trace Act) (act : Act) : Type 0 where
  pub says : SaysNothing act
  pub table_is : table role (t ▷ act) ≡ table role t
  pub held_is : (kind : Kind) → held role kind (t ▷ act) ≡ held role kind t

pub told_same : (role : Role) (t u : Trace Act) (told : List (ℕ × Bool)) → table role u ≡ table role t → AreTold role t told → AreTold role u told
told_same role t u told e a = record {
  ids_are = a.ids_are ∙ ap change.ids (sym e);
  open_are = λ id. a.open_are id ∙ ap (λ x. is_open_in (change.state x id)) (sym e);
}

-- an act that tells of the reliable tunnel alone, and one that tells of the lossy one
pub knows_reliable : (role : Role) (s : Store) (t : Trace Act) (act : Act) (entries : Entries) (tunnel : Known) (o : Outgoing) → Knows role s t → IsApart role t act
    → EndOfActs role (t ▷ act) → entries ≡ issued (t ▷ act) → tunnel ≡ known role Reliable (t ▷ act) → TellsNothing role Lossy t act
    → Knows role (record s { paths = record s.paths { opened = set_kind Reliable (is_live_in role tunnel) (s.paths).opened }; issued = entries; reliable = tunnel; outgoing = o }) (t ▷ act)
knows_reliable role s t act entries tunnel o k a lawful issued_are is nothing =
    knows_told role s t act entries tunnel s.lossy (set_kind Reliable (is_live_in role tunnel) (s.paths).opened) o k
    (record {
      says = a.says;
      issued_are = issued_are;
      reliable_is = is;
      lossy_is = k.lossy_is ∙ sym (known_still role Lossy t act nothing);
      reliable_opened = ap (is_live_in role) is ∙ live_is role Reliable (t ▷ act);
      lossy_opened = (k.words_are).lossy_is ∙ sym (live_still role Lossy t act nothing);
    })
    lawful (subst (channels.Stands s.channels) (sym a.table_is) k.channels_stand) (told_same role t (t ▷ act) (s.paths).channels a.table_is (k.words_are).channels_are)
    (subst (λ h. AreKept h s.held_reliable) (sym (a.held_is Reliable)) k.reliable_held) (subst (λ h. AreKept h s.held_lossy) (sym (a.held_is Lossy)) k.lossy_held)

pub knows_lossy : (role : Role) (s : Store) (t : Trace Act) (act : Act) (entries : Entries) (tunnel : Known) (o : Outgoing) → Knows role s t → IsApart role t act
    → EndOfActs role (t ▷ act) → entries ≡ issued (t ▷ act) → tunnel ≡ known role Lossy (t ▷ act) → TellsNothing role Reliable t act
    → Knows role (record s { paths = record s.paths { opened = set_kind Lossy (is_live_in role tunnel) (s.paths).opened }; issued = entries; lossy = tunnel; outgoing = o }) (t ▷ act)
knows_lossy role s t act entries tunnel o k a lawful issued_are is nothing =
    knows_told role s t act entries s.reliable tunnel (set_kind Lossy (is_live_in role tunnel) (s.paths).opened) o k
    (record {
      says = a.says;
      issued_are = issued_are;
      reliable_is = k.reliable_is ∙ sym (known_still role Reliable t act nothing);
      lossy_is = is;
      reliable_opened = (k.words_are).reliable_is ∙ sym (live_still role Reliable t act nothing);
      lossy_opened = ap (is_live_in role) is ∙ live_is role Lossy (t ▷ act);
    })
    lawful (subst (channels.Stands s.channels) (sym a.table_is) k.channels_stand) (told_same role t (t ▷ act) (s.paths).channels a.table_is (k.words_are).channels_are)
    (subst (λ h. AreKept h s.held_reliable) (sym (a.held_is Reliable)) k.reliable_held) (subst (λ h. AreKept h s.held_lossy) (sym (a.held_is Lossy)) k.lossy_held)
