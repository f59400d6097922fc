-- An end that gave a link what waited for it stands for the same acts.
use Rattle.std.proofs.Common.{◌≡◌, List, [], refl, sym, subst, append-nil}
use Rattle.mt_base.specs.declared.kinds.Kind.{Kind}
use Rattle.mt_base.specs.declared.kinds.Kind.TheVariants.{Reliable, Lossy}
use Rattle.mt_base.specs.declared.kinds.Role.{Role}
use Rattle.mt_base.specs.Trace.{Trace}
use Rattle.mt_endpoint.specs.Acts.{Act, Drawn}
use Rattle.mt_endpoint.specs.Writing.{carried}
use Rattle.end_session.specs.Giving.{all_given}
use Rattle.end_session.specs.Outgoing.{Outgoing, emptied}
use Rattle.end_session.specs.Standing.{Gone, IsLeft, Stands, Waits}
use Rattle.end_session.specs.Store.{Store}
use Rattle.end_session.proofs.BytesHanded.{knows_as}

none_left : (written : List Drawn) → IsLeft written written []
none_left written = record { rest = []; rest_is = sym (append-nil written); bytes_are = refl }

waits_less : (role : Role) (kind : Kind) (o : Outgoing) (t : Trace Act) (gone : Gone) → Waits role o t gone → Waits role (emptied kind o) t (all_given role kind t gone)
waits_less role Reliable o t gone w = record { main_waits = w.main_waits; reliable_waits = none_left (carried Reliable role t); lossy_waits = w.lossy_waits }
waits_less role Lossy o t gone w = record { main_waits = w.main_waits; reliable_waits = w.reliable_waits; lossy_waits = none_left (carried Lossy role t) }

pub gave : (s : Store) (t : Trace Act) (gone : Gone) (kind : Kind) (o : Outgoing) → o ≡ emptied kind s.outgoing → Stands s t gone → Stands (record s { outgoing = o }) t (all_given s.role kind t gone)
gave s t gone kind o is st =
    let base : Stands (record s { outgoing = emptied kind s.outgoing }) t (all_given s.role kind t gone) =
    record { knows = knows_as s.role s t (emptied kind s.outgoing) st.knows; waits = waits_less s.role kind s.outgoing t gone st.waits } in
    subst (λ o. Stands (record s { outgoing = o }) t (all_given s.role kind t gone)) (sym is) base
