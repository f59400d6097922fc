-- An end that hands out a message stands for one act more.
use Rattle.std.proofs.Common.{◌≡◌, ℕ, not, List, [], ◌∷◌, Option, Some, None, slice_get, IfSome, IfNone, refl, sym, ap, subst}
use Rattle.mt_base.specs.declared.kinds.Kind.{Kind}
use Rattle.mt_base.specs.declared.kinds.Role.{Role}
use Rattle.mt_base.specs.declared.kinds.Role.TheVariants.{Server, Client}
use Rattle.mt_base.specs.Trace.{Trace, ◌▷◌}
use Rattle.dvc_channels.specs.Acts.{Act as Change, Took, untaken}
use Rattle.dvc_channels.specs.Table as channels
use Rattle.mt_endpoint.specs.Acts.{Act, Takes}
use Rattle.mt_endpoint.specs.Channels.{table}
use Rattle.mt_endpoint.specs.Tunnels.{refusal_in}
use Rattle.end_session.specs.Standing.{Gone, IsLawful, Stands}
use Rattle.end_session.specs.Store.{Store}
use Rattle.end_session.proofs.Putting.{quiet}
use Rattle.end_session.proofs.Still.{IsStill, TellsNothing, knows_still}

no_refusal : (role : Role) (kind : Kind) (t : Trace Act) (id : ℕ) (message : List ℕ) → refusal_in role kind t (Takes id message) ≡ None
no_refusal Server kind t id message = refl
no_refusal Client kind t id message = refl

tells : (role : Role) (kind : Kind) (t : Trace Act) (id : ℕ) (message : List ℕ) → TellsNothing role kind t (Takes id message)
tells role kind t id message = record {
  no_request = refl;
  no_link = refl;
  no_verdict = refl;
  no_answer = refl;
  no_refusal = no_refusal role kind t id message;
  no_silence = refl;
}

still : (role : Role) (t : Trace Act) (id : ℕ) (message : List ℕ) → IsStill role t (Takes id message)
still role t id message = record {
  reliable = tells role _ t id message;
  lossy = tells role _ t id message;
  says = record { none_made = refl; none_read = refl; no_answer_read = refl; no_answer_made = refl; no_version = refl; no_capabilities = refl };
  none_issued = refl;
}

first_of : (xs : List (List ℕ)) (x : List ℕ) → slice_get xs 0 ≡ Some x → (rest : List (List ℕ)) × (xs ≡ x ∷ rest)
first_of [] x h = cc
first_of (y ∷ ys) x h = (ys, cc)

pub took : (s : Store) (t : Trace Act) (gone : Gone) (id : ℕ) (message : List ℕ) (c : channels.Table) → slice_get (untaken (table s.role t) id) 0 ≡ Some message
    → channels.Stands c (table s.role t ▷ Took id message) → Stands s t gone → Stands (record s { channels = c }) (t ▷ Takes id message) gone
took s t gone id message c first stands st =
    let k = st.knows in
    let told = (k.words_are).channels_are in record {
      knows =
          knows_still s.role s t (Takes id message) c (s.paths).channels s.held_reliable s.held_lossy s.outgoing k (still s.role t id message)
          (sym (ap not k.begun), (first_of (untaken (table s.role t) id) message first, tt), k.lawful) stands
          (record { ids_are = told.ids_are; open_are = told.open_are }) k.reliable_held k.lossy_held;
      waits = quiet s.role s.outgoing t gone (Takes id message) refl st.waits;
    }

pub if_taken : (s : Store) (t : Trace Act) (gone : Gone) (id : ℕ) (c : channels.Table) (r : Option (List ℕ))
    → ((u : Trace Change) → channels.Stands s.channels u → IfSome r (λ message. channels.Stands c (u ▷ Took id message)))
    → ((u : Trace Change) → channels.Stands s.channels u → r ≡ slice_get (untaken u id) 0)
    → Stands s t gone → IfSome r (λ message. Stands (record s { channels = c }) (t ▷ Takes id message) gone)
if_taken s t gone id c None stands oldest st = tt
if_taken s t gone id c (Some message) stands oldest st =
    let k = st.knows in
    took s t gone id message c (sym (oldest (table s.role t) k.channels_stand)) (stands (table s.role t) k.channels_stand) st

pub lawful : (s : Store) (id : ℕ) (c : channels.Table) (r : Option (List ℕ))
    → ((u : Trace Change) → channels.Stands s.channels u → IfSome r (λ message. channels.Stands c (u ▷ Took id message)))
    → ((u : Trace Change) → channels.Stands s.channels u → r ≡ slice_get (untaken u id) 0)
    → IfNone r (c ≡ s.channels) → IsLawful s → IsLawful (record s { channels = c })
lawful s id c None stands oldest none h = subst (λ c. IsLawful (record s { channels = c })) (sym none) h
lawful s id c (Some message) stands oldest none h =
    ((h.0.0 ▷ Takes id message, h.0.1, if_taken s h.0.0 h.0.1 id c (Some message) stands oldest h.0.2), h.1)
