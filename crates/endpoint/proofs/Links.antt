-- The calls of links that a step of an end's own makes.
use Rattle.std.proofs.Common.{◌≡◌, Bool, true, false, ◌||◌, List, [], ◌++◌, length, drop, Option, Some, None, is_some, refl, sym, ap, subst, ◌∙◌, append-nil}
use Rattle.std.proofs.Math.Seq.{drop-append_seam}
use Rattle.mt_base.specs.declared.kinds.Kind.{Kind}
use Rattle.mt_base.specs.declared.kinds.Kind.TheVariants.{Reliable, Lossy}
use Rattle.mt_base.specs.declared.kinds.Role.{Role}
use Rattle.mt_base.specs.Trace.{Trace, ◌▷◌}
use Rattle.carrier.specs.declared.state.LinkState.{LinkState}
use Rattle.carrier.specs.Entries as link
use Rattle.mt_endpoint.specs.Acts.{Act, Sends}
use Rattle.mt_endpoint.specs.Tunnels.{attaches, is_attached, is_silent, silence_in}
use Rattle.mt_endpoint.specs.World.{drawn_in, draws}
use Rattle.mt_endpoint.specs.Writing.{adds, carried, into}
use Rattle.end_calls.specs.Calls.{Entry, Own, acts, past}
use Rattle.end_calls.specs.Links.{gives_joined, gives_own, linked}
use Rattle.end_calls.specs.Streams.{written}
use Rattle.endpoint.specs.Attached.{HasLink}
use Rattle.endpoint.proofs.Due.{same_told}

-- what a step of one act writes for a link
pub written_by : (kind : Kind) (role : Role) (t : Trace Entry) (act : Act) → acts role (t ▷ Own act) ≡ acts role t ▷ act
    → written kind role (past role t) (past role (t ▷ Own act)) ≡ into kind (is_silent kind (acts role t)) (adds role (acts role t) act)
written_by kind role t act on =
    ap (λ (u : Trace Act). drop (length (carried kind role (acts role t))) (carried kind role u)) on
    ∙ drop-append_seam (carried kind role (acts role t)) (into kind (is_silent kind (acts role t)) (adds role (acts role t) act))

pub joins_none : (kind : Kind) (l : Trace link.Entry) → gives_joined kind [] l ≡ l
joins_none Reliable l = refl
joins_none Lossy l = refl

gives_none : (kind : Kind) (act : Act) (l : Trace link.Entry) → gives_own kind act [] l ≡ l
gives_none kind (Sends id message) l = refl
gives_none kind act l = joins_none kind l

-- an act of an end's own that is nothing to the link of this kind
pub record IsApart (kind : Kind) (role : Role) (t : Trace Act) (act : Act) : Type 0 where
  pub none_written : into kind (is_silent kind t) (adds role t act) ≡ []
  pub no_link : attaches kind act ≡ false
  pub no_silence : silence_in kind act ≡ None
  pub none_drawn : drawn_in kind act ≡ []

or_false : (b : Bool) → b || false ≡ b
or_false true = refl
or_false false = refl

pub attached_same : (kind : Kind) (t : Trace Act) (act : Act) → attaches kind act ≡ false → is_attached kind (t ▷ act) ≡ is_attached kind t
attached_same kind t act none = ap (λ b. is_attached kind t || b) none ∙ or_false (is_attached kind t)

pub silent_same : (kind : Kind) (t : Trace Act) (act : Act) → silence_in kind act ≡ None → is_silent kind (t ▷ act) ≡ is_silent kind t
silent_same kind t act none = ap is_some (same_told (silence_in kind) t act none)

pub linked_same : (kind : Kind) (role : Role) (t : Trace Entry) (act : Act) → acts role (t ▷ Own act) ≡ acts role t ▷ act → into kind (is_silent kind (acts role t)) (adds role (acts role t) act) ≡ [] → linked kind role (t ▷ Own act) ≡ linked kind role t
linked_same kind role t act on none =
    ap (λ ds. gives_own kind act ds (linked kind role t)) (written_by kind role t act on ∙ none) ∙ gives_none kind act (linked kind role t)

pub link_same : {L A : Type 0} (stands : L → Trace link.Entry → Type 0) (left : L → List A) (condition : L → LinkState) (kind : Kind) (unread : List A) (role : Role) (t : Trace Entry) (act : Act) (l : Option L)
    → acts role (t ▷ Own act) ≡ acts role t ▷ act → IsApart kind role (acts role t) act → HasLink stands left condition kind unread role t l → HasLink stands left condition kind unread role (t ▷ Own act) l
link_same stands left condition kind unread role t act (Some l) on apart s = record {
  attached = ap (is_attached kind) on ∙ attached_same kind (acts role t) act apart.no_link ∙ s.attached;
  called = subst (stands l) (sym (linked_same kind role t act on apart.none_written)) s.called;
  left_is = s.left_is;
  is_open = λ loud. s.is_open (sym (silent_same kind (acts role t) act apart.no_silence) ∙ sym (ap (is_silent kind) on) ∙ loud);
}
link_same stands left condition kind unread role t act None on apart s = record {
  unattached = ap (is_attached kind) on ∙ attached_same kind (acts role t) act apart.no_link ∙ s.unattached;
  uncalled = linked_same kind role t act on apart.none_written ∙ s.uncalled;
  undrawn = ap (draws kind) on ∙ ap (λ ds. draws kind (acts role t) ++ ds) apart.none_drawn ∙ append-nil (draws kind (acts role t)) ∙ s.undrawn;
  unread_is = s.unread_is;
}
