-- What handing out messages does to a side.
use Rattle.std.proofs.Common.{◌≡◌, ℕ, List, [], ◌∷◌, ◌++◌, length, drop, refl, sym, ap, ◌∙◌, subst, append_assoc, append-nil}
use Rattle.std.specs.Global.{Vec}
use Rattle.std.proofs.lemmas.List.{drop_at}
use Rattle.mt_base.specs.declared.kinds.Role.{Role}
use Rattle.mt_base.specs.Trace.{Trace, ◌▷◌}
use Rattle.mt_world.specs.declared.end.End.{End}
use Rattle.mt_world.specs.declared.side.Side.{Side}
use Rattle.mt_world.specs.Acts.{Entry, Took, Past, past, given, taken, took, sent, waiting}
use Rattle.mt_world.specs.Play.{handed_out}
use Rattle.mt_world.specs.EndView.{StandsFor}
use Rattle.mt_world.specs.SideView.{StandsAt}

pub past-handed_out : (role : Role) (id : ℕ) (t : Trace Entry) (messages : List (List ℕ)) → past role (handed_out id t messages) ≡ past role t
past-handed_out role id t [] = refl
past-handed_out role id t (m ∷ ms) = past-handed_out role id (t ▷ Took id m) ms

pub given-handed_out : (id : ℕ) (t : Trace Entry) (messages : List (List ℕ)) → given (handed_out id t messages) ≡ given t
given-handed_out id t [] = refl
given-handed_out id t (m ∷ ms) = given-handed_out id (t ▷ Took id m) ms

pub taken-handed_out : (id : ℕ) (t : Trace Entry) (messages : List (List ℕ)) → taken (handed_out id t messages) ≡ taken t
taken-handed_out id t [] = refl
taken-handed_out id t (m ∷ ms) = taken-handed_out id (t ▷ Took id m) ms

-- of the first channel
pub took-handed_out : (t : Trace Entry) (messages : List (List ℕ)) → took 1 (handed_out 1 t messages) ≡ took 1 t ++ messages
took-handed_out t [] = sym (append-nil (took 1 t))
took-handed_out t (m ∷ ms) = took-handed_out (t ▷ Took 1 m) ms ∙ append_assoc (took 1 t) (m ∷ []) ms

-- what waits at an end is what came and was not handed out
pub waiting_is : (e : End) (role : Role) (t : Trace Entry) → StandsFor e role (past role t) (given t) (took 1 t) → waiting 1 role t ≡ e.inbox.items
waiting_is e role t s = ap (drop (length (took 1 t))) (sym s.inbox_is) ∙ drop_at (took 1 t) e.inbox.items (length (took 1 t)) refl

-- the same relation under other names
moved : (e : End) (role : Role) (p q : Past) (g h : List ℕ) (k l : List (List ℕ)) → p ≡ q → g ≡ h → k ≡ l → StandsFor e role p g k → StandsFor e role q h l
moved e role p q g h k l pq gh kl s =
    let P : Past → Type 0 = λ x. StandsFor e role x h l in
    let G : List ℕ → Type 0 = λ x. StandsFor e role p x l in
    let K : List (List ℕ) → Type 0 = λ x. StandsFor e role p g x in
    subst P pq (subst G gh (subst K kl s))

hands_out : (s : Side) (e : End) (received : Vec (List ℕ)) (role : Role) (t : Trace Entry) (messages : List (List ℕ))
    → StandsFor e role (past role t) (given t) (took 1 t ++ messages) → received.items ≡ s.received.items ++ messages
    → StandsAt s role t → StandsAt (record s { end = e; received = received }) role (handed_out 1 t messages)
hands_out s e received role t messages emptied grown h = record {
  end_is = moved e role _ _ _ _ _ _ (sym (past-handed_out role 1 t messages)) (sym (given-handed_out 1 t messages)) (sym (took-handed_out t messages)) emptied;
  sent_are = h.sent_are ∙ ap (λ (p : Past). sent 1 p.acts) (sym (past-handed_out role 1 t messages));
  received_are = grown ∙ ap (λ x. x ++ messages) h.received_are ∙ sym (took-handed_out t messages);
  arrived_is = h.arrived_is ∙ sym (taken-handed_out 1 t messages);
}

-- a side that has handed all its messages out
pub hands_all_out : (s : Side) (e : End) (received : Vec (List ℕ)) (role : Role) (t : Trace Entry) (all messages : List (List ℕ)) → all ≡ messages
    → StandsFor e role (past role t) (given t) (took 1 t ++ messages) → received.items ≡ s.received.items ++ messages
    → StandsAt s role t → StandsAt (record s { end = e; received = received }) role (handed_out 1 t all)
hands_all_out s e received role t all messages is emptied grown h =
    let P : List (List ℕ) → Type 0 = λ ms. StandsAt (record s { end = e; received = received }) role (handed_out 1 t ms) in
    subst P (sym is) (hands_out s e received role t messages emptied grown h)
