-- The traces of the machines of two joined links: each keeps the law of its layout, and together they
-- are joined by the same network.
use Rattle.std.proofs.Common.{◌≡◌, ℕ, Bool, true, false, List, [], ◌∷◌, ◌++◌, Option, Some, None, refl, sym, ap, ◌∙◌, subst, append-nil}
use Rattle.std.specs.Prelude.{nat_lt, max, if◌then◌else◌}
use Rattle.mt_base.specs.declared.kinds.Role.{Role}
use Rattle.mt_base.specs.declared.kinds.Role.TheVariants.{Server, Client}
use Rattle.mt_base.specs.Ends.{other}
use Rattle.mt_base.specs.Trace.{Trace, Start, ◌▷◌}
use Rattle.carrier.specs.declared.state.Took.{Took}
use Rattle.carrier.specs.declared.state.Took.TheVariants.{Used, Ignored}
use Rattle.carrier.specs.Entries.{Entry, Gave, In, Polled, Pulled, Owed, Posted, Next, moment, given, pulled}
use Rattle.carrier.specs.Layout.{Layout}
use Rattle.carrier.specs.Law.{Faithful}
use Rattle.carrier.specs.Joined.{Step, At, half}
use Rattle.udp_open.specs.declared.settings.OpenSettings.{OpenSettings}
use Rattle.udp_open.specs.declared.agreement.Agreement.{Agreement}
use Rattle.udp_open.specs.Handshake.{agreed, owed}
use Rattle.udp_open.specs.LinkTrace.{is_for_machine, machine_layout, begins, begins_by, copies, reaches, tells, with_entries, machine, Answers, LinkFaithful, KeepsMachine}
use Rattle.udp_open.specs.TwoLinks.{with_steps, machines}
use Rattle.udp_open.proofs.Staying.{agreed_stays}

-- ---- before the ends agree the machine is told nothing

-- no agreement after a call, so none before it
none_before : (s : OpenSettings) (t : Trace Entry) (e : Entry) → agreed s (t ▷ e) ≡ None → agreed s t ≡ None
none_before s t e h = by_agreement (agreed s t) refl
  where
    by_agreement : (a : Option Agreement) → agreed s t ≡ a → agreed s t ≡ None
    by_agreement None is = is
    by_agreement (Some a) is = let stays = agreed_stays s t e a is in cc

-- what the first agreement tells
at_first : (s : OpenSettings) (t : Trace Entry) (e : Entry) (a : Option Agreement) → agreed s t ≡ None → agreed s (t ▷ e) ≡ a
    → tells s t (agreed s t) e ≡ begins_by s a (given t)
at_first s t e a before after = ap (λ o. tells s t o e) before ∙ ap (λ o. begins_by s o (given t)) after

pub not_begun : (s : OpenSettings) (t : Trace Entry) → agreed s t ≡ None → machine s t ≡ Start
not_begun s Start h = refl
not_begun s (t ▷ e) h =
    let before = none_before s t e h in
    ap (with_entries (machine s t)) (at_first s t e None before h) ∙ not_begun s t before

-- ---- the machine keeps the law of its layout

pub machine_faithful : (s : OpenSettings) (t : Trace Entry) (layout : Layout) → LinkFaithful s t
    → ((a : Agreement) → agreed s t ≡ Some a → machine_layout s a ≡ layout) → Faithful layout (machine s t)
machine_faithful s Start layout law same = tt
machine_faithful s (t ▷ e) layout law same = by_agreement (agreed s (t ▷ e)) refl law.1
  where
    by_agreement : (a : Option Agreement) → agreed s (t ▷ e) ≡ a → KeepsMachine s a (t ▷ e) → Faithful layout (machine s (t ▷ e))
    by_agreement None is keeps = subst (Faithful layout) (sym (not_begun s (t ▷ e) is)) tt
    by_agreement (Some a) is keeps = subst (λ l. Faithful l (machine s (t ▷ e))) (same a is) keeps

-- ---- what is given to the machine

given_first : (role : Role) (early : List ℕ) → given (with_entries Start (begins role early)) ≡ early
given_first Server early = refl
given_first Client early = refl

pub given_same : (s : OpenSettings) (t : Trace Entry) (a : Agreement) → agreed s t ≡ Some a → given (machine s t) ≡ given t
given_same s Start a h = refl
given_same s (t ▷ e) a h = by_agreement (agreed s t) refl (λ b is. given_same s t b is)
  where
    -- a call by which the ends agree gives nothing
    begun : (e : Entry) → agreed s t ≡ None → agreed s (t ▷ e) ≡ Some a → given t ≡ given (t ▷ e)
    begun (Gave bytes) before after = cc
    begun (In now datagram took) before after = refl
    begun (Polled now out) before after = refl
    begun (Pulled room bytes) before after = refl
    begun (Owed count) before after = refl
    begun (Posted bytes) before after = refl
    begun (Next bytes) before after = refl

    copied : (m : Trace Entry) (role : Role) (took : Took) → given (with_entries m (copies role took)) ≡ given m
    copied m Server Used = refl
    copied m Server (Ignored why) = refl
    copied m Client Used = refl
    copied m Client (Ignored why) = refl

    came : (m : Trace Entry) (role : Role) (mine : Bool) (now : ℕ) (datagram : List ℕ) (took : Took)
        → given (with_entries m (if mine then In now datagram took ∷ [] else copies role took)) ≡ given m
    came m role true now datagram took = refl
    came m role false now datagram took = copied m role took

    polled : (m : Trace Entry) (owes : Bool) (now : ℕ) (out : Option (List ℕ))
        → given (with_entries m (if owes then [] else Polled now out ∷ [])) ≡ given m
    polled m true now out = refl
    polled m false now out = refl

    reached : (b : Agreement) (e : Entry) → given (machine s t) ≡ given t → given (with_entries (machine s t) (reaches s b t e)) ≡ given (t ▷ e)
    reached b (Gave bytes) old = ap (λ xs. xs ++ bytes) old
    reached b (In now datagram took) old = came (machine s t) s.role (is_for_machine s b datagram) (max (moment t) now) datagram took ∙ old
    reached b (Polled now out) old = polled (machine s t) (nat_lt 0 (owed s t)) (max (moment t) now) out ∙ old
    reached b (Pulled room bytes) old = old
    reached b (Owed count) old = old
    reached b (Posted bytes) old = old
    reached b (Next bytes) old = old

    by_agreement : (o : Option Agreement) → agreed s t ≡ o → ((b : Agreement) → agreed s t ≡ Some b → given (machine s t) ≡ given t)
        → given (machine s (t ▷ e)) ≡ given (t ▷ e)
    by_agreement None before old =
        ap (λ es. given (with_entries (machine s t) es)) (at_first s t e (Some a) before h)
        ∙ ap (λ m. given (with_entries m (begins s.role (given t)))) (not_begun s t before)
        ∙ given_first s.role (given t) ∙ begun e before h
    by_agreement (Some b) is old = ap (λ o. given (with_entries (machine s t) (tells s t o e))) is ∙ reached b e (old b is)

-- ---- what is pulled of it

pub pulled_same : (s : OpenSettings) (t : Trace Entry) → LinkFaithful s t → pulled (machine s t) ≡ pulled t
pulled_same s Start law = refl
pulled_same s (t ▷ e) law = by_agreement (agreed s t) refl (pulled_same s t law.2)
  where
    begun : (m : Trace Entry) (role : Role) (early : List ℕ) → pulled (with_entries m (begins role early)) ≡ pulled m
    begun m Server early = refl
    begun m Client early = refl

    begun_by : (m : Trace Entry) (a : Option Agreement) (early : List ℕ) → pulled (with_entries m (begins_by s a early)) ≡ pulled m
    begun_by m None early = refl
    begun_by m (Some a) early = begun m s.role early

    -- before the ends agree nothing is pulled
    unpulled : (e : Entry) → Answers s t e → agreed s t ≡ None → pulled t ≡ pulled (t ▷ e)
    unpulled (Gave bytes) answers before = refl
    unpulled (In now datagram took) answers before = refl
    unpulled (Polled now out) answers before = refl
    unpulled (Pulled room bytes) answers before = let none = rw before at answers in sym (ap (λ xs. pulled t ++ xs) none ∙ append-nil (pulled t))
    unpulled (Owed count) answers before = refl
    unpulled (Posted bytes) answers before = refl
    unpulled (Next bytes) answers before = refl

    copied : (m : Trace Entry) (role : Role) (took : Took) → pulled (with_entries m (copies role took)) ≡ pulled m
    copied m Server Used = refl
    copied m Server (Ignored why) = refl
    copied m Client Used = refl
    copied m Client (Ignored why) = refl

    came : (m : Trace Entry) (role : Role) (mine : Bool) (now : ℕ) (datagram : List ℕ) (took : Took)
        → pulled (with_entries m (if mine then In now datagram took ∷ [] else copies role took)) ≡ pulled m
    came m role true now datagram took = refl
    came m role false now datagram took = copied m role took

    polled : (m : Trace Entry) (owes : Bool) (now : ℕ) (out : Option (List ℕ))
        → pulled (with_entries m (if owes then [] else Polled now out ∷ [])) ≡ pulled m
    polled m true now out = refl
    polled m false now out = refl

    reached : (b : Agreement) (e : Entry) → Answers s t e → pulled (machine s t) ≡ pulled t → pulled (with_entries (machine s t) (reaches s b t e)) ≡ pulled (t ▷ e)
    reached b (Gave bytes) answers old = old
    reached b (In now datagram took) answers old = came (machine s t) s.role (is_for_machine s b datagram) (max (moment t) now) datagram took ∙ old
    reached b (Polled now out) answers old = polled (machine s t) (nat_lt 0 (owed s t)) (max (moment t) now) out ∙ old
    reached b (Pulled room bytes) answers old = ap (λ xs. xs ++ bytes) old
    reached b (Owed count) answers old = old
    reached b (Posted bytes) answers old = absurd answers
    reached b (Next bytes) answers old = absurd answers

    by_agreement : (o : Option Agreement) → agreed s t ≡ o → pulled (machine s t) ≡ pulled t → pulled (machine s (t ▷ e)) ≡ pulled (t ▷ e)
    by_agreement None is old =
        ap (λ es. pulled (with_entries (machine s t) es)) (at_first s t e (agreed s (t ▷ e)) is refl)
        ∙ begun_by (machine s t) (agreed s (t ▷ e)) (given t) ∙ old ∙ unpulled e law.0 is
    by_agreement (Some b) is old = ap (λ o. pulled (with_entries (machine s t) (tells s t o e))) is ∙ reached b e law.0 old

-- ---- both machines

-- calls at one end are calls of its trace alone
half_steps : (side : Role) (w : Trace Step) (es : List Entry) → half side (with_steps w side es) ≡ with_entries (half side w) es
half_steps side w [] = refl
half_steps Server w (e ∷ es) = half_steps Server (w ▷ At Server e) es
half_steps Client w (e ∷ es) = half_steps Client (w ▷ At Client e) es

half_other : (side : Role) (w : Trace Step) (es : List Entry) → half (other side) (with_steps w side es) ≡ half (other side) w
half_other side w [] = refl
half_other Server w (e ∷ es) = half_other Server (w ▷ At Server e) es
half_other Client w (e ∷ es) = half_other Client (w ▷ At Client e) es

pub halves : (settings : Role → OpenSettings) (w : Trace Step) (s : Role) → half s (machines settings w) ≡ machine (settings s) (half s w)
halves settings Start s = refl
halves settings (w ▷ At Server e) Server =
    let told = tells (settings Server) (half Server w) (agreed (settings Server) (half Server w)) e in
    half_steps Server (machines settings w) told ∙ ap (λ t. with_entries t told) (halves settings w Server)
halves settings (w ▷ At Client e) Client =
    let told = tells (settings Client) (half Client w) (agreed (settings Client) (half Client w)) e in
    half_steps Client (machines settings w) told ∙ ap (λ t. with_entries t told) (halves settings w Client)
halves settings (w ▷ At Server e) Client =
    half_other Server (machines settings w) (tells (settings Server) (half Server w) (agreed (settings Server) (half Server w)) e) ∙ halves settings w Client
halves settings (w ▷ At Client e) Server =
    half_other Client (machines settings w) (tells (settings Client) (half Client w) (agreed (settings Client) (half Client w)) e) ∙ halves settings w Server
