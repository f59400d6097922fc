-- Channels that are known at an end: they stay known, and what is held is of such channels.
use Rattle.std.proofs.Common.{◌≡◌, ℕ, Bool, true, false, ◌||◌, ◌&&◌, cond, eqb, nat_lt, List, [], ◌∷◌, ◌++◌, Option, Some, None, refl, sym, ap, subst, ◌∙◌, eq-eqb}
use Rattle.std.proofs.lemmas.Bool.{eqb-true}
use Rattle.mt_base.specs.declared.kinds.Kind.{Kind}
use Rattle.mt_base.specs.declared.kinds.Kind.TheVariants.{Reliable, Lossy}
use Rattle.mt_base.specs.declared.kinds.Role.{Role}
use Rattle.mt_base.specs.declared.kinds.Role.TheVariants.{Server, Client}
use Rattle.mt_base.specs.Trace.{Trace, Start, ◌▷◌}
use Rattle.dvc_pdus.specs.Value.{Pdu, Data}
use Rattle.dvc_channels.specs.declared.answers.ChannelState.{ChannelState}
use Rattle.dvc_channels.specs.declared.answers.ChannelState.TheVariants as state
use Rattle.dvc_channels.specs.Acts.{Act as Change, Made, Answered, Came, Took, Ended}
use Rattle.dvc_channels.specs.Acts as channels
use Rattle.mt_endpoint.specs.Acts.{Act, Opens, Closes, Hears, Draws, Releases, Discards, Spoken, Drawn, CreateAsked, CreateAnswered, Nothing, Carried}
use Rattle.mt_endpoint.specs.Said.{Said, Capable, Creates, Created, Brings, Ends, Moves, Moved, said, lone}
use Rattle.mt_endpoint.specs.Channels.{table, has_place, with_said, channel, is_open, is_open_in, is_known, is_known_in}
use Rattle.mt_base.specs.Ends.{same_kind}
use Rattle.mt_endpoint.specs.Moving.{inward}
use Rattle.mt_endpoint.specs.Holding.{Held, held, held_after, held_drawn, is_held, may_hold, is_for_open, channel_of, only, unless_ended, without, without_first, is_of, fits, is_through}
use Rattle.mt_endpoint.specs.Orders.{is_among}
use Rattle.mt_endpoint.specs.Alone.{IsDue}
use Rattle.mt_endpoint.proofs.Asking.{or_both}

-- ---- known channels stay known

pub known_at : (b : Bool) (s r : ChannelState) → is_known_in s ≡ true → is_known_in r ≡ true → is_known_in (cond b s r) ≡ true
known_at true s r h k = h
known_at false s r h k = k

known_answered : (status : ℕ) → is_known_in (channels.answered status) ≡ true
known_answered status = known_at (nat_lt status 2147483648) state.Open state.Refused refl refl

pub known_change : (c : Trace Change) (x : Change) (id : ℕ) → is_known_in (channels.state c id) ≡ true → is_known_in (channels.state (c ▷ x) id) ≡ true
known_change c (Made made name) id h = known_at (eqb made id) state.Asked (channels.state c id) refl h
known_change c (Answered made status) id h = known_at (eqb made id) (channels.answered status) (channels.state c id) (known_answered status) h
known_change c (Came made pdu) id h = h
known_change c (Took made message) id h = h
known_change c (Ended made) id h = known_at (eqb made id) state.Closed (channels.state c id) refl h

known_said : (role : Role) (pdu : Pdu) (s : Said) (c : Trace Change) (id : ℕ) → is_known_in (channels.state c id) ≡ true → is_known_in (channels.state (with_said role pdu s c) id) ≡ true
known_said role pdu (Capable version) c id h = h
known_said Server pdu (Creates made name) c id h = h
known_said Client pdu (Creates made name) c id h = by_place (has_place c) where
  by_place : (b : Bool) → is_known_in (channels.state (cond b (c ▷ Made made name ▷ Answered made 0) c) id) ≡ true
  by_place true = known_change (c ▷ Made made name) (Answered made 0) id (known_change c (Made made name) id h)
  by_place false = h
known_said role pdu (Created made status) c id h = known_change c (Answered made status) id h
known_said role pdu (Brings made) c id h = h
known_said role pdu (Ends made) c id h = known_change c (Ended made) id h
known_said role pdu (Moves lists) c id h = h
known_said role pdu (Moved kinds) c id h = h

pub known_stays : (role : Role) (t : Trace Act) (act : Act) (id : ℕ) → is_known role id t ≡ true → is_known role id (t ▷ act) ≡ true
known_stays role t (Opens made name) id h = known_change (table role t) (Made made name) id h
known_stays role t (Closes made) id h = known_change (table role t) (Ended made) id h
known_stays role t (Hears (Spoken pdu)) id h = known_said role pdu (said pdu) (table role t) id h
known_stays role t (Releases kind at bytes pdu) id h = known_said role pdu (said pdu) (table role t) id h
known_stays role t act id h = h

-- ---- what is held is of known channels

known_in_open : (s : ChannelState) → is_open_in s ≡ true → is_known_in s ≡ true
known_in_open state.Unknown h = h
known_in_open state.Asked h = refl
known_in_open state.Open h = refl
known_in_open state.Refused h = refl
known_in_open state.Closed h = refl

pub known_open : (role : Role) (id : ℕ) (t : Trace Act) → is_open role id t ≡ true → is_known role id t ≡ true
known_open role id t h = known_in_open (channel role id t) h

abbrev pub OfKnown : Role → Trace Act → Option ℕ → Type 0
OfKnown role t None = Unit {0}
OfKnown role t (Some id) = is_known role id t ≡ true

-- all of these are of channels of which this holds
abbrev pub AllOf : (Option ℕ → Type 0) → List Held → Type 0
AllOf Q [] = Unit {0}
AllOf Q (h ∷ queue) = Q (channel_of h.pdu) × AllOf Q queue

all_cond : (Q : Option ℕ → Type 0) (b : Bool) (xs ys : List Held) → AllOf Q xs → AllOf Q ys → AllOf Q (cond b xs ys)
all_cond Q true xs ys h k = h
all_cond Q false xs ys h k = k

all-push : (Q : Option ℕ → Type 0) (xs : List Held) (x : Held) → AllOf Q xs → Q (channel_of x.pdu) → AllOf Q (xs ++ x ∷ [])
all-push Q [] x h k = (k, tt)
all-push Q (y ∷ xs) x h k = (h.0, all-push Q xs x h.1 k)

all_without : (Q : Option ℕ → Type 0) (id : ℕ) (xs : List Held) → AllOf Q xs → AllOf Q (without id xs)
all_without Q id [] h = tt
all_without Q id (x ∷ xs) h = all_cond Q (is_of id (channel_of x.pdu)) (without id xs) (x ∷ without id xs) (all_without Q id xs h.1) (h.0, all_without Q id xs h.1)

pub all_only : (Q : Option ℕ → Type 0) (id : ℕ) (xs : List Held) → AllOf Q xs → AllOf Q (only id xs)
all_only Q id [] h = tt
all_only Q id (x ∷ xs) h = all_cond Q (is_of id (channel_of x.pdu)) (x ∷ only id xs) (only id xs) (h.0, all_only Q id xs h.1) (all_only Q id xs h.1)

all_but_first : (Q : Option ℕ → Type 0) (id : Option ℕ) (xs : List Held) → AllOf Q xs → AllOf Q (without_first id xs)
all_but_first Q None xs h = h
all_but_first Q (Some id) [] h = tt
all_but_first Q (Some id) (x ∷ xs) h = all_cond Q (is_of id (channel_of x.pdu)) xs (x ∷ without_first (Some id) xs) h.1 (h.0, all_but_first Q (Some id) xs h.1)

all_unless : (Q : Option ℕ → Type 0) (s : Said) (xs : List Held) → AllOf Q xs → AllOf Q (unless_ended s xs)
all_unless Q (Ends id) xs h = all_without Q id xs h
all_unless Q s xs h = h

pub all_later : (Q R : Option ℕ → Type 0) → ((id : Option ℕ) → Q id → R id) → (xs : List Held) → AllOf Q xs → AllOf R xs
all_later Q R later [] h = tt
all_later Q R later (x ∷ xs) h = (later (channel_of x.pdu) h.0, all_later Q R later xs h.1)

of_later : (role : Role) (t : Trace Act) (act : Act) (id : Option ℕ) → OfKnown role t id → OfKnown role (t ▷ act) id
of_later role t act None h = tt
of_later role t act (Some id) h = known_stays role t act id h

pub both : (a b : Bool) → a && b ≡ true → (a ≡ true) × (b ≡ true)
both true b h = (refl, h)
both false b h = absurd (let no : false ≡ true = h in cc)

-- it holds of open channels
abbrev pub OpenHas : Role → Trace Act → (Option ℕ → Type 0) → Type 0
OpenHas role t Q = (id : Option ℕ) → is_for_open role t id ≡ true → Q id

of_lone : (role : Role) (t : Trace Act) (Q : Option ℕ → Type 0) → OpenHas role t Q → (bytes : List ℕ) (pdu : Pdu) (queue : List Held) → may_hold role t (lone pdu) bytes queue ≡ true → Q (channel_of pdu)
of_lone role t Q o bytes (Data id part) queue h = o (Some id) (both (is_open role id t) (is_through Lossy (inward id t) || fits bytes queue) h).0
of_lone role t Q o bytes pdu queue h = absurd (let no : false ≡ true = h in cc)

of_held : (role : Role) (kind : Kind) (t : Trace Act) (Q : Option ℕ → Type 0) → OpenHas role t Q → (bytes : List ℕ) (pdu : Pdu) (queue : List Held) → is_held role kind t bytes pdu queue ≡ true → Q (channel_of pdu)
of_held role Reliable t Q o bytes pdu queue h = o (channel_of pdu) h
of_held role Lossy t Q o bytes pdu queue h = of_lone role t Q o bytes pdu queue h

all_drawn : (role : Role) (kind : Kind) (t : Trace Act) (Q : Option ℕ → Type 0) → OpenHas role t Q → (at : ℕ) (drawn : Drawn) (queue : List Held) → AllOf Q queue → AllOf Q (held_drawn role kind t at drawn queue)
all_drawn role kind t Q o at (CreateAsked id cookie) queue h = h
all_drawn role kind t Q o at (CreateAnswered hr) queue h = h
all_drawn role kind t Q o at Nothing queue h = h
all_drawn role kind t Q o at (Carried bytes pdu) queue h = by_test (is_held role kind t bytes pdu queue) refl where
  by_test : (b : Bool) → is_held role kind t bytes pdu queue ≡ b → AllOf Q (cond b (queue ++ record { at = at; bytes = bytes; pdu = pdu } ∷ []) queue)
  by_test true e = all-push Q queue (record { at = at; bytes = bytes; pdu = pdu }) h (of_held role kind t Q o bytes pdu queue e)
  by_test false e = h

pub all_after : (role : Role) (kind : Kind) (t : Trace Act) (act : Act) (Q : Option ℕ → Type 0) → OpenHas role t Q → (queue : List Held) → AllOf Q queue → AllOf Q (held_after role kind t act queue)
all_after role kind t (Draws made at drawn) Q o queue h = all_cond Q (same_kind kind made) (held_drawn role kind t at drawn queue) queue (all_drawn role kind t Q o at drawn queue h) h
all_after role kind t (Releases made at bytes pdu) Q o queue h =
    all_unless Q (said pdu) (cond (same_kind kind made) (without_first (channel_of pdu) queue) queue)
    (all_cond Q (same_kind kind made) (without_first (channel_of pdu) queue) queue (all_but_first Q (channel_of pdu) queue h) h)
all_after role kind t (Discards at bytes pdu) Q o queue h = all_cond Q (same_kind kind Lossy) (without_first (channel_of pdu) queue) queue (all_but_first Q (channel_of pdu) queue h) h
all_after role kind t (Closes id) Q o queue h = all_without Q id queue h
all_after role kind t (Hears (Spoken pdu)) Q o queue h = all_unless Q (said pdu) queue h
all_after role kind t act Q o queue h = h

of_open : (role : Role) (t : Trace Act) → OpenHas role t (OfKnown role t)
of_open role t None h = tt
of_open role t (Some id) h = known_open role id t h

pub held_known : (role : Role) (kind : Kind) (t : Trace Act) → AllOf (OfKnown role t) (held role kind t)
held_known role kind Start = tt
held_known role kind (t ▷ act) =
    all_later (OfKnown role t) (OfKnown role (t ▷ act)) (of_later role t act) (held role kind (t ▷ act)) (all_after role kind t act (OfKnown role t) (of_open role t) (held role kind t) (held_known role kind t))

pub due_of : (role : Role) (kind : Kind) (t : Trace Act) (at : ℕ) (bytes : List ℕ) (pdu : Pdu) (Q : Option ℕ → Type 0) → AllOf Q (held role kind t) → IsDue role kind t at bytes pdu → Q (channel_of pdu)
due_of role kind t at bytes pdu Q h d = (subst (AllOf Q) d.is_oldest (all_only Q d.id (held role kind t) h)).0

-- so what is due is of a known channel
pub due_known : (role : Role) (kind : Kind) (t : Trace Act) (at : ℕ) (bytes : List ℕ) (pdu : Pdu) → IsDue role kind t at bytes pdu → OfKnown role t (channel_of pdu)
due_known role kind t at bytes pdu d = due_of role kind t at bytes pdu (OfKnown role t) (held_known role kind t) d

-- ---- known channels are those that were made

pub among-append : (id : ℕ) (xs ys : List ℕ) → is_among id (xs ++ ys) ≡ is_among id xs || is_among id ys
among-append id [] ys = refl
among-append id (x ∷ xs) ys = or_both (eqb x id) (is_among id (xs ++ ys)) (is_among id xs) (is_among id ys) (among-append id xs ys)

pub or_last : (a b : Bool) → b ≡ true → a || (b || false) ≡ true
or_last true b h = refl
or_last false true h = refl
or_last false false h = absurd (let no : false ≡ true = h in cc)

pub or_front : (a b : Bool) → a ≡ true → a || b ≡ true
or_front true b h = refl
or_front false b h = absurd (let no : false ≡ true = h in cc)

pub record Rooted (c : Trace Change) : Type 0 where
  pub listed : (id : ℕ) → is_known_in (channels.state c id) ≡ true → is_among id (channels.ids c) ≡ true
  pub known : (id : ℕ) → is_among id (channels.ids c) ≡ true → is_known_in (channels.state c id) ≡ true

listed_at : (b : Bool) (s r : ChannelState) (a : Bool) → (b ≡ true → a ≡ true) → (is_known_in r ≡ true → a ≡ true) → is_known_in (cond b s r) ≡ true → a ≡ true
listed_at true s r a h k e = h refl
listed_at false s r a h k e = k e

rooted_at : (b : Bool) (s : ChannelState) (a : Bool) → (a ≡ true → is_known_in s ≡ true) → a || (b || false) ≡ true → is_known_in (cond b state.Asked s) ≡ true
rooted_at true s a h e = refl
rooted_at false s true h e = h refl
rooted_at false s false h e = absurd (let no : false ≡ true = e in cc)

pub rooted_made : (c : Trace Change) (made : ℕ) (name : List ℕ) → Rooted c → Rooted (c ▷ Made made name)
rooted_made c made name r = record {
  listed = λ id h. among-append id (channels.ids c) (made ∷ [])
      ∙ listed_at (eqb made id) state.Asked (channels.state c id) (is_among id (channels.ids c) || (eqb made id || false)) (λ e. or_last (is_among id (channels.ids c)) (eqb made id) e) (λ k. or_front (is_among id (channels.ids c)) (eqb made id || false) (r.listed id k)) h;
  known = λ id h. rooted_at (eqb made id) (channels.state c id) (is_among id (channels.ids c)) (r.known id) (sym (among-append id (channels.ids c) (made ∷ [])) ∙ h);
}

known_same : (c : Trace Change) (made id : ℕ) → is_known_in (channels.state c made) ≡ true → eqb made id ≡ true → is_known_in (channels.state c id) ≡ true
known_same c made id k e = ap (λ x. is_known_in (channels.state c x)) (sym (eqb-true made id e)) ∙ k

rooted_answered : (c : Trace Change) (made status : ℕ) → is_known_in (channels.state c made) ≡ true → Rooted c → Rooted (c ▷ Answered made status)
rooted_answered c made status k r = record {
  listed = λ id h. listed_at (eqb made id) (channels.answered status) (channels.state c id) (is_among id (channels.ids c)) (λ e. r.listed id (known_same c made id k e)) (r.listed id) h;
  known = λ id h. known_change c (Answered made status) id (r.known id h);
}

pub rooted_ended : (c : Trace Change) (made : ℕ) → is_known_in (channels.state c made) ≡ true → Rooted c → Rooted (c ▷ Ended made)
rooted_ended c made k r = record {
  listed = λ id h. listed_at (eqb made id) state.Closed (channels.state c id) (is_among id (channels.ids c)) (λ e. r.listed id (known_same c made id k e)) (r.listed id) h;
  known = λ id h. known_change c (Ended made) id (r.known id h);
}

pub rooted_same : (c d : Trace Change) → ((id : ℕ) → channels.state d id ≡ channels.state c id) → channels.ids d ≡ channels.ids c → Rooted c → Rooted d
rooted_same c d s i r = record {
  listed = λ id h. ap (is_among id) i ∙ r.listed id (ap is_known_in (sym (s id)) ∙ h);
  known = λ id h. ap is_known_in (s id) ∙ r.known id (ap (is_among id) (sym i) ∙ h);
}

-- the channels that a PDU changes are known
abbrev pub Touches : Said → Trace Change → Type 0
Touches (Capable version) c = Unit {0}
Touches (Creates id name) c = Unit {0}
Touches (Created id status) c = is_known_in (channels.state c id) ≡ true
Touches (Brings id) c = Unit {0}
Touches (Ends id) c = is_known_in (channels.state c id) ≡ true
Touches (Moves lists) c = Unit {0}
Touches (Moved kinds) c = Unit {0}

made_known : (c : Trace Change) (made : ℕ) (name : List ℕ) → is_known_in (channels.state (c ▷ Made made name) made) ≡ true
made_known c made name = by_test (eqb made made) (eq-eqb made made refl) where
  by_test : (b : Bool) → b ≡ true → is_known_in (cond b state.Asked (channels.state c made)) ≡ true
  by_test true h = refl
  by_test false h = absurd (let no : false ≡ true = h in cc)

pub rooted_said : (role : Role) (pdu : Pdu) (s : Said) (c : Trace Change) → Touches s c → Rooted c → Rooted (with_said role pdu s c)
rooted_said role pdu (Capable version) c k r = r
rooted_said Server pdu (Creates made name) c k r = r
rooted_said Client pdu (Creates made name) c k r = by_place (has_place c) where
  by_place : (b : Bool) → Rooted (cond b (c ▷ Made made name ▷ Answered made 0) c)
  by_place true = rooted_answered (c ▷ Made made name) made 0 (made_known c made name) (rooted_made c made name r)
  by_place false = r
rooted_said role pdu (Created made status) c k r = rooted_answered c made status k r
rooted_said role pdu (Brings made) c k r = rooted_same c (c ▷ Came made pdu) (λ id. refl) refl r
rooted_said role pdu (Ends made) c k r = rooted_ended c made k r
rooted_said role pdu (Moves lists) c k r = r
rooted_said role pdu (Moved kinds) c k r = r
