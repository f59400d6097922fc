-- What an end hears, and agrees on by it.
use Rattle.std.proofs.Common.{◌≡◌, ℕ, ◌==◌, Bool, true, false, ◌&&◌, not, nat_le, List, if◌then◌else◌, Option, Some, None, is_some, Result, Ok, Err, refl, sym, subst}
use Rattle.mt_base.specs.declared.kinds.Role.{Role}
use Rattle.mt_base.specs.declared.kinds.Role.TheVariants.{Server, Client}
use Rattle.carrier.specs.declared.state.Reason.{Reason}
use Rattle.carrier.specs.declared.state.Reason.TheVariants as reason
use Rattle.udp1_packets.specs.Layout.{has}
use Rattle.udp1_packets.specs.Value.{Syn, Body, SynBody, DataBody, FecBody, BareBody, Packet}
use Rattle.udp_open.specs.declared.settings.OpenSettings.{OpenSettings}
use Rattle.udp_open.specs.declared.agreement.Agreement.{Agreement}
use Rattle.udp_open.specs.Handshake.{shown, version_in, knows, is_of, is_for, is_copy, agreement, judged, takes, hears, agreed_by, syn}
use Rattle.udp_open.specs.Agreeing.{is_syn, shows_syn, is_opening}

-- ---- one agreement alone

-- nothing was agreed on, or this
abbrev pub IsAt : Agreement → Option Agreement → Type 0
IsAt x None = Unit {0}
IsAt x (Some a) = a ≡ x

-- nothing is heard, or this
abbrev pub Only : Agreement → Result Agreement Reason → Type 0
Only x (Ok a) = a ≡ x
Only x (Err why) = Unit {0}

abbrev pub Deaf : Result Agreement Reason → Type 0
Deaf (Ok a) = ⊥
Deaf (Err why) = Unit {0}

-- what holds of both, holds of one of them
pub either : {A : Type 0} (P : A → Type 0) (b : Bool) (x y : A) → P x → P y → P (if b then x else y)
either P true x y p q = p
either P false x y p q = q

deaf_only : (x : Agreement) (r : Result Agreement Reason) → Deaf r → Only x r
deaf_only x (Ok a) h = absurd h
deaf_only x (Err why) h = tt

pub heard_at : (x : Agreement) (b : Bool) (a : Option Agreement) (r : Result Agreement Reason) → IsAt x a → Only x r
    → IsAt x (if b then agreed_by a r else a)
heard_at x true a (Ok c) h o = o
heard_at x true a (Err why) h o = h
heard_at x false a r h o = h

pub deaf_same : (b : Bool) (a : Option Agreement) (r : Result Agreement Reason) → Deaf r
    → (if b then agreed_by a r else a) ≡ a
deaf_same true a (Ok c) h = absurd h
deaf_same true a (Err why) h = refl
deaf_same false a r h = refl

pub stays : (b : Bool) (a : Option Agreement) (r : Result Agreement Reason) → is_some a ≡ true
    → is_some (if b then agreed_by a r else a) ≡ true
stays true a (Ok c) h = refl
stays true a (Err why) h = h
stays false a r h = h

pub at_is : (x : Agreement) (o : Option Agreement) (a : Agreement) → IsAt x o → o ≡ Some a → a ≡ x
at_is x o a h e = subst (IsAt x) e h

-- ---- what is heard

deaf_takes : (s : OpenSettings) (p : Packet) (b : Body) → is_syn b ≡ false → Deaf (takes s p b)
deaf_takes s p (SynBody syn) h = cc
deaf_takes s p (DataBody vector aoa coded start bytes) h = tt
deaf_takes s p (FecBody vector aoa coded start range index bytes) h = tt
deaf_takes s p (BareBody vector aoa rest) h = tt

deaf_copy : (s : OpenSettings) (a : Agreement) (b : Body) → is_syn b ≡ false → is_copy s a b ≡ false
deaf_copy s a (SynBody syn) h = cc
deaf_copy s a (DataBody vector aoa coded start bytes) h = refl
deaf_copy s a (FecBody vector aoa coded start range index bytes) h = refl
deaf_copy s a (BareBody vector aoa rest) h = refl

-- nothing is heard in what opens nothing
pub deaf : (s : OpenSettings) (a : Option Agreement) (r : Result Packet Reason) → shows_syn r ≡ false → Deaf (hears s a r)
deaf s None (Ok p) h = deaf_takes s p p.body h
deaf s (Some a) (Ok p) h = rw (deaf_copy s a p.body h) tt
deaf s a (Err why) h = tt

-- of an end that agreed only what it agreed on is heard
copied : (b : Bool) (a c : Agreement) → Ok c ≡ (if b then Ok a else Err reason.NotOurs) → c ≡ a
copied true a c h = cc
copied false a c h = cc

pub heard_same : (s : OpenSettings) (o : Option Agreement) (r : Result Packet Reason) (a c : Agreement) → o ≡ Some a
    → Ok c ≡ hears s o r → c ≡ a
heard_same s o r a c is h = of_some r (subst (λ x. Ok c ≡ hears s x r) is h)
  where
    of_some : (r : Result Packet Reason) → Ok c ≡ hears s (Some a) r → c ≡ a
    of_some (Ok p) h = copied (is_copy s a p.body) a c h
    of_some (Err why) h = cc

judged_only : (s : OpenSettings) (role : Role) (p : Packet) (o : Syn) → Only (agreement s.version o) (judged s role p o)
judged_only s Server p o =
    let P = Only (agreement s.version o) in
    either P (not (is_of s.kind (has p.marks 0x0200))) _ _ tt (either P (not (knows s.cookie_hash o.extension)) _ _ tt refl)
judged_only s Client p o =
    either (Only (agreement s.version o)) ((p.ack == s.initial) && nat_le (version_in o.extension) s.version) _ _ refl tt

-- by an opening an end agrees on one thing alone
syn_only : (s : OpenSettings) (a : Option Agreement) (p : Packet) (o : Syn) → IsAt (agreement s.version o) a
    → p.body ≡ SynBody o → Only (agreement s.version o) (hears s a (Ok p))
syn_only s None p o h is =
    subst (λ b. Only (agreement s.version o) (takes s p b)) (sym is)
    (either (Only (agreement s.version o)) (is_for s.role o.answer) _ _ (judged_only s s.role p o) tt)
syn_only s (Some a) p o h is = either (Only (agreement s.version o)) (is_copy s a p.body) _ _ h tt

-- where each opening that comes is this one
pub hears_only : (s : OpenSettings) (a : Option Agreement) (p : Packet) (o : Syn) (datagram : List ℕ) → IsAt (agreement s.version o) a
    → p.body ≡ SynBody o → (is_opening datagram ≡ true → shown datagram ≡ Ok p)
    → Only (agreement s.version o) (hears s a (shown datagram))
hears_only s a p o datagram h is was = by_test (is_opening datagram) refl
  where
    by_test : (b : Bool) → is_opening datagram ≡ b → Only (agreement s.version o) (hears s a (shown datagram))
    by_test true e = subst (λ r. Only (agreement s.version o) (hears s a r)) (sym (was e)) (syn_only s a p o h is)
    by_test false e = deaf_only (agreement s.version o) (hears s a (shown datagram)) (deaf s a (shown datagram) e)
