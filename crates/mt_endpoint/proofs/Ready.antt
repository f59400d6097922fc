-- The channels that a server's requests list take data, and its reliable tunnel is open where they list
-- one under it.
use Rattle.std.proofs.Common.{◌≡◌, ℕ, Bool, true, false, not, cond, eqb, nat_eq, List, [], ◌∷◌, ◌++◌, map, Option, Some, None, refl, sym, subst, ◌∙◌}
use Rattle.std.proofs.lemmas.Bool.{eqb-true}
use Rattle.std.specs.Option.{option_or}
use Rattle.std.specs.Map.{lookup}
use Rattle.mt_base.specs.declared.kinds.Kind.{Kind}
use Rattle.mt_base.specs.declared.kinds.Kind.TheVariants.{Reliable, Lossy}
use Rattle.mt_base.specs.declared.kinds.Role.TheVariants.{Server, Client}
use Rattle.mt_base.specs.Trace.{Trace, Start, ◌▷◌}
use Rattle.soft_sync.specs.declared.kinds.Kinds.{Kinds}
use Rattle.soft_sync.specs.declared.kinds.Path.TheVariants.{Tunnel}
use Rattle.soft_sync.specs.Exchanges.{Request, exchanges, has, kind_in, if_among, listed, moved}
use Rattle.mt_endpoint.specs.Acts.{Act, Syncs}
use Rattle.mt_endpoint.specs.Channels.{channel, is_open}
use Rattle.mt_endpoint.specs.Tunnels.{is_silent, was_opened, opens}
use Rattle.mt_endpoint.specs.Moving.{all_told, made_by, read_by, answer_made, outward}
use Rattle.mt_endpoint.specs.Faults.{is_taken_in}
use Rattle.mt_endpoint.specs.World.{MayMove, HasTunnel}
use Rattle.mt_endpoint.specs.Alone.{IsAct, EndOfActs}
use Rattle.mt_endpoint.proofs.Words.{moved-none}
use Rattle.mt_endpoint.proofs.Known.{both, or_front}
use Rattle.mt_endpoint.proofs.Paths.{outward_is, path_said}
use Rattle.mt_endpoint.proofs.Late.{fitting}
use Rattle.mt_endpoint.proofs.HeldTaken.{taken_later, open_takes}

-- ---- what holds of each channel that is listed

abbrev pub EachIn : (ℕ → Kind → Type 0) → List (ℕ × Kind) → Type 0
EachIn P [] = Unit {0}
EachIn P ((id, kind) ∷ channels) = P id kind × EachIn P channels

abbrev pub EachOf : (ℕ → Kind → Type 0) → List Request → Type 0
EachOf P [] = Unit {0}
EachOf P (r ∷ rs) = EachIn P r.channels × EachOf P rs

pub in-append : (P : ℕ → Kind → Type 0) (xs ys : List (ℕ × Kind)) → EachIn P xs → EachIn P ys → EachIn P (xs ++ ys)
in-append P [] ys h k = k
in-append P ((id, kind) ∷ xs) ys h k = (h.0, in-append P xs ys h.1 k)

pub in_later : (P Q : ℕ → Kind → Type 0) → ((id : ℕ) (kind : Kind) → P id kind → Q id kind) → (xs : List (ℕ × Kind)) → EachIn P xs → EachIn Q xs
in_later P Q later [] h = tt
in_later P Q later ((id, kind) ∷ xs) h = (later id kind h.0, in_later P Q later xs h.1)

of-append : (P : ℕ → Kind → Type 0) (xs ys : List Request) → EachOf P xs → EachOf P ys → EachOf P (xs ++ ys)
of-append P [] ys h k = k
of-append P (r ∷ xs) ys h k = (h.0, of-append P xs ys h.1 k)

pub of_front : (P : ℕ → Kind → Type 0) (xs ys : List Request) → EachOf P (xs ++ ys) → EachOf P xs
of_front P [] ys h = tt
of_front P (r ∷ xs) ys h = (h.0, of_front P xs ys h.1)

of_later : (P Q : ℕ → Kind → Type 0) → ((id : ℕ) (kind : Kind) → P id kind → Q id kind) → (xs : List Request) → EachOf P xs → EachOf Q xs
of_later P Q later [] h = tt
of_later P Q later (r ∷ xs) h = (in_later P Q later r.channels h.0, of_later P Q later xs h.1)

pub found_in : (P : ℕ → Kind → Type 0) (id : ℕ) (kind : Kind) (xs : List (ℕ × Kind)) → lookup (nat_eq id) xs ≡ Some kind → EachIn P xs → P id kind
found_in P id kind [] found h = absurd (let no : None ≡ Some kind = found in cc)
found_in P id kind ((x, made) ∷ xs) found h = by_test (eqb id x) refl found (λ k. found_in P id kind xs k h.1) where
  by_test : (b : Bool) → eqb id x ≡ b → cond b (Some made) (lookup (nat_eq id) xs) ≡ Some kind → (lookup (nat_eq id) xs ≡ Some kind → P id kind) → P id kind
  by_test true e k deeper =
      let same : made ≡ kind = cc in
      let it : id ≡ x = eqb-true id x e in subst (P id) same (subst (λ i. P i made) (sym it) h.0)
  by_test false e k deeper = deeper k

-- a request that lists a channel
pub found_listed : (P : ℕ → Kind → Type 0) (id : ℕ) (kind : Kind) (rs : List Request) → listed id (exchanges rs []) ≡ Some kind → EachOf P rs → P id kind
found_listed P id kind [] found h = absurd (let no : None ≡ Some kind = found in cc)
found_listed P id kind (r ∷ rs) found h = by_kind (kind_in id r) refl found (λ k. found_listed P id kind rs k h.1) where
  by_kind : (o : Option Kind) → kind_in id r ≡ o → option_or o (listed id (exchanges rs [])) ≡ Some kind → (listed id (exchanges rs []) ≡ Some kind → P id kind) → P id kind
  by_kind None e k deeper = deeper k
  by_kind (Some made) e k deeper = found_in P id kind r.channels (e ∙ k) h.0

-- one whose answer names the kind
pub found_moved : (P : ℕ → Kind → Type 0) (id : ℕ) (kind : Kind) (rs : List Request) (zs : List Kinds) → moved id (exchanges rs zs) ≡ Some kind → EachOf P rs → P id kind
found_moved P id kind [] zs found h = absurd (let no : None ≡ Some kind = found in cc)
found_moved P id kind (r ∷ rs) [] found h = absurd (let no : None ≡ Some kind = sym (moved-none id (r ∷ rs)) ∙ found in cc)
found_moved P id kind (r ∷ rs) (z ∷ zs) found h = by_kind (kind_in id r) refl found (λ k. found_moved P id kind rs zs k h.1) where
  by_test : (made : Kind) (b : Bool) → kind_in id r ≡ Some made → option_or (cond b (Some made) None) (moved id (exchanges rs zs)) ≡ Some kind → (moved id (exchanges rs zs) ≡ Some kind → P id kind) → P id kind
  by_test made true e k deeper = found_in P id kind r.channels (e ∙ k) h.0
  by_test made false e k deeper = deeper k

  by_kind : (o : Option Kind) → kind_in id r ≡ o → option_or (if_among z o) (moved id (exchanges rs zs)) ≡ Some kind → (moved id (exchanges rs zs) ≡ Some kind → P id kind) → P id kind
  by_kind None e k deeper = deeper k
  by_kind (Some made) e k deeper = by_test made (has made z) e k deeper

-- ---- a server's requests

abbrev pub IsReady : Trace Act → ℕ → Kind → Type 0
IsReady t id kind = (is_taken_in (channel Server id t) ≡ true) × (kind ≡ Reliable → was_opened Reliable t ≡ true)

ready_later : (t : Trace Act) (act : Act) → EndOfActs Server (t ▷ act) → (id : ℕ) (kind : Kind) → IsReady t id kind → IsReady (t ▷ act) id kind
ready_later t act e id kind h = (taken_later Server t act e (Some id) h.0, λ k. or_front (was_opened Reliable t) (opens Reliable act) (h.1 k))

abbrev AllOpen : Trace Act → List ℕ → Type 0
AllOpen t [] = Unit {0}
AllOpen t (id ∷ ids) = (is_open Server id t ≡ true) × AllOpen t ids

open_first : (t : Trace Act) (xs ys : List ℕ) → MayMove t (xs ++ ys) → AllOpen t xs
open_first t [] ys m = tt
open_first t (x ∷ xs) ys m = (m.0, open_first t xs ys m.3)

open_second : (t : Trace Act) (xs ys : List ℕ) → MayMove t (xs ++ ys) → AllOpen t ys
open_second t [] [] m = tt
open_second t [] (y ∷ ys) m = (m.0, open_second t [] ys m.3)
open_second t (x ∷ xs) ys m = open_second t xs ys m.3

ready_under : (t : Trace Act) (kind : Kind) (ids : List ℕ) → AllOpen t ids → (kind ≡ Reliable → was_opened Reliable t ≡ true) → EachIn (IsReady t) (map (λ id. (id, kind)) ids)
ready_under t kind [] h k = tt
ready_under t kind (id ∷ ids) h k = ((open_takes (channel Server id t) h.0, k), ready_under t kind ids h.1 k)

-- ids under a kind with a live tunnel
ready_tunnel : (t : Trace Act) (ids : List ℕ) → AllOpen t ids → HasTunnel t Reliable ids → EachIn (IsReady t) (map (λ id. (id, Reliable)) ids)
ready_tunnel t [] h live = tt
ready_tunnel t (id ∷ ids) h live = ready_under t Reliable (id ∷ ids) h (λ k. (both (was_opened Reliable t) (not (is_silent Reliable t)) live).0)

ready_new : (t : Trace Act) (act : Act) → IsAct Server t act → EachOf (IsReady t) (made_by act)
ready_new t (Syncs reliable lossy) a =
    let m = a.0.1 in (
      in-append (IsReady t) (map (λ id. (id, Reliable)) reliable) (map (λ id. (id, Lossy)) lossy)
          (ready_tunnel t reliable (open_first t reliable lossy m.may_move) m.reliable_is_open)
          (ready_under t Lossy lossy (open_second t reliable lossy m.may_move) (λ k. absurd (let no : Lossy ≡ Reliable = k in cc))),
      tt,
    )
ready_new t act a = tt

pub ready : (t : Trace Act) → EndOfActs Server t → EachOf (IsReady t) (all_told made_by t)
ready Start e = tt
ready (t ▷ act) e =
    of_later (IsReady t) (IsReady (t ▷ act)) (ready_later t act e) (all_told made_by t ++ made_by act) (of-append (IsReady t) (all_told made_by t) (made_by act) (ready t e.2) (ready_new t act e.1))

pub server_moved : (t : Trace Act) (id : ℕ) (kind : Kind) → EndOfActs Server t → outward id t ≡ Tunnel kind → IsReady t id kind
server_moved t id kind e h =
    found_listed (IsReady t) id kind (all_told made_by t) (path_said _ kind (sym (outward_is Server id t (fitting Server t e)) ∙ h)) (ready t e)

-- what holds of each channel that a client was asked to move holds of one that moved
pub client_moved : (P : ℕ → Kind → Type 0) (t : Trace Act) (id : ℕ) (kind : Kind) → EndOfActs Client t → EachOf P (all_told read_by t) → outward id t ≡ Tunnel kind → P id kind
client_moved P t id kind e all h =
    found_moved P id kind (all_told read_by t) (all_told answer_made t) (path_said _ kind (sym (outward_is Client id t (fitting Client t e)) ∙ h)) all
