-- The verdict that is computed is the one of the table.
use Rattle.std.proofs.Common.{◌≡◌, ◌≢◌, ℕ, nat_eq, Bool, true, false, not, List, Option, Some, None, refl, sym, ap, ◌∙◌, if◌then◌else◌}
use Rattle.std.specs.Cmp.Lexicographic.{pointwise, same_text, other_text}
use Rattle.std.proofs.lemmas.Bool.{eqb-true, eq-eqb}
use Rattle.mt_base.specs.declared.kinds.Kind.{Kind}
use Rattle.mt_base.specs.declared.kinds.Kind.TheVariants.{Reliable, Lossy}
use Rattle.tunnel_cookies.specs.declared.entry.Entry.{Entry}
use Rattle.tunnel_cookies.specs.declared.entry.Verdict.TheVariants as verdict
use Rattle.tunnel_cookies.specs.Entries.{IsVerdict, unknown, wrong_cookie, wrong_kind, again, spent, opened}
use Rattle.mt_endpoint.specs.Tunnels.{link_of}
use Rattle.mt_base.specs.Ends.{same_kind}
use Rattle.end_calls.specs.Streams.{by_spender, verdict_by}

differs : {b : Bool} → b ≡ false → b ≡ true → ⊥
differs f h = cc

by_spender_is : (link : ℕ) (kind : Kind) (cookie : List ℕ) (e : Entry) → cookie ≡ e.cookie → kind ≡ e.kind → (s : Option ℕ) → e.spender ≡ s → IsVerdict link kind cookie (Some e) (by_spender link s)
by_spender_is link kind cookie e c k None s = opened e c k s
by_spender_is link kind cookie e c k (Some spender) s = by_test (nat_eq spender link) refl
  where
    by_test : (b : Bool) → nat_eq spender link ≡ b
        → IsVerdict link kind cookie (Some e) (if b then verdict.Again else verdict.Spent spender)
    by_test true h = again e c k (s ∙ ap Some (eqb-true spender link h))
    by_test false h = spent e spender c k s (λ same. differs h (eq-eqb spender link same))

same_kinds : (k l : Kind) → same_kind k l ≡ true → k ≡ l
same_kinds Reliable Reliable h = refl
same_kinds Reliable Lossy h = cc
same_kinds Lossy Reliable h = cc
same_kinds Lossy Lossy h = refl

other_kinds : (k l : Kind) → same_kind k l ≡ false → k ≢ l
other_kinds Reliable Reliable h e = cc
other_kinds Reliable Lossy h e = cc
other_kinds Lossy Reliable h e = cc
other_kinds Lossy Lossy h e = cc

pub verdict_is : (kind : Kind) (cookie : List ℕ) (entry : Option Entry) → IsVerdict (link_of kind) kind cookie entry (verdict_by kind cookie entry)
verdict_is kind cookie None = unknown
verdict_is kind cookie (Some e) = by_cookie (pointwise nat_eq cookie e.cookie) refl
  where
    by_kind : cookie ≡ e.cookie → (b : Bool) → same_kind kind e.kind ≡ b
        → IsVerdict (link_of kind) kind cookie (Some e) (if not b then verdict.WrongKind else by_spender (link_of kind) e.spender)
    by_kind c true h = by_spender_is (link_of kind) kind cookie e c (same_kinds kind e.kind h) e.spender refl
    by_kind c false h = wrong_kind e c (other_kinds kind e.kind h)

    by_cookie : (b : Bool) → pointwise nat_eq cookie e.cookie ≡ b
        → IsVerdict (link_of kind) kind cookie (Some e) (if not b then verdict.WrongCookie
        else if not (same_kind kind e.kind) then verdict.WrongKind
        else by_spender (link_of kind) e.spender)
    by_cookie true h = by_kind (same_text cookie e.cookie (sym h)) (same_kind kind e.kind) refl
    by_cookie false h = wrong_cookie e (other_text cookie e.cookie (sym h))
