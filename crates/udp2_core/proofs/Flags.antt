-- The flags that a machine tells.
use Rattle.std.proofs.Common.{◌≡◌, ℕ, zero, suc, ◌+◌, ◌-◌, ◌<◌, ◌≤◌, ◌&&◌, Bool, true, false, List, [], ◌∷◌, length, max, take, replicate, refl, sym, ap, ap₂, ◌∙◌, arith}
use Rattle.std.proofs.lemmas.List.{length-replicate, take-replicate}
use Rattle.mt_windows.specs.Noted.{is_seen}
use Rattle.carrier.specs.Layout.{Upto}
use Rattle.udp2_packets.specs.Value.{AckTelling}
use Rattle.udp2_core.specs.SecondLayout.{all_seen, low, packet_telling}

-- where each of the numbers was seen, all were
pub all_there : (seen : List ℕ) (from n : ℕ)
    → ((k : ℕ) → k < n → is_seen 512 seen (from + k) ≡ true) → true ≡ all_seen seen from n
all_there seen from zero each = refl
all_there seen from (suc n) each =
    let here : from + 0 ≡ from = omega arith in
    let first : is_seen 512 seen from ≡ true = ap (is_seen 512 seen) (sym here) ∙ each 0 (omega arith) in
    all_there seen (from + 1) n
    (λ k less. let there : from + 1 + k ≡ from + suc k = omega arith in
    ap (is_seen 512 seen) there ∙ each (suc k) (omega (arith, less)))
    ∙ sym (ap (λ b. b && all_seen seen (from + 1) n) first)

-- where one was not, not all were
pub one_missing : (seen : List ℕ) (from n k : ℕ) → k < n → false ≡ is_seen 512 seen (from + k)
    → false ≡ all_seen seen from n
one_missing seen from zero k less not_there = absurd (omega arith)
one_missing seen from (suc n) zero less not_there =
    let here : from + 0 ≡ from = omega arith in
    ap (λ b. b && all_seen seen (from + 1) n) (not_there ∙ ap (is_seen 512 seen) here)
one_missing seen from (suc n) (suc k) less not_there =
    let there : from + suc k ≡ from + 1 + k = omega arith in
    by_first (is_seen 512 seen from)
    (one_missing seen (from + 1) n k (omega arith) (not_there ∙ ap (is_seen 512 seen) there))
  where
    by_first : (first : Bool) → false ≡ all_seen seen (from + 1) n
        → false ≡ (first && all_seen seen (from + 1) n)
    by_first true others = others
    by_first false others = refl

-- the front of no delays
pub no_delays : (n : ℕ) → n ≤ 15
    → take {A = ℕ} n (0 ∷ 0 ∷ 0 ∷ 0 ∷ 0 ∷ 0 ∷ 0 ∷ 0 ∷ 0 ∷ 0 ∷ 0 ∷ 0 ∷ 0 ∷ 0 ∷ 0 ∷ []) ≡ replicate n 0
no_delays n few = let z : ℕ = 0 in take-replicate n 15 z few

-- an acknowledgement of so many numbers
pub ack_told : (named number count most : ℕ) (delays : List ℕ) → number ≡ low named
    → most ≡ max count 1 → delays ≡ replicate (most - 1) 0
    → AckTelling (record { number = number; received_ts = 0; gap = 0; scale = 0; delays = delays })
    ≡ packet_telling (Upto named (replicate (max 1 count) true))
ack_told named number count most delays number_is most_is delays_are =
    let fewer : most - 1 ≡ length (replicate (max 1 count) true) - 1 =
    omega (arith, most_is, length-replicate (max 1 count) true) in
    ap₂ (λ m ds. AckTelling (record { number = m; received_ts = 0; gap = 0; scale = 0; delays = ds }))
    number_is (delays_are ∙ ap (λ k. replicate k 0) fewer)
