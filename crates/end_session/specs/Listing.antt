-- Channels that a Soft-Sync request may list (MS-RDPEDYC section 2.2.5.1).
use Rattle.std.specs.Prelude.{◌≡◌, ℕ, List, ◌∷◌, ◌++◌, nat_eq, None, true, is_some}
use Rattle.std.specs.Map.{lookup}
use Rattle.mt_base.specs.declared.kinds.Kind.{Kind}
use Rattle.soft_sync.specs.Exchanges.{listed}
use Rattle.soft_sync.specs.Words.{Words}

-- each channel was told of, and neither a request that was read nor those before it list it
abbrev pub AreNew : List (ℕ × Kind) → Words → Type 0
AreNew channels w =
    (id : ℕ) (kind : Kind) (before behind : List (ℕ × Kind)) → channels ≡ before ++ (id, kind) ∷ behind
    → (listed id w.read ≡ None) × (lookup (nat_eq id) before ≡ None) × (is_some (lookup (nat_eq id) w.channels) ≡ true)
