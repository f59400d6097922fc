-- Traces: what happened so far, one entry for each call, the latest last.

infixl 50 ◌▷◌
-- the calls so far; `t ▷ e` is t with the entry e at its end
pub data Trace (E : Type 0) : Type 0 where
  Start : Trace E
  ◌▷◌ : Trace E → E → Trace E
