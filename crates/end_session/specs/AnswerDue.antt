-- The answer to a Soft-Sync request that is due next (MS-RDPEDYC section 2.2.5.2).
use Rattle.std.specs.Prelude.{◌≡◌, ℕ, Bool, true, false, not, ◌&&◌, ◌||◌, List, [], ◌∷◌, Option, Some, None, if◌then◌else◌}
use Rattle.mt_base.specs.declared.kinds.Kind.{Kind}
use Rattle.mt_base.specs.declared.kinds.Kind.TheVariants.{Reliable, Lossy}
use Rattle.mt_base.specs.declared.kinds.Role.TheVariants.{Client}
use Rattle.mt_base.specs.Trace.{Trace, ◌▷◌}
use Rattle.soft_sync.specs.declared.kinds.Kinds.{Kinds}
use Rattle.soft_sync.specs.Exchanges.{Exchange, Request, is_named, names, naming, with_answer}
use Rattle.mt_endpoint.specs.Acts.{Act, Answers}
use Rattle.mt_endpoint.specs.Moving.{answer_to, may_answer, read, unanswered_in}
use Rattle.end_session.specs.Known.{is_live_in, is_settled_in}
use Rattle.end_session.specs.Store.{Store}

-- the answer to the oldest of these requests, where it is known what became of its kinds
abbrev pub oldest_due : Trace Act → List Request → Option Kinds
oldest_due t [] = None
oldest_due t (request ∷ requests) =
    if may_answer Client t request.named then Some (answer_to Client t request.named) else None

abbrev pub due : Trace Act → Option Kinds
due t = oldest_due t (unanswered_in (read t))

-- the same, by what a client keeps
abbrev pub may_answer_in : Store → Kinds → Bool
may_answer_in s named =
    (not named.reliable || is_settled_in Client s.reliable) && (not named.lossy || is_settled_in Client s.lossy)

abbrev pub answer_in : Store → Kinds → Kinds
answer_in s named = record {
  reliable = named.reliable && is_live_in Client s.reliable;
  lossy = named.lossy && is_live_in Client s.lossy;
}

abbrev pub oldest_due_in : Store → List Request → Option Kinds
oldest_due_in s [] = None
oldest_due_in s (request ∷ requests) =
    if may_answer_in s request.named then Some (answer_in s request.named) else None

abbrev pub due_in : Store → Option Kinds
due_in s = oldest_due_in s (unanswered_in (s.paths).read)

-- the acts with the answer that is due
abbrev pub with_due : Option Kinds → Trace Act → Trace Act
with_due None t = t
with_due (Some named) t = t ▷ Answers named

-- the answer to the request of this number names the kind too, or stays as it is
abbrev pub naming_if : Bool → Kind → ℕ → List Exchange → List Exchange
naming_if is_named kind number xs = if is_named then with_answer number (naming kind) xs else xs

-- an answer to the request of this number may name these kinds: the request does, and no answer did
pub record MayName (number : ℕ) (named : Kinds) (xs : List Exchange) : Type 0 where
  pub reliable : named.reliable ≡ true → names number Reliable xs ≡ true
  pub lossy : named.lossy ≡ true → names number Lossy xs ≡ true
  pub none_named : (kind : Kind) → is_named number kind xs ≡ false
