-- What waits while a link opens: all that was given.
use Rattle.std.proofs.Common.{◌≡◌, ◌≤◌, [], ◌++◌, length, drop, if◌then◌else◌, refl, ap, ◌∙◌, subst, arith}
use Rattle.mt_base.specs.Trace.{Trace, Start, ◌▷◌}
use Rattle.mt_base.specs.Writing.{joined}
use Rattle.mt_windows.specs.declared.limits.TheConstants.{QUEUE}
use Rattle.mt_windows.specs.Sending.{cuts, given as bytes_given, is_open, piece, pieces, queued, sum_of, waiting}
use Rattle.mt_windows.specs.SendingView.{limits}
use Rattle.carrier.specs.Entries.{Entry, Gave, In, Polled, Pulled, Owed, Posted, Next, given}
use Rattle.carrier.specs.Layout.{Layout}
use Rattle.carrier.specs.Sending.{acts}
use Rattle.link_core.specs.CoreView.{Core, Stands, layout_of}
use Rattle.udp_open.specs.LinkView.{gives}

-- nothing is cut
cuts_none : (layout : Layout) (t : Trace Entry) → cuts (acts layout (gives t)) ≡ 0
cuts_none layout Start = refl
cuts_none layout (t ▷ Gave bytes) = cuts_none layout t
cuts_none layout (t ▷ In now datagram took) = cuts_none layout t
cuts_none layout (t ▷ Polled now out) = cuts_none layout t
cuts_none layout (t ▷ Pulled room bytes) = cuts_none layout t
cuts_none layout (t ▷ Owed count) = cuts_none layout t
cuts_none layout (t ▷ Posted bytes) = cuts_none layout t
cuts_none layout (t ▷ Next bytes) = cuts_none layout t

pieces_none : (layout : Layout) (t : Trace Entry) → pieces limits (acts layout (gives t)) ≡ []
pieces_none layout Start = refl
pieces_none layout (t ▷ Gave bytes) = pieces_none layout t
pieces_none layout (t ▷ In now datagram took) = pieces_none layout t
pieces_none layout (t ▷ Polled now out) = pieces_none layout t
pieces_none layout (t ▷ Pulled room bytes) = pieces_none layout t
pieces_none layout (t ▷ Owed count) = pieces_none layout t
pieces_none layout (t ▷ Posted bytes) = pieces_none layout t
pieces_none layout (t ▷ Next bytes) = pieces_none layout t

given_is : (layout : Layout) (t : Trace Entry) → bytes_given (acts layout (gives t)) ≡ given t
given_is layout Start = refl
given_is layout (t ▷ Gave bytes) = ap (λ xs. xs ++ bytes) (given_is layout t)
given_is layout (t ▷ In now datagram took) = given_is layout t
given_is layout (t ▷ Polled now out) = given_is layout t
given_is layout (t ▷ Pulled room bytes) = given_is layout t
given_is layout (t ▷ Owed count) = given_is layout t
given_is layout (t ▷ Posted bytes) = given_is layout t
given_is layout (t ▷ Next bytes) = given_is layout t

waits_all : (layout : Layout) (t : Trace Entry) → waiting limits (acts layout (gives t)) ≡ given t
waits_all layout t =
    ap (λ ps. drop (length (joined ps)) (bytes_given (acts layout (gives t)))) (pieces_none layout t)
    ∙ given_is layout t

pub queued_all : (layout : Layout) (t : Trace Entry) → queued limits (acts layout (gives t)) ≡ length (given t)
queued_all layout t =
    let s = acts layout (gives t) in
    let none : sum_of (λ p. if is_open limits s p then length (piece limits s p) else 0) (cuts s) ≡ 0 =
    ap (sum_of (λ p. if is_open limits s p then length (piece limits s p) else 0)) (cuts_none layout t) in
    omega (arith, none, ap length (waits_all layout t))

-- a machine that was given these bytes, and nothing else, keeps them all
pub waiting_is : (m : Core) (t : Trace Entry) → Stands m (gives t) → (m.machine.sender).outbox.waiting ≡ given t
waiting_is m t h = (h.sends).sends.waiting_is ∙ waits_all (layout_of m) t

-- and they are within the queue
pub within : (m : Core) (t : Trace Entry) → Stands m (gives t) → length (given t) ≤ QUEUE
within m t h = subst (λ n. n ≤ QUEUE) (queued_all (layout_of m) t) (h.sends).sends.queue_bound
