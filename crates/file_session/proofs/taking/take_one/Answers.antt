use Rattle.std.proofs.Common.{◌∷◌, ◌++◌, [], List, string_bytes, subst}
use Rattle.file_messages.specs.Files.{Message, File, HaveCome}
use Rattle.file_transfer.specs.Keeping.{HasKept}
use Rattle.file_session.specs.Taking.{KeepsOn}
use Rattle.file_session.proofs.Taken.{first_left, no_err, none_left, same_err}
use Rattle.file_session.proofs.taking.take_one.Goals as goal

pub returns-in_default-clause-all : goal.returns-in_default-clause-all
returns-in_default-clause-all g c role t k is = none_left _ (c.in_default.ensures.oldest role t k)

pub returns-in-Ok-clause-some : goal.returns-in-Ok-clause-some
returns-in-Ok-clause-some g c role t k is =
    let f = first_left c.in-Some.message _ (c.in-Some.ensures.oldest role t k) in (
      c.in-Some.message,
      f.0,
      c.in-Some.ensures.taken role t k,
      f.1,
      (λ messages files h.
          subst (λ (m : Message). (later : List File) × HasKept c.read.new.self (messages ++ m ∷ []) later × KeepsOn (string_bytes c.args.incoming.now.arrivals.prefix) files later (g.F.FileStore.told c.args.store.now) (g.F.FileStore.told c.read.new.store)) c.bytes.ensures (c.in-Ok.ensures.kept messages files h)),
      λ bad. absurd (no_err _ _ bad),
    )

pub returns-clause-some : goal.returns-clause-some
returns-clause-some g c role t k is =
    let f = first_left c.in-Some.message _ (c.in-Some.ensures.oldest role t k) in (
      c.in-Some.message,
      f.0,
      c.in-Some.ensures.taken role t k,
      f.1,
      (λ messages files h. tt),
      λ bad messages files h ended others.
          subst (λ (m : Message). ¬ HaveCome ended (messages ++ m ∷ []) others) c.bytes.ensures (c.in-Err.ensures.bad (same_err _ _ bad) messages files h ended others),
    )
