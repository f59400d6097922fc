use Rattle.std.proofs.Common.{◌≡◌, ℕ, ◌+◌, ◌-◌, ◌^◌, ◌∷◌, [], ◌++◌, length, min, sym, subst, string_bytes, length-append, arith}
use Rattle.file_messages.specs.Read.{after, IsBehind}
use Rattle.file_transfer.specs.Keeping.{CameAs, shown}
use Rattle.file_transfer.proofs.incoming.Incoming.read.Goals as goal

one_more : (top count result before now : ℕ) → result ≡ min (count + 1) top → count ≡ min before top → now ≡ before + 1 → result ≡ min now top
one_more top count result before now is was next = omega (arith, is, was, next)

pub returns-in-Ok-take-clause-kept : goal.returns-in-Ok-take-clause-kept
returns-in-Ok-take-clause-kept g c = λ messages files h.
    let step = c.in-Ok.step in
    let e = c.in-Ok.ensures in
    let behind = subst (IsBehind step) h.read.count_is e.behind in
    let before = subst (λ b. CameAs b c.args.self.now.arrivals files) e.going h.came in
    let came = c.in-Ok-take.ensures.came files before behind in (
      after step files,
      record {
        read = e.read messages files h.read;
        came = subst (λ b. CameAs b c.take.new.self (after step files)) (sym e.ended) came;
        count_is = one_more (2 ^ 64 - 1) c.args.self.now.messages c.saturating_add-self.result (length messages) _ c.saturating_add-self.ensures h.count_is (length-append messages (c.args.message.now ∷ []));
      },
      λ first was. c.in-Ok-take.ensures.kept files first before behind was,
    )
