use Rattle.std.proofs.Common.{◌≡◌, ◌≤◌, ◌+◌, ◌-◌, ◌++◌, length, take, replicate, arith, sym, ap, ◌∙◌}
use Rattle.end_calls.specs.Law.{unsent}
use Rattle.end_pair.specs.Moving.{needed}
use Rattle.end_pair.proofs.Bytes.{behind_long, few_needed, replaced}
use Rattle.end_pair.proofs.Handing.{handed_out}
use Rattle.end_pair.proofs.moving.hand_out.Goals as goal

pub overflow_add-kept : goal.overflow_add-kept
overflow_add-kept g c =
    let k = c.requires.lawful in
    let e = k.2 in
    omega (arith, (e.tells).room, c.main_queued.ensures k.0 k.1 e, c.bytes_needed-more.ensures, few_needed c.args.limit c.len-kept.result c.main_queued.result)

pub returns-clause-handed : goal.returns-clause-handed
returns-clause-handed g c role t e =
    let long : c.len-kept.result ≡ length c.args.under_way.now.items = omega (arith, c.len-kept.ensures) in
    let waiting = c.main_queued.ensures role t e in
    let more : c.bytes_needed-more.result ≡ needed c.args.limit c.len-kept.result c.main_queued.result = c.bytes_needed-more.ensures in
    let enough : c.bytes_needed-more.result ≤ length (unsent role t) = omega (arith, more, waiting, few_needed c.args.limit c.len-kept.result c.main_queued.result) in
    let filled = c.deref_mut.ensures.value ∙ c.in_ok-resize.ensures.items ∙ ap (λ n. take (c.len-kept.result + c.bytes_needed-more.result) c.args.under_way.now.items ++ replicate (c.len-kept.result + c.bytes_needed-more.result - n) 0) (sym c.len-kept.ensures) in
    handed_out _ _ _ _ _ _ c.pour.new.from role t c.args.limit c.args.under_way.now.items _ c.pour.new.out c.bytes_needed-more.result _
    (more ∙ ap (λ n. needed c.args.limit n c.main_queued.result) long ∙ ap (λ n. needed c.args.limit (length c.args.under_way.now.items) n) waiting) enough
    (behind_long c.len-kept.result c.bytes_needed-more.result c.args.under_way.now.items c.deref_mut.result.now long filled)
    (c.pour.ensures.poured role t e)
    (λ size. replaced c.resize.new.self.len c.len-kept.result c.bytes_needed-more.result c.args.under_way.now.items c.deref_mut.result.now c.pour.new.out c.resize.new.self.items long filled size c.in_ok-resize.ensures.len)
