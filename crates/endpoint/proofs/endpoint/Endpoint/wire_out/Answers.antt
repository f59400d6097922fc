use Rattle.std.proofs.Common.{◌≡◌, true, IsSomeAnd, option_map, subst, sym, take}
use Rattle.mt_base.specs.declared.kinds.Kind.TheVariants.{Lossy, Reliable}
use Rattle.mt_base.specs.Trace.{◌▷◌}
use Rattle.mt_endpoint.specs.Tunnels.{is_attached}
use Rattle.end_calls.specs.Calls.{WireOut, acts}
use Rattle.end_calls.specs.Law.{unhanded, unpulled}
use Rattle.endpoint.specs.Polled.{is_full_at, state_in}
use Rattle.endpoint.specs.Standing.{EndStands}
use Rattle.endpoint.proofs.WiredOut.{where_there}
use Rattle.endpoint.proofs.endpoint.Endpoint.wire_out.Goals as goal

pub returns-in-Reliable-clause-polled : goal.returns-in-Reliable-clause-polled
returns-in-Reliable-clause-polled g c role t k =
    let carrier = g.C.Carrier in
    let post = g.P.Post in
    let old = c.args.self.now in
    let new = c.poll_reliable.new.self in
    let sent = option_map (λ n. take n c.poll_reliable.new.out) c.poll_reliable.result in
    let r = c.poll_reliable.ensures in
    subst (λ kind. is_attached kind (acts role t) ≡ true → IsSomeAnd (state_in carrier.condition post.condition kind new) (λ state. EndStands carrier.stands carrier.left carrier.condition post.stands post.left post.condition new role (t ▷ WireOut kind c.args.now (is_full_at post.load kind old) sent state))) (sym c.in-Reliable.is)
    (where_there carrier.stands carrier.left carrier.condition Reliable (unpulled t) role t old.reliable new.reliable (λ state. EndStands carrier.stands carrier.left carrier.condition post.stands post.left post.condition new role (t ▷ WireOut Reliable c.args.now (is_full_at post.load Reliable old) sent state)) k.has_reliable r.there (r.polled role t k))

pub returns-in-Lossy-clause-polled : goal.returns-in-Lossy-clause-polled
returns-in-Lossy-clause-polled g c role t k =
    let carrier = g.C.Carrier in
    let post = g.P.Post in
    let old = c.args.self.now in
    let new = c.poll_lossy.new.self in
    let sent = option_map (λ n. take n c.poll_lossy.new.out) c.poll_lossy.result in
    let r = c.poll_lossy.ensures in
    subst (λ kind. is_attached kind (acts role t) ≡ true → IsSomeAnd (state_in carrier.condition post.condition kind new) (λ state. EndStands carrier.stands carrier.left carrier.condition post.stands post.left post.condition new role (t ▷ WireOut kind c.args.now (is_full_at post.load kind old) sent state))) (sym c.in-Lossy.is)
    (where_there post.stands post.left post.condition Lossy (unhanded t) role t old.lossy new.lossy (λ state. EndStands carrier.stands carrier.left carrier.condition post.stands post.left post.condition new role (t ▷ WireOut Lossy c.args.now (is_full_at post.load Lossy old) sent state)) k.has_lossy r.there (r.polled role t k))
