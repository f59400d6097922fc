use Rattle.std.proofs.Common.{◌≡◌}
use Rattle.mt_base.specs.declared.kinds.Role.TheVariants.{Server}
use Rattle.mt_endpoint.specs.Acts.{Opens}
use Rattle.end_calls.specs.Calls.{acts}
use Rattle.end_calls.specs.Net.{at}
use Rattle.end_calls.specs.Refusing.{next_id}
use Rattle.end_pair.proofs.Inside.{inside, lawful_with, own_with}
use Rattle.end_pair.proofs.pair.Pair.open_channel.Goals as goal

pub open_channel-requires : goal.open_channel-requires
open_channel-requires g c = ((c.self.invariant Server).1.tells).role_is

pub returns-clause-opened : goal.returns-clause-opened
returns-clause-opened g c w k =
    let s = inside _ _ c.self.view_is k in
    own_with _ _ _ _ _ _ _ w Server c.open_channel.new.self c.open_channel.result (λ id. Opens id c.args.name.now) (λ id. id ≡ next_id (acts Server (at Server w))) s (c.open_channel.ensures.opened Server (at Server w) (s.ends Server))

pub invariant_of-self : goal.invariant_of-self
invariant_of-self g c =
    let old = c.self.invariant in
    lawful_with _ _ _ _ _ _ _ Server c.open_channel.new.self c.open_channel.result (λ id. Opens id c.args.name.now) (λ id. id ≡ next_id (acts Server (old Server).0)) old c.open_channel.ensures.unchanged (c.open_channel.ensures.opened Server (old Server).0 (old Server).1)
