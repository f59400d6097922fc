use Rattle.std.proofs.Common.{◌≡◌, Result, Ok, Err, rules, arith}
use Rattle.tunnel_pdus.specs.declared.part.Part.{Part}
use Rattle.tunnel_pdus.specs.declared.part.Part.TheVariants.{Whole, More}
use Rattle.tunnel_pdus.specs.declared.part.TunnelRefusal.{TunnelRefusal}
use Rattle.tunnel_pdus.specs.Value.{Pdu}
use Rattle.tunnel_pdus.specs.Reading.{reading}
use Rattle.tunnel_pdus.specs.Views.{pdu_of}
use Rattle.tunnel_pdus.proofs.Grammars.{found_by, only_by}
use Rattle.tunnel_pdus.proofs.Tunnels.{grammar}
use Rattle.tunnel_pdus.proofs.tunnel.read_tunnel.Goals as goal

pub returns-in-Ok-clause-found : goal.returns-in-Ok-clause-found
unfolding reading
returns-in-Ok-clause-found c =
    let told : Result (Part Pdu) TunnelRefusal = Ok (Whole (pdu_of c.in-Ok.value) c.in-Ok.used) in
    let is : told ≡ reading c.args.bytes.now = search rules in
    found_by grammar c.args.bytes.now told (λ i. omega (arith, c.type_inv.bytes i)) is

pub returns-in-Ok-clause-only : goal.returns-in-Ok-clause-only
unfolding reading
returns-in-Ok-clause-only c answer front =
    let told : Result (Part Pdu) TunnelRefusal = Ok (Whole (pdu_of c.in-Ok.value) c.in-Ok.used) in
    let is : told ≡ reading c.args.bytes.now = search rules in
    only_by grammar c.args.bytes.now told answer (λ i. omega (arith, c.type_inv.bytes i)) is front

pub returns-in-Err-More-clause-found : goal.returns-in-Err-More-clause-found
unfolding reading
returns-in-Err-More-clause-found c =
    let told : Result (Part Pdu) TunnelRefusal = Ok (More c.in-Err-More.need) in
    let is : told ≡ reading c.args.bytes.now = search rules in
    found_by grammar c.args.bytes.now told (λ i. omega (arith, c.type_inv.bytes i)) is

pub returns-in-Err-More-clause-only : goal.returns-in-Err-More-clause-only
unfolding reading
returns-in-Err-More-clause-only c answer front =
    let told : Result (Part Pdu) TunnelRefusal = Ok (More c.in-Err-More.need) in
    let is : told ≡ reading c.args.bytes.now = search rules in
    only_by grammar c.args.bytes.now told answer (λ i. omega (arith, c.type_inv.bytes i)) is front

pub returns-in-Err-Refused-clause-found : goal.returns-in-Err-Refused-clause-found
unfolding reading
returns-in-Err-Refused-clause-found c =
    let told : Result (Part Pdu) TunnelRefusal = Err c.in-Err-Refused.refusal in
    let is : told ≡ reading c.args.bytes.now = search rules in
    found_by grammar c.args.bytes.now told (λ i. omega (arith, c.type_inv.bytes i)) is

pub returns-in-Err-Refused-clause-only : goal.returns-in-Err-Refused-clause-only
unfolding reading
returns-in-Err-Refused-clause-only c answer front =
    let told : Result (Part Pdu) TunnelRefusal = Err c.in-Err-Refused.refusal in
    let is : told ≡ reading c.args.bytes.now = search rules in
    only_by grammar c.args.bytes.now told answer (λ i. omega (arith, c.type_inv.bytes i)) is front
