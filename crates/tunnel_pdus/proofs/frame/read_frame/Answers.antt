use Rattle.std.proofs.Common.{◌≡◌, Result, Ok, Err, rules, arith}
use Rattle.tunnel_pdus.specs.declared.part.Part.{Part}
use Rattle.tunnel_pdus.specs.declared.part.Part.TheVariants.{Whole, More}
use Rattle.tunnel_pdus.specs.declared.part.TunnelRefusal.{TunnelRefusal}
use Rattle.tunnel_pdus.specs.Value.{Frame}
use Rattle.tunnel_pdus.specs.Reading.{frame_reading}
use Rattle.tunnel_pdus.specs.Views.{frame_of}
use Rattle.tunnel_pdus.proofs.Grammars.{found_by, only_by}
use Rattle.tunnel_pdus.proofs.Frames.{grammar}
use Rattle.tunnel_pdus.proofs.frame.read_frame.Goals as goal

pub returns-in-Ok-clause-found : goal.returns-in-Ok-clause-found
unfolding frame_reading
returns-in-Ok-clause-found c =
    let told : Result (Part Frame) TunnelRefusal = Ok (Whole (frame_of c.in-Ok.value) c.in-Ok.used) in
    let is : told ≡ frame_reading c.args.bytes.now = search rules in
    found_by grammar c.args.bytes.now told (λ i. omega (arith, c.type_inv.bytes i)) is

pub returns-in-Ok-clause-only : goal.returns-in-Ok-clause-only
unfolding frame_reading
returns-in-Ok-clause-only c answer front =
    let told : Result (Part Frame) TunnelRefusal = Ok (Whole (frame_of c.in-Ok.value) c.in-Ok.used) in
    let is : told ≡ frame_reading c.args.bytes.now = search rules in
    only_by grammar c.args.bytes.now told answer (λ i. omega (arith, c.type_inv.bytes i)) is front

pub returns-in-Err-More-clause-found : goal.returns-in-Err-More-clause-found
unfolding frame_reading
returns-in-Err-More-clause-found c =
    let told : Result (Part Frame) TunnelRefusal = Ok (More c.in-Err-More.need) in
    let is : told ≡ frame_reading c.args.bytes.now = search rules in
    found_by grammar c.args.bytes.now told (λ i. omega (arith, c.type_inv.bytes i)) is

pub returns-in-Err-More-clause-only : goal.returns-in-Err-More-clause-only
unfolding frame_reading
returns-in-Err-More-clause-only c answer front =
    let told : Result (Part Frame) TunnelRefusal = Ok (More c.in-Err-More.need) in
    let is : told ≡ frame_reading c.args.bytes.now = search rules in
    only_by grammar c.args.bytes.now told answer (λ i. omega (arith, c.type_inv.bytes i)) is front

pub returns-in-Err-Refused-clause-found : goal.returns-in-Err-Refused-clause-found
unfolding frame_reading
returns-in-Err-Refused-clause-found c =
    let told : Result (Part Frame) TunnelRefusal = Err c.in-Err-Refused.refusal in
    let is : told ≡ frame_reading c.args.bytes.now = search rules in
    found_by grammar c.args.bytes.now told (λ i. omega (arith, c.type_inv.bytes i)) is

pub returns-in-Err-Refused-clause-only : goal.returns-in-Err-Refused-clause-only
unfolding frame_reading
returns-in-Err-Refused-clause-only c answer front =
    let told : Result (Part Frame) TunnelRefusal = Err c.in-Err-Refused.refusal in
    let is : told ≡ frame_reading c.args.bytes.now = search rules in
    only_by grammar c.args.bytes.now told answer (λ i. omega (arith, c.type_inv.bytes i)) is front
