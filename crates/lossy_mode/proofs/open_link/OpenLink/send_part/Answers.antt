use Rattle.std.proofs.Common.{◌≡◌, ℕ, ◌+◌, ◌≤◌, List, ◌∷◌, All, length, take, Some, None, option_map, refl, sym, ap, ◌∙◌, subst, arith}
use Rattle.std.proofs.lemmas.List.{length-take-le}
use Rattle.std.proofs.lemmas.List.Elements.{All-head, All-tail}
use Rattle.mt_windows.specs.declared.limits.TheConstants.{DATAGRAM, PART}
use Rattle.udp1_core.specs.FirstLayout.{first_layout, first_wire}
use Rattle.udp1_core.proofs.FirstWireLaw.{first_is_wire}
use Rattle.link_machine.proofs.Rests.{behind_part, same_later}
use Rattle.link_machine.proofs.Written.{sealed_part}
use Rattle.lossy_mode.specs.LossyView.{Holds, OpenLink, OwesFor, both_numbers}
use Rattle.lossy_mode.specs.Thin.{datagram_of, next_load, part_meant, telling_of}
use Rattle.lossy_mode.proofs.HeadLemmas.{part_datagram_is}
use Rattle.lossy_mode.proofs.SendLemmas.{may_number}
use Rattle.lossy_mode.proofs.open_link.OpenLink.send_part.Goals as goal

abbrev IsShort : List ℕ → Type 0
IsShort part = length part ≤ PART

shorts : (c : goal.After-pop) → All IsShort (take c.pop.result c.pop.new.out ∷ c.pop.new.self)
shorts c = subst (All IsShort) c.pop.ensures.part c.self.invariant.short

few : (c : goal.After-pop) → c.pop.result ≤ PART
few c =
    let whole = length-take-le c.pop.result c.pop.new.out (omega (arith, c.pop.ensures.within, c.pop.auto.out)) in
    omega (arith, whole, All-head IsShort (take c.pop.result c.pop.new.out) c.pop.new.self (shorts c))

pub invariant_of-self : goal.invariant_of-self
invariant_of-self c = record {
  moment_bound = c.self.invariant.moment_bound;
  next_bound = omega (arith, may_number c.args.self.now.parts c.args.self.now.arrivals.window c.args.self.now.next c.requires.may, ap (λ (s : OpenLink). s.next) c.self.view_is);
  short = All-tail IsShort _ _ (shorts c);
}

pub returns-clause-rest : goal.returns-clause-rest
returns-clause-rest c =
    let head = c.head-head.result in
    let n = c.pop.result in
    let mid = c.head-head.new.out in
    behind_part mid c.pop.new.out DATAGRAM head n c.head-head.array_long
    (omega (arith, few c, c.head-head.ensures.bound)) c.pop.auto.out c.pop.ensures.rest
    ∙ same_later mid c.args.out.now head (head + n) (omega arith) c.head-head.ensures.rest

pub returns-clause-bytes : goal.returns-clause-bytes
returns-clause-bytes c wait delay own g n owed holds owes =
    let m = c.self.inside in
    let peer = c.args.peer in
    let part = take c.pop.result c.pop.new.out in
    let size : c.pop.result ≡ length part = sym (length-take-le c.pop.result c.pop.new.out (omega (arith, c.pop.ensures.within, c.pop.auto.out))) in
    let held = subst (λ (s : OpenLink). Holds s.arrivals g n) (sym c.self.view_is) holds in
    let tells = c.are_owed-tells.ensures owed (subst (λ (s : OpenLink). OwesFor s.tellings owed) (sym c.self.view_is) owes) in
    let layout = first_layout wait delay own peer in
    ap Some (
    sealed_part first_wire first_is_wire (telling_of peer g.numbers g.floor) c.are_owed-tells.result None None (next_load m.next part)
    (both_numbers m.next) _ c.head-head.new.out c.pop.new.out _ _ c.head-head.result c.pop.result _
    refl refl (c.head-head.ensures.text g n held) size refl refl
    ∙ ap (λ b. first_wire.spell (datagram_of peer g b (Some (next_load m.next part)))) tells
    ∙ ap first_wire.spell (sym (part_datagram_is wait delay own peer m.next g owed part (All-head IsShort part c.pop.new.self (shorts c))))
    )
    ∙ ap (λ ps. option_map first_wire.spell (part_meant layout g owed m.next ps)) (sym c.pop.ensures.part)
    ∙ ap (λ (s : OpenLink). option_map first_wire.spell (part_meant layout g owed s.next s.parts)) c.self.view_is
