use Rattle.std.proofs.Common.{◌≡◌, ℕ, ◌<◌, length, refl, sym, subst, arith}
use Rattle.std.proofs.lemmas.List.Elements.{All-from_get_or}
use Rattle.mt_base.specs.Ends.{other}
use Rattle.mt_base.specs.Trace.{Trace, ◌▷◌}
use Rattle.dvc_pdus.specs.Views.{pdu_of}
use Rattle.mt_endpoint.specs.Acts.{Act, Draws, Carried}
use Rattle.end_calls.specs.Streams.{told_place}
use Rattle.end_session.specs.Standing.{Gone, Stands}
use Rattle.end_session.specs.contracts.session.Session.{the_view}
use Rattle.end_session.proofs.Drawn.{fine_inside}
use Rattle.end_session.proofs.Kept.{beside_lossy, beside_reliable, held_inside, kept_lossy, kept_reliable, not_kept, read_inside, told}
use Rattle.end_session.proofs.Reread.{was_read}
use Rattle.end_session.proofs.session.Session.draw_ahead.Goals as goal

pub returns-in_default-clause-drawn : goal.returns-in_default-clause-drawn
returns-in_default-clause-drawn c t gone place is st =
    not_kept c.args.self.now t gone c.args.kind place c.args.bytes.now (pdu_of c.args.pdu.now) (c.requires.allowed t gone st) (c.in_default.ensures.held t gone c.args.bytes.now refl st) st

pub held_for-requires : goal.held_for-requires
held_for-requires c =
    record { short = (was_read (other c.args.self.now.role) c.args.bytes.now (pdu_of c.args.pdu.now) (All-from_get_or (λ b. b < 256) c.args.bytes.now 0 (λ i within. omega (arith, c.type_inv.bytes i))) c.requires.read).1; ahead = c.requires.ahead; room = c.requires.held }

pub keep-requires : goal.keep-requires
keep-requires c = record {
  short = (was_read (other c.args.self.now.role) c.args.bytes.now (pdu_of c.args.pdu.now) (All-from_get_or (λ b. b < 256) c.args.bytes.now 0 (λ i within. omega (arith, c.type_inv.bytes i))) c.requires.read).1;
  fits = beside_reliable c.args.self.now (the_view c.self.inside) c.args.kind (length c.args.bytes.now) c.self.view_is c.in-Reliable.is c.in-Some.ensures.fits;
}

pub keep-requires-in-Lossy : goal.keep-requires-in-Lossy
keep-requires-in-Lossy c = record {
  short = (was_read (other c.args.self.now.role) c.args.bytes.now (pdu_of c.args.pdu.now) (All-from_get_or (λ b. b < 256) c.args.bytes.now 0 (λ i within. omega (arith, c.type_inv.bytes i))) c.requires.read).1;
  fits = beside_lossy c.args.self.now (the_view c.self.inside) c.args.kind (length c.args.bytes.now) c.self.view_is c.in-Lossy.is c.in-Some.ensures.fits;
}

-- the end that it leaves, which stands for one act more
by_reliable : (c : goal.After-keep) (t : Trace Act) (gone : Gone) (place : ℕ) → c.args.at ≡ told_place place → Stands c.args.self.now t gone
    → Stands (record (the_view c.self.inside) { held_reliable = c.keep.new.self }) (t ▷ Draws c.args.kind place (Carried c.args.bytes.now (pdu_of c.args.pdu.now))) gone
by_reliable c t gone place is st =
    let bytes = c.args.bytes.now in
    let pdu = pdu_of c.args.pdu.now in
    kept_reliable (the_view c.self.inside) t gone c.args.kind place c.args.at c.in-Some.id bytes pdu c.keep.new.self c.in-Reliable.is
    (fine_inside c.args.self.now (the_view c.self.inside) c.args.kind t (Carried bytes pdu) c.self.view_is (c.requires.allowed t gone st))
    (held_inside c.args.self.now (the_view c.self.inside) c.args.kind t bytes pdu c.self.view_is (c.in-Some.ensures.held t gone bytes refl st))
    c.in-Some.ensures.channel is c.keep.ensures (All-from_get_or (λ b. b < 256) bytes 0 (λ i within. omega (arith, c.type_inv.bytes i))) (read_inside c.args.self.now (the_view c.self.inside) bytes pdu c.self.view_is c.requires.read) (subst (λ s. Stands s t gone) (sym c.self.view_is) st)

by_lossy : (c : goal.After-keep-in-Lossy) (t : Trace Act) (gone : Gone) (place : ℕ) → c.args.at ≡ told_place place → Stands c.args.self.now t gone
    → Stands (record (the_view c.self.inside) { held_lossy = c.keep-in-Lossy.new.self }) (t ▷ Draws c.args.kind place (Carried c.args.bytes.now (pdu_of c.args.pdu.now))) gone
by_lossy c t gone place is st =
    let bytes = c.args.bytes.now in
    let pdu = pdu_of c.args.pdu.now in
    kept_lossy (the_view c.self.inside) t gone c.args.kind place c.args.at c.in-Some.id bytes pdu c.keep-in-Lossy.new.self c.in-Lossy.is
    (fine_inside c.args.self.now (the_view c.self.inside) c.args.kind t (Carried bytes pdu) c.self.view_is (c.requires.allowed t gone st))
    (held_inside c.args.self.now (the_view c.self.inside) c.args.kind t bytes pdu c.self.view_is (c.in-Some.ensures.held t gone bytes refl st))
    c.in-Some.ensures.channel is c.keep-in-Lossy.ensures (All-from_get_or (λ b. b < 256) bytes 0 (λ i within. omega (arith, c.type_inv.bytes i))) (read_inside c.args.self.now (the_view c.self.inside) bytes pdu c.self.view_is c.requires.read) (subst (λ s. Stands s t gone) (sym c.self.view_is) st)

pub returns-in-Reliable-clause-drawn : goal.returns-in-Reliable-clause-drawn
returns-in-Reliable-clause-drawn c t gone place is st = by_reliable c t gone place is st

pub returns-in-Lossy-clause-drawn : goal.returns-in-Lossy-clause-drawn
returns-in-Lossy-clause-drawn c t gone place is st = by_lossy c t gone place is st

pub invariant_of-self : goal.invariant_of-self
invariant_of-self c =
    let w = c.self.invariant in (
      (
        w.0.0 ▷ Draws c.args.kind c.args.at (Carried c.args.bytes.now (pdu_of c.args.pdu.now)),
        w.0.1,
        by_reliable c w.0.0 w.0.1 c.args.at (told c.args.at (omega (arith, c.ranges.at.fits))) (subst (λ s. Stands s w.0.0 w.0.1) c.self.view_is w.0.2),
      ),
      w.1,
    )

pub invariant_of-self-in-Lossy : goal.invariant_of-self-in-Lossy
invariant_of-self-in-Lossy c =
    let w = c.self.invariant in (
      (
        w.0.0 ▷ Draws c.args.kind c.args.at (Carried c.args.bytes.now (pdu_of c.args.pdu.now)),
        w.0.1,
        by_lossy c w.0.0 w.0.1 c.args.at (told c.args.at (omega (arith, c.ranges.at.fits))) (subst (λ s. Stands s w.0.0 w.0.1) c.self.view_is w.0.2),
      ),
      w.1,
    )
