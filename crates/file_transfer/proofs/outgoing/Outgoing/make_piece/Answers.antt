use Rattle.std.specs.Prelude.{Contains}
use Rattle.std.proofs.lemmas.List.Elements.{All-replicate}
use Rattle.std.proofs.Common.{◌≡◌, ◌∙◌, ◌+◌, ◌<◌, ◌++◌, length, map, replicate, sym, ap, subst, arith}
use Rattle.mt_outside.specs.Files.{Holds}
use Rattle.file_transfer.specs.Own.{Own}
use Rattle.file_transfer.specs.Sending.{MadeAt, FollowAt, waiting, steps_left}
use Rattle.file_transfer.specs.declared.outgoing.Stage.TheVariants as stage
use Rattle.file_transfer.proofs.Made.{within_on, within_over}
use Rattle.file_transfer.proofs.Stages.{made_at, from_there, own_path}
use Rattle.file_transfer.proofs.outgoing.Outgoing.make_piece.Goals as goal

pub returns-then-count-eq-PIECE-clause-sent : goal.returns-then-count-eq-PIECE-clause-sent
returns-then-count-eq-PIECE-clause-sent g c = λ sent files h.
    let o = c.args.self.now in
    let owns = o.files.items in
    let told = g.F.FileStore.told c.args.store.now in
    let there : o.made < length owns = omega arith in
    let m = made_at o.stage stage.Within o.draft owns o.made o.at sent files c.in-Within.is c.requires h in
    let here = from_there owns o.made c.index-file.result.now there c.index-file.ensures in
    let same : m.0 ≡ c.index-file.result.now = let also = m.2 in cc in
    let p = c.in-Ok.ensures.piece in
    let path = ap (λ (own : Own). own.path) same ∙ sym c.path.ensures in
    let on = within_on owns o.made o.at c.in-Ok.count told m.0 m.1 c.put_piece.new.self sent files p.0 m.2 m.3 p.1 c.if-count-eq-PIECE.true p.3 (λ content holds. p.4 content (subst (λ n. Holds told n content) path holds)) in (
      on.0,
      subst (λ s. MadeAt s owns o.made (o.at + c.in-Ok.count) (sent ++ waiting c.put_piece.new.self) on.0) (sym c.in-Within.is) (m.0, m.1, m.2, on.1),
      λ contents held f. subst (λ s. FollowAt s o.made (o.at + c.in-Ok.count) contents on.0) (sym c.in-Within.is) (on.2 contents held (subst (λ s. FollowAt s o.made o.at contents files) c.in-Within.is f)),
    )

pub returns-clause-sent : goal.returns-clause-sent
returns-clause-sent g c = λ sent files h.
    let o = c.args.self.now in
    let owns = o.files.items in
    let told = g.F.FileStore.told c.args.store.now in
    let there : o.made < length owns = omega arith in
    let m = made_at o.stage stage.Within o.draft owns o.made o.at sent files c.in-Within.is c.requires h in
    let here = from_there owns o.made c.index-file.result.now there c.index-file.ensures in
    let same : m.0 ≡ c.index-file.result.now = let also = m.2 in cc in
    let p = c.in-Ok.ensures.piece in
    let path = ap (λ (own : Own). own.path) same ∙ sym c.path.ensures in
    let few = p.2 in
    let short : c.in-Ok.count < 65536 = omega (arith, few) in
    let over = within_over owns o.made o.at c.in-Ok.count told m.0 m.1 c.put_piece.new.self sent files p.0 m.2 m.3 p.1 short p.3 (λ content holds. p.4 content (subst (λ n. Holds told n content) path holds)) in
    (over.0, over.1, λ contents held f. over.2 contents held (subst (λ s. FollowAt s o.made o.at contents files) c.in-Within.is f))

pub returns-then-count-eq-PIECE-clause-goes : goal.returns-then-count-eq-PIECE-clause-goes
returns-then-count-eq-PIECE-clause-goes g c = λ sent files h within. omega arith

pub returns-clause-names : goal.returns-clause-names
returns-clause-names g c =
    let o = c.args.self.now in
    let there : o.made < length o.files.items = omega arith in
    let names = c.in-Ok.ensures.names in
    (replicate names.0 c.path.result.now, names.1, All-replicate (Contains (map (λ (own : Own). own.path) o.files.items)) names.0 c.path.result.now (own_path o.files.items o.made c.index-file.result.now c.path.result.now there c.index-file.ensures c.path.ensures))

pub returns-clause-goes : goal.returns-clause-goes
returns-clause-goes g c = λ sent files h within.
    let left = ap steps_left within in
    let there : c.args.self.now.made < length c.args.self.now.files.items = omega arith in
    omega (arith, left, there)
