use Rattle.std.proofs.Common.{◌≡◌, ◌+◌, ◌-◌, ◌≤◌, ℕ, List, length, take, drop, Some, None, nat_lt, vec_len, ap, ◌∙◌, arith}
use Rattle.std.specs.Prelude.{if◌then◌else◌}
use Rattle.std.proofs.lemmas.List.{with_items_is}
use Rattle.file_transfer.proofs.Pieces.{drafted_is, piece_length}
use Rattle.file_transfer.proofs.draft.Draft.put_piece.Goals as goal

pub returns-clause-piece : goal.returns-clause-piece
returns-clause-piece g c =
    let room = c.read_piece.new.room in
    let n = c.in_ok-count.count in
    let e = c.in_ok-count.ensures in
    let auto = c.read_piece.auto.room in
    let same : length room ≡ vec_len c.self.inside.room = auto ∙ c.deref_mut.ensures.len in
    let size : length room ≡ 65537 = same ∙ c.self.invariant.0 in
    let fits : n + 1 ≤ length room = omega (arith, e.bound, auto) in
    let items = with_items_is c.self.inside.room room same in (
      take n (drop 1 room),
      piece_length n room fits,
      omega (arith, size, fits),
      ap (λ (l : List ℕ). if nat_lt 0 n then Some (take (n + 1) l) else None) items ∙ drafted_is n room e.front fits,
      λ content holds. let whole : length c.deref_mut.result.now - 1 ≡ 65536 = omega (arith, size, auto) in e.bytes content holds ∙ ap (λ k. take k (drop c.args.from content)) whole,
    )
