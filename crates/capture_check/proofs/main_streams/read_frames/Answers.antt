use Rattle.std.proofs.Common.{◌<◌, ◌+◌, ◌^◌, ◌∷◌, ◌++◌, [], List, take, drop, get_or, take_all, sym, subst, arith}
use Rattle.std.proofs.lemmas.List.{take_more}
use Rattle.std.proofs.lemmas.List.Elements.{All-drop, All-from_get_or}
use Rattle.tunnel_pdus.specs.Value.{Frame}
use Rattle.capture_check.specs.MainFrames.{from}
use Rattle.capture_check.specs.FramesSoFar.{Breaks, IsRead, AreHeard}
use Rattle.capture_check.proofs.Framing.{reads_on, reads_none, breaks_on, cut_at, pushed_byte, was_ok}
use Rattle.capture_check.proofs.main_streams.read_frames.Goals as goal

pub loop-byte-init : goal.loop-byte-init
loop-byte-init c main came read heard = reads_none c.args.side main c.args.left.now.items came c.args.words.now read heard

pub returns-then-not-branch-clause-broken : goal.returns-then-not-branch-clause-broken
returns-then-not-branch-clause-broken c main came read heard fails =
    let bytes = c.args.bytes.now in
    let i = c.loop-byte.byte-index in
    let byte = get_or bytes i 0 in
    let fits : byte < 2 ^ 8 = omega (arith, c.type_inv.bytes i) in
    let so_far = c.loop-byte.invariant main came read heard in
    let pushed = pushed_byte c.push.result c.loop-byte.left.items c.push.new.self.items byte (was_ok c.map_err.result c.push.result c.in_ok-map_err.field-0 c.in_ok-map_err.was c.map_err.ensures.variant) c.push.ensures.items in
    let breaks = c.in_ok-read_front.ensures.broken (main ++ take i bytes) c.loop-byte.left.items byte (came ++ from c.args.side so_far.0) so_far.1 so_far.2 pushed fits c.if-not-branch.true in
    let good = All-drop (λ b. b < 2 ^ 8) (i + 1) bytes (All-from_get_or (λ b. b < 2 ^ 8) bytes 0 (λ k within. omega (arith, c.type_inv.bytes k))) in
    subst (λ l. Breaks c.args.side (main ++ l) came) (sym (cut_at bytes i c.loop-byte-test.true))
    (breaks_on c.args.side main (take i bytes) c.loop-byte.left.items byte (drop (i + 1) bytes) came so_far.0 so_far.1 fits good breaks)

pub loop-byte-preserved : goal.loop-byte-preserved
loop-byte-preserved c main came read heard =
    let bytes = c.args.bytes.now in
    let i = c.loop-byte.byte-index in
    let byte = get_or bytes i 0 in
    let so_far = c.loop-byte.invariant main came read heard in
    let pushed = pushed_byte c.push.result c.loop-byte.left.items c.push.new.self.items byte (was_ok c.map_err.result c.push.result c.in_ok-map_err.field-0 c.in_ok-map_err.was c.map_err.ensures.variant) c.push.ensures.items in
    let kept = c.in_ok-read_front.ensures.kept (main ++ take i bytes) c.loop-byte.left.items byte (came ++ from c.args.side so_far.0) so_far.1 so_far.2 pushed (omega (arith, c.type_inv.bytes i)) c.if-not-branch.false in
    let on = reads_on c.args.side main (take i bytes) (byte ∷ []) c.read_front.new.left.items came so_far.0 kept.0 c.read_front.new.words kept.1 kept.2 in
    subst (λ l. (frames : List Frame) × IsRead c.args.side (main ++ l) (came ++ from c.args.side frames) c.read_front.new.left.items × AreHeard (came ++ from c.args.side frames) c.read_front.new.words)
    (sym (take_more bytes i 0 c.loop-byte-test.true)) on

pub returns-clause-kept : goal.returns-clause-kept
returns-clause-kept c main came read heard held =
    subst (λ l. (frames : List Frame) × IsRead c.args.side (main ++ l) (came ++ from c.args.side frames) c.loop-byte.left.items × AreHeard (came ++ from c.args.side frames) c.loop-byte.words)
    (take_all c.loop-byte.byte-index c.args.bytes.now c.loop-byte-test.false) (c.loop-byte.invariant main came read heard)
