use Rattle.std.proofs.Common.{◌∷◌, ◌++◌, [], refl, sym, subst}
use Rattle.mt_base.specs.declared.kinds.Role.TheVariants.{Server, Client}
use Rattle.capture_check.specs.declared.entry.Entry.TheVariants.{Main}
use Rattle.capture_check.specs.MainFrames.{FramesMain, main_of}
use Rattle.capture_check.specs.FramesSoFar.{AreStreams}
use Rattle.capture_check.proofs.Asking.{if_ok_one}
use Rattle.capture_check.proofs.Framing.{streams_on, streams_break}
use Rattle.capture_check.proofs.main_streams.MainStreams.read.Goals as goal

pub returns-in-Server-clause-kept : goal.returns-in-Server-clause-kept
returns-in-Server-clause-kept c =
    let bytes = c.args.bytes.now in
    if_ok_one c.read_frames.result (λ kept reads before are held.
    let told = reads (main_of Server before) are.came (are.read Server) are.heard held in
    subst (λ s. FramesMain before (Main s bytes) × AreStreams (before ++ Main s bytes ∷ []) (record { server = c.read_frames.new.left; client = c.args.self.now.client; words = c.read_frames.new.words })) (sym c.in-Server.is)
    (streams_on before Server bytes c.args.self.now are _ told.0 told.1 refl told.2))
    c.read_frames.ensures.kept

pub returns-in-Server-clause-broken : goal.returns-in-Server-clause-broken
returns-in-Server-clause-broken c =
    if_ok_one c.read_frames.result (λ kept breaks before are fails.
    subst (λ s. ¬ FramesMain before (Main s c.args.bytes.now)) (sym c.in-Server.is)
    (streams_break before Server c.args.bytes.now c.args.self.now are (breaks (main_of Server before) are.came (are.read Server) are.heard fails)))
    c.read_frames.ensures.broken

pub returns-in-Client-clause-kept : goal.returns-in-Client-clause-kept
returns-in-Client-clause-kept c =
    let bytes = c.args.bytes.now in
    if_ok_one c.read_frames-in-Client.result (λ kept reads before are held.
    let told = reads (main_of Client before) are.came (are.read Client) are.heard held in
    subst (λ s. FramesMain before (Main s bytes) × AreStreams (before ++ Main s bytes ∷ []) (record { server = c.args.self.now.server; client = c.read_frames-in-Client.new.left; words = c.read_frames-in-Client.new.words })) (sym c.in-Client.is)
    (streams_on before Client bytes c.args.self.now are _ told.0 told.1 refl told.2))
    c.read_frames-in-Client.ensures.kept

pub returns-in-Client-clause-broken : goal.returns-in-Client-clause-broken
returns-in-Client-clause-broken c =
    if_ok_one c.read_frames-in-Client.result (λ kept breaks before are fails.
    subst (λ s. ¬ FramesMain before (Main s c.args.bytes.now)) (sym c.in-Client.is)
    (streams_break before Client c.args.bytes.now c.args.self.now are (breaks (main_of Client before) are.came (are.read Client) are.heard fails)))
    c.read_frames-in-Client.ensures.broken
