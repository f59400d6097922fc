-- What frames of the main stream make an end write into its tunnels.
use Rattle.std.proofs.Common.{◌≡◌, ℕ, Bool, true, false, List, [], ◌∷◌, ◌++◌, refl, sym, ap, ◌∙◌, append-nil}
use Rattle.mt_base.specs.declared.kinds.Kind.TheVariants.{Reliable, Lossy}
use Rattle.mt_base.specs.declared.kinds.Role.{Role}
use Rattle.mt_base.specs.declared.kinds.Role.TheVariants.{Server, Client}
use Rattle.mt_base.specs.Trace.{Trace}
use Rattle.soft_sync.specs.declared.kinds.Path.{Path}
use Rattle.soft_sync.specs.declared.kinds.Path.TheVariants.{Main, Tunnel}
use Rattle.soft_sync.specs.Exchanges.{moved}
use Rattle.mt_endpoint.specs.Acts.{Act, Answers, Discards, Drawn, Heard, Hears, Releases, Spoken}
use Rattle.mt_endpoint.specs.Alone.{EndOfActs}
use Rattle.mt_endpoint.specs.Channels.{is_closed}
use Rattle.mt_endpoint.specs.Moving.{outward}
use Rattle.mt_endpoint.specs.Said.{Said, Capable, Creates, Created, Brings, Ends, Moves, Moved, said}
use Rattle.mt_endpoint.specs.Tunnels.{is_silent}
use Rattle.mt_endpoint.specs.World.{draws}
use Rattle.mt_endpoint.specs.Writing.{adds, carried, closing, into, reply, unless}
use Rattle.mt_endpoint.proofs.Filling.{Fills, answers, asks, carries, fills_what, nothing}
use Rattle.endpoint.proofs.Through.{through_drew}
use Rattle.endpoint.proofs.FrameActs.{IsOfFrame, OfFrames, draws_still, none_more, one_more, silent_still}

-- ---- nothing for a lossy link

closing_lossy : (path : Path) (id : ℕ) (silent : Bool) → into Lossy silent (closing path id ∷ []) ≡ []
closing_lossy Main id silent = refl
closing_lossy (Tunnel Reliable) id silent = refl
closing_lossy (Tunnel Lossy) id silent = refl

ends_lossy : (closed : Bool) (path : Path) (id : ℕ) (silent : Bool) → into Lossy silent (unless closed (closing path id ∷ []) ++ []) ≡ []
ends_lossy true path id silent = refl
ends_lossy false path id silent = closing_lossy path id silent

reply_lossy : (role : Role) (t : Trace Act) (what : Said) (silent : Bool) → into Lossy silent (reply role t what ++ []) ≡ []
reply_lossy Server t (Capable version) silent = refl
reply_lossy Client t (Capable version) silent = refl
reply_lossy Server t (Creates id name) silent = refl
reply_lossy Client t (Creates id name) silent = refl
reply_lossy role t (Created id status) silent = refl
reply_lossy role t (Brings id) silent = refl
reply_lossy role t (Ends id) silent = ends_lossy (is_closed role id t) (outward id t) id silent
reply_lossy role t (Moves lists) silent = refl
reply_lossy role t (Moved kinds) silent = refl

heard_lossy : (role : Role) (t : Trace Act) (heard : Heard) (silent : Bool) → into Lossy silent (adds role t (Hears heard)) ≡ []
heard_lossy role t (Spoken pdu) silent = reply_lossy role t (said pdu) silent
heard_lossy role t heard silent = refl

pub adds_lossy : (role : Role) (t : Trace Act) (act : Act) (silent : Bool) → IsOfFrame act → into Lossy silent (adds role t act) ≡ []
adds_lossy role t (Hears heard) silent h = heard_lossy role t heard silent
adds_lossy role t (Answers named) silent h = refl
adds_lossy role t (Releases kind at bytes pdu) silent h = reply_lossy role t (said pdu) silent
adds_lossy role t (Discards at bytes pdu) silent h = refl
adds_lossy role t act silent h = absurd h

pub lossy_still : (role : Role) (t u : Trace Act) → OfFrames t u → carried Lossy role u ≡ carried Lossy role t
lossy_still role _ _ (none_more t) = refl
lossy_still role _ _ (one_more t u act h f) = ap (λ xs. carried Lossy role u ++ xs) (adds_lossy role u act (is_silent Lossy u) h) ∙ append-nil (carried Lossy role u) ∙ lossy_still role t u f

-- ---- nothing for a reliable link where no channel that moved to its tunnel can be written to

abbrev IsBarred : Trace Act → Type 0
IsBarred t = (id : ℕ) → outward id t ≡ Tunnel Reliable → is_silent Reliable t ≡ false → ⊥

none_filled : (role : Role) (t : Trace Act) (act : Act) (xs : List Drawn) → IsOfFrame act → IsBarred t → Fills role t act xs → xs ≡ []
none_filled role t act _ h barred (nothing _) = refl
none_filled role t _ _ h barred (asks id cookie r) = absurd h
none_filled role t _ _ h barred (answers at id cookie verdict is_full r) = absurd h
none_filled role t act xs h barred (carries _ id _ moved loud all) = absurd (barred id moved loud)

reliable_still : (role : Role) (t u : Trace Act) → OfFrames t u → EndOfActs role u → ((v : Trace Act) → OfFrames t v → EndOfActs role v → IsBarred v) → carried Reliable role u ≡ carried Reliable role t
reliable_still role _ _ (none_more t) e barred = refl
reliable_still role _ _ (one_more t u act h f) e barred =
    let none = none_filled role u act (into Reliable (is_silent Reliable u) (adds role u act)) h (barred u f e.2) (fills_what role u act e.1) in
    ap (λ xs. carried Reliable role u ++ xs) none ∙ append-nil (carried Reliable role u) ∙ reliable_still role t u f e.2 barred

-- a silent tunnel
pub silent_unwritten : (role : Role) (t u : Trace Act) → OfFrames t u → EndOfActs role u → is_silent Reliable t ≡ true → carried Reliable role u ≡ carried Reliable role t
silent_unwritten role t u f e silent =
    reliable_still role t u f e (λ v g law id moved loud. absurd (let no : true ≡ false = sym silent ∙ sym (silent_still Reliable t v g) ∙ loud in cc))

-- ---- a tunnel from which nothing was drawn

pub undrawn_unwritten : (role : Role) (t u : Trace Act) → OfFrames t u → EndOfActs role u → draws Reliable t ≡ [] → carried Reliable role u ≡ carried Reliable role t
undrawn_unwritten role t u f e none =
    reliable_still role t u f e (λ v g law id moved loud. through_drew role v id Reliable law moved (draws_still Reliable t v g ∙ none))
