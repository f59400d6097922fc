-- A tunnel PDU that is read of a link, of either kind (MS-RDPEMT section 3.1.5).
use Rattle.std.specs.Prelude.{◌≡◌, ℕ, ◌+◌, ◌*◌, ◌≤◌, Bool, false, [], length, Option, Some, None, Result, Ok, Err, if◌then◌else◌, ◌==◌}
use Rattle.mt_base.specs.Ends.{same_kind}
use Rattle.mt_base.specs.Trace.{Trace}
use Rattle.mt_base.specs.declared.kinds.Kind.{Kind}
use Rattle.mt_base.specs.declared.kinds.Kind.TheVariants.{Reliable}
use Rattle.mt_base.specs.declared.kinds.Role.{Role}
use Rattle.mt_base.specs.declared.kinds.Role.TheVariants.{Client}
use Rattle.dvc_pdus.specs.declared.pdu.DvcRefusal.{DvcRefusal}
use Rattle.tunnel_pdus.specs.declared.part.Part.{Part}
use Rattle.tunnel_pdus.specs.declared.part.Part.TheVariants.{Whole, More}
use Rattle.tunnel_pdus.specs.declared.part.TunnelRefusal.{TunnelRefusal}
use Rattle.tunnel_pdus.specs.Value as tunnel
use Rattle.mt_endpoint.specs.Acts.{Act, Drawn}
use Rattle.mt_endpoint.specs.Resting.{Rests}
use Rattle.end_calls.specs.declared.limits.TheConstants.{ANSWER, CONTROL, MAIN_QUEUE}
use Rattle.end_calls.specs.Streams.{Past, drawing, in_tunnel, reads}
use Rattle.end_session.specs.AnswerDue.{due_in}
use Rattle.end_session.specs.Coming.{CameTo, past_of}
use Rattle.end_session.specs.Drawing.{IsHeldBeside, drawn_fault}
use Rattle.end_session.specs.Outgoing.{Outgoing, waiting_for}
use Rattle.end_session.specs.Standing.{Gone, Stands}
use Rattle.end_session.specs.Store.{Store}

-- its fault breaks the end, else its act is made, with all that this makes due
abbrev pub reads_from : Role → Kind → ℕ → Bool → Drawn → Past → Past
reads_from role kind at is_full drawn p =
    reads role (in_tunnel at) (drawn_fault role kind p.acts drawn) (drawing role kind at p.acts is_full drawn) p

-- the end stands for the past with it, where its data can be read
abbrev pub IsDrawn : Role → Kind → ℕ → Bool → Result Drawn DvcRefusal → Trace Act → Gone → Store → Type 0
IsDrawn role kind at is_full (Ok drawn) t gone s = CameTo (past_of t) (reads_from role kind at is_full drawn (past_of t)) gone s
IsDrawn role kind at is_full (Err refusal) t gone s = ⊥

-- An end may read a PDU of this link: it is at rest, no answer is due, and there is room for whatever the
-- PDU makes due.
pub record MayDraw (kind : Kind) (s : Store) : Type 0 where
  pub is_whole : s.broken ≡ None
  pub rests : (t : Trace Act) (gone : Gone) → Stands s t gone → Rests s.role t
  pub quiet : s.role ≡ Client → due_in s ≡ None
  pub held : kind ≡ Reliable → IsHeldBeside 1600 s.held_reliable
  pub room : length (s.outgoing).main + (CONTROL + ANSWER * s.owed) ≤ MAIN_QUEUE
  pub waits : waiting_for kind s.outgoing ≡ []

-- at most 9 bytes more wait for the link of this kind, and none for the other
pub record WroteFor (kind : Kind) (o now : Outgoing) : Type 0 where
  pub few : length (waiting_for kind now) ≤ length (waiting_for kind o) + 9
  pub others : (made : Kind) → same_kind made kind ≡ false → waiting_for made now ≡ waiting_for made o

-- the tunnel PDU that a part of the lossy link is, where it is one whole PDU of this many bytes
abbrev pub whole_part : ℕ → Result (Part tunnel.Pdu) TunnelRefusal → Option tunnel.Pdu
whole_part size (Ok (Whole pdu used)) = if used == size then Some pdu else None
whole_part size (Ok (More need)) = None
whole_part size (Err refusal) = None
