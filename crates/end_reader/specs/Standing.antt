-- What a reader keeps stands for what it read.
use Rattle.std.specs.Prelude.{◌≡◌, ℕ, Some, None, Ok}
use Rattle.mt_base.specs.declared.kinds.Role.TheVariants.{Client}
use Rattle.tunnel_pdus.specs.declared.part.Part.TheVariants.{More}
use Rattle.mt_base.specs.Trace.{Trace}
use Rattle.tunnel_pdus.specs.Reading.{reading, frame_reading}
use Rattle.mt_endpoint.specs.Acts.{Act}
use Rattle.mt_endpoint.specs.Resting.{Rests}
use Rattle.end_calls.specs.Calls.{lacking}
use Rattle.end_calls.specs.Law.{IsLack}
use Rattle.end_calls.specs.Streams.{Past, Under, told_place}
use Rattle.end_session.specs.AnswerDue.{due}
use Rattle.end_session.specs.Standing.{Gone, Stands}
use Rattle.end_reader.specs.declared.reader.Reader.{Reader}

-- a stream as it is kept is the one that was read; its place is kept as it is told
pub record IsTold (kept read : Under) : Type 0 where
  pub at_is : kept.at ≡ told_place read.at
  pub bytes_are : kept.bytes ≡ read.bytes

-- These were read, and of what they wrote so much was handed out. A broken end keeps no stream; else each
-- stream's value under way is the beginning of one, nothing is held of a channel whose word is read, and no
-- answer of a client is due.
pub record Reads (r : Reader) (p : Past) (gone : Gone) : Type 0 where
  pub stands : Stands r.session p.acts gone
  pub broken_is : (r.session).broken ≡ p.broken
  pub main_is : p.broken ≡ None → IsTold r.main p.main
  pub tunnel_is : p.broken ≡ None → IsTold r.tunnel p.tunnel
  pub main_waits : p.broken ≡ None → (need : ℕ) × (frame_reading p.main.bytes ≡ Ok (More need))
  pub tunnel_waits : p.broken ≡ None → (need : ℕ) × (reading p.tunnel.bytes ≡ Ok (More need))
  pub rests : p.broken ≡ None → Rests (r.session).role p.acts
  pub quiet : p.broken ≡ None → (r.session).role ≡ Client → due p.acts ≡ None

-- The same of an end that isn't broken, where bytes were kept of the frame of the main stream under way that
-- are not looked at yet.
pub record KeepsMain (r : Reader) (p : Past) (gone : Gone) : Type 0 where
  pub stands : Stands r.session p.acts gone
  pub unbroken : p.broken ≡ None
  pub at_is : (r.main).at ≡ told_place p.main.at
  pub tunnel_is : IsTold r.tunnel p.tunnel
  pub tunnel_waits : (need : ℕ) × (reading p.tunnel.bytes ≡ Ok (More need))
  pub rests : Rests (r.session).role p.acts
  pub quiet : (r.session).role ≡ Client → due p.acts ≡ None

-- and where bytes of the tunnel PDU of the reliable link under way are not looked at yet
pub record KeepsTunnel (r : Reader) (p : Past) (gone : Gone) : Type 0 where
  pub stands : Stands r.session p.acts gone
  pub unbroken : p.broken ≡ None
  pub at_is : (r.tunnel).at ≡ told_place p.tunnel.at
  pub main_is : IsTold r.main p.main
  pub main_waits : (need : ℕ) × (frame_reading p.main.bytes ≡ Ok (More need))
  pub rests : Rests (r.session).role p.acts
  pub quiet : (r.session).role ≡ Client → due p.acts ≡ None

-- From the past p the reader came to q; or memory was wanting on the way, and its acts came so far.
pub data GoesTo (p q : Past) (gone : Gone) (r : Reader) : Type 0 where
  came : Reads r q gone → GoesTo p q gone r
  lacked : (reached : Trace Act) → IsLack p q reached → Reads r (lacking (Some reached) q) gone → GoesTo p q gone r
