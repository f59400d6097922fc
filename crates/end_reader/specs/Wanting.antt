-- What the value of a stream under way still wants (MS-RDPBCGR section 2.2.15, MS-RDPEMT section 2.2).
use Rattle.std.specs.Prelude.{◌≡◌, ℕ, ◌-◌, ◌<◌, List, ◌++◌, length, Result, Ok, Err}
use Rattle.tunnel_pdus.specs.declared.part.Part.{Part}
use Rattle.tunnel_pdus.specs.declared.part.Part.TheVariants.{Whole, More}
use Rattle.tunnel_pdus.specs.declared.part.TunnelRefusal.{TunnelRefusal}
use Rattle.tunnel_pdus.specs.Reading.{frame_reading}
use Rattle.tunnel_pdus.specs.Value.{Frame}

-- how many bytes more a frame of the main stream wants at least
abbrev pub more_wanted : ℕ → Result (Part Frame) TunnelRefusal → ℕ
more_wanted size (Ok (More need)) = need - size
more_wanted size (Ok (Whole frame used)) = 0
more_wanted size (Err refusal) = 0

abbrev pub frame_wants : List ℕ → ℕ
frame_wants bytes = more_wanted (length bytes) (frame_reading bytes)

-- with fewer bytes than it needs a value stays under way, as it is read
abbrev pub GoesOn : {V R : Type 0} → (List ℕ → Result (Part V) R) → List ℕ → ℕ → Type 0
GoesOn read bytes need = (more : List ℕ) → length (bytes ++ more) < need → read (bytes ++ more) ≡ Ok (More need)
