-- What was written is read back: frames, tunnel PDUs, and what they carry.
use Rattle.std.proofs.Common.{◌≡◌, ℕ, cond, List, [], ◌∷◌, ◌++◌, map, length, Option, Some, None, Ok, refl, sym, ap, subst, ◌∙◌, arith, append-nil, eq-eqb}
use Rattle.std.specs.List.{flat_map}
use Rattle.mt_base.specs.Prefix.{IsPickOf, none, taken, passed}
use Rattle.mt_base.specs.declared.kinds.Role.{Role}
use Rattle.mt_base.specs.Ends.{other}
use Rattle.dvc_pdus.specs.Value.{Pdu, spelled, IsPdu}
use Rattle.dvc_pdus.specs.Reading as dvc
use Rattle.dvc_pdus.proofs.Theorems.{written_is_read}
use Rattle.tunnel_pdus.specs.declared.part.Part.TheVariants.{Whole}
use Rattle.tunnel_pdus.specs.Value as tunnel
use Rattle.tunnel_pdus.specs.Reading.{reading, frame_reading, frame_at, kind_at, pdu_at, action_at}
use Rattle.tunnel_pdus.proofs.Frames as frames
use Rattle.tunnel_pdus.proofs.Tunnels as tunnels
use Rattle.mt_endpoint.specs.Acts.{Heard, TunnelAsked, TunnelAnswered, Spoken, Drawn, CreateAsked, CreateAnswered, Nothing, Carried}
use Rattle.mt_endpoint.specs.Writing.{frame_of, tunnel_pdu_of, framed, tunneled}
use Rattle.end_calls.specs.Streams.{heard_by, spoken_by, drawn_by, carried_by, if_whole, if_ok}
use Rattle.end_calls.proofs.Each.{Each}
use Rattle.end_calls.proofs.Spelled.{spelled_some, frame_bytes, pdu_bytes}
use Rattle.end_calls.proofs.Fitting.{FitsHeard, FitsDrawn, frame_fits, pdu_fits}
use Rattle.end_calls.proofs.Reading.{IsPartial, Readable, front_partial}

pub frames_readable : (role : Role) → Readable frame_reading framed frame_of (FitsHeard role)
frames_readable role = record {
  back = λ heard rest fits. frames.written_read (frame_of heard) rest (frame_fits role heard fits);
  begun = λ heard part byte rest fits is.
      front_partial frames.grammar (frame_of heard) (framed heard) part byte rest (frame_bytes (frame_of heard) (frame_fits role heard fits))
      (frames.written_spells (frame_of heard) (frame_fits role heard fits)) is;
}

pub pdus_readable : (role : Role) → Readable reading tunneled tunnel_pdu_of (FitsDrawn role)
pdus_readable role = record {
  back = λ drawn rest fits. tunnels.written_read (tunnel_pdu_of drawn) rest (pdu_fits role drawn fits);
  begun = λ drawn part byte rest fits is.
      front_partial tunnels.grammar (tunnel_pdu_of drawn) (tunneled drawn) part byte rest (pdu_bytes (tunnel_pdu_of drawn) (pdu_fits role drawn fits))
      (tunnels.written_spells (tunnel_pdu_of drawn) (pdu_fits role drawn fits)) is;
}

-- no byte is the beginning of a value
pub no_frame : IsPartial frame_reading []
unfolding frame_reading frame_at kind_at
no_frame = (1, refl)

pub no_pdu : IsPartial reading []
unfolding reading pdu_at action_at
no_pdu = (1, refl)

-- ---- what they carry

pub heard_back : (role : Role) (heard : Heard) → FitsHeard (other role) heard → heard_by role (frame_of heard) ≡ Ok heard
heard_back role (TunnelAsked id kind cookie) h = refl
heard_back role (TunnelAnswered id hr) h = refl
heard_back role (Spoken pdu) h = ap spoken_by (written_is_read (other role) pdu h)

carried_back : (role : Role) (bytes : List ℕ) (pdu : Pdu) → bytes ≡ spelled pdu → IsPdu (other role) pdu → drawn_by role (tunnel.Data bytes) ≡ Ok (Carried bytes pdu)
carried_back role [] pdu is h = absurd (omega (arith, spelled_some pdu, ap length is))
carried_back role (byte ∷ bytes) pdu is h = ap (carried_by (byte ∷ bytes)) (ap (dvc.reading (other role)) is ∙ written_is_read (other role) pdu h)

pub drawn_back : (role : Role) (drawn : Drawn) → FitsDrawn (other role) drawn → drawn_by role (tunnel_pdu_of drawn) ≡ Ok drawn
drawn_back role (CreateAsked id cookie) h = refl
drawn_back role (CreateAnswered hr) h = refl
drawn_back role Nothing h = refl
drawn_back role (Carried bytes pdu) h = carried_back role bytes pdu h.0 h.1

-- ---- a part of a lossy link

abbrev pub listed : Option Drawn → List Drawn
listed None = []
listed (Some drawn) = drawn ∷ []

-- what a part brings
abbrev pub brings : Role → List ℕ → List Drawn
brings role bytes = listed (if_whole role (length bytes) (reading bytes))

brings_back : (role : Role) (drawn : Drawn) → FitsDrawn (other role) drawn → brings role (tunneled drawn) ≡ drawn ∷ []
brings_back role drawn h =
    let is : reading (tunneled drawn) ≡ Ok (Whole (tunnel_pdu_of drawn) (length (tunneled drawn))) = ap reading (sym (append-nil (tunneled drawn))) ∙ (pdus_readable (other role)).back drawn [] h in
    ap (λ r. listed (if_whole role (length (tunneled drawn)) r)) is
    ∙ ap (λ b. listed (cond b (if_ok (drawn_by role (tunnel_pdu_of drawn))) None)) (eq-eqb (length (tunneled drawn)) (length (tunneled drawn)) refl)
    ∙ ap (λ r. listed (if_ok r)) (drawn_back role drawn h)

-- what parts bring that were picked from those of PDUs is picked from these
pub brings_pick : (role : Role) (handed posted : List (List ℕ)) → IsPickOf handed posted → (drawn : List Drawn) → Each (FitsDrawn (other role)) drawn → posted ≡ map tunneled drawn
    → IsPickOf (flat_map (brings role) handed) drawn
brings_pick role _ _ none [] f e = none
brings_pick role _ _ none (d ∷ ds) f e = absurd (let no : [] ≡ tunneled d ∷ map tunneled ds = e in cc)
brings_pick role _ _ (taken x xs ys p) [] f e = absurd (let no : x ∷ ys ≡ [] = e in cc)
brings_pick role _ _ (taken x xs ys p) (d ∷ ds) f e =
    let same : x ≡ tunneled d = cc in
    let rest : ys ≡ map tunneled ds = cc in
    subst (λ l. IsPickOf (l ++ flat_map (brings role) xs) (d ∷ ds)) (sym (ap (brings role) same ∙ brings_back role d f.0)) (taken d (flat_map (brings role) xs) ds (brings_pick role xs ys p ds f.1 rest))
brings_pick role _ _ (passed x xs ys p) [] f e = absurd (let no : x ∷ ys ≡ [] = e in cc)
brings_pick role _ _ (passed x xs ys p) (d ∷ ds) f e =
    let rest : ys ≡ map tunneled ds = cc in passed d (flat_map (brings role) xs) ds (brings_pick role xs ys p ds f.1 rest)
