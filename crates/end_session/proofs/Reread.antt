-- Data and closes are read alike, whichever end wrote them.
use Rattle.std.proofs.Common.{◌≡◌, inl, inr, ℕ, ◌<◌, All, true, false, List, [], ◌∷◌, ◌++◌, length, length-append, Option, Some, None, IfSome, Ok, refl, sym, ap, subst, ◌∙◌, arith}
use Rattle.mt_base.specs.declared.kinds.Kind.{Kind}
use Rattle.mt_base.specs.declared.kinds.Kind.TheVariants.{Reliable}
use Rattle.mt_base.specs.declared.kinds.Role.{Role}
use Rattle.mt_base.proofs.Meanings.{was_spelled}
use Rattle.dvc_channels.specs.Acts.{IsData}
use Rattle.dvc_pdus.specs.Layout.{Encodes, Spells, id_in}
use Rattle.dvc_pdus.specs.Reading.{reading}
use Rattle.dvc_pdus.specs.Value.{Pdu, Fits, Caps, CreateRequest, CreateResponse, DataFirst, Data, CompressedFirst, Compressed, Close, SyncRequest, SyncResponse}
use Rattle.dvc_pdus.proofs.Theorems.{meaning}
use Rattle.mt_endpoint.specs.Holding.{channel_of}
use Rattle.mt_endpoint.specs.Said.{Brings, lone, said}
use Rattle.end_session.specs.Releasing.{IsOf, is_end}

never_some : {A : Type 0} {id : ℕ} → None ≡ Some id → A
never_some h = cc

fits_alike : (a b : Role) (pdu : Pdu) (id : ℕ) → Fits a pdu → channel_of pdu ≡ Some id → Fits b pdu
fits_alike a b (Caps version charges) id fits of = never_some of
fits_alike a b (CreateRequest made priority name) id fits of = never_some of
fits_alike a b (CreateResponse made status) id fits of = never_some of
fits_alike a b (DataFirst made total bytes) id fits of = fits
fits_alike a b (Data made bytes) id fits of = fits
fits_alike a b (CompressedFirst made total bytes) id fits of = fits
fits_alike a b (Compressed made bytes) id fits of = fits
fits_alike a b (Close made) id fits of = fits
fits_alike a b (SyncRequest flags tunnels lists) id fits of = never_some of
fits_alike a b (SyncResponse types) id fits of = never_some of

-- what was read is spelled by the bytes
pub was_read : (from : Role) (bytes : List ℕ) (pdu : Pdu) → All (λ b. b < 256) bytes → reading from bytes ≡ Ok pdu → Encodes from bytes pdu
was_read from bytes pdu good is = was_spelled (meaning from) pdu bytes good is

pub read_alike : (a b : Role) (bytes : List ℕ) (pdu : Pdu) (id : ℕ) → All (λ b. b < 256) bytes → reading a bytes ≡ Ok pdu → channel_of pdu ≡ Some id → reading b bytes ≡ Ok pdu
read_alike a b bytes pdu id good is of =
    let e = was_read a bytes pdu good is in
    let s : Spells a bytes pdu = e.0 in
    (meaning b).reads pdu bytes (record { choice = s.choice; allowed = s.allowed; fits = fits_alike a b pdu id s.fits of; bytes_are = s.bytes_are }, e.1)

-- what was read of a channel is its close, or data
same_id : (made id : ℕ) → Some made ≡ Some id → made ≡ id
same_id made id h = cc

pub read_of : (from : Role) (bytes : List ℕ) (pdu : Pdu) (id : ℕ) → Encodes from bytes pdu → channel_of pdu ≡ Some id → IsOf id pdu
read_of from bytes (Caps version charges) id e of = never_some of
read_of from bytes (CreateRequest made priority name) id e of = never_some of
read_of from bytes (CreateResponse made status) id e of = never_some of
read_of from bytes (DataFirst made total part) id e of =
    let s : Spells from bytes (DataFirst made total part) = e.0 in
    let all = ap (λ (b : List ℕ). length b) s.bytes_are in
    let c = s.choice in
    inr (ap (λ x. Brings x) (same_id made id of), (s.fits.3, omega (arith, all, length-append (id_in c.size made) (id_in c.wide total ++ (part ++ [])), length-append (id_in c.wide total) (part ++ []), length-append part [], e.1)))
read_of from bytes (Data made part) id e of =
    let s : Spells from bytes (Data made part) = e.0 in
    let all = ap (λ (b : List ℕ). length b) s.bytes_are in
    inr (ap (λ x. Brings x) (same_id made id of), omega (arith, all, length-append (id_in (s.choice).size made) (part ++ []), length-append part [], e.1))
read_of from bytes (CompressedFirst made total part) id e of =
    let s : Spells from bytes (CompressedFirst made total part) = e.0 in
    let all = ap (λ (b : List ℕ). length b) s.bytes_are in
    let c = s.choice in
    inr (ap (λ x. Brings x) (same_id made id of), omega (arith, all, length-append (id_in c.size made) (id_in c.wide total ++ (part ++ [])), length-append (id_in c.wide total) (part ++ []), length-append part [], e.1))
read_of from bytes (Compressed made part) id e of =
    let s : Spells from bytes (Compressed made part) = e.0 in
    let all = ap (λ (b : List ℕ). length b) s.bytes_are in
    inr (ap (λ x. Brings x) (same_id made id of), omega (arith, all, length-append (id_in (s.choice).size made) (part ++ []), length-append part [], e.1))
read_of from bytes (Close made) id e of = inl (ap (λ x. Close x) (same_id made id of))
read_of from bytes (SyncRequest flags tunnels lists) id e of = never_some of
read_of from bytes (SyncResponse types) id e of = never_some of

-- by whether it is a close
pub close_is : (id : ℕ) (pdu : Pdu) → IsOf id pdu → is_end (said pdu) ≡ true → pdu ≡ Close id
close_is id pdu (inl is) e = is
close_is id pdu (inr d) e = absurd (let never : false ≡ true = sym (ap is_end d.0) ∙ e in cc)

pub data_is : (id : ℕ) (pdu : Pdu) → IsOf id pdu → is_end (said pdu) ≡ false → (said pdu ≡ Brings id) × IsData pdu
data_is id pdu (inl is) e = absurd (let never : true ≡ false = sym (ap (λ p. is_end (said p)) is) ∙ e in cc)
data_is id pdu (inr d) e = d

-- a lossy tunnel carries no close
never_end : (pdu : Pdu) (id : ℕ) → lone pdu ≡ id ∷ [] → is_end (said pdu) ≡ false
never_end (Caps version charges) id e = refl
never_end (CreateRequest made priority name) id e = refl
never_end (CreateResponse made status) id e = refl
never_end (DataFirst made total part) id e = refl
never_end (Data made part) id e = refl
never_end (CompressedFirst made total part) id e = refl
never_end (Compressed made part) id e = refl
never_end (Close made) id e = absurd (let never : [] ≡ id ∷ [] = e in cc)
never_end (SyncRequest flags tunnels lists) id e = refl
never_end (SyncResponse types) id e = refl

pub reliable_alone : (kind : Kind) (pdu : Pdu) (of found : Option ℕ) → IfSome found (λ id. of ≡ Some id) → IfSome of (λ id. lone pdu ≡ id ∷ []) → IfSome found (λ id. is_end (said pdu) ≡ true → kind ≡ Reliable)
reliable_alone kind pdu of None is alone = tt
reliable_alone kind pdu of (Some id) is alone =
    let at_one : lone pdu ≡ id ∷ [] = subst (λ o. IfSome o (λ id. lone pdu ≡ id ∷ [])) is alone in
    λ e. absurd (let never : false ≡ true = sym (never_end pdu id at_one) ∙ e in cc)
