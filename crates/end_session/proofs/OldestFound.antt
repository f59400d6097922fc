-- The oldest PDU of a channel, read from the bytes that are held.
use Rattle.std.proofs.Common.{◌≡◌, ℕ, ◌≤◌, true, false, List, length, length-append, take, drop, Option, Some, None, option_map, IfOk, Result, Ok, Err, refl, sym, ap, subst, ◌∙◌, arith}
use Rattle.std.proofs.Math.Seq.{take-append_seam}
use Rattle.std.proofs.lemmas.Bool.{eqb-true}
use Rattle.mt_base.specs.Ends.{other}
use Rattle.mt_base.specs.declared.kinds.Kind.{Kind}
use Rattle.mt_base.specs.declared.kinds.Role.{Role}
use Rattle.mt_base.specs.Trace.{Trace}
use Rattle.mt_base.proofs.Fields.{ok_is}
use Rattle.dvc_pdus.specs.declared.pdu.DvcRefusal.{DvcRefusal}
use Rattle.dvc_pdus.specs.declared.pdu.DvcPdu.{DvcPdu}
use Rattle.dvc_pdus.specs.Layout.{Encodes}
use Rattle.dvc_pdus.specs.Reading.{Answers, reading}
use Rattle.dvc_pdus.specs.Value.{Pdu}
use Rattle.dvc_pdus.specs.Views.{pdu_of}
use Rattle.hold_queue.specs.Held as hold
use Rattle.mt_endpoint.specs.Acts.{Act}
use Rattle.mt_endpoint.specs.Holding.{channel_of, held, is_of}
use Rattle.mt_endpoint.proofs.HeldPdus.{first_is_of}
use Rattle.end_session.specs.Drawing.{held_of}
use Rattle.end_session.specs.Releasing.{IsOf, IsOldest}
use Rattle.end_session.specs.Standing.{Gone, Stands}
use Rattle.end_session.specs.Store.{Store}
use Rattle.end_session.proofs.Freed.{first_held, kept_of}
use Rattle.end_session.proofs.Reread.{read_of}

of_channel : (id : ℕ) (channel : Option ℕ) → is_of id channel ≡ true → channel ≡ Some id
of_channel id None h = absurd (let no : false ≡ true = h in cc)
of_channel id (Some made) h = ap (λ x. Some x) (eqb-true made id h)

-- what was found, and its bytes in the buffer
pub record IsFound (id : ℕ) (pdus : List hold.Pdu) (out : List ℕ) (at count : ℕ) : Type 0 where
  pub p : hold.Pdu
  pub oldest_is : hold.oldest id pdus ≡ Some p
  pub at_is : p.at ≡ at
  pub bytes_are : take count out ≡ p.bytes
  pub within : count ≤ length out

abbrev placed : ℕ → ℕ → Option (ℕ × ℕ)
placed at count = Some (at, count)

abbrev place_of : hold.Pdu → ℕ × ℕ
place_of p = (p.at, length p.bytes)

same_place : (x y : ℕ × ℕ) → Some x ≡ Some y → x ≡ y
same_place x y e = cc

pub found : (id : ℕ) (pdus : List hold.Pdu) (before out : List ℕ) (at count : ℕ) → placed at count ≡ option_map place_of (hold.oldest id pdus) → out ≡ hold.with_bytes (hold.oldest id pdus) before
    → IsFound id pdus out at count
found id pdus before out at count found_is out_is = by_oldest (hold.oldest id pdus) refl found_is out_is where
  by_oldest : (o : Option hold.Pdu) → hold.oldest id pdus ≡ o → placed at count ≡ option_map place_of o → out ≡ hold.with_bytes o before → IsFound id pdus out at count
  by_oldest None is e b = absurd (let never : placed at count ≡ None = e in cc)
  by_oldest (Some p) is e b =
      let same = same_place (at, count) (place_of p) e in
      let at_is : p.at ≡ at = sym (ap (λ (x : ℕ × ℕ). x.0) same) in
      let count_is : length p.bytes ≡ count = sym (ap (λ (x : ℕ × ℕ). x.1) same) in record {
        p = p;
        oldest_is = is;
        at_is = at_is;
        bytes_are = ap (λ n. take n out) (sym count_is) ∙ ap (take (length p.bytes)) b ∙ take-append_seam p.bytes (drop (length p.bytes) before);
        within = omega (arith, count_is, ap (λ (l : List ℕ). length l) b, length-append p.bytes (drop (length p.bytes) before));
      }

-- it is read as what the other end wrote
pub record IsRead (id : ℕ) (p : hold.Pdu) : Type 0 where
  pub pdu : Pdu
  pub of : channel_of pdu ≡ Some id
  pub read_is : (from : Role) → reading from p.bytes ≡ Ok pdu

pub was_kept : (s : Store) (t : Trace Act) (gone : Gone) (kind : Kind) (id : ℕ) (p : hold.Pdu) → hold.oldest id (held_of kind s) ≡ Some p → Stands s t gone → IsRead id p
was_kept s t gone kind id p oldest_is st =
    let f = first_held id (held s.role kind t) (held_of kind s) p (kept_of s t gone kind st) oldest_is in record {
      pdu = (f.h).pdu;
      of = of_channel id (channel_of (f.h).pdu) (first_is_of id (held s.role kind t) f.h f.rest f.first_is);
      read_is = λ from. ap (reading from) (f.kept).2 ∙ (f.kept).3 from;
    }

-- so there is a PDU to read
pub never_unread : (s : Store) (t : Trace Act) (gone : Gone) (kind : Kind) (id : ℕ) (out : List ℕ) (at count : ℕ) (from : Role) (r : Result DvcPdu DvcRefusal) (e : DvcRefusal) → IsFound id (held_of kind s) out at count
    → Answers pdu_of r (reading from (take count out)) → r ≡ Err e → Stands s t gone → ⊥
never_unread s t gone kind id out at count from r e f answers is st =
    let k = was_kept s t gone kind id f.p f.oldest_is st in
    let a : reading from (take count out) ≡ Ok k.pdu = ap (reading from) f.bytes_are ∙ k.read_is from in
    let b : reading from (take count out) ≡ Err e = subst (λ r. Answers pdu_of r (reading from (take count out))) is answers in
    clash (reading from (take count out)) k.pdu e a b
  where
    clash : (r : Result Pdu DvcRefusal) (pdu : Pdu) (e : DvcRefusal) → r ≡ Ok pdu → r ≡ Err e → ⊥
    clash r pdu e a b = let never : Ok pdu ≡ Err e = sym a ∙ b in cc

pub oldest_read : (s : Store) (kind : Kind) (id : ℕ) (out : List ℕ) (at count : ℕ) (from : Role) (r : Result DvcPdu DvcRefusal) (pdu : DvcPdu) → IsFound id (held_of kind s) out at count → from ≡ other s.role
    → Answers pdu_of r (reading from (take count out)) → r ≡ Ok pdu → IsOldest kind id (pdu_of pdu) s
oldest_read s kind id out at count from r pdu f from_is answers is = record {
  kept = f.p;
  oldest_is = f.oldest_is;
  read_is = ap (reading (other s.role)) (sym f.bytes_are) ∙ ap (λ x. reading x (take count out)) (sym from_is) ∙ subst (λ r. Answers pdu_of r (reading from (take count out))) is answers;
}

pub found_place : (id : ℕ) (pdus : List hold.Pdu) (out : List ℕ) (at count : ℕ) → IsFound id pdus out at count → option_map (λ (p : hold.Pdu). p.at) (hold.oldest id pdus) ≡ Some at
found_place id pdus out at count f = ap (option_map (λ (p : hold.Pdu). p.at)) f.oldest_is ∙ ap (λ n. Some n) f.at_is

pub found_of : (s : Store) (t : Trace Act) (gone : Gone) (kind : Kind) (id : ℕ) (out : List ℕ) (at count : ℕ) (from : Role) (r : Result DvcPdu DvcRefusal) (pdu : DvcPdu) → IsFound id (held_of kind s) out at count
    → Answers pdu_of r (reading from (take count out)) → IfOk r (λ p. Encodes from (take count out) (pdu_of p)) → r ≡ Ok pdu → Stands s t gone → IsOf id (pdu_of pdu)
found_of s t gone kind id out at count from r pdu f answers encodes is st =
    let k = was_kept s t gone kind id f.p f.oldest_is st in
    let a : reading from (take count out) ≡ Ok k.pdu = ap (reading from) f.bytes_are ∙ k.read_is from in
    let b : reading from (take count out) ≡ Ok (pdu_of pdu) = subst (λ r. Answers pdu_of r (reading from (take count out))) is answers in
    let same : pdu_of pdu ≡ k.pdu = ok_is (pdu_of pdu) k.pdu b a in
    read_of from (take count out) (pdu_of pdu) id (subst (λ r. IfOk r (λ p. Encodes from (take count out) (pdu_of p))) is encodes) (ap channel_of same ∙ k.of)
