-- Each PDU that an end writes is one that it may send.
use Rattle.std.proofs.Common.{◌≡◌, ℕ, ◌+◌, ◌*◌, ◌<◌, ◌≤◌, ◌^◌, Bool, true, false, eqb, ltb, cond, ◌&&◌, List, [], ◌∷◌, ◌++◌, length, take, fold, Option, None, Some, Result, Ok, Err, refl, sym, subst, arith, length-append, lit<, lit≤}
use Rattle.std.specs.List.{AllByRecursion}
use Rattle.std.proofs.lemmas.List.Elements.{All-nil, All-cons, All-append, All-take, All-drop, recursion_from_All, All-from_recursion}
use Rattle.byteorder.specs.Endian.{little_bytes}
use Rattle.mt_base.specs.declared.kinds.Role.{Role}
use Rattle.mt_base.specs.declared.kinds.Role.TheVariants.{Server, Client}
use Rattle.mt_base.specs.Ends.{other}
use Rattle.mt_base.specs.Trace.{Trace, Start, ◌▷◌}
use Rattle.dvc_pdus.specs.declared.pdu.DvcRefusal.{DvcRefusal}
use Rattle.dvc_pdus.specs.Value.{Pdu, Caps, CreateRequest, CreateResponse, DataFirst, Data, CompressedFirst, Compressed, Close, SyncRequest, SyncResponse, Fits, IsPdu, IsName, spelled, smallest}
use Rattle.dvc_pdus.specs.Reading.{reading}
use Rattle.mt_world.specs.Frames.{frame_of, read_pdu, is_spoken, IsSpoken}
use Rattle.mt_world.specs.Acts.{Entry, Act, Made, Opened, Sent, MainIn, MainOut, Took, Began, Opens, Sends, Past, with_act, with_byte, with_frame, past, adds, reply, outgoing}
use Rattle.mt_world.specs.Ends.{EndTrace, IsBytes, channel_limit}

-- The recursion of `All`, which goes through appends.
pub all-append : {A : Type 0} (P : A → Type 0) (xs ys : List A) → AllByRecursion P xs → AllByRecursion P ys → AllByRecursion P (xs ++ ys)
all-append P [] ys h k = k
all-append P (x ∷ xs) ys h k = (h.0, all-append P xs ys h.1 k)

-- an id has at most four bytes
short_by : (a b : Bool) (id : ℕ) → length (cond a (little_bytes 1 id) (cond b (little_bytes 2 id) (little_bytes 4 id))) ≤ 4
short_by true b id = lit≤ tt
short_by false true id = lit≤ tt
short_by false false id = lit≤ tt

smallest_short : (id : ℕ) → length (smallest id) ≤ 4
smallest_short id = short_by (ltb id (2 ^ 8)) (ltb id (2 ^ 16)) id

answer_short : (id : ℕ) → length (spelled (CreateResponse id 0)) ≤ 1600
answer_short id =
    let k = smallest_short id in
    omega (arith, k, length-append (smallest id) (little_bytes 4 0 ++ []))

request_short : (id : ℕ) (name : List ℕ) → length name ≤ 255 → length (spelled (CreateRequest id 0 name)) ≤ 1600
request_short id name h =
    let k = smallest_short id in
    omega (arith, k, h, length-append (smallest id) (name ++ (0 ∷ [] ++ [])), length-append name (0 ∷ []))

-- What is known of channel PDUs: what is read is one that the layout has, and what may be sent is
-- read back.
pub record PduLaws : Type 0 where
  pub fits : (from : Role) (bytes : List ℕ) (pdu : Pdu) → IsBytes bytes → reading from bytes ≡ Ok pdu → Fits from pdu
  pub back : (from : Role) (pdu : Pdu) → IsPdu from pdu → reading from (spelled pdu) ≡ Ok pdu

-- what is read of a frame was spelled by an end that may write it
read_fits : (laws : PduLaws) → (from : Role) (bytes : List ℕ) (pdu : Pdu) (answer : Result Pdu DvcRefusal) → IsBytes bytes → reading from bytes ≡ answer → read_pdu answer ≡ Some pdu → Fits from pdu
read_fits laws from bytes pdu (Ok found) all is some = by_test (is_spoken found) some where
  by_test : (b : Bool) → cond b (Some found) None ≡ Some pdu → Fits from pdu
  by_test true h =
      let same : found ≡ pdu = cc in
      subst (λ x. Fits from x) same (laws.fits from bytes found all is)
  by_test false h = cc
read_fits laws from bytes pdu (Err refusal) all is none = cc

frame_fits : (laws : PduLaws) → (from : Role) (bytes : List ℕ) (pdu : Pdu) → IsBytes bytes → frame_of from bytes ≡ Some pdu → Fits from pdu
unfolding frame_of
frame_fits laws from [] pdu all is = cc
frame_fits laws from (a ∷ []) pdu all is = cc
frame_fits laws from (a ∷ b ∷ []) pdu all is = cc
frame_fits laws from (kind ∷ low ∷ high ∷ text) pdu all is = by_test (eqb kind 3 && eqb (low + 256 * high) (length text)) is where
  by_test : (b : Bool) → cond b (read_pdu (reading from text)) None ≡ Some pdu → Fits from pdu
  by_test true h = read_fits laws from text pdu (reading from text) (All-drop (λ b. b < 2 ^ 8) 3 (kind ∷ low ∷ high ∷ text) all) refl h
  by_test false h = cc

-- what an end answers to a PDU of the other end
reply_fits : (role : Role) (pdu : Pdu) → Fits (other role) pdu → AllByRecursion (IsSpoken role) (reply pdu role)
reply_fits Server (Caps version charges) h = tt
reply_fits Client (Caps version charges) h = (((lit< tt, lit≤ tt), refl), tt)
reply_fits Server (CreateRequest id priority name) h = absurd h
reply_fits Client (CreateRequest id priority name) h = ((((h.0, lit< tt), answer_short id), refl), tt)
reply_fits role (CreateResponse id status) h = tt
reply_fits role (Data id bytes) h = tt
reply_fits role (DataFirst made total bytes) h = tt
reply_fits role (CompressedFirst made total bytes) h = tt
reply_fits role (Compressed made bytes) h = tt
reply_fits role (Close made) h = tt
reply_fits role (SyncRequest flags tunnels lists) h = tt
reply_fits role (SyncResponse types) h = tt

-- The bytes of a frame that is under way are bytes, and each PDU that was written may be sent.
pub record IsSound (role : Role) (p : Past) : Type 0 where
  pub part : IsBytes p.part
  pub out : AllByRecursion (IsSpoken role) (outgoing role p.acts)

frame_sound : (role : Role) (p : Past) (part : List ℕ) (read : Option Pdu) → IsBytes part → ((pdu : Pdu) → read ≡ Some pdu → Fits (other role) pdu) → IsSound role p → IsSound role (with_frame p part read)
frame_sound role p part None all fits s = record { part = all; out = s.out }
frame_sound role p part (Some pdu) all fits s = record {
  part = All-nil (λ b. b < 2 ^ 8);
  out = all-append (IsSpoken role) (outgoing role p.acts) (reply pdu role) s.out (reply_fits role pdu (fits pdu refl));
}

byte_sound : (laws : PduLaws) → (role : Role) (p : Past) (byte : ℕ) → byte < 2 ^ 8 → IsSound role p → IsSound role (with_byte role p byte)
unfolding with_byte
byte_sound laws role p byte small s =
    let all = All-append (λ b. b < 2 ^ 8) p.part (byte ∷ []) s.part (All-cons (λ b. b < 2 ^ 8) byte [] small (All-nil (λ b. b < 2 ^ 8))) in
    frame_sound role p (p.part ++ byte ∷ []) (frame_of (other role) (p.part ++ byte ∷ [])) all (λ pdu is. frame_fits laws (other role) (p.part ++ byte ∷ []) pdu all is) s

bytes_sound : (laws : PduLaws) → (role : Role) (p : Past) (bytes : List ℕ) → AllByRecursion (λ b. b < 2 ^ 8) bytes → IsSound role p → IsSound role (fold (with_byte role) p bytes)
bytes_sound laws role p [] all s = s
bytes_sound laws role p (b ∷ bs) all s = bytes_sound laws role (with_byte role p b) bs all.1 (byte_sound laws role p b all.0 s)

-- one more act of the end's own
act_sound : (role : Role) (p : Past) (act : Act) → AllByRecursion (IsSpoken role) (adds act role) → IsSound role p → IsSound role (with_act p act)
act_sound role p act adds_fit s = record { part = s.part; out = all-append (IsSpoken role) (outgoing role p.acts) (adds act role) s.out adds_fit }

began_fits : (role : Role) → AllByRecursion (IsSpoken role) (adds Began role)
began_fits Server = ((((lit< tt, refl, All-from_recursion (λ c. c < 2 ^ 16) (0 ∷ 0 ∷ 0 ∷ 0 ∷ []) (lit< tt, (lit< tt, (lit< tt, (lit< tt, tt))))), lit≤ tt), refl), tt)
began_fits Client = tt

opens_fits : (role : Role) (id : ℕ) (name : List ℕ) → role ≡ Server → id ≤ channel_limit → IsName name → IsPdu role (CreateRequest id 0 name)
opens_fits role id name is small named =
    let P : Role → Type 0 = λ r. IsPdu r (CreateRequest id 0 name) in
    subst P (sym is) ((omega arith, lit< tt, named), request_short id name named.1)

-- an end's past is sound
pub end_sound : (laws : PduLaws) → (role : Role) (t : Trace Entry) → EndTrace role t → IsSound role (past role t)
end_sound laws role Start h = record { part = All-nil (λ b. b < 2 ^ 8); out = tt }
end_sound laws role (t ▷ Made) h = act_sound role (past role t) Began (began_fits role) (end_sound laws role t h.1)
end_sound laws role (t ▷ Opened id name) h = act_sound role (past role t) (Opens id name) ((opens_fits role id name h.0 h.2 h.3, refl), tt) (end_sound laws role t h.5)
end_sound laws role (t ▷ Sent id message) h = act_sound role (past role t) (Sends id message) ((h.1, refl), tt) (end_sound laws role t h.2)
end_sound laws role (t ▷ MainIn offered count) h =
    bytes_sound laws role (past role t) (take count offered) (recursion_from_All (λ b. b < 2 ^ 8) (take count offered) (All-take (λ b. b < 2 ^ 8) count offered h.0)) (end_sound laws role t h.2)
end_sound laws role (t ▷ MainOut room bytes) h = end_sound laws role t h.1
end_sound laws role (t ▷ Took id message) h = end_sound laws role t h.1
