-- Two ends and the stream between them are safe.
use Rattle.std.proofs.Common.{◌≡◌, ℕ, List, [], ◌∷◌, ◌++◌, take, fold, Option, None, Some, refl, sym, ap, ◌∙◌}
use Rattle.std.specs.List.{flat_map}
use Rattle.std.proofs.lemmas.List.Sums.{fold-append}
use Rattle.mt_base.specs.declared.kinds.Role.{Role}
use Rattle.mt_base.specs.Ends.{other}
use Rattle.mt_base.specs.Trace.{Trace, Start, ◌▷◌}
use Rattle.dvc_pdus.specs.Value.{Pdu}
use Rattle.mt_world.specs.Frames.{framed, frame_of}
use Rattle.mt_world.specs.Acts.{Entry, Act, Made, Opened, Sent, MainIn, MainOut, Took, Began, Opens, Sends, Reads, Past, past, with_byte, with_frame, written, outgoing, adds, given, taken, sent, delivered, message_in, reads}
use Rattle.mt_world.specs.Ends.{EndTrace}
use Rattle.mt_base.specs.Prefix.{IsPrefixOf}
use Rattle.mt_world.proofs.Steps.{written-act}
use Rattle.mt_base.proofs.Prefixes.{front-same, front-trans, front-flat_map, front-next, front-at}
use Rattle.mt_world.proofs.Hearing.{Heard, hear, heard-past, hears-grow, hear-written}
use Rattle.mt_world.proofs.Messages.{messages_in, delivered-reads, sent-outgoing}
use Rattle.mt_world.proofs.Outgoing.{PduLaws, end_sound}

-- what is written only grows
act_grows : (role : Role) (acts : Trace Act) (act : Act) → IsPrefixOf (written role acts) (written role (acts ▷ act))
act_grows role acts act = (flat_map framed (adds act role), written-act role acts act)

frame_grows : (role : Role) (p : Past) (part : List ℕ) (read : Option Pdu) → IsPrefixOf (written role p.acts) (written role (with_frame p part read).acts)
frame_grows role p part None = front-same (written role p.acts)
frame_grows role p part (Some pdu) = act_grows role p.acts (Reads pdu)

byte_grows : (role : Role) (p : Past) (byte : ℕ) → IsPrefixOf (written role p.acts) (written role (with_byte role p byte).acts)
unfolding with_byte
byte_grows role p byte = frame_grows role p (p.part ++ byte ∷ []) (frame_of (other role) (p.part ++ byte ∷ []))

bytes_grow : (role : Role) (p : Past) (bytes : List ℕ) → IsPrefixOf (written role p.acts) (written role (fold (with_byte role) p bytes).acts)
bytes_grow role p [] = front-same (written role p.acts)
bytes_grow role p (b ∷ bs) =
    front-trans (written role p.acts) (written role (with_byte role p b).acts) (written role (fold (with_byte role) (with_byte role p b) bs).acts)
    (byte_grows role p b) (bytes_grow role (with_byte role p b) bs)

-- what left an end is the front of what it wrote
pub given-written : (role : Role) (t : Trace Entry) → EndTrace role t → IsPrefixOf (given t) (written role (past role t).acts)
given-written role Start h = (written role Start, refl)
given-written role (t ▷ Made) h = front-trans (given t) (written role (past role t).acts) _ (given-written role t h.1) (act_grows role (past role t).acts Began)
given-written role (t ▷ Opened id name) h = front-trans (given t) (written role (past role t).acts) _ (given-written role t h.5) (act_grows role (past role t).acts (Opens id name))
given-written role (t ▷ Sent id message) h = front-trans (given t) (written role (past role t).acts) _ (given-written role t h.2) (act_grows role (past role t).acts (Sends id message))
given-written role (t ▷ MainIn offered count) h =
    front-trans (given t) (written role (past role t).acts) _ (given-written role t h.2) (bytes_grow role (past role t) (take count offered))
given-written role (t ▷ MainOut room bytes) h =
    front-at _ _ (written role (past role t).acts) (written role (past role t).acts) (ap (λ x. given t ++ x) (sym h.0)) refl
    (front-next room (given t) (written role (past role t).acts) (given-written role t h.1))
given-written role (t ▷ Took id message) h = given-written role t h.1

-- the PDUs that an end has read are the first of those that the other wrote
pub reads-outgoing : (laws : PduLaws) → (role : Role) (here there : Trace Entry) → EndTrace (other role) there → IsPrefixOf (taken here) (given there)
    → IsPrefixOf (reads (past role here).acts) (outgoing (other role) (past (other role) there).acts)
unfolding written
reads-outgoing laws role here there h front =
    let from = other role in
    let pdus = outgoing from (past from there).acts in
    let all = front-trans (taken here) (given there) (written from (past from there).acts) front (given-written from there h) in
    let so_far = fold (hear from) ([], []) (taken here) in
    let whole : fold (hear from) so_far all.0 ≡ (pdus, []) =
    sym (fold-append (hear from) ([], []) (taken here) all.0) ∙ ap (fold (hear from) ([], [])) (sym all.1)
    ∙ hear-written from (laws.back from) [] pdus (end_sound laws from there h).out in
    front-at so_far.0 (reads (past role here).acts) (fold (hear from) so_far all.0).0 pdus
    (ap (λ (x : Heard). x.0) (sym (heard-past role here))) (ap (λ (x : Heard). x.0) whole) (hears-grow from so_far all.0)

-- the messages that an end has had are the first of those that the other sent
pub safe_one_way : (laws : PduLaws) → (id : ℕ) (role : Role) (here there : Trace Entry) → EndTrace (other role) there → IsPrefixOf (taken here) (given there)
    → IsPrefixOf (delivered id (past role here).acts) (sent id (past (other role) there).acts)
safe_one_way laws id role here there h front =
    front-at (messages_in id (reads (past role here).acts)) (delivered id (past role here).acts) (messages_in id (outgoing (other role) (past (other role) there).acts)) (sent id (past (other role) there).acts)
    (sym (delivered-reads id (past role here).acts)) (sent-outgoing id (other role) (past (other role) there).acts)
    (front-flat_map (message_in id) (reads (past role here).acts) (outgoing (other role) (past (other role) there).acts) (reads-outgoing laws role here there h front))

-- an end that took all that the other wrote has read all its PDUs
all-read : (laws : PduLaws) → (role : Role) (here there : Trace Entry) → EndTrace (other role) there → taken here ≡ written (other role) (past (other role) there).acts
    → reads (past role here).acts ≡ outgoing (other role) (past (other role) there).acts
unfolding written
all-read laws role here there h all =
    let from = other role in
    let pdus = outgoing from (past from there).acts in
    let whole : fold (hear from) ([], []) (taken here) ≡ (pdus, []) =
    ap (fold (hear from) ([], [])) all ∙ hear-written from (laws.back from) [] pdus (end_sound laws from there h).out in
    ap (λ (x : Heard). x.0) (heard-past role here) ∙ ap (λ (x : Heard). x.0) whole

-- and has had all its messages
pub arrived_one_way : (laws : PduLaws) → (id : ℕ) (role : Role) (here there : Trace Entry) → EndTrace (other role) there → taken here ≡ written (other role) (past (other role) there).acts
    → delivered id (past role here).acts ≡ sent id (past (other role) there).acts
arrived_one_way laws id role here there h all =
    delivered-reads id (past role here).acts ∙ ap (messages_in id) (all-read laws role here there h all)
    ∙ sent-outgoing id (other role) (past (other role) there).acts
