-- The messages in the PDUs that an end writes and reads.
use Rattle.std.proofs.Common.{◌≡◌, ℕ, Bool, true, false, eqb, cond, List, [], ◌∷◌, ◌++◌, refl, sym, ap, ◌∙◌, append-nil}
use Rattle.std.specs.List.{flat_map}
use Rattle.std.proofs.lemmas.Grind.{flat_map-append}
use Rattle.mt_base.specs.declared.kinds.Role.{Role}
use Rattle.mt_base.specs.declared.kinds.Role.TheVariants.{Server, Client}
use Rattle.mt_base.specs.Trace.{Trace, Start, ◌▷◌}
use Rattle.dvc_pdus.specs.Value.{Pdu, Caps, CreateRequest, CreateResponse, DataFirst, Data, CompressedFirst, Compressed, Close, SyncRequest, SyncResponse}
use Rattle.mt_world.specs.Acts.{Act, Began, Opens, Sends, Reads, adds, reply, outgoing, sent, delivered, message_in, reads}

-- the messages of a channel in PDUs
abbrev pub messages_in : ℕ → List Pdu → List (List ℕ)
messages_in id pdus = flat_map (message_in id) pdus

-- the messages that came are those in the PDUs that were read
pub delivered-reads : (id : ℕ) (acts : Trace Act) → delivered id acts ≡ messages_in id (reads acts)
delivered-reads id Start = refl
delivered-reads id (t ▷ Began) = delivered-reads id t
delivered-reads id (t ▷ Opens made name) = delivered-reads id t
delivered-reads id (t ▷ Sends made message) = delivered-reads id t
delivered-reads id (t ▷ Reads pdu) =
    ap (λ x. x ++ message_in id pdu) (delivered-reads id t)
    ∙ ap (λ x. messages_in id (reads t) ++ x) (sym (append-nil (message_in id pdu)))
    ∙ sym (flat_map-append (message_in id) (reads t) (pdu ∷ []))

-- no answer is a message
reply_is_none : (id : ℕ) (role : Role) (pdu : Pdu) → messages_in id (reply pdu role) ≡ []
reply_is_none id Server (Caps version charges) = refl
reply_is_none id Client (Caps version charges) = refl
reply_is_none id role (CreateRequest made priority name) = refl
reply_is_none id role (CreateResponse made status) = refl
reply_is_none id role (Data made bytes) = refl
reply_is_none id role (DataFirst made total bytes) = refl
reply_is_none id role (CompressedFirst made total bytes) = refl
reply_is_none id role (Compressed made bytes) = refl
reply_is_none id role (Close made) = refl
reply_is_none id role (SyncRequest flags tunnels lists) = refl
reply_is_none id role (SyncResponse types) = refl

began_is_none : (id : ℕ) (role : Role) → messages_in id (adds Began role) ≡ []
began_is_none id Server = refl
began_is_none id Client = refl

one_more : (b : Bool) (xs : List (List ℕ)) (message : List ℕ) → xs ++ (cond b (message ∷ []) [] ++ []) ≡ cond b (xs ++ message ∷ []) xs
one_more true xs message = refl
one_more false xs message = append-nil xs

-- the messages in what an end writes are those that it sent
pub sent-outgoing : (id : ℕ) (role : Role) (acts : Trace Act) → messages_in id (outgoing role acts) ≡ sent id acts
sent-outgoing id role Start = refl
sent-outgoing id role (t ▷ Began) =
    flat_map-append (message_in id) (outgoing role t) (adds Began role)
    ∙ ap (λ x. messages_in id (outgoing role t) ++ x) (began_is_none id role) ∙ append-nil (messages_in id (outgoing role t)) ∙ sent-outgoing id role t
sent-outgoing id role (t ▷ Opens made name) =
    flat_map-append (message_in id) (outgoing role t) (adds (Opens made name) role)
    ∙ append-nil (messages_in id (outgoing role t)) ∙ sent-outgoing id role t
sent-outgoing id role (t ▷ Sends made message) =
    flat_map-append (message_in id) (outgoing role t) (adds (Sends made message) role)
    ∙ ap (λ x. x ++ (cond (eqb made id) (message ∷ []) [] ++ [])) (sent-outgoing id role t)
    ∙ one_more (eqb made id) (sent id t) message
sent-outgoing id role (t ▷ Reads pdu) =
    flat_map-append (message_in id) (outgoing role t) (adds (Reads pdu) role)
    ∙ ap (λ x. messages_in id (outgoing role t) ++ x) (reply_is_none id role pdu) ∙ append-nil (messages_in id (outgoing role t)) ∙ sent-outgoing id role t
