-- What each act does to the relation between an end's value and its past.
use Rattle.std.proofs.Common.{◌≡◌, ℕ, ◌+◌, true, false, eqb, cond, List, [], ◌∷◌, ◌++◌, length, Option, None, Result, Ok, Err, OnOk, refl, sym, ap, ◌∙◌, subst, append_assoc, append-nil, arith}
use Rattle.std.specs.List.{flat_map}
use Rattle.std.specs.Global.{Vec}
use Rattle.std.proofs.lemmas.Grind.{flat_map-append}
use Rattle.std.proofs.lemmas.List.{length_push}
use Rattle.mt_base.specs.declared.kinds.Role.{Role}
use Rattle.mt_base.specs.declared.kinds.Role.TheVariants.{Server, Client}
use Rattle.mt_base.specs.Trace.{Trace, ◌▷◌}
use Rattle.dvc_pdus.specs.Value.{Pdu, Caps, CreateRequest, CreateResponse, Data}
use Rattle.mt_world.specs.declared.channel.ChannelState.{ChannelState}
use Rattle.mt_world.specs.declared.channel.ChannelState.TheVariants.{Open, Asked}
use Rattle.mt_world.specs.declared.end.End.{End}
use Rattle.mt_world.specs.Frames.{framed}
use Rattle.mt_world.specs.Acts.{Act, Opens, Sends, Reads, Past, with_act, adds, outgoing, written, names, delivered, answered}
use Rattle.mt_world.specs.EndView.{StandsFor}

-- a fact that holds where a call went well, by another that does
pub on_ok : {T E : Type 0} {P Q : Type 0} (r : Result T E) → (P → Q) → OnOk r P → OnOk r Q
on_ok (Ok x) f h = f h
on_ok (Err e) f h = tt

-- what is written after one more act
pub written-act : (role : Role) (acts : Trace Act) (act : Act) → written role (acts ▷ act) ≡ written role acts ++ flat_map framed (adds act role)
unfolding written
written-act role acts act = flat_map-append framed (outgoing role acts) (adds act role)

-- an act that writes nothing leaves what waits
pub queue_stays : (role : Role) (acts : Trace Act) (act : Act) (left old : List ℕ) → adds act role ≡ [] → left ++ old ≡ written role acts → left ++ old ≡ written role (acts ▷ act)
queue_stays role acts act left old none queue =
    queue ∙ sym (written-act role acts act ∙ ap (λ ps. written role acts ++ flat_map framed ps) none ∙ append-nil (written role acts))

-- the frame of what an act writes is put behind what waits
pub queue_grows : (role : Role) (acts : Trace Act) (act : Act) (left old new : List ℕ) (pdu : Pdu) → adds act role ≡ pdu ∷ [] → left ++ old ≡ written role acts → new ≡ old ++ framed pdu → left ++ new ≡ written role (acts ▷ act)
queue_grows role acts act left old new pdu one queue grown =
    ap (λ x. left ++ x) grown ∙ sym (append_assoc left old (framed pdu)) ∙ ap (λ x. x ++ framed pdu) queue
    ∙ sym (written-act role acts act ∙ ap (λ ps. written role acts ++ flat_map framed ps) one ∙ ap (λ x. written role acts ++ x) (append-nil (framed pdu)))

pub sends : (e : End) (queue : Vec ℕ) (role : Role) (p : Past) (left : List ℕ) (handed : List (List ℕ)) (message : List ℕ) → queue.items ≡ e.queue.items ++ framed (Data 1 message)
    → StandsFor e role p left handed → StandsFor (record e { queue = queue }) role (with_act p (Sends 1 message)) left handed
sends e queue role p left handed message grown s = record {
  role_is = s.role_is;
  ready_is = s.ready_is;
  channel_is = s.channel_is;
  names_are = s.names_are;
  part_is = s.part_is;
  queue_is = queue_grows role p.acts (Sends 1 message) left e.queue.items queue.items (Data 1 message) refl s.queue_is grown;
  inbox_is = s.inbox_is;
  few = s.few;
}

pub opens : (e : End) (kept : Vec (List ℕ)) (queue : Vec ℕ) (role : Role) (p : Past) (left : List ℕ) (handed : List (List ℕ)) (name : List ℕ)
    → kept.items ≡ e.names.items ++ name ∷ [] → queue.items ≡ e.queue.items ++ framed (CreateRequest 1 0 name) → length e.names.items ≡ 0
    → StandsFor e role p left handed → StandsFor (record e { channel = Asked; names = kept; queue = queue }) role (with_act p (Opens (length (names p.acts) + 1) name)) left handed
opens e kept queue role p left handed name named grown first s =
    let none : length (names p.acts) ≡ 0 = sym (ap length s.names_are) ∙ first in
    let one : length (names p.acts) + 1 ≡ 1 = omega (arith, none) in
    subst (λ id. StandsFor (record e { channel = Asked; names = kept; queue = queue }) role (with_act p (Opens id name)) left handed) (sym one) (record {
      role_is = s.role_is;
      ready_is = s.ready_is;
      channel_is = refl;
      names_are = named ∙ ap (λ x. x ++ name ∷ []) s.names_are;
      part_is = s.part_is;
      queue_is = queue_grows role p.acts (Opens 1 name) left e.queue.items queue.items (CreateRequest 1 0 name) refl s.queue_is grown;
      inbox_is = s.inbox_is;
      few = omega (arith, none, length_push (names p.acts) name);
    })

capabilities_at_server : (e : End) (p : Past) (left : List ℕ) (handed : List (List ℕ)) (version : ℕ) (charges : Option (List ℕ))
    → StandsFor e Server p left handed → StandsFor (record e { is_ready = true }) Server (with_act p (Reads (Caps version charges))) left handed
capabilities_at_server e p left handed version charges s = record {
  role_is = s.role_is;
  ready_is = refl;
  channel_is = s.channel_is;
  names_are = s.names_are;
  part_is = s.part_is;
  queue_is = queue_stays Server p.acts (Reads (Caps version charges)) left e.queue.items refl s.queue_is;
  inbox_is = s.inbox_is ∙ sym (append-nil (delivered 1 p.acts));
  few = s.few;
}

capabilities_at_client : (e : End) (queue : Vec ℕ) (p : Past) (left : List ℕ) (handed : List (List ℕ)) (version : ℕ) (charges : Option (List ℕ)) → queue.items ≡ e.queue.items ++ framed (Caps 3 None)
    → StandsFor e Client p left handed → StandsFor (record e { is_ready = true; queue = queue }) Client (with_act p (Reads (Caps version charges))) left handed
capabilities_at_client e queue p left handed version charges grown s = record {
  role_is = s.role_is;
  ready_is = refl;
  channel_is = s.channel_is;
  names_are = s.names_are;
  part_is = s.part_is;
  queue_is = queue_grows Client p.acts (Reads (Caps version charges)) left e.queue.items queue.items (Caps 3 None) refl s.queue_is grown;
  inbox_is = s.inbox_is ∙ sym (append-nil (delivered 1 p.acts));
  few = s.few;
}

-- capabilities that the server reads
pub server_reads_capabilities : (e : End) (role : Role) (p : Past) (left : List ℕ) (handed : List (List ℕ)) (version : ℕ) (charges : Option (List ℕ)) → e.role ≡ Server
    → StandsFor e role p left handed → StandsFor (record e { is_ready = true }) role (with_act p (Reads (Caps version charges))) left handed
server_reads_capabilities e role p left handed version charges is s =
    let server : role ≡ Server = sym s.role_is ∙ is in
    let P : Role → Type 0 = λ r. StandsFor e r p left handed in
    let Q : Role → Type 0 = λ r. StandsFor (record e { is_ready = true }) r (with_act p (Reads (Caps version charges))) left handed in
    subst Q (sym server) (capabilities_at_server e p left handed version charges (subst P server s))

-- capabilities that the client reads
pub client_reads_capabilities : (e : End) (queue : Vec ℕ) (role : Role) (p : Past) (left : List ℕ) (handed : List (List ℕ)) (version : ℕ) (charges : Option (List ℕ)) → e.role ≡ Client → queue.items ≡ e.queue.items ++ framed (Caps 3 None)
    → StandsFor e role p left handed → StandsFor (record e { is_ready = true; queue = queue }) role (with_act p (Reads (Caps version charges))) left handed
client_reads_capabilities e queue role p left handed version charges is grown s =
    let client : role ≡ Client = sym s.role_is ∙ is in
    let P : Role → Type 0 = λ r. StandsFor e r p left handed in
    let Q : Role → Type 0 = λ r. StandsFor (record e { is_ready = true; queue = queue }) r (with_act p (Reads (Caps version charges))) left handed in
    subst Q (sym client) (capabilities_at_client e queue p left handed version charges grown (subst P client s))

pub create_is_read : (e : End) (state : ChannelState) (queue : Vec ℕ) (role : Role) (p : Past) (left : List ℕ) (handed : List (List ℕ)) (id priority : ℕ) (name : List ℕ)
    → state ≡ cond (eqb id 1) Open e.channel → queue.items ≡ e.queue.items ++ framed (CreateResponse id 0)
    → StandsFor e role p left handed → StandsFor (record e { channel = state; queue = queue }) role (with_act p (Reads (CreateRequest id priority name))) left handed
create_is_read e state queue role p left handed id priority name after grown s = record {
  role_is = s.role_is;
  ready_is = s.ready_is;
  channel_is = after ∙ ap (cond (eqb id 1) Open) s.channel_is;
  names_are = s.names_are;
  part_is = s.part_is;
  queue_is = queue_grows role p.acts (Reads (CreateRequest id priority name)) left e.queue.items queue.items (CreateResponse id 0) refl s.queue_is grown;
  inbox_is = s.inbox_is ∙ sym (append-nil (delivered 1 p.acts));
  few = s.few;
}

pub answer_is_read : (e : End) (state : ChannelState) (role : Role) (p : Past) (left : List ℕ) (handed : List (List ℕ)) (id status : ℕ)
    → state ≡ cond (eqb id 1) (answered status) e.channel
    → StandsFor e role p left handed → StandsFor (record e { channel = state }) role (with_act p (Reads (CreateResponse id status))) left handed
answer_is_read e state role p left handed id status after s = record {
  role_is = s.role_is;
  ready_is = s.ready_is;
  channel_is = after ∙ ap (cond (eqb id 1) (answered status)) s.channel_is;
  names_are = s.names_are;
  part_is = s.part_is;
  queue_is = queue_stays role p.acts (Reads (CreateResponse id status)) left e.queue.items refl s.queue_is;
  inbox_is = s.inbox_is ∙ sym (append-nil (delivered 1 p.acts));
  few = s.few;
}

-- a message of the first channel
pub message_is_read : (e : End) (inbox : Vec (List ℕ)) (role : Role) (p : Past) (left : List ℕ) (handed : List (List ℕ)) (id : ℕ) (bytes : List ℕ)
    → eqb id 1 ≡ true → inbox.items ≡ e.inbox.items ++ bytes ∷ []
    → StandsFor e role p left handed → StandsFor (record e { inbox = inbox }) role (with_act p (Reads (Data id bytes))) left handed
message_is_read e inbox role p left handed id bytes first grown s = record {
  role_is = s.role_is;
  ready_is = s.ready_is;
  channel_is = s.channel_is;
  names_are = s.names_are;
  part_is = s.part_is;
  queue_is = queue_stays role p.acts (Reads (Data id bytes)) left e.queue.items refl s.queue_is;
  inbox_is = ap (λ x. handed ++ x) grown ∙ sym (append_assoc handed e.inbox.items (bytes ∷ [])) ∙ ap (λ x. x ++ bytes ∷ []) s.inbox_is
      ∙ ap (λ b. delivered 1 p.acts ++ cond b (bytes ∷ []) []) (sym first);
  few = s.few;
}

-- a message of another channel
pub other_is_read : (e : End) (role : Role) (p : Past) (left : List ℕ) (handed : List (List ℕ)) (id : ℕ) (bytes : List ℕ) → eqb id 1 ≡ false
    → StandsFor e role p left handed → StandsFor e role (with_act p (Reads (Data id bytes))) left handed
other_is_read e role p left handed id bytes first s = record {
  role_is = s.role_is;
  ready_is = s.ready_is;
  channel_is = s.channel_is;
  names_are = s.names_are;
  part_is = s.part_is;
  queue_is = queue_stays role p.acts (Reads (Data id bytes)) left e.queue.items refl s.queue_is;
  inbox_is = s.inbox_is ∙ sym (append-nil (delivered 1 p.acts)) ∙ ap (λ b. delivered 1 p.acts ++ cond b (bytes ∷ []) []) (sym first);
  few = s.few;
}

-- the same PDU under another name
pub at_pdu : (e : End) (role : Role) (p : Past) (left : List ℕ) (handed : List (List ℕ)) (x y : Pdu) → y ≡ x
    → StandsFor e role (with_act p (Reads x)) left handed → StandsFor e role (with_act p (Reads y)) left handed
at_pdu e role p left handed x y is s = let P : Pdu → Type 0 = λ pdu. StandsFor e role (with_act p (Reads pdu)) left handed in subst P (sym is) s

-- the same past under another name
pub at_past : (e : End) (role : Role) (left : List ℕ) (handed : List (List ℕ)) (p q : Past) → p ≡ q → StandsFor e role p left handed → StandsFor e role q left handed
at_past e role left handed p q is s = let P : Past → Type 0 = λ x. StandsFor e role x left handed in subst P is s
