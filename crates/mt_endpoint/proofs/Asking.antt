-- A server asks for a tunnel of each kind once.
use Rattle.std.proofs.Common.{◌≡◌, ℕ, Bool, true, false, ◌||◌, cond, List, [], ◌∷◌, ◌++◌, Option, Some, None, refl, ap, ◌∙◌}
use Rattle.std.specs.Option.{option_or}
use Rattle.mt_base.specs.declared.kinds.Kind.{Kind}
use Rattle.mt_base.specs.declared.kinds.Role.{Role}
use Rattle.mt_base.specs.Trace.{Trace, Start, ◌▷◌}
use Rattle.mt_endpoint.specs.Acts.{Act, Heard, TunnelAsked, TunnelAnswered, Spoken}
use Rattle.mt_endpoint.specs.Tunnels.{asked, request_in}
use Rattle.mt_base.specs.Ends.{same_kind}
use Rattle.mt_endpoint.specs.Writing.{adds, on_main, spoken}
use Rattle.mt_endpoint.specs.Alone.{EndOfActs}
use Rattle.mt_endpoint.specs.Orders.{EachMay, asks, MayAsk}
use Rattle.mt_endpoint.proofs.Sources.{Source, begun, opens, asks_for, tells, syncs, closes, answers, heard_capable, heard_creates, heard_ends, released_ends, AllBring, Adds, nothing, frame, sends, adds_what, each_written}

pub neither : {A : Type 0} (a b : Option A) → option_or a b ≡ None → (a ≡ None) × (b ≡ None)
neither None b h = (refl, h)
neither (Some x) b h = absurd (let no : Some x ≡ None = h in cc)

pub or_both : (a b c d : Bool) → b ≡ c || d → a || b ≡ (a || c) || d
or_both true b c d h = refl
or_both false b c d h = h

pub asks-append : (kind : Kind) (xs ys : List Heard) → asks kind (xs ++ ys) ≡ asks kind xs || asks kind ys
asks-append kind [] ys = refl
asks-append kind (TunnelAsked id made cookie ∷ xs) ys = or_both (same_kind kind made) (asks kind (xs ++ ys)) (asks kind xs) (asks kind ys) (asks-append kind xs ys)
asks-append kind (TunnelAnswered id hr ∷ xs) ys = asks-append kind xs ys
asks-append kind (Spoken pdu ∷ xs) ys = asks-append kind xs ys

none_among : {A : Type 0} (b : Bool) (x : A) → cond b (Some x) None ≡ None → b || false ≡ false
none_among true x h = absurd (let no : Some x ≡ None = h in cc)
none_among false x h = refl

data_asks : (kind : Kind) (id : ℕ) (xs : List Heard) → AllBring id xs → asks kind xs ≡ false
data_asks kind id [] h = refl
data_asks kind id (TunnelAsked made it cookie ∷ xs) h = absurd h
data_asks kind id (TunnelAnswered made hr ∷ xs) h = absurd h
data_asks kind id (Spoken pdu ∷ xs) h = data_asks kind id xs h.1

frame_asks : (kind : Kind) (role : Role) (t : Trace Act) (act : Act) (x : Heard) → Source role t act x → request_in kind act ≡ None → asks kind (x ∷ []) ≡ false
frame_asks kind role t _ _ (begun e) h = refl
frame_asks kind role t _ _ (opens id name) h = refl
frame_asks kind role t _ _ (asks_for made id cookie) h = none_among (same_kind kind made) (record { id = id; cookie = cookie }) h
frame_asks kind role t _ _ (tells act id hr e) h = refl
frame_asks kind role t _ _ (syncs reliable lossy) h = refl
frame_asks kind role t _ _ (closes id) h = refl
frame_asks kind role t _ _ (answers named) h = refl
frame_asks kind role t _ _ (heard_capable pdu version e r) h = refl
frame_asks kind role t _ _ (heard_creates pdu id name e r) h = refl
frame_asks kind role t _ _ (heard_ends pdu id e c) h = refl
frame_asks kind role t _ _ (released_ends made at bytes pdu id e c) h = refl

added_asks : (kind : Kind) (role : Role) (t : Trace Act) (act : Act) (xs : List Heard) → Adds role t act xs → request_in kind act ≡ None → asks kind xs ≡ false
added_asks kind role t act _ (nothing _) h = refl
added_asks kind role t act _ (frame _ x s) h = frame_asks kind role t act x s h
added_asks kind role t _ xs (sends id message _ all) h = data_asks kind id xs all

-- where no tunnel of the kind was asked for, no frame asks for one
pub none_asked : (kind : Kind) (role : Role) (t : Trace Act) → EndOfActs role t → asked kind t ≡ None → asks kind (spoken role t) ≡ false
none_asked kind role Start e h = refl
none_asked kind role (t ▷ act) e h =
    let n = neither (asked kind t) (request_in kind act) h in
    asks-append kind (spoken role t) (on_main (adds role t act))
    ∙ ap (λ b. b || asks kind (on_main (adds role t act))) (none_asked kind role t e.2 n.0)
    ∙ added_asks kind role t act _ (adds_what role t act e.1) n.1

frame_may : (role : Role) (t : Trace Act) (act : Act) (x : Heard) → EndOfActs role (t ▷ act) → Source role t act x → MayAsk role (spoken role t) x
frame_may role t _ _ e (begun r) = tt
frame_may role t _ _ e (opens id name) = tt
frame_may role t _ _ e (asks_for kind id cookie) = (e.1.0.0, none_asked kind role t e.2 e.1.0.1)
frame_may role t _ _ e (tells act id hr r) = r
frame_may role t _ _ e (syncs reliable lossy) = tt
frame_may role t _ _ e (closes id) = tt
frame_may role t _ _ e (answers named) = tt
frame_may role t _ _ e (heard_capable pdu version s r) = tt
frame_may role t _ _ e (heard_creates pdu id name s r) = tt
frame_may role t _ _ e (heard_ends pdu id s c) = tt
frame_may role t _ _ e (released_ends made at bytes pdu id s c) = tt

pub asked_once : (role : Role) (t : Trace Act) → EndOfActs role t → EachMay (MayAsk role) [] (spoken role t)
asked_once role t e = each_written role (MayAsk role) (frame_may role) (λ t id message pdu before e s p. tt) t e
