-- Where a create request is due once more, a client asked by it.
use Rattle.std.proofs.Common.{◌≡◌, ℕ, Bool, true, false, not, ◌&&◌, ◌||◌, Option, Some, None, is_some, refl, sym, ap, ◌∙◌}
use Rattle.std.specs.Option.{option_or}
use Rattle.mt_base.specs.declared.kinds.Kind.{Kind}
use Rattle.mt_base.specs.declared.kinds.Kind.TheVariants.{Reliable, Lossy}
use Rattle.mt_base.specs.declared.kinds.Role.{Role}
use Rattle.mt_base.specs.declared.kinds.Role.TheVariants.{Server, Client}
use Rattle.mt_base.specs.Trace.{Trace, Start, ◌▷◌}
use Rattle.mt_endpoint.specs.Acts.{Act, Attaches}
use Rattle.mt_endpoint.specs.Alone.{EndOfActs, IsAct}
use Rattle.mt_endpoint.specs.Tunnels.{Request, answer, asked, attaches, is_attached, is_silent, request_in, silence}
use Rattle.mt_endpoint.specs.World.{IsAsked}
use Rattle.end_calls.specs.Calls.{Entry, MainIn, MainOut, Own, Postings, WireIn, WireOut, acts, is_due, is_over, no_postings, polled_at, story}
use Rattle.end_session.specs.Known.{Known}
use Rattle.end_reader.specs.declared.reader.Reader.{Reader}
use Rattle.endpoint.specs.Posted.{IsAsking}
use Rattle.endpoint.specs.Standing.{Tells}

-- ---- what is attached was asked for

some_asked : (o : Option Request) → IsAsked o → is_some o ≡ true
some_asked (Some request) h = refl
some_asked None h = absurd h

still_asked : (told more : Option Request) → is_some told ≡ true → is_some (option_or told more) ≡ true
still_asked None more h = absurd (let bad : false ≡ true = h in cc)
still_asked (Some request) more h = refl

asked_at : (kind : Kind) (role : Role) (t : Trace Act) (act : Act) → attaches kind act ≡ true → IsAct role t act → is_some (asked kind t) ≡ true
asked_at Reliable role t (Attaches Reliable) is a = some_asked (asked Reliable t) a.0.asked
asked_at Lossy role t (Attaches Lossy) is a = some_asked (asked Lossy t) a.0.asked
asked_at Reliable role t (Attaches Lossy) is a = absurd (let bad : false ≡ true = is in cc)
asked_at Lossy role t (Attaches Reliable) is a = absurd (let bad : false ≡ true = is in cc)
asked_at kind role t act is a = absurd (let bad : false ≡ true = is in cc)

pub attached_asked : (kind : Kind) (role : Role) (t : Trace Act) → EndOfActs role t → is_attached kind t ≡ true → is_some (asked kind t) ≡ true
attached_asked kind role Start e is = absurd (let bad : false ≡ true = is in cc)
attached_asked kind role (t ▷ act) e is = still_asked (asked kind t) (request_in kind act) (by_case (is_attached kind t) refl is (attached_asked kind role t e.2)) where
  by_case : (b : Bool) → is_attached kind t ≡ b → b || attaches kind act ≡ true → (is_attached kind t ≡ true → is_some (asked kind t) ≡ true) → is_some (asked kind t) ≡ true
  by_case true before h deeper = deeper before
  by_case false before h deeper = asked_at kind role t act h e.1

-- ---- a server posts none

none_posted : (t : Trace Entry) → (story Server t).postings ≡ no_postings
none_posted Start = refl
none_posted (t ▷ Own act) = none_posted t
none_posted (t ▷ MainIn offered count load lack) = none_posted t
none_posted (t ▷ MainOut room bytes) = none_posted t
none_posted (t ▷ WireIn kind now datagram took load came pulls parts lack) = none_posted t
none_posted (t ▷ WireOut Reliable now is_full out state) = none_posted t
none_posted (t ▷ WireOut Lossy now is_full out state) = ap (polled_at (acts Server t) now) (none_posted t)

clients : (role : Role) (t : Trace Entry) (now : ℕ) → is_over ((story role t).postings).last now ≡ true → role ≡ Client
clients Client t now h = refl
clients Server t now h = absurd (let bad : false ≡ true = sym (ap (λ (w : Postings). is_over w.last now) (none_posted t)) ∙ h in cc)

-- ---- what is due

both : (a b : Bool) → a && b ≡ true → (a ≡ true) × (b ≡ true)
both true true h = (refl, refl)
both true false h = absurd (let bad : false ≡ true = h in cc)
both false b h = absurd (let bad : false ≡ true = h in cc)

none_by : (o : Option ℕ) → not (is_some o) ≡ true → o ≡ None
none_by None h = refl
none_by (Some n) h = absurd (let bad : false ≡ true = h in cc)

pub asking : (r : Reader) (postings : Postings) (role : Role) (t : Trace Entry) (now : ℕ) (due : Bool) → Tells r postings role t → is_attached Lossy (acts role t) ≡ true → due ≡ true → due ≡ is_due (acts role t) postings now → IsAsking r.session
asking r postings role t now due tells attached holds is =
    let u = acts role t in
    let parts = both (is_over postings.last now) (not (is_some (answer Lossy u)) && not (is_silent Lossy u)) (sym is ∙ holds) in
    let rest = both (not (is_some (answer Lossy u))) (not (is_silent Lossy u)) parts.1 in
    let knows = ((tells.reads).stands).knows in
    let known_is = knows.lossy_is in record {
      role_is = tells.role_is ∙ clients role t now (sym (ap (λ (w : Postings). is_over w.last now) tells.postings_are) ∙ parts.0);
      asked = ap (λ (k : Known). is_some k.asked) known_is ∙ attached_asked Lossy (r.session).role u knows.lawful attached;
      attached = ap (λ (k : Known). k.is_attached) known_is ∙ attached;
      unanswered = ap (λ (k : Known). k.answer) known_is ∙ none_by (answer Lossy u) rest.0;
      loud = ap (λ (k : Known). k.silence) known_is ∙ none_by (silence Lossy u) rest.1;
    }
