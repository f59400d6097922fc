-- The create request that waits for a link (MS-RDPEMT section 2.2.2.1).
use Rattle.std.proofs.Common.{◌≡◌, ◌≤◌, Bool, true, false, [], ◌++◌, length, length-append, Some, refl, sym, ap, subst, ◌∙◌, arith}
use Rattle.std.specs.List.{flat_map}
use Rattle.mt_base.specs.declared.kinds.Kind.{Kind}
use Rattle.mt_base.specs.declared.kinds.Kind.TheVariants.{Reliable, Lossy}
use Rattle.mt_base.specs.declared.kinds.Role.{Role}
use Rattle.mt_base.specs.declared.kinds.Role.TheVariants.{Server, Client}
use Rattle.mt_base.specs.Trace.{Trace, ◌▷◌}
use Rattle.mt_endpoint.specs.Acts.{Act, Attaches}
use Rattle.mt_endpoint.specs.Tunnels.{Request, asked, is_silent}
use Rattle.mt_endpoint.specs.Writing.{carried, create_request, into, tunneled}
use Rattle.end_session.specs.Known.{Known}
use Rattle.end_session.specs.OfKind.{tunnel_of}
use Rattle.end_session.specs.Outgoing.{waiting_for}
use Rattle.end_session.specs.Standing.{Gone, Stands, Waits}
use Rattle.end_session.specs.Store.{Store}
use Rattle.endpoint.proofs.Left.{waits_more}

-- what is kept of a tunnel's request is what was asked for
pub asked_is : (s : Store) (kind : Kind) (t : Trace Act) (gone : Gone) → Stands s t gone → (tunnel_of kind s).asked ≡ asked kind t
asked_is s Reliable t gone st = ap (λ (k : Known). k.asked) (st.knows).reliable_is
asked_is s Lossy t gone st = ap (λ (k : Known). k.asked) (st.knows).lossy_is

pub short : (kind : Kind) (role : Role) (silent : Bool) (request : Request) → length request.cookie ≡ 16 → length (flat_map tunneled (into kind silent (create_request role kind (Some request)))) ≤ 28
short kind Server silent request long = omega arith
short Reliable Client true request long = omega arith
short Lossy Client true request long = omega arith
short Reliable Client false request long = omega (arith, long, length-append request.cookie [], length-append (request.cookie ++ []) [])
short Lossy Client false request long = omega (arith, long, length-append request.cookie [], length-append (request.cookie ++ []) [])

waits_now : (role : Role) (kind : Kind) (s now : Store) (t : Trace Act) (gone : Gone) → Waits role s.outgoing t gone → Waits role now.outgoing (t ▷ Attaches kind) gone → waiting_for kind s.outgoing ≡ []
    → waiting_for kind now.outgoing ≡ flat_map tunneled (into kind (is_silent kind t) (create_request role kind (asked kind t)))
waits_now role Reliable s now t gone before behind none =
    let more = into Reliable (is_silent Reliable t) (create_request role Reliable (asked Reliable t)) in
    waits_more (carried Reliable role t) (carried Reliable role (t ▷ Attaches Reliable)) gone.reliable more (s.outgoing).reliable (now.outgoing).reliable refl before.reliable_waits behind.reliable_waits ∙ ap (λ b. b ++ flat_map tunneled more) none
waits_now role Lossy s now t gone before behind none =
    let more = into Lossy (is_silent Lossy t) (create_request role Lossy (asked Lossy t)) in
    waits_more (carried Lossy role t) (carried Lossy role (t ▷ Attaches Lossy)) gone.lossy more (s.outgoing).lossy (now.outgoing).lossy refl before.lossy_waits behind.lossy_waits ∙ ap (λ b. b ++ flat_map tunneled more) none

pub request_waits : (s now : Store) (kind : Kind) (t : Trace Act) (gone : Gone) → Stands s t gone → Stands now (t ▷ Attaches kind) gone → now.role ≡ s.role → waiting_for kind s.outgoing ≡ []
    → waiting_for kind now.outgoing ≡ flat_map tunneled (into kind (is_silent kind t) (create_request s.role kind (asked kind t)))
request_waits s now kind t gone before behind same none =
    waits_now s.role kind s now t gone before.waits (subst (λ r. Waits r now.outgoing (t ▷ Attaches kind) gone) same behind.waits) none

pub request_short : (s now : Store) (kind : Kind) (t : Trace Act) (gone : Gone) (request : Request) → Stands s t gone → Stands now (t ▷ Attaches kind) gone → now.role ≡ s.role → waiting_for kind s.outgoing ≡ []
    → (tunnel_of kind s).asked ≡ Some request → length request.cookie ≡ 16 → length (waiting_for kind now.outgoing) ≤ 28
request_short s now kind t gone request before behind same none is long =
    subst (λ bytes. length bytes ≤ 28) (sym (request_waits s now kind t gone before behind same none))
    (subst (λ o. length (flat_map tunneled (into kind (is_silent kind t) (create_request s.role kind o))) ≤ 28) (sym (sym (asked_is s kind t gone before) ∙ is)) (short kind s.role (is_silent kind t) request long))
