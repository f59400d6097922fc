-- What waits behind an act: what waited, and what the act writes.
use Rattle.std.proofs.Common.{◌≡◌, ℕ, true, false, List, [], ◌∷◌, ◌++◌, refl, sym, ap, subst, ◌∙◌, append_assoc, append-nil}
use Rattle.std.specs.List.{flat_map}
use Rattle.std.proofs.lemmas.Grind.{flat_map-append}
use Rattle.mt_base.specs.declared.kinds.Kind.{Kind}
use Rattle.mt_base.specs.declared.kinds.Kind.TheVariants.{Reliable, Lossy}
use Rattle.mt_base.specs.declared.kinds.Role.{Role}
use Rattle.mt_base.specs.Trace.{Trace, ◌▷◌}
use Rattle.mt_endpoint.specs.Acts.{Act, Heard, Drawn}
use Rattle.mt_endpoint.specs.Tunnels.{is_silent}
use Rattle.mt_endpoint.specs.Writing.{Into, OnMain, Written, adds, carried, framed, into, main_bytes, on_main, spoken, tunneled}
use Rattle.end_session.specs.Outgoing.{Outgoing, carries, says}
use Rattle.end_session.specs.Standing.{Gone, IsLeft, Waits}

pub same_left : (written gone : List Drawn) (bytes : List ℕ) → IsLeft written gone bytes → IsLeft (written ++ []) gone bytes
same_left written gone bytes l = subst (λ w. IsLeft w gone bytes) (sym (append-nil written)) l

more_left : (written gone : List Drawn) (bytes : List ℕ) (new : List Drawn) → IsLeft written gone bytes → IsLeft (written ++ new) gone (bytes ++ flat_map tunneled new)
more_left written gone bytes new l = record {
  rest = l.rest ++ new;
  rest_is = ap (λ w. w ++ new) l.rest_is ∙ append_assoc gone l.rest new;
  bytes_are = ap (λ b. b ++ flat_map tunneled new) l.bytes_are ∙ sym (flat_map-append tunneled l.rest new);
}

-- an act that writes nothing
pub quiet : (role : Role) (o : Outgoing) (t : Trace Act) (gone : Gone) (act : Act) → adds role t act ≡ [] → Waits role o t gone → Waits role o (t ▷ act) gone
quiet role o t gone act e w = record {
  main_waits = ap (λ x. flat_map framed (spoken role t ++ on_main x)) e ∙ ap (flat_map framed) (append-nil (spoken role t)) ∙ w.main_waits;
  reliable_waits =
      subst (λ x. IsLeft (carried Reliable role t ++ into Reliable (is_silent Reliable t) x) gone.reliable o.reliable) (sym e)
      (same_left (carried Reliable role t) gone.reliable o.reliable w.reliable_waits);
  lossy_waits =
      subst (λ x. IsLeft (carried Lossy role t ++ into Lossy (is_silent Lossy t) x) gone.lossy o.lossy) (sym e)
      (same_left (carried Lossy role t) gone.lossy o.lossy w.lossy_waits);
}

-- an act that writes one frame
pub spoke : (role : Role) (o : Outgoing) (t : Trace Act) (gone : Gone) (act : Act) (heard : Heard) → adds role t act ≡ OnMain heard ∷ [] → Waits role o t gone → Waits role (says heard o) (t ▷ act) gone
spoke role o t gone act heard e w = record {
  main_waits =
      ap (λ x. flat_map framed (spoken role t ++ on_main x)) e ∙ flat_map-append framed (spoken role t) (heard ∷ [])
      ∙ ap (λ x. main_bytes role t ++ x) (append-nil (framed heard)) ∙ ap (λ x. x ++ framed heard) w.main_waits ∙ append_assoc gone.main o.main (framed heard);
  reliable_waits =
      subst (λ x. IsLeft (carried Reliable role t ++ into Reliable (is_silent Reliable t) x) gone.reliable o.reliable) (sym e)
      (same_left (carried Reliable role t) gone.reliable o.reliable w.reliable_waits);
  lossy_waits =
      subst (λ x. IsLeft (carried Lossy role t ++ into Lossy (is_silent Lossy t) x) gone.lossy o.lossy) (sym e)
      (same_left (carried Lossy role t) gone.lossy o.lossy w.lossy_waits);
}

-- ---- an act that writes one PDU for a link

same_main : (role : Role) (o : Outgoing) (t : Trace Act) (gone : Gone) (act : Act) (kind : Kind) (drawn : Drawn) → adds role t act ≡ Into kind drawn ∷ [] → Waits role o t gone → main_bytes role (t ▷ act) ≡ gone.main ++ o.main
same_main role o t gone act kind drawn e w = ap (λ x. flat_map framed (spoken role t ++ on_main x)) e ∙ ap (flat_map framed) (append-nil (spoken role t)) ∙ w.main_waits

-- where it adds nothing for a link
none_into : (kind : Kind) (role : Role) (t : Trace Act) (act : Act) (written : List Written) (gone : List Drawn) (bytes : List ℕ) → adds role t act ≡ written → into kind (is_silent kind t) written ≡ []
    → IsLeft (carried kind role t) gone bytes → IsLeft (carried kind role (t ▷ act)) gone bytes
none_into kind role t act written gone bytes e none l =
    subst (λ x. IsLeft (carried kind role t ++ x) gone bytes) (sym (ap (into kind (is_silent kind t)) e ∙ none)) (same_left (carried kind role t) gone bytes l)

-- and where it adds one PDU
one_into : (kind : Kind) (role : Role) (t : Trace Act) (act : Act) (written : List Written) (drawn : Drawn) (gone : List Drawn) (bytes : List ℕ) → adds role t act ≡ written → into kind (is_silent kind t) written ≡ drawn ∷ []
    → IsLeft (carried kind role t) gone bytes → IsLeft (carried kind role (t ▷ act)) gone (bytes ++ tunneled drawn)
one_into kind role t act written drawn gone bytes e one l =
    subst (λ x. IsLeft (carried kind role t ++ x) gone (bytes ++ tunneled drawn)) (sym (ap (into kind (is_silent kind t)) e ∙ one))
    (subst (λ b. IsLeft (carried kind role t ++ drawn ∷ []) gone (bytes ++ b)) (append-nil (tunneled drawn)) (more_left (carried kind role t) gone bytes (drawn ∷ []) l))

-- a link that is not silent gets it
pub drew : (role : Role) (o : Outgoing) (t : Trace Act) (gone : Gone) (act : Act) (kind : Kind) (drawn : Drawn) → adds role t act ≡ Into kind drawn ∷ [] → is_silent kind t ≡ false
    → Waits role o t gone → Waits role (carries kind drawn o) (t ▷ act) gone
drew role o t gone act Reliable drawn e loud w = record {
  main_waits = same_main role o t gone act Reliable drawn e w;
  reliable_waits = one_into Reliable role t act (Into Reliable drawn ∷ []) drawn gone.reliable o.reliable e (ap (λ b. into Reliable b (Into Reliable drawn ∷ [])) loud) w.reliable_waits;
  lossy_waits = none_into Lossy role t act (Into Reliable drawn ∷ []) gone.lossy o.lossy e refl w.lossy_waits;
}
drew role o t gone act Lossy drawn e loud w = record {
  main_waits = same_main role o t gone act Lossy drawn e w;
  reliable_waits = none_into Reliable role t act (Into Lossy drawn ∷ []) gone.reliable o.reliable e refl w.reliable_waits;
  lossy_waits = one_into Lossy role t act (Into Lossy drawn ∷ []) drawn gone.lossy o.lossy e (ap (λ b. into Lossy b (Into Lossy drawn ∷ [])) loud) w.lossy_waits;
}

-- a silent one gets nothing
pub dropped : (role : Role) (o : Outgoing) (t : Trace Act) (gone : Gone) (act : Act) (kind : Kind) (drawn : Drawn) → adds role t act ≡ Into kind drawn ∷ [] → is_silent kind t ≡ true
    → Waits role o t gone → Waits role o (t ▷ act) gone
dropped role o t gone act Reliable drawn e silent w = record {
  main_waits = same_main role o t gone act Reliable drawn e w;
  reliable_waits = none_into Reliable role t act (Into Reliable drawn ∷ []) gone.reliable o.reliable e (ap (λ b. into Reliable b (Into Reliable drawn ∷ [])) silent) w.reliable_waits;
  lossy_waits = none_into Lossy role t act (Into Reliable drawn ∷ []) gone.lossy o.lossy e refl w.lossy_waits;
}
dropped role o t gone act Lossy drawn e silent w = record {
  main_waits = same_main role o t gone act Lossy drawn e w;
  reliable_waits = none_into Reliable role t act (Into Lossy drawn ∷ []) gone.reliable o.reliable e refl w.reliable_waits;
  lossy_waits = none_into Lossy role t act (Into Lossy drawn ∷ []) gone.lossy o.lossy e (ap (λ b. into Lossy b (Into Lossy drawn ∷ [])) silent) w.lossy_waits;
}
