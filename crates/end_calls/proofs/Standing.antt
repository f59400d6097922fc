-- An end that read what the other wrote, byte by byte and part by part.
use Rattle.std.proofs.Common.{◌≡◌, ℕ, ◌+◌, Bool, true, false, not, cond, List, [], ◌∷◌, ◌++◌, map, length, Option, Some, None, is_some, option_map, refl, sym, ap, subst, ◌∙◌, append_assoc, append-nil}
use Rattle.std.specs.List.{flat_map}
use Rattle.std.proofs.lemmas.Grind.{flat_map-append}
use Rattle.mt_base.specs.declared.kinds.Kind.{Kind}
use Rattle.mt_base.specs.declared.kinds.Kind.TheVariants.{Reliable, Lossy}
use Rattle.mt_base.specs.declared.kinds.Role.{Role}
use Rattle.mt_base.specs.declared.kinds.Role.TheVariants.{Server, Client}
use Rattle.mt_base.specs.Ends.{other}
use Rattle.mt_base.specs.Prefix.{IsPrefixOf, IsPickOf}
use Rattle.mt_base.specs.Trace.{Trace, ◌▷◌}
use Rattle.mt_base.proofs.Prefixes.{front-at, pick-at}
use Rattle.tunnel_pdus.specs.Reading.{reading, frame_reading}
use Rattle.tunnel_cookies.specs.Entries.{entry_of}
use Rattle.mt_endpoint.specs.Acts.{Act, Hears, Draws, Drawn, CreateAsked, CreateAnswered, Nothing, Carried}
use Rattle.mt_endpoint.specs.Faults.{Why, main_fault, tunnel_fault}
use Rattle.mt_endpoint.specs.Tunnels.{issued}
use Rattle.mt_base.specs.Ends.{same_kind}
use Rattle.mt_endpoint.specs.Writing.{spoken, carried, framed, tunneled, frame_of, tunnel_pdu_of}
use Rattle.mt_endpoint.specs.World.{IsStep, HasCome, begins, is_begun, heard_in, drawn_in, hears, draws}
use Rattle.mt_endpoint.proofs.MainData.{frame_fine}
use Rattle.mt_endpoint.proofs.Carrying.{tunnel_fine}
use Rattle.mt_endpoint.proofs.Together.{Place, meet_at, Stepped, stepped}
use Rattle.end_calls.specs.Streams.{Past, Under, in_tunnel, on_main, fault_at, grows, reads, reads_heard, reads_drawn, main_reads, tunnel_reads, with_main, with_tunnel, with_part, drawing, missed_or, if_whole}
use Rattle.end_calls.specs.Law.{IsGiven}
use Rattle.end_calls.proofs.Verdicts.{verdict_is}
use Rattle.end_calls.proofs.Each.{Each}
use Rattle.end_calls.proofs.Fitting.{EachGiven, FitsHeard, FitsDrawn}
use Rattle.end_calls.proofs.Fronts.{grown_lasts, given_lasts}
use Rattle.end_calls.proofs.Reading.{IsPartial, Next_byte, goes_on, ends, next_byte}
use Rattle.end_calls.proofs.Back.{frames_readable, pdus_readable, no_frame, no_pdu, heard_back, drawn_back, listed, brings, brings_pick}

-- what the other end wrote fits its layouts
pub record Spelled (role : Role) (t : Trace Act) : Type 0 where
  pub frames : Each (FitsHeard role) (spoken role t)
  pub pdus : (kind : Kind) → Each (FitsDrawn role) (carried kind role t)

-- an end with this past, that took these bytes of the main stream, pulled these of the reliable link, and
-- was handed these parts of the lossy one
pub record At (role : Role) (there : Trace Act) (p : Past) (taken pulled : List ℕ) (handed : List (List ℕ)) : Type 0 where
  pub place : Place role p.acts there
  pub given : EachGiven p.acts
  pub fine : p.broken ≡ None
  pub main_is : taken ≡ flat_map framed (hears p.acts) ++ p.main.bytes
  pub main_part : IsPartial frame_reading p.main.bytes
  pub tunnel_is : pulled ≡ flat_map tunneled (draws Reliable p.acts) ++ p.tunnel.bytes
  pub tunnel_part : IsPartial reading p.tunnel.bytes
  pub lossy_is : draws Lossy p.acts ≡ flat_map (brings role) handed

-- and that was made
pub record On (role : Role) (there : Trace Act) (p : Past) (taken pulled : List ℕ) (handed : List (List ℕ)) : Type 0 where
  pub at_end : At role there p taken pulled handed
  pub begun : is_begun p.acts ≡ true

-- ---- one act

-- the streams behind an act
pub record Streams (role : Role) (t : Trace Act) (main tunnel : Under) (taken pulled : List ℕ) (handed : List (List ℕ)) : Type 0 where
  pub main_is : taken ≡ flat_map framed (hears t) ++ main.bytes
  pub main_part : IsPartial frame_reading main.bytes
  pub tunnel_is : pulled ≡ flat_map tunneled (draws Reliable t) ++ tunnel.bytes
  pub tunnel_part : IsPartial reading tunnel.bytes
  pub lossy_is : draws Lossy t ≡ flat_map (brings role) handed

pub grown_on : (role : Role) (there : Trace Act) (p : Past) (act : Act) (main tunnel : Under) (taken pulled : List ℕ) (handed : List (List ℕ)) → Place role p.acts there → EachGiven p.acts
    → begins act ≡ not (is_begun p.acts) → IsStep role p.acts act → HasCome role p.acts there act → IsGiven act → Streams role (p.acts ▷ act) main tunnel taken pulled handed
    → On role there (grows role act (record p { main = main; tunnel = tunnel })) taken pulled handed
grown_on role there p act main tunnel taken pulled handed place given b step come g s =
    let st : Stepped role p.acts there act = stepped role p.acts there act b step come place in record {
      at_end = record {
        place = st.place;
        given = grown_lasts EachGiven given_lasts role p.acts act (g, given);
        fine = ap (option_map (λ (f : ℕ × Why). fault_at (in_tunnel f.0) f.1)) st.fine;
        main_is = s.main_is ∙ ap (λ l. flat_map framed l ++ main.bytes) (sym st.keeps.hears_are);
        main_part = s.main_part;
        tunnel_is = s.tunnel_is ∙ ap (λ l. flat_map tunneled l ++ tunnel.bytes) (sym (st.keeps.draws_are Reliable));
        tunnel_part = s.tunnel_part;
        lossy_is = st.keeps.draws_are Lossy ∙ s.lossy_is;
      };
      begun = st.begun;
    }

begun_not : (act : Act) (b : Bool) → begins act ≡ false → b ≡ true → begins act ≡ not b
begun_not act true h e = h
begun_not act false h e = absurd (let no : false ≡ true = e in cc)

-- ---- the main stream

main_opened : (role : Role) (p : Past) (byte : ℕ) → p.broken ≡ None → with_main role p byte ≡ main_reads role (p.main.bytes ++ byte ∷ []) (frame_reading (p.main.bytes ++ byte ∷ [])) p
unfolding with_main
main_opened role p byte e = ap (λ b. cond (is_some b) p (main_reads role (p.main.bytes ++ byte ∷ []) (frame_reading (p.main.bytes ++ byte ∷ [])) p)) e

-- one value more in a stream
one_value : {V : Type 0} (text : V → List ℕ) (hs : List V) (v : V) (part : List ℕ) (byte : ℕ) (all : List ℕ) → all ≡ flat_map text hs ++ part → part ++ byte ∷ [] ≡ text v → all ++ byte ∷ [] ≡ flat_map text (hs ++ v ∷ []) ++ []
one_value text hs v part byte all a b =
    ap (λ l. l ++ byte ∷ []) a ∙ append_assoc (flat_map text hs) part (byte ∷ []) ∙ ap (λ l. flat_map text hs ++ l) (b ∙ sym (append-nil (text v)))
    ∙ sym (flat_map-append text hs (v ∷ [])) ∙ sym (append-nil (flat_map text (hs ++ v ∷ [])))

-- a value that did not come
pub none_more : {V : Type 0} (text : V → List ℕ) (hs : List V) (part all : List ℕ) → all ≡ flat_map text hs ++ part → all ≡ flat_map text (hs ++ []) ++ part
none_more text hs part all h = h ∙ ap (λ l. flat_map text l ++ part) (sym (append-nil hs))

pub main_byte : (role : Role) (there : Trace Act) (p : Past) (taken pulled : List ℕ) (handed : List (List ℕ)) (byte : ℕ) → Spelled (other role) there → On role there p taken pulled handed
    → IsPrefixOf (taken ++ byte ∷ []) (flat_map framed (spoken (other role) there)) → On role there (with_main role p byte) (taken ++ byte ∷ []) pulled handed
main_byte role there p taken pulled handed byte f o front =
    by_next (next_byte frame_reading framed frame_of (FitsHeard (other role)) (frames_readable (other role)) (hears p.acts) (spoken (other role) there) p.main.bytes byte f.frames a.place.came.main a.main_part
    (subst (λ l. IsPrefixOf (l ++ byte ∷ []) (flat_map framed (spoken (other role) there))) a.main_is front)) where
      a : At role there p taken pulled handed
      a = o.at_end

      part : List ℕ
      part = p.main.bytes ++ byte ∷ []

      Goal : Past → Type 0
      Goal q = On role there q (taken ++ byte ∷ []) pulled handed

      by_next : Next_byte frame_reading framed frame_of (FitsHeard (other role)) (hears p.acts) (spoken (other role) there) (p.main.bytes ++ byte ∷ []) → Goal (with_main role p byte)
      by_next (goes_on more) = subst Goal (sym (main_opened role p byte a.fine ∙ ap (λ r. main_reads role (p.main.bytes ++ byte ∷ []) r p) more.1)) (record {
        at_end = record {
          place = a.place;
          given = a.given;
          fine = a.fine;
          main_is = ap (λ l. l ++ byte ∷ []) a.main_is ∙ append_assoc (flat_map framed (hears p.acts)) p.main.bytes (byte ∷ []);
          main_part = more;
          tunnel_is = a.tunnel_is;
          tunnel_part = a.tunnel_part;
          lossy_is = a.lossy_is;
        };
        begun = o.begun;
      })
      by_next (ends heard is w fits more) =
          let main : Under = record { at = p.main.at + length (p.main.bytes ++ byte ∷ []); bytes = [] } in
          let q : Past = record p { main = main } in
          let none : main_fault role p.acts heard ≡ None = frame_fine role p.acts there heard (meet_at role p.acts there a.place) more in
          let e : with_main role p byte ≡ grows role (Hears heard) q =
          main_opened role p byte a.fine ∙ ap (λ r. main_reads role (p.main.bytes ++ byte ∷ []) r p) w ∙ ap (λ h. reads_heard role p.main.at h q) (heard_back role heard fits)
          ∙ ap (λ w. reads role (on_main p.main.at) w (Hears heard) q) none in
          subst Goal (sym e)
          (grown_on role there p (Hears heard) main p.tunnel (taken ++ byte ∷ []) pulled handed a.place a.given (begun_not (Hears heard) (is_begun p.acts) refl o.begun) tt (
            more,
            front-at (draws Reliable p.acts) (draws Reliable p.acts ++ []) (carried Reliable (other role) there) (carried Reliable (other role) there) (sym (append-nil (draws Reliable p.acts))) refl a.place.came.reliable,
            pick-at (draws Lossy p.acts) (draws Lossy p.acts ++ []) (carried Lossy (other role) there) (carried Lossy (other role) there) (sym (append-nil (draws Lossy p.acts))) refl a.place.came.lossy,
          )
          tt
          (record {
            main_is = one_value framed (hears p.acts) heard p.main.bytes byte taken a.main_is is;
            main_part = no_frame;
            tunnel_is = none_more tunneled (draws Reliable p.acts) p.tunnel.bytes pulled a.tunnel_is;
            tunnel_part = a.tunnel_part;
            lossy_is = append-nil (draws Lossy p.acts) ∙ a.lossy_is;
          }))

-- ---- a PDU that is pulled

-- the act of a PDU
pub record Drawing (role : Role) (kind : Kind) (t : Trace Act) (drawn : Drawn) (act : Act) : Type 0 where
  pub later : begins act ≡ false
  pub step : IsStep role t act
  pub given : IsGiven act
  pub unheard : heard_in act ≡ []
  pub drawn_is : (of : Kind) → drawn_in of act ≡ cond (same_kind of kind) (drawn ∷ []) []

draws_one : (role : Role) (kind : Kind) (t : Trace Act) (at : ℕ) (drawn : Drawn) → IsStep role t (Draws kind at drawn) → Drawing role kind t drawn (Draws kind at drawn)
draws_one role kind t at drawn s = record { later = refl; step = s; given = tt; unheard = refl; drawn_is = λ of. refl }

pub drawing_is : (role : Role) (kind : Kind) (at : ℕ) (t : Trace Act) (is_full : Bool) (drawn : Drawn) → Drawing role kind t drawn (drawing role kind at t is_full drawn)
drawing_is Server kind at t is_full (CreateAsked id cookie) = record { later = refl; step = (refl, verdict_is kind cookie (entry_of id (issued t))); given = tt; unheard = refl; drawn_is = λ of. refl }
drawing_is Client kind at t is_full (CreateAsked id cookie) = draws_one Client kind t at (CreateAsked id cookie) tt
drawing_is Server kind at t is_full (CreateAnswered hr) = draws_one Server kind t at (CreateAnswered hr) tt
drawing_is Client kind at t is_full (CreateAnswered hr) = draws_one Client kind t at (CreateAnswered hr) tt
drawing_is Server kind at t is_full Nothing = draws_one Server kind t at Nothing tt
drawing_is Client kind at t is_full Nothing = draws_one Client kind t at Nothing tt
drawing_is Server kind at t is_full (Carried bytes pdu) = draws_one Server kind t at (Carried bytes pdu) tt
drawing_is Client kind at t is_full (Carried bytes pdu) = draws_one Client kind t at (Carried bytes pdu) tt

tunnel_opened : (role : Role) (p : Past) (byte : ℕ) → p.broken ≡ None → with_tunnel role p byte ≡ tunnel_reads role (p.tunnel.bytes ++ byte ∷ []) (reading (p.tunnel.bytes ++ byte ∷ [])) p
unfolding with_tunnel
tunnel_opened role p byte e = ap (λ b. cond (is_some b) p (tunnel_reads role (p.tunnel.bytes ++ byte ∷ []) (reading (p.tunnel.bytes ++ byte ∷ [])) p)) e

pub tunnel_byte : (role : Role) (there : Trace Act) (p : Past) (taken pulled : List ℕ) (handed : List (List ℕ)) (byte : ℕ) → Spelled (other role) there → On role there p taken pulled handed
    → IsPrefixOf (pulled ++ byte ∷ []) (flat_map tunneled (carried Reliable (other role) there)) → On role there (with_tunnel role p byte) taken (pulled ++ byte ∷ []) handed
tunnel_byte role there p taken pulled handed byte f o front =
    by_next (next_byte reading tunneled tunnel_pdu_of (FitsDrawn (other role)) (pdus_readable (other role)) (draws Reliable p.acts) (carried Reliable (other role) there) p.tunnel.bytes byte (f.pdus Reliable) a.place.came.reliable a.tunnel_part
    (subst (λ l. IsPrefixOf (l ++ byte ∷ []) (flat_map tunneled (carried Reliable (other role) there))) a.tunnel_is front)) where
      a : At role there p taken pulled handed
      a = o.at_end

      Goal : Past → Type 0
      Goal q = On role there q taken (pulled ++ byte ∷ []) handed

      by_next : Next_byte reading tunneled tunnel_pdu_of (FitsDrawn (other role)) (draws Reliable p.acts) (carried Reliable (other role) there) (p.tunnel.bytes ++ byte ∷ []) → Goal (with_tunnel role p byte)
      by_next (goes_on more) = subst Goal (sym (tunnel_opened role p byte a.fine ∙ ap (λ r. tunnel_reads role (p.tunnel.bytes ++ byte ∷ []) r p) more.1)) (record {
        at_end = record {
          place = a.place;
          given = a.given;
          fine = a.fine;
          main_is = a.main_is;
          main_part = a.main_part;
          tunnel_is = ap (λ l. l ++ byte ∷ []) a.tunnel_is ∙ append_assoc (flat_map tunneled (draws Reliable p.acts)) p.tunnel.bytes (byte ∷ []);
          tunnel_part = more;
          lossy_is = a.lossy_is;
        };
        begun = o.begun;
      })
      by_next (ends drawn is w fits more) =
          let tunnel : Under = record { at = p.tunnel.at + length (p.tunnel.bytes ++ byte ∷ []); bytes = [] } in
          let q : Past = record p { tunnel = tunnel } in
          let act : Act = drawing role Reliable p.tunnel.at p.acts false drawn in
          let d : Drawing role Reliable p.acts drawn act = drawing_is role Reliable p.tunnel.at p.acts false drawn in
          let none : tunnel_fault role p.acts drawn ≡ None = tunnel_fine role p.acts there drawn (meet_at role p.acts there a.place) a.place.left.reliable more in
          let e : with_tunnel role p byte ≡ grows role act q =
          tunnel_opened role p byte a.fine ∙ ap (λ r. tunnel_reads role (p.tunnel.bytes ++ byte ∷ []) r p) w ∙ ap (λ h. reads_drawn role p.tunnel.at h q) (drawn_back role drawn fits)
          ∙ ap (λ w. reads role (in_tunnel p.tunnel.at) w act q) none in
          subst Goal (sym e)
          (grown_on role there p act p.main tunnel taken (pulled ++ byte ∷ []) handed a.place a.given (begun_not act (is_begun p.acts) d.later o.begun) d.step (
            front-at (hears p.acts) (hears p.acts ++ heard_in act) (spoken (other role) there) (spoken (other role) there) (sym (ap (λ l. hears p.acts ++ l) d.unheard ∙ append-nil (hears p.acts))) refl a.place.came.main,
            front-at (draws Reliable p.acts ++ drawn ∷ []) (draws Reliable p.acts ++ drawn_in Reliable act) (carried Reliable (other role) there) (carried Reliable (other role) there) (ap (λ l. draws Reliable p.acts ++ l) (sym (d.drawn_is Reliable))) refl more,
            pick-at (draws Lossy p.acts) (draws Lossy p.acts ++ drawn_in Lossy act) (carried Lossy (other role) there) (carried Lossy (other role) there) (sym (ap (λ l. draws Lossy p.acts ++ l) (d.drawn_is Lossy) ∙ append-nil (draws Lossy p.acts))) refl a.place.came.lossy,
          )
          d.given
          (record {
            main_is = none_more framed (hears p.acts) p.main.bytes taken a.main_is ∙ ap (λ l. flat_map framed (hears p.acts ++ l) ++ p.main.bytes) (sym d.unheard);
            main_part = a.main_part;
            tunnel_is = one_value tunneled (draws Reliable p.acts) drawn p.tunnel.bytes byte pulled a.tunnel_is is ∙ ap (λ l. flat_map tunneled (draws Reliable p.acts ++ l) ++ []) (sym (d.drawn_is Reliable));
            tunnel_part = no_pdu;
            lossy_is = ap (λ l. draws Lossy p.acts ++ l) (d.drawn_is Lossy) ∙ append-nil (draws Lossy p.acts) ∙ a.lossy_is;
          }))

-- ---- a part of the lossy link

-- the act of a part
pub record Handing (role : Role) (t : Trace Act) (act : Act) (drawn : List Drawn) : Type 0 where
  pub later : begins act ≡ false
  pub step : IsStep role t act
  pub given : IsGiven act
  pub unheard : heard_in act ≡ []
  pub none_pulled : drawn_in Reliable act ≡ []
  pub drawn_are : drawn_in Lossy act ≡ drawn

handing_is : (role : Role) (t : Trace Act) (is_full : Bool) (o : Option Drawn) → Handing role t (missed_or role t is_full o) (listed o)
handing_is role t is_full None = record { later = refl; step = tt; given = tt; unheard = refl; none_pulled = refl; drawn_are = refl }
handing_is role t is_full (Some drawn) =
    let d = drawing_is role Lossy 0 t is_full drawn in record { later = d.later; step = d.step; given = d.given; unheard = d.unheard; none_pulled = d.drawn_is Reliable; drawn_are = d.drawn_is Lossy }

part_opened : (role : Role) (p : Past) (bytes : List ℕ) (is_full : Bool) → p.broken ≡ None → with_part role p bytes is_full ≡ grows role (missed_or role p.acts is_full (if_whole role (length bytes) (reading bytes))) p
unfolding with_part
part_opened role p bytes is_full e = ap (λ b. cond (is_some b) p (grows role (missed_or role p.acts is_full (if_whole role (length bytes) (reading bytes))) p)) e

pub one_part : (role : Role) (there : Trace Act) (p : Past) (taken pulled : List ℕ) (handed : List (List ℕ)) (bytes : List ℕ) (is_full : Bool) → Spelled (other role) there → On role there p taken pulled handed
    → IsPickOf (handed ++ bytes ∷ []) (map tunneled (carried Lossy (other role) there)) → On role there (with_part role p bytes is_full) taken pulled (handed ++ bytes ∷ [])
one_part role there p taken pulled handed bytes is_full f o pick =
    let a : At role there p taken pulled handed = o.at_end in
    let act : Act = missed_or role p.acts is_full (if_whole role (length bytes) (reading bytes)) in
    let d : Handing role p.acts act (brings role bytes) = handing_is role p.acts is_full (if_whole role (length bytes) (reading bytes)) in
    let all : draws Lossy p.acts ++ drawn_in Lossy act ≡ flat_map (brings role) (handed ++ bytes ∷ []) =
    ap (λ l. l ++ drawn_in Lossy act) a.lossy_is ∙ ap (λ l. flat_map (brings role) handed ++ l) (d.drawn_are ∙ sym (append-nil (brings role bytes))) ∙ sym (flat_map-append (brings role) handed (bytes ∷ [])) in
    subst (λ q. On role there q taken pulled (handed ++ bytes ∷ [])) (sym (part_opened role p bytes is_full a.fine))
    (grown_on role there p act p.main p.tunnel taken pulled (handed ++ bytes ∷ []) a.place a.given (begun_not act (is_begun p.acts) d.later o.begun) d.step (
      front-at (hears p.acts) (hears p.acts ++ heard_in act) (spoken (other role) there) (spoken (other role) there) (sym (ap (λ l. hears p.acts ++ l) d.unheard ∙ append-nil (hears p.acts))) refl a.place.came.main,
      front-at (draws Reliable p.acts) (draws Reliable p.acts ++ drawn_in Reliable act) (carried Reliable (other role) there) (carried Reliable (other role) there) (sym (ap (λ l. draws Reliable p.acts ++ l) d.none_pulled ∙ append-nil (draws Reliable p.acts))) refl a.place.came.reliable,
      pick-at (flat_map (brings role) (handed ++ bytes ∷ [])) (draws Lossy p.acts ++ drawn_in Lossy act) (carried Lossy (other role) there) (carried Lossy (other role) there) (sym all) refl
          (brings_pick role (handed ++ bytes ∷ []) (map tunneled (carried Lossy (other role) there)) pick (carried Lossy (other role) there) (f.pdus Lossy) refl),
    )
    d.given
    (record {
      main_is = none_more framed (hears p.acts) p.main.bytes taken a.main_is ∙ ap (λ l. flat_map framed (hears p.acts ++ l) ++ p.main.bytes) (sym d.unheard);
      main_part = a.main_part;
      tunnel_is = none_more tunneled (draws Reliable p.acts) p.tunnel.bytes pulled a.tunnel_is ∙ ap (λ l. flat_map tunneled (draws Reliable p.acts ++ l) ++ p.tunnel.bytes) (sym d.none_pulled);
      tunnel_part = a.tunnel_part;
      lossy_is = all;
    }))
