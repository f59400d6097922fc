-- What is delivered of a channel in one direction, at one place of two ends.
use Rattle.std.proofs.Common.{◌≡◌, ◌⊎◌, inl, inr, ℕ, Bool, true, false, cond, List, [], ◌∷◌, ◌++◌, flat_map, None, refl, sym, ap, subst, ◌∙◌, append-nil}
use Rattle.std.proofs.lemmas.Grind.{flat_map-append}
use Rattle.mt_base.specs.declared.kinds.Role.{Role}
use Rattle.mt_base.specs.declared.kinds.Kind.{Kind}
use Rattle.mt_base.specs.declared.kinds.Kind.TheVariants.{Reliable, Lossy}
use Rattle.mt_base.specs.Ends.{other}
use Rattle.mt_base.specs.Trace.{Trace}
use Rattle.dvc_pdus.specs.Value.{Pdu}
use Rattle.dvc_channels.specs.Pieces.{Piece, pieces_of, messages, messages_from, under_way}
use Rattle.dvc_channels.specs.Fragments.{fragments_of}
use Rattle.dvc_channels.specs.Acts as channels
use Rattle.dvc_channels.proofs.Further.{messages_behind}
use Rattle.dvc_channels.proofs.Making.{cuts_make}
use Rattle.dvc_channels.proofs.Sending.{sent_are_cut}
use Rattle.soft_sync.specs.declared.kinds.Path.{Path}
use Rattle.soft_sync.specs.declared.kinds.Path.TheVariants.{Main, Tunnel}
use Rattle.mt_endpoint.specs.Acts.{Act, Drawn, CreateAsked, CreateAnswered, Nothing, Carried}
use Rattle.mt_endpoint.specs.Channels.{table, delivered, sent}
use Rattle.mt_base.specs.Ends.{same_kind}
use Rattle.mt_endpoint.specs.Moving.{all_told, made_by, outward}
use Rattle.mt_endpoint.specs.Holding.{is_through}
use Rattle.mt_endpoint.specs.Writing.{spoken, carried}
use Rattle.mt_base.specs.Prefix.{IsPrefixOf, IsPickOf, none, taken, passed}
use Rattle.mt_endpoint.specs.World.{hears, draws, sent_on}
use Rattle.mt_base.proofs.Prefixes.{front-append, front-trans, front-at, front-behind, nothing_first}
use Rattle.mt_endpoint.proofs.ChannelPdus.{spoken_pdus, spoken_pdus-append, carried_pdus, carried_pdus-append, keep, keep-append, of, is_mine, data_of, pieces, pieces-append, pieces-of, out}
use Rattle.mt_endpoint.proofs.Fitting.{Fitting}
use Rattle.mt_endpoint.proofs.Items.{is_at}
use Rattle.mt_endpoint.proofs.Paths.{Begin, none_other}
use Rattle.mt_endpoint.proofs.MainClean.{main_clean, no_moved_data}
use Rattle.mt_endpoint.proofs.Sent.{cut, Near, data_sent, sent_both}
use Rattle.mt_endpoint.proofs.Reading.{heard, drawn}
use Rattle.mt_endpoint.proofs.Arriving.{IsWord, Came}
use Rattle.mt_endpoint.proofs.Coming.{Only, all_came}

-- what this end read left the other; the server made the requests that the client read
pub record Joined (role : Role) (here there : Trace Act) : Type 0 where
  pub here_fits : Fitting role here
  pub there_fits : Fitting (other role) there
  pub main : IsPrefixOf (hears here) (spoken (other role) there)
  pub reliable : IsPrefixOf (draws Reliable here) (carried Reliable (other role) there)
  pub lossy : IsPickOf (draws Lossy here) (carried Lossy (other role) there)
  pub begin : Begin (other role) there (all_told made_by here)

-- ---- fronts and picks of PDUs

pub front-keep : (test : Pdu → Bool) (xs ys : List Pdu) → IsPrefixOf xs ys → IsPrefixOf (keep test xs) (keep test ys)
front-keep test xs ys h = (keep test h.0, ap (keep test) h.1 ∙ keep-append test xs h.0)

pub pick-keep : (test : Pdu → Bool) (xs ys : List Pdu) → IsPickOf xs ys → IsPickOf (keep test xs) (keep test ys)
pick-keep test _ _ none = none
pick-keep test _ _ (taken x xs ys h) = by_test (test x) (pick-keep test xs ys h) where
  by_test : (b : Bool) → IsPickOf (keep test xs) (keep test ys) → IsPickOf (cond b (x ∷ keep test xs) (keep test xs)) (cond b (x ∷ keep test ys) (keep test ys))
  by_test true k = taken x (keep test xs) (keep test ys) k
  by_test false k = k
pick-keep test _ _ (passed x xs ys h) = by_test (test x) (pick-keep test xs ys h) where
  by_test : (b : Bool) → IsPickOf (keep test xs) (keep test ys) → IsPickOf (keep test xs) (cond b (x ∷ keep test ys) (keep test ys))
  by_test true k = passed x (keep test xs) (keep test ys) k
  by_test false k = k

pick-carried : (xs ys : List Drawn) → IsPickOf xs ys → IsPickOf (carried_pdus xs) (carried_pdus ys)
pick-carried _ _ none = none
pick-carried _ _ (taken (CreateAsked id cookie) xs ys h) = pick-carried xs ys h
pick-carried _ _ (taken (CreateAnswered hr) xs ys h) = pick-carried xs ys h
pick-carried _ _ (taken Nothing xs ys h) = pick-carried xs ys h
pick-carried _ _ (taken (Carried bytes pdu) xs ys h) = taken pdu (carried_pdus xs) (carried_pdus ys) (pick-carried xs ys h)
pick-carried _ _ (passed (CreateAsked id cookie) xs ys h) = pick-carried xs ys h
pick-carried _ _ (passed (CreateAnswered hr) xs ys h) = pick-carried xs ys h
pick-carried _ _ (passed Nothing xs ys h) = pick-carried xs ys h
pick-carried _ _ (passed (Carried bytes pdu) xs ys h) = passed pdu (carried_pdus xs) (carried_pdus ys) (pick-carried xs ys h)

pub heard_front : (role : Role) (here there : Trace Act) → Joined role here there → IsPrefixOf (heard here) (out Main (other role) there)
heard_front role here there j = (spoken_pdus j.main.0, ap spoken_pdus j.main.1 ∙ spoken_pdus-append (hears here) j.main.0)

-- what of the PDUs of a tunnel came through it
pub drawn_front : (role : Role) (here there : Trace Act) → Joined role here there → IsPrefixOf (drawn Reliable here) (out (Tunnel Reliable) (other role) there)
drawn_front role here there j = (carried_pdus j.reliable.0, ap carried_pdus j.reliable.1 ∙ carried_pdus-append (draws Reliable here) j.reliable.0)

pub drawn_pick : (role : Role) (here there : Trace Act) → Joined role here there → IsPickOf (drawn Lossy here) (out (Tunnel Lossy) (other role) there)
drawn_pick role here there j = pick-carried (draws Lossy here) (carried Lossy (other role) there) j.lossy

pick_none : {A : Type 0} (xs : List A) → IsPickOf xs [] → xs ≡ []
pick_none _ none = refl

not_drawn : (role : Role) (here there : Trace Act) (id : ℕ) (made : Kind) → Joined role here there → of id (out (Tunnel made) (other role) there) ≡ [] → of id (drawn made here) ≡ []
not_drawn role here there id Reliable j h =
    let front = front-keep (is_mine id) (drawn Reliable here) (out (Tunnel Reliable) (other role) there) (drawn_front role here there j) in
    nothing_first (of id (drawn Reliable here)) front.0 (sym front.1 ∙ h)
not_drawn role here there id Lossy j h =
    let P : List Pdu → Type 0 = λ l. IsPickOf (of id (drawn Lossy here)) l in
    pick_none (of id (drawn Lossy here)) (subst P h (pick-keep (is_mine id) (drawn Lossy here) (out (Tunnel Lossy) (other role) there) (drawn_pick role here there j)))

-- a channel that is near one tunnel has nothing in the other
near_other : (kind made : Kind) (path : Path) → Near kind path → same_kind kind made ≡ false → is_through made path ≡ false
near_other kind made path (inl e) h = ap (is_through made) e
near_other Reliable Lossy path (inr e) h = ap (is_through Lossy) e
near_other Lossy Reliable path (inr e) h = ap (is_through Reliable) e
near_other Reliable Reliable path (inr e) h = cc
near_other Lossy Lossy path (inr e) h = cc

pub near_only : (role : Role) (here there : Trace Act) (id : ℕ) (kind : Kind) → Joined role here there → Near kind (outward id there) → Only kind id here
near_only role here there id kind j near made e =
    not_drawn role here there id made j (none_other (other role) there id made j.there_fits (near_other kind made (outward id there) near e))

-- ---- all of the main stream, behind the word

pub all_main : (role : Role) (here there : Trace Act) (id : ℕ) (hs : List Pdu) → Joined role here there → IsPrefixOf hs (out Main (other role) there) → IsWord role id here hs → pieces id (out Main (other role) there) ≡ pieces id hs
all_main role here there id hs j part w =
    let rest : data_of id part.0 ≡ [] = no_moved_data w.0 id part.0 (main_clean (other role) there (all_told made_by here) id j.there_fits j.begin hs part.0 w.0 part.1 w.1) in
    ap (pieces id) part.1 ∙ pieces-append id hs part.0 ∙ ap (λ l. pieces id hs ++ flat_map pieces_of l) rest ∙ append-nil (pieces id hs)

-- the pieces of a path are those of the messages that were sent on it
pub pieces_sent : (role : Role) (there : Trace Act) (id : ℕ) (path : Path) → Fitting (other role) there → pieces id (out path (other role) there) ≡ flat_map pieces_of (cut id (sent_on (is_at path) id there))
pieces_sent role there id path f = ap (flat_map pieces_of) (data_sent path (other role) id there f)

pub messages_cut : (id : ℕ) (sent : List (List ℕ)) → messages (flat_map pieces_of (cut id sent)) ≡ sent
messages_cut id sent = (cuts_make _ sent (sent_are_cut id sent)).messages_are

pub front-messages : (xs ys : List Piece) → IsPrefixOf xs ys → IsPrefixOf (messages xs) (messages ys)
front-messages xs ys h = (messages_from (under_way xs) h.0, ap messages h.1 ∙ messages_behind None xs h.0)

pub front-pieces : (id : ℕ) (xs ys : List Pdu) → IsPrefixOf xs ys → IsPrefixOf (pieces id xs) (pieces id ys)
front-pieces id xs ys h = (pieces id h.0, ap (pieces id) h.1 ∙ pieces-append id xs h.0)

-- ---- a reliable tunnel, or none

-- what arrived is the front of what the messages were cut into
arrived_front : (role : Role) (here there : Trace Act) (id : ℕ) → Joined role here there → Near Reliable (outward id there) → IsPrefixOf (channels.arrived (table role here) id) (flat_map pieces_of (cut id (sent id there)))
arrived_front role here there id j near = by_word c.word_is where
  c : Came role id Reliable here
  c = all_came role id Reliable here j.here_fits (near_only role here there id Reliable j near)

  m : List Piece
  m = pieces id (out Main (other role) there)

  t : List Piece
  t = pieces id (out (Tunnel Reliable) (other role) there)

  whole : m ++ t ≡ flat_map pieces_of (cut id (sent id there))
  whole =
      ap (λ l. l ++ t) (pieces_sent role there id Main j.there_fits) ∙ ap (λ l. flat_map pieces_of (cut id (sent_on (is_at Main) id there)) ++ l) (pieces_sent role there id (Tunnel Reliable) j.there_fits)
      ∙ sym (flat_map-append pieces_of (cut id (sent_on (is_at Main) id there)) (cut id (sent_on (is_through Reliable) id there)))
      ∙ ap (flat_map pieces_of) (sym (flat_map-append (fragments_of id) (sent_on (is_at Main) id there) (sent_on (is_through Reliable) id there)))
      ∙ ap (λ l. flat_map pieces_of (cut id l)) (sym (sent_both (other role) id there Reliable j.there_fits near))

  hm : IsPrefixOf c.hs (out Main (other role) there)
  hm = front-trans c.hs (heard here) (out Main (other role) there) c.heard_are (heard_front role here there j)

  dm : IsPrefixOf (pieces id c.ds) t
  dm =
      let ds : IsPrefixOf c.ds (of id (drawn Reliable here)) = (c.rest, sym c.drawn_are) in
      let all = front-trans c.ds (of id (drawn Reliable here)) (of id (out (Tunnel Reliable) (other role) there)) ds (front-keep (is_mine id) (drawn Reliable here) (out (Tunnel Reliable) (other role) there) (drawn_front role here there j)) in
      front-at (pieces id c.ds) (pieces id c.ds) (pieces id (of id (out (Tunnel Reliable) (other role) there))) t refl (pieces-of id (out (Tunnel Reliable) (other role) there)) (front-pieces id c.ds (of id (out (Tunnel Reliable) (other role) there)) all)

  by_word : (c.ds ≡ []) ⊎ IsWord role id here c.hs → IsPrefixOf (channels.arrived (table role here) id) (flat_map pieces_of (cut id (sent id there)))
  by_word (inl nothing) =
      front-at (pieces id c.hs) (channels.arrived (table role here) id) (m ++ t) (flat_map pieces_of (cut id (sent id there))) (sym (c.arrived_are ∙ ap (λ l. pieces id c.hs ++ pieces id l) nothing ∙ append-nil (pieces id c.hs))) whole
      (front-trans (pieces id c.hs) m (m ++ t) (front-pieces id c.hs (out Main (other role) there) hm) (front-append m t))
  by_word (inr w) =
      front-at (pieces id c.hs ++ pieces id c.ds) (channels.arrived (table role here) id) (pieces id c.hs ++ t) (flat_map pieces_of (cut id (sent id there))) (sym c.arrived_are) (ap (λ l. l ++ t) (sym (all_main role here there id c.hs j hm w)) ∙ whole)
      (front-behind (pieces id c.hs) (pieces id c.ds) t dm)

pub reliable_way : (role : Role) (here there : Trace Act) (id : ℕ) → Joined role here there → Near Reliable (outward id there) → IsPrefixOf (delivered role id here) (sent id there)
reliable_way role here there id j near =
    front-at (delivered role id here) (delivered role id here) (messages (flat_map pieces_of (cut id (sent id there)))) (sent id there) refl (messages_cut id (sent id there))
    (front-messages (channels.arrived (table role here) id) (flat_map pieces_of (cut id (sent id there))) (arrived_front role here there id j near))
