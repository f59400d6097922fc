-- What is held of a channel that moved to the reliable tunnel is taken as it is released.
use Rattle.std.proofs.Common.{◌≡◌, inr, ℕ, Bool, true, false, cond, List, [], ◌∷◌, ◌++◌, flat_map, Option, Some, None, refl, sym, ap, subst, ◌∙◌, append_assoc, eq-eqb}
use Rattle.std.proofs.lemmas.Bool.{eqb-true}
use Rattle.std.proofs.lemmas.Grind.{flat_map-append}
use Rattle.mt_base.specs.declared.kinds.Kind.{Kind}
use Rattle.mt_base.specs.declared.kinds.Kind.TheVariants.{Reliable, Lossy}
use Rattle.mt_base.specs.declared.kinds.Role.{Role}
use Rattle.mt_base.specs.Ends.{other}
use Rattle.mt_base.specs.Trace.{Trace}
use Rattle.dvc_channels.specs.Pieces.{Piece, pieces_of, under_way}
use Rattle.dvc_channels.specs.Fragments.{fragments_of}
use Rattle.dvc_channels.specs.Acts.{data_refusal}
use Rattle.dvc_channels.specs.Acts as channels
use Rattle.soft_sync.specs.declared.kinds.Path.TheVariants.{Main, Tunnel}
use Rattle.soft_sync.specs.Words.{path_of}
use Rattle.mt_endpoint.specs.Acts.{Act}
use Rattle.mt_endpoint.specs.Said.{Said, Capable, Creates, Created, Brings, Ends, Moves, Moved, said}
use Rattle.mt_endpoint.specs.Channels.{table, sent, is_closed}
use Rattle.mt_endpoint.specs.Moving.{all_told, made_by, inward, outward}
use Rattle.mt_endpoint.specs.Holding.{Held, held, only, is_of, channel_in, is_through}
use Rattle.mt_endpoint.specs.Faults.{data_fault, release_fault, release_fault_of}
use Rattle.mt_base.specs.Prefix.{IsPrefixOf}
use Rattle.mt_endpoint.specs.World.{sent_on}
use Rattle.mt_endpoint.specs.Meeting.{HasLeft, Meet}
use Rattle.mt_endpoint.proofs.ChannelPdus.{of, is_mine, brings_to, pieces, pieces-append, pieces-of, out}
use Rattle.mt_endpoint.proofs.HeldPdus.{pdus}
use Rattle.mt_endpoint.proofs.Items.{is_at}
use Rattle.mt_endpoint.proofs.Words.{word, word-more}
use Rattle.mt_endpoint.proofs.Paths.{outward_is, word_said}
use Rattle.mt_endpoint.proofs.Sent.{cut, Near, sent_both}
use Rattle.mt_endpoint.proofs.Reading.{heard, drawn, inward_heard}
use Rattle.mt_endpoint.proofs.Arriving.{Came}
use Rattle.mt_endpoint.proofs.Coming.{all_came}
use Rattle.mt_endpoint.proofs.Safety.{Joined, front-keep, heard_front, drawn_front, near_only, all_main, pieces_sent}
use Rattle.mt_endpoint.proofs.Late.{fitting, begin_of}
use Rattle.mt_endpoint.proofs.NextPiece.{AreLimited, limited-append, all_limited, limited_taken}
use Rattle.mt_endpoint.proofs.MainData.{data_pieces, taken_case}
use Rattle.mt_endpoint.proofs.HeldTaken.{first_known}

-- the first that is held of a channel is of it
first_mine : (id : ℕ) (xs : List Held) (first : Held) (rest : List Held) → only id xs ≡ first ∷ rest → is_mine id first.pdu ≡ true
first_mine id [] first rest h = absurd (let no : [] ≡ first ∷ rest = h in cc)
first_mine id (x ∷ xs) first rest h = by_test (is_mine id x.pdu) refl h (λ k. first_mine id xs first rest k) where
  by_test : (b : Bool) → is_mine id x.pdu ≡ b → cond b (x ∷ only id xs) (only id xs) ≡ first ∷ rest → (only id xs ≡ first ∷ rest → is_mine id first.pdu ≡ true) → is_mine id first.pdu ≡ true
  by_test true e k later = let same : x ≡ first = cc in ap (λ y. is_mine id y.pdu) (sym same) ∙ e
  by_test false e k later = later k

joined : (role : Role) (here there : Trace Act) → Meet role here there → HasLeft (other role) there here → Joined role here there
joined role here there m l = record {
  here_fits = fitting role here m.here_acts;
  there_fits = fitting (other role) there m.there_acts;
  main = l.main;
  reliable = l.reliable;
  lossy = l.lossy;
  begin = begin_of role here there m;
}

reliable_word : (o : Option Kind) → is_through Reliable (path_of o) ≡ true → o ≡ Some Reliable
reliable_word None h = absurd (let no : false ≡ true = h in cc)
reliable_word (Some Reliable) h = refl
reliable_word (Some Lossy) h = absurd (let no : false ≡ true = h in cc)

word_here : (role : Role) (here there : Trace Act) (id : ℕ) → Meet role here there → is_through Reliable (inward id here) ≡ true → word (other role) (all_told made_by here) id (heard here) ≡ Some Reliable
word_here role here there id m h =
    reliable_word (word (other role) (all_told made_by here) id (heard here)) (ap (is_through Reliable) (sym (inward_heard role here id (fitting role here m.here_acts))) ∙ h)

-- the other end has moved it to that tunnel
moved_there : (role : Role) (here there : Trace Act) (id : ℕ) → Meet role here there → (j : Joined role here there) → word (other role) (all_told made_by here) id (heard here) ≡ Some Reliable → outward id there ≡ Tunnel Reliable
moved_there role here there id m j w =
    let front = heard_front role here there j in
    outward_is (other role) id there j.there_fits
    ∙ ap path_of (sym (word_said (other role) there (all_told made_by here) id j.there_fits j.begin) ∙ ap (word (other role) (all_told made_by here) id) front.1 ∙ word-more (other role) (all_told made_by here) id (heard here) front.0 Reliable w)

-- data that are held first were sent next
held_next : (role : Role) (here there : Trace Act) (id : ℕ) (first : Held) (rest : List Held) → Meet role here there → HasLeft (other role) there here → is_through Reliable (inward id here) ≡ true → is_closed role id here ≡ false
    → only id (held role Reliable here) ≡ first ∷ rest → said first.pdu ≡ Brings id → data_refusal id (under_way (channels.arrived (table role here) id)) first.pdu ≡ None
held_next role here there id first rest m l through live queue e =
    limited_taken id (sent id there) (channels.arrived (table role here) id) first.pdu more limited (sym whole ∙ split) where
      j : Joined role here there
      j = joined role here there m l

      w : word (other role) (all_told made_by here) id (heard here) ≡ Some Reliable
      w = word_here role here there id m through

      near : Near Reliable (outward id there)
      near = inr (moved_there role here there id m j w)

      c : Came role id Reliable here
      c = all_came role id Reliable here j.here_fits (near_only role here there id Reliable j near)

      back : IsPrefixOf (of id (drawn Reliable here)) (of id (out (Tunnel Reliable) (other role) there))
      back = front-keep (is_mine id) (drawn Reliable here) (out (Tunnel Reliable) (other role) there) (drawn_front role here there j)

      more : List Piece
      more = pieces id (pdus rest ++ back.0)

      both : sent id there ≡ sent_on (is_at Main) id there ++ sent_on (is_through Reliable) id there
      both = sent_both (other role) id there Reliable j.there_fits near

      limited : AreLimited (sent id there)
      limited = subst (λ s. AreLimited s) (sym both) (limited-append (sent_on (is_at Main) id there) (sent_on (is_through Reliable) id there) (all_limited (is_at Main) (other role) id there j.there_fits) (all_limited (is_through Reliable) (other role) id there j.there_fits))

      whole : pieces id (out Main (other role) there) ++ pieces id (out (Tunnel Reliable) (other role) there) ≡ flat_map pieces_of (cut id (sent id there))
      whole =
          ap (λ l. l ++ pieces id (out (Tunnel Reliable) (other role) there)) (pieces_sent role there id Main j.there_fits)
          ∙ ap (λ l. flat_map pieces_of (cut id (sent_on (is_at Main) id there)) ++ l) (pieces_sent role there id (Tunnel Reliable) j.there_fits)
          ∙ sym (flat_map-append pieces_of (cut id (sent_on (is_at Main) id there)) (cut id (sent_on (is_through Reliable) id there)))
          ∙ ap (flat_map pieces_of) (sym (flat_map-append (fragments_of id) (sent_on (is_at Main) id there) (sent_on (is_through Reliable) id there)))
          ∙ ap (λ l. flat_map pieces_of (cut id l)) (sym both)

      in_main : pieces id (out Main (other role) there) ≡ pieces id c.hs
      in_main =
          all_main role here there id c.hs j (subst (λ l. IsPrefixOf l (out Main (other role) there)) (sym (c.all_heard live)) (heard_front role here there j))
          (Reliable, ap (word (other role) (all_told made_by here) id) (c.all_heard live) ∙ w)

      left : c.rest ≡ first.pdu ∷ pdus rest
      left = c.all_held live ∙ ap pdus queue

      carried_are : of id (out (Tunnel Reliable) (other role) there) ≡ c.ds ++ (first.pdu ∷ [] ++ (pdus rest ++ back.0))
      carried_are = back.1 ∙ ap (λ l. l ++ back.0) (sym c.drawn_are ∙ ap (λ l. c.ds ++ l) left) ∙ append_assoc c.ds (first.pdu ∷ pdus rest) back.0

      in_tunnel : pieces id (out (Tunnel Reliable) (other role) there) ≡ pieces id c.ds ++ (pieces_of first.pdu ++ more)
      in_tunnel =
          sym (pieces-of id (out (Tunnel Reliable) (other role) there)) ∙ ap (pieces id) carried_are ∙ pieces-append id c.ds (first.pdu ∷ [] ++ (pdus rest ++ back.0))
          ∙ ap (λ l. pieces id c.ds ++ l) (pieces-append id (first.pdu ∷ []) (pdus rest ++ back.0) ∙ ap (λ l. l ++ more) (data_pieces id first.pdu (ap (brings_to id) e ∙ eq-eqb id id refl)))

      split : pieces id (out Main (other role) there) ++ pieces id (out (Tunnel Reliable) (other role) there) ≡ channels.arrived (table role here) id ++ (pieces_of first.pdu ++ more)
      split =
          ap (λ l. l ++ pieces id (out (Tunnel Reliable) (other role) there)) in_main ∙ ap (λ l. pieces id c.hs ++ l) in_tunnel
          ∙ sym (append_assoc (pieces id c.hs) (pieces id c.ds) (pieces_of first.pdu ++ more)) ∙ ap (λ l. l ++ (pieces_of first.pdu ++ more)) (sym c.arrived_are)

held_data : (role : Role) (here there : Trace Act) (id : ℕ) (first : Held) (rest : List Held) → Meet role here there → HasLeft (other role) there here → is_through Reliable (inward id here) ≡ true → is_closed role id here ≡ false
    → only id (held role Reliable here) ≡ first ∷ rest → said first.pdu ≡ Brings id → data_fault role here id first.pdu ≡ None
held_data role here there id first rest m l through live queue e =
    taken_case role here id first.pdu (is_closed role id here) refl (first_known role Reliable here id id first rest m.here_acts queue (ap channel_in e)) (λ k. held_next role here there id first rest m l through live queue e)

pub release_fine : (role : Role) (here there : Trace Act) (id : ℕ) (first : Held) (rest : List Held) → Meet role here there → HasLeft (other role) there here → is_through Reliable (inward id here) ≡ true → is_closed role id here ≡ false
    → only id (held role Reliable here) ≡ first ∷ rest → release_fault role here first.pdu ≡ None
release_fine role here there id first rest m l through live queue = by_said (said first.pdu) refl (first_mine id (held role Reliable here) first rest queue) where
  by_said : (s : Said) → said first.pdu ≡ s → is_of id (channel_in (said first.pdu)) ≡ true → release_fault_of role here first.pdu s ≡ None
  by_said (Brings made) e mine =
      let same : made ≡ id = eqb-true made id (sym (ap (λ s. is_of id (channel_in s)) e) ∙ mine) in
      ap (λ x. data_fault role here x first.pdu) same ∙ held_data role here there id first rest m l through live queue (e ∙ ap (λ x. Brings x) same)
  by_said (Capable version) e mine = refl
  by_said (Creates made name) e mine = refl
  by_said (Created made status) e mine = refl
  by_said (Ends made) e mine = refl
  by_said (Moves lists) e mine = refl
  by_said (Moved kinds) e mine = refl
