-- An end that hands out bytes of the main stream stands for the same acts.
use Rattle.std.proofs.Common.{◌≡◌, ℕ, ◌++◌, take, drop, sym, ap, subst, ◌∙◌, append_assoc}
use Rattle.std.proofs.lemmas.List.{take-append-drop}
use Rattle.mt_base.specs.declared.kinds.Role.{Role}
use Rattle.mt_base.specs.Trace.{Trace}
use Rattle.mt_endpoint.specs.Acts.{Act}
use Rattle.end_session.specs.Outgoing.{Outgoing}
use Rattle.end_session.specs.Standing.{Gone, Knows, Stands}
use Rattle.end_session.specs.Store.{Store}

-- what is known rests on nothing that waits
pub knows_as : (role : Role) (s : Store) (t : Trace Act) (o : Outgoing) → Knows role s t → Knows role (record s { outgoing = o }) t
knows_as role s t o k = record {
  begun = k.begun;
  lawful = k.lawful;
  channels_stand = k.channels_stand;
  words_are = k.words_are;
  issued_are = k.issued_are;
  reliable_is = k.reliable_is;
  lossy_is = k.lossy_is;
  reliable_held = k.reliable_held;
  lossy_held = k.lossy_held;
  ready_is = k.ready_is;
  owed_is = k.owed_is;
}

handed_by : (s : Store) (t : Trace Act) (gone : Gone) (n : ℕ) → Stands s t gone
    → Stands (record s { outgoing = record s.outgoing { main = drop n (s.outgoing).main } }) t (record gone { main = gone.main ++ take n (s.outgoing).main })
handed_by s t gone n st = record {
  knows = knows_as s.role s t (record s.outgoing { main = drop n (s.outgoing).main }) st.knows;
  waits = record {
    main_waits = (st.waits).main_waits ∙ ap (λ l. gone.main ++ l) (sym (take-append-drop n (s.outgoing).main)) ∙ sym (append_assoc gone.main (take n (s.outgoing).main) (drop n (s.outgoing).main));
    reliable_waits = (st.waits).reliable_waits;
    lossy_waits = (st.waits).lossy_waits;
  };
}

pub handed : (s : Store) (t : Trace Act) (gone : Gone) (n : ℕ) (o : Outgoing) → o ≡ record s.outgoing { main = drop n (s.outgoing).main } → Stands s t gone
    → Stands (record s { outgoing = o }) t (record gone { main = gone.main ++ take n (s.outgoing).main })
handed s t gone n o is st = subst (λ o. Stands (record s { outgoing = o }) t (record gone { main = gone.main ++ take n (s.outgoing).main })) (sym is) (handed_by s t gone n st)
