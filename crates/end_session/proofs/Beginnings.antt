-- An end that was made stands for its first act.
use Rattle.std.proofs.Common.{◌≡◌, ℕ, false, nat_eq, List, [], ◌∷◌, ◌++◌, Some, replicate, refl, sym, ap, subst, ◌∙◌, append-nil}
use Rattle.std.specs.Option.{unwrap_or}
use Rattle.std.specs.Map.{keys_of, lookup}
use Rattle.mt_base.specs.declared.kinds.Role.{Role}
use Rattle.mt_base.specs.declared.kinds.Role.TheVariants.{Server, Client}
use Rattle.mt_base.specs.Trace.{Start, ◌▷◌}
use Rattle.mt_base.specs.Writing.{joined}
use Rattle.dvc_pdus.specs.Value.{Caps, spelled}
use Rattle.dvc_channels.specs.Table as channels
use Rattle.soft_sync.specs.Words.{Words, silence}
use Rattle.tunnel_pdus.specs.Value.{Channel, frame_fields}
use Rattle.mt_endpoint.specs.Acts.{Began}
use Rattle.end_session.specs.Known.{unknown}
use Rattle.end_session.specs.Outgoing.{Outgoing, nothing_waits}
use Rattle.end_session.specs.Standing.{AreKept, Knows, Stands, Waits, nothing_gone}
use Rattle.end_session.specs.Store.{Store}

-- a client writes nothing
pub quiet_client : (o : Outgoing) → o ≡ nothing_waits → Waits Client o (Start ▷ Began) nothing_gone
quiet_client o is = record {
  main_waits = sym (ap (λ (o : Outgoing). o.main) is);
  reliable_waits = record { rest = []; rest_is = refl; bytes_are = ap (λ (o : Outgoing). o.reliable) is };
  lossy_waits = record { rest = []; rest_is = refl; bytes_are = ap (λ (o : Outgoing). o.lossy) is };
}

-- a server its capabilities
pub greeting_server : (o p : Outgoing) (bytes : List ℕ) → o ≡ nothing_waits → bytes ≡ spelled (Caps 3 (Some (replicate 4 0)))
    → p ≡ record o { main = o.main ++ joined (frame_fields (Channel bytes)) } → Waits Server p (Start ▷ Began) nothing_gone
greeting_server o p bytes is are new =
    let says : p.main ≡ joined (frame_fields (Channel bytes)) = ap (λ (o : Outgoing). o.main) new ∙ ap (λ (o : Outgoing). o.main ++ joined (frame_fields (Channel bytes))) is in record {
      main_waits = append-nil (joined (frame_fields (Channel (spelled (Caps 3 (Some (0 ∷ 0 ∷ 0 ∷ 0 ∷ []))))))) ∙ ap (λ b. joined (frame_fields (Channel b))) (sym are) ∙ sym says;
      reliable_waits = record { rest = []; rest_is = refl; bytes_are = ap (λ (o : Outgoing). o.reliable) new ∙ ap (λ (o : Outgoing). o.reliable) is };
      lossy_waits = record { rest = []; rest_is = refl; bytes_are = ap (λ (o : Outgoing). o.lossy) new ∙ ap (λ (o : Outgoing). o.lossy) is };
    }

knows_first : (role : Role) (s : Store) → channels.Stands s.channels Start → s.paths ≡ silence → s.issued ≡ [] → s.reliable ≡ unknown → s.lossy ≡ unknown
    → s.held_reliable ≡ [] → s.held_lossy ≡ [] → s.is_ready ≡ false → s.owed ≡ 0 → Knows role s (Start ▷ Began)
knows_first Server s c p i r l hr hl ready owed = record {
  begun = refl;
  lawful = (refl, (tt, tt), tt);
  channels_stand = c;
  words_are = record {
    version_is = ap (λ (w : Words). w.version) p;
    reliable_is = ap (λ (w : Words). (w.opened).reliable) p;
    lossy_is = ap (λ (w : Words). (w.opened).lossy) p;
    channels_are = record { ids_are = ap (λ (w : Words). keys_of w.channels) p; open_are = λ id. ap (λ (w : Words). unwrap_or (lookup (nat_eq id) w.channels) false) p };
    made_are = ap (λ (w : Words). w.made) p;
    read_are = ap (λ (w : Words). w.read) p;
  };
  issued_are = i;
  reliable_is = r;
  lossy_is = l;
  reliable_held = subst (AreKept []) (sym hr) tt;
  lossy_held = subst (AreKept []) (sym hl) tt;
  ready_is = ready;
  owed_is = owed;
}
knows_first Client s c p i r l hr hl ready owed = record {
  begun = refl;
  lawful = (refl, (tt, tt), tt);
  channels_stand = c;
  words_are = record {
    version_is = ap (λ (w : Words). w.version) p;
    reliable_is = ap (λ (w : Words). (w.opened).reliable) p;
    lossy_is = ap (λ (w : Words). (w.opened).lossy) p;
    channels_are = record { ids_are = ap (λ (w : Words). keys_of w.channels) p; open_are = λ id. ap (λ (w : Words). unwrap_or (lookup (nat_eq id) w.channels) false) p };
    made_are = ap (λ (w : Words). w.made) p;
    read_are = ap (λ (w : Words). w.read) p;
  };
  issued_are = i;
  reliable_is = r;
  lossy_is = l;
  reliable_held = subst (AreKept []) (sym hr) tt;
  lossy_held = subst (AreKept []) (sym hl) tt;
  ready_is = ready;
  owed_is = owed;
}

pub begun : (s : Store) → channels.Stands s.channels Start → s.paths ≡ silence → s.issued ≡ [] → s.reliable ≡ unknown → s.lossy ≡ unknown
    → s.held_reliable ≡ [] → s.held_lossy ≡ [] → s.is_ready ≡ false → s.owed ≡ 0 → Waits s.role s.outgoing (Start ▷ Began) nothing_gone → Stands s (Start ▷ Began) nothing_gone
begun s c p i r l hr hl ready owed w = record { knows = knows_first s.role s c p i r l hr hl ready owed; waits = w }
