-- Acts that are words of channels, or answers to such: what is known of tunnels stays as it was.
use Rattle.std.proofs.Common.{◌≡◌, ℕ, Bool, false, ◌||◌, List, length, Option, None, refl, sym, ap, subst, ◌∙◌}
use Rattle.std.specs.Option.{option_or}
use Rattle.mt_base.specs.declared.kinds.Kind.TheVariants.{Reliable, Lossy}
use Rattle.mt_base.specs.declared.kinds.Role.{Role}
use Rattle.mt_base.specs.Trace.{Trace, ◌▷◌}
use Rattle.dvc_channels.specs.Table as channels
use Rattle.soft_sync.specs.Exchanges.{Exchange}
use Rattle.mt_endpoint.specs.Acts.{Act}
use Rattle.mt_endpoint.specs.Alone.{EndOfActs}
use Rattle.mt_endpoint.specs.Channels.{came, is_ready, table, tells_capabilities}
use Rattle.mt_endpoint.specs.Holding.{held}
use Rattle.mt_endpoint.specs.Moving.{made, read, unanswered_in}
use Rattle.mt_endpoint.specs.Tunnels.{first_told, issued}
use Rattle.end_calls.specs.Refusing.{or_zero, version_in}
use Rattle.end_session.specs.Outgoing.{Outgoing}
use Rattle.end_session.specs.Standing.{AreKept, AreTold, Knows}
use Rattle.end_session.specs.Store.{Store}
use Rattle.end_session.proofs.Still.{TellsNothing, known_still, live_still, or_false, or_none}

-- neither tunnels nor capabilities nor channels are told of, and nothing more is held
pub record IsWord (role : Role) (t : Trace Act) (act : Act) : Type 0 where
  pub reliable : TellsNothing role Reliable t act
  pub lossy : TellsNothing role Lossy t act
  pub no_version : version_in act ≡ None
  pub no_capabilities : tells_capabilities (came act) ≡ false
  pub none_issued : issued (t ▷ act) ≡ issued t
  pub no_channels : table role (t ▷ act) ≡ table role t
  pub reliable_held : held role Reliable (t ▷ act) ≡ held role Reliable t
  pub lossy_held : held role Lossy (t ▷ act) ≡ held role Lossy t

-- what is known behind a word, of paths that stand for it
pub knows_word : (role : Role) (s : Store) (t : Trace Act) (act : Act) (told : List (ℕ × Bool)) (made_now read_now : List Exchange) (owed : ℕ) (o : Outgoing)
    → Knows role s t → IsWord role t act → EndOfActs role (t ▷ act) → AreTold role (t ▷ act) told → made_now ≡ made (t ▷ act) → read_now ≡ read (t ▷ act) → owed ≡ length (unanswered_in (read (t ▷ act)))
    → Knows role (record s { paths = record s.paths { channels = told; made = made_now; read = read_now }; owed = owed; outgoing = o }) (t ▷ act)
knows_word role s t act told made_now read_now owed o k w lawful are made_is read_is owed_is = record {
  begun = refl;
  lawful = lawful;
  channels_stand = subst (channels.Stands s.channels) (sym w.no_channels) k.channels_stand;
  words_are = record {
    version_is = (k.words_are).version_is ∙ sym (ap or_zero (later (first_told version_in t) w.no_version));
    reliable_is = (k.words_are).reliable_is ∙ sym (live_still role Reliable t act w.reliable);
    lossy_is = (k.words_are).lossy_is ∙ sym (live_still role Lossy t act w.lossy);
    channels_are = are;
    made_are = made_is;
    read_are = read_is;
  };
  issued_are = k.issued_are ∙ sym w.none_issued;
  reliable_is = k.reliable_is ∙ sym (known_still role Reliable t act w.reliable);
  lossy_is = k.lossy_is ∙ sym (known_still role Lossy t act w.lossy);
  reliable_held = subst (λ h. AreKept h s.held_reliable) (sym w.reliable_held) k.reliable_held;
  lossy_held = subst (λ h. AreKept h s.held_lossy) (sym w.lossy_held) k.lossy_held;
  ready_is = k.ready_is ∙ sym (ap (λ b. is_ready t || b) w.no_capabilities ∙ or_false (is_ready t));
  owed_is = owed_is;
} where
  later : (o : Option ℕ) → version_in act ≡ None → option_or o (version_in act) ≡ o
  later o h = ap (option_or o) h ∙ or_none o
