-- The close of a channel that is pulled behind its word is released at once.
use Rattle.std.proofs.Common.{◌≡◌, ℕ, Bool, true, cond, eqb, List, [], ◌∷◌, ◌++◌, Option, Some, None, is_some, refl, sym, ap, subst, ◌∙◌, eq-eqb}
use Rattle.mt_base.specs.declared.kinds.Kind.TheVariants.{Reliable}
use Rattle.mt_base.specs.Trace.{Trace, ◌▷◌}
use Rattle.dvc_channels.specs.Acts.{Act as Change, TakesData}
use Rattle.dvc_channels.specs.Acts as change
use Rattle.dvc_channels.specs.Table.{IsKept, Kept, kept_of}
use Rattle.dvc_channels.specs.Table as channels
use Rattle.dvc_pdus.specs.Value.{Close}
use Rattle.hold_queue.specs.Held as hold
use Rattle.soft_sync.specs.Words.{HasPlace, Words}
use Rattle.soft_sync.specs.Words as words
use Rattle.soft_sync.specs.declared.kinds.Path.{Path}
use Rattle.mt_endpoint.specs.Acts.{Act, Draws, Carried}
use Rattle.mt_endpoint.specs.Channels.{channel, is_closed_in, is_open, table}
use Rattle.mt_endpoint.specs.Growing.{grown}
use Rattle.mt_endpoint.specs.Writing.{closing}
use Rattle.end_calls.specs.Streams.{told_place}
use Rattle.end_session.specs.Behind.{IsPassing}
use Rattle.end_session.specs.Coming.{Came}
use Rattle.end_session.specs.Outgoing.{Outgoing}
use Rattle.end_session.specs.Standing.{Gone, Stands}
use Rattle.end_session.specs.Store.{Store}
use Rattle.end_session.specs.Writes.{writes}
use Rattle.end_session.proofs.ClosesReleased.{IsCloseDue, close_released, close_takes, close_told}
use Rattle.end_session.proofs.DataHeard.{IsClosedBy}
use Rattle.end_session.proofs.Passed.{IsGiven, alone, fresh_for, given_at_once, holding, holds, last_of, taken_by, taken_one, word_is}

-- a table tells the state of a channel
same_state : (k : Option Kept) (u v : Trace Change) (id : ℕ) → IsKept k u id → IsKept k v id → change.state u id ≡ change.state v id
same_state None u v id a b = a.unknown ∙ sym b.unknown
same_state (Some k) u v id a b = sym a.state_is ∙ b.state_is

state_same : (c : channels.Table) (u v : Trace Change) (id : ℕ) → channels.Stands c u → channels.Stands c v → change.state u id ≡ change.state v id
state_same c u v id a b = same_state (kept_of id c) u v id (a.channels id) (b.channels id)

-- what the call was asked for
pub record IsEnding (id : ℕ) (bytes : List ℕ) (s : Store) : Type 0 where
  pub passing : IsPassing Reliable bytes (Close id) s
  pub opened : (t : Trace Act) (gone : Gone) → Stands s t gone → is_open s.role id t ≡ true

given : (s : Store) (place id : ℕ) (bytes : List ℕ) → IsEnding id bytes s → IsGiven s Reliable place (told_place place) id bytes (Close id)
given s place id bytes e = record { passing = e.passing; kept = e.opened; channel_is = refl; where_at = refl }

-- it is due as if it had been held
close_due : (s : Store) (t : Trace Act) (gone : Gone) (place id : ℕ) (bytes : List ℕ) → IsGiven s Reliable place (told_place place) id bytes (Close id) → Stands s t gone → IsCloseDue Reliable id (holding Reliable (hold.pdu_of id (told_place place) bytes) s)
close_due s t gone place id bytes g st = record {
  word = word_is s Reliable place (told_place place) id bytes (Close id) g;
  fresh = λ v left others.
      ap is_closed_in (state_same s.channels (table s.role v) (table s.role t) id (others.knows).channels_stand (st.knows).channels_stand) ∙ fresh_for s.role Reliable t id bytes (Close id) refl (g.kept t gone st);
  oldest = record { kept = hold.pdu_of id (told_place place) bytes; oldest_is = (last_of s Reliable place (told_place place) id bytes (Close id) g).oldest_is; read_is = (g.passing).read_is };
}

pub may_end : (s : Store) (t : Trace Act) (gone : Gone) (id : ℕ) (bytes : List ℕ) → IsEnding id bytes s → Stands s t gone
    → TakesData (channel s.role id t)
may_end s t gone id bytes e st =
    let g = given s 0 id bytes e in
    close_takes (holding Reliable (hold.pdu_of id (told_place 0) bytes) s) (t ▷ Draws Reliable 0 (Carried bytes (Close id))) gone Reliable id (close_due s t gone 0 id bytes g st) (holds s t gone Reliable 0 (told_place 0) id bytes (Close id) g st)

pub end_place : (s : Store) (t : Trace Act) (gone : Gone) (id : ℕ) (bytes : List ℕ) → IsEnding id bytes s → Stands s t gone → HasPlace id (s.paths).channels
end_place s t gone id bytes e st =
    let g = given s 0 id bytes e in
    close_told (holding Reliable (hold.pdu_of id (told_place 0) bytes) s) (t ▷ Draws Reliable 0 (Carried bytes (Close id))) gone Reliable id (close_due s t gone 0 id bytes g st) (holds s t gone Reliable 0 (told_place 0) id bytes (Close id) g st)

without_more : (id : ℕ) (pdus : List hold.Pdu) (p : hold.Pdu) → eqb p.id id ≡ true → hold.without id (pdus ++ p ∷ []) ≡ hold.without id pdus
without_more id [] p is = ap (λ b. cond b [] (p ∷ [])) is
without_more id (x ∷ pdus) p is = ap (λ l. cond (eqb x.id id) l (x ∷ l)) (without_more id pdus p is)

-- the channel is closed by it
pub ended_at_once : (s : Store) (t : Trace Act) (gone : Gone) (place id : ℕ) (bytes : List ℕ) (c : channels.Table) (w : Words) (reliable lossy : List hold.Pdu) (o : Outgoing) (path : Path) (silent : Bool) → IsEnding id bytes s
    → IsClosedBy s id c w reliable lossy → path ≡ words.outward id s.paths → silent ≡ is_some (s.reliable).silence → o ≡ writes silent (closing path id) s.outgoing → Stands s t gone
    → Came (grown s.role t (Draws Reliable place (Carried bytes (Close id)))) gone (record s { channels = c; paths = w; held_reliable = reliable; held_lossy = lossy; outgoing = o })
ended_at_once s t gone place id bytes c w reliable lossy o path silent e by path_is silent_is o_is st =
    let at = told_place place in
    let g = given s place id bytes e in
    let u = t ▷ Draws Reliable place (Carried bytes (Close id)) in
    let p = hold.pdu_of id at bytes in
    let after : Store = record s { channels = c; paths = w; held_reliable = reliable; held_lossy = lossy; outgoing = o } in
    let a = given_at_once s t gone Reliable place at id bytes (Close id) g st in
    let kept = g.kept t gone st in
    let fresh = fresh_for s.role Reliable t id bytes (Close id) refl kept in
    let by_all : IsClosedBy (holding Reliable p s) id c w reliable lossy =
    record { ended = by.ended; told_is = by.told_is; reliable_is = by.reliable_is ∙ sym (without_more id s.held_reliable p (eq-eqb id id refl)); lossy_is = by.lossy_is } in
    let out = close_released (holding Reliable p s) u gone Reliable id c w reliable lossy o path silent (close_due s t gone place id bytes g st) by_all path_is silent_is o_is (holds s t gone Reliable place at id bytes (Close id) g st) in
    subst (λ x. Came x gone after) (sym (taken_by s.role Reliable t place bytes (Close id) id a kept fresh refl))
    (refl, taken_one Reliable id (Close id) u gone after (record { at = place; bytes = bytes; pdu = Close id }) (alone s.role Reliable t place bytes (Close id) id a kept) out)
