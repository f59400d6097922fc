-- What follows from the law of a link for one of its ends, by induction over its calls.
use Rattle.std.proofs.Common.{◌≡◌, ℕ, ◌+◌, ◌<◌, ◌≤◌, ◌⊎◌, inl, inr, true, ltb, ◌&&◌, List, length, min, All, Some, None, sym, ap, ◌∙◌, subst, arith, length-take}
use Rattle.std.proofs.lemmas.Bool.{cases_lt, and_parts}
use Rattle.std.proofs.lemmas.Bool.Decides.{nat_tests}
use Rattle.std.proofs.lemmas.List.Elements.{All-append, All-nil}
use Rattle.mt_base.specs.Trace.{Trace, Start, ◌▷◌}
use Rattle.mt_windows.specs.Sending.Act.{Gave as GaveBytes, Cut}
use Rattle.mt_windows.specs.Sending.{Act, Limits, cuts, given as given_to, lowest_or_next, may_cut, next_piece, piece, queued, reach, transmissions, waiting}
use Rattle.carrier.specs.Entries.{Entry, Gave, In, Polled, Pulled, Owed, Posted, Next}
use Rattle.carrier.specs.Layout.{Layout, Datagram}
use Rattle.carrier.specs.Receiving.{effect, peer_window}
use Rattle.carrier.specs.Sending.{acts, hears, sends}
use Rattle.carrier.specs.Law.{Faithful}
use Rattle.carrier.specs.Due.{meant, due}
use Rattle.carrier.specs.Faithful.{HasRoom}
use Rattle.carrier.proofs.links.Invariant.{Even}
use Rattle.carrier.proofs.links.Numbers.{open_cut}
use Rattle.carrier.proofs.links.Facing.{Alone}
use Rattle.carrier.proofs.links.Sends.{Says, Moved, Repeated, Extended, Told, says, outcome, piece_before, piece_next}
use Rattle.carrier.proofs.links.Ends.{was_meant}
use Rattle.carrier.proofs.links.Informed.{Informs, informs_hears, even_informs, queued_less}

-- ---- the invariant

pub record OneEnd (l : Limits) (own : ℕ) (a : Trace Act) : Type 0 where
  pub even : Even l own a
  pub some_bytes : (p : ℕ) → p < cuts a → 1 ≤ length (piece l a p)
  pub queue : queued l a ≤ l.queue

pub end_start : (l : Limits) (own : ℕ) → OneEnd l own Start
end_start l own = record {
  even = record {
    window = λ p is. absurd (let less = open_cut l Start p is in omega (arith, less));
    numbers = λ less. omega (arith, less);
    made = λ less. omega (arith, less);
    reaches = omega arith;
    bytes = All-nil (λ b. b < 256);
    pieces = λ p. (omega arith, All-nil (λ b. b < 256));
  };
  some_bytes = λ p less. absurd (omega (arith, less));
  queue = omega arith;
}

pub end_gives : (l : Limits) (own : ℕ) (a : Trace Act) (bytes : List ℕ) → All (λ b. b < 256) bytes → queued l (a ▷ GaveBytes bytes) ≤ l.queue → OneEnd l own a → OneEnd l own (a ▷ GaveBytes bytes)
end_gives l own a bytes is fits h = record {
  even = record {
    window = h.even.window;
    numbers = h.even.numbers;
    made = h.even.made;
    reaches = h.even.reaches;
    bytes = All-append (λ b. b < 256) (given_to a) bytes h.even.bytes is;
    pieces = h.even.pieces;
  };
  some_bytes = h.some_bytes;
  queue = fits;
}

pub end_hears : (l : Limits) (own : ℕ) (a b : Trace Act) → Informs l a b → OneEnd l own a → OneEnd l own b
end_hears l own a b g h = record {
  even = even_informs l own a b g h.even;
  some_bytes = λ p less. omega (arith, h.some_bytes p (omega (arith, less, g.keeps.cuts_are)), ap length (g.keeps.pieces_are p));
  queue = omega (arith, h.queue, queued_less l a b g.given_is (omega (arith, g.keeps.cuts_are)) (λ p less. g.keeps.pieces_are p) g.keeps.settles);
}

-- what may be cut has bytes
pub cut_more : (l : Limits) (first : ℕ) (a : Trace Act) (window : ℕ) → may_cut l first a window ≡ true → 0 < length (waiting l a)
cut_more l first a window h =
    let p1 = and_parts (ltb 0 (length (waiting l a)) && ltb (cuts a) (lowest_or_next l a + min l.window window) && ltb (reach l a) l.span && ltb (first + cuts a) l.numbers) (ltb (first + transmissions a) l.numbers) h in
    let p2 = and_parts (ltb 0 (length (waiting l a)) && ltb (cuts a) (lowest_or_next l a + min l.window window) && ltb (reach l a) l.span) (ltb (first + cuts a) l.numbers) p1.0 in
    let p3 = and_parts (ltb 0 (length (waiting l a)) && ltb (cuts a) (lowest_or_next l a + min l.window window)) (ltb (reach l a) l.span) p2.0 in
    let x = (and_parts (ltb 0 (length (waiting l a))) (ltb (cuts a) (lowest_or_next l a + min l.window window)) p3.0).0 in
    grind (arith, nat_tests)

pub next_some : (l : Limits) (a : Trace Act) → 1 ≤ l.part → 0 < length (waiting l a) → 1 ≤ length (next_piece l a)
next_some l a some waits = omega (arith, length-take l.part (waiting l a), some, waits)

pub cut_some : (l : Limits) (a : Trace Act) → 1 ≤ length (next_piece l a) → ((p : ℕ) → p < cuts a → 1 ≤ length (piece l a p)) → (p : ℕ) → p < cuts a + 1 → 1 ≤ length (piece l (a ▷ Cut) p)
cut_some l a some old p less = by_place (cases_lt p (cuts a))
  where
    by_place : (p < cuts a) ⊎ (cuts a ≤ p) → 1 ≤ length (piece l (a ▷ Cut) p)
    by_place (inl lt) = subst (λ xs. 1 ≤ length xs) (sym (piece_before l a p lt)) (old p lt)
    by_place (inr ge) =
        let e : p ≡ cuts a = omega (arith, ge, less) in
        subst (λ xs. 1 ≤ length xs) (sym (ap (piece l (a ▷ Cut)) e ∙ piece_next l a)) some

-- ---- a poll

module _ (l : Layout) (asks : HasRoom l) where
  pub on_its_own : Alone l
  on_its_own = record {
    here = asks.lawful;
    half = asks.lawful.half;
    here_modulus = asks.lawful.modulus_is;
    some_half = asks.lawful.some_half;
    one_window = omega (arith, asks.half_window, asks.lawful.modulus_is);
  }

  pub said : (t : Trace Entry) (now : ℕ) (d : Datagram) → OneEnd l.bounds.windows l.own (acts l t) → meant l t now ≡ Some d → Says l t d (sends l (acts l t) (l.read (l.spell d)))
  said t now d h is = says l t on_its_own h.even d (outcome l t _ d is)

  end_moves : (t : Trace Entry) (d : Datagram) (b : Trace Act) → OneEnd l.bounds.windows l.own (acts l t) → Says l t d b → OneEnd l.bounds.windows l.own b
  end_moves t d b h s = record {
    even = s.even;
    some_bytes = bytes_by s.moved;
    queue = omega (arith, h.queue, queued_less l.bounds.windows (acts l t) b s.grown.given_is s.grown.more s.grown.same (λ p is. s.grown.settles p ∙ is));
  }
    where
      bytes_by : Moved l t d b → (p : ℕ) → p < cuts b → 1 ≤ length (piece l.bounds.windows b p)
      bytes_by (Repeated q is may load e) = subst (λ x. (p : ℕ) → p < cuts x → 1 ≤ length (piece l.bounds.windows x p)) (sym e) h.some_bytes
      bytes_by (Extended may load e) =
          subst (λ x. (p : ℕ) → p < cuts x → 1 ≤ length (piece l.bounds.windows x p)) (sym e)
          (cut_some l.bounds.windows (acts l t) (next_some l.bounds.windows (acts l t) asks.some_part (cut_more l.bounds.windows l.own (acts l t) (peer_window l t) may)) h.some_bytes)
      bytes_by (Told load e) = subst (λ x. (p : ℕ) → p < cuts x → 1 ≤ length (piece l.bounds.windows x p)) (sym e) h.some_bytes

  end_polls : (t : Trace Entry) (now : ℕ) (out : List ℕ) → Some out ≡ due l t now → OneEnd l.bounds.windows l.own (acts l t) → OneEnd l.bounds.windows l.own (sends l (acts l t) (l.read out))
  end_polls t now out is h =
      let was = was_meant l (meant l t now) out is in
      subst (λ d. OneEnd l.bounds.windows l.own (sends l (acts l t) (l.read d))) (sym was.2)
      (end_moves t was.0 (sends l (acts l t) (l.read (l.spell was.0))) h (said t now was.0 h was.1))

  -- ---- all calls

  pub one_end : (t : Trace Entry) → Faithful l t → OneEnd l.bounds.windows l.own (acts l t)
  one_end Start law = end_start l.bounds.windows l.own
  one_end (t ▷ Gave bytes) law = end_gives l.bounds.windows l.own (acts l t) bytes law.1 law.0 (one_end t law.2)
  one_end (t ▷ In now datagram took) law =
      end_hears l.bounds.windows l.own (acts l t) (hears l (acts l t) (effect l took datagram)) (informs_hears l (acts l t) (effect l took datagram)) (one_end t law.1)
  one_end (t ▷ Polled now None) law = one_end t law.1
  one_end (t ▷ Polled now (Some out)) law = end_polls t now out law.0 (one_end t law.1)
  one_end (t ▷ Pulled room bytes) law = one_end t law.1
  one_end (t ▷ Owed count) law = one_end t law
  one_end (t ▷ Posted bytes) law = absurd law
  one_end (t ▷ Next bytes) law = absurd law
