-- Lemmas on perfect links of parts.
use Rattle.std.proofs.Common.{◌≡◌, ℕ, ◌+◌, ◌≤◌, max, Bool, true, false, nat_le, nat_lt, List, [], ◌∷◌, ◌++◌, length, drop, Some, Result, Ok, Err, if◌then◌else◌, refl, sym, ap, ◌∙◌, append_assoc, append-nil, arith}
use Rattle.std.proofs.Math.Seq.{drop-append_seam}
use Rattle.std.proofs.lemmas.Bool.Decides.{nat_tests}
use Rattle.mt_base.specs.Trace.{Trace, ◌▷◌}
use Rattle.mt_windows.specs.declared.limits.TheConstants.{NUMBERS, WINDOW}
use Rattle.carrier.specs.declared.state.Reason.{Reason}
use Rattle.carrier.specs.declared.state.Reason.TheVariants as reason
use Rattle.carrier.specs.declared.state.Took.{Took}
use Rattle.carrier.specs.declared.state.Took.TheVariants.{Used, Ignored}
use Rattle.carrier.specs.Entries.{Entry, In, Next}
use Rattle.carrier.specs.Perfect.{number_of, bytes_of}
use Rattle.carrier.specs.PerfectThin.{least_new, handed, kept_parts, past, first_part, part_answer, part_answer_by, part_answered}
use Rattle.carrier.specs.PerfectView.{KeptParts, PostStands, post_took, with_read}

-- what it keeps to be handed out is what was not
pub kept_is : (s : KeptParts) (t : Trace Entry) → PostStands s t → kept_parts t ≡ s.arrived
kept_is s t h = ap (drop (length (handed t))) (sym h.in_order) ∙ drop-append_seam (handed t) s.arrived

pub post_answers : (s : KeptParts) (t : Trace Entry) (datagram : List ℕ) → PostStands s t → part_answer_by s.least (length s.arrived) (number_of datagram) ≡ part_answered t datagram
post_answers s t datagram h =
    ap (λ n. part_answer_by n (length s.arrived) (number_of datagram)) h.least_is
    ∙ ap (λ xs. part_answer_by (least_new t) (length xs) (number_of datagram)) (sym (kept_is s t h))

-- an accepted part has a number above all others
pub rises : (least kept number : ℕ) → Used ≡ part_answer least kept number → least ≤ number
rises least kept number e = by (nat_le NUMBERS number) (nat_lt number least) refl e
  where
    by : (a b : Bool) → nat_lt number least ≡ b → Used ≡ (if a then Ignored (reason.Beyond WINDOW) else (if b then Ignored reason.Old else (if nat_lt kept WINDOW then Used else Ignored (reason.Beyond WINDOW)))) → least ≤ number
    by true b f e = absurd cc
    by false true f e = absurd cc
    by false false f e = grind (arith, nat_tests)

pub post_takes : (s : KeptParts) (t : Trace Entry) (now last : ℕ) (datagram : List ℕ) (took : Took) → PostStands s t → last ≡ max s.last now → took ≡ part_answer_by s.least (length s.arrived) (number_of datagram) → PostStands (post_took took (number_of datagram) (bytes_of datagram) (record s { last = last })) (t ▷ In now datagram took)
post_takes s t now last datagram (Ignored why) h later e = record {
  waiting_is = h.waiting_is;
  sent_is = h.sent_is;
  in_order = h.in_order;
  least_is = h.least_is;
  last_is = later ∙ ap (λ m. max m now) h.last_is;
  thin = (e ∙ post_answers s t datagram h, h.thin);
}
post_takes s t now last datagram Used h later e = by (number_of datagram) refl e
  where
    by : (read : Result ℕ Reason) → number_of datagram ≡ read → Used ≡ part_answer_by s.least (length s.arrived) read → PostStands (with_read read (bytes_of datagram) (record s { last = last })) (t ▷ In now datagram Used)
    by (Err why) f e = absurd cc
    by (Ok number) f e =
        let above = rises s.least (length s.arrived) number e in
        let same = h.least_is in
        let most : number + 1 ≡ max (least_new t) (number + 1) = omega arith in
        record {
          waiting_is = h.waiting_is;
          sent_is = h.sent_is;
          in_order = sym (append_assoc (handed t) s.arrived (bytes_of datagram ∷ [])) ∙ ap (λ xs. xs ++ bytes_of datagram ∷ []) h.in_order;
          least_is = most ∙ ap (past (least_new t)) (sym f);
          last_is = later ∙ ap (λ m. max m now) h.last_is;
          thin = (e ∙ ap (part_answer_by s.least (length s.arrived)) (sym f) ∙ post_answers s t datagram h, h.thin);
        }

pub post_takes_more : (s : KeptParts) (read : Result ℕ Reason) (bytes : List ℕ) (took : Took) → (more : List (List ℕ)) × ((post_took took read bytes s).arrived ≡ s.arrived ++ more)
post_takes_more s (Ok number) bytes Used = (bytes ∷ [], refl)
post_takes_more s (Err why) bytes Used = ([], sym (append-nil s.arrived))
post_takes_more s read bytes (Ignored why) = ([], sym (append-nil s.arrived))

pub hands_out : (s : KeptParts) (t : Trace Entry) (bytes : List ℕ) (parts : List (List ℕ)) → PostStands s t → s.arrived ≡ bytes ∷ parts → PostStands (record s { arrived = parts }) (t ▷ Next (Some bytes))
hands_out s t bytes parts h e = record {
  waiting_is = h.waiting_is;
  sent_is = h.sent_is;
  in_order = append_assoc (handed t) (bytes ∷ []) parts ∙ ap (λ xs. handed t ++ xs) (sym e) ∙ h.in_order;
  least_is = h.least_is;
  last_is = h.last_is;
  thin = (sym (ap first_part (kept_is s t h ∙ e)), h.thin);
}
