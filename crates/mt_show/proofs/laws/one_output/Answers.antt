use Rattle.std.proofs.Common.{refl}
use Rattle.tunnel_pdus.specs.Reading.{reading, frame_reading}
use Rattle.mt_show.proofs.OneOutput.{some_answer, one_answer, kept_answer}
use Rattle.mt_show.proofs.laws.one_output.Goals as goal

pub returns-clause-some : goal.returns-clause-some
returns-clause-some c = some_answer (record {
  first = record { value = c.one_meaning.ensures.value; fault = c.one_meaning.ensures.fault; one_of_both = c.one_meaning.ensures.one_of_both; never_both = c.one_meaning.ensures.never_both };
  second = record { value = c.one_meaning-2.ensures.value; fault = c.one_meaning-2.ensures.fault; one_of_both = (λ bytes is. c.one_meaning-2.ensures.one_of_both bytes is.0 is.1); never_both = c.one_meaning-2.ensures.never_both };
  tunnel = record { read = (λ bytes is. (c.tunnel_meaning.ensures.read bytes (reading bytes) is).0 refl); one = c.tunnel_meaning.ensures.one };
  channel_of = (λ from. record { value = (λ bytes p q s t. c.one_meaning-3.ensures.value from bytes p q s.0 t.0); fault = c.one_meaning-3.ensures.fault from; one_of_both = c.one_meaning-3.ensures.one_of_both from; never_both = c.one_meaning-3.ensures.never_both from });
  frame = record { read = (λ bytes is. (c.frame_meaning.ensures.read bytes (frame_reading bytes) is).0 refl); one = c.frame_meaning.ensures.one };
})

pub returns-clause-one : goal.returns-clause-one
returns-clause-one c = one_answer (record {
  first = record { value = c.one_meaning.ensures.value; fault = c.one_meaning.ensures.fault; one_of_both = c.one_meaning.ensures.one_of_both; never_both = c.one_meaning.ensures.never_both };
  second = record { value = c.one_meaning-2.ensures.value; fault = c.one_meaning-2.ensures.fault; one_of_both = (λ bytes is. c.one_meaning-2.ensures.one_of_both bytes is.0 is.1); never_both = c.one_meaning-2.ensures.never_both };
  tunnel = record { read = (λ bytes is. (c.tunnel_meaning.ensures.read bytes (reading bytes) is).0 refl); one = c.tunnel_meaning.ensures.one };
  channel_of = (λ from. record { value = (λ bytes p q s t. c.one_meaning-3.ensures.value from bytes p q s.0 t.0); fault = c.one_meaning-3.ensures.fault from; one_of_both = c.one_meaning-3.ensures.one_of_both from; never_both = c.one_meaning-3.ensures.never_both from });
  frame = record { read = (λ bytes is. (c.frame_meaning.ensures.read bytes (frame_reading bytes) is).0 refl); one = c.frame_meaning.ensures.one };
})

pub returns-clause-kept : goal.returns-clause-kept
returns-clause-kept c = kept_answer (record {
  first = record { value = c.one_meaning.ensures.value; fault = c.one_meaning.ensures.fault; one_of_both = c.one_meaning.ensures.one_of_both; never_both = c.one_meaning.ensures.never_both };
  second = record { value = c.one_meaning-2.ensures.value; fault = c.one_meaning-2.ensures.fault; one_of_both = (λ bytes is. c.one_meaning-2.ensures.one_of_both bytes is.0 is.1); never_both = c.one_meaning-2.ensures.never_both };
  tunnel = record { read = (λ bytes is. (c.tunnel_meaning.ensures.read bytes (reading bytes) is).0 refl); one = c.tunnel_meaning.ensures.one };
  channel_of = (λ from. record { value = (λ bytes p q s t. c.one_meaning-3.ensures.value from bytes p q s.0 t.0); fault = c.one_meaning-3.ensures.fault from; one_of_both = c.one_meaning-3.ensures.one_of_both from; never_both = c.one_meaning-3.ensures.never_both from });
  frame = record { read = (λ bytes is. (c.frame_meaning.ensures.read bytes (frame_reading bytes) is).0 refl); one = c.frame_meaning.ensures.one };
})
