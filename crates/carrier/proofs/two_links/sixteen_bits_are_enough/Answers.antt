use Rattle.std.proofs.Common.{arith}
use Rattle.carrier.proofs.two_links.sixteen_bits_are_enough.Goals as goal

pub returns-clause-small : goal.returns-clause-small
returns-clause-small c bounds window span tell = record {
  some_window = omega (arith, window);
  two_windows = omega (arith, window);
  window_and_late = omega (arith, window);
  told_and_late = omega (arith, span, tell);
}

pub returns-clause-wide : goal.returns-clause-wide
returns-clause-wide c bounds window span tell = record {
  some_window = omega (arith, window);
  two_windows = omega (arith, window);
  window_and_late = omega (arith, window);
  told_and_late = omega (arith, span, tell);
}
