-- The rows hold: each side is computed.
use Rattle.std.proofs.Common.{refl, arith}
use Rattle.std.proofs.lemmas.Fmt.{decimal_digit}
use Rattle.run_report.proofs.Numbers.{ten, eleven, twelve, thirteen, fifteen, twenty, forty_three, sixty_five, slow_rate, fast_rate, count_limit}
use Rattle.run_report.specs.Rows.{RunRows, LineRows, FlowRows, StallRows}

pub run_rows : RunRows
run_rows = record {
  ended = rw (decimal_digit 0 (omega arith), decimal_digit 3 (omega arith), decimal_digit 5 (omega arith), decimal_digit 6 (omega arith), decimal_digit 8 (omega arith), decimal_digit 9 (omega arith)) refl;
  quiet = rw (decimal_digit 0 (omega arith)) refl;
  answered = rw (decimal_digit 0 (omega arith), decimal_digit 1 (omega arith), decimal_digit 2 (omega arith), decimal_digit 3 (omega arith), decimal_digit 4 (omega arith), decimal_digit 5 (omega arith), decimal_digit 6 (omega arith), decimal_digit 8 (omega arith), decimal_digit 9 (omega arith), sixty_five) refl;
  no_memory = rw (thirteen) refl;
}

pub line_rows : LineRows
line_rows = record {
  words = rw (decimal_digit 1 (omega arith)) refl;
  no_line = rw (decimal_digit 1 (omega arith)) refl;
  both_lines = rw (decimal_digit 1 (omega arith)) refl;
  place = rw (decimal_digit 2 (omega arith), twenty) refl;
  kind = rw (decimal_digit 3 (omega arith)) refl;
  property = rw (decimal_digit 3 (omega arith)) refl;
  value = rw (decimal_digit 3 (omega arith)) refl;
  name = rw (decimal_digit 3 (omega arith)) refl;
  location = rw (decimal_digit 3 (omega arith)) refl;
  count = rw (decimal_digit 3 (omega arith), sixty_five) refl;
  link = rw (decimal_digit 2 (omega arith), decimal_digit 4 (omega arith)) refl;
  script = rw (decimal_digit 1 (omega arith), decimal_digit 5 (omega arith)) refl;
}

pub flow_rows : FlowRows
flow_rows = record {
  unopened = rw (decimal_digit 6 (omega arith)) refl;
  unread = rw (decimal_digit 0 (omega arith), decimal_digit 1 (omega arith), decimal_digit 3 (omega arith), decimal_digit 5 (omega arith), decimal_digit 6 (omega arith), decimal_digit 7 (omega arith), decimal_digit 8 (omega arith), decimal_digit 9 (omega arith)) refl;
  unwritten = rw (decimal_digit 0 (omega arith), decimal_digit 1 (omega arith), decimal_digit 3 (omega arith), decimal_digit 5 (omega arith), decimal_digit 6 (omega arith), decimal_digit 8 (omega arith), decimal_digit 9 (omega arith)) refl;
  short = rw (decimal_digit 9 (omega arith), forty_three) refl;
  unfit = rw (decimal_digit 1 (omega arith), ten, fast_rate, slow_rate) refl;
  no_caps = rw (ten, slow_rate) refl;
  unlinked = rw (decimal_digit 2 (omega arith), eleven) refl;
  past = rw (decimal_digit 1 (omega arith), fifteen, count_limit) refl;
}

pub stall_rows : StallRows
stall_rows = record {
  no_command = rw (twelve) refl;
  at_a_command = rw (decimal_digit 3 (omega arith), twelve) refl;
}
