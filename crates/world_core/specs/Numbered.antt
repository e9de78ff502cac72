-- The numbers of commands.
use Rattle.std.specs.Prelude.{◌+◌, ℕ, Option, None, Some, if◌then◌else◌, min, nat_lt}

-- the number of the next command, where one is left behind so many that are answered: they are counted from 1 on, as far as 32 bits go
abbrev pub next_number : ℕ → ℕ → Option ℕ
next_number answered commands = if nat_lt answered commands then Some (min answered 4294967294 + 1) else None
