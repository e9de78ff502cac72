-- The last numbers of buffers for which commands wait.
use Rattle.std.specs.Prelude.{String, ◌≡◌, ◌<◌, ◌≤◌, ℕ, cond, List, IsOk, Result, Ok, Err, nat_lt, unwrap_or}
use Rattle.std.specs.BTreeMap.{BTreeMap, get_by_text}
use Rattle.std.specs.List.{list_any}
use Rattle.std.specs.Str.{bytes_eq}
use Rattle.std.specs.declared.alloc.Global.{Global}
use Rattle.script_text.specs.Commands.{spelled}
use Rattle.script_text.specs.Scripts.{waits_beyond}
use Rattle.script_text.specs.declared.command.Command.{Command}
use Rattle.script_text.specs.declared.command.When.{When}
use Rattle.script_text.specs.declared.command.When.TheVariants.{At, NowPad, Now}
use Rattle.script_text.specs.declared.fault.Refusal.{Refusal}
use Rattle.script_text.specs.declared.fault.Refusal.TheVariants.{Bad, OutOfMemory}
use Rattle.script_text.specs.declared.fault.ScriptKind.TheVariants.{Backwards}

-- the last number for the pad, and 0 where there is none
abbrev pub last_of : BTreeMap (String Global) ℕ → List ℕ → ℕ
last_of latest pad = unwrap_or (get_by_text latest pad) 0

-- commands wait for more buffers of a pad than these where the last number is more
abbrev pub IsLatest : BTreeMap (String Global) ℕ → List Command → Type 0
IsLatest latest commands = (pad : List ℕ) (buffers : ℕ) → list_any (λ command. waits_beyond pad buffers command.when) commands ≡ nat_lt buffers (last_of latest pad)

-- the number is the last one for the pad, or it is too small
abbrev pub Noted : {X : Type 0} → BTreeMap (String Global) ℕ → BTreeMap (String Global) ℕ → List ℕ → ℕ → Result X Refusal → Type 0
Noted old new pad buffers (Ok x) = (last_of old pad ≤ buffers) × ((other : List ℕ) → last_of new other ≡ cond (bytes_eq pad other) buffers (last_of old other))
Noted old new pad buffers (Err (Bad kind)) = (buffers < last_of old pad) × (kind ≡ Backwards)
Noted old new pad buffers (Err OutOfMemory) = Unit {0}

-- the same for the time of a command, which may have no number
abbrev pub NotedWhen : {X : Type 0} → BTreeMap (String Global) ℕ → BTreeMap (String Global) ℕ → When → Result X Refusal → Type 0
NotedWhen old new (At pad buffers) answer = Noted old new (spelled pad) buffers answer
NotedWhen old new (NowPad pad) answer = (new ≡ old) × IsOk answer
NotedWhen old new Now answer = (new ≡ old) × IsOk answer
