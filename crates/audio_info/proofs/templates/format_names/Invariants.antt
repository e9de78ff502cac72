use Rattle.std.proofs.Common.{◌≡◌, take, map}
use Rattle.audio_info.specs.Templates.{format_name}
use Rattle.audio_info.proofs.templates.format_names.Given as goal

abbrev pub invariant-loop-format : goal.invariant-loop-format
invariant-loop-format l = l.made ≡ map format_name (take l.format-index l.formats)
