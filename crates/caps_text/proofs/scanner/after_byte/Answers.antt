use Rattle.std.proofs.lemmas.Str.Pattern.{strip_prefix_char}
use Rattle.caps_text.proofs.Tokens.{after_of}
use Rattle.caps_text.proofs.scanner.after_byte.Goals as goal

pub returns : goal.returns
returns c = after_of c.args.mark c.args.text.now c.strip_prefix.result (strip_prefix_char c.args.mark c.args.text.now c.strip_prefix.result c.strip_prefix.ensures.cases c.requires)
