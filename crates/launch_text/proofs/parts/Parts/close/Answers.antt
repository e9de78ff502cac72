-- The last open bracket is taken off.
use Rattle.launch_text.specs.Reading.{held}
use Rattle.launch_text.proofs.Steps.{close_is}
use Rattle.launch_text.proofs.parts.Parts.close.Goals as goal

pub returns : goal.returns
returns c = close_is (held c.args.self.now) c.pop.new.self.items c.in-Some.before c.replace-parts.new.dest c.push.new.self c.replace-parts.result c.in-Some.ensures.items c.replace-parts.ensures.after c.replace-parts.ensures.value c.in_ok-push.ensures.ok
