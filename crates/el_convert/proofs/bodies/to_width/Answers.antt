use Rattle.el_convert.proofs.Conversion.{kept_whole, doubled_whole, halved_whole, weaken}
use Rattle.el_convert.proofs.bodies.to_width.Goals as goal

pub returns-then-before-after : goal.returns-then-before-after
returns-then-before-after g c = weaken c.doubled.result _ _ (λ made h. doubled_whole c.args.from c.args.to c.args.before c.args.after _ c.args.bytes.now _ made.items c.requires.bytes_in c.if-before-after.true c.as_chunks.ensures.front h) c.doubled.ensures

pub returns-then-after-before : goal.returns-then-after-before
returns-then-after-before g c = weaken c.halved.result _ _ (λ made h. halved_whole c.args.from c.args.to c.args.before c.args.after _ c.args.bytes.now _ _ made.items c.requires.bytes_in c.if-before-after.false c.if-after-before.true c.as_chunks.ensures.front c.as_chunks-then-after-before.ensures.front h) c.halved.ensures

pub returns-else-after-before : goal.returns-else-after-before
returns-else-after-before g c = weaken c.kept.result _ _ (λ made h. kept_whole c.args.from c.args.to c.args.before c.args.after _ c.args.bytes.now _ made.items c.requires.bytes_in c.if-after-before.false c.if-before-after.false c.as_chunks.ensures.front h) c.kept.ensures
