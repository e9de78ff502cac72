use Rattle.std.proofs.Common.{refl, sym}
use Rattle.el_convert.proofs.Conversion.{same_formats, weaken}
use Rattle.el_convert.proofs.bodies.converted_samples.Goals as goal

pub returns-in-S8 : goal.returns-in-S8
returns-in-S8 c = weaken c.from_width.result _ _ (λ made h. same_formats _ _ _ _ _ _ _ made.items (sym c.in-S8.is) refl h) c.from_width.ensures

pub returns-in-U8 : goal.returns-in-U8
returns-in-U8 c = weaken c.from_width-in-U8.result _ _ (λ made h. same_formats _ _ _ _ _ _ _ made.items (sym c.in-U8.is) refl h) c.from_width-in-U8.ensures

pub returns-in-S16LE : goal.returns-in-S16LE
returns-in-S16LE c = weaken c.from_width-in-S16LE.result _ _ (λ made h. same_formats _ _ _ _ _ _ _ made.items (sym c.in-S16LE.is) refl h) c.from_width-in-S16LE.ensures

pub returns-in-S16BE : goal.returns-in-S16BE
returns-in-S16BE c = weaken c.from_width-in-S16BE.result _ _ (λ made h. same_formats _ _ _ _ _ _ _ made.items (sym c.in-S16BE.is) refl h) c.from_width-in-S16BE.ensures

pub returns-in-S24LE : goal.returns-in-S24LE
returns-in-S24LE c = weaken c.from_width-in-S24LE.result _ _ (λ made h. same_formats _ _ _ _ _ _ _ made.items (sym c.in-S24LE.is) refl h) c.from_width-in-S24LE.ensures

pub returns-in-S32LE : goal.returns-in-S32LE
returns-in-S32LE c = weaken c.from_width-in-S32LE.result _ _ (λ made h. same_formats _ _ _ _ _ _ _ made.items (sym c.in-S32LE.is) refl h) c.from_width-in-S32LE.ensures
