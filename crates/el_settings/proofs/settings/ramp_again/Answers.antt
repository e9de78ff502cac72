use Rattle.std.proofs.Common.{ap}
use Rattle.el_settings.specs.declared.settings.Settings.TheVariants.{RampTestSrc}
use Rattle.el_settings.specs.declared.settings.RampTestSrcSettings.{RampTestSrcSettings}
use Rattle.el_settings.proofs.Copied.{titled}
use Rattle.el_settings.proofs.settings.ramp_again.Goals as goal

pub returns : goal.returns
returns c = ap (λ (s : RampTestSrcSettings). RampTestSrc s) (titled c.args.settings.now c.in_ok-title.title c.in_ok-title.ensures _ _ _ _ _ _ _ _ _)
