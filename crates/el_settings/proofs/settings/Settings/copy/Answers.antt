use Rattle.std.proofs.Common.{ap}
use Rattle.el_settings.specs.declared.settings.Settings.TheVariants.{FileSrc}
use Rattle.el_settings.specs.declared.settings.FileSrcSettings.{FileSrcSettings}
use Rattle.el_settings.proofs.Copied.{file_same}
use Rattle.el_settings.proofs.settings.Settings.copy.Goals as goal

pub returns-in_ok-copy-in-FileSrc : goal.returns-in_ok-copy-in-FileSrc
returns-in_ok-copy-in-FileSrc c = rw c.in-FileSrc.is (ap (λ (s : FileSrcSettings). FileSrc s) (file_same c.in-FileSrc.settings c.in_ok-copy-in-FileSrc.field-0 c.in_ok-copy-in-FileSrc.ensures _ _))
