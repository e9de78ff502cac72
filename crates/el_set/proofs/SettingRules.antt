-- The rule of all settings owes EOS where it was fed, and nothing behind it.
use Rattle.el_set.specs.Denoted.{response_of}
use Rattle.el_set.specs.Ends.{EndsWithEos}
use Rattle.el_settings.specs.declared.settings.Settings.{Settings}
use Rattle.el_set.proofs.EachEnding.{response_ending}
use Rattle.el_set.proofs.Ending.{ending_ends}

pub settings_end : (settings : Settings) → EndsWithEos (response_of settings)
settings_end settings = ending_ends (response_of settings) (response_ending settings)
