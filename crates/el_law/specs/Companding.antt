-- The formats of codes by their law.
use Rattle.audio_info.specs.declared.sample.Sample.{Sample}
use Rattle.audio_info.specs.declared.sample.Sample.TheVariants.{MuLaw as MuLawCodes, ALaw as ALawCodes}
use Rattle.el_law.specs.declared.recode.Companding.{Companding}
use Rattle.el_law.specs.declared.recode.Companding.TheVariants.{MuLaw, ALaw}

-- the format of a law's codes
abbrev pub format_of : Companding → Sample
format_of MuLaw = MuLawCodes
format_of ALaw = ALawCodes
