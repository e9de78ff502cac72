-- The numbers of GStreamer's GstFlowReturn.
use Rattle.std.specs.Prelude.{ℤ, pos, negsuc}
use Rattle.gst_item.specs.declared.flow.Flow.{Flow}
use Rattle.gst_item.specs.declared.flow.Flow.TheVariants.{Ok, NotLinked, Flushing, Eos, NotNegotiated, Error, NotSupported}

-- `negsuc n` is -(n + 1)
abbrev pub code_of : Flow → ℤ
code_of Ok = pos 0
code_of NotLinked = negsuc 0
code_of Flushing = negsuc 1
code_of Eos = negsuc 2
code_of NotNegotiated = negsuc 3
code_of Error = negsuc 4
code_of NotSupported = negsuc 5
