-- The fault of an item that a parser refused.
use Rattle.std.specs.Prelude.{◌-◌}
use Rattle.gst_time.specs.declared.time.TheConstants.{LIMIT}
use Rattle.flow_model.specs.declared.fault.ElementFault.{ElementFault}
use Rattle.flow_model.specs.declared.fault.ElementFault.TheVariants.{TooLong as Passing, OutOfMemory as Wanting}
use Rattle.el_parse.specs.declared.raw_parse.Refusal.{Refusal}
use Rattle.el_parse.specs.declared.raw_parse.Refusal.TheVariants.{Late, OutOfMemory as NoMemory}
use Rattle.el_parse.specs.Parses.{Progress}

-- by how far the parser had come
abbrev pub fault_at : Progress → Refusal → ElementFault
fault_at p Late = Passing p.reached (LIMIT - p.reached)
fault_at p NoMemory = Wanting
