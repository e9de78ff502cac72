-- That there is no choice for the caps of a stream.
use Rattle.std.specs.Prelude.{◌≡◌, ⊤, None, Some}
use Rattle.gst_value.specs.Description.{Description}
use Rattle.gst_caps.specs.declared.caps.Caps.{Caps}
use Rattle.gst_value.specs.declared.one.One.{One}
use Rattle.flow_model.specs.declared.fault.ElementFault.{ElementFault}
use Rattle.flow_model.specs.declared.fault.ElementFault.TheVariants.{NotNegotiated, BadStream, TooLong, OutOfMemory}
use Rattle.el_convert.specs.Choice.{choice}

-- nothing of what these caps can become is allowed, unless memory is wanting
abbrev pub IsRefusal : Description One → Caps → ElementFault → Type 0
IsRefusal caps allowed (NotNegotiated offered wanted) = (choice caps allowed ≡ None) × (offered ≡ Some caps) × (wanted ≡ allowed)
IsRefusal caps allowed (BadStream place kind) = ⊥
IsRefusal caps allowed (TooLong a b) = ⊥
IsRefusal caps allowed OutOfMemory = ⊤
