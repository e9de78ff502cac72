-- The choice of the caps that a converter puts out.
use Rattle.std.specs.Prelude.{Option}
use Rattle.gst_caps.specs.Accepts.{fixation, intersection}
use Rattle.gst_value.specs.Description.{Description}
use Rattle.gst_caps.specs.declared.caps.Caps.{Caps}
use Rattle.gst_value.specs.declared.one.One.{One}
use Rattle.el_convert.specs.Raw.{options}

-- the first of what the stream's caps can become that is allowed, if there is any
unfoldable pub choice : Description One → Caps → Option (Description One)
choice caps allowed = fixation (intersection (options caps) allowed)
