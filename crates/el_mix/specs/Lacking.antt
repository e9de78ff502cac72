-- From which pad the next item is wanted, by the pads' lists of one section.
use Rattle.std.specs.Prelude.{ℕ, Bool, true, false, List, Option, None, Some, if◌then◌else◌, nat_le}
use Rattle.gst_value.specs.Description.{Description}
use Rattle.gst_value.specs.declared.one.One.{One}
use Rattle.flow_model.specs.Item.{Item, is_eos}
use Rattle.el_mix.specs.Mono.{mono_of}
use Rattle.el_mix.specs.Mixed.{has, frames}
use Rattle.el_mix.specs.Agreed.{or_else, pad_caps}
use Rattle.el_mix.specs.Mixes.{is_start}
use Rattle.el_mix.specs.Standing.{opened, limit_in}
use Rattle.el_mix.specs.Wanted.{lowest}

-- how many frames a pad has, by its own CAPS
abbrev pub frames_by : Option (Description One) → List Item → ℕ
frames_by None xs = 0
frames_by (Some caps) xs = frames (mono_of caps) xs

-- without frames behind those that went out and without EOS; without SEGMENT and EOS
abbrev pub lacks_frames : ℕ → List Item → Bool
lacks_frames next xs = if has is_eos xs then false else nat_le (frames_by (pad_caps xs) xs) next

abbrev pub lacks_start : List Item → Bool
lacks_start xs = if has is_start xs then false else true

-- the lowest pad without frames that wait and without EOS, and where there is none, the lowest one without SEGMENT and EOS
abbrev pub wanted_of : List (List Item) → Option ℕ
wanted_of xss = or_else (lowest (lacks_frames (limit_in (opened xss) xss)) 0 xss) (lowest lacks_start 0 xss)
