-- What goes out of what waits at pads.
use Rattle.std.specs.Prelude.{List, [], ◌∷◌, ◌++◌, map, if◌then◌else◌, Result, Ok}
use Rattle.gst_item.specs.declared.out.Out.{Out}
use Rattle.flow_model.specs.Item.{Item, Ev, Eos}
use Rattle.flow_model.specs.Rule.{Fault}
use Rattle.el_join.specs.declared.sums.Sums.{Sums}
use Rattle.el_join.specs.declared.pad.Facts.{Facts}
use Rattle.el_join.specs.Outs.{items_of}
use Rattle.el_join.specs.Totals.{with_tally, raised, lifted}

-- what waits at pads that come behind earlier ones, up to the first pad without EOS
abbrev pub later : Sums → List Facts → List (List Out) → List (Result Item Fault)
later sums [] ws = Ok (Ev Eos) ∷ []
later sums (f ∷ fs) [] = Ok (Ev Eos) ∷ []
later sums (f ∷ fs) (w ∷ ws) = map (raised sums) (items_of w) ++ (if f.ended then later (with_tally sums f.tally) fs ws else [])

-- and as it goes out where all of it fits
abbrev pub going : Sums → List Facts → List (List Out) → List Item
going sums [] ws = Ev Eos ∷ []
going sums (f ∷ fs) [] = Ev Eos ∷ []
going sums (f ∷ fs) (w ∷ ws) = map (lifted sums) (items_of w) ++ (if f.ended then going (with_tally sums f.tally) fs ws else [])
