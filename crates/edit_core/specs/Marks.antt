-- The spans of an edited graph have no marks: no element is drained or set by the commands that there are.
use Rattle.std.specs.Prelude.{◌≡◌, ℕ, List, [], ◌∷◌, Some, slice_get}
use Rattle.flow_model.specs.Item.{Item}
use Rattle.flow_model.specs.Link.{Span}
use Rattle.graph_core.specs.Elements.{Made}
use Rattle.graph_pads.specs.declared.pad.PadLink.{PadLink}
use Rattle.net_groups.specs.Splits.{HaveNoMarks}
use Rattle.script_text.specs.declared.answer.Answer.{Answer}
use Rattle.script_text.specs.declared.command.Command.{Command}
use Rattle.graph_edits.specs.Edited.{Edited, unedited}
use Rattle.graph_edits.specs.Lawful.{IsAnswered}

-- no mark stands at the spans of these sink pads
abbrev pub AllUnmarked : List (List Span) → Type 0
AllUnmarked [] = Unit {0}
AllUnmarked (spans ∷ more) = HaveNoMarks spans × AllUnmarked more

abbrev pub IsUnmarked : Edited → Type 0
IsUnmarked g = (e : ℕ) → AllUnmarked (g.spans e)

-- So it is from the start, and behind each answer.
pub record StaysUnmarked : Type 0 where
  pub begins : (made : List Made) (links : List PadLink) → IsUnmarked (unedited made links)
  pub answered : (h owed : ℕ → List Item) (g after : Edited) (c : Command) (a : Answer) → IsAnswered g h owed c a after → IsUnmarked g → IsUnmarked after
  pub each : (sinks : List (List Span)) (port : ℕ) (spans : List Span) → AllUnmarked sinks → slice_get sinks port ≡ Some spans → HaveNoMarks spans
