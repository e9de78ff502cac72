-- The plan by which an edited graph is evaluated.
use Rattle.std.specs.Prelude.{◌≡◌, ◌<◌, ◌%◌, ◌&&◌, ℕ, Bool, not, List, [], if◌then◌else◌, length, slice_get}
use Rattle.flow_model.specs.Item.{Item}
use Rattle.flow_model.specs.Call.{Call, items}
use Rattle.flow_model.specs.Link.{input_of}
use Rattle.flow_model.specs.Rule.{Rule}
use Rattle.flow_model.specs.Eval.{Plan}
use Rattle.el_settings.specs.Asked.{is_source}
use Rattle.graph_core.specs.Elements.{has}
use Rattle.graph_core.specs.GraphPlan.{most_pads, owner_of, rule_for}
use Rattle.graph_order.specs.Forward.{GoForward, IsMember}
use Rattle.graph_core.specs.Links.{ways}
use Rattle.graph_pads.specs.declared.pad.PadPlace.{PadPlace}
use Rattle.graph_edits.specs.Edited.{Edited, is_active, spans_at}

-- a source that was never linked since it was added
abbrev pub is_asleep : Edited → ℕ → Bool
is_asleep g e = has is_source g.made e && not (is_active g e)

-- What an element owes. A source that is asleep owes nothing; another element that was never linked took nothing yet.
abbrev pub edited_rule : (ℕ → List ℕ) → Edited → ℕ → Rule
edited_rule contents g e = if is_asleep g e then (λ inputs port j. []) else rule_for (slice_get g.made e) e (contents e)

-- The plan of an edited graph: its elements with the spans of their sink pads, what each reads, and how many items crossed each
-- source pad.
unfoldable pub edited_plan : (ℕ → List ℕ) → Edited → List ℕ → (ℕ → ℕ) → Plan
edited_plan contents g forward count =
    record {
      forward = forward;
      owner = owner_of;
      port = λ p. p % most_pads;
      sinks = g.spans;
      rule = edited_rule contents g;
      log = λ p. record { cuts = []; count = count p };
    }

-- an order of all elements, each once, in which each link that ever was made goes forward
pub record IsOrder (g : Edited) (forward : List ℕ) : Type 0 where
  pub whole : (e : ℕ) → e < length g.made → IsMember e forward
  pub size : length forward ≡ length g.made
  pub goes : GoForward (ways g.ever) forward

-- what a sink pad is given, by the histories of the source pads
abbrev pub given_at : Edited → (ℕ → List Item) → PadPlace → List Call
given_at g h sink = input_of h (spans_at g sink)

abbrev pub items_at : Edited → (ℕ → List Item) → PadPlace → List Item
items_at g h sink = items (given_at g h sink)
