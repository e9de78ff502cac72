-- The evaluation of an edited graph, and what crossed its pads at a moment of a run that commands edited.
use Rattle.std.specs.Prelude.{◌≡◌, ◌<◌, ◌≤◌, ℕ, true, All, List, [], if◌then◌else◌, length}
use Rattle.flow_model.specs.Item.{Item}
use Rattle.flow_model.specs.Account.{EachSourceOf}
use Rattle.flow_model.specs.Eval.{Plan, eval}
use Rattle.flow_model.specs.Moment.{Moment, CellStands}
use Rattle.flow_model.specs.Split.{AreEmpty}
use Rattle.flow_model.specs.Step.{planned}
use Rattle.flow_model.specs.Whole.{CellBegins}
use Rattle.el_settings.specs.Asked.{is_sink}
use Rattle.task_elements.specs.Stands.{owes_nothing}
use Rattle.graph_core.specs.Elements.{Made, has, limit}
use Rattle.graph_core.specs.GraphPlan.{IsIn, owner_of, pad_id}
use Rattle.graph_core.specs.Links.{HasPads}
use Rattle.graph_pads.specs.declared.pad.PadLink.{PadLink}
use Rattle.graph_parts.specs.Pads.{is_pad}
use Rattle.script_text.specs.declared.answer.Answer.{Answer}
use Rattle.script_text.specs.declared.command.Command.{Command}
use Rattle.graph_edits.specs.Edited.{Edited, unedited}
use Rattle.graph_edits.specs.Lawful.{IsAnswered, owed_by}
use Rattle.graph_edits.specs.Plans.{IsOrder, edited_plan, edited_rule}

-- the element of a source pad; a number without a pad belongs to a number past all elements
abbrev pub owner_in : List Made → ℕ → ℕ
owner_in made p = if is_pad made p then owner_of p else limit

-- The plan of an edited graph for the moments of its run: a number without a source pad belongs to no element, and a sink owes nothing.
abbrev pub moment_plan : (ℕ → List ℕ) → Edited → Plan
moment_plan contents g =
    record (edited_plan contents g [] (λ q. 0)) {
      owner = owner_in g.made;
      rule = λ e. if has is_sink g.made e then owes_nothing else edited_rule contents g e;
    }

-- one of the links that ever were made leads from this source pad to the element
pub record ComesFrom (g : Edited) (e p : ℕ) : Type 0 where
  pub link : PadLink
  pub is : IsIn link g.ever
  pub sink : link.sink.element ≡ e
  pub number : pad_id link.source ≡ p

-- What sink pads are given comes from links that were made, and the pads of these are those of their elements.
pub record AreMade (g : Edited) : Type 0 where
  pub spans : (e : ℕ) → EachSourceOf (ComesFrom g e) (g.spans e)
  pub pads : All (HasPads g.made) g.ever

-- So it is from the start, and behind each answer.
pub record StaysMade : Type 0 where
  pub begins : (made : List Made) (links : List PadLink) → All (HasPads made) links → AreMade (unedited made links)
  pub answered : (h owed : ℕ → List Item) (g after : Edited) (c : Command) (a : Answer) → IsAnswered g h owed c a after → AreMade g → AreMade after

-- At a moment, behind a fault too, the histories are those of the evaluation, cut at their lengths.
abbrev pub EditedIsEval : Type 0
EditedIsEval = (contents : ℕ → List ℕ) (g : Edited) (forward : List ℕ) (m : Moment) → IsOrder g forward → AreMade g → length g.made ≤ limit
    → ((e : ℕ) → e < length g.made → CellBegins (planned (moment_plan contents g) m) e)
    → (p : ℕ) → is_pad g.made p ≡ true → eval (edited_plan contents g forward (λ q. length (m.history q))) p ≡ m.history p

-- Where an element stands, nothing stands in its inlets and nothing waits at its pad, that is all that is owed to the pad.
abbrev pub EditedIsWhole : Type 0
EditedIsWhole = (contents : ℕ → List ℕ) (g : Edited) (forward : List ℕ) (m : Moment) (p : ℕ) → is_pad g.made p ≡ true
    → CellStands (planned (moment_plan contents g) m) (owner_of p) → AreEmpty (m.held (owner_of p)) → m.waits p ≡ []
    → owed_by (edited_plan contents g forward (λ q. length (m.history q))) m.history p ≡ m.history p
