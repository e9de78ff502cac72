-- The plan of a graph for the moments of its run.
use Rattle.std.specs.Prelude.{ℕ, List, Option, None, Some, if◌then◌else◌, slice_get}
use Rattle.flow_model.specs.Rule.{Rule, passes, Answers}
use Rattle.flow_model.specs.Eval.{Plan}
use Rattle.el_settings.specs.Asked.{is_sink}
use Rattle.el_set.specs.Denoted.{answers_by, answers_of}
use Rattle.task_elements.specs.Stands.{owes_nothing}
use Rattle.graph_core.specs.Elements.{Made}
use Rattle.graph_core.specs.Graph.{made as made_in}
use Rattle.graph_core.specs.declared.graph.Graph.{Graph}
use Rattle.graph_core.specs.GraphPlan.{graph_plan, rule_for}
use Rattle.graph_parts.specs.Pads.{pad_owner}

-- What an element owes at its source pads, by its settings. A sink, which has none, owes nothing.
abbrev pub tight_rule : Option Made → ℕ → List ℕ → Rule
tight_rule None e content = owes_nothing
tight_rule (Some m) e content = if is_sink m.settings then owes_nothing else rule_for (Some m) e content

-- The plan of the graph, except that a number without a source pad belongs to no element, and that a sink owes nothing.
abbrev pub tight_plan : (ℕ → List ℕ) → Graph → (ℕ → ℕ) → Plan
tight_plan contents graph count =
    record (graph_plan contents graph count) {
      owner = pad_owner (made_in graph);
      rule = λ e. tight_rule (slice_get (made_in graph) e) e (contents e);
    }

-- the same for moments, which look at no counts
abbrev pub moment_plan : (ℕ → List ℕ) → Graph → Plan
moment_plan contents graph = tight_plan contents graph (λ q. 0)

-- what an element answers to one item more, by its settings; where there is none, as one that passes all
abbrev pub answers_for : Option Made → Answers
answers_for None = answers_by passes
answers_for (Some m) = answers_of m.settings

abbrev pub moment_answers : Graph → ℕ → Answers
moment_answers graph e = answers_for (slice_get (made_in graph) e)
