-- The moment at which a run begins.
use Rattle.std.specs.Prelude.{◌≡◌, ℕ, List, [], ◌∷◌, map}
use Rattle.flow_model.specs.Call.{Call}
use Rattle.flow_model.specs.Link.{Span, Linked}
use Rattle.flow_model.specs.Eval.{Plan}
use Rattle.flow_model.specs.Moment.{Moment, CellStands}
use Rattle.flow_model.specs.Rule.{Answers}

-- a sink pad that is not linked, or that is linked from the start
pub data IsUntouched : List Span → Type 0 where
  free : IsUntouched []
  from_start : (source : ℕ) → IsUntouched (Linked source 0 [] ∷ [])

abbrev pub AllUntouched : List (List Span) → Type 0
AllUntouched [] = Unit {0}
AllUntouched (ss ∷ sss) = IsUntouched ss × AllUntouched sss

-- A graph to which nothing was done: no seek has cut a pad, and no link was made or undone.
pub record AtStart (plan : Plan) : Type 0 where
  pub uncut : (p : ℕ) → (plan.log p).cuts ≡ []
  pub links : (e : ℕ) → AllUntouched (plan.sinks e)

-- nothing at each sink pad of an element
abbrev pub no_calls : Plan → ℕ → List (List Call)
no_calls plan e = map (λ spans. []) (plan.sinks e)

-- Nothing has crossed, nothing was taken, and nothing stands in an inlet. What a rule owes for nothing waits: at the pad of
-- a source all that the source is to give before any seek, and at any other pad nothing, since its element owes nothing.
abbrev pub opening : Plan → (ℕ → Answers) → Moment
opening plan answers =
    record {
      plan = plan;
      history = λ p. [];
      took = no_calls plan;
      held = no_calls plan;
      waits = λ p. plan.rule (plan.owner p) (no_calls plan (plan.owner p)) (plan.port p) 0;
      answers = answers;
    }

-- Every element stands there.
abbrev pub OpeningStands : Type 0
OpeningStands = (plan : Plan) (answers : ℕ → Answers) → AtStart plan → (e : ℕ) → CellStands (opening plan answers) e
