-- The evaluation of a graph: one pass over its elements, in an order in which each link goes forward.
use Rattle.std.specs.Prelude.{ℕ, suc, ◌-◌, ◌==◌, List, [], ◌∷◌, ◌++◌, if◌then◌else◌, take, map}
use Rattle.flow_model.specs.Item.{Item, Ev, FlushStop}
use Rattle.flow_model.specs.Call.{Call}
use Rattle.flow_model.specs.Rule.{Rule, Owed}
use Rattle.flow_model.specs.Link.{Span, input_of}

-- What a report says of a source pad: for each seek that it took part in the seek's number and the place
-- on the pad, and how many items have crossed it in the end.
pub record PadLog : Type 0 where
  pub cuts : List (ℕ × ℕ)
  pub count : ℕ

-- what is owed in section j up to its cut, FLUSH_STOP, and so on, and all that is owed in the last section
abbrev pub cut_at : ℕ → ℕ → List (ℕ × ℕ) → Owed → List Item
cut_at base j [] owed = owed j
cut_at base j (c ∷ cs) owed = take (c.1 - base) (owed j) ++ Ev (FlushStop c.0) ∷ cut_at (suc c.1) (suc j) cs owed

-- the history of a pad, by what is owed to it
abbrev pub crossed : PadLog → Owed → List Item
crossed log owed = take log.count (cut_at 0 0 log.cuts owed)

-- A graph with all that was done to it. Elements and source pads have numbers.
pub record Plan : Type 0 where
  -- the elements, in an order in which each link goes forward
  pub forward : List ℕ
  -- the element of a source pad, and the pad's number there
  pub owner : ℕ → ℕ
  pub port : ℕ → ℕ
  -- the links of each sink pad of an element
  pub sinks : ℕ → List (List Span)
  pub rule : ℕ → Rule
  pub log : ℕ → PadLog

abbrev pub inputs : Plan → (ℕ → List Item) → ℕ → List (List Call)
inputs plan h e = map (input_of h) (plan.sinks e)

-- the histories after an element's pads were found
abbrev pub with_element : Plan → ℕ → (ℕ → List Item) → ℕ → List Item
with_element plan e h p = if plan.owner p == e then crossed (plan.log p) (plan.rule e (inputs plan h e) (plan.port p)) else h p

abbrev pub eval_over : Plan → List ℕ → (ℕ → List Item) → ℕ → List Item
eval_over plan [] h = h
eval_over plan (e ∷ es) h = eval_over plan es (with_element plan e h)

-- the history of each source pad
abbrev pub eval : Plan → ℕ → List Item
eval plan = eval_over plan plan.forward (λ p. [])

-- the same without the counts: all that is owed crosses
abbrev pub with_whole : Plan → ℕ → (ℕ → List Item) → ℕ → List Item
with_whole plan e h p = if plan.owner p == e then cut_at 0 0 (plan.log p).cuts (plan.rule e (inputs plan h e) (plan.port p)) else h p

abbrev pub whole_over : Plan → List ℕ → (ℕ → List Item) → ℕ → List Item
whole_over plan [] h = h
whole_over plan (e ∷ es) h = whole_over plan es (with_whole plan e h)

-- the history of each source pad, were nothing left waiting
abbrev pub eval_whole : Plan → ℕ → List Item
eval_whole plan = whole_over plan plan.forward (λ p. [])
