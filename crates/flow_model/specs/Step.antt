-- The moves of a run, each a function of the moment: an item crosses a source pad inside a task, into a lane or to nobody,
-- or a head takes from an inlet.
use Rattle.std.specs.Prelude.{◌≡◌, ◌≢◌, ℕ, ◌==◌, if◌then◌else◌, List, [], ◌∷◌, ◌++◌}
use Rattle.flow_model.specs.Item.{Item}
use Rattle.flow_model.specs.Call.{Call, Feed}
use Rattle.flow_model.specs.Eval.{Plan}
use Rattle.flow_model.specs.Moment.{Moment, Keeps, put_at}
use Rattle.flow_model.specs.Pad.{Grows}
use Rattle.flow_model.specs.Split.{front_calls, NoneAt}
use Rattle.flow_model.specs.SinkPads.{push_calls}
use Rattle.flow_model.specs.Standing.{LinksAt, LinksNowhere}

-- an item has crossed a source pad, and the rest waits there
abbrev pub crossed : ℕ → Item → List Item → Moment → Moment
crossed p x rest m = record m { history = put_at p (m.history p ++ x ∷ []) m.history; waits = put_at p rest m.waits }

-- an element has taken these lists in all, and put out more, which `out` tells by the ports of its source pads
abbrev pub fed : ℕ → List (List Call) → (ℕ → List Item) → Moment → Moment
fed e took out m =
    record m { took = put_at e took m.took; waits = λ q. if m.plan.owner q == e then m.waits q ++ out (m.plan.port q) else m.waits q }

-- these lists stand in the inlets of an element
abbrev pub laid : ℕ → List (List Call) → Moment → Moment
laid e held m = record m { held = put_at e held m.held }

-- the graph is another one
abbrev pub planned : Plan → Moment → Moment
planned plan m = record m { plan = plan }

-- what an element puts out is what its rule owes more, once it has taken these lists
abbrev pub PutsOut : Moment → ℕ → List (List Call) → (ℕ → List Item) → Type 0
PutsOut m e took out =
    (q : ℕ) → m.plan.owner q ≡ e → Grows 0 (m.plan.log q).cuts (m.plan.rule e (m.took e) (m.plan.port q)) (m.plan.rule e took (m.plan.port q)) (out (m.plan.port q))

-- The link of a source pad that stands is that of this sink pad, and there is no other.
pub record Leads (plan : Plan) (p e i : ℕ) : Type 0 where
  pub here : LinksAt p i (plan.sinks e)
  pub elsewhere : (a : ℕ) → a ≢ e → LinksNowhere p (plan.sinks a)

-- no link of a source pad stands
abbrev pub LeadsNowhere : Plan → ℕ → Type 0
LeadsNowhere plan p = (a : ℕ) → LinksNowhere p (plan.sinks a)

-- An item crosses a pad inside a task: the element behind the pad takes it.
abbrev pub passed : ℕ → Item → List Item → ℕ → ℕ → (ℕ → List Item) → Moment → Moment
passed p x rest e i out m = fed e (push_calls i (Feed x ∷ []) (m.took e)) out (crossed p x rest m)

pub record Passes (m : Moment) (p : ℕ) (x : Item) (rest : List Item) (e i : ℕ) (out : ℕ → List Item) : Type 0 where
  pub waited : m.waits p ≡ x ∷ rest
  pub leads : Leads m.plan p e i
  pub inner : NoneAt i (m.held e)
  pub puts_out : PutsOut m e (push_calls i (Feed x ∷ []) (m.took e)) out

-- An item crosses a pad into a lane: it stands in the inlet of the element behind the pad.
abbrev pub sent : ℕ → Item → List Item → ℕ → ℕ → Moment → Moment
sent p x rest e i m = laid e (push_calls i (Feed x ∷ []) (m.held e)) (crossed p x rest m)

pub record Sends (m : Moment) (p : ℕ) (x : Item) (rest : List Item) (e i : ℕ) : Type 0 where
  pub waited : m.waits p ≡ x ∷ rest
  pub leads : Leads m.plan p e i

-- An item crosses a pad that is not linked, and reaches nobody.
pub record Leaves (m : Moment) (p : ℕ) (x : Item) (rest : List Item) : Type 0 where
  pub waited : m.waits p ≡ x ∷ rest
  pub leads : LeadsNowhere m.plan p

-- The head of a task takes the first of what stands in one of its inlets, be it from the lane or given by control.
abbrev pub taken : ℕ → ℕ → Call → List (List Call) → (ℕ → List Item) → Moment → Moment
taken e i c rest out m = fed e (push_calls i (c ∷ []) (m.took e)) out (laid e rest m)

pub record Takes (m : Moment) (e i : ℕ) (c : Call) (rest : List (List Call)) (out : ℕ → List Item) : Type 0 where
  pub held : m.held e ≡ front_calls i c rest
  pub puts_out : PutsOut m e (push_calls i (c ∷ []) (m.took e)) out

-- Each move keeps what stands.
abbrev pub PassingKeeps : Type 0
PassingKeeps = (m : Moment) (p : ℕ) (x : Item) (rest : List Item) (e i : ℕ) (out : ℕ → List Item) → Passes m p x rest e i out → Keeps m (passed p x rest e i out m)

abbrev pub SendingKeeps : Type 0
SendingKeeps = (m : Moment) (p : ℕ) (x : Item) (rest : List Item) (e i : ℕ) → Sends m p x rest e i → Keeps m (sent p x rest e i m)

abbrev pub LeavingKeeps : Type 0
LeavingKeeps = (m : Moment) (p : ℕ) (x : Item) (rest : List Item) → Leaves m p x rest → Keeps m (crossed p x rest m)

abbrev pub TakingKeeps : Type 0
TakingKeeps = (m : Moment) (e i : ℕ) (c : Call) (rest : List (List Call)) (out : ℕ → List Item) → Takes m e i c rest out → Keeps m (taken e i c rest out m)
