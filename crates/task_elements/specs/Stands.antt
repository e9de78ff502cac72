-- For which behavior, and for which lists at its sink pads, an element of a stream stands.
use Rattle.std.specs.Prelude.{◌≡◌, ℕ, Bool, true, false, List, [], ◌∷◌, if◌then◌else◌, replicate, Option, None, Some}
use Rattle.std.specs.Option.{option_map}
use Rattle.flow_model.specs.Item.{Item}
use Rattle.flow_model.specs.Call.{Call, feeds}
use Rattle.flow_model.specs.Rule.{Rule, Response, single, passes}
use Rattle.flow_model.specs.Moment.{Behavior}
use Rattle.el_basic.specs.declared.identity.Identity.{Identity}
use Rattle.el_basic.specs.declared.tee.Tee.{Tee}
use Rattle.el_basic.specs.Passed.{has_ended}
use Rattle.el_basic.specs.Spread.{Spread, has_ended as tee_has_ended, pad_count}
use Rattle.el_set.specs.declared.filter.FilterElement.{FilterElement}
use Rattle.el_set.specs.declared.filter.FilterElement.TheVariants.{Identity as PassesAll}
use Rattle.el_set.specs.declared.join.JoinElement.{JoinElement}
use Rattle.el_set.specs.declared.sink.SinkElement.{SinkElement}
pub use Rattle.el_set.specs.Denoted.{answers_by}
use Rattle.el_set.specs.Joins.{JoinStands, join_answers, join_pads, join_rule, join_wanted}
use Rattle.el_set.specs.Stands.{Stands, has_passed_eos}
use Rattle.el_set.specs.Holds.{SinkHeld, SinkPart, sink_file, sink_len, sink_faults}
use Rattle.task_elements.specs.declared.element.StreamElement.{StreamElement}
use Rattle.task_elements.specs.declared.element.StreamElement.TheVariants.{Filter, Queue, Tee as Splits, Join, Sink}

-- what an element with one sink pad does
abbrev pub behaves : Response → Behavior
behaves respond = record { owes = single respond; answers = answers_by respond }

-- It took one list, and does what a response says, by which it stands for the list and for what it put out.
pub record FilterTook (filter : FilterElement) (behavior : Behavior) (took : List (List Call)) : Type 0 where
  pub respond : Response
  pub calls : List Call
  pub put : List Item
  pub behavior_is : behavior ≡ behaves respond
  pub took_is : took ≡ calls ∷ []
  pub stands : Stands respond filter calls put

-- It took one list, and has put out on each of its source pads, which it all had from the start, what it passes.
pub record TeeTook (tee : Tee) (behavior : Behavior) (took : List (List Call)) : Type 0 where
  pub calls : List Call
  pub puts : List (List Item)
  pub behavior_is : behavior ≡ behaves passes
  pub took_is : took ≡ calls ∷ []
  pub spread : Spread tee (replicate (pad_count tee) 0) calls puts

-- what an element with several sink pads does
abbrev pub joins : JoinElement → Behavior
joins join = record { owes = join_rule join; answers = join_answers join }

-- It took these lists, and stands for them and for what it put out in the section that is open.
pub record JoinTook (join : JoinElement) (behavior : Behavior) (took : List (List Call)) : Type 0 where
  pub put : List Item
  pub behavior_is : behavior ≡ joins join
  pub stands : JoinStands join took put

-- nothing is owed on any source pad
abbrev pub owes_nothing : Rule
owes_nothing inputs port j = []

-- a sink owes nothing, and has a fault at no item
abbrev pub takes_all : Behavior
takes_all = record { owes = owes_nothing; answers = answers_by passes }

-- It took one list, of items alone, for which it owes nothing; keep says whether a flush keeps the bytes of its file.
pub record SinkTook (Told : Bool → List Item → Type 0) (behavior : Behavior) (took : List (List Call)) : Type 0 where
  pub keep : Bool
  pub list : List Item
  pub behavior_is : behavior ≡ takes_all
  pub took_is : took ≡ feeds list ∷ []
  pub told : Told keep list

abbrev pub SinkStands : {K : Type 0} → (K → Option (List ℕ)) → SinkElement K → Behavior → List (List Call) → Type 0
SinkStands bytes sink = SinkTook (λ keep list. SinkHeld bytes keep sink list)

-- and then an item of which a write failed
abbrev pub SinkFell : {K : Type 0} → (K → Option (List ℕ)) → SinkElement K → Item → Behavior → List (List Call) → Type 0
SinkFell bytes sink x = SinkTook (λ keep list. SinkPart bytes keep sink list x)

-- a queue is a filter that passes all
abbrev pub passing : Identity → FilterElement
passing queue = PassesAll queue

-- an element of any role stands for what it does and for what it took
abbrev pub StreamStands : {K : Type 0} → (K → Option (List ℕ)) → StreamElement K → Behavior → List (List Call) → Type 0
StreamStands bytes (Filter filter) = FilterTook filter.filter
StreamStands bytes (Queue queue) = FilterTook (passing queue)
StreamStands bytes (Splits tee) = TeeTook tee
StreamStands bytes (Join join) = JoinTook join.join
StreamStands bytes (Sink sink) = SinkStands bytes sink

-- the same behind an item that it refused: of a sink a write failed, and each other is as before
abbrev pub StreamFell : {K : Type 0} → (K → Option (List ℕ)) → StreamElement K → Behavior → List (List Call) → ℕ → Item → Type 0
StreamFell bytes (Filter filter) behavior took pad x = FilterTook filter.filter behavior took
StreamFell bytes (Queue queue) behavior took pad x = FilterTook (passing queue) behavior took
StreamFell bytes (Splits tee) behavior took pad x = TeeTook tee behavior took
StreamFell bytes (Join join) behavior took pad x = JoinTook join.join behavior took
StreamFell bytes (Sink sink) behavior took pad x = SinkFell bytes sink x behavior took

-- how many source pads there are, and how many sink pads
abbrev pub pads_of : {K : Type 0} → StreamElement K → ℕ
pads_of (Filter filter) = 1
pads_of (Queue queue) = 1
pads_of (Splits tee) = pad_count tee
pads_of (Join join) = 1
pads_of (Sink sink) = 0

abbrev pub sinks_of : {K : Type 0} → StreamElement K → ℕ
sinks_of (Join join) = join_pads join.join
sinks_of _ = 1

-- the only sink pad, where more is wanted
abbrev pub first_unless : Bool → Option ℕ
first_unless over = if over then None else Some 0

-- the sink pad from which it wants its next item, where it is fed from inlets; what passes all wants none behind EOS
abbrev pub wanted_of : {K : Type 0} → StreamElement K → Option ℕ
wanted_of (Filter filter) = first_unless (has_passed_eos filter.filter)
wanted_of (Queue queue) = first_unless (has_ended queue)
wanted_of (Splits tee) = first_unless (tee_has_ended tee)
wanted_of (Join join) = join_wanted join.join
wanted_of (Sink sink) = Some 0

-- whether it is one of those with several sink pads
abbrev pub is_join : {K : Type 0} → StreamElement K → Bool
is_join (Join join) = true
is_join _ = false

-- the sink, what it writes to, and the length of that
abbrev pub sink_in : {K : Type 0} → StreamElement K → Option (SinkElement K)
sink_in (Sink sink) = Some sink
sink_in _ = None

abbrev pub file_in : {K : Type 0} → StreamElement K → Option K
file_in (Sink sink) = sink_file sink
file_in _ = None

abbrev pub len_in : {K : Type 0} → StreamElement K → Option ℕ
len_in (Sink sink) = sink_len sink
len_in _ = None

-- its location and its count of failures
abbrev pub location_in : {K : Type 0} → (K → Option (List ℕ)) → StreamElement K → Option (Option (List ℕ))
location_in location element = option_map location (file_in element)

abbrev pub faults_in : {K : Type 0} → (K → ℕ) → StreamElement K → Option ℕ
faults_in faults (Sink sink) = sink_faults faults sink
faults_in faults _ = None
