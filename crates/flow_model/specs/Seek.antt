-- A flushing seek, as a function of the moment. What waits at pads and stands in inlets is dropped, and counts as taken;
-- FLUSH_STOP crosses each source pad that takes part and is given to the sink pads; sources begin anew. After GStreamer's
-- design document on seeking.
use Rattle.std.specs.Prelude.{◌≡◌, ℕ, Bool, true, false, if◌then◌else◌, List, [], ◌∷◌, ◌++◌, map, length}
use Rattle.flow_model.specs.Item.{Item, Ev, FlushStop}
use Rattle.flow_model.specs.Call.{Call, Feed}
use Rattle.flow_model.specs.Rule.{Rule}
use Rattle.flow_model.specs.Link.{Span, Flushed}
use Rattle.flow_model.specs.Eval.{PadLog, Plan}
use Rattle.flow_model.specs.Moment.{Moment, Keeps, owed_at}
use Rattle.flow_model.specs.Pad.{Ends}
use Rattle.flow_model.specs.Split.{joined, emptied}
use Rattle.flow_model.specs.Standing.{is_linked, links_from_one}

pub record Seek : Type 0 where
  -- the number of its FLUSH_STOP
  pub number : ℕ
  -- the elements that take part
  pub active : ℕ → Bool
  -- the filesinks and fakesinks: they take no FLUSH_STOP at a pad that is not linked
  pub is_sink : ℕ → Bool
  -- the rules from now on: a source owes one section more
  pub rule : ℕ → Rule
  -- what each source pad is owed in the section that begins: at a source's pad what the source gives anew, else nothing
  pub fresh : ℕ → List Item

-- a source pad takes part with its element
abbrev pub takes_part : Seek → Plan → ℕ → Bool
takes_part s plan p = s.active (plan.owner p)

-- whether an element takes FLUSH_STOP at its pads that are not linked
abbrev pub stops_unlinked : Seek → ℕ → Bool
stops_unlinked s e = if s.is_sink e then false else s.active e

-- Whether a sink pad of an element is given FLUSH_STOP. A pad that is linked gets it over the link, from a source pad that
-- takes part. So a link between an element that takes part and one that does not is covered too.
abbrev pub is_stopped : Seek → Plan → ℕ → List Span → Bool
is_stopped s plan e spans = if is_linked spans then links_from_one (takes_part s plan) spans else stops_unlinked s e

-- what the seek gives each sink pad of an element
abbrev pub stops : Seek → Plan → ℕ → List (List Call)
stops s plan e = map (λ spans. if is_stopped s plan e spans then Feed (Ev (FlushStop s.number)) ∷ [] else []) (plan.sinks e)

-- the spans of a sink pad behind the seek
abbrev pub stopped : Seek → ℕ → List Span → List Span
stopped s e spans = if is_linked spans then spans else (if stops_unlinked s e then spans ++ Flushed s.number ∷ [] else spans)

-- the seek is added to the log of a source pad, at the place that the pad has reached
abbrev pub cut_here : Seek → Moment → ℕ → PadLog
cut_here s m p = record { cuts = (m.plan.log p).cuts ++ (s.number, length (m.history p)) ∷ []; count = (m.plan.log p).count }

abbrev pub sought_plan : Seek → Moment → Plan
sought_plan s m =
    record m.plan {
      sinks = λ e. map (stopped s e) (m.plan.sinks e);
      rule = λ e. if s.active e then s.rule e else m.plan.rule e;
      log = λ p. if takes_part s m.plan p then cut_here s m p else m.plan.log p;
    }

-- The moment behind the seek. An element that takes part has taken all that stood in its inlets, and FLUSH_STOP behind it.
abbrev pub sought : Seek → Moment → Moment
sought s m =
    record {
      plan = sought_plan s m;
      history = λ p. if takes_part s m.plan p then m.history p ++ Ev (FlushStop s.number) ∷ [] else m.history p;
      took = λ e. if s.active e then joined (joined (m.took e) (m.held e)) (stops s m.plan e) else m.took e;
      held = λ e. if s.active e then emptied (m.held e) else joined (m.held e) (stops s m.plan e);
      waits = λ p. if takes_part s m.plan p then s.fresh p else m.waits p;
      answers = m.answers;
    }

-- At each source pad that takes part a section ends by the rule, and the next one begins with what is owed anew.
pub record Seeks (s : Seek) (m : Moment) : Type 0 where
  pub ends : (p : ℕ) → takes_part s m.plan p ≡ true → Ends 0 (m.plan.log p).cuts (owed_at m p) (owed_at (sought s m) p) (s.fresh p)

-- A seek keeps what stands.
abbrev pub SeekingKeeps : Type 0
SeekingKeeps = (s : Seek) (m : Moment) → Seeks s m → Keeps m (sought s m)
