-- Links are made without marks, and undone with the marks that they had.
use Rattle.std.proofs.Common.{◌≡◌, ◌++◌, ℕ, zero, suc, Bool, true, false, eqb, if◌then◌else◌, List, [], ◌∷◌, Option, None, Some, length, map, replicate, refl, subst}
use Rattle.std.specs.Prelude.{slice_get}
use Rattle.std.specs.List.{range_with_len}
use Rattle.flow_model.specs.Item.{Item}
use Rattle.flow_model.specs.Link.{Span, Linked, WasLinked, Flushed, Given}
use Rattle.flow_model.specs.Edit.{push_span, undo}
use Rattle.graph_core.specs.GraphPlan.{pad_id, sink_at, sink_count, spans_from}
use Rattle.graph_pads.specs.Links.{source_before}
use Rattle.graph_pads.specs.declared.pad.PadLink.{PadLink}
use Rattle.graph_pads.specs.declared.pad.PadPlace.{PadPlace}
use Rattle.gst_value.proofs.Basics.{none_some, some_same}
use Rattle.net_groups.specs.Splits.{HaveNoMarks}
use Rattle.script_text.specs.declared.answer.Answer.{Answer}
use Rattle.script_text.specs.declared.command.Act.{Act}
use Rattle.script_text.specs.declared.command.Command.{Command}
use Rattle.graph_edits.specs.Edited.{Edited}
use Rattle.graph_edits.specs.Lawful.{IsAnswered, Makes}
use Rattle.edit_core.specs.Marks.{AllUnmarked, IsUnmarked, StaysUnmarked}

from_line : (o : Option PadPlace) → HaveNoMarks (spans_from o)
from_line None = tt
from_line (Some source) = (refl, tt)

all_from_line : (links : List PadLink) (e : ℕ) (ks : List ℕ) → AllUnmarked (map (λ k. spans_from (source_before links (sink_at e k))) ks)
all_from_line links e [] = tt
all_from_line links e (k ∷ ks) = (from_line (source_before links (sink_at e k)), all_from_line links e ks)

pub undone : (p place : ℕ) (eos : Bool) (spans : List Span) → HaveNoMarks spans → HaveNoMarks (map (undo p place eos) spans)
undone p place eos [] none = tt
undone p place eos (Linked source from marks ∷ spans) none = by (eqb source p) (undone p place eos spans none.1)
  where
    by : (b : Bool) → HaveNoMarks (map (undo p place eos) spans) → HaveNoMarks ((if b then WasLinked source from place eos marks else Linked source from marks) ∷ map (undo p place eos) spans)
    by true rest = (none.0, rest)
    by false rest = (none.0, rest)
undone p place eos (WasLinked source from to ended marks ∷ spans) none = (none.0, undone p place eos spans none.1)
undone p place eos (Flushed number ∷ spans) none = absurd none
undone p place eos (Given calls ∷ spans) none = absurd none

pub all_undone : (p place : ℕ) (eos : Bool) (sss : List (List Span)) → AllUnmarked sss → AllUnmarked (map (map (undo p place eos)) sss)
all_undone p place eos [] none = tt
all_undone p place eos (ss ∷ sss) none = (undone p place eos ss none.0, all_undone p place eos sss none.1)

put_behind : (p place : ℕ) (spans : List Span) → HaveNoMarks spans → HaveNoMarks (spans ++ Linked p place [] ∷ [])
put_behind p place [] none = (refl, tt)
put_behind p place (Linked source from marks ∷ spans) none = (none.0, put_behind p place spans none.1)
put_behind p place (WasLinked source from to ended marks ∷ spans) none = (none.0, put_behind p place spans none.1)
put_behind p place (Flushed number ∷ spans) none = absurd none
put_behind p place (Given calls ∷ spans) none = absurd none

pub pushed : (p place i : ℕ) (sss : List (List Span)) → AllUnmarked sss → AllUnmarked (push_span i (Linked p place []) sss)
pushed p place i [] none = tt
pushed p place zero (ss ∷ sss) none = (put_behind p place ss none.0, none.1)
pushed p place (suc i) (ss ∷ sss) none = (none.0, pushed p place i sss none.1)

empty : (n : ℕ) → AllUnmarked (replicate n [])
empty zero = tt
empty (suc n) = (tt, empty n)

-- one element has other spans
at_one : (a b : ℕ) (spans others : List (List Span)) → AllUnmarked spans → AllUnmarked others → AllUnmarked (if eqb a b then spans else others)
at_one a b spans others one other = by (eqb a b)
  where
    by : (t : Bool) → AllUnmarked (if t then spans else others)
    by true = one
    by false = other

acted : (h : ℕ → List Item) (g : Edited) (p : Option PadPlace) (place : ℕ) (act : Act) (after : Edited) → Makes g h p place act after → IsUnmarked g → IsUnmarked after
acted h g p place act after (Makes.relinks sink source to at named linkable) none = λ e.
    let were = all_undone (pad_id source) at false (g.spans e) (none e) in
    at_one e to.element (push_span to.pad (Linked (pad_id source) at []) (map (map (undo (pad_id source) at false)) (g.spans e))) (map (map (undo (pad_id source) at false)) (g.spans e)) (pushed (pad_id source) at to.pad (map (map (undo (pad_id source) at false)) (g.spans e)) were) were
acted h g p place act after (Makes.unlinks eos source to at behind) none = λ e. all_undone (pad_id source) at eos (g.spans e) (none e)
acted h g p place act after (Makes.adds q at kind props m is plain) none = λ e. at_one e (length g.made) (replicate _ []) (g.spans e) (empty _) (none e)
acted h g p place act after (Makes.removes q at name d named loose) none = none

answered : (h owed : ℕ → List Item) (g after : Edited) (c : Command) (a : Answer) → IsAnswered g h owed c a after → IsUnmarked g → IsUnmarked after
answered h owed g after c a (IsAnswered.done when act p place next reaches makes) none = acted h g p place act next makes none
answered h owed g after c a (IsAnswered.unreached one there is) none = none
answered h owed g after c a (IsAnswered.nameless one missing) none = none
answered h owed g after c a (IsAnswered.refused when act p place reason there reaches is) none = none

pub each : (sinks : List (List Span)) (port : ℕ) (spans : List Span) → AllUnmarked sinks → slice_get sinks port ≡ Some spans → HaveNoMarks spans
each [] port spans none at = absurd (none_some at)
each (ss ∷ sss) zero spans none at = subst HaveNoMarks (some_same at) none.0
each (ss ∷ sss) (suc port) spans none at = each sss port spans none.1 at

pub stays_unmarked : StaysUnmarked
stays_unmarked = record { begins = λ made links e. all_from_line links e (range_with_len 0 (sink_count (slice_get made e))); answered = answered; each = each }
