-- The fault at which a run by turns stopped, by the elements and links of its graph.
use Rattle.std.proofs.Common.{◌≡◌, ◌<◌, ℕ, List, Option, None, Some, length, refl, sym, ap, ◌∙◌, subst, inl}
use Rattle.std.specs.Prelude.{slice_get}
use Rattle.std.proofs.lemmas.Option.{none-some, same_Some}
use Rattle.flow_model.specs.declared.element.TaskElement as elements
use Rattle.flow_model.specs.declared.source.TaskSource as givers
use Rattle.flow_model.specs.declared.refusal.Refusal.{Refusal}
use Rattle.flow_model.specs.declared.refusal.Unread.{Unread}
use Rattle.flow_model.specs.Failures.{IsReadCause, IsWriteCause}
use Rattle.graph_core.specs.Elements.{Made}
use Rattle.graph_pads.specs.Links.{sink_behind}
use Rattle.graph_pads.specs.declared.pad.PadLink.{PadLink}
use Rattle.graph_tasks.specs.Blamed.{IsTold}
use Rattle.graph_parts.specs.Back.{HasElement, HasSource, IsHead}
use Rattle.el_settings.specs.Asked.{source_pads}
use Rattle.graph_pads.specs.declared.pad.PadPlace.{PadPlace}
use Rattle.lane_core.specs.Lane.{Lane}
use Rattle.lane_core.specs.declared.ends.Inlet as inlets
use Rattle.lane_core.specs.declared.ends.Outlet as outlets
use Rattle.graph_core.specs.GraphPlan.{pad_id}
use Rattle.net_task.specs.Failed.{IsUnread}
use Rattle.net_task.specs.Frame.{TaskFrame, frame_of, head_frame}
use Rattle.net_task.specs.declared.task.Task.{Task}
use Rattle.net_turns.specs.Turns.{HasMet, StopsBy, at_try, at_turn, ended, without}
use Rattle.task_elements.specs.declared.element.StreamElement.{StreamElement}
use Rattle.task_elements.specs.declared.source.StreamSource.{StreamSource}
use Rattle.task_parts.specs.Fault.{refusal_fault, unread_fault}
use Rattle.task_parts.specs.declared.fault.TaskFault.{TaskFault}
use Rattle.task_parts.specs.declared.fault.TaskFault.TheVariants.{NotLinked, OutOfMemory, TooLong}
use Rattle.task_parts.specs.declared.head.Head.{Head}
use Rattle.task_parts.specs.declared.head.Head.TheVariants.{Source, Inlets}
use Rattle.task_parts.specs.declared.head.SourceHead.{SourceHead}
use Rattle.turn_order.specs.declared.order.Order.{Order}
use Rattle.gst_value.proofs.Places.{found_at as got_within}

module _ {S E I O L : Type 0} {s : givers.Ghosts S} {e : elements.Ghosts E} {i : inlets.Ghosts I L O} {o : outlets.Ghosts O L} where
  -- a run that stopped at a fault met it as it stepped one of its tasks
  pub record Met (fault : TaskFault) (last : List (Task S E I O L s e i o)) : Type 0 where
    pub place : ℕ
    pub was : List (Task S E I O L s e i o)
    pub tells : Option (List Lane)
    pub met : HasMet place fault was last tells

  pub met_by : (order : Order) (start number : ℕ) (first last : List (Task S E I O L s e i o)) (told : Option (List Lane)) (stop : Option TaskFault) (fault : TaskFault)
      → StopsBy order start first told number stop last → stop ≡ Some fault → Met fault last
  met_by order start number first last told stop fault (without none) is = absurd (none-some fault is)
  met_by order start number first last told stop fault (ended n was now tells tells' run tried) is = absurd (none-some fault is)
  met_by order start number first last told stop fault (at_turn n idle own was now tells run some few met) is =
      subst (λ (f : TaskFault). Met f last) (same_Some own fault is) (record { place = _; was = was; tells = tells; met = met })
  met_by order start number first last told stop fault (at_try n own was now tells run met) is =
      subst (λ (f : TaskFault). Met f last) (same_Some own fault is) (record { place = met.place; was = met.was; tells = met.tells; met = met.met })

-- Why a run met a fault, by the elements of its tasks: one refused an item, or a source could not be read, or a source pad is
-- not linked, or was crossed by 2^40 items, or memory was wanting.
pub data IsMet {S K I O L : Type 0} {giver : givers.Ghosts (StreamSource S)} {taker : elements.Ghosts (StreamElement K)} {i : inlets.Ghosts I L O} {o : outlets.Ghosts O L}
    (made : List Made) (links : List PadLink) (last : List (Task (StreamSource S) (StreamElement K) I O L giver taker i o)) (rest : List (Option (StreamElement K))) : TaskFault → Type 0 where
  refused : (n : ℕ) (m : Made) (x : StreamElement K) (refusal : Refusal) (was : Option ℕ) → slice_get made n ≡ Some m → HasElement last rest n x
      → IsWriteCause was (taker.failures x) refusal → IsMet made links last rest (refusal_fault n refusal)
  unread : (n : ℕ) (m : Made) (x : StreamSource S) (why : Unread) (was : Option ℕ) → slice_get made n ≡ Some m → HasSource last n x
      → IsReadCause was (giver.failures x) why → IsMet made links last rest (unread_fault n why)
  not_linked : (source : PadPlace) (m : Made) (place : ℕ) → slice_get made source.element ≡ Some m → source.pad < source_pads m.settings
      → sink_behind links source ≡ None → IsMet made links last rest (NotLinked (pad_id source) place)
  full : (n : ℕ) (m : Made) → slice_get made n ≡ Some m → IsMet made links last rest (TooLong n 1099511627776 1)
  no_memory : IsMet made links last rest OutOfMemory

module _ {S I O L : Type 0} {s : givers.Ghosts S} (o : outlets.Ghosts O L) where
  -- the head of a task whose source could not be read is that source
  pub record SourceUnread (new : Head S I O s) (n : ℕ) (why : Unread) : Type 0 where
    pub head : SourceHead S O s
    pub is : new ≡ Source head
    pub number : head.number ≡ n
    pub was : Option ℕ
    pub cause : IsReadCause was (s.failures head.source) why

  unread_is : (old new : Head S I O s) (n : ℕ) (why : Unread) → head_frame o new ≡ head_frame o old → IsUnread old new n why → SourceUnread new n why
  unread_is (Source old) (Source new) n why same (is, cause) =
      record { head = new; is = refl; number = number ∙ is; was = s.failures old.source; cause = cause }
    where
      number : new.number ≡ old.number
      number = cc
  unread_is (Source old) (Inlets new) n why same none = absurd none
  unread_is (Inlets old) new n why same none = absurd none

-- each element of a graph is there
made_at : (made : List Made) (n : ℕ) → n < length made → (m : Made) × (slice_get made n ≡ Some m)
made_at made n within = got_within made n within

module _ {S K I O L : Type 0} {giver : givers.Ghosts (StreamSource S)} {taker : elements.Ghosts (StreamElement K)} {i : inlets.Ghosts I L O} {o : outlets.Ghosts O L}
    (made : List Made) (links : List PadLink) (last : List (Task (StreamSource S) (StreamElement K) I O L giver taker i o)) (rest : List (Option (StreamElement K))) where
  -- what is told of the fault of a task is so of the run
  pub is_met : (k : ℕ) (before after : Task (StreamSource S) (StreamElement K) I O L giver taker i o) (fault : TaskFault) → slice_get last k ≡ Some after
      → frame_of after ≡ frame_of before → IsTold made links before after fault → IsMet made links last rest fault
  is_met k before after fault at same (IsTold.refused n refusal within r) =
      let one = made_at made n within in
      IsMet.refused n one.0 r.is.element refusal (taker.failures r.was.element) one.1
      (inl (record { place = k; one = after; at = at; inside = record { place = r.place; one = r.is; at = r.is_at; inside = (r.number, refl) } })) r.cause
  is_met k before after fault at same (IsTold.unread n why within unread_so) =
      let head = unread_is o before.head after.head n why (ap (λ (f : TaskFrame). f.head) same) unread_so in
      let one = made_at made n within in
      IsMet.unread n one.0 head.head.source why head.was one.1
      (record { place = k; one = after; at = at; inside = subst (λ (x : Head (StreamSource S) I O giver). IsHead x n head.head.source) (sym head.is) (head.number, refl) })
      head.cause
  is_met k before after fault at same (IsTold.not_linked source place element here there alone) = IsMet.not_linked source element place here there alone
  is_met k before after fault at same (IsTold.full n within) = let one = made_at made n within in IsMet.full n one.0 one.1
  is_met k before after fault at same IsTold.no_memory = IsMet.no_memory
