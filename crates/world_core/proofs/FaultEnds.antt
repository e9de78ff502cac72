-- How a run that met a fault has ended.
use Rattle.std.proofs.Common.{◌≡◌, ◌≢◌, ◌⊎◌, ◌<◌, ℕ, zero, suc, true, false, eqb, List, Option, Some, length, sym, ap, ◌∙◌, subst, inl, inr, arith}
use Rattle.std.specs.Prelude.{slice_get}
use Rattle.std.specs.Option.{option_map}
use Rattle.std.proofs.lemmas.Bool.Decides.{eqb_tells}
use Rattle.std.proofs.lemmas.Option.{same_Some}
use Rattle.el_set.specs.Gives.{source_file}
use Rattle.flow_model.specs.declared.element.TaskElement as elements
use Rattle.flow_model.specs.declared.refusal.Refusal.TheVariants.{Fault, Unwritten}
use Rattle.flow_model.specs.declared.refusal.Unread.TheVariants as reads
use Rattle.flow_model.specs.declared.source.TaskSource as givers
use Rattle.graph_core.specs.Elements.{Made}
use Rattle.graph_core.specs.Graph.{made as made_in, links as links_in}
use Rattle.graph_core.specs.declared.graph.Graph.{Graph}
use Rattle.el_settings.specs.Asked.{source_pads}
use Rattle.graph_core.specs.GraphPlan.{pad_id, sink_at as place_at}
use Rattle.graph_pads.specs.declared.pad.PadPlace.{PadPlace}
use Rattle.graph_tasks.specs.Owed.{went_from}
use Rattle.graph_tasks.specs.Runs.{crossed_in}
use Rattle.graph_parts.specs.Files.{WereTold}
use Rattle.flow_model.specs.declared.fault.ElementFault.{ElementFault}
use Rattle.flow_model.specs.declared.fault.ElementFault.TheVariants as own_faults
use Rattle.gst_outside.specs.Seen.{Seen}
use Rattle.gst_outside.specs.declared.sink.Sink as sinks
use Rattle.gst_outside.specs.declared.source.Source as sources
use Rattle.lane_core.specs.Lane.{Lane}
use Rattle.lane_core.specs.declared.ends.Inlet as inlets
use Rattle.lane_core.specs.declared.ends.Outlet as outlets
use Rattle.net_task.specs.declared.task.Task.{Task}
use Rattle.run_files.specs.Ends.{Known, known_ends}
use Rattle.run_files.specs.declared.end.End.{End}
use Rattle.task_elements.specs.Stands.{faults_in, file_in}
use Rattle.task_elements.specs.declared.element.StreamElement.{StreamElement}
use Rattle.task_elements.specs.declared.source.StreamSource.{StreamSource}
use Rattle.task_parts.specs.Fault.{refusal_fault}
use Rattle.task_parts.specs.declared.fault.TaskFault.{TaskFault}
use Rattle.task_parts.specs.declared.fault.TaskFault.TheVariants as faults
use Rattle.world_core.specs.Ended.{HasEnded}
use Rattle.world_core.specs.Ran.{KnownFailed, KnownHold}
use Rattle.world_core.specs.Stopped.{HasRun}
use Rattle.world_core.specs.Told.{task_status}
use Rattle.world_core.specs.declared.ended.WorldEnd.{WorldEnd}
use Rattle.world_core.specs.declared.report.Stop.TheVariants as stops
use Rattle.world_core.proofs.Faulted.{IsFaulted, full_ends, refused_ends, unlinked_ends, unread_ends, unwritten_ends}
use Rattle.world_core.proofs.Blame.{IsFull}
use Rattle.world_core.proofs.Meeting.{IsMet}
use Rattle.world_core.proofs.Rooms.{same_or_less}
use Rattle.world_core.proofs.Settled.{IsTold}

-- two numbers are these, or one of them is not
two : (a b p q : ℕ) → ((a ≡ p) × (b ≡ q)) ⊎ ((a ≡ p) × (b ≡ q) → ⊥)
two a b p q = by (eqb_tells a p) (eqb_tells b q)
  where
    by : ((eqb a p ≡ true) × (a ≡ p)) ⊎ ((eqb a p ≡ false) × (a ≡ p → ⊥)) → ((eqb b q ≡ true) × (b ≡ q)) ⊎ ((eqb b q ≡ false) × (b ≡ q → ⊥))
        → ((a ≡ p) × (b ≡ q)) ⊎ ((a ≡ p) × (b ≡ q) → ⊥)
    by (inl x) (inl y) = inl (x.1, y.1)
    by (inr none) y = inr (λ all. none.1 all.0)
    by (inl x) (inr none) = inr (λ all. none.1 all.1)

-- one of the first places has this number, or none has
one_or_none : (f : ℕ → ℕ) (number n : ℕ) → ((k : ℕ) × (k < n) × (f k ≡ number)) ⊎ ((k : ℕ) → k < n → f k ≡ number → ⊥)
one_or_none f number zero = inr (λ k w is. absurd (omega (arith, w)))
one_or_none f number (suc n) = by (eqb_tells (f n) number) (one_or_none f number n)
  where
    by : ((eqb (f n) number ≡ true) × (f n ≡ number)) ⊎ ((eqb (f n) number ≡ false) × (f n ≡ number → ⊥))
        → ((k : ℕ) × (k < n) × (f k ≡ number)) ⊎ ((k : ℕ) → k < n → f k ≡ number → ⊥)
        → ((k : ℕ) × (k < suc n) × (f k ≡ number)) ⊎ ((k : ℕ) → k < suc n → f k ≡ number → ⊥)
    by (inl here) earlier = inl (n, omega arith, here.1)
    by (inr other) (inl found) = inl (found.0, omega (arith, found.1), found.2)
    by (inr other) (inr none) = inr (λ k w is. last k (same_or_less k n (omega (arith, w))) is)
      where
        last : (k : ℕ) → (k ≡ n) ⊎ (k < n) → f k ≡ number → ⊥
        last k (inl same) is = other.1 (ap f (sym same) ∙ is)
        last k (inr less) is = none k less is

module _ {S K I O L : Type 0} {giver : givers.Ghosts (StreamSource S)} {taker : elements.Ghosts (StreamElement K)} {i : inlets.Ghosts I L O} {o : outlets.Ghosts O L}
    (s : sources.Ghosts S) (k : sinks.Ghosts K) (graph : Graph) (first last : List (Task (StreamSource S) (StreamElement K) I O L giver taker i o))
    (rest : List (Option (StreamElement K))) (left : List (Option (End S K))) (tells : Option (List Lane)) (before : Seen)
    (run : HasRun s k graph first last rest left tells before)
    (taken : (x : StreamElement K) → taker.file x ≡ option_map k.location (file_in x)) (given : (x : StreamSource S) → giver.file x ≡ option_map s.location (source_file x.source))
    (write_fails : (x : StreamElement K) → taker.failures x ≡ faults_in k.faults x) (read_fails : (x : StreamSource S) → giver.failures x ≡ option_map s.faults (source_file x.source))
    (ends : List (Option (End S K))) (fault : TaskFault) (end : WorldEnd) (told : IsTold graph last rest left ends (stops.Fault fault) end)
    (faulted : (contents : ℕ → List ℕ) → WereTold (made_in graph) before contents → IsFaulted k contents graph run.started.bags last rest fault)
    (number : ℕ → ℕ)
    (counted : (contents : ℕ → List ℕ) → (f : IsFaulted k contents graph run.started.bags last rest fault) → (source : PadPlace) (one : Made)
    → slice_get (made_in graph) source.element ≡ Some one → source.pad < source_pads one.settings → length (went_from (crossed_in graph f.m) source) ≡ number (pad_id source)) where
  abbrev known : List (Option Known)
  known = known_ends s k ends

  abbrev Ended : Type 0
  Ended = HasEnded graph before (KnownHold graph known) (KnownFailed known) end

  -- a limit of an element was passed, be it that of a source pad or of its rule
  too_long : (n a b : ℕ) (one : Made) → fault ≡ faults.TooLong n a b → slice_get (made_in graph) n ≡ Some one → Ended
  too_long n a b one is at = by (two a b 1099511627776 1) (one_or_none (λ pad. number (pad_id (place_at n pad))) 1099511627776 (source_pads one.settings))
    where
      not_memory : own_faults.TooLong a b ≢ own_faults.OutOfMemory
      not_memory e = cc

      numbers : own_faults.TooLong a b ≡ own_faults.TooLong 1099511627776 1 → a ≡ 1099511627776
      numbers e = cc

      ones : own_faults.TooLong a b ≡ own_faults.TooLong 1099511627776 1 → b ≡ 1
      ones e = cc

      by_rule : ((contents : ℕ → List ℕ) → (f : IsFaulted k contents graph run.started.bags last rest fault) → IsFull contents graph f.m n (own_faults.TooLong a b) → ⊥)
          → HasEnded graph before (KnownHold graph (known_ends s k ends)) (KnownFailed (known_ends s k ends)) end
      by_rule none = inr (inr (inr (inl
          (refused_ends s k graph first last rest left tells before run taken given write_fails read_fails ends fault end told faulted n one (own_faults.TooLong a b) is not_memory at
          none))))

      by : ((a ≡ 1099511627776) × (b ≡ 1)) ⊎ ((a ≡ 1099511627776) × (b ≡ 1) → ⊥)
          → ((pad : ℕ) × (pad < source_pads one.settings) × (number (pad_id (place_at n pad)) ≡ 1099511627776))
          ⊎ ((pad : ℕ) → pad < source_pads one.settings → number (pad_id (place_at n pad)) ≡ 1099511627776 → ⊥)
          → HasEnded graph before (KnownHold graph (known_ends s k ends)) (KnownFailed (known_ends s k ends)) end
      by (inl (x, y)) (inl (pad, there, full)) = inr (inr (inr (inr (inr (inl
          (full_ends s k graph first last rest left tells before run taken given write_fails read_fails ends fault end told faulted n one
          (is ∙ ap (λ p. faults.TooLong n p b) x ∙ ap (λ q. faults.TooLong n 1099511627776 q) y) at pad there
          (λ contents f. counted contents f (place_at n pad) one at there ∙ full)))))))
      by (inl both) (inr none) = by_rule (λ contents f full.
          let own = full.more.1 in
          let there = subst (λ (m : Made). full.pad < source_pads m.settings) (same_Some own.element one (sym own.at ∙ at)) own.there in
          none full.pad there (sym (counted contents f (place_at n full.pad) one at there) ∙ full.full))
      by (inr none) pads = by_rule (λ contents f full. none (numbers full.own_is, ones full.own_is))

  -- the rule of an element has a fault that is no limit
  own_ends : (n : ℕ) (one : Made) (own : ElementFault) → fault ≡ refusal_fault n (Fault own) → own ≢ own_faults.OutOfMemory → slice_get (made_in graph) n ≡ Some one
      → (own ≢ own_faults.TooLong 1099511627776 1) → Ended
  own_ends n one own is memory at limit =
      inr (inr (inr (inl
      (refused_ends s k graph first last rest left tells before run taken given write_fails read_fails ends fault end told faulted n one own is memory at
      (λ contents f full. limit full.own_is)))))

  pub met_ends : (met : TaskFault) → IsMet (made_in graph) (links_in graph) last rest met → fault ≡ met → end.status ≢ 13 → Ended
  met_ends met (IsMet.refused n one x (Unwritten a b) was at has cause) is some =
      inr (inr (inl (unwritten_ends s k graph first last rest left tells before run taken given write_fails read_fails ends fault end told faulted n one x a b was is at has cause)))
  met_ends met (IsMet.refused n one x (Fault (own_faults.NotNegotiated offered wanted)) was at has cause) is some = own_ends n one (own_faults.NotNegotiated offered wanted) is memory at limit
    where
      memory : own_faults.NotNegotiated offered wanted ≢ own_faults.OutOfMemory
      memory e = cc

      limit : own_faults.NotNegotiated offered wanted ≢ own_faults.TooLong 1099511627776 1
      limit e = cc
  met_ends met (IsMet.refused n one x (Fault (own_faults.BadStream place kind)) was at has cause) is some = own_ends n one (own_faults.BadStream place kind) is memory at limit
    where
      memory : own_faults.BadStream place kind ≢ own_faults.OutOfMemory
      memory e = cc

      limit : own_faults.BadStream place kind ≢ own_faults.TooLong 1099511627776 1
      limit e = cc
  met_ends met (IsMet.refused n one x (Fault (own_faults.TooLong a b)) was at has cause) is some = too_long n a b one is at
  met_ends met (IsMet.refused n one x (Fault own_faults.OutOfMemory) was at has cause) is some = absurd (some (told.tells.status ∙ ap (λ f. task_status f) is))
  met_ends met (IsMet.unread n one x (reads.Failed a b) was at has cause) is some =
      inr (inl (unread_ends s k graph first last rest left tells before run taken given write_fails read_fails ends fault end told faulted n one x a b was is at has cause))
  met_ends met (IsMet.unread n one x reads.OutOfMemory was at has cause) is some = absurd (some (told.tells.status ∙ ap (λ f. task_status f) is))
  met_ends met (IsMet.not_linked source one place at there alone) is some =
      inr (inr (inr (inr (inl
      (unlinked_ends s k graph first last rest left tells before run taken given write_fails read_fails ends fault end told faulted source one place is at there alone)))))
  met_ends met (IsMet.full n one at) is some = too_long n 1099511627776 1 one is at
  met_ends met IsMet.no_memory is some = absurd (some (told.tells.status ∙ ap (λ f. task_status f) is))
