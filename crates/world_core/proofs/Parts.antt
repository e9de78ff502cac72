-- What the files of a run hold of which a write failed.
use Rattle.std.proofs.Common.{◌≡◌, ◌≢◌, ◌⊎◌, ℕ, true, false, List, Option, Some, take, eqb, sym, ap, ◌∙◌, subst, inl, inr}
use Rattle.std.specs.Prelude.{slice_get}
use Rattle.std.specs.Option.{option_map_or}
use Rattle.std.proofs.lemmas.Bool.Decides.{eqb_tells}
use Rattle.std.proofs.lemmas.Option.{same_Some}
use Rattle.el_set.specs.Made.{keeps_flushed}
use Rattle.flow_model.specs.declared.element.TaskElement as elements
use Rattle.flow_model.specs.declared.source.TaskSource as givers
use Rattle.flow_model.specs.Item.{Item, body_of}
use Rattle.flow_model.specs.SinkBytes.{disk_after}
use Rattle.graph_core.specs.Elements.{Made}
use Rattle.graph_core.specs.Allowed.{first_pad}
use Rattle.graph_core.specs.Graph.{made as made_in, links as links_in}
use Rattle.graph_core.specs.declared.graph.Graph.{Graph}
use Rattle.graph_tasks.specs.Owed.{IsAwaited, came_to}
use Rattle.graph_tasks.specs.Runs.{crossed_in}
use Rattle.graph_tasks.specs.Written.{HoldsBytes, IsBehind}
use Rattle.graph_parts.specs.Back.{HasElement}
use Rattle.graph_parts.specs.Files.{OpensAt}
use Rattle.gst_outside.specs.Bytes.{written}
use Rattle.gst_outside.specs.declared.sink.Sink as sinks
use Rattle.lane_core.specs.declared.ends.Inlet as inlets
use Rattle.lane_core.specs.declared.ends.Outlet as outlets
use Rattle.flow_model.specs.Moment.{Moment, put_at}
use Rattle.flow_model.proofs.Inputs.{at_here, at_other}
use Rattle.net_task.specs.declared.task.Task.{Task}
use Rattle.run_files.specs.declared.end.Opening.TheVariants.{Write}
use Rattle.task_elements.specs.Stands.{file_in}
use Rattle.task_elements.specs.declared.element.StreamElement.{StreamElement}
use Rattle.task_elements.specs.declared.source.StreamSource.{StreamSource}
use Rattle.task_parts.specs.declared.fault.TaskFault.TheVariants.{OutOfMemory, WriteFault}
use Rattle.world_core.proofs.Held.{AllBehind, HasCame, PartHeld, RestHasCame, behind_at, came_all}
use Rattle.world_core.proofs.Settled.{AreHeld, all_bytes, keep_of}

module _ {S K I O L : Type 0} {giver : givers.Ghosts (StreamSource S)} {taker : elements.Ghosts (StreamElement K)} {i : inlets.Ghosts I L O} {o : outlets.Ghosts O L}
    (k : sinks.Ghosts K) (graph : Graph) (last : List (Task (StreamSource S) (StreamElement K) I O L giver taker i o)) (rest : List (Option (StreamElement K))) (m : Moment)
    (contents : ℕ → List ℕ) (d a b : ℕ) (one : Made) (location : List ℕ) (x : StreamElement K) (file : K)
    (opens : OpensAt (made_in graph) d (Write location)) (here : slice_get (made_in graph) d ≡ Some one) (has : HasElement last rest d x) (is : file_in x ≡ Some file)
    (once : (y : StreamElement K) → HasElement last rest d y → y ≡ x)
    (behind : AllBehind k graph last rest m contents (WriteFault d a b)) (others : RestHasCame k graph last rest m) where
  abbrev came : List Item
  came = came_to (links_in graph) (crossed_in graph m) (first_pad d)

  keeps : keep_of (made_in graph) d ≡ keeps_flushed one.settings
  keeps = ap (λ found. option_map_or (λ (y : Made). keeps_flushed y.settings) found false) here

  -- the bytes of the others stay
  abbrev bytes_of : List ℕ → ℕ → List ℕ
  bytes_of own = put_at d own (all_bytes graph m)

  held_with : (own : List ℕ) → HoldsBytes k x file own → AreHeld k graph last rest (bytes_of own)
  held_with own holds c place y other there also told = by (eqb_tells c d)
    where
      not_memory : WriteFault d a b ≢ OutOfMemory
      not_memory e = cc

      other_write : (c : ℕ) → (c ≡ d → ⊥) → (p q : ℕ) → WriteFault d a b ≢ WriteFault c p q
      other_write c apart p q e = apart (sym (number e))
        where
          number : WriteFault d a b ≡ WriteFault c p q → d ≡ c
          number same = cc

      by : ((eqb c d ≡ true) × (c ≡ d)) ⊎ ((eqb c d ≡ false) × (c ≡ d → ⊥)) → HoldsBytes k y other (put_at d own (all_bytes graph m) c)
      by (inl (told_so, same)) =
          let one_is : y ≡ x = once y (subst (λ (n : ℕ). HasElement last rest n y) same also) in
          let two_is : file ≡ other = same_Some file other (sym is ∙ ap file_in (sym one_is) ∙ told) in
          subst (λ (n : ℕ). HoldsBytes k y other (put_at d own (all_bytes graph m) n)) (sym same)
          (subst (λ (bs : List ℕ). HoldsBytes k y other bs) (sym (at_here d own (all_bytes graph m)))
          (subst (λ (z : StreamElement K). HoldsBytes k z other own) (sym one_is) (subst (λ (f : K). HoldsBytes k x f own) two_is holds)))
      by (inr (told_not, apart)) =
          subst (λ (bs : List ℕ). HoldsBytes k y other bs) (sym (at_other d own (all_bytes graph m) c apart))
          (came_all k graph last rest m contents (WriteFault d a b) behind others c place y there also not_memory (other_write c apart) (keep_of (made_in graph) c) other told)

  part_of : (item : Item) → IsAwaited contents (made_in graph) (links_in graph) (crossed_in graph m) (first_pad d) item → (count : ℕ)
      → let disk = disk_after (keep_of (made_in graph) d) came in HoldsBytes k x file (written disk.bytes disk.place (take count (body_of item)))
      → PartHeld k graph last rest m contents d one.settings
  part_of item awaited count holds =
      let disk = disk_after (keep_of (made_in graph) d) came in
      let own = written disk.bytes disk.place (take count (body_of item)) in
      record {
        bytes = bytes_of own;
        held = held_with own holds;
        others = λ c apart. at_other d own (all_bytes graph m) c apart;
        part = record {
          item = item;
          awaited = awaited;
          part = count;
          bytes_are = at_here d own (all_bytes graph m)
              ∙ ap (λ keep. let one_disk = disk_after keep came in written one_disk.bytes one_disk.place (take count (body_of item))) keeps;
        };
      }

  pub part_held : (item : Item) → IsAwaited contents (made_in graph) (links_in graph) (crossed_in graph m) (first_pad d) item → PartHeld k graph last rest m contents d one.settings
  part_held item awaited = by has
    where
      whole : HasCame k graph last rest m d x → PartHeld k graph last rest m contents d one.settings
      whole all = part_of item awaited 0 (all (keep_of (made_in graph) d) file is)

      behind_is : IsBehind k contents graph m (WriteFault d a b) d x → PartHeld k graph last rest m contents d one.settings
      behind_is (IsBehind.all all) = whole all
      behind_is (IsBehind.part p q own same waits part) = let held = part (keep_of (made_in graph) d) file is in part_of own waits held.0 held.1
      behind_is (IsBehind.no_memory none) = absurd (cc)

      by : HasElement last rest d x → PartHeld k graph last rest m contents d one.settings
      by (inl among) = behind_is (behind_at k graph last rest m contents (WriteFault d a b) behind d x among)
      by (inr there) = whole (others d location x opens there)
