-- A run of a script where one of its pads got a probe, or the next command was looked up or answered.
use Rattle.std.proofs.Common.{◌≡◌, ◌<◌, ◌≤◌, ◌⊎◌, inl, inr, ◌-◌, ◌+◌, ℕ, Bool, true, false, List, [], ◌∷◌, All, Option, Some, drop, length, length-append, refl, sym, ap, ◌∙◌, subst, arith}
use Rattle.std.specs.Global.{Vec}
use Rattle.std.specs.Option.{option_map}
use Rattle.std.specs.Prelude.{Result, Ok, Err, IfErr, IfOk, OnOk}
use Rattle.lane_core.specs.declared.ends.Inlet as inlets
use Rattle.lane_core.specs.declared.ends.Outlet as outlets
use Rattle.flow_model.specs.declared.element.TaskElement as elements
use Rattle.flow_model.specs.declared.source.TaskSource as sources
use Rattle.net_task.specs.declared.task.Task.{Task}
use Rattle.gst_value.specs.declared.name.PadName.{PadName}
use Rattle.graph_core.specs.GraphPlan.{pad_id}
use Rattle.graph_pads.specs.declared.pad.PadPlace.{PadPlace}
use Rattle.pad_core.specs.declared.probe.Probe.{Probe}
use Rattle.net_edits.specs.Nets.{IsProbed, NoneHas}
use Rattle.net_turns.specs.Net.{NetReady}
use Rattle.script_probes.specs.Stops.{IsStop}
use Rattle.script_text.specs.declared.answer.Entry.{Entry}
use Rattle.script_text.specs.declared.command.Command.{Command}
use Rattle.graph_edits.specs.Edited.{Edited}
use Rattle.script_text.specs.declared.command.When.{When}
use Rattle.script_text.specs.declared.command.When.TheVariants.{At}
use Rattle.graph_edits.specs.Names.{source_when}
use Rattle.graph_edits.specs.Lawful.{AreAnswered, NeverFall}
use Rattle.edit_core.specs.Deciding.{names_its_pad}
use Rattle.edit_acts.specs.Scripted.{ActsKeepScripts, ArePassed, IsScripted, ScriptRun}
use Rattle.world_core.specs.Answering.{ActFails, ActsOn, IsAsItWas}
use Rattle.world_core.specs.Probes.{StandFor, numbered}
use Rattle.world_core.specs.Probing.{AreProbes, HasActed, HasProbed, IsProbedFor, PadIsProbed, acts_left, probes_left}
use Rattle.world_core.specs.declared.running.Probing.{Probing}
use Rattle.world_core.specs.Running.{commands_left, tells_of, view_of}
use Rattle.world_core.specs.Watching.{HasLookedUp, IsWatched, looked_up}
use Rattle.world_core.specs.declared.running.RunFault.{RunFault}
use Rattle.world_core.specs.declared.running.RunFault.TheVariants as faults
use Rattle.world_core.specs.declared.running.Running.{Running}
use Rattle.world_core.specs.declared.watching.Watch.{Watch}
use Rattle.world_core.specs.declared.watching.Watch.TheVariants as watches
use Rattle.world_core.specs.declared.watching.Watch.TheVariants.{Unasked, Open}
use Rattle.world_core.proofs.Scripting.{by_act}
use Rattle.world_core.proofs.ScriptEntries.{HasScript, script_acts}
use Rattle.world_core.proofs.Watched.{nothing_known}

-- what was done is not left undone
pub not_done : (P : Type 0) (r : Result Bool RunFault) → IfOk r (λ done. (done ≡ true) × P) → r ≡ Ok false → ⊥
not_done P (Ok done) told is = cc
not_done P (Err fault) told is = cc

pub on_ok_all : {A E : Type 0} (P Q R : Type 0) (r : Result A E) → OnOk r P → Q → R → OnOk r (P × Q × R)
on_ok_all P Q R (Ok x) p q rest = (p, q, rest)
on_ok_all P Q R (Err e) p q rest = tt

module _ {S E I O L : Type 0} {s : sources.Ghosts S} {e : elements.Ghosts E} {i : inlets.Ghosts I L O} {o : outlets.Ghosts O L} where
  -- a run stays one of a script
  abbrev pub by_probe : (script : List Command) (first : Edited) (was is : Running S E I O L s e i o) (place : ℕ) → IsScripted script first (view_of was) → HasProbed was is place
      → IsScripted script first (view_of is)
  by_probe script first was is place w probed = record {
    g = w.g;
    m = w.m;
    has = probed.has w.g w.m w.has;
    calm = w.calm;
    kept = w.kept;
    due = w.due;
    owes = w.owes;
    answered = subst (λ (es : List Entry). AreAnswered w.m.history w.due first script es w.g) (sym probed.control.entries) w.answered;
    left = probed.control.commands ∙ w.left ∙ ap (λ (es : List Entry). drop (length es) script) (sym probed.control.entries);
    falls = subst NeverFall (sym probed.control.entries) w.falls;
    passed = subst (λ (es : List Entry). ArePassed w.g.made w.m.history es) (sym probed.control.entries) w.passed;
  }

  by_looked_up : (script : List Command) (first : Edited) (was is : Running S E I O L s e i o) → IsScripted script first (view_of was) → HasLookedUp was is → IsScripted script first (view_of is)
  by_looked_up script first was is w looked = subst (λ (view : ScriptRun s e i o). IsScripted script first view) (sym looked.view) w

  by_next : (script : List Command) (first : Edited) → ActsKeepScripts s e i o → All (λ c. names_its_pad c ≡ true) script → (was is : Running S E I O L s e i o)
      → IsScripted script first (view_of was) → (HasLookedUp was is ⊎ ActsOn was is) → IsScripted script first (view_of is)
  by_next script first law names was is w (inl looked) = by_looked_up script first was is w looked
  by_next script first law names was is w (inr acts) = by_act script first law names was is w acts

  -- and so it does when control does what is next
  pub by_acted : (script : List Command) (first : Edited) → ActsKeepScripts s e i o → All (λ c. names_its_pad c ≡ true) script → (was is : Running S E I O L s e i o)
      → IsScripted script first (view_of was) → HasActed was is → IsScripted script first (view_of is)
  by_acted script first law names was is w (inl probed) = by_probe script first was is probed.0 w probed.1
  by_acted script first law names was is w (inr next) = by_next script first law names was is w next.1

  script_next : (script : List Command) (was is : Running S E I O L s e i o) → HasScript script was → (HasLookedUp was is ⊎ ActsOn was is) → HasScript script is
  script_next script was is w (inl looked) = looked.keeps.script ∙ w
  script_next script was is w (inr acts) = script_acts script was is w acts

  -- its script stays
  pub script_acted : (script : List Command) (was is : Running S E I O L s e i o) → HasScript script was → HasActed was is → HasScript script is
  script_acted script was is w (inl probed) = probed.1.keeps.script ∙ w
  script_acted script was is w (inr next) = script_next script was is w next.1

  -- fewer acts are left
  pub less_probed : (was is : Running S E I O L s e i o) (place : ℕ) → HasProbed was is place → probes_left is < probes_left was → acts_left is < acts_left was
  less_probed was is place probed less =
      fewer (length was.script.items) (length is.script.items) (length was.entries.items) (length is.entries.items) (looked_up was.watch) (looked_up is.watch) (probes_left was) (probes_left is)
      (ap length probed.keeps.script) (ap length probed.control.entries) (ap looked_up probed.watch) less
    where
      fewer : (a b c d u v p q : ℕ) → b ≡ a → d ≡ c → v ≡ u → q < p → (((b - d) + (b - d)) - v) + q < (((a - c) + (a - c)) - u) + p
      fewer a b c d u v p q one other same less = omega (arith, one, other, same, less)

  pub less_looked_up : (was is : Running S E I O L s e i o) → HasLookedUp was is → acts_left is < acts_left was
  less_looked_up was is looked =
      fewer (length was.script.items) (length is.script.items) (length was.entries.items) (length is.entries.items) (looked_up was.watch) (looked_up is.watch) was.probing.count is.probing.count looked.some
      (ap length looked.keeps.script) (ap (λ view. length view.entries) looked.view) (ap looked_up looked.unasked) looked.asked (ap (λ probing. probing.count) looked.probing)
    where
      fewer : (a b c d u v p q : ℕ) → c < a → b ≡ a → d ≡ c → u ≡ 0 → v ≡ 1 → q ≡ p → (((b - d) + (b - d)) - v) + ((b + b) - q) < (((a - c) + (a - c)) - u) + ((a + a) - p)
      fewer a b c d u v p q some one other none asked same = omega (arith, some, one, other, none, asked, same)

  pub less_answered : (was is : Running S E I O L s e i o) → is.script.items ≡ was.script.items → is.probing ≡ was.probing → is.watch ≡ Unasked → commands_left is < commands_left was
      → acts_left is < acts_left was
  less_answered was is script probing unasked less =
      fewer (length was.script.items) (length is.script.items) (commands_left was) (commands_left is) (looked_up was.watch) (looked_up is.watch) was.probing.count is.probing.count (ap length script)
      (ap (λ probing. probing.count) probing) (one_at_most was.watch) (ap looked_up unasked) less
    where
      one_at_most : (watch : Watch) → looked_up watch ≤ 1
      one_at_most Unasked = omega (arith)
      one_at_most Open = omega (arith)
      one_at_most (watches.At pad n) = omega (arith)

      fewer : (a b c d u v p q : ℕ) → b ≡ a → q ≡ p → u ≤ 1 → v ≡ 0 → d < c → ((d + d) - v) + ((b + b) - q) < ((c + c) - u) + ((a + a) - p)
      fewer a b c d u v p q one other few none less = omega (arith, one, other, few, none, less)

  -- where memory was wanting control has the run as it was
  pub as_it_was : {A : Type 0} (r : Result A RunFault) (was is : Running S E I O L s e i o) → IfErr r (λ fault. (fault ≡ faults.OutOfMemory) × IsAsItWas was is) → IfErr r (ActFails was is)
  as_it_was (Ok done) was is told = tt
  as_it_was (Err fault) was is told = subst (λ (f : RunFault). ActFails was is f) (sym told.0) told.1

  -- the probes stand for the script behind one more answer, and while nothing is answered
  pub probes_stay : (was is : Running S E I O L s e i o) → is.probing ≡ was.probing → is.script.items ≡ was.script.items → length was.entries.items ≤ length is.entries.items → AreProbes was → AreProbes is
  probes_stay was is same script more stand =
      subst (λ (probing : Probing). StandFor probing.probes is.script.items (length is.entries.items)) (sym same)
      (subst (λ (commands : List Command). StandFor was.probing.probes commands (length is.entries.items)) (sym script)
      record { last = stand.last; passed = omega (arith, stand.passed, more); stands = stand.stands; few = stand.few })

  pub probes_answered : (was is : Running S E I O L s e i o) → is.probing ≡ was.probing → ActsOn was is → AreProbes was → AreProbes is
  probes_answered was is same acts stand =
      probes_stay was is same acts.script (omega (arith, ap length acts.acted.entered, length-append was.entries.items (acts.acted.entry ∷ []))) stand

  pub ready_answered : (P W : Type 0) (r : Result Bool RunFault) (was is : Running S E I O L s e i o) → OnOk r P → (r ≡ Ok true → ActsOn was is) → (r ≡ Ok true → is.watch ≡ Unasked)
      → (r ≡ Ok false → W × (is ≡ was)) → is.probing ≡ was.probing → AreProbes was → IsWatched was → OnOk r (P × AreProbes is × IsWatched is)
  ready_answered P W (Ok true) was is ready acted unasked waits same stand watched = (ready, probes_answered was is same (acted refl) stand, nothing_known is (unasked refl))
  ready_answered P W (Ok false) was is ready acted unasked waits same stand watched =
      (ready, subst AreProbes (sym (waits refl).1) stand, subst IsWatched (sym (waits refl).1) watched)
  ready_answered P W (Err fault) was is ready acted unasked waits same stand watched = tt

  pub ready_looked_up : (r : Result Bool RunFault) (was is : Running S E I O L s e i o) → IfOk r (λ done. (done ≡ true) × HasLookedUp was is) → OnOk r (IsWatched is)
      → NetReady was.tasks.items (tells_of was) → AreProbes was → OnOk r (NetReady is.tasks.items (tells_of is) × AreProbes is × IsWatched is)
  ready_looked_up (Ok done) was is looked watched ready stand = (
    subst (λ (view : ScriptRun s e i o). NetReady view.tasks view.tells) (sym looked.1.view) ready,
    (let same = ap (λ view. length view.entries) looked.1.view in probes_stay was is looked.1.probing looked.1.keeps.script (omega (arith, same)) stand),
    watched,
  )
  ready_looked_up (Err fault) was is looked watched ready stand = tt

-- ---- the probe of a pad

module _ {S E I O L : Type 0} {s : sources.Ghosts S} {e : elements.Ghosts E} {i : inlets.Ghosts I L O} {o : outlets.Ghosts O L} where
  -- the pad at which a command waits has its probe
  pub probed_for : (g : Edited) (commands : List Command) (answered : ℕ) (was is : Vec (Task S E I O L s e i o)) (when : When) (pad : PadName) (n : ℕ) (source : PadPlace) (stop told : Option Probe) (number : ℕ) (found : Bool)
      → when ≡ At pad n → source_when g when ≡ Some source → IsStop commands answered pad stop → told ≡ option_map numbered stop → number ≡ pad_id source
      → (found ≡ true → IsProbed was.items is.items number told) → (found ≡ false → NoneHas was.items number × (is ≡ was)) → IsProbedFor g commands answered was.items is.items when
  probed_for g commands answered was is when pad n source stop told number found same named stops told_is number_is set unset =
      subst (λ (w : When). IsProbedFor g commands answered was.items is.items w) (sym same)
      (subst (λ (at : Option PadPlace). PadIsProbed commands answered pad was.items is.items at) (sym (ap (λ (w : When). source_when g w) (sym same) ∙ named)) (stop, stops, either found refl))
    where
      either : (b : Bool) → found ≡ b → IsProbed was.items is.items (pad_id source) (option_map numbered stop) ⊎ (NoneHas was.items (pad_id source) × (is.items ≡ was.items))
      either true is_so =
          inl (subst (λ (p : ℕ). IsProbed was.items is.items p (option_map numbered stop)) number_is (subst (λ (probe : Option Probe). IsProbed was.items is.items number probe) told_is (set is_so)))
      either false is_so = inr (subst (λ (p : ℕ). NoneHas was.items p) number_is (unset is_so).0, ap (λ ts. ts.items) (unset is_so).1)

  -- what holds of the tasks whether one of them has the pad or none
  pub either_way : (was is : Vec (Task S E I O L s e i o)) (pad : ℕ) (stop : Option Probe) (found : Bool) → (found ≡ true → IsProbed was.items is.items pad stop)
      → (found ≡ false → NoneHas was.items pad × (is ≡ was)) → (P : List (Task S E I O L s e i o) → Type 0) → (IsProbed was.items is.items pad stop → P is.items) → P was.items → P is.items
  either_way was is pad stop true set unset P law so = law (set refl)
  either_way was is pad stop false set unset P law so = subst (λ (ts : Vec (Task S E I O L s e i o)). P ts.items) (sym (unset refl).1) so
