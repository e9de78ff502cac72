-- The moment at which a run of a script begins: that of the graph of its line, but that a number without a source pad belongs to a number past all
-- elements that there can be.
use Rattle.std.proofs.Common.{◌≡◌, ◌≤◌, ◌<◌, ◌++◌, ℕ, suc, Bool, true, false, List, [], ◌∷◌, Option, Some, Result, Ok, IfOk, if◌then◌else◌, length, refl, sym, ap, ◌∙◌, subst, arith}
use Rattle.std.specs.Prelude.{slice_get}
use Rattle.std.proofs.lemmas.List.{length-append}
use Rattle.std.proofs.lemmas.Option.{slice_get_past}
use Rattle.flow_model.specs.Eval.{Plan}
use Rattle.flow_model.specs.Item.{Item}
use Rattle.flow_model.specs.Moment.{Moment}
use Rattle.flow_model.specs.Opening.{AtStart, no_calls, opening}
use Rattle.flow_model.specs.declared.element.TaskElement as elements
use Rattle.flow_model.specs.declared.source.TaskSource as sources
use Rattle.flow_model.proofs.Openings.{opening_stands}
use Rattle.gst_value.proofs.Places.{map_get}
use Rattle.launch_text.specs.declared.tree.Tree.{Tree}
use Rattle.graph_core.specs.Allowed.{checked}
use Rattle.graph_core.specs.Asked.{Declared, declared}
use Rattle.graph_core.specs.Comes.{Comes}
use Rattle.graph_core.specs.Elements.{ElementsCome, Made, limit}
use Rattle.graph_core.specs.Graph.{IsGraph, made as made_in}
use Rattle.graph_core.specs.GraphPlan.{owner_of}
use Rattle.graph_core.specs.declared.fault.BuildFault.{BuildFault}
use Rattle.graph_core.specs.declared.graph.Graph.{Graph}
use Rattle.graph_parts.specs.Pads.{is_pad, pad_owner}
use Rattle.graph_parts.specs.Plans.{moment_answers, moment_plan, tight_rule}
use Rattle.graph_parts.proofs.Rules.{moment_starts}
use Rattle.lane_core.specs.Lane.{Lane}
use Rattle.lane_core.specs.declared.ends.Inlet as inlets
use Rattle.lane_core.specs.declared.ends.Outlet as outlets
use Rattle.net_task.specs.Frame.{head_frame, part_frame, wire_of}
use Rattle.net_task.specs.Ties.{HeadTied, LeadsAs, PadLinked, PartTied, SourceTied, Stands, Ties, nothing_lost}
use Rattle.net_task.specs.declared.task.Task.{Task}
use Rattle.net_turns.specs.Net.{HasElement, NetStands, Owns}
use Rattle.task_pads.specs.Behind.{Goes, inside, nowhere, over}
use Rattle.task_pads.specs.Pads.{goes_of, number_of, waiting_of}
use Rattle.task_pads.specs.declared.pad.Pad.{Pad}
use Rattle.task_parts.specs.declared.head.Head.{Head}
use Rattle.task_parts.specs.declared.head.Head.TheVariants.{Inlets, Source}
use Rattle.task_parts.specs.declared.head.SourceHead.{SourceHead}
use Rattle.task_parts.specs.declared.part.Part.{Part}
use Rattle.edit_core.specs.Whole.{owner_in}

-- ---- a line has no more elements than the limit

few_come : (before : List Made) (asked : List Declared) (answer : Result (List Made) BuildFault) → ElementsCome before asked answer → length before ≤ limit → IfOk answer (λ last. length last ≤ limit)
few_come before asked answer (Comes.all ms) low = low
few_come before asked answer (Comes.more ms d m rest a made comes) low =
    let room = made.room in let size = length-append ms (m ∷ []) in few_come (ms ++ m ∷ []) rest a comes (omega (arith, room, size))
few_come before asked answer (Comes.stop ms d rest fault why) low = tt

checked_size : (made : List Made) → length (checked made) ≡ length made
checked_size [] = refl
checked_size (m ∷ ms) = ap suc (checked_size ms)

pub few_elements : (tree : Tree) (graph : Graph) → IsGraph tree graph → length (made_in graph) ≤ limit
few_elements tree graph line = subst (λ (n : ℕ). n ≤ limit) (checked_size (made_in graph)) (few_come [] (declared tree) (Ok (checked (made_in graph))) line.elements (omega arith))

-- ---- the plan and the moment

module _ (contents : ℕ → List ℕ) (graph : Graph) (few : length (made_in graph) ≤ limit) where
  abbrev pub first_plan : Plan
  first_plan = record (moment_plan contents graph) { owner = owner_in (made_in graph) }

  abbrev pub first : Moment
  first = opening first_plan (moment_answers graph)

  abbrev line_first : Moment
  line_first = opening (moment_plan contents graph) (moment_answers graph)

  -- an element has the same pads
  pub owner_so : (p n : ℕ) → n < length (made_in graph) → pad_owner (made_in graph) p ≡ n → owner_in (made_in graph) p ≡ n
  owner_so p n low = by (is_pad (made_in graph) p)
    where
      by : (b : Bool) → (if b then owner_of p else length (made_in graph)) ≡ n → (if b then owner_of p else limit) ≡ n
      by true own = own
      by false own = absurd (omega (arith, own, low))

  owner_back : (p n : ℕ) → n < length (made_in graph) → owner_in (made_in graph) p ≡ n → pad_owner (made_in graph) p ≡ n
  owner_back p n low = by (is_pad (made_in graph) p)
    where
      by : (b : Bool) → (if b then owner_of p else limit) ≡ n → (if b then owner_of p else length (made_in graph)) ≡ n
      by true own = own
      by false own = absurd (let most = few in omega (arith, own, low, most))

  -- to a number without a pad nothing is owed
  owes_at : ℕ → ℕ → List Item
  owes_at p n = tight_rule (slice_get (made_in graph) n) n (contents n) (no_calls (moment_plan contents graph) n) ((moment_plan contents graph).port p) 0

  owes_past : (p n : ℕ) → length (made_in graph) ≤ n → owes_at p n ≡ []
  unfolding owes_at
  owes_past p n past =
      ap (λ (found : Option Made). tight_rule found n (contents n) (no_calls (moment_plan contents graph) n) ((moment_plan contents graph).port p) 0) (slice_get_past (made_in graph) n past)

  waits_so : (p : ℕ) → first.waits p ≡ line_first.waits p
  unfolding owes_at
  waits_so p = by (is_pad (made_in graph) p)
    where
      by : (b : Bool) → owes_at p (if b then owner_of p else limit) ≡ owes_at p (if b then owner_of p else length (made_in graph))
      by true = refl
      by false = owes_past p limit few ∙ sym (owes_past p (length (made_in graph)) (omega arith))

  pub waits_none : (p : ℕ) → is_pad (made_in graph) p ≡ false → first.waits p ≡ []
  unfolding owes_at
  waits_none p bare = ap (λ (b : Bool). owes_at p (if b then owner_of p else limit)) bare ∙ owes_past p limit few

  starts : AtStart first_plan
  starts = let line = moment_starts contents graph in record { uncut = line.uncut; links = line.links }

  -- ---- tasks that stand at the one stand at the other

  leads_so : (p : ℕ) (goes : Goes) → LeadsAs line_first p goes → LeadsAs first p goes
  leads_so p nowhere leads = leads
  leads_so p (inside n port) leads = (record { here = leads.0.here; elsewhere = leads.0.elsewhere }, leads.1)
  leads_so p (over lane n port from) leads = record { here = leads.here; elsewhere = leads.elsewhere }

  module _ {O L : Type 0} (o : outlets.Ghosts O L) where
    linked_so : (pad : Pad O) → PadLinked o line_first pad → PadLinked o first pad
    linked_so pad linked = record { crossed = linked.crossed; leads = leads_so (number_of pad) (goes_of pad) linked.leads; sent = linked.sent }

    module _ {E : Type 0} {e : elements.Ghosts E} where
      part_so : (part : Part E O e) → part.number < length (made_in graph) → PartTied o (Stands line_first part) line_first part → PartTied o (Stands first part) first part
      part_so part low tied = record {
        stood = tied.stood;
        pads = λ port pad at. let own = tied.pads port pad at in record {
          owner = owner_so (number_of pad) part.number low own.owner;
          port_is = own.port_is;
          linked = linked_so pad own.linked;
          waits = waits_so (number_of pad) ∙ own.waits;
        };
        mine = λ p own. let has = tied.mine p (owner_back p part.number low own) in record { pad = has.pad; at = has.at; number = has.number; uncut = has.uncut };
      }

    module _ {S E : Type 0} {s : sources.Ghosts S} {e : elements.Ghosts E} where
      source_so : (head : SourceHead S O s) (parts : List (Part E O e)) → head.number < length (made_in graph) → SourceTied o [] line_first head parts → SourceTied o [] first head parts
      source_so head parts low tied = record {
        owner = owner_so (number_of head.pad) head.number low tied.owner;
        mine = λ p own. tied.mine p (owner_back p head.number low own);
        linked = linked_so head.pad tied.linked;
        gave = subst (λ (waits : List Item). s.gave head.source waits (waiting_of head.pad)) (sym (waits_so (number_of head.pad))) tied.gave;
        given = tied.given;
        apart = tied.apart;
      }

  module _ {S E I O L : Type 0} {s : sources.Ghosts S} {e : elements.Ghosts E} (i : inlets.Ghosts I L O) (o : outlets.Ghosts O L) where
    head_so : (head : Head S I O s) (parts : List (Part E O e)) → ((own : SourceHead S O s) → head ≡ Source own → own.number < length (made_in graph))
        → HeadTied i o nothing_lost line_first head parts → HeadTied i o nothing_lost first head parts
    head_so (Source head) parts low tied = source_so o head parts (low head refl) tied
    head_so (Inlets head) parts low tied = λ port row at. let row_tied = tied port row at in record {
      all = row_tied.all;
      gave = row_tied.gave;
      got = row_tied.got;
      whole = row_tied.whole;
      took = row_tied.took;
      apart = row_tied.apart;
    }

  module _ {S E I O L : Type 0} {s : sources.Ghosts S} {e : elements.Ghosts E} {i : inlets.Ghosts I L O} {o : outlets.Ghosts O L} where
    module _ (tasks : List (Task S E I O L s e i o)) (tells : Option (List Lane)) (low : (k n : ℕ) → Owns tasks k n → n < length (made_in graph)) (net : NetStands line_first tasks tells) where
      task_so : (k : ℕ) (task : Task S E I O L s e i o) → slice_get tasks k ≡ Some task → Ties task first
      task_so k task at = let tied = net.tied k task at in record {
        parts_tied = record {
          each = λ j part part_at.
              part_so o part
              (low k part.number (record { task = task; at = at; has = HasElement.part j (part_frame o part) (map_get (part_frame o) task.parts.items j part part_at) refl }))
              (tied.parts_tied.each j part part_at);
          once = tied.parts_tied.once;
        };
        head_tied =
            head_so i o task.head task.parts.items
            (λ own is. low k own.number (record { task = task; at = at; has = HasElement.source (s.file own.source) (wire_of o own.pad) (ap (head_frame o) is) }))
            tied.head_tied;
      }

      loose_so : (p : ℕ) → ((k : ℕ) → Owns tasks k (owner_in (made_in graph) p) → ⊥) → first.waits p ≡ []
      loose_so p none =
          waits_so p
          ∙ net.loose p (λ k own. none k (subst (λ (n : ℕ). Owns tasks k n) (sym (owner_so p (pad_owner (made_in graph) p) (low k (pad_owner (made_in graph) p) own) refl)) own))

      pub first_stands : NetStands first tasks tells
      first_stands = record {
        plain = record { uncut = net.plain.uncut; calm = net.plain.calm; closed = net.plain.closed };
        tied = task_so;
        ready = net.ready;
        wired = net.wired;
        cells = opening_stands first_plan (moment_answers graph) starts;
        first = net.first;
        table = net.table;
        told = net.told;
        sents = net.sents;
        sent = net.sent;
        rows = λ k n port row has. let stood = net.rows k n port row has in record { got = stood.got; took = stood.took; between = stood.between; holds = stood.holds };
        each = net.each;
        others = net.others;
        loose = loose_so;
      }
