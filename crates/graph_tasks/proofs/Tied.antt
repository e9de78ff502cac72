-- Each task of a graph is tied to the moment at which the run begins.
use Rattle.std.proofs.Common.{◌≡◌, ◌≢◌, ◌<◌, ◌+◌, ◌*◌, ◌%◌, ℕ, false, true, List, [], Option, None, Some, length, refl, sym, ap, ◌∙◌, subst, arith}
use Rattle.std.specs.Prelude.{slice_get}
use Rattle.std.proofs.lemmas.Option.{slice_get_within}
use Rattle.std.proofs.lemmas.List.FromFn.{length-map-range_with_len}
use Rattle.flow_model.specs.Item.{Item}
use Rattle.lane_core.specs.Lane.{Lane}
use Rattle.lane_core.specs.declared.ends.Inlet as inlets
use Rattle.lane_core.specs.declared.ends.Outlet as outlets
use Rattle.flow_model.specs.declared.element.TaskElement as elements
use Rattle.flow_model.specs.declared.source.TaskSource as sources
use Rattle.flow_model.specs.Moment.{behavior_at}
use Rattle.std.specs.Option.{option_map_or}
use Rattle.el_settings.specs.Asked.{sink_pads, is_source}
use Rattle.graph_core.specs.Elements.{Made, has}
use Rattle.graph_core.specs.Graph.{made as made_in, links as links_in}
use Rattle.graph_pads.specs.Links.{sink_behind, source_before}
use Rattle.graph_core.specs.declared.graph.Graph.{Graph}
use Rattle.graph_pads.specs.declared.pad.PadPlace.{PadPlace}
use Rattle.graph_core.specs.GraphPlan.{line_plan, owner_of, pad_id, sink_at, sink_count as sinks_of, spans_from, sink_at as place_at}
use Rattle.graph_parts.specs.Links.{Begins, has_inlets, source_count}
use Rattle.graph_parts.specs.Bags.{IsHead}
use Rattle.graph_parts.specs.declared.bag.Bag.{Bag}
use Rattle.graph_parts.specs.declared.bag.BagElement.{BagElement}
use Rattle.graph_parts.specs.declared.bag.BagHead.{BagHead}
use Rattle.graph_parts.specs.declared.bag.BagHead.TheVariants as bags_heads
use Rattle.graph_parts.specs.Plans.{moment_plan}
use Rattle.graph_parts.proofs.Rules.{moment_starts}
use Rattle.graph_parts.proofs.Trees.{none_leads as no_lead}
use Rattle.graph_parts.proofs.Wholes.{numbers_have_pads}
use Rattle.inlet_row.specs.declared.feeding.Feeding.{Feeding}
use Rattle.inlet_row.specs.declared.row.InletRow.{InletRow}
use Rattle.inlet_row.specs.Row.{GaveInAll, RowGave}
use Rattle.task_pads.specs.declared.pad.Pad.{Pad}
use Rattle.task_pads.specs.Behind.{inside, nowhere, over}
use Rattle.task_pads.specs.Pads.{goes_of, number_of}
use Rattle.task_parts.specs.declared.part.Part.{Part}
use Rattle.task_parts.specs.declared.head.Head.{Head}
use Rattle.task_parts.specs.declared.head.InletHead.{InletHead}
use Rattle.task_parts.specs.declared.head.SourceHead.{SourceHead}
use Rattle.task_parts.specs.Part.{waits_at}
use Rattle.net_task.specs.declared.task.Task.{Task}
use Rattle.net_task.specs.Ties.{HasPad, HeadTied, NoneIs, NoneLeads, PartTied, PortTied, RowTied, SourceTied, Stands, Ties, nothing_lost}
use Rattle.graph_tasks.specs.Tasks.{IsHeadOf, IsOf, IsPadOf, IsPartOf, IsRowOf, LeadsTo, sink_count}
use Rattle.graph_tasks.proofs.Lists.{took_none}
use Rattle.graph_tasks.proofs.Graphs.{gives_none}
use Rattle.graph_tasks.proofs.Bags.{among, elements_once, no_source, source_among, source_apart}
use Rattle.graph_tasks.proofs.Pads.{start, pad_linked, pad_number, pad_waits}
use Rattle.graph_tasks.proofs.Targets.{head_begins}
use Rattle.graph_tasks.proofs.Given.{IsBegun, cell_of, pad_there, placed, there}
use Rattle.gst_value.proofs.Places.{found_at as got_within}

-- how many sink pads an element has
pub sinks_count : (contents : ℕ → List ℕ) (graph : Graph) (n : ℕ) → length ((moment_plan contents graph).sinks n) ≡ sink_count (made_in graph) n
unfolding line_plan
sinks_count contents graph n = length-map-range_with_len (λ (k : ℕ). spans_from (source_before (links_in graph) (sink_at n k))) 0 _ ∙ same (slice_get (made_in graph) n)
  where
    same : (found : Option Made) → sinks_of found ≡ option_map_or (λ (m : Made). sink_pads m.settings) found 0
    same None = refl
    same (Some m) = refl

module _ {S E I O L : Type 0} {s : sources.Ghosts S} {e : elements.Ghosts E} {i : inlets.Ghosts I L O} {o : outlets.Ghosts O L}
    {contents : ℕ → List ℕ} {graph : Graph} {bags : List Bag} {ends : List (Option E)} {files : List (Option S)} {tasks : List (Task S E I O L s e i o)} {table : List Lane}
    (g : IsBegun i o contents graph bags ends files tasks table) where
  port_tied : (cell : BagElement) (part : Part E O e) → IsPartOf o (made_in graph) (links_in graph) ends cell part → has is_source (made_in graph) cell.element ≡ false → (port : ℕ) (pad : Pad O)
      → slice_get part.pads.items port ≡ Some pad → PortTied o (start contents graph) part.number port pad (waits_at part port pad)
  unfolding line_plan
  port_tied cell part is none port pad at =
      let own = is.pads port pad at in
      let w = pad_there g.known cell part is port pad at in
      let number = pad_number o contents graph g.known.sound g.known.once cell.element port pad w own in
      record {
        owner = number.owner ∙ sym is.number;
        port_is = number.port;
        linked = pad_linked o contents graph g.known.sound g.known.once cell.element port pad w own;
        waits =
            pad_waits o contents graph g.known.sound g.known.once cell.element port pad w own ∙ gives_none (made_in graph) cell.element (contents cell.element) none
            ∙ sym (rw (own.idle, is.out) refl);
      }

  has_pad : (cell : BagElement) (part : Part E O e) → IsPartOf o (made_in graph) (links_in graph) ends cell part → cell.element < length (made_in graph) → (p : ℕ)
      → (moment_plan contents graph).owner p ≡ part.number → HasPad part.pads.items (start contents graph) p
  unfolding line_plan
  has_pad cell part is within p owner =
      let same = owner ∙ is.number in
      let number = numbers_have_pads (made_in graph) p (omega (arith, same, within)) in
      let element : owner_of p ≡ cell.element = sym number.owner ∙ same in
      let few = subst (λ (n : ℕ). p % 64 < source_count (made_in graph) n) element number.there in
      let all = is.all in
      let found = got_within part.pads.items (p % 64) (omega (arith, few, all)) in
      record {
        pad = found.0;
        at = found.1;
        number = (is.pads (p % 64) found.0 found.1).number ∙ ap (λ (n : ℕ). n * 64 + p % 64) (sym element) ∙ sym number.number;
        uncut = (moment_starts contents graph).uncut p;
      }

  part_tied : (cell : BagElement) (part : Part E O e) → IsPartOf o (made_in graph) (links_in graph) ends cell part → has is_source (made_in graph) cell.element ≡ false
      → cell.element < length (made_in graph) → PartTied o (Stands (start contents graph) part) (start contents graph) part
  part_tied cell part is none within =
      record {
        stood =
            subst (λ (n : ℕ). e.stands part.element (behavior_at (start contents graph) n) ((start contents graph).took n)) (sym is.number)
            (g.stood cell.element part.element none is.element);
        pads = port_tied cell part is none;
        mine = has_pad cell part is within;
      }

  -- the head: a source
  source_tied : (cell : BagElement) (head : SourceHead S O s) (parts : List (Part E O e)) → head.number ≡ cell.element → IsOf files cell.element head.source → head.given ≡ 0
      → source_count (made_in graph) cell.element ≡ 1 → IsPadOf o (made_in graph) (links_in graph) cell.element 0 head.pad → has is_source (made_in graph) cell.element ≡ true
      → cell.element < length (made_in graph) → NoneIs parts head.number → SourceTied o [] (start contents graph) head parts
  unfolding line_plan
  source_tied cell head parts number file given one own is within apart =
      let w : 0 < source_count (made_in graph) cell.element = omega (arith, one) in
      let numbered = pad_number o contents graph g.known.sound g.known.once cell.element 0 head.pad w own in
      let idle = ap length own.idle in
      record {
        owner = numbered.owner ∙ sym number;
        mine = mine;
        linked = pad_linked o contents graph g.known.sound g.known.once cell.element 0 head.pad w own;
        gave =
            subst (λ (xs : List Item). s.gave head.source ((start contents graph).waits (number_of head.pad)) xs) (sym own.idle)
            (subst (λ (xs : List Item). s.gave head.source xs []) (sym (pad_waits o contents graph g.known.sound g.known.once cell.element 0 head.pad w own)) (g.gave cell.element head.source is file));
        given = omega (arith, given, idle);
        apart = apart;
      }
    where
      mine : (p : ℕ) → (moment_plan contents graph).owner p ≡ head.number → p ≡ number_of head.pad
      mine p owner =
          let same = owner ∙ number in
          let its = numbers_have_pads (made_in graph) p (omega (arith, same, within)) in
          let element : owner_of p ≡ cell.element = sym its.owner ∙ same in
          let few = subst (λ (n : ℕ). p % 64 < source_count (made_in graph) n) element its.there in
          let first : p % 64 ≡ 0 = omega (arith, few, one) in
          its.number ∙ ap (λ (n : ℕ). n * 64 + p % 64) element ∙ ap (λ (n : ℕ). cell.element * 64 + n) first ∙ sym own.number

  -- or rows
  row_gave : (n port : ℕ) (row : InletRow I) → IsRowOf i (made_in graph) (links_in graph) n port row → RowGave i row []
  row_gave n port row (IsRowOf.unlinked none feeds) = subst (λ (fs : List (Feeding I)). GaveInAll i.received fs []) (sym feeds) (record { past = []; lane = []; whole = refl; front = refl; behind = tt })
  row_gave n port row (IsRowOf.linked inlet has feeds place received) =
      subst (λ (fs : List (Feeding I)). GaveInAll i.received fs []) (sym feeds) (record { past = []; lane = []; whole = refl; front = received; behind = tt })

  row_tied : (n port : ℕ) (head : InletHead I) (row : InletRow I) (parts : List (Part E O e)) → head.number ≡ n → port < sink_count (made_in graph) n
      → IsRowOf i (made_in graph) (links_in graph) n port row → NoneLeads parts head.number port → RowTied i [] (start contents graph) head.number port row parts
  row_tied n port head row parts number within is none =
      let count = sinks_count contents graph n in
      record {
        all = [];
        gave = row_gave n port row is;
        got = [];
        whole = refl;
        took = rw number (took_none port ((moment_plan contents graph).sinks n) (omega (arith, within, count)));
        apart = none;
      }

  head_tied : (bag : BagHead) (head : Head S I O s) (parts : List (Part E O e)) → IsHeadOf i o (made_in graph) (links_in graph) files bag head → IsHead (made_in graph) (links_in graph) bag
      → ((own : BagElement) → bag ≡ bags_heads.Source own → (own.element < length (made_in graph)) × NoneIs parts own.element)
      → ((n port : ℕ) → bag ≡ bags_heads.Inlets n → NoneLeads parts n port) → HeadTied i o nothing_lost (start contents graph) head parts
  head_tied bag head parts (IsHeadOf.from_source cell own number file given one pad) is apart none =
      let a = apart cell refl in
      source_tied cell own parts number file given one pad is a.0 (subst (λ (n : ℕ). NoneIs parts n) (sym number) a.1)
  head_tied bag head parts (IsHeadOf.from_inlets n own number count rows) is apart none = λ port row at.
      let w = slice_get_within own.rows.items port row at in
      row_tied n port own row parts number (omega (arith, w, count)) (rows port row at) (subst (λ (k : ℕ). NoneLeads parts k port) (sym number) (none n port refl))

  -- no pad leads inside to what begins a bag
  inside_element : {a b c d : ℕ} → inside a b ≡ inside c d → a ≡ c
  inside_element same = cc

  none_leads : (cell : BagElement) (part : Part E O e) → IsPartOf o (made_in graph) (links_in graph) ends cell part → (n port k : ℕ) (pad : Pad O) → Begins (made_in graph) (links_in graph) n
      → slice_get part.pads.items k ≡ Some pad → goes_of pad ≢ inside n port
  none_leads cell part is n port k pad begins at same = go (sink_behind (links_in graph) (place_at cell.element k)) refl (is.pads k pad at).leads
    where
      go : (found : Option PadPlace) → sink_behind (links_in graph) (place_at cell.element k) ≡ found → LeadsTo o (made_in graph) (links_in graph) pad found → ⊥
      go _ here (LeadsTo.nothing leads) = no (sym leads ∙ same)
        where
          no : nowhere ≡ inside n port → ⊥
          no e = cc
      go _ here (LeadsTo.element sink inner leads) =
          let to : sink.element ≡ n = inside_element (sym leads ∙ same) in
          no_lead (made_in graph) (links_in graph) g.known.sound.pads g.known.once n begins cell.element
          (record {
            pad = k;
            there = let w = slice_get_within part.pads.items k pad at in let all = is.all in omega (arith, w, all);
            sink = sink;
            linked = here;
            element = to;
            inner = subst (λ (a : ℕ). has has_inlets (made_in graph) a ≡ false) to inner;
          })
      go _ here (LeadsTo.lane sink outer into) = no (sym into.goes ∙ same)
        where
          no : over (pad_id sink) sink.element sink.pad 0 ≡ inside n port → ⊥
          no e = cc

  pub tied : (k : ℕ) (task : Task S E I O L s e i o) → slice_get tasks k ≡ Some task → Ties task (start contents graph)
  tied k task at =
      let p = placed g.known k task at in
      let source = λ (own : BagElement) (is : p.bag.head ≡ bags_heads.Source own). source_among (made_in graph) (links_in graph) p.bag p.is own is in
      record {
        parts_tied = record {
          each = λ j part here.
              let c = cell_of g.known k j task p part here in
              part_tied c.cell part c.of (no_source (made_in graph) (links_in graph) p.bag p.is g.known.sound.pads j c.cell c.at)
              (there g.known k c.cell.element task p (among (made_in graph) (links_in graph) p.bag p.is j c.cell c.at));
          once = λ j l one other here too same.
              let c = cell_of g.known k j task p one here in
              let d = cell_of g.known k l task p other too in
              elements_once (made_in graph) (links_in graph) p.bag p.is j l c.cell d.cell c.at d.at (sym c.of.number ∙ same ∙ d.of.number);
        };
        head_tied =
            head_tied p.bag.head task.head task.parts.items p.of.head p.is.head
            (λ own is. (
              there g.known k own.element task p (source own is),
              λ j part here same.
                  let c = cell_of g.known k j task p part here in
                  source_apart (made_in graph) (links_in graph) p.bag p.is own is j c.cell c.at (sym c.of.number ∙ same),
            ))
            (λ n port is j l part pad here there same.
            let c = cell_of g.known k j task p part here in
            none_leads c.cell part c.of n port l pad (head_begins (made_in graph) (links_in graph) (bags_heads.Inlets n) (subst (λ (h : BagHead). IsHead (made_in graph) (links_in graph) h) is p.is.head)) there same);
      }
