-- A task of a net becomes two: the net is ready as it was, and stands.
use Rattle.std.proofs.Common.{◌≡◌, ◌≢◌, ◌⊎◌, ◌<◌, ◌++◌, ℕ, List, [], length, Option, Some, refl, sym, ap, ◌∙◌, subst, inl, inr, arith, append-nil}
use Rattle.std.specs.Prelude.{slice_get}
use Rattle.std.proofs.lemmas.Option.{slice_get_within}
use Rattle.flow_model.specs.Call.{feeds}
use Rattle.lane_core.specs.Lane.{IsIn, Lane}
use Rattle.lane_core.specs.declared.ends.Inlet as inlets
use Rattle.lane_core.specs.declared.ends.Outlet as outlets
use Rattle.flow_model.specs.Moment.{Moment}
use Rattle.flow_model.specs.Split.{AreEmpty}
use Rattle.flow_model.specs.declared.element.TaskElement as elements
use Rattle.flow_model.specs.declared.source.TaskSource as sources
use Rattle.inlet_row.specs.declared.feeding.Feeding.{Feeding}
use Rattle.inlet_row.specs.declared.row.InletRow.{InletRow}
use Rattle.inlet_row.specs.Row.{Apart, ForLanes, GaveInAll, GaveOf, feeds_of, held}
use Rattle.task_pads.specs.Behind.{inside}
use Rattle.task_parts.specs.declared.head.Head.{Head}
use Rattle.task_parts.specs.declared.head.Head.TheVariants.{Inlets}
use Rattle.task_parts.specs.declared.head.InletHead.{InletHead}
use Rattle.net_task.specs.declared.task.Task.{Task}
use Rattle.net_task.specs.Frame.{IsWire, of_part as wire_part, Wire, frame_of, wire_of}
use Rattle.net_task.specs.Ready.{AreReady, IsReady}
use Rattle.net_task.specs.Ties.{AreTied, RowTied, Stands, Ties, nothing_lost}
use Rattle.net_turns.specs.Net.{HasRow, IsFed, ListAt, NetReady, NetStands, Owns, RowStands}
use Rattle.net_turns.proofs.Facts.{fed_owned}
use Rattle.gst_value.proofs.Basics.{some_same}
use Rattle.net_groups.specs.Places.{IsPartOf}
use Rattle.net_groups.specs.Behind.{IsBehind, itself}
use Rattle.net_groups.specs.Splits.{IsSplitAt, TookItems, number_in}
use Rattle.net_groups.proofs.Regrouped.{regrouped_ready, regrouped_stands}
use Rattle.net_groups.proofs.Taken.{GotAt, held_size, none_at, took_items}
use Rattle.net_groups.proofs.Wiring.{pad_wire, part_has}
use Rattle.net_groups.proofs.Within.{gone_within, kept_within, parts_ready_within, parts_tied_within, place_in, ready_within, tied_within, wires_apart_within, within_at}
use Rattle.net_groups.proofs.Halves.{Found, at_first, at_last, at_other, fed_back, fed_on, found, regrouped}

module _ {S E I O L : Type 0} {s : sources.Ghosts S} {e : elements.Ghosts E} {i : inlets.Ghosts I L O} {o : outlets.Ghosts O L} (tasks tasks' : List (Task S E I O L s e i o)) (place element pads : ℕ)
    (z : IsSplitAt tasks tasks' place element pads) (p : IsPartOf tasks place element) (unled : (wire : Wire) (port : ℕ) → IsWire (frame_of z.was) wire → wire.leads ≢ inside element port) where
  abbrev was : Task S E I O L s e i o
  was = z.was

  abbrev is : Task S E I O L s e i o
  is = z.is

  abbrev fresh : Task S E I O L s e i o
  fresh = z.fresh

  -- ---- the two tasks are ready

  -- what is so of a row in which nothing stands
  bare_row : (P : List (Feeding I) → Type 0) (port : ℕ) (row : InletRow I) → slice_get z.fed.rows.items port ≡ Some row → P [] → P (feeds_of row)
  bare_row P port row at nothing = subst P (sym (z.bare port row at)) nothing

  ready_each : (tells : Option (List Lane)) → ((k : ℕ) (task : Task S E I O L s e i o) → slice_get tasks k ≡ Some task → IsReady tells task) → (k : ℕ) (task : Task S E I O L s e i o) → slice_get tasks' k ≡ Some task → IsReady tells task
  ready_each tells ready k task at = go (found tasks tasks' place element pads z k task at)
    where
      first : IsReady tells is
      first = subst (λ (h : Head S I O s). AreReady i o tells h is.parts.items) (sym z.head) (ready_within i o (kept_within z.parted) tells was.head (ready place was z.at))

      now : Head S I O s
      now = Inlets z.fed

      last : IsReady tells fresh
      last = subst (λ (h : Head S I O s). AreReady i o tells h fresh.parts.items) (sym z.fed_is) (record {
        parts_ready = parts_ready_within o (gone_within z.parted) tells (ready place was z.at).parts_ready;
        head_ready = λ port row at. bare_row (λ fs. ForLanes (λ inlet. IsIn tells (i.place inlet)) fs) port row at tt;
        wires_apart = wires_apart_within o was.head now (gone_within z.parted) (λ other none. absurd cc) (ready place was z.at).wires_apart;
        head_apart = record {
          each = λ port row at. bare_row (λ fs. Apart i fs) port row at tt;
          rows = λ j k one other at at' ne. bare_row (λ fs. ForLanes (λ inlet. ForLanes (λ second. i.place second ≢ i.place inlet) (feeds_of other)) fs) j one at tt;
          pads = λ j k from wire x l port row at. bare_row (λ fs. ForLanes (λ inlet. from ≢ i.place inlet) fs) port row at tt;
        };
      })

      go : Found tasks tasks' place element pads z k task → IsReady tells task
      go (at_first same t) = subst (λ (t : Task S E I O L s e i o). IsReady tells t) (sym t) first
      go (at_other else within at) = ready k task at
      go (at_last same t) = subst (λ (t : Task S E I O L s e i o). IsReady tells t) (sym t) last

  pub split_ready : (tells : Option (List Lane)) → NetReady tasks tells → NetReady tasks' tells
  split_ready tells n = regrouped_ready tasks tasks' (regrouped tasks tasks' place element pads z n.wired) tells (ready_each tells n.ready) n

  -- ---- and stand at the moment

  module _ (m : Moment) (tells : Option (List Lane)) (n : NetStands m tasks tells) (items : TookItems m element pads) where
    -- no head fed the element
    unfed : (k : ℕ) (head : InletHead I) → IsFed tasks k head → head.number ≢ element
    unfed k head w same =
        let here : k ≡ place = n.wired.once k place element (subst (λ (x : ℕ). Owns tasks k x) same (fed_owned tasks k head w))
        (record { task = was; at = z.at; has = part_has o was.head was.parts.items element (record { place = p.place; part = p.is.part; at = ap (λ (t : Task S E I O L s e i o). slice_get t.parts.items p.place) (some_same (sym z.at ∙ p.at)) ∙ p.is.at; number = p.is.number_is }) }) in
        let heads : was.head ≡ Inlets head = ap (λ (t : Task S E I O L s e i o). t.head) (some_same (sym z.at ∙ ap (λ (x : ℕ). slice_get tasks x) (sym here) ∙ w.at)) ∙ w.head_is in
        z.ahead (subst (λ (x : ℕ). IsBehind was.parts.items element x) (sym same ∙ ap (λ (h : Head S I O s). number_in h) (sym heads)) itself)

    nothing_held : AreEmpty (m.held element)
    nothing_held = n.others element unfed

    size : length (m.held element) ≡ pads
    size = held_size m.history (m.took element) (m.held element) (m.plan.sinks element) (n.cells element).input ∙ items.size

    got : (port : ℕ) → port < pads → GotAt (m.took element) port
    got port within = took_items m.history (m.took element) (m.held element) (m.plan.sinks element) (n.cells element).input nothing_held items.marks port (let l = items.size in omega (arith, within, l))

    row_within : (port : ℕ) (row : InletRow I) → slice_get z.fed.rows.items port ≡ Some row → port < pads
    row_within port row at = let a = slice_get_within z.fed.rows.items port row at in let b = z.size in omega (arith, a, b)

    last_rows : (port : ℕ) (row : InletRow I) → slice_get z.fed.rows.items port ≡ Some row → RowTied i [] m z.fed.number port row fresh.parts.items
    last_rows port row at =
        let g = got port (row_within port row at) in
        subst (λ (x : ℕ). RowTied i [] m x port row fresh.parts.items) (sym z.number) (record {
          all = g.got ++ [];
          gave = bare_row (λ fs. GaveInAll i.received fs (g.got ++ [])) port row at (record { past = g.got ++ []; lane = []; whole = sym (append-nil (g.got ++ [])); front = refl; behind = tt });
          got = g.got;
          whole = refl;
          took = g.took;
          apart = λ j k part pad part_at pad_at leads.
              let at = (within_at (gone_within z.parted) j part part_at).0 in
              unled (wire_of o pad) port (wire_part (place_in (gone_within z.parted) j) k (pad_wire o was.head was.parts.items (place_in (gone_within z.parted) j) k part pad at pad_at)) leads;
        })

    tied : (k : ℕ) (task : Task S E I O L s e i o) → slice_get tasks' k ≡ Some task → Ties task m
    tied k task at = go (found tasks tasks' place element pads z k task at)
      where
        first : Ties is m
        first = subst (λ (h : Head S I O s). AreTied i o (Stands m) nothing_lost m h is.parts.items) (sym z.head) (tied_within i o (kept_within z.parted) m was.head (n.tied place was z.at))

        last : Ties fresh m
        last = subst (λ (h : Head S I O s). AreTied i o (Stands m) nothing_lost m h fresh.parts.items) (sym z.fed_is) (record {
          parts_tied = parts_tied_within o (gone_within z.parted) m (n.tied place was z.at).parts_tied;
          head_tied = last_rows;
        })

        go : Found tasks tasks' place element pads z k task → Ties task m
        go (at_first same t) = subst (λ (t : Task S E I O L s e i o). Ties t m) (sym t) first
        go (at_other else within at) = n.tied k task at
        go (at_last same t) = subst (λ (t : Task S E I O L s e i o). Ties t m) (sym t) last

    rows : (k x port : ℕ) (row : InletRow I) → HasRow tasks' k x port row → RowStands i n.table n.sents m x port row
    rows k x port row w = go (fed_back tasks tasks' place element pads z k w.head w.fed)
      where
        go : ((j : ℕ) × IsFed tasks j w.head) ⊎ (z.fed ≡ w.head) → RowStands i n.table n.sents m x port row
        go (inl y) = n.rows y.0 x port row (record { head = w.head; fed = y.1; number = w.number; at = w.at })
        go (inr same) =
            let at : slice_get z.fed.rows.items port ≡ Some row = ap (λ (h : InletHead I). slice_get h.rows.items port) same ∙ w.at in
            let g = got port (row_within port row at) in
            subst (λ (y : ℕ). RowStands i n.table n.sents m y port row) (sym z.number ∙ ap (λ (h : InletHead I). h.number) same ∙ w.number) (record {
              got = g.got;
              took = g.list;
              between = bare_row (λ fs. GaveInAll (GaveOf i (Some n.table) n.sents) fs g.got) port row at (record { past = g.got; lane = []; whole = sym (append-nil g.got); front = refl; behind = tt });
              holds = bare_row (λ fs. ListAt port (m.held element) (feeds (held i n.table fs))) port row at (none_at (m.held element) port nothing_held (let a = row_within port row at in let b = size in omega (arith, a, b)));
            })

    each : (k : ℕ) (head : InletHead I) → IsFed tasks' k head → length (m.held head.number) ≡ length head.rows.items
    each k head w = go (fed_back tasks tasks' place element pads z k head w)
      where
        go : ((j : ℕ) × IsFed tasks j head) ⊎ (z.fed ≡ head) → length (m.held head.number) ≡ length head.rows.items
        go (inl y) = n.each y.0 head y.1
        go (inr same) = subst (λ (h : InletHead I). length (m.held h.number) ≡ length h.rows.items) same (ap (λ (x : ℕ). length (m.held x)) z.number ∙ size ∙ sym z.size)

    pub split_stands : NetStands m tasks' tells
    split_stands = regrouped_stands tasks tasks' (regrouped tasks tasks' place element pads z n.wired) m tells n tied (ready_each tells n.ready) rows each (λ x none. n.others x (λ k head w. let y = fed_on tasks tasks' place element pads z k head w in none y.0 head y.1))
