-- What a step of one task keeps at the others.
use Rattle.std.proofs.Common.{◌≡◌, ◌≢◌, ◌⊎◌, ◌++◌, ℕ, true, false, eqb, List, [], ◌∷◌, length, Option, Some, None, refl, sym, ap, ◌∙◌, subst, inl, inr}
use Rattle.std.specs.Prelude.{slice_get}
use Rattle.std.proofs.lemmas.Bool.{cases_eq}
use Rattle.std.proofs.lemmas.Bool.Decides.{eqb_tells}
use Rattle.flow_model.specs.Item.{Item, is_flush_stop}
use Rattle.flow_model.specs.Call.{Call}
use Rattle.lane_core.specs.Lane.{Lane, IsIn, IsOf}
use Rattle.lane_core.specs.declared.ends.Inlet as inlets
use Rattle.lane_core.specs.declared.ends.Outlet as outlets
use Rattle.flow_model.specs.Moment.{Moment, owed_at, put_at}
use Rattle.flow_model.specs.Pad.{Holds}
use Rattle.flow_model.specs.Split.{NoneAt}
use Rattle.flow_model.specs.declared.element.TaskElement as elements
use Rattle.flow_model.specs.declared.source.TaskSource as sources
use Rattle.inlet_row.specs.Row.{feeds_of}
use Rattle.inlet_row.proofs.Losing.{for_map}
use Rattle.task_pads.specs.declared.pad.Pad.{Pad}
use Rattle.task_pads.specs.declared.pad.Behind.{Behind}
use Rattle.task_pads.specs.declared.pad.Behind.TheVariants as behinds
use Rattle.task_pads.specs.Behind.{EndReady, LaneEnd, end_in, goes, inside, over}
use Rattle.task_pads.specs.Pads.{end_of, goes_of, number_of}
use Rattle.task_parts.specs.declared.head.InletHead.{InletHead}
use Rattle.task_parts.specs.declared.head.Head.{Head}
use Rattle.task_parts.specs.declared.head.Head.TheVariants.{Source, Inlets}
use Rattle.net_task.specs.declared.task.Task.{Task}
use Rattle.net_task.specs.Frame.{Room, frame_of, room_in, wire_of}
use Rattle.net_task.specs.Ready.{HeadReady, IsReady}
use Rattle.net_task.specs.Ties.{Ties}
use Rattle.net_turns.specs.Net.{HasElement, IsFed, LaneOut, NetStands, Owns}
use Rattle.net_turns.proofs.Calls.{calm_item}
use Rattle.net_turns.proofs.Owners.{IsPadOf, of_part, of_source, pad_wire, source_pad}
use Rattle.net_turns.proofs.Others.{moved_to, tied_still}
use Rattle.net_turns.proofs.Wired.{IsOther, fed_back, fed_forth, owns_forth}
use Rattle.gst_value.proofs.Basics.{some_same}

-- what is so of all values of a function stays so where another such value is put
pub put_each : {A : Type 0} (P : A → Type 0) (n : ℕ) (now : A) (f : ℕ → A) → P now → (k : ℕ) → P (f k) → P (put_at n now f k)
put_each P n now f here k there = go (eqb_tells k n)
  where
    go : ((eqb k n ≡ true) × (k ≡ n)) ⊎ ((eqb k n ≡ false) × (k ≡ n → ⊥)) → P (put_at n now f k)
    go (inl t) = rw t.0 here
    go (inr t) = rw t.0 there

-- the same, where what holds depends on the place
pub put_or : {A : Type 0} (P : ℕ → A → Type 0) (n : ℕ) (now : A) (f : ℕ → A) (k : ℕ) → (k ≡ n → P k now) → ((k ≡ n → ⊥) → P k (f k)) → P k (put_at n now f k)
put_or P n now f k here there = go (eqb_tells k n)
  where
    go : ((eqb k n ≡ true) × (k ≡ n)) ⊎ ((eqb k n ≡ false) × (k ≡ n → ⊥)) → P k (put_at n now f k)
    go (inl t) = rw t.0 (here t.1)
    go (inr t) = rw t.0 (there t.1)

module _ {O L : Type 0} (o : outlets.Ghosts O L) where
  -- the lane of a pad, by its wire
  pub room_end : (end : Option LaneEnd) (room : Room) → room_in end ≡ Some room → (lane : LaneEnd) × (end ≡ Some lane) × (lane.place ≡ room.place)
  room_end None room e = absurd cc
  room_end (Some lane) room e = (lane, refl, ap (λ (r : Room). r.place) (some_same e))

  behind_over : (b : Behind O) (end : LaneEnd) → end_in o b ≡ Some end → (lane : ℕ) × (n : ℕ) × (port : ℕ) × (from : ℕ) × (goes b ≡ over lane n port from)
  behind_over behinds.Nothing end e = absurd cc
  behind_over (behinds.Element number hint pad) end e = absurd cc
  behind_over (behinds.Lane lane n port from outlet) end e = (lane, n, port, from, refl)

  end_still : (tells tells' : Option (List Lane)) (end : Option LaneEnd)
      → ((one : LaneEnd) → end ≡ Some one → IsOf tells one.place one.limits one.count → IsOf tells' one.place one.limits one.count)
      → EndReady tells end → EndReady tells' end
  end_still tells tells' None f h = h
  end_still tells tells' (Some one) f h = f one refl h

-- A pad of a task leads over a lane.
pub record LeadsOver {S E I O L : Type 0} {s : sources.Ghosts S} {e : elements.Ghosts E} {i : inlets.Ghosts I L O} {o : outlets.Ghosts O L} (task : Task S E I O L s e i o) (pad : Pad O) (place : ℕ) : Type 0 where
  pub lane : ℕ
  pub n : ℕ
  pub port : ℕ
  pub from : ℕ
  pub leads : goes_of pad ≡ over lane n port from
  pub out : LaneOut (frame_of task) (number_of pad) place from n port

module _ {S E I O L : Type 0} {s : sources.Ghosts S} {e : elements.Ghosts E} {i : inlets.Ghosts I L O} {o : outlets.Ghosts O L} where
  pub lane_out : (task : Task S E I O L s e i o) (pad : Pad O) → IsPadOf task.head task.parts.items pad → (end : LaneEnd) → end_of o pad ≡ Some end → LeadsOver task pad end.place
  lane_out task pad is end e =
      let b = behind_over o pad.behind end e in
      record {
        lane = b.0;
        n = b.1;
        port = b.2;
        from = b.3;
        leads = b.4;
        out = record {
          wire = wire_of o pad;
          is = pad_wire o task.head task.parts.items pad is;
          number = refl;
          lane = b.0;
          leads = b.4;
          into = record { room = record { place = end.place; limits = end.limits }; room_is = ap room_in e; place_is = refl };
        };
      }

  -- A task is ready behind a change of the table that keeps all lanes, and those of its pads with their room.
  pub ready_still : (task : Task S E I O L s e i o) (tells tells' : Option (List Lane)) → ((n : ℕ) → IsIn tells n → IsIn tells' n)
      → ((pad : Pad O) (end : LaneEnd) → IsPadOf task.head task.parts.items pad → end_of o pad ≡ Some end → IsOf tells end.place end.limits end.count → IsOf tells' end.place end.limits end.count)
      → IsReady tells task → IsReady tells' task
  ready_still task tells tells' lanes rooms h = record {
    parts_ready = λ j part at k pad pad_at. end_still o tells tells' (end_of o pad) (λ end e was. rooms pad end (of_part j k part at pad_at) e was) (h.parts_ready j part at k pad pad_at);
    head_ready = head task.head (λ pad at end e was. rooms pad end (of_source at) e was) h.head_ready;
    wires_apart = h.wires_apart;
    head_apart = h.head_apart;
  }
    where
      head : (one : Head S I O s)
          → ((pad : Pad O) → source_pad one ≡ Some pad → (end : LaneEnd) → end_of o pad ≡ Some end → IsOf tells end.place end.limits end.count → IsOf tells' end.place end.limits end.count)
          → HeadReady i o tells one → HeadReady i o tells' one
      head (Source one) f g = end_still o tells tells' (end_of o one.pad) (f one.pad refl) g
      head (Inlets one) f g = λ port row at. for_map (λ inlet. IsIn tells (i.place inlet)) (λ inlet. IsIn tells' (i.place inlet)) (feeds_of row) (λ inlet was. lanes (i.place inlet) was) (g port row at)

  module _ (m : Moment) (tasks : List (Task S E I O L s e i o)) (tells : Option (List Lane)) (net : NetStands m tasks tells) where
    -- what crossed a pad or waits there is no FLUSH_STOP
    pub owed_calm : (p : ℕ) (front : List Item) (x : Item) (rest : List Item) → m.history p ++ m.waits p ≡ front ++ x ∷ rest → is_flush_stop x ≡ false
    owed_calm p front x rest e =
        let holds : owed_at m p 0 ≡ m.history p ++ m.waits p =
        subst (λ (cuts : List (ℕ × ℕ)). Holds 0 0 cuts (owed_at m p) (m.history p) (m.waits p)) (net.plain.uncut p) ((net.cells (m.plan.owner p)).pads p refl) in
        calm_item front x rest (owed_at m p 0) (holds ∙ e) (net.plain.calm (m.plan.owner p) (m.plan.port p) (m.took (m.plan.owner p)))

    pub waits_calm : (p : ℕ) (x : Item) (rest : List Item) → m.waits p ≡ x ∷ rest → is_flush_stop x ≡ false
    waits_calm p x rest e = owed_calm p (m.history p) x rest (ap (λ l. m.history p ++ l) e)

    -- Another task stays tied where a moment goes on at elements of one task.
    pub others_tied : (place : ℕ) (history : ℕ → List Item) (took held : ℕ → List (List Call)) (waits : ℕ → List Item)
        → ((p : ℕ) → (Owns tasks place (m.plan.owner p) → ⊥) → history p ≡ m.history p)
        → ((p : ℕ) → (Owns tasks place (m.plan.owner p) → ⊥) → waits p ≡ m.waits p)
        → ((n : ℕ) → (Owns tasks place n → ⊥) → took n ≡ m.took n)
        → ((k : ℕ) (task : Task S E I O L s e i o) (pad : Pad O) (n port : ℕ) → slice_get tasks k ≡ Some task → IsPadOf task.head task.parts.items pad → goes_of pad ≡ inside n port → NoneAt port (m.held n) → NoneAt port (held n))
        → (k : ℕ) (task : Task S E I O L s e i o) → k ≢ place → slice_get tasks k ≡ Some task → Ties task (moved_to m history took held waits)
    others_tied place history took held waits history_same waits_same took_same inner k task elsewhere at =
        tied_still i o m history took held waits task.head task.parts.items (λ p has. history_same p (apart (m.plan.owner p) has)) (λ p has. waits_same p (apart (m.plan.owner p) has))
        (λ n has. took_same n (apart n has)) (λ pad n port is leads none. inner k task pad n port at is leads none) task.closed (net.tied k task at)
      where
        apart : (n : ℕ) → HasElement (frame_of task) n → Owns tasks place n → ⊥
        apart n has own = elsewhere (net.wired.once k place n record { task = task; at = at; has = has } own)

  -- each task now, by the one that is another
  pub each_task : (tasks tasks' : List (Task S E I O L s e i o)) (place : ℕ) (before after : Task S E I O L s e i o) → IsOther tasks tasks' place before after
      → (P : Task S E I O L s e i o → Type 0) → P after
      → ((k : ℕ) (task : Task S E I O L s e i o) → k ≢ place → slice_get tasks k ≡ Some task → P task) → (k : ℕ) (task : Task S E I O L s e i o) → slice_get tasks' k ≡ Some task → P task
  each_task tasks tasks' place before after c P here there k task at = go (cases_eq k place)
    where
      go : (k ≡ place) ⊎ (k ≡ place → ⊥) → P task
      go (inl same) = let one : after ≡ task = some_same (sym c.at_after ∙ (ap (λ j. slice_get tasks' j) (sym same) ∙ at)) in subst P one here
      go (inr elsewhere) = there k task elsewhere (sym (c.others k elsewhere) ∙ at)

  -- what is counted and what is empty
  module _ (m : Moment) (tasks tasks' : List (Task S E I O L s e i o)) (tells : Option (List Lane)) (net : NetStands m tasks tells) (place : ℕ) (before after : Task S E I O L s e i o)
      (c : IsOther tasks tasks' place before after) where
    pub each_now : (held : ℕ → List (List Call)) → ((n : ℕ) → length (held n) ≡ length (m.held n)) → (k : ℕ) (head : InletHead I) → IsFed tasks' k head
        → length (held head.number) ≡ length head.rows.items
    each_now held same k head f =
        let back = fed_back tasks tasks' place before after c k head f in
        same head.number ∙ (ap (λ (n : ℕ). length (m.held n)) back.2.number ∙ (net.each k back.0 back.1 ∙ sym back.2.size))

    pub unfed_now : (n : ℕ) → ((k : ℕ) (head : InletHead I) → IsFed tasks' k head → head.number ≢ n) → (k : ℕ) (head : InletHead I) → IsFed tasks k head → head.number ≢ n
    unfed_now n none k head f e = let forth = fed_forth tasks tasks' place before after c k head f in none k forth.0 forth.1 (forth.2.number ∙ e)

    pub loose_now : (waits : ℕ → List Item) → ((p : ℕ) → (Owns tasks place (m.plan.owner p) → ⊥) → waits p ≡ m.waits p) → (p : ℕ)
        → ((k : ℕ) → Owns tasks' k (m.plan.owner p) → ⊥) → waits p ≡ []
    loose_now waits same p none =
        let no_task : (k : ℕ) → Owns tasks k (m.plan.owner p) → ⊥ = λ k own. none k (owns_forth tasks tasks' place before after c k (m.plan.owner p) own) in
        same p (no_task place) ∙ net.loose p no_task
