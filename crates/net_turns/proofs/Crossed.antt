-- A step that leaves the lanes as they were keeps a net: an item crosses inside a task or to nobody, or a source gives one.
use Rattle.std.proofs.Common.{◌≡◌, ◌⊎◌, ◌++◌, ℕ, true, false, eqb, List, [], ◌∷◌, drop, Option, Some, refl, sym, ap, ◌∙◌, subst, inl, inr}
use Rattle.std.specs.Prelude.{slice_get}
use Rattle.std.proofs.lemmas.Bool.Decides.{eqb_tells}
use Rattle.flow_model.specs.Item.{Item}
use Rattle.flow_model.specs.Call.{Feed, feeds}
use Rattle.lane_core.specs.Lane.{Lane}
use Rattle.lane_core.specs.declared.ends.Inlet as inlets
use Rattle.lane_core.specs.declared.ends.Outlet as outlets
use Rattle.flow_model.specs.Moment.{Moment, put_at}
use Rattle.flow_model.specs.SinkPads.{push_calls, InSection}
use Rattle.flow_model.specs.Step.{Leads, Leaves, crossed, passed}
use Rattle.flow_model.proofs.Inputs.{at_other}
use Rattle.flow_model.proofs.Steps.{leaving_keeps, passing_keeps}
use Rattle.flow_model.specs.declared.element.TaskElement as elements
use Rattle.flow_model.specs.declared.source.TaskSource as sources
use Rattle.inlet_row.specs.declared.row.InletRow.{InletRow}
use Rattle.task_pads.specs.Behind.{inside}
use Rattle.net_task.specs.declared.task.Task.{Task}
use Rattle.net_task.specs.Frame.{Wire, IsWire, frame_of}
use Rattle.net_task.specs.Moves.{Answers, HandsOn, RowsStay}
use Rattle.net_task.specs.Ready.{IsReady}
use Rattle.net_task.specs.Ties.{Ties}
use Rattle.net_turns.specs.Net.{HasRow, ListAt, NetGoes, NetStands, Owns, RowStands, SendsInto}
use Rattle.net_turns.proofs.Calls.{push_else, push_section}
use Rattle.net_turns.proofs.Growing.{crossed_on, passed_on, stays_so}
use Rattle.net_turns.proofs.Facts.{inside_no_row, inside_owned, leads_nowhere, leads_once, other_pad, own_pad, sends_leads, wire_owned}
use Rattle.net_turns.proofs.Keeping.{each_now, each_task, loose_now, others_tied, put_each, put_or, unfed_now, waits_calm}
use Rattle.net_turns.proofs.Wired.{IsOther, row_stays, sends_back, wired_still}

module _ {S E I O L : Type 0} {s : sources.Ghosts S} {e : elements.Ghosts E} {i : inlets.Ghosts I L O} {o : outlets.Ghosts O L} where
  module _ (m : Moment) (tasks tasks' : List (Task S E I O L s e i o)) (tells tells' : Option (List Lane)) (net : NetStands m tasks tells) (place : ℕ) (before after : Task S E I O L s e i o)
      (c : IsOther tasks tasks' place before after) (ready : IsReady tells' after) (table : tells' ≡ tells) (stay : RowsStay before.head after.head) where
    ready_all : (k : ℕ) (task : Task S E I O L s e i o) → slice_get tasks' k ≡ Some task → IsReady tells' task
    ready_all = each_task tasks tasks' place before after c (λ task. IsReady tells' task) ready (λ k task apart at. subst (λ (t : Option (List Lane)). IsReady t task) (sym table) (net.ready k task at))

    -- an item crosses to an element of the task
    module _ (p : ℕ) (x : Item) (rest : List Item) (n port : ℕ) (out : ℕ → List Item) (hands : HandsOn m p x rest n port) (answers : Answers m n port x out) (wire : Wire) (is : IsWire (frame_of before) wire)
        (number : wire.number ≡ p) (leads : wire.leads ≡ inside n port) (tied : Ties after (passed p x rest n port out m)) where
      passed_own : Owns tasks place (m.plan.owner p)
      passed_own = own_pad m tasks tells net place before c.at wire p is number

      passed_to : Owns tasks place n
      passed_to =
          let w = wire_owned m tasks tells net place before wire c.at is in
          inside_owned tasks place before w.0 n port c.at w.1 (sym (ap (λ (one : Wire). one.leads) w.2) ∙ leads)

      passed_no_row : (j : ℕ) (row : InletRow I) → HasRow tasks j n port row → ⊥
      passed_no_row j row h =
          let w = wire_owned m tasks tells net place before wire c.at is in
          inside_no_row m tasks tells net place j n port before w.0 row c.at w.1 (sym (ap (λ (one : Wire). one.leads) w.2) ∙ leads) h

      passed_waits : (q : ℕ) → (Owns tasks place (m.plan.owner q) → ⊥) → (passed p x rest n port out m).waits q ≡ m.waits q
      passed_waits q none = go (eqb_tells (m.plan.owner q) n)
        where
          same : put_at p rest m.waits q ≡ m.waits q
          same = at_other p rest m.waits q (other_pad m tasks tells net place p q passed_own none)

          go : ((eqb (m.plan.owner q) n ≡ true) × (m.plan.owner q ≡ n)) ⊎ ((eqb (m.plan.owner q) n ≡ false) × (m.plan.owner q ≡ n → ⊥)) → (passed p x rest n port out m).waits q ≡ m.waits q
          go (inl t) = absurd (none (subst (λ (a : ℕ). Owns tasks place a) (sym t.1) passed_to))
          go (inr t) = rw t.0 same

      passed_sent : (k q lane from n' port' : ℕ) → SendsInto tasks' k q lane from n' port' → net.sents lane ≡ drop from ((passed p x rest n port out m).history q)
      passed_sent k q lane from n' port' h =
          let was = sends_back tasks tasks' place before after c k q lane from n' port' h in
          let pair = net.wired.paired k q lane from n' port' was in
          let crossed_not : q ≡ p → ⊥ = λ same.
          let once = leads_once m.plan p n port n' port' hands.leads (subst (λ (r : ℕ). Leads m.plan r n' port') same (sends_leads m tasks tells net k q lane from n' port' was)) in
          passed_no_row pair.0 pair.1 (subst (λ (a : ℕ). HasRow tasks pair.0 a port pair.1) (sym once.0) (subst (λ (a : ℕ). HasRow tasks pair.0 n' a pair.1) (sym once.1) pair.2)) in
          net.sent k q lane from n' port' was ∙ ap (λ (l : List Item). drop from l) (sym (at_other p (m.history p ++ x ∷ []) m.history q crossed_not))

      passed_rows : (k n' port' : ℕ) (row : InletRow I) → HasRow tasks' k n' port' row → RowStands i net.table net.sents (passed p x rest n port out m) n' port' row
      passed_rows k n' port' row h =
          let was = row_stays tasks tasks' place before after c stay k n' port' row h in
          let stood = net.rows k n' port' row was in
          record {
            got = stood.got;
            took = put_or (λ a css. ListAt port' css (feeds stood.got)) n (push_calls port (Feed x ∷ []) (m.took n)) m.took n' (here was stood) (λ other. stood.took);
            between = stood.between;
            holds = stood.holds;
          }
        where
          here : HasRow tasks k n' port' row → (stood : RowStands i net.table net.sents m n' port' row) → n' ≡ n → ListAt port' (push_calls port (Feed x ∷ []) (m.took n)) (feeds stood.got)
          here was stood same =
              push_else port port' (Feed x ∷ []) (m.took n) (feeds stood.got)
              (λ at. passed_no_row k row (subst (λ (a : ℕ). HasRow tasks k a port row) same (subst (λ (a : ℕ). HasRow tasks k n' a row) at was)))
              (subst (λ (a : ℕ). ListAt port' (m.took a) (feeds stood.got)) same stood.took)

      pub passed_goes : NetGoes m tasks' tells'
      passed_goes =
          record {
            now = passed p x rest n port out m;
            goes_on = passed_on m p x rest n port out hands.waited;
            net = record {
              plain = net.plain;
              tied = each_task tasks tasks' place before after c (λ task. Ties task (passed p x rest n port out m)) tied
                  (others_tied m tasks tells net place (passed p x rest n port out m).history (passed p x rest n port out m).took m.held (passed p x rest n port out m).waits
                  (λ q none. at_other p (m.history p ++ x ∷ []) m.history q (other_pad m tasks tells net place p q passed_own none)) passed_waits
                  (λ a none. at_other n (push_calls port (Feed x ∷ []) (m.took n)) m.took a (λ same. none (subst (λ (b : ℕ). Owns tasks place b) (sym same) passed_to)))
                  (λ k task pad a b at of_it inner none. none));
              ready = ready_all;
              wired = wired_still tasks tasks' place before after c net.wired;
              cells = λ a. passing_keeps m p x rest n port out record { waited = hands.waited; leads = hands.leads; inner = hands.inner; puts_out = answers (net.first n).0 } a (net.cells a);
              first = λ a. (
                put_each (λ css. InSection 0 css) n (push_calls port (Feed x ∷ []) (m.took n)) m.took (push_section port x (m.took n) (waits_calm m tasks tells net p x rest hands.waited) (net.first n).0) a (net.first a).0,
                (net.first a).1,
              );
              table = net.table;
              told = table ∙ net.told;
              sents = net.sents;
              sent = passed_sent;
              rows = passed_rows;
              each = each_now m tasks tasks' tells net place before after c m.held (λ a. refl);
              others = λ a none. net.others a (unfed_now m tasks tasks' tells net place before after c a none);
              loose = loose_now m tasks tasks' tells net place before after c (passed p x rest n port out m).waits passed_waits;
            };
          }

    -- an item crosses to nobody
    module _ (p : ℕ) (x : Item) (rest : List Item) (leaves : Leaves m p x rest) (wire : Wire) (is : IsWire (frame_of before) wire) (number : wire.number ≡ p) (tied : Ties after (crossed p x rest m)) where
      left_own : Owns tasks place (m.plan.owner p)
      left_own = own_pad m tasks tells net place before c.at wire p is number

      left_waits : (q : ℕ) → (Owns tasks place (m.plan.owner q) → ⊥) → (crossed p x rest m).waits q ≡ m.waits q
      left_waits q none = at_other p rest m.waits q (other_pad m tasks tells net place p q left_own none)

      left_sent : (k q lane from n' port' : ℕ) → SendsInto tasks' k q lane from n' port' → net.sents lane ≡ drop from ((crossed p x rest m).history q)
      left_sent k q lane from n' port' h =
          let was = sends_back tasks tasks' place before after c k q lane from n' port' h in
          let crossed_not : q ≡ p → ⊥ = λ same.
          leads_nowhere m.plan p n' port' (subst (λ (r : ℕ). Leads m.plan r n' port') same (sends_leads m tasks tells net k q lane from n' port' was)) leaves.leads in
          net.sent k q lane from n' port' was ∙ ap (λ (l : List Item). drop from l) (sym (at_other p (m.history p ++ x ∷ []) m.history q crossed_not))

      pub left_goes : NetGoes m tasks' tells'
      left_goes =
          record {
            now = crossed p x rest m;
            goes_on = crossed_on m p x rest leaves.waited;
            net = record {
              plain = net.plain;
              tied = each_task tasks tasks' place before after c (λ task. Ties task (crossed p x rest m)) tied
                  (others_tied m tasks tells net place (crossed p x rest m).history m.took m.held (crossed p x rest m).waits
                  (λ q none. at_other p (m.history p ++ x ∷ []) m.history q (other_pad m tasks tells net place p q left_own none)) left_waits (λ a none. refl) (λ k task pad a b at of_it inner none. none));
              ready = ready_all;
              wired = wired_still tasks tasks' place before after c net.wired;
              cells = λ a. leaving_keeps m p x rest leaves a (net.cells a);
              first = net.first;
              table = net.table;
              told = table ∙ net.told;
              sents = net.sents;
              sent = left_sent;
              rows = λ k n port row h. let stood = net.rows k n port row (row_stays tasks tasks' place before after c stay k n port row h) in
                  record { got = stood.got; took = stood.took; between = stood.between; holds = stood.holds };
              each = each_now m tasks tasks' tells net place before after c m.held (λ a. refl);
              others = λ a none. net.others a (unfed_now m tasks tasks' tells net place before after c a none);
              loose = loose_now m tasks tasks' tells net place before after c (crossed p x rest m).waits left_waits;
            };
          }

    -- nothing crossed: a source gave an item, which was owed before
    pub gave_goes : Ties after m → NetGoes m tasks' tells'
    gave_goes tied =
        record {
          now = m;
          goes_on = stays_so m;
          net = record {
            plain = net.plain;
            tied = each_task tasks tasks' place before after c (λ task. Ties task m) tied (λ k task apart at. net.tied k task at);
            ready = ready_all;
            wired = wired_still tasks tasks' place before after c net.wired;
            cells = net.cells;
            first = net.first;
            table = net.table;
            told = table ∙ net.told;
            sents = net.sents;
            sent = λ k q lane from n port h. net.sent k q lane from n port (sends_back tasks tasks' place before after c k q lane from n port h);
            rows = λ k n port row h. net.rows k n port row (row_stays tasks tasks' place before after c stay k n port row h);
            each = each_now m tasks tasks' tells net place before after c m.held (λ a. refl);
            others = λ a none. net.others a (unfed_now m tasks tasks' tells net place before after c a none);
            loose = loose_now m tasks tasks' tells net place before after c m.waits (λ q none. refl);
          };
        }
