-- A step that sends an item into a lane keeps a net.
use Rattle.std.proofs.Common.{◌≡◌, ◌≢◌, ◌≤◌, ◌^◌, ◌⊎◌, ◌++◌, ℕ, List, [], ◌∷◌, length, Option, Some, refl, sym, ap, ◌∙◌, subst, inl, inr}
use Rattle.std.specs.Prelude.{slice_get}
use Rattle.std.proofs.lemmas.Bool.{cases_eq}
use Rattle.flow_model.specs.Item.{Item}
use Rattle.flow_model.specs.Call.{Call, Feed, feeds}
use Rattle.lane_core.specs.Lane.{Lane, table_with_item}
use Rattle.lane_core.specs.Moves.{table_after_put}
use Rattle.lane_core.specs.declared.ends.Inlet as inlets
use Rattle.lane_core.specs.declared.ends.Outlet as outlets
use Rattle.lane_core.specs.declared.ends.Put.TheVariants.{Stored}
use Rattle.lane_core.proofs.Between.{put_keeps_lanes, put_keeps_other_room}
use Rattle.flow_model.specs.Moment.{Moment, put_at}
use Rattle.flow_model.specs.Split.{AreEmpty, NoneAt}
use Rattle.flow_model.specs.SinkPads.{push_calls, InSection}
use Rattle.flow_model.specs.Step.{Sends, crossed, sent}
use Rattle.flow_model.proofs.Inputs.{at_other}
use Rattle.flow_model.proofs.Steps.{sending_keeps}
use Rattle.flow_model.specs.declared.element.TaskElement as elements
use Rattle.flow_model.specs.declared.source.TaskSource as sources
use Rattle.inlet_row.specs.declared.row.InletRow.{InletRow}
use Rattle.inlet_row.specs.Row.{AreApart, ForLanes, RowIn, feeds_of, row_holds}
use Rattle.task_pads.specs.declared.pad.Pad.{Pad}
use Rattle.task_pads.specs.Behind.{LaneEnd, inside}
use Rattle.task_pads.specs.Pads.{end_of, goes_of, number_of}
use Rattle.task_parts.specs.declared.head.InletHead.{InletHead}
use Rattle.net_task.specs.declared.task.Task.{Task}
use Rattle.net_task.specs.Frame.{frame_of}
use Rattle.net_task.specs.Moves.{PutInto, RowsStay}
use Rattle.net_task.specs.Ready.{EndsWith, IsReady}
use Rattle.net_task.specs.Ties.{Ties}
use Rattle.net_turns.specs.Net.{HasRow, IsFed, ListAt, NetGoes, NetStands, Owns, RowStands, SendsInto}
use Rattle.net_turns.proofs.Calls.{push_else, push_here, push_none, push_section}
use Rattle.net_turns.proofs.Owners.{IsPadOf}
use Rattle.net_turns.proofs.Others.{tied_still}
use Rattle.net_turns.proofs.Rows.{between_apart, between_last, ends_apart, holds_apart, holds_last}
use Rattle.net_turns.proofs.Growing.{sent_on}
use Rattle.net_turns.proofs.Facts.{inside_no_row, other_pad, own_pad, row_apart, row_in, row_once, rows_apart}
use Rattle.net_turns.proofs.Keeping.{each_now, each_task, lane_out, loose_now, others_tied, put_each, put_or, ready_still, unfed_now, waits_calm}
use Rattle.net_turns.proofs.Sending.{pad_before, put_few, put_once, put_row, put_sent}
use Rattle.net_turns.proofs.Wired.{IsOther, row_stays, sends_back, wired_still}
use Rattle.flow_model.proofs.Calls.{feeds_push}
use Rattle.flow_model.proofs.Items.{push_length}

module _ {S E I O L : Type 0} {s : sources.Ghosts S} {e : elements.Ghosts E} {i : inlets.Ghosts I L O} {o : outlets.Ghosts O L} where
  module _ (counts : (outlet : O) (was : List Item) → o.sent outlet was → length was ≡ o.count outlet) (bounded : (outlet : O) → o.count outlet ≤ 2 ^ 62) (m : Moment) (tasks tasks' : List (Task S E I O L s e i o))
      (tells tells' : Option (List Lane)) (net : NetStands m tasks tells) (place : ℕ) (before after : Task S E I O L s e i o) (c : IsOther tasks tasks' place before after) (ready : IsReady tells' after)
      (stay : RowsStay before.head after.head) (p : ℕ) (x : Item) (rest : List Item) (n port : ℕ) (sends : Sends m p x rest n port) (put : PutInto (frame_of before) p x tells tells')
      (tied : Ties after (crossed p x rest m)) where
    abbrev table_then : List Lane
    table_then = table_with_item x put.room.place net.table

    abbrev row_then : (r : ℕ) × (row : InletRow I) × HasRow tasks r n port row × EndsWith i row put.room.place
    row_then = put_row m tasks tasks' tells tells' net place before after c p x rest n port sends put

    told_then : tells' ≡ Some (table_with_item x put.room.place net.table)
    told_then = put.table ∙ ap (λ (t : Option (List Lane)). table_after_put put.room.place x Stored t) net.told

    own : Owns tasks place (m.plan.owner p)
    own = own_pad m tasks tells net place before c.at put.wire p put.is put.number

    waits_then : (q : ℕ) → (Owns tasks place (m.plan.owner q) → ⊥) → (sent p x rest n port m).waits q ≡ m.waits q
    waits_then q none = at_other p rest m.waits q (other_pad m tasks tells net place p q own none)

    ready_then : (k : ℕ) (task : Task S E I O L s e i o) → slice_get tasks' k ≡ Some task → IsReady tells' task
    ready_then =
        each_task tasks tasks' place before after c (λ task. IsReady tells' task) ready
        (λ k task apart at. ready_still task tells tells' (λ a. put_keeps_lanes put.room.place a x Stored tells tells' put.table)
        (λ pad end is e. put_keeps_other_room put.room.place end.place x Stored end.limits end.count tells tells' (elsewhere k task pad apart at is end e) put.table) (net.ready k task at))
      where
        elsewhere : (k : ℕ) (task : Task S E I O L s e i o) (pad : Pad O) → k ≢ place → slice_get tasks k ≡ Some task → IsPadOf task.head task.parts.items pad
            → (end : LaneEnd) → end_of o pad ≡ Some end
            → end.place ≢ put.room.place
        elsewhere k task pad apart at is end e same =
            let out = lane_out task pad is end e in
            let into : SendsInto tasks k (number_of pad) put.room.place out.from out.n out.port =
            subst (λ (q : ℕ). SendsInto tasks k (number_of pad) q out.from out.n out.port) same record { task = task; at = at; out = out.out } in
            apart (put_once m tasks tasks' tells tells' net place before after c p x rest n port sends put k (number_of pad) out.from out.n out.port into).0

    -- nothing stands at a sink pad to which a pad leads inside its task
    inner_then : (k a b : ℕ) (task : Task S E I O L s e i o) (pad : Pad O) → slice_get tasks k ≡ Some task → IsPadOf task.head task.parts.items pad
        → goes_of pad ≡ inside a b → NoneAt b (m.held a)
        → NoneAt b ((sent p x rest n port m).held a)
    inner_then k a b task pad at is leads none =
        put_or (λ d css. a ≡ d → NoneAt b css) n (push_calls port (Feed x ∷ []) (m.held n)) m.held a (λ same d. here same) (λ other d. none) refl
      where
        here : a ≡ n → NoneAt b (push_calls port (Feed x ∷ []) (m.held n))
        here same =
            push_none port b (Feed x ∷ []) (m.held n)
            (λ at_port. inside_no_row m tasks tells net k row_then.0 n port task pad row_then.1 at is (leads ∙ (ap (λ d. inside d b) same ∙ ap (λ d. inside n d) at_port)) row_then.2)
            (subst (λ (d : ℕ). NoneAt b (m.held d)) same none)

    length_then : (a : ℕ) → length ((sent p x rest n port m).held a) ≡ length (m.held a)
    length_then a =
        put_or (λ d css. length css ≡ length (m.held d)) n (push_calls port (Feed x ∷ []) (m.held n)) m.held a
        (λ same. push_length port (Feed x ∷ []) (m.held n) ∙ ap (λ (d : ℕ). length (m.held d)) (sym same)) (λ other. refl)

    empty_then : (a : ℕ) → ((k : ℕ) (head : InletHead I) → IsFed tasks k head → head.number ≢ a) → AreEmpty ((sent p x rest n port m).held a)
    empty_then a none =
        put_or (λ d css. AreEmpty css) n (push_calls port (Feed x ∷ []) (m.held n)) m.held a
        (λ same. absurd (none row_then.0 row_then.2.head row_then.2.fed (row_then.2.number ∙ sym same))) (λ other. net.others a none)

    -- the row at whose end the lane stands
    row_here : (k : ℕ) (row : InletRow I) → HasRow tasks k n port row → RowStands i net.table net.sents m n port row
        → RowStands i table_then (put_at put.room.place (net.sents put.room.place ++ x ∷ []) net.sents) (sent p x rest n port m) n port row
    row_here k row was stood = record {
      got = stood.got;
      took = stood.took;
      between = between_last i net.table x put.room.place net.sents row stood.got ends apart (put_few m tasks tasks' tells tells' net place before after c p x rest n port sends put counts bounded tied) stood.between;
      holds = put_or (λ d css. ListAt port css (feeds (row_holds i table_then row))) n (push_calls port (Feed x ∷ []) (m.held n)) m.held n
          (λ same. subst (λ (calls : List Call). ListAt port (push_calls port (Feed x ∷ []) (m.held n)) calls) (sym (ap feeds more ∙ feeds_push (row_holds i net.table row) x))
          (push_here port (Feed x ∷ []) (m.held n) (feeds (row_holds i net.table row)) stood.holds)) (λ other. absurd (other refl));
    }
      where
        ends : EndsWith i row put.room.place
        ends = subst (λ (one : InletRow I). EndsWith i one put.room.place) (row_once tasks net.wired row_then.0 k n port row_then.1 row row_then.2 was) row_then.3

        apart : AreApart i row
        apart = row_apart m tasks tells net k n port row was

        more : row_holds i table_then row ≡ row_holds i net.table row ++ x ∷ []
        more =
            holds_last i net.table x put.room.place net.sents row ends apart
            (subst (λ (t : Option (List Lane)). RowIn i t row) net.told (row_in m tasks tells net k n port row was))

    -- another row
    row_there : (k a b : ℕ) (row : InletRow I) → HasRow tasks k a b row → (a ≡ n → b ≡ port → ⊥) → RowStands i net.table net.sents m a b row
        → RowStands i table_then (put_at put.room.place (net.sents put.room.place ++ x ∷ []) net.sents) (sent p x rest n port m) a b row
    row_there k a b row was other stood = record {
      got = stood.got;
      took = stood.took;
      between = between_apart i net.table x put.room.place net.sents row stood.got apart stood.between;
      holds = put_or (λ d css. ListAt b css (feeds (row_holds i table_then row))) n (push_calls port (Feed x ∷ []) (m.held n)) m.held a
          (λ same. push_else port b (Feed x ∷ []) (m.held n) (feeds (row_holds i table_then row)) (other same) (subst (λ (d : ℕ). ListAt b (m.held d) (feeds (row_holds i table_then row))) same still)) (λ apart. still);
    }
      where
        apart : ForLanes (λ inlet. i.place inlet ≢ put.room.place) (feeds_of row)
        apart = ends_apart i row_then.1 row put.room.place row_then.3 (rows_apart m tasks tells net k row_then.0 a n b port row row_then.1 was row_then.2 other)

        still : ListAt b (m.held a) (feeds (row_holds i table_then row))
        still = subst (λ (l : List Item). ListAt b (m.held a) (feeds l)) (sym (holds_apart i net.table x put.room.place net.sents row apart)) stood.holds

    row_one : (k a b : ℕ) (row : InletRow I) → HasRow tasks k a b row → RowStands i net.table net.sents m a b row → (a ≡ n) ⊎ (a ≡ n → ⊥) → (b ≡ port) ⊎ (b ≡ port → ⊥)
        → RowStands i table_then (put_at put.room.place (net.sents put.room.place ++ x ∷ []) net.sents) (sent p x rest n port m) a b row
    row_one k a b row was stood (inl same) (inl at) =
        let Then = λ (d f : ℕ). RowStands i table_then (put_at put.room.place (net.sents put.room.place ++ x ∷ []) net.sents) (sent p x rest n port m) d f row in
        subst (λ (d : ℕ). Then d b) (sym same)
        (subst (λ (f : ℕ). Then n f) (sym at)
        (row_here k row (subst (λ (f : ℕ). HasRow tasks k n f row) at (subst (λ (d : ℕ). HasRow tasks k d b row) same was))
        (subst (λ (f : ℕ). RowStands i net.table net.sents m n f row) at (subst (λ (d : ℕ). RowStands i net.table net.sents m d b row) same stood))))
    row_one k a b row was stood (inl same) (inr other) = row_there k a b row was (λ e. other) stood
    row_one k a b row was stood (inr other) at = row_there k a b row was (λ e f. other e) stood

    -- the task itself is tied to the moment with what stands in the inlet
    tied_then : Ties after (sent p x rest n port m)
    tied_then =
        tied_still i o (crossed p x rest m) (crossed p x rest m).history m.took (sent p x rest n port m).held (crossed p x rest m).waits after.head after.parts.items (λ q has. refl) (λ q has. refl) (λ a has. refl)
        (λ pad a b is leads none.
        let was = pad_before m tasks tasks' tells tells' net place before after c p x rest n port sends put pad is in
        inner_then place a b before was.0 c.at was.1 (was.2 ∙ leads) none) after.closed tied

    pub sent_goes : NetGoes m tasks' tells'
    sent_goes =
        record {
          now = sent p x rest n port m;
          goes_on = sent_on m p x rest n port sends.waited;
          net = record {
            plain = net.plain;
            tied = each_task tasks tasks' place before after c (λ task. Ties task (sent p x rest n port m)) tied_then
                (others_tied m tasks tells net place (crossed p x rest m).history m.took (sent p x rest n port m).held (crossed p x rest m).waits
                (λ q none. at_other p (m.history p ++ x ∷ []) m.history q (other_pad m tasks tells net place p q own none)) waits_then (λ a none. refl)
                (λ k task pad a b at is leads none. inner_then k a b task pad at is leads none));
            ready = ready_then;
            wired = wired_still tasks tasks' place before after c net.wired;
            cells = λ a. sending_keeps m p x rest n port sends a (net.cells a);
            first = λ a. (
              (net.first a).0,
              put_each (λ css. InSection 0 css) n (push_calls port (Feed x ∷ []) (m.held n)) m.held (push_section port x (m.held n) (waits_calm m tasks tells net p x rest sends.waited) (net.first n).1) a (net.first a).1,
            );
            table = table_then;
            told = told_then;
            sents = put_at put.room.place (net.sents put.room.place ++ x ∷ []) net.sents;
            sent = λ k q lane from a b h.
                put_sent m tasks tasks' tells tells' net place before after c p x rest n port sends put k q lane from a b (sends_back tasks tasks' place before after c k q lane from a b h);
            rows = λ k a b row h. let was = row_stays tasks tasks' place before after c stay k a b row h in row_one k a b row was (net.rows k a b row was) (cases_eq a n) (cases_eq b port);
            each = each_now m tasks tasks' tells net place before after c (sent p x rest n port m).held length_then;
            others = λ a none. empty_then a (unfed_now m tasks tasks' tells net place before after c a none);
            loose = loose_now m tasks tasks' tells net place before after c (sent p x rest n port m).waits waits_then;
          };
        }
