-- A step in which a head takes an item from its inlets keeps a net.
use Rattle.std.proofs.Common.{◌≡◌, ◌≢◌, ◌⊎◌, ◌++◌, ℕ, true, false, eqb, List, [], ◌∷◌, length, Option, Some, refl, sym, ap, ◌∙◌, subst, inl, inr}
use Rattle.std.specs.Prelude.{slice_get, slice_set}
use Rattle.std.proofs.lemmas.Bool.{cases_eq}
use Rattle.std.proofs.lemmas.Bool.Decides.{eqb_tells}
use Rattle.flow_model.specs.Item as model
use Rattle.flow_model.specs.Call.{Call, Feed, feeds}
use Rattle.lane_core.specs.Lane.{Lane}
use Rattle.lane_core.specs.declared.ends.Inlet as inlets
use Rattle.lane_core.specs.declared.ends.Outlet as outlets
use Rattle.flow_model.specs.Moment.{Moment}
use Rattle.flow_model.specs.Split.{AreEmpty, NoneAt}
use Rattle.flow_model.specs.SinkPads.{push_calls, InSection}
use Rattle.flow_model.specs.Step.{Takes, fed, taken}
use Rattle.flow_model.proofs.Inputs.{at_other}
use Rattle.flow_model.proofs.Steps.{taking_keeps}
use Rattle.flow_model.specs.declared.element.TaskElement as elements
use Rattle.flow_model.specs.declared.source.TaskSource as sources
use Rattle.inlet_row.specs.Taken.{Item}
use Rattle.inlet_row.specs.declared.row.InletRow.{InletRow}
use Rattle.inlet_row.specs.Row.{ForLanes, RowBetween, feeds_of, row_holds}
use Rattle.inlet_row.specs.Take.{HoldsAfter, KeepsLanes}
use Rattle.inlet_row.proofs.Losing.{for_map}
use Rattle.task_pads.proofs.Lists.{set_there}
use Rattle.task_parts.specs.declared.head.InletHead.{InletHead}
use Rattle.task_parts.specs.declared.head.Head.{Head}
use Rattle.task_parts.specs.declared.head.Head.TheVariants.{Source, Inlets}
use Rattle.task_parts.specs.Passing.{AsksRow, RowAsked}
use Rattle.net_task.specs.declared.task.Task.{Task}
use Rattle.net_task.specs.Moves.{Answers, TookFrom}
use Rattle.net_task.specs.Ready.{IsReady}
use Rattle.net_task.specs.Ties.{Ties}
use Rattle.net_turns.specs.Net.{HasRow, IsFed, ListAt, NetGoes, NetStands, Owns, RowStands}
use Rattle.net_turns.proofs.Calls.{first_calm, gone_else, gone_front, gone_here, gone_length, gone_none, gone_section, push_else, push_here, push_section, without_first}
use Rattle.net_turns.proofs.Others.{tied_still}
use Rattle.net_turns.proofs.Lanes.{other_between, other_holds}
use Rattle.net_turns.proofs.Growing.{taken_on}
use Rattle.net_turns.proofs.Facts.{row_apart, row_once, row_owned, rows_apart}
use Rattle.net_turns.proofs.Keeping.{each_now, each_task, loose_now, others_tied, put_each, put_or, ready_still, unfed_now}
use Rattle.net_turns.proofs.Wired.{HeadsGo, IsOther, asked_goes, sends_back, wired_still}
use Rattle.gst_value.proofs.Basics.{some_same}
use Rattle.flow_model.proofs.Calls.{feeds_push}
use Rattle.gst_value.proofs.Places.{set_at}

-- An item was the next of a row of a head that is fed from inlets.
pub record TookRow {S I O L : Type 0} {s : sources.Ghosts S} (i : inlets.Ghosts I L O) (old new : Head S I O s) (n port : ℕ) (x : model.Item) (tells tells' : Option (List Lane)) : Type 0 where
  pub head : InletHead I
  pub head' : InletHead I
  pub was : old ≡ Inlets head
  pub is : new ≡ Inlets head'
  pub number : head.number ≡ n
  pub asks : AsksRow i head head' port tells tells' (Item x)

module _ {I O L : Type 0} (i : inlets.Ghosts I L O) where
  asked : (head head' : InletHead I) (port : ℕ) (tells tells' : Option (List Lane)) (x : model.Item) → RowAsked i head head' port tells tells' (Item x)
      → AsksRow i head head' port tells tells' (Item x)
  asked head head' port tells tells' x (inl a) = a
  asked head head' port tells tells' x (inr none) = absurd (let e = none.empty in cc)

module _ {S I O L : Type 0} {s : sources.Ghosts S} (i : inlets.Ghosts I L O) where
  pub took_row : (old new : Head S I O s) (n port : ℕ) (x : model.Item) (tells tells' : Option (List Lane)) → TookFrom i old new n port x tells tells'
      → TookRow i old new n port x tells tells'
  took_row (Source old) new n port x tells tells' h = absurd h
  took_row (Inlets old) (Source new) n port x tells tells' h = absurd h
  took_row (Inlets old) (Inlets new) n port x tells tells' h = record { head = old; head' = new; was = refl; is = refl; number = h.0; asks = asked i old new port tells tells' x h.1 }

  pub took_goes : (old new : Head S I O s) (n port : ℕ) (x : model.Item) (tells tells' : Option (List Lane)) → TookRow i old new n port x tells tells' → HeadsGo i old new
  took_goes old new n port x tells tells' t =
      subst (λ (h : Head S I O s). HeadsGo i h new) (sym t.was) (subst (λ (h : Head S I O s). HeadsGo i (Inlets t.head) h) (sym t.is) (asked_goes i t.head t.head' port tells tells' x t.asks))

  abbrev fed_in : InletHead I → Head S I O s → InletHead I
  fed_in fed (Source head) = fed
  fed_in fed (Inlets head) = head

module _ {S E I O L : Type 0} {s : sources.Ghosts S} {e : elements.Ghosts E} {i : inlets.Ghosts I L O} {o : outlets.Ghosts O L} where
  -- the row that was asked, as it stood
  module _ (m : Moment) (tasks : List (Task S E I O L s e i o)) (tells tells' : Option (List Lane)) (net : NetStands m tasks tells) (place : ℕ) (before : Task S E I O L s e i o) (at : slice_get tasks place ≡ Some before)
      (old new : Head S I O s) (head_is : before.head ≡ old) (n port : ℕ) (x : model.Item) (t : TookRow i old new n port x tells tells') where
    pub row_was : HasRow tasks place n port t.asks.was
    row_was = record { head = t.head; fed = record { task = before; at = at; head_is = head_is ∙ t.was }; number = t.number; at = t.asks.set.at }

    pub row_stood : RowStands i net.table net.sents m n port t.asks.was
    row_stood = net.rows place n port t.asks.was row_was

    pub row_held : HoldsAfter i net.table tells' t.asks.was t.asks.is (Item x)
    row_held = t.asks.holds net.table net.sents row_stood.got net.told (row_apart m tasks tells net place n port t.asks.was row_was) row_stood.between

    pub row_front : ListAt port (m.held n) (Feed x ∷ feeds (row_holds i row_held.0 t.asks.is))
    row_front = subst (λ (l : List model.Item). ListAt port (m.held n) (feeds l)) row_held.2 row_stood.holds

    -- no FLUSH_STOP stands there
    pub row_calm : model.is_flush_stop x ≡ false
    row_calm = first_calm port (m.held n) x (feeds (row_holds i row_held.0 t.asks.is)) (net.first n).1 row_front

  module _ (m : Moment) (tasks tasks' : List (Task S E I O L s e i o)) (tells tells' : Option (List Lane)) (net : NetStands m tasks tells) (place : ℕ) (before after : Task S E I O L s e i o)
      (c : IsOther tasks tasks' place before after) (ready : IsReady tells' after) (n port : ℕ) (x : model.Item) (out : ℕ → List model.Item) (answers : Answers m n port x out)
      (t : TookRow i before.head after.head n port x tells tells') (tied : Ties after (fed n (push_calls port (Feed x ∷ []) (m.took n)) out m)) where
    was_row : HasRow tasks place n port t.asks.was
    was_row = row_was m tasks tells tells' net place before c.at before.head after.head refl n port x t

    stood_row : RowStands i net.table net.sents m n port t.asks.was
    stood_row = row_stood m tasks tells tells' net place before c.at before.head after.head refl n port x t

    held_row : HoldsAfter i net.table tells' t.asks.was t.asks.is (Item x)
    held_row = row_held m tasks tells tells' net place before c.at before.head after.head refl n port x t

    front_row : ListAt port (m.held n) (Feed x ∷ feeds (row_holds i held_row.0 t.asks.is))
    unfolding held_row
    front_row = row_front m tasks tells tells' net place before c.at before.head after.head refl n port x t

    abbrev left : List (List Call)
    left = without_first port (m.held n)

    abbrev then_is : Moment
    then_is = taken n port (Feed x) (without_first port (m.held n)) out m

    own : Owns tasks place n
    own = row_owned tasks place n port t.asks.was was_row

    waits_then : (q : ℕ) → (Owns tasks place (m.plan.owner q) → ⊥) → then_is.waits q ≡ m.waits q
    waits_then q none = go (eqb_tells (m.plan.owner q) n)
      where
        go : ((eqb (m.plan.owner q) n ≡ true) × (m.plan.owner q ≡ n)) ⊎ ((eqb (m.plan.owner q) n ≡ false) × (m.plan.owner q ≡ n → ⊥)) → then_is.waits q ≡ m.waits q
        go (inl u) = absurd (none (subst (λ (a : ℕ). Owns tasks place a) (sym u.1) own))
        go (inr u) = rw u.0 refl

    stays : KeepsLanes i (Some net.table) (Some held_row.0) t.asks.was t.asks.is (Item x)
    stays =
        subst (λ (u : Option (List Lane)). KeepsLanes i (Some net.table) u t.asks.was t.asks.is (Item x)) held_row.1
        (subst (λ (u : Option (List Lane)). KeepsLanes i u tells' t.asks.was t.asks.is (Item x)) net.told t.asks.stays)

    inner_then : (a b : ℕ) → NoneAt b (m.held a) → NoneAt b (then_is.held a)
    inner_then a b none = put_or (λ d css. NoneAt b css) n left m.held a (λ same. gone_none port b (m.held n) (subst (λ (d : ℕ). NoneAt b (m.held d)) same none)) (λ other. none)

    length_then : (a : ℕ) → length (then_is.held a) ≡ length (m.held a)
    length_then a =
        put_or (λ d css. length css ≡ length (m.held d)) n left m.held a (λ same. gone_length port (m.held n) ∙ ap (λ (d : ℕ). length (m.held d)) (sym same)) (λ other. refl)

    empty_then : (a : ℕ) → ((k : ℕ) (head : InletHead I) → IsFed tasks k head → head.number ≢ a) → AreEmpty (then_is.held a)
    empty_then a none = put_or (λ d css. AreEmpty css) n left m.held a (λ same. absurd (none place was_row.head was_row.fed (was_row.number ∙ sym same))) (λ other. net.others a none)

    -- the row that was asked, as it is now
    is_row : HasRow tasks' place n port t.asks.is
    is_row =
        record {
          head = t.head';
          fed = record { task = after; at = c.at_after; head_is = t.is };
          number = t.asks.set.number ∙ t.number;
          at = ap (λ (l : List (InletRow I)). slice_get l port) t.asks.set.set ∙ set_at t.head.rows.items port t.asks.was t.asks.is t.asks.set.at;
        }

    -- each other row is as it was
    other_row : (k a b : ℕ) (row : InletRow I) → HasRow tasks' k a b row → (a ≡ n → b ≡ port → ⊥) → HasRow tasks k a b row
    other_row k a b row h other = go (cases_eq k place)
      where
        here : k ≡ place → h.head ≡ t.head' → HasRow tasks k a b row
        here same head =
            let number : t.head.number ≡ a = sym t.asks.set.number ∙ (ap (λ (f : InletHead I). f.number) (sym head) ∙ h.number) in
            let at : slice_get (slice_set t.head.rows.items port t.asks.is) b ≡ Some row =
            ap (λ (l : List (InletRow I)). slice_get l b) (sym t.asks.set.set) ∙ (ap (λ (f : InletHead I). slice_get f.rows.items b) (sym head) ∙ h.at) in
            record {
              head = t.head;
              fed = record { task = before; at = ap (λ j. slice_get tasks j) same ∙ c.at; head_is = t.was };
              number = number;
              at = sym (set_there t.head.rows.items port b t.asks.is (other (sym number ∙ t.number))) ∙ at;
            }

        go : (k ≡ place) ⊎ (k ≡ place → ⊥) → HasRow tasks k a b row
        go (inl same) =
            let one : after ≡ h.fed.task = some_same (sym c.at_after ∙ (ap (λ j. slice_get tasks' j) (sym same) ∙ h.fed.at)) in
            here same (ap (fed_in i h.head) (sym h.fed.head_is ∙ (ap (λ (task : Task S E I O L s e i o). task.head) (sym one) ∙ t.is)))
        go (inr apart) = record { head = h.head; fed = record { task = h.fed.task; at = sym (c.others k apart) ∙ h.fed.at; head_is = h.fed.head_is }; number = h.number; at = h.at }

    row_here : RowStands i held_row.0 net.sents then_is n port t.asks.is
    row_here =
        record {
          got = stood_row.got ++ x ∷ [];
          took = put_or (λ d css. ListAt port css (feeds (stood_row.got ++ x ∷ []))) n (push_calls port (Feed x ∷ []) (m.took n)) m.took n
              (λ same. subst (λ (calls : List Call). ListAt port (push_calls port (Feed x ∷ []) (m.took n)) calls) (sym (feeds_push stood_row.got x)) (push_here port (Feed x ∷ []) (m.took n) (feeds stood_row.got) stood_row.took))
              (λ other. absurd (other refl));
          between = subst (λ (u : Option (List Lane)). RowBetween i u net.sents t.asks.is (stood_row.got ++ x ∷ [])) held_row.1
              (t.asks.between net.sents stood_row.got (row_apart m tasks tells net place n port t.asks.was was_row)
              (subst (λ (u : Option (List Lane)). RowBetween i u net.sents t.asks.was stood_row.got) (sym net.told) stood_row.between));
          holds = put_or (λ d css. ListAt port css (feeds (row_holds i held_row.0 t.asks.is))) n left m.held n
              (λ same. gone_here port (m.held n) (Feed x) (feeds (row_holds i held_row.0 t.asks.is)) front_row) (λ other. absurd (other refl));
        }

    row_there : (k a b : ℕ) (row : InletRow I) → HasRow tasks k a b row → (a ≡ n → b ≡ port → ⊥) → RowStands i net.table net.sents m a b row
        → RowStands i held_row.0 net.sents then_is a b row
    row_there k a b row was other stood = record {
      got = stood.got;
      took = put_or (λ d css. ListAt b css (feeds stood.got)) n (push_calls port (Feed x ∷ []) (m.took n)) m.took a
          (λ same. push_else port b (Feed x ∷ []) (m.took n) (feeds stood.got) (other same) (subst (λ (d : ℕ). ListAt b (m.took d) (feeds stood.got)) same stood.took)) (λ apart. stood.took);
      between = other_between i net.table held_row.0 t.asks.was t.asks.is x stays net.sents row stood.got apart stood.between;
      holds = put_or (λ d css. ListAt b css (feeds (row_holds i held_row.0 row))) n left m.held a
          (λ same. gone_else port b (m.held n) (feeds (row_holds i held_row.0 row)) (other same) (subst (λ (d : ℕ). ListAt b (m.held d) (feeds (row_holds i held_row.0 row))) same still)) (λ apart. still);
    }
      where
        apart : ForLanes (λ one. ForLanes (λ inlet. i.place one ≢ i.place inlet) (feeds_of t.asks.was)) (feeds_of row)
        apart =
            for_map (λ one. ForLanes (λ inlet. i.place inlet ≢ i.place one) (feeds_of t.asks.was)) (λ one. ForLanes (λ inlet. i.place one ≢ i.place inlet) (feeds_of t.asks.was)) (feeds_of row)
            (λ one h. for_map (λ inlet. i.place inlet ≢ i.place one) (λ inlet. i.place one ≢ i.place inlet) (feeds_of t.asks.was) (λ inlet differ same. differ (sym same)) h)
            (rows_apart m tasks tells net k place a n b port row t.asks.was was was_row other)

        still : ListAt b (m.held a) (feeds (row_holds i held_row.0 row))
        still = subst (λ (l : List model.Item). ListAt b (m.held a) (feeds l)) (sym (other_holds i net.table held_row.0 t.asks.was t.asks.is x stays row apart)) stood.holds

    row_one : (k a b : ℕ) (row : InletRow I) → HasRow tasks' k a b row → (a ≡ n) ⊎ (a ≡ n → ⊥) → (b ≡ port) ⊎ (b ≡ port → ⊥) → RowStands i held_row.0 net.sents then_is a b row
    row_one k a b row h (inl same) (inl at) =
        let here : HasRow tasks' k n port row = subst (λ (f : ℕ). HasRow tasks' k n f row) at (subst (λ (d : ℕ). HasRow tasks' k d b row) same h) in
        let one : t.asks.is ≡ row = row_once tasks' (wired_still tasks tasks' place before after c net.wired) place k n port t.asks.is row is_row here in
        subst (λ (d : ℕ). RowStands i held_row.0 net.sents then_is d b row) (sym same)
        (subst (λ (f : ℕ). RowStands i held_row.0 net.sents then_is n f row) (sym at)
        (subst (λ (r : InletRow I). RowStands i held_row.0 net.sents then_is n port r) one row_here))
    row_one k a b row h (inl same) (inr apart) = let was = other_row k a b row h (λ e. apart) in row_there k a b row was (λ e. apart) (net.rows k a b row was)
    row_one k a b row h (inr apart) at = let was = other_row k a b row h (λ e f. apart e) in row_there k a b row was (λ e f. apart e) (net.rows k a b row was)

    takes_it : Takes m n port (Feed x) (without_first port (m.held n)) out
    takes_it = record { held = gone_front port (m.held n) (Feed x) (feeds (row_holds i held_row.0 t.asks.is)) front_row; puts_out = answers (net.first n).0 }

    pub taken_goes : NetGoes m tasks' tells'
    taken_goes =
        record {
          now = taken n port (Feed x) (without_first port (m.held n)) out m;
          goes_on = taken_on m n port (Feed x) (without_first port (m.held n)) out;
          net = record {
            plain = net.plain;
            tied = each_task tasks tasks' place before after c (λ task. Ties task then_is)
                (tied_still i o (fed n (push_calls port (Feed x ∷ []) (m.took n)) out m) m.history then_is.took then_is.held then_is.waits after.head after.parts.items (λ q has. refl) (λ q has. refl) (λ a has. refl)
                (λ pad a b is leads none. inner_then a b none) after.closed tied)
                (others_tied m tasks tells net place m.history then_is.took then_is.held then_is.waits (λ q none. refl) waits_then
                (λ a none. at_other n (push_calls port (Feed x ∷ []) (m.took n)) m.took a (λ same. none (subst (λ (b : ℕ). Owns tasks place b) (sym same) own)))
                (λ k task pad a b at is leads none. inner_then a b none));
            ready = each_task tasks tasks' place before after c (λ task. IsReady tells' task) ready
                (λ k task apart at. ready_still task tells tells' t.asks.stays.lanes (λ pad end is e was. t.asks.stays.rooms end.place end.limits end.count was) (net.ready k task at));
            wired = wired_still tasks tasks' place before after c net.wired;
            cells = λ a. taking_keeps m n port (Feed x) (without_first port (m.held n)) out takes_it a (net.cells a);
            first = λ a. (
              put_each (λ css. InSection 0 css) n (push_calls port (Feed x ∷ []) (m.took n)) m.took
                  (push_section port x (m.took n) (first_calm port (m.held n) x (feeds (row_holds i held_row.0 t.asks.is)) (net.first n).1 front_row) (net.first n).0) a (net.first a).0,
              put_each (λ css. InSection 0 css) n left m.held (gone_section port (m.held n) (net.first n).1) a (net.first a).1,
            );
            table = held_row.0;
            told = held_row.1;
            sents = net.sents;
            sent = λ k q lane from a b h. net.sent k q lane from a b (sends_back tasks tasks' place before after c k q lane from a b h);
            rows = λ k a b row h. row_one k a b row h (cases_eq a n) (cases_eq b port);
            each = each_now m tasks tasks' tells net place before after c then_is.held length_then;
            others = λ a none. empty_then a (unfed_now m tasks tasks' tells net place before after c a none);
            loose = loose_now m tasks tasks' tells net place before after c then_is.waits waits_then;
          };
        }
